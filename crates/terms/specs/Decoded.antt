-- What decoded values mean, in the words of theory's records.
use Rattle.std.specs.Prelude.{◌≡◌, List, [], ◌∷◌, ℕ, ◌+◌, ◌*◌, ◌≤◌, length, drop, Result, Ok, Err}
use Rattle.theory.specs.Limit.{max_arguments}
use Rattle.theory.specs.Kind.{Op}
use Rattle.theory.specs.Rule.{nth}
use Rattle.theory.specs.Record.{Bytes, words}
use Rattle.theory.specs.Kind as K
use Rattle.theory.specs.Record as R
use Rattle.terms.specs.declared.Args.{Args}
use Rattle.terms.specs.declared.Term.{Term}
use Rattle.terms.specs.declared.Head.{Head}
use Rattle.terms.specs.declared.Operands.{Operands}
use Rattle.terms.specs.declared.Operands.TheVariants.{None, One, Two, Three, List as Listed}
use Rattle.terms.specs.declared.Item.{Item}
use Rattle.terms.specs.declared.Fault.{Fault}
use Rattle.terms.specs.declared.Term.TheVariants as D
use Rattle.terms.specs.declared.Head.TheVariants as H
use Rattle.terms.specs.declared.Item.TheVariants as I
use Rattle.terms.specs.declared.Fault.TheVariants as F
use Rattle.terms.specs.Bodies.{Length}
use Rattle.terms.specs.Numbered.{number_of}

-- ---- argument lists
-- the numbers of a list
abbrev pub words_in : Bytes → Args → List ℕ
words_in job a = words a.bytes a.count (drop a.at job)

-- a list lies in the job, is not too long, and its numbers have a length that is allowed
pub record Inside (job : Bytes) (a : Args) : Type 0 where
  pub end : a.at + a.bytes * a.count ≤ length job
  pub few : a.count ≤ max_arguments
  pub sized : Length a.bytes

-- ---- a decoded term
-- its kind
abbrev pub op_of : Term → Op
op_of D.True = K.True
op_of D.False = K.False
op_of (D.BoolVar x) = K.BoolVar x
op_of (D.BvVar n x) = K.BvVar n x
op_of (D.Const n x) = K.Const n x
op_of (D.Not x) = K.Not
op_of (D.And a) = K.And
op_of (D.Or a) = K.Or
op_of (D.Xor x y) = K.Xor
op_of (D.Equals x y) = K.Equals
op_of (D.Ite c x y) = K.Ite
op_of (D.BvBitOf i x) = K.BvBitOf i
op_of (D.BvBbTerm a) = K.BvBbTerm
op_of (D.BvNot x) = K.BvNot
op_of (D.BvNeg x) = K.BvNeg
op_of (D.BvAnd a) = K.BvAnd
op_of (D.BvOr a) = K.BvOr
op_of (D.BvXor a) = K.BvXor
op_of (D.BvAdd a) = K.BvAdd
op_of (D.BvMul a) = K.BvMul
op_of (D.BvXNor x y) = K.BvXNor
op_of (D.BvComp x y) = K.BvComp
op_of (D.BvULt x y) = K.BvULt
op_of (D.BvSLt x y) = K.BvSLt
op_of (D.BvShl x y) = K.BvShl
op_of (D.BvLShr x y) = K.BvLShr
op_of (D.BvAShr x y) = K.BvAShr
op_of (D.BvUDiv x y) = K.BvUDiv
op_of (D.BvURem x y) = K.BvURem
op_of (D.BvConcat a) = K.BvConcat
op_of (D.BvExtract i j x) = K.BvExtract i j
op_of (D.SignExtend k x) = K.SignExtend k
op_of (D.ZeroExtend k x) = K.ZeroExtend k
op_of (D.RotateLeft k x) = K.RotateLeft k
op_of (D.RotateRight k x) = K.RotateRight k
op_of (D.Repeat k x) = K.Repeat k

-- that kind by its number, and the numbers in it
abbrev pub head_of : Term → ℕ × (ℕ × ℕ)
head_of t = (K.kind (op_of t), (nth 0 (K.indices (op_of t)), nth 1 (K.indices (op_of t))))

-- the same of a head
abbrev pub told_head : Head → ℕ × (ℕ × ℕ)
told_head H.True = (K.kind K.True, (0, 0))
told_head H.False = (K.kind K.False, (0, 0))
told_head (H.Of k x y) = (number_of k, (x, y))

-- its arguments
abbrev pub operands_of : Term → Operands
operands_of D.True = None
operands_of D.False = None
operands_of (D.BoolVar x) = None
operands_of (D.BvVar n x) = None
operands_of (D.Const n x) = None
operands_of (D.Not x) = One x
operands_of (D.And a) = Listed a
operands_of (D.Or a) = Listed a
operands_of (D.Xor x y) = Two x y
operands_of (D.Equals x y) = Two x y
operands_of (D.Ite c x y) = Three c x y
operands_of (D.BvBitOf i x) = One x
operands_of (D.BvBbTerm a) = Listed a
operands_of (D.BvNot x) = One x
operands_of (D.BvNeg x) = One x
operands_of (D.BvAnd a) = Listed a
operands_of (D.BvOr a) = Listed a
operands_of (D.BvXor a) = Listed a
operands_of (D.BvAdd a) = Listed a
operands_of (D.BvMul a) = Listed a
operands_of (D.BvXNor x y) = Two x y
operands_of (D.BvComp x y) = Two x y
operands_of (D.BvULt x y) = Two x y
operands_of (D.BvSLt x y) = Two x y
operands_of (D.BvShl x y) = Two x y
operands_of (D.BvLShr x y) = Two x y
operands_of (D.BvAShr x y) = Two x y
operands_of (D.BvUDiv x y) = Two x y
operands_of (D.BvURem x y) = Two x y
operands_of (D.BvConcat a) = Listed a
operands_of (D.BvExtract i j x) = One x
operands_of (D.SignExtend k x) = One x
operands_of (D.ZeroExtend k x) = One x
operands_of (D.RotateLeft k x) = One x
operands_of (D.RotateRight k x) = One x
operands_of (D.Repeat k x) = One x

-- the numbers in these
abbrev pub numbers_of : Bytes → Operands → List ℕ
numbers_of job None = []
numbers_of job (One x) = x ∷ []
numbers_of job (Two x y) = x ∷ y ∷ []
numbers_of job (Three x y z) = x ∷ y ∷ z ∷ []
numbers_of job (Listed a) = words_in job a

-- the numbers of its arguments, read in the job
abbrev pub arguments_of : Bytes → Term → List ℕ
arguments_of job t = numbers_of job (operands_of t)

-- ---- a decoded record
-- what it says
abbrev pub item_of : Bytes → Item → R.Item
item_of job (I.Term t) = R.term (op_of t) (arguments_of job t)
item_of job (I.Step n a) = R.step n (words_in job a)
item_of job (I.Chain n a k) = R.chain n (words_in job a) k
item_of job (I.Back n) = R.back n

-- and why it says nothing
abbrev pub fault_of : Fault → R.Item
fault_of F.Unknown = R.unknown
fault_of F.Misfit = R.misfit

-- what a record says, of what was read
abbrev pub read_of : Bytes → Result Item Fault → R.Item
read_of job (Ok r) = item_of job r
read_of job (Err e) = fault_of e

-- the list, if there is one, lies in the job
abbrev pub OperandsPlaced : Bytes → Operands → Type 0
OperandsPlaced job None = Unit {0}
OperandsPlaced job (One x) = Unit {0}
OperandsPlaced job (Two x y) = Unit {0}
OperandsPlaced job (Three x y z) = Unit {0}
OperandsPlaced job (Listed a) = Inside job a

-- its list, if it has one, lies in the job
abbrev pub Placed : Bytes → Item → Type 0
Placed job (I.Term t) = OperandsPlaced job (operands_of t)
Placed job (I.Step n a) = Inside job a
Placed job (I.Chain n a k) = Inside job a
Placed job (I.Back n) = Unit {0}

-- if something was read, its list lies in the job
abbrev pub PlacedIn : Bytes → Result Item Fault → Type 0
PlacedIn job (Ok r) = Placed job r
PlacedIn job (Err e) = Unit {0}

-- what was read says that, and its list lies in the job
pub record Says (job : Bytes) (r : Result Item Fault) (said : R.Item) : Type 0 where
  pub says : read_of job r ≡ said
  pub placed : PlacedIn job r

-- a term says that, and its list lies in the job
pub record SaysTerm (job : Bytes) (t : Term) (said : R.Item) : Type 0 where
  pub says : item_of job (I.Term t) ≡ said
  pub placed : Placed job (I.Term t)
