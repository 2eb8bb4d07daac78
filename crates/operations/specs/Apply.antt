-- The operations of the code as theory's, and what they are given and promise. A Bool has width 0.
use Rattle.std.specs.Prelude.{◌≡◌, ℕ, zero, suc, ◌+◌, ◌*◌, ◌^◌, ◌<◌, ◌≤◌, ◌&&◌, ◌||◌, T, List, [], ◌∷◌, ◌==◌}
use Rattle.theory.specs.Kind as K
use Rattle.theory.specs.Kind.{Op}
use Rattle.theory.specs.Sort.{Sort, bool, bv, good, sort_op}
use Rattle.theory.specs.Value.{Val, truth, number, truth_of, value_width, number_of, bit, num2, and_n, or_n, xor_n, add_n, mul_n, concat2}
use Rattle.operations.specs.declared.apply.Unary.{Unary}
use Rattle.operations.specs.declared.apply.Unary.TheVariants as U
use Rattle.operations.specs.declared.apply.Binary.{Binary}
use Rattle.operations.specs.declared.apply.Binary.TheVariants as B
use Rattle.operations.specs.declared.apply.Many.{Many}
use Rattle.operations.specs.declared.apply.Many.TheVariants as M
use Rattle.operations.specs.declared.apply.Word.{Word}
use Rattle.operations.specs.Width.{Wide}

-- ---- the kinds
abbrev pub unary_op : Unary → Op
unary_op U.Not = K.Not
unary_op U.BvNot = K.BvNot
unary_op U.BvNeg = K.BvNeg
unary_op (U.BitOf i) = K.BvBitOf i
unary_op (U.Extract i j) = K.BvExtract i j
unary_op (U.Extend k) = K.SignExtend k
unary_op (U.ZeroExtend k) = K.ZeroExtend k
unary_op (U.RotateLeft k) = K.RotateLeft k
unary_op (U.RotateRight k) = K.RotateRight k
unary_op (U.Repeat k) = K.Repeat k

abbrev pub binary_op : Binary → Op
binary_op B.Xor = K.Xor
binary_op B.Equals = K.Equals
binary_op B.XNor = K.BvXNor
binary_op B.Comp = K.BvComp
binary_op B.ULt = K.BvULt
binary_op B.SLt = K.BvSLt
binary_op B.Shl = K.BvShl
binary_op B.LShr = K.BvLShr
binary_op B.AShr = K.BvAShr
binary_op B.UDiv = K.BvUDiv
binary_op B.URem = K.BvURem

abbrev pub many_op : Many → Op
many_op M.And = K.And
many_op M.Or = K.Or
many_op M.Bits = K.BvBbTerm
many_op M.BvAnd = K.BvAnd
many_op M.BvOr = K.BvOr
many_op M.BvXor = K.BvXor
many_op M.Add = K.BvAdd
many_op M.Mul = K.BvMul
many_op M.Concat = K.BvConcat

-- ---- numbers with their widths
-- the sort of that width
abbrev pub sort_by : ℕ → Sort
sort_by zero = bool
sort_by (suc n) = bv (suc n)

-- the bits of a value of that width
abbrev pub bits_by : ℕ → ℕ
bits_by zero = 1
bits_by (suc n) = suc n

-- the value of that width whose number is x
abbrev pub val_by : ℕ → ℕ → Val
val_by zero x = truth (x == 1)
val_by (suc n) x = number (suc n) x

-- x is a number of that width
pub record Number (m x : ℕ) : Type 0 where
  pub few : m ≤ 64
  pub below : x < 2 ^ bits_by m

-- ---- what an operation is given
-- one argument that fits
pub record One (o : Op) (m x : ℕ) : Type 0 where
  pub sorted : T (good (sort_op o (sort_by m ∷ [])))
  pub first : Number m x

-- two of one width that fit
pub record Two (o : Op) (m x y : ℕ) : Type 0 where
  pub sorted : T (good (sort_op o (sort_by m ∷ sort_by m ∷ [])))
  pub first : Number m x
  pub second : Number m y

-- three Bools
pub record Bools3 (c x y : ℕ) : Type 0 where
  pub test : c < 2
  pub first : x < 2
  pub second : y < 2

-- ---- operations of one argument or more, one argument after the other
-- what the first comes to
abbrev pub start_val : Many → Val → Val
start_val M.And v = truth (truth_of v)
start_val M.Or v = truth (truth_of v)
start_val M.Bits v = number 1 (bit (truth_of v))
start_val M.BvAnd v = v
start_val M.BvOr v = v
start_val M.BvXor v = v
start_val M.Add v = v
start_val M.Mul v = v
start_val M.Concat v = v

-- what they come to with one more
abbrev pub extend_val : Many → Val → Val → Val
extend_val M.And a v = truth (truth_of a && truth_of v)
extend_val M.Or a v = truth (truth_of a || truth_of v)
extend_val M.Bits a v = number (suc (value_width a)) (number_of a + bit (truth_of v) * 2 ^ value_width a)
extend_val M.BvAnd a v = num2 and_n a v
extend_val M.BvOr a v = num2 or_n a v
extend_val M.BvXor a v = num2 xor_n a v
extend_val M.Add a v = num2 add_n a v
extend_val M.Mul a v = num2 mul_n a v
extend_val M.Concat a v = concat2 a v

-- the width then
abbrev pub next_width : Many → ℕ → ℕ → ℕ
next_width M.And w m = w
next_width M.Or w m = w
next_width M.Bits w m = w + 1
next_width M.BvAnd w m = w
next_width M.BvOr w m = w
next_width M.BvXor w m = w
next_width M.Add w m = w
next_width M.Mul w m = w
next_width M.Concat w m = w + m

-- all are n
abbrev pub All : ℕ → List ℕ → Type 0
All n [] = Unit {0}
All n (m ∷ ms) = (m ≡ n) × All n ms

-- bit-vectors of w bits and these widths join to at most 64
abbrev pub Joined : ℕ → List ℕ → Type 0
Joined w [] = w ≤ 64
Joined w (m ∷ ms) = (1 ≤ m) × Joined (w + m) ms

-- Bools that make at most 64 bits with w
abbrev pub Bitwise : ℕ → List ℕ → Type 0
Bitwise w [] = w ≤ 64
Bitwise w (m ∷ ms) = (m ≡ 0) × Bitwise (w + 1) ms

-- after arguments that came to width w, arguments of these widths may follow
abbrev pub Room : Many → ℕ → List ℕ → Type 0
Room M.And w ms = (w ≡ 0) × All 0 ms
Room M.Or w ms = (w ≡ 0) × All 0 ms
Room M.Bits w ms = (1 ≤ w) × Bitwise w ms
Room M.BvAnd w ms = Wide w × All w ms
Room M.BvOr w ms = Wide w × All w ms
Room M.BvXor w ms = Wide w × All w ms
Room M.Add w ms = Wide w × All w ms
Room M.Mul w ms = Wide w × All w ms
Room M.Concat w ms = (1 ≤ w) × Joined w ms

-- the width that the first argument comes to
abbrev pub start_width : Many → ℕ → ℕ
start_width M.And m = m
start_width M.Or m = m
start_width M.Bits m = 1
start_width M.BvAnd m = m
start_width M.BvOr m = m
start_width M.BvXor m = m
start_width M.Add m = m
start_width M.Mul m = m
start_width M.Concat m = m

-- the width that a first argument may have
abbrev pub First : Many → ℕ → Type 0
First M.And m = m ≡ 0
First M.Or m = m ≡ 0
First M.Bits m = m ≡ 0
First M.BvAnd m = Unit {0}
First M.BvOr m = Unit {0}
First M.BvXor m = Unit {0}
First M.Add m = Unit {0}
First M.Mul m = Unit {0}
First M.Concat m = Unit {0}

-- a first argument that fits, and what it comes to
pub record Starts (op : Many) (m x : ℕ) : Type 0 where
  pub fits : First op m
  pub first : Number m x

pub record Started (op : Many) (m x : ℕ) (r : Word) : Type 0 where
  pub is : val_by r.width r.value ≡ start_val op (val_by m x)
  pub width_is : r.width ≡ start_width op m
  pub below : r.value < 2 ^ bits_by r.width

-- one more argument that fits, and what they come to
pub record Extends (op : Many) (a : Word) (m x : ℕ) : Type 0 where
  pub room : Room op a.width (m ∷ [])
  pub before : a.value < 2 ^ bits_by a.width
  pub next : x < 2 ^ bits_by m

pub record Extended (op : Many) (a : Word) (m x : ℕ) (r : Word) : Type 0 where
  pub is : val_by r.width r.value ≡ extend_val op (val_by a.width a.value) (val_by m x)
  pub width_is : r.width ≡ next_width op a.width m
  pub below : r.value < 2 ^ bits_by r.width
