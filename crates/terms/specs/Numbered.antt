-- The numbers of kinds, of codes that stop a job, and of codes that refuse a question, as the enums of `terms` have them.
use Rattle.std.specs.Prelude.{◌≡◌, [], ℕ, Result, Ok, Err, None as none}
use Rattle.theory.specs.Kind as K
use Rattle.theory.specs.Record.{Shape, plain, indexed, twice_indexed, valued, make, shape_of}
use Rattle.terms.specs.declared.kind.Kind.{Kind}
use Rattle.terms.specs.declared.kind.UnknownKind.{UnknownKind}
use Rattle.terms.specs.declared.stop.Stop.{Stop}
use Rattle.terms.specs.declared.refusal.Refusal.{Refusal}
use Rattle.terms.specs.declared.kind.Kind.TheVariants as D
use Rattle.terms.specs.declared.stop.Stop.TheVariants as S
use Rattle.terms.specs.declared.refusal.Refusal.TheVariants as F

-- the shape of a kind, which has theory's kind in it
abbrev pub shape : Kind → Shape
shape D.BoolVar = indexed K.BoolVar
shape D.BvVar = twice_indexed K.BvVar
shape D.Const = valued K.Const
shape D.Not = plain K.Not
shape D.And = plain K.And
shape D.Or = plain K.Or
shape D.Xor = plain K.Xor
shape D.Equals = plain K.Equals
shape D.Ite = plain K.Ite
shape D.BvBitOf = indexed K.BvBitOf
shape D.BvBbTerm = plain K.BvBbTerm
shape D.BvNot = plain K.BvNot
shape D.BvNeg = plain K.BvNeg
shape D.BvAnd = plain K.BvAnd
shape D.BvOr = plain K.BvOr
shape D.BvXor = plain K.BvXor
shape D.BvAdd = plain K.BvAdd
shape D.BvMul = plain K.BvMul
shape D.BvXNor = plain K.BvXNor
shape D.BvComp = plain K.BvComp
shape D.BvULt = plain K.BvULt
shape D.BvSLt = plain K.BvSLt
shape D.BvShl = plain K.BvShl
shape D.BvLShr = plain K.BvLShr
shape D.BvAShr = plain K.BvAShr
shape D.BvUDiv = plain K.BvUDiv
shape D.BvURem = plain K.BvURem
shape D.BvConcat = plain K.BvConcat
shape D.BvExtract = twice_indexed K.BvExtract
shape D.SignExtend = indexed K.SignExtend
shape D.ZeroExtend = indexed K.ZeroExtend
shape D.RotateLeft = indexed K.RotateLeft
shape D.RotateRight = indexed K.RotateRight
shape D.Repeat = indexed K.Repeat

-- the number that theory's table has for it
abbrev pub number_of : Kind → ℕ
number_of k = K.kind (make (shape k) [])

-- a kind by its number; the error has the number where no shape has it
abbrev pub Decodes : ℕ → Result Kind UnknownKind → Type 0
Decodes n (Ok k) = number_of k ≡ n
Decodes n (Err e) = (e.0 ≡ n) × (shape_of n ≡ none)

-- document 01's code of a stop
abbrev pub stop_code : Stop → ℕ
stop_code S.TooLong = 2
stop_code S.Cut = 3
stop_code S.Unknown = 4
stop_code S.Misfit = 5
stop_code S.NoTerm = 6
stop_code S.Unsorted = 7
stop_code S.Spent = 8
stop_code S.NoRule = 9
stop_code S.NoBack = 18
stop_code S.NoRoom = 19

-- the code that a result stops the job with, 0 where it stops none
abbrev pub code_in : {A : Type 0} → Result A Stop → ℕ
code_in (Ok a) = 0
code_in (Err s) = stop_code s

-- document 02's code of a refusal
abbrev pub refusal_code : Refusal → ℕ
refusal_code F.NotAsked = 20
refusal_code F.NoCells = 21
refusal_code F.NoCounts = 22
refusal_code F.NotDerived = 23
