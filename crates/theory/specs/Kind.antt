-- Document 01, "The job": the kinds of a term, and the table of their numbers and arguments.
use Rattle.std.specs.Prelude.{Bool, ◌&&◌, List, [], ◌∷◌, ℕ, leb, eqb}
use Rattle.theory.specs.Limit.{max_arguments}

-- the kinds of a term; a variable has a name, a bit-vector variable and a constant a width
pub data Op : Type 0 where
  True False Not And Or Xor Equals Ite : Op
  BoolVar : ℕ → Op
  BvVar Const : ℕ → ℕ → Op
  BvBitOf : ℕ → Op
  BvBbTerm BvNot BvNeg BvAnd BvOr BvXor BvAdd BvMul : Op
  BvXNor BvComp BvULt BvSLt BvShl BvLShr BvAShr BvUDiv BvURem : Op
  BvConcat : Op
  BvExtract : ℕ → ℕ → Op
  SignExtend : ℕ → Op
  ZeroExtend RotateLeft RotateRight Repeat : ℕ → Op

-- how many arguments: so many, or 1 to 64
pub data Arity : Type 0 where
  exactly : ℕ → Arity
  many : Arity

-- n arguments are allowed
abbrev pub takes : Arity → ℕ → Bool
takes (exactly k) n = eqb n k
takes many n = leb 1 n && leb n max_arguments

-- a row of the table: the kind's number in a job, the numbers in it in the order of its record, its arguments
pub record Row : Type 0 where
  pub number : ℕ
  pub indices : List ℕ
  pub arity : Arity

-- a row by its parts
abbrev pub row : ℕ → List ℕ → Arity → Row
row k is a = record { number = k; indices = is; arity = a }

-- the table of document 01, and kinds 60 to 63 after it; `true` and `false` have no record, and no record has their numbers here
abbrev pub table : Op → Row
table True = row 0 [] (exactly 0)
table False = row 1 [] (exactly 0)
table (BoolVar x) = row 10 (x ∷ []) (exactly 0)
table (BvVar n x) = row 11 (n ∷ x ∷ []) (exactly 0)
table (Const n x) = row 12 (n ∷ x ∷ []) (exactly 0)
table Not = row 20 [] (exactly 1)
table And = row 21 [] many
table Or = row 22 [] many
table Xor = row 23 [] (exactly 2)
table Equals = row 24 [] (exactly 2)
table Ite = row 25 [] (exactly 3)
table (BvBitOf i) = row 30 (i ∷ []) (exactly 1)
table BvBbTerm = row 31 [] many
table BvNot = row 40 [] (exactly 1)
table BvNeg = row 41 [] (exactly 1)
table BvAnd = row 42 [] many
table BvOr = row 43 [] many
table BvXor = row 44 [] many
table BvAdd = row 45 [] many
table BvMul = row 46 [] many
table BvXNor = row 47 [] (exactly 2)
table BvComp = row 48 [] (exactly 2)
table BvULt = row 49 [] (exactly 2)
table BvSLt = row 50 [] (exactly 2)
table BvShl = row 51 [] (exactly 2)
table BvLShr = row 52 [] (exactly 2)
table BvAShr = row 53 [] (exactly 2)
table BvUDiv = row 54 [] (exactly 2)
table BvURem = row 55 [] (exactly 2)
table BvConcat = row 56 [] many
table (BvExtract i j) = row 57 (i ∷ j ∷ []) (exactly 1)
table (SignExtend k) = row 58 (k ∷ []) (exactly 1)
table (ZeroExtend k) = row 60 (k ∷ []) (exactly 1)
table (RotateLeft k) = row 61 (k ∷ []) (exactly 1)
table (RotateRight k) = row 62 (k ∷ []) (exactly 1)
table (Repeat k) = row 63 (k ∷ []) (exactly 1)

-- a kind's number
abbrev pub kind : Op → ℕ
kind o = (table o).number

-- the numbers in a kind
abbrev pub indices : Op → List ℕ
indices o = (table o).indices

-- a kind's arguments
abbrev pub arity : Op → Arity
arity o = (table o).arity
