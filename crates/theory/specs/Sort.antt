-- Document 01, "The job" and code 7: the sort of a term, Bool or a bit-vector of width 1 to 64.
use Rattle.std.specs.Prelude.{Bool, true, false, ◌&&◌, List, [], ◌∷◌, ℕ, suc, ◌+◌, ◌-◌, ◌*◌, ◌^◌, leb, ltb, eqb, length}
use Rattle.theory.specs.Limit.{max_width}
use Rattle.theory.specs.Kind.{Op, True, False, Not, And, Or, Xor, Equals, Ite, BoolVar, BvVar, Const, BvBitOf, BvBbTerm, BvNot, BvNeg, BvAnd, BvOr, BvXor, BvAdd, BvMul, BvXNor, BvComp, BvULt, BvSLt, BvShl, BvLShr, BvAShr, BvUDiv, BvURem, BvConcat, BvExtract, SignExtend, ZeroExtend, RotateLeft, RotateRight, Repeat, arity, takes}
use Rattle.theory.specs.Term.{Term, Terms, fold, folds}

-- `bad` is the sort of a term that does not fit
pub data Sort : Type 0 where
  bad bool : Sort
  bv : ℕ → Sort

-- the two sorts are one
abbrev pub same_sort : Sort → Sort → Bool
same_sort bad bad = true
same_sort bad bool = false
same_sort bad (bv n) = false
same_sort bool bad = false
same_sort bool bool = true
same_sort bool (bv n) = false
same_sort (bv m) bad = false
same_sort (bv m) bool = false
same_sort (bv m) (bv n) = eqb m n

-- `s` where the test passes
unfoldable pub guard : Bool → Sort → Sort
guard true s = s
guard false s = bad

-- every sort is s
abbrev pub all_are : Sort → List Sort → Bool
all_are s [] = true
all_are s (x ∷ xs) = same_sort s x && all_are s xs

-- a bit-vector
abbrev pub is_bv_sort : Sort → Bool
is_bv_sort bad = false
is_bv_sort bool = false
is_bv_sort (bv n) = true

-- a sort of a term that fits
abbrev pub good : Sort → Bool
good bad = false
good bool = true
good (bv n) = true

-- all are bit-vectors
abbrev pub all_bv : List Sort → Bool
all_bv [] = true
all_bv (x ∷ xs) = is_bv_sort x && all_bv xs

-- the width; 0 where there is none
abbrev pub sort_width : Sort → ℕ
sort_width bad = 0
sort_width bool = 0
sort_width (bv n) = n

-- the sum of the widths
abbrev pub sum_widths : List Sort → ℕ
sum_widths [] = 0
sum_widths (x ∷ xs) = sort_width x + sum_widths xs

-- the first argument's sort
abbrev pub first : List Sort → Sort
first [] = bad
first (x ∷ xs) = x

-- a number is a width: 1 to 64
abbrev pub is_width : ℕ → Bool
is_width n = leb 1 n && leb n max_width

-- all are bit-vectors of one width
abbrev pub alike : List Sort → Bool
alike ss = is_bv_sort (first ss) && all_are (first ss) ss

-- the arguments' sorts, and the numbers in the kind, fit
abbrev pub fitting : Op → List Sort → Bool
fitting True ss = true
fitting False ss = true
fitting (BoolVar x) ss = true
fitting (BvVar n x) ss = is_width n
fitting (Const n x) ss = is_width n && ltb x (2 ^ n)
fitting Not ss = all_are bool ss
fitting And ss = all_are bool ss
fitting Or ss = all_are bool ss
fitting Xor ss = all_are bool ss
fitting Equals ss = good (first ss) && all_are (first ss) ss
fitting Ite ss = all_are bool ss
fitting (BvBitOf i) ss = is_bv_sort (first ss) && ltb i (sort_width (first ss))
fitting BvBbTerm ss = all_are bool ss
fitting BvNot ss = alike ss
fitting BvNeg ss = alike ss
fitting BvAnd ss = alike ss
fitting BvOr ss = alike ss
fitting BvXor ss = alike ss
fitting BvAdd ss = alike ss
fitting BvMul ss = alike ss
fitting BvXNor ss = alike ss
fitting BvComp ss = alike ss
fitting BvULt ss = alike ss
fitting BvSLt ss = alike ss
fitting BvShl ss = alike ss
fitting BvLShr ss = alike ss
fitting BvAShr ss = alike ss
fitting BvUDiv ss = alike ss
fitting BvURem ss = alike ss
fitting BvConcat ss = all_bv ss && is_width (sum_widths ss)
fitting (BvExtract i j) ss = is_bv_sort (first ss) && (leb j i && ltb i (sort_width (first ss)))
fitting (SignExtend k) ss = is_bv_sort (first ss) && leb (sort_width (first ss) + k) max_width
fitting (ZeroExtend k) ss = is_bv_sort (first ss) && leb (sort_width (first ss) + k) max_width
fitting (RotateLeft k) ss = alike ss
fitting (RotateRight k) ss = alike ss
fitting (Repeat k) ss = is_bv_sort (first ss) && is_width (k * sort_width (first ss))

-- the sort of the result, where they fit
abbrev pub result_sort : Op → List Sort → Sort
result_sort True ss = bool
result_sort False ss = bool
result_sort (BoolVar x) ss = bool
result_sort (BvVar n x) ss = bv n
result_sort (Const n x) ss = bv n
result_sort Not ss = bool
result_sort And ss = bool
result_sort Or ss = bool
result_sort Xor ss = bool
result_sort Equals ss = bool
result_sort Ite ss = bool
result_sort (BvBitOf i) ss = bool
result_sort BvBbTerm ss = bv (length ss)
result_sort BvNot ss = first ss
result_sort BvNeg ss = first ss
result_sort BvAnd ss = first ss
result_sort BvOr ss = first ss
result_sort BvXor ss = first ss
result_sort BvAdd ss = first ss
result_sort BvMul ss = first ss
result_sort BvXNor ss = first ss
result_sort BvComp ss = bv 1
result_sort BvULt ss = bool
result_sort BvSLt ss = bool
result_sort BvShl ss = first ss
result_sort BvLShr ss = first ss
result_sort BvAShr ss = first ss
result_sort BvUDiv ss = first ss
result_sort BvURem ss = first ss
result_sort BvConcat ss = bv (sum_widths ss)
result_sort (BvExtract i j) ss = bv (suc (i - j))
result_sort (SignExtend k) ss = bv (sort_width (first ss) + k)
result_sort (ZeroExtend k) ss = bv (sort_width (first ss) + k)
result_sort (RotateLeft k) ss = first ss
result_sort (RotateRight k) ss = first ss
result_sort (Repeat k) ss = bv (k * sort_width (first ss))

-- the sort of a term, from the sorts of its arguments
abbrev pub sort_op : Op → List Sort → Sort
sort_op o ss = guard (takes (arity o) (length ss) && fitting o ss) (result_sort o ss)

-- the sort of a term
abbrev pub sort_of : Term → Sort
sort_of = fold sort_op

-- the sorts of its arguments
abbrev pub sorts_of : Terms → List Sort
sorts_of = folds sort_op
