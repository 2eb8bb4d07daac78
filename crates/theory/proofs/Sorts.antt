-- What a well-sorted term says of its arguments; widths are 1 to 64.
use mathlib.Core.Path.{◌≡◌, refl}
use mathlib.Core.Bool.{Bool, true, false, ◌&&◌}
use mathlib.Core.List.{List, [], ◌∷◌}
use Prim.Native.Nat.{ℕ, suc, ◌+◌, ◌-◌, ◌*◌, ◌^◌, ◌≤◌}
use native.Mathlib.Omega.{arith}
use lib.Dec.{T, leb, ltb, ltb→lt, leb→le, le→leb}
use lib.Ieee.Fits.{and_l, and_r, and_i}
use lib.ListN.{length}
use Rattle.theory.specs.Kind.{Op, True, False, Not, And, Or, Xor, Equals, Ite, BoolVar, BvVar, Const, BvBitOf, BvBbTerm, BvNot, BvNeg, BvAnd, BvOr, BvXor, BvAdd, BvMul, BvXNor, BvComp, BvULt, BvSLt, BvShl, BvLShr, BvAShr, BvUDiv, BvURem, BvConcat, BvExtract, SignExtend, ZeroExtend, RotateLeft, RotateRight, Repeat, many, exactly, takes}
use Rattle.theory.specs.Term.{fold, Term, Terms, node, nil, cons}
use Rattle.theory.specs.Sort.{Sort, bad, bool, bv, guard, all_are, is_bv_sort, all_bv, sort_width, sum_widths, first, is_width, sort_op, sort_of, sorts_of}

pub is_bv : (s : Sort) → T (is_bv_sort s) → s ≡ bv (sort_width s)
is_bv (bv n) h = refl
is_bv bad h = elim h [ ]
is_bv bool h = elim h [ ]

-- ---- widths
abbrev pub sized : Sort → Bool
sized bad = true
sized bool = true
sized (bv n) = is_width n

abbrev all_sized : List Sort → Type 0
all_sized [] = Unit {0}
all_sized (s ∷ ss) = T (sized s) × all_sized ss

sized_guard : (b : Bool) (s : Sort) → (T b → T (sized s)) → T (sized (guard b s))
unfolding guard
sized_guard true s f = f tt
sized_guard false s f = tt

first_sized : (ss : List Sort) → all_sized ss → T (sized (first ss))
first_sized [] h = tt
first_sized (s ∷ ss) h = h.0

width_le : (n : ℕ) → T (is_width n) → (1 ≤ n) × (n ≤ 64)
width_le n h = (leb→le 1 n (and_l (leb 1 n) _ h), leb→le n 64 (and_r (leb 1 n) _ h))

le_width : (n : ℕ) → 1 ≤ n → n ≤ 64 → T (is_width n)
le_width n h k = and_i (leb 1 n) (leb n 64) (le→leb 1 n h) (le→leb n 64 k)

bv_width : (s : Sort) → T (sized s) → T (is_bv_sort s) → (1 ≤ sort_width s) × (sort_width s ≤ 64)
bv_width (bv n) h b = width_le n h
bv_width bad h b = elim b [ ]
bv_width bool h b = elim b [ ]

sized_op : (o : Op) (ss : List Sort) → all_sized ss → T (sized (sort_op o ss))
sized_op True ss h = sized_guard _ bool (λ t. tt)
sized_op False ss h = sized_guard _ bool (λ t. tt)
sized_op Not ss h = sized_guard _ bool (λ t. tt)
sized_op And ss h = sized_guard _ bool (λ t. tt)
sized_op Or ss h = sized_guard _ bool (λ t. tt)
sized_op Xor ss h = sized_guard _ bool (λ t. tt)
sized_op Equals ss h = sized_guard _ bool (λ t. tt)
sized_op Ite ss h = sized_guard _ bool (λ t. tt)
sized_op (BoolVar x) ss h = sized_guard _ bool (λ t. tt)
sized_op (BvVar n x) ss h = sized_guard (takes (exactly 0) (length ss) && is_width n) (bv n) (λ t. and_r (takes (exactly 0) (length ss)) (is_width n) t)
sized_op (Const n x) ss h = sized_guard (takes (exactly 0) (length ss) && (is_width n && ltb x (2 ^ n))) (bv n) (λ t. and_l (is_width n) _ (and_r (takes (exactly 0) (length ss)) _ t))
sized_op (BvBitOf i) ss h = sized_guard _ bool (λ t. tt)
sized_op BvBbTerm ss h = sized_guard (takes many (length ss) && all_are bool ss) (bv (length ss)) (λ t. and_l (takes many (length ss)) _ t)
sized_op BvNot ss h = sized_guard _ (first ss) (λ t. first_sized ss h)
sized_op BvNeg ss h = sized_guard _ (first ss) (λ t. first_sized ss h)
sized_op BvAnd ss h = sized_guard _ (first ss) (λ t. first_sized ss h)
sized_op BvOr ss h = sized_guard _ (first ss) (λ t. first_sized ss h)
sized_op BvXor ss h = sized_guard _ (first ss) (λ t. first_sized ss h)
sized_op BvAdd ss h = sized_guard _ (first ss) (λ t. first_sized ss h)
sized_op BvMul ss h = sized_guard _ (first ss) (λ t. first_sized ss h)
sized_op BvXNor ss h = sized_guard _ (first ss) (λ t. first_sized ss h)
sized_op BvComp ss h = sized_guard _ (bv 1) (λ t. tt)
sized_op BvULt ss h = sized_guard _ bool (λ t. tt)
sized_op BvSLt ss h = sized_guard _ bool (λ t. tt)
sized_op BvShl ss h = sized_guard _ (first ss) (λ t. first_sized ss h)
sized_op BvLShr ss h = sized_guard _ (first ss) (λ t. first_sized ss h)
sized_op BvAShr ss h = sized_guard _ (first ss) (λ t. first_sized ss h)
sized_op BvUDiv ss h = sized_guard _ (first ss) (λ t. first_sized ss h)
sized_op BvURem ss h = sized_guard _ (first ss) (λ t. first_sized ss h)
sized_op BvConcat ss h =
    sized_guard (takes many (length ss) && (all_bv ss && is_width (sum_widths ss))) (bv (sum_widths ss)) (λ t. and_r (all_bv ss) _ (and_r (takes many (length ss)) _ t))
sized_op (BvExtract i j) ss h =
    sized_guard (takes (exactly 1) (length ss) && (is_bv_sort (first ss) && (leb j i && ltb i (sort_width (first ss))))) (bv (suc (i - j)))
    (λ t. let u = and_r (takes (exactly 1) (length ss)) _ t in
    let w = bv_width (first ss) (first_sized ss h) (and_l (is_bv_sort (first ss)) _ u) in
    let l = ltb→lt i (sort_width (first ss)) (and_r (leb j i) _ (and_r (is_bv_sort (first ss)) _ u)) in
    le_width (suc (i - j)) (omega arith) (omega arith))
sized_op (SignExtend k) ss h =
    sized_guard (takes (exactly 1) (length ss) && (is_bv_sort (first ss) && leb (sort_width (first ss) + k) 64)) (bv (sort_width (first ss) + k))
    (λ t. let u = and_r (takes (exactly 1) (length ss)) _ t in
    let w = bv_width (first ss) (first_sized ss h) (and_l (is_bv_sort (first ss)) _ u) in
    le_width (sort_width (first ss) + k) (omega arith) (leb→le _ 64 (and_r (is_bv_sort (first ss)) _ u)))
sized_op (ZeroExtend k) ss h =
    sized_guard (takes (exactly 1) (length ss) && (is_bv_sort (first ss) && leb (sort_width (first ss) + k) 64)) (bv (sort_width (first ss) + k))
    (λ t. let u = and_r (takes (exactly 1) (length ss)) _ t in
    let w = bv_width (first ss) (first_sized ss h) (and_l (is_bv_sort (first ss)) _ u) in
    le_width (sort_width (first ss) + k) (omega arith) (leb→le _ 64 (and_r (is_bv_sort (first ss)) _ u)))
sized_op (RotateLeft k) ss h = sized_guard _ (first ss) (λ t. first_sized ss h)
sized_op (RotateRight k) ss h = sized_guard _ (first ss) (λ t. first_sized ss h)
sized_op (Repeat k) ss h =
    sized_guard (takes (exactly 1) (length ss) && (is_bv_sort (first ss) && is_width (k * sort_width (first ss)))) (bv (k * sort_width (first ss)))
    (λ t. and_r (is_bv_sort (first ss)) _ (and_r (takes (exactly 1) (length ss)) _ t))

mutual
  unfolding fold

  pub sorts_sized : (t : Term) → T (sized (sort_of t))
  sorts_sized (node o ts) = sized_op o (sorts_of ts) (all_sorts_sized ts)

  all_sorts_sized : (ts : Terms) → all_sized (sorts_of ts)
  all_sorts_sized nil = tt
  all_sorts_sized (cons t ts) = (sorts_sized t, all_sorts_sized ts)
