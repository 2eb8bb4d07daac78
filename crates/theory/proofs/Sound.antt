-- A well-sorted term's value has its sort.
use mathlib.Core.Path.{◌≡◌, refl, sym, ap, subst}
use mathlib.Core.Bool.{Bool, true, false, ◌&&◌, cond, not}
use mathlib.Core.List.{List, [], ◌∷◌, map, foldl}
use Prim.Native.Nat.{ℕ, zero, suc, ◌+◌, ◌-◌, ◌*◌, ◌/◌, ◌^◌, ◌<◌}
use native.Mathlib.Nat.{mod-lt, pow-succ', lt_of_le_of_lt, div-le_self, mod-le, zero-add, add-zero, add_assoc}
use native.Mathlib.Omega.{arith}
use lib.Bits.{and_lt, or_lt, xor_lt}
use lib.Dec.{T, leb, ltb, eqb, eqb→eq, leb→le, ltb→lt}
use lib.Arith.{digits_lt}
use lib.Ieee.Fits.{and_l, and_r}
use lib.ListN.{length, length-map, replicate}
use lib.Pow.{pow_pos, pow-add, pow_mono, shr_lt}
use Rattle.theory.specs.Kind.{Op, True, False, Not, And, Or, Xor, Equals, Ite, BoolVar, BvVar, Const, BvBitOf, BvBbTerm, BvNot, BvNeg, BvAnd, BvOr, BvXor, BvAdd, BvMul, BvXNor, BvComp, BvULt, BvSLt, BvShl, BvLShr, BvAShr, BvUDiv, BvURem, BvConcat, BvExtract, SignExtend, ZeroExtend, RotateLeft, RotateRight, Repeat, many, exactly, takes}
use Rattle.theory.specs.Term.{fold, Term, Terms, node, nil, cons}
use Rattle.theory.specs.Move.{bits}
use Rattle.theory.specs.Sort.{Sort, bad, bool, bv, same_sort, guard, all_are, is_bv_sort, all_bv, sort_width, sum_widths, first, is_width, alike, sort_op, sort_of, sorts_of}
use Rattle.theory.specs.Value.{same, Assign, Val, truth, number, truth_of, value_width, number_of, arg, bit, to_number, bit_at, fold1, num1, num2, not_n, neg_n, and_n, or_n, xor_n, xnor_n, add_n, mul_n, shl_n, lshr_n, top_copies, ashr_n, udiv_n, urem_n, concat2, rotate_left_n, rotate_right_n, meaning, value, values}

pub data Has : Val → Sort → Type 0 where
  any : {v : Val} → Has v bad
  is_truth : {b : Bool} → Has (truth b) bool
  is_number : {n x : ℕ} → x < 2 ^ n → Has (number n x) (bv n)

pub data Each : List Val → List Sort → Type 0 where
  none : Each [] []
  more : {v : Val} {s : Sort} {vs : List Val} {ss : List Sort} → Has v s → Each vs ss → Each (v ∷ vs) (s ∷ ss)

-- ---- tests
pub same_sort_eq : (a b : Sort) → T (same_sort a b) → a ≡ b
same_sort_eq bad bad h = refl
same_sort_eq bool bool h = refl
same_sort_eq (bv m) (bv n) h = ap bv (eqb→eq m n h)
same_sort_eq bad bool h = elim h [ ]
same_sort_eq bad (bv n) h = elim h [ ]
same_sort_eq bool bad h = elim h [ ]
same_sort_eq bool (bv n) h = elim h [ ]
same_sort_eq (bv m) bad h = elim h [ ]
same_sort_eq (bv m) bool h = elim h [ ]

guarded : {v : Val} {s : Sort} (b : Bool) → (T b → Has v s) → Has v (guard b s)
unfolding guard
guarded true f = f tt
guarded false f = any

-- ---- the arguments
first_has : {vs : List Val} {ss : List Sort} → Each vs ss → Has (arg 0 vs) (first ss)
first_has none = any
first_has (more h r) = h

second_has : {vs : List Val} {ss : List Sort} → Each vs ss → T (takes (exactly 2) (length ss)) → T (all_are (first ss) ss) → Has (arg 1 vs) (first ss)
second_has none c a = any
second_has (more {s = s} h none) c a = absurd c
second_has (more {s = s} h (more {v = w} {s = s'} k r)) c a =
    subst (λ (z : Sort). Has w z) (sym (same_sort_eq s s' (and_l (same_sort s s') _ (and_r (same_sort s s) _ a)))) k

-- ---- numbers
abbrev Below1 : (ℕ → ℕ → ℕ) → Type 0
Below1 f = (n x : ℕ) → x < 2 ^ n → f n x < 2 ^ n

abbrev Below2 : (ℕ → ℕ → ℕ → ℕ) → Type 0
Below2 f = (n x y : ℕ) → x < 2 ^ n → y < 2 ^ n → f n x y < 2 ^ n

num1_has : (f : ℕ → ℕ → ℕ) {v : Val} {s : Sort} → Below1 f → Has v s → T (is_bv_sort s) → Has (num1 f v) s
num1_has f b (is_number {n} {x} h) t = is_number (b n x h)
num1_has f b any t = any
num1_has f b is_truth t = absurd t

num2_has : (f : ℕ → ℕ → ℕ → ℕ) {u v : Val} {s : Sort} → Below2 f → Has u s → Has v s → T (is_bv_sort s) → Has (num2 f u v) s
num2_has f b (is_number {n} {x} h) k t = go k
  where
    go : {v : Val} → Has v (bv n) → Has (number n (f n x (number_of v))) (bv n)
    go (is_number {x = y} k') = is_number (b n x y h k')
num2_has f b any k t = any
num2_has f b is_truth k t = absurd t

fold_has : (f : ℕ → ℕ → ℕ → ℕ) → Below2 f → {u : Val} {vs : List Val} {ss : List Sort} (s : Sort)
    → T (is_bv_sort s) → Has u s → Each vs ss → T (all_are s ss) → Has (foldl (num2 f) u vs) s
fold_has f b s t h none a = h
fold_has f b {u} s t h (more {v = v} {s = s'} k r) a =
    fold_has f b s t
    (num2_has f b h (subst (λ (z : Sort). Has v z) (sym (same_sort_eq s s' (and_l (same_sort s s') _ a))) k) t) r
    (and_r (same_sort s s') _ a)

fold1_has : (f : ℕ → ℕ → ℕ → ℕ) → Below2 f → {vs : List Val} {ss : List Sort}
    → Each vs ss → T (alike ss) → Has (fold1 (num2 f) vs) (first ss)
fold1_has f b none a = any
fold1_has f b (more {s = s} h r) a = fold_has f b s (and_l (is_bv_sort s) _ a) h r (and_r (same_sort s s) _ (and_r (is_bv_sort s) _ a))

-- ---- the bounds
cond_lt : {p q m : ℕ} (b : Bool) → (T b → p < m) → (T (not b) → q < m) → cond b p q < m
cond_lt true f g = f tt
cond_lt false f g = g tt

not_lt : Below1 not_n
unfolding not_n
not_lt n x h = omega (arith, pow_pos n)

neg_lt : Below1 neg_n
unfolding neg_n
neg_lt n x h = mod-lt (2 ^ n - x) (pow_pos n)

and_n_lt : Below2 and_n
unfolding and_n
and_n_lt n x y h k = and_lt n x y h k

or_n_lt : Below2 or_n
unfolding or_n
or_n_lt n x y h k = or_lt n x y h k

xor_n_lt : Below2 xor_n
unfolding xor_n
xor_n_lt n x y h k = xor_lt n x y h k

xnor_lt : Below2 xnor_n
unfolding xnor_n
xnor_lt n x y h k = omega (arith, pow_pos n)

add_lt : Below2 add_n
unfolding add_n
add_lt n x y h k = mod-lt (x + y) (pow_pos n)

mul_lt : Below2 mul_n
unfolding mul_n
mul_lt n x y h k = mod-lt (x * y) (pow_pos n)

shl_n_lt : Below2 shl_n
unfolding shl_n
shl_n_lt n x y h k = cond_lt (ltb y n) (λ t. mod-lt (x * 2 ^ y) (pow_pos n)) (λ t. pow_pos n)

lshr_lt : Below2 lshr_n
unfolding lshr_n
lshr_lt n x y h k = cond_lt (ltb y n) (λ t. lt_of_le_of_lt (div-le_self x (2 ^ y)) h) (λ t. pow_pos n)

-- bvashr stays below 2 ^ n whatever bit is copied and whatever test chooses: the proofs name neither, `search` finds them.
fill_lt : (n k x a : ℕ) → a < 2 ^ (n - k) → a + top_copies n k x < 2 ^ n
unfolding top_copies
fill_lt n k x a h = search go
  where
    go : (b : Bool) → a + cond b (2 ^ n - 2 ^ (n - k)) 0 < 2 ^ n
    go true = omega (arith, pow_mono {i = n - k} {j = n} (omega arith))
    go false = omega (arith, pow_mono {i = n - k} {j = n} (omega arith))

top_copies_lt : (n k x : ℕ) → top_copies n k x < 2 ^ n
top_copies_lt n k x = rw zero-add at (fill_lt n k x 0 (pow_pos (n - k)))

div_pow_lt : (n x y : ℕ) → x < 2 ^ n → x / 2 ^ y < 2 ^ (n - y)
div_pow_lt n x y h = shr_lt (n - y) y (omega (arith, pow_mono {i = n} {j = n - y + y} (omega arith)))

ashr_lt : Below2 ashr_n
unfolding ashr_n
ashr_lt n x y h k = search (cond_lt, fill_lt, div_pow_lt, top_copies_lt)

udiv_lt : Below2 udiv_n
unfolding udiv_n
udiv_lt n x y h k = cond_lt (eqb y 0) (λ t. omega (arith, pow_pos n)) (λ t. lt_of_le_of_lt (div-le_self x y) h)

urem_lt : Below2 urem_n
unfolding urem_n
urem_lt n x y h k = cond_lt (eqb y 0) (λ t. omega arith) (λ t. lt_of_le_of_lt (mod-le x y) h)

pub to_number_lt : (bs : List Bool) → to_number bs < 2 ^ length bs
to_number_lt [] = omega arith
to_number_lt (true ∷ bs) = rw pow-succ' (omega (arith, to_number_lt bs))
to_number_lt (false ∷ bs) = rw pow-succ' (omega (arith, to_number_lt bs))

concat_lt : (m n x y : ℕ) → x < 2 ^ m → y < 2 ^ n → x * 2 ^ n + y < 2 ^ (m + n)
concat_lt m n x y h k = rw (pow-add 2 m n) (digits_lt h k)

-- ---- the operations
concat_has : {u : Val} {vs : List Val} {ss : List Sort} (m : ℕ)
    → Has u (bv m) → Each vs ss → T (all_bv ss) → Has (foldl concat2 u vs) (bv (m + sum_widths ss))
concat_has m h none a = rw add-zero h
concat_has {u = u} m (is_number {x = x} h) (more {ss = ss} (is_number {n = n} {x = y} k) r) a =
    rw (← add_assoc) (concat_has {u = number (m + n) (x * 2 ^ n + y)} (m + n) (is_number (concat_lt m n x y h k)) r a)
concat_has m h (more any r) a = absurd a
concat_has m h (more is_truth r) a = absurd a

concat1_has : {vs : List Val} {ss : List Sort} → Each vs ss → T (takes many (length ss)) → T (all_bv ss)
    → Has (fold1 concat2 vs) (bv (sum_widths ss))
concat1_has none c a = absurd c
concat1_has (more any r) c a = absurd a
concat1_has (more is_truth r) c a = absurd a
concat1_has (more (is_number {n = n} h) r) c a = concat_has n (is_number h) r a

pub each_length : {vs : List Val} {ss : List Sort} → Each vs ss → length vs ≡ length ss
each_length none = refl
each_length (more h r) = ap suc (each_length r)

bb_has : {vs : List Val} {ss : List Sort} → Each vs ss → Has (number (length vs) (to_number (map truth_of vs))) (bv (length ss))
bb_has {vs} {ss} r =
    subst (λ (n : ℕ). Has (number (length vs) (to_number (map truth_of vs))) (bv n)) (each_length r)
    (is_number (rw length-map at (to_number_lt (map truth_of vs))))

extend_has : (k : ℕ) {v : Val} {s : Sort} → Has v s → T (is_bv_sort s)
    → Has (number (value_width v + k) (number_of v + cond (bit_at (value_width v - 1) (number_of v)) (2 ^ (value_width v + k) - 2 ^ value_width v) 0)) (bv (sort_width s + k))
extend_has k any t = absurd t
extend_has k is_truth t = absurd t
extend_has k (is_number {n} {x} h) t = is_number (go (bit_at (n - 1) x))
  where
    go : (b : Bool) → x + cond b (2 ^ (n + k) - 2 ^ n) 0 < 2 ^ (n + k)
    go true = omega (arith, pow_mono {i = n} {j = n + k} (omega arith))
    go false = omega (arith, pow_mono {i = n} {j = n + k} (omega arith))

-- ---- bits moved
zeros_has : (k : ℕ) {v : Val} {s : Sort} → Has v s → T (is_bv_sort s) → Has (number (value_width v + k) (number_of v)) (bv (sort_width s + k))
zeros_has k any t = absurd t
zeros_has k is_truth t = absurd t
zeros_has k (is_number {n} {x} h) t = let l : x < 2 ^ (n + k) = omega (arith, pow_mono {i = n} {j = n + k} (omega arith)) in is_number l

moved_long : (m : ℕ) (f : ℕ → Bool) → length (bits m f) ≡ m
moved_long zero f = refl
moved_long (suc m) f = ap suc (moved_long m (λ i. f (suc i)))

moved_lt : (m : ℕ) (f : ℕ → Bool) → to_number (bits m f) < 2 ^ m
moved_lt m f = subst (λ (k : ℕ). to_number (bits m f) < 2 ^ k) (moved_long m f) (to_number_lt (bits m f))

left_lt : (k : ℕ) → Below1 (rotate_left_n k)
unfolding rotate_left_n
left_lt k n x h = moved_lt n _

right_lt : (k : ℕ) → Below1 (rotate_right_n k)
unfolding rotate_right_n
right_lt k n x h = moved_lt n _

-- k copies of a number of width n, after a number of width m
copies_has : (k m n : ℕ) {u v : Val} → Has u (bv m) → Has v (bv n) → Has (foldl concat2 u (replicate k v)) (bv (m + k * n))
copies_has zero m n {u} h e = subst (λ (z : ℕ). Has u (bv z)) (let z : m ≡ m + 0 * n = omega arith in z) h
copies_has (suc k) m n (is_number {x = x} h) (is_number {x = y} e) =
    let w : m + n + k * n ≡ m + suc k * n = omega arith in
    subst (λ (z : ℕ). Has (foldl concat2 (number (m + n) (x * 2 ^ n + y)) (replicate k (number n y))) (bv z)) w (copies_has k (m + n) n (is_number (concat_lt m n x y h e)) (is_number e))

repeat_has : (k : ℕ) {v : Val} {s : Sort} → Has v s → T (is_bv_sort s) → T (is_width (k * sort_width s)) → Has (fold1 concat2 (replicate k v)) (bv (k * sort_width s))
repeat_has k any t w = absurd t
repeat_has k is_truth t w = absurd t
repeat_has zero (is_number {n} h) t w = absurd (let z = leb→le 1 (0 * n) (and_l (leb 1 (0 * n)) _ w) in omega arith)
repeat_has (suc k) (is_number {n} {x} h) t w =
    subst (λ (z : ℕ). Has (foldl concat2 (number n x) (replicate k (number n x))) (bv z)) (let z : n + k * n ≡ suc k * n = omega arith in z) (copies_has k n n (is_number h) (is_number h))

bit_lt : (b : Bool) → bit b < 2 ^ 1
bit_lt true = omega arith
bit_lt false = omega arith

-- one number; two of one width
one_has : (f : ℕ → ℕ → ℕ) → Below1 f → {vs : List Val} {ss : List Sort} → Each vs ss
    → Has (num1 f (arg 0 vs)) (guard (takes (exactly 1) (length ss) && alike ss) (first ss))
one_has f b {ss = ss} r =
    guarded (takes (exactly 1) (length ss) && alike ss)
    (λ t. num1_has f b (first_has r) (and_l (is_bv_sort (first ss)) _ (and_r (takes (exactly 1) (length ss)) _ t)))

two_has : (f : ℕ → ℕ → ℕ → ℕ) → Below2 f → {vs : List Val} {ss : List Sort} → Each vs ss
    → Has (num2 f (arg 0 vs) (arg 1 vs)) (guard (takes (exactly 2) (length ss) && alike ss) (first ss))
two_has f b {ss = ss} r =
    guarded (takes (exactly 2) (length ss) && alike ss)
    (λ t. num2_has f b (first_has r)
    (second_has r (and_l (takes (exactly 2) (length ss)) _ t) (and_r (is_bv_sort (first ss)) _ (and_r (takes (exactly 2) (length ss)) _ t)))
    (and_l (is_bv_sort (first ss)) _ (and_r (takes (exactly 2) (length ss)) _ t)))

many_has : (f : ℕ → ℕ → ℕ → ℕ) → Below2 f → {vs : List Val} {ss : List Sort} → Each vs ss
    → Has (fold1 (num2 f) vs) (guard (takes many (length ss) && alike ss) (first ss))
many_has f b {ss = ss} r = guarded (takes many (length ss) && alike ss) (λ t. fold1_has f b r (and_r (takes many (length ss)) _ t))

truth_has : {b : Bool} (c : Bool) → Has (truth b) (guard c bool)
truth_has c = guarded c (λ t. is_truth)

pub meaning_has : (ρ : Assign) (o : Op) {vs : List Val} {ss : List Sort} → Each vs ss → Has (meaning ρ o vs) (sort_op o ss)
unfolding meaning
meaning_has ρ True r = truth_has _
meaning_has ρ False r = truth_has _
meaning_has ρ Not r = truth_has _
meaning_has ρ And r = truth_has _
meaning_has ρ Or r = truth_has _
meaning_has ρ Xor r = truth_has _
meaning_has ρ Equals r = truth_has _
meaning_has ρ Ite r = truth_has _
meaning_has ρ (BoolVar x) r = truth_has _
meaning_has ρ (BvVar n x) {ss = ss} r = guarded (takes (exactly 0) (length ss) && is_width n) (λ t. is_number (ρ.below n x))
meaning_has ρ (Const n x) {ss = ss} r =
    guarded (takes (exactly 0) (length ss) && (is_width n && ltb x (2 ^ n)))
    (λ t. is_number (ltb→lt x (2 ^ n) (and_r (is_width n) _ (and_r (takes (exactly 0) (length ss)) _ t))))
meaning_has ρ (BvBitOf i) r = truth_has _
meaning_has ρ BvBbTerm {ss = ss} r = guarded (takes many (length ss) && all_are bool ss) (λ t. bb_has r)
meaning_has ρ BvNot r = one_has not_n not_lt r
meaning_has ρ BvNeg r = one_has neg_n neg_lt r
meaning_has ρ BvAnd r = many_has and_n and_n_lt r
meaning_has ρ BvOr r = many_has or_n or_n_lt r
meaning_has ρ BvXor r = many_has xor_n xor_n_lt r
meaning_has ρ BvAdd r = many_has add_n add_lt r
meaning_has ρ BvMul r = many_has mul_n mul_lt r
meaning_has ρ BvXNor r = two_has xnor_n xnor_lt r
meaning_has ρ BvComp {vs = vs} r = guarded _ (λ t. is_number (bit_lt (same (arg 0 vs) (arg 1 vs))))
meaning_has ρ BvULt r = truth_has _
meaning_has ρ BvSLt r = truth_has _
meaning_has ρ BvShl r = two_has shl_n shl_n_lt r
meaning_has ρ BvLShr r = two_has lshr_n lshr_lt r
meaning_has ρ BvAShr r = two_has ashr_n ashr_lt r
meaning_has ρ BvUDiv r = two_has udiv_n udiv_lt r
meaning_has ρ BvURem r = two_has urem_n urem_lt r
meaning_has ρ BvConcat {ss = ss} r =
    guarded (takes many (length ss) && (all_bv ss && is_width (sum_widths ss)))
    (λ t. concat1_has r (and_l (takes many (length ss)) _ t) (and_l (all_bv ss) _ (and_r (takes many (length ss)) _ t)))
meaning_has ρ (BvExtract i j) r = guarded _ (λ t. is_number (mod-lt _ (pow_pos (suc (i - j)))))
meaning_has ρ (SignExtend k) {ss = ss} r =
    guarded _ (λ t. extend_has k (first_has r) (and_l (is_bv_sort (first ss)) _ (and_r (takes (exactly 1) (length ss)) _ t)))
meaning_has ρ (ZeroExtend k) {ss = ss} r =
    guarded _ (λ t. zeros_has k (first_has r) (and_l (is_bv_sort (first ss)) _ (and_r (takes (exactly 1) (length ss)) _ t)))
meaning_has ρ (RotateLeft k) r = one_has (rotate_left_n k) (left_lt k) r
meaning_has ρ (RotateRight k) r = one_has (rotate_right_n k) (right_lt k) r
meaning_has ρ (Repeat k) {ss = ss} r =
    guarded (takes (exactly 1) (length ss) && (is_bv_sort (first ss) && is_width (k * sort_width (first ss))))
    (λ t. let u = and_r (takes (exactly 1) (length ss)) _ t in
    repeat_has k (first_has r) (and_l (is_bv_sort (first ss)) _ u) (and_r (is_bv_sort (first ss)) _ u))

mutual
  unfolding fold

  pub value_has : (ρ : Assign) (t : Term) → Has (value ρ t) (sort_of t)
  value_has ρ (node o ts) = meaning_has ρ o (values_have ρ ts)

  pub values_have : (ρ : Assign) (ts : Terms) → Each (values ρ ts) (sorts_of ts)
  values_have ρ nil = none
  values_have ρ (cons t ts) = more (value_has ρ t) (values_have ρ ts)

-- as it is used: a term of sort `bool` is true or false, one of width `n` a number below 2 ^ n
has_bv : {v : Val} {n : ℕ} → Has v (bv n) → (v ≡ number n (number_of v)) × (number_of v < 2 ^ n)
has_bv (is_number h) = (refl, h)

pub bv_value : (ρ : Assign) (t : Term) (n : ℕ) → sort_of t ≡ bv n
    → (value ρ t ≡ number n (number_of (value ρ t))) × (number_of (value ρ t) < 2 ^ n)
bv_value ρ t n e = has_bv (subst (λ (s : Sort). Has (value ρ t) s) e (value_has ρ t))
