-- One operation on numbers comes to the meaning of its kind. Each law is read as: what the code computes ≡ the definition.
use Rattle.std.proofs.Common.{◌≡◌, ℕ, zero, suc, ◌+◌, ◌-◌, ◌/◌, ◌%◌, ◌^◌, ◌<◌, ◌≤◌, Bool, true, false, cond, not, ◌&&◌, T, eqb, ltb, leb, List, [], ◌∷◌, sym, refl, ap, ◌∙◌, subst, ap₂, add-one, arith, ltb→lt, leb→le, pow_pos, pow_mono, eq-eqb, ne_eqb, le-leb}
use mathlib.Core.Bool.{beq}
use lib.Ieee.Fits.{and_l, and_r}
use lib.Signed.{lt_z}
use Rattle.theory.specs.Kind as K
use Rattle.theory.specs.Kind.{Op}
use Rattle.theory.specs.Sort.{Sort, guard, good, sort_op, is_width, alike, is_bv_sort, sort_width}
use Rattle.theory.specs.Value.{Assign, Val, number, bit, bit_at, xor, same, num2, not_n, neg_n, xnor_n, shl_n, lshr_n, ashr_n, udiv_n, urem_n, signed, meaning}
use Rattle.sweeps.specs.Sweep.{as_number}
use Rattle.sweeps.proofs.Fitting.{fitted}
use Rattle.operations.specs.declared.apply.Unary.{Unary}
use Rattle.operations.specs.declared.apply.Binary.{Binary}
use Rattle.operations.specs.Width.{Wide, Fits, Both}
use Rattle.operations.specs.Apply.{unary_op, binary_op, sort_by, val_by, Number, One, Two, Bools3}
use Rattle.operations.proofs.WordLaws.{pow_64}

-- ---- widths
pub word_wide : (m : ℕ) → T (is_bv_sort (sort_by m)) → m ≤ 64 → Wide m
word_wide (suc m) b h = record { least = omega arith; most = h }
word_wide zero b h = elim b [ ]

pub word_fits : (m x : ℕ) → T (is_bv_sort (sort_by m)) → Number m x → Fits m x
word_fits (suc m) x b h = record { wide = word_wide (suc m) b h.few; below = h.below }
word_fits zero x b h = elim b [ ]

word_both : (m x y : ℕ) → T (is_bv_sort (sort_by m)) → Number m x → Number m y → Both m x y
word_both (suc m) x y b h k = record { wide = word_wide (suc m) b h.few; first = h.below; second = k.below }
word_both zero x y b h k = elim b [ ]

-- ---- Bools as numbers
pub bit_back : (x : ℕ) → x < 2 → x ≡ bit (eqb x 1)
bit_back zero h = refl
bit_back (suc zero) h = refl
bit_back (suc (suc x)) h = absurd (omega arith)

inverse : (x : ℕ) → x < 2 → eqb x 0 ≡ not (eqb x 1)
inverse zero h = refl
inverse (suc zero) h = refl
inverse (suc (suc x)) h = absurd (omega arith)

truths_equal : (x y : ℕ) → x < 2 → y < 2 → eqb x y ≡ beq (eqb x 1) (eqb y 1)
truths_equal zero zero h k = refl
truths_equal zero (suc zero) h k = refl
truths_equal (suc zero) zero h k = refl
truths_equal (suc zero) (suc zero) h k = refl
truths_equal (suc (suc x)) y h k = absurd (omega arith)
truths_equal zero (suc (suc y)) h k = absurd (omega arith)
truths_equal (suc zero) (suc (suc y)) h k = absurd (omega arith)

truths_differ : (x y : ℕ) → x < 2 → y < 2 → not (eqb x y) ≡ xor (eqb x 1) (eqb y 1)
truths_differ zero zero h k = refl
truths_differ zero (suc zero) h k = refl
truths_differ (suc zero) zero h k = refl
truths_differ (suc zero) (suc zero) h k = refl
truths_differ (suc (suc x)) y h k = absurd (omega arith)
truths_differ zero (suc (suc y)) h k = absurd (omega arith)
truths_differ (suc zero) (suc (suc y)) h k = absurd (omega arith)

-- ---- one argument
-- what r is to be
abbrev Is1 : Op → ℕ → ℕ → ℕ → Type 0
Is1 o m x r = (ρ : Assign) → r ≡ as_number (meaning ρ o (val_by m x ∷ []))

pub is_not : (m x r : ℕ) → One K.Not m x → r ≡ bit (eqb x 0) → Is1 K.Not m x r
unfolding meaning guard
is_not zero x r h e ρ = e ∙ ap bit (inverse x h.first.below)
is_not (suc m) x r h e ρ = absurd h.sorted

-- an operation that asks for a bit-vector
pub one_word : (o : Op) (m x : ℕ) → One o m x → (T (good (sort_op o (sort_by m ∷ []))) → T (is_bv_sort (sort_by m))) → Fits m x
one_word o m x h f = word_fits m x (f h.sorted) h.first

pub not_bv : (m : ℕ) → T (good (sort_op K.BvNot (sort_by m ∷ []))) → T (is_bv_sort (sort_by m))
not_bv m g = and_l (is_bv_sort (sort_by m)) _ (fitted K.BvNot (sort_by m ∷ []) g)

pub neg_bv : (m : ℕ) → T (good (sort_op K.BvNeg (sort_by m ∷ []))) → T (is_bv_sort (sort_by m))
neg_bv m g = and_l (is_bv_sort (sort_by m)) _ (fitted K.BvNeg (sort_by m ∷ []) g)

pub bit_bv : (i m : ℕ) → T (good (sort_op (K.BvBitOf i) (sort_by m ∷ []))) → T (is_bv_sort (sort_by m))
bit_bv i m g = and_l (is_bv_sort (sort_by m)) _ (fitted (K.BvBitOf i) (sort_by m ∷ []) g)

pub extract_bv : (i j m : ℕ) → T (good (sort_op (K.BvExtract i j) (sort_by m ∷ []))) → T (is_bv_sort (sort_by m))
extract_bv i j m g = and_l (is_bv_sort (sort_by m)) _ (fitted (K.BvExtract i j) (sort_by m ∷ []) g)

pub extend_bv : (k m : ℕ) → T (good (sort_op (K.SignExtend k) (sort_by m ∷ []))) → T (is_bv_sort (sort_by m))
extend_bv k m g = and_l (is_bv_sort (sort_by m)) _ (fitted (K.SignExtend k) (sort_by m ∷ []) g)

width_of : (m : ℕ) → T (is_bv_sort (sort_by m)) → sort_width (sort_by m) ≡ m
width_of (suc m) b = refl
width_of zero b = elim b [ ]

pub is_bvnot : (m x r : ℕ) → One K.BvNot m x → r ≡ not_n m x → Is1 K.BvNot m x r
unfolding meaning
is_bvnot zero x r h e ρ = absurd (not_bv 0 h.sorted)
is_bvnot (suc m) x r h e ρ = e

pub is_bvneg : (m x r : ℕ) → One K.BvNeg m x → r ≡ neg_n m x → Is1 K.BvNeg m x r
unfolding meaning
is_bvneg zero x r h e ρ = absurd (neg_bv 0 h.sorted)
is_bvneg (suc m) x r h e ρ = e

pub bit_low : (i m x : ℕ) → One (K.BvBitOf i) m x → i < 64
bit_low i m x h =
    let b = bit_bv i m h.sorted in
    let l = ltb→lt i (sort_width (sort_by m)) (and_r (is_bv_sort (sort_by m)) _ (fitted (K.BvBitOf i) (sort_by m ∷ []) h.sorted)) in
    omega (arith, l, width_of m b, h.first.few)

pub is_bit : (i m x r : ℕ) → One (K.BvBitOf i) m x → r ≡ bit (bit_at i x) → Is1 (K.BvBitOf i) m x r
unfolding meaning
is_bit i zero x r h e ρ = absurd (bit_bv i 0 h.sorted)
is_bit i (suc m) x r h e ρ = e

-- the indices of an extract
pub record Indices (i j m : ℕ) : Type 0 where
  pub order : j ≤ i
  pub inside : i < m

pub extract_in : (i j m x : ℕ) → One (K.BvExtract i j) m x → Indices i j m
extract_in i j m x h =
    let b = extract_bv i j m h.sorted in
    let f = and_r (is_bv_sort (sort_by m)) _ (fitted (K.BvExtract i j) (sort_by m ∷ []) h.sorted) in
    record { order = leb→le j i (and_l (leb j i) _ f); inside = omega (arith, ltb→lt i (sort_width (sort_by m)) (and_r (leb j i) _ f), width_of m b) }

pub is_extract : (i j m x r : ℕ) → One (K.BvExtract i j) m x → r ≡ x / 2 ^ j % 2 ^ (i - j + 1) → Is1 (K.BvExtract i j) m x r
unfolding meaning
is_extract i j zero x r h e ρ = absurd (extract_bv i j 0 h.sorted)
is_extract i j (suc m) x r h e ρ = e ∙ ap (λ (k : ℕ). x / 2 ^ j % 2 ^ k) (add-one (i - j))

-- the widths of an extension
pub extend_in : (k m x : ℕ) → One (K.SignExtend k) m x → Wide m × (m + k ≤ 64)
extend_in k m x h =
    let b = extend_bv k m h.sorted in
    let l = leb→le (sort_width (sort_by m) + k) 64 (and_r (is_bv_sort (sort_by m)) _ (fitted (K.SignExtend k) (sort_by m ∷ []) h.sorted)) in
    (word_wide m b h.first.few, omega (arith, l, width_of m b))

pub extend_wide : (k m x : ℕ) → One (K.SignExtend k) m x → Wide (m + k)
extend_wide k m x h = let w = extend_in k m x h in record { least = omega (arith, w.0.least); most = w.1 }

pub is_extend_set : (k m x r s : ℕ) → One (K.SignExtend k) m x → bit_at (m - 1) x ≡ true → r ≡ 2 ^ (m + k) - 1 → s ≡ 2 ^ m - 1 → Is1 (K.SignExtend k) m x (x + (r - s))
unfolding meaning
is_extend_set k zero x r s h t e f ρ = absurd (extend_bv k 0 h.sorted)
is_extend_set k (suc m) x r s h t e f ρ =
    let a = pow_pos (suc m + k) in
    let b = pow_pos (suc m) in
    let d : r - s ≡ 2 ^ (suc m + k) - 2 ^ suc m = omega arith in
    ap (λ (z : ℕ). x + z) d ∙ sym (ap (λ (c : Bool). x + cond c (2 ^ (suc m + k) - 2 ^ suc m) 0) t)

pub is_extend_clear : (k m x : ℕ) → One (K.SignExtend k) m x → bit_at (m - 1) x ≡ false → Is1 (K.SignExtend k) m x x
unfolding meaning
is_extend_clear k zero x h t ρ = absurd (extend_bv k 0 h.sorted)
is_extend_clear k (suc m) x h t ρ =
    (let d : x ≡ x + 0 = omega arith in d) ∙ sym (ap (λ (c : Bool). x + cond c (2 ^ (suc m + k) - 2 ^ suc m) 0) t)

pub extend_le : (k m r s : ℕ) → r ≡ 2 ^ (m + k) - 1 → s ≡ 2 ^ m - 1 → s ≤ r
extend_le k m r s e f = omega (arith, pow_mono {i = m} {j = m + k} (omega arith))

pub extend_fits : (k m x r s : ℕ) → One (K.SignExtend k) m x → r ≡ 2 ^ (m + k) - 1 → s ≡ 2 ^ m - 1 → x + (r - s) < 18446744073709551616
extend_fits k m x r s h e f =
    let w = one_word (K.SignExtend k) m x h (extend_bv k m) in
    let a = w.below in
    let b = pow_64 (m + k) (extend_in k m x h).1 in
    let d = pow_pos m in
    let g = pow_mono {i = m} {j = m + k} (omega arith) in
    omega arith

-- ---- two arguments
abbrev Is2 : Op → ℕ → ℕ → ℕ → ℕ → Type 0
Is2 o m x y r = (ρ : Assign) → r ≡ as_number (meaning ρ o (val_by m x ∷ val_by m y ∷ []))

pub is_xor : (m x y r : ℕ) → Two K.Xor m x y → r ≡ bit (not (eqb x y)) → Is2 K.Xor m x y r
unfolding meaning guard
is_xor zero x y r h e ρ = e ∙ ap bit (truths_differ x y h.first.below h.second.below)
is_xor (suc m) x y r h e ρ = absurd h.sorted

same_by : (m x y : ℕ) → Number m x → Number m y → eqb x y ≡ same (val_by m x) (val_by m y)
same_by zero x y h k = truths_equal x y h.below k.below
same_by (suc m) x y h k = sym (ap (λ (b : Bool). b && eqb x y) (eq-eqb (suc m) (suc m) refl))

pub is_equals : (m x y r : ℕ) → Two K.Equals m x y → r ≡ bit (eqb x y) → Is2 K.Equals m x y r
unfolding meaning
is_equals m x y r h e ρ = e ∙ ap bit (same_by m x y h.first h.second)

pub is_comp : (m x y r : ℕ) → Two K.BvComp m x y → r ≡ bit (eqb x y) → Is2 K.BvComp m x y r
unfolding meaning
is_comp m x y r h e ρ = e ∙ ap bit (same_by m x y h.first h.second)

-- an operation that asks for bit-vectors of one width
abbrev pub Alike : Op → Type 0
Alike o = (m : ℕ) → T (good (sort_op o (sort_by m ∷ sort_by m ∷ []))) → T (is_bv_sort (sort_by m))

alike_first : (m : ℕ) (ss : List Sort) → T (alike (sort_by m ∷ ss)) → T (is_bv_sort (sort_by m))
alike_first m ss h = and_l (is_bv_sort (sort_by m)) _ h

pub xnor_bv : Alike K.BvXNor
xnor_bv m g = alike_first m (sort_by m ∷ []) (fitted K.BvXNor (sort_by m ∷ sort_by m ∷ []) g)

pub ult_bv : Alike K.BvULt
ult_bv m g = alike_first m (sort_by m ∷ []) (fitted K.BvULt (sort_by m ∷ sort_by m ∷ []) g)

pub slt_bv : Alike K.BvSLt
slt_bv m g = alike_first m (sort_by m ∷ []) (fitted K.BvSLt (sort_by m ∷ sort_by m ∷ []) g)

pub shl_bv : Alike K.BvShl
shl_bv m g = alike_first m (sort_by m ∷ []) (fitted K.BvShl (sort_by m ∷ sort_by m ∷ []) g)

pub lshr_bv : Alike K.BvLShr
lshr_bv m g = alike_first m (sort_by m ∷ []) (fitted K.BvLShr (sort_by m ∷ sort_by m ∷ []) g)

pub ashr_bv : Alike K.BvAShr
ashr_bv m g = alike_first m (sort_by m ∷ []) (fitted K.BvAShr (sort_by m ∷ sort_by m ∷ []) g)

pub udiv_bv : Alike K.BvUDiv
udiv_bv m g = alike_first m (sort_by m ∷ []) (fitted K.BvUDiv (sort_by m ∷ sort_by m ∷ []) g)

pub urem_bv : Alike K.BvURem
urem_bv m g = alike_first m (sort_by m ∷ []) (fitted K.BvURem (sort_by m ∷ sort_by m ∷ []) g)

pub two_wide : (o : Op) (m x y : ℕ) → Alike o → Two o m x y → Wide m
two_wide o m x y f h = word_wide m (f m h.sorted) h.first.few

pub two_fits : (o : Op) (m x y : ℕ) → Alike o → Two o m x y → Fits m x
two_fits o m x y f h = word_fits m x (f m h.sorted) h.first

pub two_both : (o : Op) (m x y : ℕ) → Alike o → Two o m x y → Both m x y
two_both o m x y f h = word_both m x y (f m h.sorted) h.first h.second

-- an operation on words, at a width
pub is_word : (o : Op) (f : ℕ → ℕ → ℕ → ℕ) → Alike o → ((ρ : Assign) (u v : Val) → meaning ρ o (u ∷ v ∷ []) ≡ num2 f u v) → (m x y r : ℕ) → Two o m x y → r ≡ f m x y → Is2 o m x y r
is_word o f a g zero x y r h e ρ = absurd (a 0 h.sorted)
is_word o f a g (suc m) x y r h e ρ = e ∙ sym (ap as_number (g ρ (number (suc m) x) (number (suc m) y)))

pub is_xnor : (m x y r : ℕ) → Two K.BvXNor m x y → r ≡ xnor_n m x y → Is2 K.BvXNor m x y r
unfolding meaning
is_xnor = is_word K.BvXNor xnor_n xnor_bv (λ ρ u v. refl)

pub is_shl : (m x y r : ℕ) → Two K.BvShl m x y → r ≡ shl_n m x y → Is2 K.BvShl m x y r
unfolding meaning
is_shl = is_word K.BvShl shl_n shl_bv (λ ρ u v. refl)

pub is_lshr : (m x y r : ℕ) → Two K.BvLShr m x y → r ≡ lshr_n m x y → Is2 K.BvLShr m x y r
unfolding meaning
is_lshr = is_word K.BvLShr lshr_n lshr_bv (λ ρ u v. refl)

pub is_ashr : (m x y r : ℕ) → Two K.BvAShr m x y → r ≡ ashr_n m x y → Is2 K.BvAShr m x y r
unfolding meaning
is_ashr = is_word K.BvAShr ashr_n ashr_bv (λ ρ u v. refl)

pub is_udiv : (m x y r : ℕ) → Two K.BvUDiv m x y → r ≡ udiv_n m x y → Is2 K.BvUDiv m x y r
unfolding meaning
is_udiv = is_word K.BvUDiv udiv_n udiv_bv (λ ρ u v. refl)

pub is_urem : (m x y r : ℕ) → Two K.BvURem m x y → r ≡ urem_n m x y → Is2 K.BvURem m x y r
unfolding meaning
is_urem = is_word K.BvURem urem_n urem_bv (λ ρ u v. refl)

pub is_ult : (m x y r : ℕ) → Two K.BvULt m x y → r ≡ bit (ltb x y) → Is2 K.BvULt m x y r
unfolding meaning
is_ult zero x y r h e ρ = absurd (ult_bv 0 h.sorted)
is_ult (suc m) x y r h e ρ = e

pub is_slt : (m x y r : ℕ) → Two K.BvSLt m x y → r ≡ bit (cond (is_width m) (lt_z (signed m x) (signed m y)) false) → Is2 K.BvSLt m x y r
unfolding meaning
is_slt zero x y r h e ρ = absurd (slt_bv 0 h.sorted)
is_slt (suc m) x y r h e ρ =
    e ∙ ap (λ (b : Bool). bit (cond b (lt_z (signed (suc m) x) (signed (suc m) y)) false)) (ap₂ ◌&&◌ (le-leb 1 (suc m) (omega arith)) (le-leb (suc m) 64 h.first.few))

-- ---- three Bools
pub is_then : (c x y : ℕ) → Bools3 c x y → c ≡ 1 → (ρ : Assign) → x ≡ as_number (meaning ρ K.Ite (val_by 0 c ∷ val_by 0 x ∷ val_by 0 y ∷ []))
unfolding meaning
is_then c x y h e ρ = bit_back x h.first ∙ ap (λ (b : Bool). bit (cond b (eqb x 1) (eqb y 1))) (sym (eq-eqb c 1 e))

pub is_else : (c x y : ℕ) → Bools3 c x y → (c ≡ 1 → ⊥) → (ρ : Assign) → y ≡ as_number (meaning ρ K.Ite (val_by 0 c ∷ val_by 0 x ∷ val_by 0 y ∷ []))
unfolding meaning
is_else c x y h e ρ = bit_back y h.second ∙ ap (λ (b : Bool). bit (cond b (eqb x 1) (eqb y 1))) (sym (ne_eqb c 1 e))

-- ---- in the case of an operation
pub in_one : {m x : ℕ} (op u : Unary) → op ≡ u → One (unary_op op) m x → One (unary_op u) m x
in_one {m} {x} op u e h = subst (λ (z : Unary). One (unary_op z) m x) e h

pub out_one : (m x r : ℕ) (op u : Unary) → op ≡ u → ((ρ : Assign) → r ≡ as_number (meaning ρ (unary_op u) (val_by m x ∷ [])))
    → (ρ : Assign) → r ≡ as_number (meaning ρ (unary_op op) (val_by m x ∷ []))
out_one m x r op u e f = subst (λ (z : Unary). (ρ : Assign) → r ≡ as_number (meaning ρ (unary_op z) (val_by m x ∷ []))) (sym e) f

pub in_two : {m x y : ℕ} (op u : Binary) → op ≡ u → Two (binary_op op) m x y → Two (binary_op u) m x y
in_two {m} {x} {y} op u e h = subst (λ (z : Binary). Two (binary_op z) m x y) e h

pub out_two : (m x y r : ℕ) (op u : Binary) → op ≡ u → ((ρ : Assign) → r ≡ as_number (meaning ρ (binary_op u) (val_by m x ∷ val_by m y ∷ [])))
    → (ρ : Assign) → r ≡ as_number (meaning ρ (binary_op op) (val_by m x ∷ val_by m y ∷ []))
out_two m x y r op u e f = subst (λ (z : Binary). (ρ : Assign) → r ≡ as_number (meaning ρ (binary_op z) (val_by m x ∷ val_by m y ∷ []))) (sym e) f
