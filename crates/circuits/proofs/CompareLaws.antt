-- Comparisons: the loop of bitblast_ult, the sign bit, and one equation or several.
use mathlib.Core.Path.{◌≡◌, refl, ◌∙◌}
use mathlib.Core.List.{List, [], ◌∷◌}
use mathlib.Core.Logic.{◌⊎◌, inl, inr}
use Prim.Native.Nat.{ℕ, zero, suc, ◌-◌, ◌<◌, ◌≤◌}
use native.Mathlib.Omega.{arith}
use lib.ListN.{length, take, drop, get_or, length-drop}
use Rattle.std.proofs.Common.{take_all}
use Rattle.std.proofs.lemmas.List.{nil_from_length}
use Rattle.theory.specs.Gates.{Gates}
use Rattle.theory.specs.Circuit.{less_step, sign_step, bitblast_ult, ult_from, slt, slt_from, gather}

module _ (g : Gates ℕ) {xs ys : List ℕ} {r : ℕ} where
  pub ult_next : {x y r' : ℕ} {xs' ys' : List ℕ} → (xs ≡ x ∷ xs') × (ys ≡ y ∷ ys') → r' ≡ less_step g x y r → ult_from g r' xs' ys' ≡ ult_from g r xs ys
  unfolding ult_from
  ult_next h e = rw (h.0, h.1, e) refl

  pub ult_none : (xs ≡ []) ⊎ (ys ≡ []) → r ≡ ult_from g r xs ys
  unfolding ult_from
  ult_none (inl e) = rw e refl
  ult_none (inr e) = rw e (none xs)
    where
      none : (zs : List ℕ) → r ≡ ult_from g r zs []
      none [] = refl
      none (z ∷ zs) = refl

-- all bits but the first, as a slice has them
pub above_first : (xs : List ℕ) → take (length xs - 1) (drop 1 xs) ≡ drop 1 xs
above_first xs = take_all (length xs - 1) (drop 1 xs) (omega (arith, length-drop 1 xs))

module _ (g : Gates ℕ) (xs ys : List ℕ) where
  pub ult_start : {r : ℕ} {xs' ys' : List ℕ} → 1 ≤ length xs → 1 ≤ length ys → r ≡ g.and_gate (g.not_gate (get_or xs 0 0)) (get_or ys 0 0)
      → xs' ≡ take (length xs - 1) (drop 1 xs) → ys' ≡ take (length ys - 1) (drop 1 ys) → ult_from g r xs' ys' ≡ bitblast_ult g xs ys
  unfolding bitblast_ult
  ult_start h k e a b = rw (a, b, e, above_first xs, above_first ys) (by xs ys h k)
    where
      by : (us vs : List ℕ) → 1 ≤ length us → 1 ≤ length vs → ult_from g (g.and_gate (g.not_gate (get_or us 0 0)) (get_or vs 0 0)) (drop 1 us) (drop 1 vs) ≡ bitblast_ult g us vs
      by [] vs h k = absurd (omega arith)
      by (u ∷ us) [] h k = absurd (omega arith)
      by (u ∷ us) (v ∷ vs) h k = refl

  pub ult_empty : (length xs < 1) ⊎ (length ys < 1) → g.false_gate ≡ bitblast_ult g xs ys
  unfolding bitblast_ult
  ult_empty (inl h) = rw (nil_from_length xs (omega arith)) refl
  ult_empty (inr h) = rw (nil_from_length ys (omega arith)) (none xs)
    where
      none : (zs : List ℕ) → g.false_gate ≡ bitblast_ult g zs []
      none [] = refl
      none (z ∷ zs) = refl

-- ---- the sign
module _ (g : Gates ℕ) where
  -- the last of n + 1 bits
  slt_last : (r n : ℕ) (xs ys : List ℕ) → length xs ≡ suc n → length ys ≡ suc n
      → sign_step g (get_or xs n 0) (get_or ys n 0) (ult_from g r (take n xs) (take n ys)) ≡ slt_from g r xs ys
  unfolding slt_from ult_from
  slt_last r n [] ys h k = absurd (omega arith)
  slt_last r n (x ∷ xs) [] h k = absurd (omega arith)
  slt_last r zero (x ∷ []) (y ∷ ys) h k = refl
  slt_last r zero (x ∷ x' ∷ xs) (y ∷ ys) h k = absurd (omega arith)
  slt_last r (suc n) (x ∷ []) (y ∷ ys) h k = absurd (omega arith)
  slt_last r (suc n) (x ∷ x' ∷ xs) (y ∷ ys) h k = slt_last (less_step g x y r) n (x' ∷ xs) ys (omega arith) (omega arith)

  slt_at : (n : ℕ) (xs ys : List ℕ) → length xs ≡ suc (suc n) → length ys ≡ suc (suc n)
      → sign_step g (get_or xs (suc n) 0) (get_or ys (suc n) 0) (bitblast_ult g (take (suc n) xs) (take (suc n) ys)) ≡ slt g xs ys
  unfolding slt bitblast_ult
  slt_at n [] ys h k = absurd (omega arith)
  slt_at n (x ∷ xs) [] h k = absurd (omega arith)
  slt_at n (x ∷ []) (y ∷ ys) h k = absurd (omega arith)
  slt_at n (x ∷ x' ∷ xs) (y ∷ ys) h k = slt_last (g.and_gate (g.not_gate x) y) n (x' ∷ xs) ys (omega arith) (omega arith)

module _ (g : Gates ℕ) (xs ys : List ℕ) where
  pub slt_empty : length xs < 1 → g.false_gate ≡ slt g xs ys
  unfolding slt
  slt_empty h = rw (nil_from_length xs (omega arith)) refl

  -- the sign alone
  pub slt_one : {r : ℕ} → length xs ≡ 1 → length ys ≡ 1 → r ≡ g.and_gate (get_or xs (length xs - 1) 0) (g.not_gate (get_or ys (length ys - 1) 0)) → r ≡ slt g xs ys
  unfolding slt
  slt_one h k e = e ∙ rw (h, k) (by xs ys h k)
    where
      by : (us vs : List ℕ) → length us ≡ 1 → length vs ≡ 1 → g.and_gate (get_or us 0 0) (g.not_gate (get_or vs 0 0)) ≡ slt g us vs
      by [] vs h k = absurd (omega arith)
      by (u ∷ us) [] h k = absurd (omega arith)
      by (u ∷ u' ∷ us) (v ∷ vs) h k = absurd (omega arith)
      by (u ∷ []) (v ∷ vs) h k = refl

  -- the sign, and the bits below it
  pub slt_more : {b r : ℕ} → 2 ≤ length xs → length xs ≡ length ys → b ≡ bitblast_ult g (take (length xs - 1) xs) (take (length ys - 1) ys)
      → r ≡ sign_step g (get_or xs (length xs - 1) 0) (get_or ys (length ys - 1) 0) b → r ≡ slt g xs ys
  slt_more h same eb er =
      let z : length xs - 1 ≡ suc (length xs - 2) = omega arith in
      er ∙ rw (eb, ← same, z) (slt_at g (length xs - 2) xs ys (omega arith) (omega arith))

-- one bit alone, several under an And
module _ (g : Gates ℕ) where
  pub gather_none : (xs : List ℕ) → length xs < 1 → g.true_gate ≡ gather g xs
  unfolding gather
  gather_none xs h = rw (nil_from_length xs (omega arith)) refl

  pub gather_one : (xs : List ℕ) → 1 ≤ length xs → length xs < 2 → get_or xs 0 0 ≡ gather g xs
  unfolding gather
  gather_one [] h k = absurd (omega arith)
  gather_one (x ∷ []) h k = refl
  gather_one (x ∷ x' ∷ xs) h k = absurd (omega arith)

  pub gather_many : (xs : List ℕ) → 2 ≤ length xs → g.all_gate xs ≡ gather g xs
  unfolding gather
  gather_many [] h = absurd (omega arith)
  gather_many (x ∷ []) h = absurd (omega arith)
  gather_many (x ∷ x' ∷ xs) h = refl
