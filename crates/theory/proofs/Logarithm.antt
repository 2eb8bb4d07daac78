-- The width's logarithm, rounded up, from the place of the highest set bit and the count of the set bits. Assumes nothing.
use mathlib.Core.Path.{◌≡◌, sym, ap, subst, ◌∙◌}
use mathlib.Core.Logic.{⊎_elim}
use Prim.Native.Nat.{ℕ, zero, suc, ◌+◌, ◌-◌, ◌*◌, ◌/◌, ◌^◌, ◌≤◌, ◌<◌}
use native.Mathlib.Omega.{arith}
use native.Mathlib.Nat.{pow-suc, eq-or-lt_of_le}
use lib.Count.{ones, ones_step, ones_cat, count_leading_zeros, leading_top}
use lib.Pow.{pow_mono, pow-lt}
use borrow.Author.Tests.{le-leb, lt-leb}
use Rattle.theory.specs.Circuit.{clog2, clog2_from}
use Rattle.theory.proofs.Shift.{lt_two_pow}

-- the count up from k stops at m, where n is at most 2 ^ m and above every smaller power
module _ (n m : ℕ) (above : n ≤ 2 ^ m) (least : (j : ℕ) → j < m → 2 ^ j < n) where
  stops : (fuel k : ℕ) → k ≤ m → m ≤ fuel + k → clog2_from fuel k n ≡ m
  stops zero k low high = omega arith
  stops (suc fuel) k low high =
      ⊎_elim (λ e. here e) (λ h. further h (stops fuel (suc k) h (omega arith))) (eq-or-lt_of_le low)
    where
      here : k ≡ m → clog2_from (suc fuel) k n ≡ m
      here e = rw (le-leb n (2 ^ k) (subst (λ (j : ℕ). n ≤ 2 ^ j) (sym e) above), clog2_from) e

      further : k < m → clog2_from fuel (suc k) n ≡ m → clog2_from (suc fuel) k n ≡ m
      further h next = rw (lt-leb n (2 ^ k) (least k h), clog2_from) next

  clog2_is : m ≤ n → clog2 n ≡ m
  unfolding clog2
  clog2_is h = stops n 0 (omega arith) (omega arith)

-- a power of two, and what lies between two
clog2_power : (n j : ℕ) → n ≡ 2 ^ j → clog2 n ≡ j
clog2_power n j e = clog2_is n j (omega arith) (λ i h. omega (arith, pow-lt h)) (omega (arith, lt_two_pow j))

clog2_between : (n j : ℕ) → 2 ^ j < n → n < 2 ^ suc j → clog2 n ≡ suc j
clog2_between n j low high =
    clog2_is n (suc j) (omega arith) (λ i h. omega (arith, pow_mono (below h))) (omega (arith, lt_two_pow j))
  where
    below : {i : ℕ} → i < suc j → i ≤ j
    below h = omega arith

-- a number with no bit set is 0
none : (k n : ℕ) → n < 2 ^ k → ones n ≡ 0 → n ≡ 0
none zero n h e = omega arith
none (suc k) n h e = let h' = rw pow-suc at h in let s = ones_step n in omega (arith, none k (n / 2) (omega arith) (omega arith))

-- below 2 ^ suc j, with bit j set: that bit counts one, and what is left the others
ones_top : (n j : ℕ) → 2 ^ j ≤ n → n < 2 ^ suc j → ones n ≡ 1 + ones (n - 2 ^ j)
unfolding ones
ones_top n j low high =
    let h = rw pow-suc at high in
    let e : n ≡ 1 * 2 ^ j + (n - 2 ^ j) = omega arith in
    ap ones e ∙ ones_cat j 1 (n - 2 ^ j) (omega arith)

-- so a power of two has one bit set
ones_power : (j : ℕ) → ones (2 ^ j) ≡ 1
unfolding ones
ones_power j =
    let e : 2 ^ j - 2 ^ j ≡ 0 = omega arith in
    let l : j < suc j = omega arith in
    ones_top (2 ^ j) j (omega arith) (pow-lt l) ∙ ap (λ (k : ℕ). 1 + ones k) e

module _ (n : ℕ) (some : 0 < n) (fits : n < 2 ^ 64) where
  -- some bit is set, so that at most 63 zeros stand above it
  pub zeros_below : count_leading_zeros 64 n ≤ 63
  zeros_below = let t = leading_top 64 n some fits in omega arith

  -- where one bit is set
  pub one_set : ones n ≡ 1 → 63 - count_leading_zeros 64 n ≡ clog2 n
  one_set e =
      let t = leading_top 64 n some fits in
      let j = t.0 in
      let h = rw pow-suc at t.3 in
      let s = ones_top n j t.2 t.3 in
      let z = none j (n - 2 ^ j) (omega arith) (omega arith) in
      omega (arith, clog2_power n j (omega arith))

  -- where more than one is
  pub more_set : (ones n ≡ 1 → ⊥) → 63 - count_leading_zeros 64 n + 1 ≡ clog2 n
  more_set ne =
      let t = leading_top 64 n some fits in
      let j = t.0 in
      let above = ⊎_elim (λ e. absurd (ne (ap ones (sym e) ∙ ones_power j))) (λ l. l) (eq-or-lt_of_le t.2) in
      omega (arith, clog2_between n j above t.3)
