-- The signed value of n bits, by its top bit: what the weight of that bit, −1 shifted up, and the lower bits add up to. Assumes nothing.
use mathlib.Core.Path.{◌≡◌, refl, sym, ap, ap₂, subst, ◌∙◌}
use mathlib.Core.Bool.{Bool, true, false, and-false, cond}
use Prim.Native.Nat.{ℕ, suc, ◌+◌, ◌-◌, ◌*◌, ◌/◌, ◌%◌, ◌^◌, ◌≤◌, ◌<◌}
use native.Mathlib.Omega.{arith}
use native.Mathlib.Nat.{mod-lt, one-mul}
use lib.Dec.{lit<, leb}
use lib.IntN.{ℤ, pos, negsuc, sub_ℕ, ◌+ℤ◌}
use lib.Signed.{lt_z}
use lib.Pow.{pow_pos, pow_mono, shl_exact, suc_ones, low}
use mir.Syntax.{w64}
use mir.Val.{SFits, to_z}
use mir.Facts.{to_z_pos, to_z-neg}
use borrow.Author.Tests.{eq-eqb, ne_eqb, lt-ltb, le-ltb, le-leb, lt-leb}
use Rattle.theory.specs.Limit.{max_width}
use Rattle.theory.specs.Sort.{is_width}
use Rattle.theory.specs.Value.{bit, bit_at, signed}

-- a − b, where it is −(k + 1), and where it is k
module _ (a b : ℕ) {k : ℕ} where
  less : a + suc k ≡ b → sub_ℕ a b ≡ negsuc k
  less e =
      let l : b - suc a ≡ k = omega arith in
      ap (λ (t : Bool). cond t (negsuc (b - suc a)) (pos (a - b))) (lt-ltb a b (omega arith)) ∙ ap negsuc l

  more : k + b ≡ a → sub_ℕ a b ≡ pos k
  more e =
      let l : a - b ≡ k = omega arith in
      ap (λ (t : Bool). cond t (negsuc (b - suc a)) (pos (a - b))) (le-ltb a b (omega arith)) ∙ ap pos l

-- by the test of the top bit
by_bit : (n x : ℕ) (b : Bool) → bit_at (n - 1) x ≡ b → signed n x ≡ sub_ℕ (x % 2 ^ (n - 1)) (bit b * 2 ^ (n - 1))
unfolding signed
by_bit n x b e = ap (λ (t : Bool). sub_ℕ (x % 2 ^ (n - 1)) (bit t * 2 ^ (n - 1))) e

wrap : (v q : ℕ) → q ≤ v → v * suc q ≡ q * suc v + (suc v - suc q)
wrap v q h = omega arith

-- −1 shifted up, read as 64 bits, is −(q + 1)
minus : (p q : ℕ) → suc q ≡ p → q < 2 ^ 63 → to_z w64 (((2 ^ 64 - 1) * p) % 2 ^ 64) ≡ negsuc q
minus p q e h =
    ap (λ (z : ℕ). to_z w64 (((2 ^ 64 - 1) * z) % 2 ^ 64)) (sym e)
    ∙ ap (λ (z : ℕ). to_z w64 (z % 2 ^ 64)) (wrap (2 ^ 64 - 1) q (omega arith))
    ∙ ap (to_z w64) (low q 64 (omega arith))
    ∙ to_z-neg w64 q h

module _ (n x : ℕ) (some : n ≡ 0 → ⊥) (most : n ≤ 64) where
  -- 1 and −1 shifted up by n − 1
  abbrev up : ℕ
  up = (1 * 2 ^ (n - 1)) % 2 ^ 64

  abbrev down : ℕ
  down = ((2 ^ 64 - 1) * 2 ^ (n - 1)) % 2 ^ 64

  up_is : up ≡ 2 ^ (n - 1)
  up_is = shl_exact 1 (n - 1) 64 (lit< tt) (omega arith) ∙ one-mul (2 ^ (n - 1))

  half : 2 ^ (n - 1) ≤ 2 ^ 63
  half = let m : n - 1 ≤ 63 = omega arith in pow_mono m

  pub up_some : 0 < up
  up_some = rw up_is (pow_pos (n - 1))

  -- the lower bits
  pub low_fits : x % up < 2 ^ 63
  low_fits = rw up_is (omega (arith, half, mod-lt x (pow_pos (n - 1))))

  low_is : to_z w64 (x % up) ≡ pos (x % 2 ^ (n - 1))
  low_is = to_z_pos w64 low_fits ∙ ap (λ (h : ℕ). pos (x % h)) up_is

  sum_is : to_z w64 down +ℤ to_z w64 (x % up) ≡ sub_ℕ (x % 2 ^ (n - 1)) (1 * 2 ^ (n - 1))
  sum_is =
      let e : suc (2 ^ (n - 1) - 1) ≡ 1 * 2 ^ (n - 1) = omega (arith, pow_pos (n - 1)) in
      ap₂ (λ (a b : ℤ). a +ℤ b) (minus (2 ^ (n - 1)) _ (suc_ones (n - 1)) (omega (arith, half, pow_pos (n - 1)))) low_is
      ∙ ap (sub_ℕ (x % 2 ^ (n - 1))) e

  pub sum_fits : SFits w64 (to_z w64 down +ℤ to_z w64 (x % up))
  sum_fits =
      let l = mod-lt x (pow_pos (n - 1)) in
      let h = half in
      let e : sub_ℕ (x % 2 ^ (n - 1)) (1 * 2 ^ (n - 1)) ≡ negsuc (2 ^ (n - 1) - suc (x % 2 ^ (n - 1)))
      = less (x % 2 ^ (n - 1)) (1 * 2 ^ (n - 1)) (omega arith) in
      subst (SFits w64) (sym (sum_is ∙ e)) (record { sfits = omega arith })

  -- the top bit is set
  pub set : x / 2 ^ (n - 1) % 2 ≡ 1 → to_z w64 down +ℤ to_z w64 (x % up) ≡ signed n x
  set e = sum_is ∙ sym (by_bit n x true (eq-eqb _ 1 e))

  -- it is not
  pub clear : (x / 2 ^ (n - 1) % 2 ≡ 1 → ⊥) → to_z w64 (x % up) ≡ signed n x
  clear ne = low_is ∙ sym (by_bit n x false (ne_eqb _ 1 ne) ∙ more (x % 2 ^ (n - 1)) (0 * 2 ^ (n - 1)) (omega arith))

-- ---- a width, and none
module _ {A : Type 0} (n : ℕ) (a b : A) where
  -- by the test of it
  by_width : {t : Bool} → is_width n ≡ t → cond t a b ≡ cond (is_width n) a b
  by_width e = sym (ap (λ (t : Bool). cond t a b) e)

  pub wide_enough : 1 ≤ n → n ≤ max_width → {r : A} → r ≡ a → r ≡ cond (is_width n) a b
  wide_enough h l e = let w : is_width n ≡ true = rw (le-leb 1 n h, le-leb n max_width l) in e ∙ by_width w

  pub too_narrow : n ≡ 0 → b ≡ cond (is_width n) a b
  too_narrow e = let w : is_width n ≡ false = ap is_width e in by_width w

  pub too_wide : max_width < n → b ≡ cond (is_width n) a b
  too_wide h = let w : is_width n ≡ false = rw (lt-leb n max_width h) (and-false (leb 1 n)) in by_width w

-- two signed values compared
pub by_both : (n x y : ℕ) {a b : ℤ} → a ≡ cond (is_width n) (signed n x) (pos 0) → b ≡ cond (is_width n) (signed n y) (pos 0)
    → lt_z a b ≡ cond (is_width n) (lt_z (signed n x) (signed n y)) false
by_both n x y e f = ap₂ lt_z e f ∙ go (is_width n)
  where
    go : (t : Bool) → lt_z (cond t (signed n x) (pos 0)) (cond t (signed n y) (pos 0)) ≡ cond t (lt_z (signed n x) (signed n y)) false
    go true = refl
    go false = refl
