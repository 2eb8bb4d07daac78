-- The loops of multiplication: along a row, and over the rows.
use mathlib.Core.Path.{◌≡◌, refl, sym, ap, ◌∙◌}
use mathlib.Core.List.{List, [], ◌∷◌, ◌++◌, map, append-nil}
use mathlib.Core.Logic.{◌⊎◌, inl, inr}
use Prim.Native.Nat.{ℕ, suc, ◌+◌, ◌-◌, ◌<◌, ◌≤◌}
use native.Mathlib.Omega.{arith}
use lib.ListN.{length, take, drop, get_or, length-append, length-map}
use Rattle.std.proofs.lemmas.List.{nil_from_length}
use lib.Seq.{drop-cons, append_snoc}
use Rattle.theory.specs.Gates.{Gates}
use Rattle.theory.specs.Circuit.{sum_bit, next_carry, ripple_carry_adder, partial_products, add_rows, shift_add_multiplier}
use Rattle.circuits.proofs.AddLaws.{adder_next, adder_none, adder_shorter}
use Rattle.circuits.proofs.CompareLaws.{above_first}

module _ (g : Gates ℕ) (y : ℕ) where
  -- ---- along a row
  pub row_next : {s x p c v c' : ℕ} {ss xs ss' xs' : List ℕ} → (ss ≡ s ∷ ss') × (xs ≡ x ∷ xs') → p ≡ g.and_gate y x → v ≡ sum_bit g s p c → c' ≡ next_carry g s p c
      → ripple_carry_adder g c ss (partial_products g y xs) ≡ v ∷ ripple_carry_adder g c' ss' (partial_products g y xs')
  row_next {xs'} h a e f = adder_next g (h.0, ap (partial_products g y) h.1 ∙ ap (λ (z : ℕ). z ∷ partial_products g y xs') (sym a)) e f

  pub row_none : (c : ℕ) {ss xs : List ℕ} → (ss ≡ []) ⊎ (xs ≡ []) → ripple_carry_adder g c ss (partial_products g y xs) ≡ []
  row_none c (inl e) = adder_none g c (inl e)
  row_none c (inr e) = adder_none g c (inr (ap (partial_products g y) e))

-- ---- over the rows: out are bits of the product, sum is what is summed so far above them, and the rows of ys are left
pub record Multiplying (g : Gates ℕ) (xs ys₀ out sum ys : List ℕ) : Type 0 where
  pub says : out ++ add_rows g xs sum ys ≡ shift_add_multiplier g xs ys₀
  pub room : length out + length sum ≤ 64

-- a list with a first bit, whose others are a slice
pub first_above : (xs : List ℕ) → 1 ≤ length xs → xs ≡ get_or xs 0 0 ∷ take (length xs - 1) (drop 1 xs)
first_above xs h = rw (above_first xs) (drop-cons xs 0 0 h)

pub empty_product : (g : Gates ℕ) (xs ys : List ℕ) → length ys < 1 → [] ≡ shift_add_multiplier g xs ys
unfolding shift_add_multiplier
empty_product g xs ys h = rw (nil_from_length ys (omega arith)) refl

module _ {g : Gates ℕ} {xs ys₀ : List ℕ} where
  pub mult_start : (ys : List ℕ) {y : ℕ} {sum : List ℕ} → ys₀ ≡ y ∷ ys → sum ≡ partial_products g y xs → length xs ≤ 64 → Multiplying g xs ys₀ [] sum ys
  unfolding shift_add_multiplier
  mult_start ys {y} e f h = rw (e, f) record { says = refl; room = let n : length (map (g.and_gate y) xs) ≡ length xs = length-map xs (g.and_gate y) in omega (arith, h, n) }

  module _ {out sum ys : List ℕ} where
    pub mult_turn : {s y : ℕ} {above ys' out' sum' : List ℕ} → Multiplying g xs ys₀ out sum ys → sum ≡ s ∷ above → ys ≡ y ∷ ys' → out' ≡ out ++ s ∷ []
        → sum' ≡ ripple_carry_adder g g.false_gate above (partial_products g y xs) → Multiplying g xs ys₀ out' sum' ys'
    unfolding add_rows
    mult_turn {s} {y} {above} {ys'} inv e f o a =
        let z : length (out ++ s ∷ []) ≡ length out + 1 = length-append out (s ∷ []) in
        let n : length sum ≡ suc (length above) = ap length e in
        let k = adder_shorter g g.false_gate above (partial_products g y xs) in
        record {
          says = rw (o, a) (append_snoc out s (add_rows g xs (ripple_carry_adder g g.false_gate above (partial_products g y xs)) ys') ∙ rw (e, f) at inv.says);
          room = rw (o, a) (omega (arith, inv.room, n, k, z));
        }

    -- no bit of the sum is left
    pub mult_stop : Multiplying g xs ys₀ out sum ys → length sum < 1 → out ≡ shift_add_multiplier g xs ys₀
    unfolding add_rows
    mult_stop inv h = sym (append-nil out) ∙ ap (λ (t : List ℕ). out ++ t) (none ys) ∙ rw (nil_from_length sum (omega arith)) at inv.says
      where
        none : (zs : List ℕ) → [] ≡ add_rows g xs [] zs
        none [] = refl
        none (z ∷ zs) = refl

    pub mult_end : {out' : List ℕ} → Multiplying g xs ys₀ out sum ys → ys ≡ [] → out' ≡ out ++ sum → out' ≡ shift_add_multiplier g xs ys₀
    unfolding add_rows
    mult_end inv e o = o ∙ rw e at inv.says
