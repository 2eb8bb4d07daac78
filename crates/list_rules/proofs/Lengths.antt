-- No circuit of this crate makes more bits than its first operand has.
use Prim.Native.Nat.{ℕ, ◌≤◌}
use mathlib.Core.List.{List, [], ◌∷◌}
use native.Mathlib.Omega.{arith}
use lib.ListN.{length, length-map}
use Rattle.theory.specs.Gates.{Gates}
use Rattle.theory.specs.Circuit.{zip_with, next_carry, ripple_carry_adder, partial_products, add_rows, shift_add_multiplier}

pub zip_shorter : (f : ℕ → ℕ → ℕ) (xs ys : List ℕ) → length (zip_with f xs ys) ≤ length xs
unfolding zip_with
zip_shorter f [] ys = omega arith
zip_shorter f (x ∷ xs) [] = omega arith
zip_shorter f (x ∷ xs) (y ∷ ys) = omega (arith, zip_shorter f xs ys)

module _ (g : Gates ℕ) where
  pub adder_shorter : (c : ℕ) (xs ys : List ℕ) → length (ripple_carry_adder g c xs ys) ≤ length xs
  unfolding ripple_carry_adder
  adder_shorter c [] ys = omega arith
  adder_shorter c (x ∷ xs) [] = omega arith
  adder_shorter c (x ∷ xs) (y ∷ ys) = omega (arith, adder_shorter (next_carry g x y c) xs ys)

  rows_shorter : (xs sum ys : List ℕ) → length (add_rows g xs sum ys) ≤ length sum
  unfolding add_rows
  rows_shorter xs sum [] = omega arith
  rows_shorter xs [] (y ∷ ys) = omega arith
  rows_shorter xs (a ∷ sum) (y ∷ ys) =
      let above = ripple_carry_adder g g.false_gate sum (partial_products g y xs) in
      omega (arith, rows_shorter xs above ys, adder_shorter g.false_gate sum (partial_products g y xs))

  pub multiplier_shorter : (xs ys : List ℕ) → length (shift_add_multiplier g xs ys) ≤ length xs
  unfolding shift_add_multiplier
  multiplier_shorter xs [] = omega arith
  multiplier_shorter xs (y ∷ ys) = omega (arith, rows_shorter xs (partial_products g y xs) ys, length-map xs (g.and_gate y))
