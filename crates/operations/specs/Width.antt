-- Widths, and numbers that have them.
use Rattle.std.specs.Prelude.{ℕ, ◌^◌, ◌<◌, ◌≤◌}
use Rattle.theory.specs.Move.{Move}

-- n is a width
pub record Wide (n : ℕ) : Type 0 where
  pub least : 1 ≤ n
  pub most : n ≤ 64

-- x is a number of n bits
pub record Fits (n x : ℕ) : Type 0 where
  pub wide : Wide n
  pub below : x < 2 ^ n

-- x and y are
pub record Both (n x y : ℕ) : Type 0 where
  pub wide : Wide n
  pub first : x < 2 ^ n
  pub second : y < 2 ^ n

-- every bit of n goes s places down, modulo n
abbrev pub turn : ℕ → ℕ → Move
turn n s = record { size = n; shift = s; cycle = n }
