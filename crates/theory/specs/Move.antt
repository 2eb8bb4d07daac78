-- Lists of bits by their places; and how zero extension, the rotations and repetition move an operand's bits.
use Rattle.std.specs.Prelude.{List, [], ◌∷◌, ℕ, zero, suc, ◌+◌, ◌-◌, ◌*◌, ◌%◌, get_or}

module _ {A : Type 0} where
  -- the list f 0, f 1 .. f (n - 1)
  abbrev pub bits : ℕ → (ℕ → A) → List A
  bits zero f = []
  bits (suc n) f = f 0 ∷ bits n (λ i. f (suc i))

  -- bit i of a list, and d where the list has ended
  abbrev pub bit_of : A → List A → ℕ → A
  bit_of d xs i = get_or xs i d

-- the result has `size` bits; its bit j is the operand's bit (j + shift) modulo cycle, which is 0 where the operand has ended
pub record Move : Type 0 where
  pub size : ℕ
  pub shift : ℕ
  pub cycle : ℕ

-- the bits that a move makes of the bits x 0, x 1 ..
abbrev pub moved : {A : Type 0} → Move → (ℕ → A) → List A
moved v x = bits v.size (λ j. x ((j + v.shift) % v.cycle))

-- ---- by k, of n bits
-- k zeros above: every bit stays
abbrev pub zero_extension : ℕ → ℕ → Move
zero_extension k n = record { size = n + k; shift = 0; cycle = n + k }

-- bit i goes to place i + k modulo n, so bit j comes from place j - k
abbrev pub left_rotation : ℕ → ℕ → Move
left_rotation k n = record { size = n; shift = n - k % n; cycle = n }

-- bit i goes to place i - k modulo n, so bit j comes from place j + k
abbrev pub right_rotation : ℕ → ℕ → Move
right_rotation k n = record { size = n; shift = k % n; cycle = n }

-- k copies, one above the other
abbrev pub repetition : ℕ → ℕ → Move
repetition k n = record { size = k * n; shift = 0; cycle = n }
