-- Moves of bits, as the code has them; and the verdict of a rule that moves bits.
use Rattle.std.specs.Prelude.{ℕ}
use Rattle.theory.specs.Term.{Term}
use Rattle.theory.specs.Sort.{sort_of, sort_width}
use Rattle.theory.specs.Bits.{get_term_bits, bb, moved_bits}
use Rattle.theory.specs.Verdict.{Verdict, held}
use Rattle.theory.specs.Rule.{compare}
use Rattle.theory.specs.Move as M
use Rattle.slice_rules.specs.declared.movement.Move.{Move}

-- the move that the code's stands for
abbrev pub move_of : Move → M.Move
move_of by = record { size = by.size; shift = by.shift; cycle = by.cycle }

-- the verdict on an operand and a claim, by the number in the operation's kind: the claim is the term of the bits moved
abbrev pub moving : (ℕ → ℕ → M.Move) → (ℕ → ℕ) → Term → Term → Verdict
moving move indices x claim = compare held (bb (moved_bits (move (indices 0) (sort_width (sort_of x))) (get_term_bits x))) claim
