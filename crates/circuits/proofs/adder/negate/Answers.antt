use mathlib.Core.Path.{refl, ◌∙◌}
use Rattle.circuits.proofs.AppendLaws.{filled}
use Rattle.circuits.proofs.adder.negate.Goals as goal

pub returns : goal.returns
returns c = c.ripple_carry_adder-sum.ensures.bits_value ∙ rw (c.nots-inverted.ensures, filled _ _ c.same_bits-falses.ensures c.len.ensures.value) refl
