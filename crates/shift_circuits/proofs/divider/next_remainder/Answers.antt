use mathlib.Core.Path.{refl, ◌∙◌}
use Rattle.circuits.proofs.AppendLaws.{filled}
use Rattle.shift_circuits.proofs.divider.next_remainder.Goals as goal

pub returns : goal.returns
returns c =
    c.ripple_carry_adder-sum.ensures.bits_value
    ∙ rw (filled _ _ c.same_bits-falses.ensures c.len.ensures.value, c.shift_left-shifted.ensures, c.ite3-one_if_odd.ensures, c.eq2.ensures) refl
