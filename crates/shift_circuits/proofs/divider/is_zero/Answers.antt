use mathlib.Core.Path.{ap, ◌∙◌}
use Rattle.store.specs.Lookup.{gates}
use Rattle.circuits.proofs.AppendLaws.{with_right}
use Rattle.shift_circuits.proofs.divider.is_zero.Goals as goal

pub returns : goal.returns
returns c = c.all_of.ensures ∙ ap (gates c.args.lookup.now).all_gate (c.as_slice.ensures.value ∙ with_right _ _ _ c.eqs-bits.ensures c.same_bits-falses.ensures c.len.ensures.value)
