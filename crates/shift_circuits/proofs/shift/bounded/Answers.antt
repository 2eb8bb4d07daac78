use mathlib.Core.Path.{refl, ◌∙◌}
use Rattle.circuits.proofs.AppendLaws.{with_right}
use Rattle.shift_circuits.proofs.shift.bounded.Goals as goal

pub returns : goal.returns
returns c = with_right _ _ _ c.ites.ensures c.same_bits-others.ensures c.len.ensures.value ∙ rw (c.bitblast_ult-below.ensures, c.deref.ensures.0, c.deref-2.ensures.0) refl
