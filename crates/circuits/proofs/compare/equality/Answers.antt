use mathlib.Core.Path.{ap, ◌∙◌}
use Rattle.theory.specs.Circuit.{gather}
use Rattle.circuits.proofs.CompareLaws.{gather_none, gather_one, gather_many}
use Rattle.circuits.proofs.compare.equality.Goals as goal

pub returns-in-empty : goal.returns-in-empty
returns-in-empty c = gather_none _ c.as_slice.result.now c.in-empty.len_below ∙ ap (gather _) (c.as_slice.ensures.value ∙ c.eqs-bits.ensures)

pub returns-in-len1 : goal.returns-in-len1
returns-in-len1 c = gather_one _ c.as_slice.result.now c.in-len1.len_at_least c.in-len1.len_below ∙ ap (gather _) (c.as_slice.ensures.value ∙ c.eqs-bits.ensures)

pub returns-in_default : goal.returns-in_default
returns-in_default c = c.all_of.ensures ∙ gather_many _ c.as_slice.result.now c.in_default.len_at_least ∙ ap (gather _) (c.as_slice.ensures.value ∙ c.eqs-bits.ensures)
