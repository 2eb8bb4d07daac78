use mathlib.Core.Path.{ap, ◌∙◌}
use Rattle.theory.specs.Sort.{sort_width}
use Rattle.operand_rules.proofs.Numbers.{widths, operand_as}
use Rattle.operand_rules.proofs.bits.width_at.Goals as goal

pub returns-clause-bound : goal.returns-clause-bound
returns-clause-bound c = widths (operand_as c.requires (c.width_of.ensures ∙ ap sort_width c.sort_at.ensures))
