use borrow.Author.Rules.{rules}
use mathlib.Core.Path.{◌∙◌}
use Rattle.theory.specs.RuleTable.{by_var}
use Rattle.theory.specs.Rule.{on_sides}
use Rattle.operand_rules.proofs.Forms.{no_equation, sides}
use Rattle.operand_rules.proofs.variables.var.Goals as goal

pub returns-in_default : goal.returns-in_default
returns-in_default c = no_equation c.term_at.ensures by_var (search rules)

pub returns : goal.returns
unfolding on_sides
returns c = c.var_check.ensures ∙ sides c.term_at.ensures by_var c.in-Equals.is
