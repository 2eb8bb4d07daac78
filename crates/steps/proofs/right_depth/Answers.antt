-- `right_depth`: a literal that is no equation is not accepted, and an equation's right side is its second argument.
use mathlib.Core.Path.{◌∙◌}
use borrow.Author.Rules.{rules}
use Rattle.steps.proofs.Equations.{no_depth, right_of}
use Rattle.steps.proofs.right_depth.Goals as goal

pub returns-in_default : goal.returns-in_default
returns-in_default c = no_depth c.term_at.ensures (search rules)

pub returns : goal.returns
returns c = c.depth_at.ensures.value ∙ right_of c.term_at.ensures c.in-Equals.is
