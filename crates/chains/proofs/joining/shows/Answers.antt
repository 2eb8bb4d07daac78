-- `shows`: the premise's sides are compared by their numbers.
use mathlib.Core.Path.{◌∙◌}
use Rattle.chains.proofs.Joins.{shown}
use Rattle.chains.proofs.joining.shows.Goals as goal

pub returns : goal.returns
returns c = c.eq.ensures ∙ shown c.args.past.now _ _ c.sides_at.ensures.below c.sides_at.ensures.sides _ _ c.requires.left c.requires.right
