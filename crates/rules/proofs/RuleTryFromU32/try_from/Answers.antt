use borrow.Author.Rules.{rules}
use mathlib.Core.Path.{refl}
use Rattle.rules.proofs.Numbered.{no_rule}
use Rattle.rules.proofs.RuleTryFromU32.try_from.Goals as goal

pub returns-in_default : goal.returns-in_default
returns-in_default c = (refl, no_rule c.args.number (search rules))
