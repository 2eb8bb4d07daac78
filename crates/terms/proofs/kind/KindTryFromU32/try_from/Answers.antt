-- `Kind::try_from`: where no number of a kind fits, there is no shape.
use mathlib.Core.Path.{refl}
use borrow.Author.Rules.{rules}
use Rattle.terms.proofs.Forms.{none_left}
use Rattle.terms.proofs.kind.KindTryFromU32.try_from.Goals as goal

pub returns-in_default : goal.returns-in_default
returns-in_default c = (refl, none_left (search rules))
