-- `kept_before`: the origin of a term that is there is 0, or one more than where its row's record stands.
use mathlib.Core.Path.{ap, ◌∙◌}
use Prim.Native.Nat.{ℕ}
use lib.Dec.{ltb}
use Rattle.chains.proofs.Standing.{first_before, absent_before, row_before}
use Rattle.chains.proofs.premises.Past.kept_before.Goals as goal

pub returns-then-p-lt-FIRST_PLACE : goal.returns-then-p-lt-FIRST_PLACE
returns-then-p-lt-FIRST_PLACE c = first_before _ _ _ _ _ c.if-p-lt-FIRST_PLACE.true

pub returns-then-self-p : goal.returns-then-self-p
returns-then-self-p c = absent_before _ _ _ _ _ c.if-p-lt-FIRST_PLACE.false c.if-self-p.true

pub returns : goal.returns
returns c = ap (λ (o : ℕ). ltb o c.args.at) c.offset_at.ensures.value ∙ row_before _ _ _ _ _ c.if-p-lt-FIRST_PLACE.false c.if-self-p.false
