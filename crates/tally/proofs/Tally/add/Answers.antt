-- Each field is counted by its call.
use Rattle.std.proofs.Common.{refl}
use Rattle.theory.specs.Tally.{tally_after}
use Rattle.tally.proofs.Tally.add.Goals as goal

pub returns : goal.returns
unfolding tally_after
returns c = rw (
  c.saturating_add-self.ensures,
  c.saturating_add-self-2.ensures,
  c.saturating_add-self-3.ensures,
  c.saturating_add-self-4.ensures,
  c.of.ensures,
  c.of-2.ensures,
  c.of-3.ensures,
  c.new-counted.ensures,
) refl
