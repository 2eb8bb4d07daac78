use mathlib.Core.Path.{ap, ◌∙◌}
use Rattle.std.specs.Iterator.Adapters.{rev_source}
use Rattle.terms.specs.Numbers.{numbers_left}
use Rattle.ternary.proofs.BitLaws.{rowing_start, rowing_turn}
use Rattle.ternary.proofs.bits.row.Goals as goal

pub loop-k-init : goal.loop-k-init
loop-k-init c = rowing_start
    (ap (λ i. numbers_left (rev_source i)) c.into_iter-k-iterator.ensures.into_iter_gives ∙ ap numbers_left c.rev-k-items.ensures.source ∙ c.numbers.ensures)

pub loop-k-preserved : goal.loop-k-preserved
loop-k-preserved c = rowing_turn _ c.loop-k.invariant c.in-Some.ensures.steps c.bit_in.ensures c.join-acc.ensures
