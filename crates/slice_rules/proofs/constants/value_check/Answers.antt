use mathlib.Core.Path.{sym, ap, ◌∙◌}
use native.Mathlib.Omega.{arith}
use Rattle.std.specs.Iterator.Adapters.{rev_source}
use Rattle.terms.specs.Numbers.{numbers_left}
use Rattle.terms.proofs.Lists.{words_few}
use Rattle.slice_rules.proofs.Literals.{sum_start, sum_small, bit_fits, sum_turn, sum_lost}
use Rattle.slice_rules.proofs.constants.value_check.Goals as goal

pub loop-x-init : goal.loop-x-init
loop-x-init c = sum_start
    (ap (λ i. numbers_left (rev_source i)) c.into_iter-x-iterator.ensures.into_iter_gives ∙ ap numbers_left c.rev-x-items.ensures.source ∙ c.numbers.ensures)
    (words_few c.args.job.now c.args.list c.requires)

pub returns-in_default : goal.returns-in_default
returns-in_default c = sum_lost c.loop-x.invariant _ _ c.in-Some.ensures.steps _ (sym c.literal_bit.ensures ∙ c.in_default.is)

pub overflow_mul-sum : goal.overflow_mul-sum
overflow_mul-sum c = omega (arith, sum_small c.loop-x.invariant _ _ c.in-Some.ensures.steps)

pub overflow_add-sum : goal.overflow_add-sum
overflow_add-sum c = omega (arith, bit_fits c.loop-x.invariant _ _ c.in-Some.ensures.steps _ c.from.ensures)

pub loop-x-preserved : goal.loop-x-preserved
loop-x-preserved c = sum_turn c.loop-x.invariant _ _ c.in-Some.ensures.steps (sym c.literal_bit.ensures ∙ c.in-Some-literal_bit.is) c.from.ensures
