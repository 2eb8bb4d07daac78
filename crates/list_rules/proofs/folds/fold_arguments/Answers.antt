use mathlib.Core.Path.{ap, ◌∙◌}
use native.Mathlib.Omega.{arith}
use Rattle.terms.specs.Numbers.{numbers_left}
use Rattle.operand_rules.proofs.Numbers.{bits_length}
use Rattle.list_rules.proofs.Folding.{first_operand, fold_start, fold_operand, fold_turn, fold_end}
use Rattle.list_rules.proofs.folds.fold_arguments.Goals as goal

pub loop-x-init : goal.loop-x-init
loop-x-init g c = (
  omega (arith, bits_length (first_operand c.requires c.split_first-first.ensures.numbers) c.get_term_bits-bits.ensures),
  fold_start c.requires c.split_first-first.ensures.numbers
      (ap numbers_left c.into_iter-x-iterator.ensures.into_iter_gives ∙ c.numbers-x-items.ensures) c.get_term_bits-bits.ensures,
)

pub get_term_bits-bits-requires : goal.get_term_bits-bits-requires
get_term_bits-bits-requires g c = first_operand c.requires c.split_first-first.ensures.numbers

pub get_term_bits-next-requires : goal.get_term_bits-next-requires
get_term_bits-next-requires g c = fold_operand c.loop-x.invariant.1 c.in-Some.ensures.steps

pub combine-bits-requires : goal.combine-bits-requires
combine-bits-requires g c =
    let l = bits_length (fold_operand c.loop-x.invariant.1 c.in-Some.ensures.steps) c.get_term_bits-next.ensures in
    omega (arith, l, c.loop-x.invariant.0)

pub loop-x-preserved : goal.loop-x-preserved
loop-x-preserved g c =
    let made = c.combine-bits.ensures in
    (omega (arith, made.shorter, c.loop-x.invariant.0), fold_turn c.loop-x.invariant.1 c.in-Some.ensures.steps c.get_term_bits-next.ensures made.value)

pub returns : goal.returns
returns g c = fold_end c.loop-x.invariant.1 c.in-None.ensures.steps.0
