use mathlib.Core.Path.{refl, ap, ◌∙◌}
use Rattle.theory.specs.Bits.{concat_bits}
use Rattle.theory.specs.Verdict.{held}
use Rattle.std.specs.Iterator.Adapters.{rev_source}
use Rattle.terms.specs.Numbers.{numbers_left}
use Rattle.operand_rules.proofs.Numbers.{operand_as, bits_end, bits_length}
use Rattle.store.specs.Kept.{kept_arguments}
use Rattle.slice_rules.proofs.Copying.{join_start, join_operand, join_fits, join_turn, join_end}
use Rattle.slice_rules.proofs.parts.concat_check.Goals as goal

pub loop-x-init : goal.loop-x-init
loop-x-init c = join_start
    (ap (λ i. numbers_left (rev_source i)) c.into_iter-x-iterator.ensures.into_iter_gives ∙ ap numbers_left c.rev-x-items.ensures.source ∙ c.numbers.ensures)
    c.new-bits.ensures

pub width_at-requires : goal.width_at-requires
width_at-requires c = join_operand c.loop-x.invariant _ _ c.in-Some.ensures.steps c.requires refl

pub get_term_bits-requires : goal.get_term_bits-requires
get_term_bits-requires c = operand_as (join_operand c.loop-x.invariant _ _ c.in-Some.ensures.steps c.requires refl) c.width_at.ensures.value

pub append-requires : goal.append-requires
append-requires c =
    let o = join_operand c.loop-x.invariant _ _ c.in-Some.ensures.steps c.requires refl in
    record { room = join_fits c.loop-x.invariant _ _ c.in-Some.ensures.steps c.deref.result.now (bits_length o (c.deref.ensures.0 ∙ c.get_term_bits.ensures)) c.requires.fits }

pub loop-x-preserved : goal.loop-x-preserved
loop-x-preserved c =
    let o = join_operand c.loop-x.invariant _ _ c.in-Some.ensures.steps c.requires refl in
    let e = c.deref.ensures.0 ∙ c.get_term_bits.ensures in
    join_turn c.loop-x.invariant _ _ c.in-Some.ensures.steps c.deref.result.now (bits_length o e) e c.append.ensures

pub returns : goal.returns
returns c =
    bits_end held c.args.kept.now c.requires.claimed (concat_bits (kept_arguments c.args.kept.now c.args.list)) (join_end c.loop-x.invariant c.in-None.ensures.steps.0) c.compare_bits.ensures
