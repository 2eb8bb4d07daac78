use borrow.Author.Rules.{rules}
use mathlib.Core.Path.{sym, ◌∙◌}
use native.Mathlib.Numerals.{add-one}
use lib.ListN.{drop_of_length-le}
use lib.Seq.{drop-cons}
use Rattle.circuits.proofs.AppendLaws.{with_left}
use Rattle.circuits.proofs.MultiplyLaws.{mult_start, mult_turn, mult_stop, mult_end, first_above, empty_product}
use Rattle.circuits.proofs.multiplier.shift_add_multiplier.Goals as goal

pub returns-in_default : goal.returns-in_default
returns-in_default c = c.new-out.ensures ∙ empty_product _ _ c.args.y.now.items (search rules)

pub loop-bit-init : goal.loop-bit-init
loop-bit-init c = rw c.new-out.ensures
    (mult_start _ (sym c.as_slice.ensures.value ∙ first_above c.as_slice.result.now c.in-len1-up.len_at_least)
    (with_left _ _ _ c.ands-sum.ensures c.same_bits-low.ensures c.len.ensures.value) (search rules))

pub loop-bit-preserved : goal.loop-bit-preserved
loop-bit-preserved c = let l = c.loop-bit in
    mult_turn l.invariant (sym c.as_slice-in-loop-bit.ensures.value ∙ first_above c.as_slice-in-loop-bit.result.now c.in-len1-up-as_slice.len_at_least)
    (rw add-one (drop-cons _ l.bit-index 0 c.loop-bit-test.true)) c.push.ensures.items c.add_row-sum.ensures

pub returns-in_default-as_slice : goal.returns-in_default-as_slice
returns-in_default-as_slice c = mult_stop c.loop-bit.invariant (search rules)

pub returns : goal.returns
returns c = mult_end c.loop-bit.invariant (drop_of_length-le _ c.loop-bit-test.false) (search rules)
