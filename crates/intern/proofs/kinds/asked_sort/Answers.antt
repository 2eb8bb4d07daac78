-- `asked_sort`: each case by what it asks.
use mathlib.Core.Path.{sym, ap, ◌∙◌}
use mathlib.Core.Bool.{Bool}
use Prim.Native.Nat.{ℕ}
use native.Mathlib.Omega.{arith}
use lib.ListN.{length-map}
use Rattle.theory.specs.Sort.{bool, bv, guard, sort_of}
use Rattle.theory.proofs.Places.{tree_at}
use Rattle.store.specs.Sorts.{sort_or_bad}
use Rattle.store.proofs.Arguments.{count_length}
use Rattle.intern.specs.Given.{argument_sorts, given_terms, places}
use Rattle.intern.proofs.Arguing.{count_few}
use Rattle.intern.proofs.Asking.{asked, asked_bits, asked_alike}
use Rattle.intern.proofs.Guarding.{tested, unfit}
use Rattle.intern.proofs.kinds.asked_sort.Goals as goal

pub overflow_cast-count : goal.overflow_cast-count
overflow_cast-count c = let a = c.args.args.now in let l = count_length a.kept.lookup.job.now a.list in
    omega (arith, count_few a.kept.lookup.job.now a.list a.placed, c.count.ensures)

pub returns-in-Bools : goal.returns-in-Bools
returns-in-Bools c = asked (argument_sorts c.args.args.now) c.in-Bools.is (tested _ _ c.then_some.ensures ∙ ap (λ (b : Bool). guard b bool) c.all_are.ensures)

pub returns-in-Same : goal.returns-in-Same
returns-in-Same c = asked (argument_sorts c.args.args.now) c.in-Same.is (tested _ _ c.then_some-in-Same.ensures ∙ ap (λ (b : Bool). guard b bool) c.one_sort.ensures)

pub returns-in-Bits : goal.returns-in-Bits
returns-in-Bits c = let a = c.args.args.now in
    asked_bits (argument_sorts a) c.in-Bits.is c.all_are-in-Bits.ensures
    (c.count.ensures ∙ sym (length-map (places a) (λ (k : ℕ). sort_of (tree_at (given_terms a) k)))) (tested _ _ c.then_some-in-Bits.ensures)

pub returns-in_ok-s-in-Alike : goal.returns-in_ok-s-in-Alike
returns-in_ok-s-in-Alike c = asked_alike (argument_sorts c.args.args.now) c.in-Alike.is c.all_alike.ensures
    (ap sort_or_bad (sym c.in_ok-s-in-Alike.was) ∙ c.first_sort-in-Alike.ensures) (tested _ _ c.then_some-in-Alike.ensures)

pub returns-in-Order : goal.returns-in-Order
returns-in-Order c = asked (argument_sorts c.args.args.now) c.in-Order.is (tested _ _ c.then_some-in-Order.ensures ∙ ap (λ (b : Bool). guard b bool) c.all_alike-in-Order.ensures)

pub returns-in-Compare : goal.returns-in-Compare
returns-in-Compare c = asked (argument_sorts c.args.args.now) c.in-Compare.is (tested _ _ c.then_some-in-Compare.ensures ∙ ap (λ (b : Bool). guard b (bv 1)) c.all_alike-in-Compare.ensures)

-- no sort where there is no argument
pub returns-in_err-first_sort-in-Bit : goal.returns-in_err-first_sort-in-Bit
returns-in_err-first_sort-in-Bit c =
    ap sort_or_bad c.from_residual.ensures ∙ asked (argument_sorts c.args.args.now) c.in-Bit.is (unfit (ap sort_or_bad (sym c.in_err-first_sort-in-Bit.was) ∙ c.first_sort.ensures) _ _)

pub returns-in_err-s-in-Alike : goal.returns-in_err-s-in-Alike
returns-in_err-s-in-Alike c =
    ap sort_or_bad c.from_residual-in_err-s-in-Alike.ensures ∙ asked (argument_sorts c.args.args.now) c.in-Alike.is (unfit (ap sort_or_bad (sym c.in_err-s-in-Alike.was) ∙ c.first_sort-in-Alike.ensures) _ _)

pub returns-in_err-first_sort-in-Extract : goal.returns-in_err-first_sort-in-Extract
returns-in_err-first_sort-in-Extract c =
    ap sort_or_bad c.from_residual-in_err-first_sort-in-Extract.ensures ∙ asked (argument_sorts c.args.args.now) c.in-Extract.is (unfit (ap sort_or_bad (sym c.in_err-first_sort-in-Extract.was) ∙ c.first_sort-in-Extract.ensures) _ _)

pub returns-in_err-first_sort-in-Extend : goal.returns-in_err-first_sort-in-Extend
returns-in_err-first_sort-in-Extend c =
    ap sort_or_bad c.from_residual-in_err-first_sort-in-Extend.ensures ∙ asked (argument_sorts c.args.args.now) c.in-Extend.is (unfit (ap sort_or_bad (sym c.in_err-first_sort-in-Extend.was) ∙ c.first_sort-in-Extend.ensures) _ _)

pub returns-in_err-first_sort-in-Copies : goal.returns-in_err-first_sort-in-Copies
returns-in_err-first_sort-in-Copies c =
    ap sort_or_bad c.from_residual-in_err-first_sort-in-Copies.ensures ∙ asked (argument_sorts c.args.args.now) c.in-Copies.is (unfit (ap sort_or_bad (sym c.in_err-first_sort-in-Copies.was) ∙ c.first_sort-in-Copies.ensures) _ _)
