use borrow.Author.Rules.{rules}
use native.Mathlib.Omega.{arith}
use mathlib.Core.Path.{refl, sym, ap, ◌∙◌}
use lib.ListN.{length-set}
use Rattle.std.specs.Prelude as rust
use Rattle.words.proofs.ReadLaws.{fits_in, fits_not, told_none, told_some}
use Rattle.names.proofs.MarkLaws.{rest_none, rest_some}
use Rattle.writer.proofs.Moves.{moved_on}
use Rattle.reader.proofs.ReaderLaws.{no_head, at_leaf}
use Rattle.reader.proofs.TermLaws.{at_zero, at_none, branch_reads}
use Rattle.reader.proofs.LoopLaws.{fills, fills_few, one_longer, goes_on, goes_out, goes_over, goes_bad, goes_large}
use Rattle.reader.proofs.reading.+read_arguments_read_term.Goals as goal

pub read_arguments-loop-count-init : goal.read_arguments-loop-count-init
read_arguments-loop-count-init t c = fills _ (search rules) c.requires.empty

pub read_arguments-returns-in-Some : goal.read_arguments-returns-in-Some
read_arguments-returns-in-Some t c = record {
  moved = c.loop-count.invariant.going.moved;
  few = fills_few c.loop-count.invariant;
  lists = goes_out c.loop-count.invariant.going (rest_some _ c.right_after.ensures c.in-Some.is);
}

pub read_arguments-returns-in_err-term : goal.read_arguments-returns-in_err-term
read_arguments-returns-in_err-term t c =
    let inv = c.loop-count.invariant.going in
    rw c.from_residual.ensures (record {
      moved = moved_on inv.moved c.read_term.ensures.moved;
      few = fills_few c.loop-count.invariant;
      lists = goes_bad inv c.read_term.new.writer c.read_term.result (rest_none _ c.right_after.ensures c.in_default.is) c.loop-count-test.true c.read_term.ensures.reads c.in_err-term.was;
    })

pub read_arguments-returns-in_err-number : goal.read_arguments-returns-in_err-number
read_arguments-returns-in_err-number t c =
    let inv = c.loop-count.invariant.going in
    let large = fits_not _ c.try_from.ensures c.ok.ensures.value c.in_err-number.was in
    rw c.from_residual-in_err-number.ensures (record {
      moved = moved_on inv.moved c.read_term.ensures.moved;
      few = fills_few c.loop-count.invariant;
      lists = goes_large inv c.read_term.new.writer c.read_term.result (rest_none _ c.right_after.ensures c.in_default.is) c.loop-count-test.true c.read_term.ensures.reads c.in_ok-term.was large;
    })

pub read_arguments-loop-count-preserved : goal.read_arguments-loop-count-preserved
read_arguments-loop-count-preserved t c =
    let f = c.loop-count.invariant in
    record {
      long = length-set _ _ _ ∙ f.long;
      filled = refl;
      going = goes_on f.going c.read_term.new.writer c.read_term.result (rest_none _ c.right_after.ensures c.in_default.is) c.loop-count-test.true c.read_term.ensures.reads c.in_ok-term.was
          c.read_term.ensures.moved (fits_in _ c.try_from.ensures c.ok.ensures.value c.in_ok-number.was) (one_longer _ f.long f.filled c.loop-count-test.true _);
    }

pub read_arguments-returns-in_err-list : goal.read_arguments-returns-in_err-list
read_arguments-returns-in_err-list t c =
    let inv = c.loop-count.invariant.going in
    let few = inv.few in
    rw c.from_residual-in_err-list.ensures (record {
      moved = inv.moved;
      few = fills_few c.loop-count.invariant;
      lists = goes_over inv (rest_none _ c.right_after-2.ensures c.in_err-list.was) (omega arith);
    })

pub read_arguments-returns : goal.read_arguments-returns
read_arguments-returns t c = record {
  moved = c.loop-count.invariant.going.moved;
  few = fills_few c.loop-count.invariant;
  lists = goes_out c.loop-count.invariant.going (rest_some _ c.right_after-2.ensures c.in_ok-list.was);
}

pub read_term-returns-in_err-operator-clause-reads : goal.read_term-returns-in_err-operator-clause-reads
read_term-returns-in_err-operator-clause-reads t c = rw c.from_residual.ensures (sym (no_head _ _ _ _ _ (told_none _ _ c.begin.ensures c.in_err-operator.was)))

pub read_term-returns-then-nesting-eq0-clause-reads : goal.read_term-returns-then-nesting-eq0-clause-reads
read_term-returns-then-nesting-eq0-clause-reads t c = sym (at_zero _ _ _ _ _ _ _ c.if-nesting-eq0.true (told_some _ _ c.begin.ensures (c.in_ok-operator.was ∙ ap rust.Some c.in-Branch.is)))

pub read_term-returns-in_err-read_arguments-in-Branch-clause-reads : goal.read_term-returns-in_err-read_arguments-in-Branch-clause-reads
read_term-returns-in_err-read_arguments-in-Branch-clause-reads t c =
    rw c.from_residual-in_err-read_arguments-in-Branch.ensures
    (sym (at_none _ _ _ _ _ _ _ c.if-nesting-eq0.false (told_some _ _ c.begin.ensures (c.in_ok-operator.was ∙ ap rust.Some c.in-Branch.is)) (told_none _ _ c.read_arguments.ensures.lists c.in_err-read_arguments-in-Branch.was)))

pub read_term-returns-in-Leaf-clause-reads : goal.read_term-returns-in-Leaf-clause-reads
read_term-returns-in-Leaf-clause-reads t c = c.finish_leaf.ensures.reads ∙ sym (at_leaf _ _ _ _ _ _ _ (told_some _ _ c.begin.ensures (c.in_ok-operator.was ∙ ap rust.Some c.in-Leaf.is)))

pub read_term-returns-in_ok-read_arguments-in-Branch : goal.read_term-returns-in_ok-read_arguments-in-Branch
read_term-returns-in_ok-read_arguments-in-Branch t c = record {
  moved = moved_on c.read_arguments.ensures.moved c.finish.ensures.moved;
  reads = branch_reads _ _ _ _ _ c.args.writer.now c.read_arguments.new.writer c.finish.new.writer c.read_arguments.new.list c.finish.result c.if-nesting-eq0.false (told_some _ _ c.begin.ensures (c.in_ok-operator.was ∙ ap rust.Some c.in-Branch.is))
      c.read_arguments.ensures.moved c.read_arguments.ensures.lists c.in_ok-read_arguments-in-Branch.was c.finish.ensures.reads;
}
