use borrow.Author.Rules.{rules}
use mathlib.Core.Path.{◌≡◌, refl, sym, ap, ◌∙◌}
use mathlib.Core.Logic.{inl}
use native.Mathlib.Omega.{arith}
use lib.ListN.{length}
use Rattle.std.specs.Prelude.{Err}
use Rattle.std.specs.Result.{result_ok}
use Rattle.std.specs.Iterator.Adapters.{enumerate_source, enumerate_count}
use Rattle.text.specs.Convert.{lines}
use Rattle.names.specs.Lines.{lines_left}
use Rattle.names.proofs.LineLaws.{lines_few}
use Rattle.writer.proofs.Moves.{moved_on}
use Rattle.convert.proofs.TextLaws.{running_start, follows, running_on, running_refused, running_end}
use Rattle.convert.proofs.take_lines.Goals as goal

pub loop-k-init-derived : goal.loop-k-init-derived
loop-k-init-derived c =
    let few = lines_few c.args.text.now in
    let is : lines_left (enumerate_source c.into_iter-k-iterator.result) ≡ lines c.args.text.now
    = ap (λ i. lines_left (enumerate_source i)) c.into_iter-k-iterator.ensures.into_iter_gives ∙ ap lines_left c.enumerate-k-items.ensures.source ∙ ap lines c.new.ensures in
    let long = ap length is in
    let none = ap enumerate_count c.into_iter-k-iterator.ensures.into_iter_gives ∙ c.enumerate-k-items.ensures.count in
    ((tt, tt, inl (omega (arith, few, long, none, c.well_formed))), tt)

pub loop-k-init : goal.loop-k-init
loop-k-init c =
    running_start c.args.writer.now c.requires (search rules) refl refl (ap enumerate_count c.into_iter-k-iterator.ensures.into_iter_gives ∙ c.enumerate-k-items.ensures.count)
    (ap (λ i. lines_left (enumerate_source i)) c.into_iter-k-iterator.ensures.into_iter_gives ∙ ap lines_left c.enumerate-k-items.ensures.source ∙ ap lines c.new.ensures)

pub take_line-requires-clause-follows : goal.take_line-requires-clause-follows
take_line-requires-clause-follows c = follows c.loop-k.invariant c.in-Some.ensures.steps.0 c.min-next.ensures

pub returns-in_err-s-clause-moved : goal.returns-in_err-s-clause-moved
returns-in_err-s-clause-moved c = moved_on c.loop-k.invariant.moved c.take_line.ensures.moved

pub returns-in_err-s-clause-takes : goal.returns-in_err-s-clause-takes
returns-in_err-s-clause-takes c =
    let steps = c.in-Some.ensures.steps in
    let is : c.from_residual.result ≡ Err c.in_err-s.field-0.0 = search rules in
    running_refused c.loop-k.invariant steps.0 c.min-next.ensures c.take_line.new.writer c.take_line.ensures.takes (sym c.ok_or.ensures.value ∙ c.in_err-s.was) steps.1 is

pub loop-k-preserved : goal.loop-k-preserved
loop-k-preserved c =
    let steps = c.in-Some.ensures.steps in
    running_on c.loop-k.invariant steps.0 c.min-next.ensures c.take_line.ensures.takes (c.ok_or.ensures.ok_part ∙ ap result_ok c.in_ok-s.was) c.take_line.ensures.moved steps.2

pub returns-clause-takes : goal.returns-clause-takes
returns-clause-takes c = running_end c.loop-k.invariant c.in-None.ensures.steps.0.0
