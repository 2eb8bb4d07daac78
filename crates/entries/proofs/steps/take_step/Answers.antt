use mathlib.Core.Path.{sym, ◌∙◌}
use Rattle.words.proofs.ReadLaws.{told_none, told_some}
use Rattle.names.specs.Kinds.{declared_in}
use Rattle.names.proofs.MarkLaws.{rest_none, rest_some}
use Rattle.writer.specs.Written.{job_of, room}
use Rattle.writer.proofs.Moves.{moved_on}
use Rattle.entries.proofs.StepLaws.{step_1, step_2, step_3, step_4, stepped}
use Rattle.entries.proofs.steps.take_step.Goals as goal

pub returns-in_err-front-clause-takes : goal.returns-in_err-front-clause-takes
returns-in_err-front-clause-takes c = λ begun.
    let w = c.args.writer.now in
    rw c.from_residual.ensures (sym (step_1 (declared_in c.args.declarations.now) begun (room w) (job_of w) c.args.line.now (rest_none _ c.step_front.ensures c.in_err-front.was)))

pub returns-in_err-literal-clause-takes : goal.returns-in_err-literal-clause-takes
returns-in_err-literal-clause-takes c = λ begun.
    let w = c.args.writer.now in
    rw c.from_residual-in_err-literal.ensures
    (sym (step_2 (declared_in c.args.declarations.now) begun (room w) (job_of w) c.args.line.now (rest_some _ c.step_front.ensures c.in_ok-front.was) (told_none _ _ c.read_term.ensures.reads c.in_err-literal.was)))

pub returns-in_err-rule-clause-takes : goal.returns-in_err-rule-clause-takes
returns-in_err-rule-clause-takes c = λ begun.
    let w = c.args.writer.now in
    rw c.from_residual-in_err-rule.ensures
    (sym (step_3 (declared_in c.args.declarations.now) begun (room w) (job_of w) c.args.line.now (rest_some _ c.step_front.ensures c.in_ok-front.was) (told_some _ _ c.read_term.ensures.reads c.in_ok-literal.was) (sym c.step_back.ensures ∙ c.in_err-rule.was)))

pub returns : goal.returns
returns c =
    let w = c.args.writer.now in
    record {
      moved = moved_on c.read_term.ensures.moved c.put_step.ensures.moved;
      takes = λ begun. stepped _ c.read_term.new.writer c.put_step.new.self (room w) c.in_ok-rule.rule _ c.put_step.result c.read_term.ensures.moved.memory.out_size c.put_step.ensures.puts
          (step_4 (declared_in c.args.declarations.now) begun (room w) (job_of w) c.args.line.now (rest_some _ c.step_front.ensures c.in_ok-front.was) (told_some _ _ c.read_term.ensures.reads c.in_ok-literal.was) (sym c.step_back.ensures ∙ c.in_ok-rule.was));
    }
