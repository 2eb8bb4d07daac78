use mathlib.Core.Path.{◌∙◌}
use Rattle.words.proofs.ReadLaws.{told_none, reads_none, is_there, is_absent}
use Rattle.names.proofs.MarkLaws.{rest_none, rest_some}
use Rattle.convert.proofs.TakeLaws.{line_1, line_2, line_3, line_4, line_begun, line_undeclared, lined_step, lined_declared}
use borrow.Author.Rules.{rules}
use Rattle.convert.proofs.CutLaws.{declared_few}
use Rattle.convert.proofs.line.take_line.Goals as goal

pub returns-in_err-a-clause-takes : goal.returns-in_err-a-clause-takes
returns-in_err-a-clause-takes c = rw c.from_residual.ensures (reads_none (line_1 _ _ _ (rest_none _ c.left_after.ensures c.in_err-a.was)))

pub returns-then-s-clause-takes : goal.returns-then-s-clause-takes
returns-then-s-clause-takes c = reads_none (line_begun _ _ _ _ c.if-s.true (rest_some _ c.left_after.ensures c.in_ok-a.was) (rest_some _ c.word_after.ensures (is_there c.word_after.result c.is_some.ensures c.if-is_some.true).1))

pub returns-in_err-declare-clause-takes : goal.returns-in_err-declare-clause-takes
returns-in_err-declare-clause-takes c = rw c.from_residual-in_err-declare.ensures (reads_none (line_undeclared _ _ _ _ c.if-s.false (rest_some _ c.left_after.ensures c.in_ok-a.was) (rest_some _ c.word_after.ensures (is_there c.word_after.result c.is_some.ensures c.if-is_some.true).1) (told_none _ _ c.declare.ensures.declares c.in_err-declare.was)))

pub returns-then-is_some-clause-takes : goal.returns-then-is_some-clause-takes
returns-then-is_some-clause-takes c =
    lined_declared c.args.line.now c.args.through c.args.writer.now c.declare.new.writer c.args.s c.requires.counted c.requires.follows c.declare.result c.if-s.false c.declare.ensures.declares c.in_ok-declare.was
    (line_4 _ _ _ (rest_some _ c.left_after.ensures c.in_ok-a.was) (rest_some _ c.word_after.ensures (is_there c.word_after.result c.is_some.ensures c.if-is_some.true).1))

pub returns-in_err-b-clause-takes : goal.returns-in_err-b-clause-takes
returns-in_err-b-clause-takes c = rw c.from_residual-in_err-b.ensures (reads_none (line_2 _ _ _ (rest_some _ c.left_after.ensures c.in_ok-a.was) (rest_none _ c.word_after.ensures (is_absent c.word_after.result c.is_some.ensures c.if-is_some.false)) (rest_none _ c.word_after-2.ensures c.in_err-b.was)))

pub returns-in_err-take_step-clause-takes : goal.returns-in_err-take_step-clause-takes
returns-in_err-take_step-clause-takes c =
    rw c.from_residual-in_err-take_step.ensures
    (reads_none
    (line_3 _ _ _ (rest_some _ c.left_after.ensures c.in_ok-a.was) (rest_none _ c.word_after.ensures (is_absent c.word_after.result c.is_some.ensures c.if-is_some.false)) (rest_some _ c.word_after-2.ensures c.in_ok-b.was)
    ∙ told_none _ _ (c.take_step.ensures.takes c.args.s.begun) c.in_err-take_step.was))

pub returns-clause-takes : goal.returns-clause-takes
returns-clause-takes c =
    lined_step c.args.line.now c.args.through c.args.writer.now c.take_step.new.writer c.args.s c.requires.counted c.take_step.result (c.take_step.ensures.takes c.args.s.begun) c.in_ok-take_step.was
    (line_3 _ _ _ (rest_some _ c.left_after.ensures c.in_ok-a.was) (rest_none _ c.word_after.ensures (is_absent c.word_after.result c.is_some.ensures c.if-is_some.false)) (rest_some _ c.word_after-2.ensures c.in_ok-b.was))

pub overflow_add-result : goal.overflow_add-result
overflow_add-result c =
    let f = declared_few c.args.s.declarations.now in
    let n = c.requires.counted in
    search rules
