use mathlib.Core.Path.{sym, ◌∙◌}
use native.Mathlib.Omega.{arith}
use Rattle.words.proofs.ReadLaws.{fits_in, fits_not, told_none, told_some, is_there, is_absent}
use Rattle.names.specs.Kinds.{declared_in}
use Rattle.names.proofs.NameLaws.{some_declaration}
use Rattle.writer.specs.Written.{job_of, room}
use Rattle.entries.proofs.DeclareLaws.{declares_put, declares_full, declare_2, declare_3, declare_4}
use Rattle.entries.proofs.declarations.declare.Goals as goal

pub returns-then-is_some-clause-declares : goal.returns-then-is_some-clause-declares
returns-then-is_some-clause-declares c =
    let w = c.args.writer.now in
    sym (declare_2 c.args.line.now (declared_in c.args.declarations.now) (room w) (job_of w) (some_declaration _ c.declared_by.ensures c.in_ok-d.was) (told_some _ _ c.find_name.ensures (is_there c.find_name.result c.is_some.ensures c.if-is_some.true).1))

pub returns-in_err-number-clause-declares : goal.returns-in_err-number-clause-declares
returns-in_err-number-clause-declares c =
    let w = c.args.writer.now in
    rw c.from_residual-in_err-number.ensures
    (sym (declare_3 c.args.line.now (declared_in c.args.declarations.now) (room w) (job_of w) (some_declaration _ c.declared_by.ensures c.in_ok-d.was) (told_none _ _ c.find_name.ensures (is_absent c.find_name.result c.is_some.ensures c.if-is_some.false)) c.requires (fits_not _ c.try_from.ensures c.ok.ensures.value c.in_err-number.was)))

pub returns-in_err-put_term-clause-declares : goal.returns-in_err-put_term-clause-declares
returns-in_err-put_term-clause-declares c =
    let n = fits_in _ c.try_from.ensures c.ok.ensures.value c.in_ok-number.was in
    let w = c.args.writer.now in
    rw c.from_residual-in_err-put_term.ensures
    (declares_full _ c.put_term.new.self c.put_term.result c.put_term.ensures.puts
    (declare_4 c.args.line.now (declared_in c.args.declarations.now) (room w) (job_of w) (some_declaration _ c.declared_by.ensures c.in_ok-d.was) (told_none _ _ c.find_name.ensures (is_absent c.find_name.result c.is_some.ensures c.if-is_some.false)) (c.from.ensures ∙ n.1 ∙ c.requires) (omega (arith, n.0, n.1, c.from.ensures)) c.variable-operator.ensures)
    c.in_err-put_term.was)

pub returns-clause-declares : goal.returns-clause-declares
returns-clause-declares c =
    let n = fits_in _ c.try_from.ensures c.ok.ensures.value c.in_ok-number.was in
    let w = c.args.writer.now in
    declares_put _ c.put_term.new.self c.put_term.result c.put_term.ensures.puts
    (declare_4 c.args.line.now (declared_in c.args.declarations.now) (room w) (job_of w) (some_declaration _ c.declared_by.ensures c.in_ok-d.was) (told_none _ _ c.find_name.ensures (is_absent c.find_name.result c.is_some.ensures c.if-is_some.false)) (c.from.ensures ∙ n.1 ∙ c.requires) (omega (arith, n.0, n.1, c.from.ensures)) c.variable-operator.ensures)
    c.in_ok-put_term.was
