-- `take_record`: each arm is the record that was read.
use mathlib.Core.Path.{refl, sym, ap, ◌∙◌}
use Rattle.terms.specs.declared.Fault.TheVariants as F
use Rattle.intern.specs.Interning.{limits_of}
use Rattle.terms.specs.Numbered.{code_in}
use Rattle.records.proofs.Turns.{same_err, told_none, stopped, stopped_by, opened}
use Rattle.records.proofs.take_record.Goals as goal

pub returns-in-Ok-Term : goal.returns-in-Ok-Term
returns-in-Ok-Term c = c.term_record.ensures c.args.place c.args.answers.now

pub returns-in-Ok-Step : goal.returns-in-Ok-Step
returns-in-Ok-Step c = c.step_record.ensures (limits_of c.args.limits) c.args.place

pub returns-in-Ok-Chain : goal.returns-in-Ok-Chain
returns-in-Ok-Chain c = c.chain_record.ensures (limits_of c.args.limits) c.args.place

pub returns-in-Ok-Back : goal.returns-in-Ok-Back
returns-in-Ok-Back c = c.back_record.ensures (limits_of c.args.limits) c.args.place c.args.answers.now

pub returns-in_err-opening_fault-in-Err-Unknown : goal.returns-in_err-opening_fault-in-Err-Unknown
returns-in_err-opening_fault-in-Err-Unknown c = rw (same_err c.from_residual.result c.from_residual.ensures.1)
    (stopped_by (limits_of c.args.limits) c.args.place
    (told_none c.read.result F.Unknown c.requires.noted.store c.read.ensures.says (let f = c.in-Err-Unknown.is in let g = c.in-Err-Unknown.field-0-is in cc)) c.args.answers.now c.args.answered
    c.opening_fault.ensures c.in_err-opening_fault-in-Err-Unknown.was)

pub returns-in_ok-opening_fault-in-Err-Unknown : goal.returns-in_ok-opening_fault-in-Err-Unknown
returns-in_ok-opening_fault-in-Err-Unknown c =
    rw c.unanswered.ensures (opened (limits_of c.args.limits) c.args.place
    (told_none c.read.result F.Unknown c.requires.noted.store c.read.ensures.says (let f = c.in-Err-Unknown.is in let g = c.in-Err-Unknown.field-0-is in cc)) c.args.answers.now c.args.answered
    (sym (ap code_in c.in_ok-opening_fault-in-Err-Unknown.was) ∙ c.opening_fault.ensures))

pub returns-in-Err-Misfit : goal.returns-in-Err-Misfit
returns-in-Err-Misfit c =
    stopped (limits_of c.args.limits) c.args.place
    (told_none c.read.result F.Misfit c.requires.noted.store c.read.ensures.says (let f = c.in-Err-Misfit.is in let g = c.in-Err-Misfit.field-0-is in cc)) c.args.answers.now c.args.answered _ refl
