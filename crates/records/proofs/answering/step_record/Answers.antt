-- `step_record`: a step that passes has a rule and literals, so its answer is theory's.
use mathlib.Core.Path.{sym, ap, ◌∙◌}
use native.Mathlib.Omega.{arith}
use Rattle.theory.specs.Optional.{is_some}
use Rattle.theory.specs.Job.{answer_to}
use Rattle.store.proofs.Keeping.{found_arguments}
use Rattle.rules.specs.Rules.{rule_of}
use Rattle.records.proofs.Turns.{same_err, few_terms, step_unkept, step_unruled, step_full, step_free, step_turned}
use Rattle.records.proofs.answering.step_record.Goals as goal

pub overflow_cast-here : goal.overflow_cast-here
overflow_cast-here c = omega (arith, few_terms c.requires.reading.store)

pub returns-then-not-all_below : goal.returns-then-not-all_below
returns-then-not-all_below c = λ limits place. step_unkept limits place c.requires.reading c.args.answers.now c.args.here.now.answered (sym c.all_below.ensures ∙ c.if-not-all_below.true)

pub returns-in_err-by : goal.returns-in_err-by
returns-in_err-by c = λ limits place. rw (same_err c.from_residual.result c.from_residual.ensures.1)
    (step_unruled limits place c.requires.reading c.args.answers.now c.args.here.now.answered
    (sym c.all_below.ensures ∙ c.if-not-all_below.false) (ap is_some c.in_err-by.ensures.1))

pub returns-in_err-room_fault : goal.returns-in_err-room_fault
returns-in_err-room_fault c = λ limits place. rw (same_err c.from_residual-in_err-room_fault.result c.from_residual-in_err-room_fault.ensures.1)
    (step_full limits place c.requires.reading c.args.answers.now c.args.here.now.answered (sym c.all_below.ensures ∙ c.if-not-all_below.false)
    (ap is_some c.in_ok-by.ensures) c.room_fault.ensures c.in_err-room_fault.was)

pub returns : goal.returns
returns c = λ limits place. step_turned limits place c.requires.reading c.args.answers.now c.args.here.now.answered
    (step_free limits place c.requires.reading c.args.answers.now c.args.here.now.answered (sym c.all_below.ensures ∙ c.if-not-all_below.false)
    (ap is_some c.in_ok-by.ensures) c.room_fault.ensures c.in_ok-room_fault.was)
    c.in_ok-by.ensures c.answer-reply.result (c.answer-reply.ensures c.args.rule ∙ ap (answer_to c.args.rule (rule_of c.in_ok-by.by)) (found_arguments c.new.result c.new.ensures c.args.literals))
    c.answered_turn.ensures.written c.answered_turn.ensures.turned
