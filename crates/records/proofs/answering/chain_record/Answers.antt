-- `chain_record`: a chain that passes has a rule and a literal, so its answer is theory's.
use mathlib.Core.Path.{ap, subst, ◌∙◌}
use native.Mathlib.Omega.{arith}
use Rattle.theory.specs.Term.{Term}
use Rattle.theory.specs.Optional.{is_some}
use Rattle.terms.proofs.Numbers.{length_of}
use Rattle.store.proofs.Keeping.{found_term}
use Rattle.operand_rules.specs.Rules.{verdict_of}
use Rattle.operand_rules.proofs.Literals.{literal_at}
use Rattle.steps.specs.Answering.{Judged}
use Rattle.chains.specs.Rules.{rule_of}
use Rattle.records.proofs.Turns.{same_err, few_terms, terms_hold, verdict_told, chain_unkept, chain_unruled, chain_full, chain_free, chain_turned}
use Rattle.records.proofs.answering.chain_record.Goals as goal

pub overflow_cast-here : goal.overflow_cast-here
overflow_cast-here c = omega (arith, few_terms c.requires.reading.store)

pub returns-then-here-literal : goal.returns-then-here-literal
returns-then-here-literal c = λ limits place. chain_unkept limits place c.requires.reading c.args.answers.now c.args.here.now.answered c.if-here-literal.true

pub returns-in_err-joins : goal.returns-in_err-joins
returns-in_err-joins c =
    λ limits place. rw (same_err c.from_residual.result c.from_residual.ensures.1)
    (chain_unruled limits place c.requires.reading c.args.answers.now c.args.here.now.answered c.if-here-literal.false (ap is_some c.in_err-joins.ensures.1))

pub returns-in_err-room_fault : goal.returns-in_err-room_fault
returns-in_err-room_fault c =
    λ limits place. rw (same_err c.from_residual-in_err-room_fault.result c.from_residual-in_err-room_fault.ensures.1)
    (chain_full limits place c.requires.reading c.args.answers.now c.args.here.now.answered c.if-here-literal.false (ap is_some c.in_ok-joins.ensures) c.room_fault.ensures c.in_err-room_fault.was)

pub returns : goal.returns
returns c =
    let h = terms_hold c.new-kept.result c.terms.result c.new-kept.ensures c.terms.ensures in
    λ limits place. chain_turned limits place c.requires.reading c.args.answers.now c.args.here.now.answered
    (chain_free limits place c.requires.reading c.args.answers.now c.args.here.now.answered c.if-here-literal.false (ap is_some c.in_ok-joins.ensures) c.room_fault.ensures c.in_ok-room_fault.was) c.in_ok-joins.ensures
    (c.verdict_by-v.ensures ∙ verdict_told c.terms.result h c.args.answers.now c.args.here.now.answered c.args.premises c.args.literal (rule_of c.in_ok-joins.joins))
    (subst (λ (t : Term). Judged (verdict_of c.verdict_by-v.result) t c.judge-reply.result) (literal_at c.new.ensures ∙ found_term c.new-kept.result c.new-kept.ensures c.args.literal) c.judge-reply.ensures)
    c.answered_turn.ensures.written c.answered_turn.ensures.turned

pub invariant_of-past-clause-sized : goal.invariant_of-past-clause-sized
invariant_of-past-clause-sized c = rw c.number_length.ensures (length_of c.args.here.now.job.now)
