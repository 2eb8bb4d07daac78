-- `bb_known`: what is asked of the final store is asked of the run's, in the part of the memory that the job is given.
use mathlib.Core.Path.{◌≡◌, sym, ap, ◌∙◌}
use lib.ListN.{length}
use borrow.Author.Rules.{rules}
use Rattle.sweeps.specs.Calls.{Derived, written}
use Rattle.sweeper.specs.Sweeping.{code_of}
use Rattle.bitblast.proofs.AskingLaws.{was_stopped, lent_answers, known_stopped, known_went, lent_known}
use Rattle.bitblast.proofs.known.bb_known.Goals.{in-None, in-Some}
use Rattle.bitblast.proofs.known.bb_known.Goals as goal

pub returns-clause-answers : goal.returns-clause-answers
returns-clause-answers c = lent_answers _ _ _ _ _ _ c.lend-n.ensures.part (search rules) c.run_job-s.ensures.answers_are

pub returns-clause-code : goal.returns-clause-code
returns-clause-code c =
    let a = c.args in
    let f = c.run_job-s.ensures in
    let coded : c.map_or.result ≡ code_of c.match-s.known = search rules in
    let code = λ (x : Derived). x.code in
    lent_known _ _ _ _ _ c.lend-n.ensures.part (search rules) code (length a.values.now) a.number a.inputs.now (length a.outputs.now) (coded ∙ elim c.match-s.branch [
      | in-None w ↦ ap code_of w.known-is ∙ w.known_number-known.ensures.code ∙ ap code (known_went f w.in-None.is (length a.values.now) a.number a.inputs.now (length a.outputs.now))
      | in-Some w ↦ ap code_of w.known-is ∙ ap code (sym (known_stopped f (was_stopped w.in-Some.is) (length a.values.now) a.number a.inputs.now (length a.outputs.now)))
    ])

pub returns-clause-outputs : goal.returns-clause-outputs
returns-clause-outputs c =
    let a = c.args in
    let f = c.run_job-s.ensures in
    let left = λ (x : Derived). written x.bytes a.outputs.now in
    lent_known _ _ _ _ _ c.lend-n.ensures.part (search rules) left (length a.values.now) a.number a.inputs.now (length a.outputs.now) (elim c.match-s.branch [
      | in-None w ↦ w.outputs-is ∙ w.known_number-known.ensures.outputs ∙ ap left (known_went f w.in-None.is (length a.values.now) a.number a.inputs.now (length a.outputs.now))
      | in-Some w ↦ w.outputs-is ∙ ap left (sym (known_stopped f (was_stopped w.in-Some.is) (length a.values.now) a.number a.inputs.now (length a.outputs.now)))
    ])
