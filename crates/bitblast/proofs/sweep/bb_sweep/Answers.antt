-- `bb_sweep`: the equality that is asked is that of the run's final store, in the part of the memory that the job is given.
use mathlib.Core.Path.{ap, ◌∙◌}
use lib.ListN.{length}
use borrow.Author.Rules.{rules}
use Rattle.sweeper.specs.Sweeping.{as_swept}
use Rattle.bitblast.proofs.AskingLaws.{was_stopped, lent_answers, sweep_stopped, sweep_went, lent_sweep}
use Rattle.bitblast.proofs.sweep.bb_sweep.Goals.{in-None, in-Some}
use Rattle.bitblast.proofs.sweep.bb_sweep.Goals as goal

pub returns-clause-answers : goal.returns-clause-answers
returns-clause-answers c = lent_answers _ _ _ _ _ _ c.lend-n.ensures.part (search rules) c.run_job-s.ensures.answers_are

pub returns-clause-result : goal.returns-clause-result
returns-clause-result c =
    let a = c.args in
    let f = c.run_job-s.ensures in
    lent_sweep _ _ _ _ _ c.lend-n.ensures.part (search rules) (length a.values.now) a.number (c.new.ensures.numbers ∙ elim c.match-s.branch [
      | in-None w ↦ ap as_swept w.swept-is ∙ w.sweep_number-swept.ensures.result ∙ sweep_went f w.in-None.is (length a.values.now) a.number
      | in-Some w ↦ ap as_swept w.swept-is ∙ sweep_stopped f (was_stopped w.in-Some.is) (length a.values.now) a.number
    ])
