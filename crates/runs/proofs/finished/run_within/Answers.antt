-- `run_within`: a job that is too long is not read, and any other is walked, and its answers sealed.
use Rattle.terms.proofs.Numbers.{length_of}
use Rattle.intern.specs.Interning.{limits_of}
use Rattle.runs.proofs.FinishedLaws.{finished_long, finished_walk}
use Rattle.runs.proofs.finished.run_within.Goals as goal

pub returns-then-job-gt-MAX_JOB : goal.returns-then-job-gt-MAX_JOB
returns-then-job-gt-MAX_JOB c = let a = c.args in finished_long (limits_of a.limits) a.job.now a.work.now a.answers.now c.if-job-gt-MAX_JOB.true c.start.ensures

pub seal-requires-clause-sized : goal.seal-requires-clause-sized
seal-requires-clause-sized c = rw c.number_length.ensures (length_of c.args.job.now)

pub returns : goal.returns
returns c = let a = c.args in
    finished_walk (limits_of a.limits) a.job.now a.work.now a.answers.now c.if-job-gt-MAX_JOB.false c.walk-s.ensures
    (rw c.number_length.ensures at c.seal.ensures)
