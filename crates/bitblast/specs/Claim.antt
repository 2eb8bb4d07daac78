-- What is claimed of two exports together.
use Rattle.std.specs.Prelude.{◌≡◌}
use Rattle.theory.specs.Job.{call}
use Rattle.theory.specs.Claim.{Lent, left_by}
use Rattle.tally.specs.Counted.{answers_in}

-- what `bb_job_within` returns and leaves, handed to `bb_tally`, is counted as the answers that the job wrote, in both formats. With
-- theory's `TallySum` the fields then sum to all answers that the jobs wrote
abbrev pub TallyCounts : Type 0
TallyCounts = (l : Lent) → let c = call l.limits l.job l.work l.answers in
    answers_in c.result.answers c.answer_memory ≡ left_by l
