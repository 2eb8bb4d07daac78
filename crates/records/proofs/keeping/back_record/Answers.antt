-- `back_record`: a count from 2 to the number of terms cuts the list back to so many.
use Rattle.records.proofs.Turns.{back_low, back_high, back_turned}
use Rattle.records.proofs.keeping.back_record.Goals.{then-n-lt-FIRST_PLACE-via-then-n-lt-FIRST_PLACE, then-n-lt-FIRST_PLACE-via-else-n-lt-FIRST_PLACE+then-here-n}
use Rattle.records.proofs.keeping.back_record.Goals as goal

pub returns-then-n-lt-FIRST_PLACE : goal.returns-then-n-lt-FIRST_PLACE
returns-then-n-lt-FIRST_PLACE c = λ limits place answers. elim c.then-n-lt-FIRST_PLACE.branch [
  | then-n-lt-FIRST_PLACE-via-then-n-lt-FIRST_PLACE w ↦ back_low limits place c.requires answers c.args.here.now.answered w.if-n-lt-FIRST_PLACE.true
  | then-n-lt-FIRST_PLACE-via-else-n-lt-FIRST_PLACE+then-here-n w ↦
      back_high limits place c.requires answers c.args.here.now.answered w.if-n-lt-FIRST_PLACE.false w.if-here-n.true
]

pub returns : goal.returns
returns c = λ limits place answers. rw c.unanswered.ensures (back_turned limits place c.requires answers c.args.here.now.answered c.if-n-lt-FIRST_PLACE.false c.if-here-n.false c.back.ensures)
