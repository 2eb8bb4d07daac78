-- `answered_turn`: a depth has as many bytes as a term's number.
use Rattle.terms.proofs.Numbers.{length_of}
use Rattle.records.proofs.answering.answered_turn.Goals as goal

pub put_answer-requires-clause-sized : goal.put_answer-requires-clause-sized
put_answer-requires-clause-sized c = rw c.number_length-bytes.ensures (length_of c.args.here.now.job.now)
