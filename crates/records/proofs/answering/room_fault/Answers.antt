-- `room_fault`: one more answer fits, or not.
use native.Mathlib.Omega.{arith}
use Rattle.theory.proofs.Lengths.{length_most}
use Rattle.records.proofs.answering.room_fault.Goals as goal

pub overflow_add-size : goal.overflow_add-size
overflow_add-size c = omega (arith, length_most c.args.here.now.job.now, c.number_length-size.ensures)
