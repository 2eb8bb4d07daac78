use mathlib.Core.Path.{ap}
use native.Mathlib.Omega.{arith}
use lib.ListN.{length}
use Rattle.writer.proofs.RecordLaws.{none_left, first_inside, first_left}
use Rattle.writer.proofs.records.RecordsIterator.next.Goals as goal

pub returns-in_err-size-clause-steps : goal.returns-in_err-size-clause-steps
returns-in_err-size-clause-steps c =
    let none = none_left c.args.self.now.rest.now c.frame.ensures c.in_err-size.was in
    rw c.from_residual.ensures (none, none)

pub split_at-requires : goal.split_at-requires
split_at-requires c = first_inside c.args.self.now.rest.now c.frame.ensures c.in_ok-size.was

pub returns-clause-steps : goal.returns-clause-steps
returns-clause-steps c = rw (c.split_at.ensures.front, c.split_at.ensures.back, first_left c.args.self.now.rest.now c.frame.ensures c.in_ok-size.was)

pub returns-clause-goes : goal.returns-clause-goes
returns-clause-goes c =
    let shorter = ap length (first_left c.args.self.now.rest.now c.frame.ensures c.in_ok-size.was) in
    record { on = λ _. (tt, tt, rw (c.split_at.ensures.back) (omega (arith, shorter))); keeps = tt; rests = λ _. tt }
