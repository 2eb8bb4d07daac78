use Prim.Native.Nat.{◌-◌}
use native.Mathlib.Omega.{arith}
use Rattle.terms.proofs.Lists.{words_in_length, last_of}
use Rattle.terms.proofs.list.NumbersDoubleEndedIterator.next_back.Goals as goal

pub returns-clause-steps : goal.returns-clause-steps
returns-clause-steps c = let s = c.args.self.now in last_of s.job.now s.rest c.if-list-eq0.false c.argument.ensures

pub returns-clause-goes : goal.returns-clause-goes
returns-clause-goes c =
    let s = c.args.self.now in
    let more = words_in_length s.job.now s.rest in
    let less = words_in_length s.job.now (record { at = s.rest.at; count = s.rest.count - 1; bytes = s.rest.bytes }) in
    record { on = λ _. (tt, tt, omega (arith, more, less, c.if-list-eq0.false)); keeps = tt; rests = λ _. tt }
