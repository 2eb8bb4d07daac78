use mathlib.Core.Path.{refl}
use native.Mathlib.Omega.{arith}
use Rattle.writer.proofs.PlaceLaws.{keep_there, keep_put, put_moved}
use Rattle.writer.proofs.places.Writer.keep.Goals as goal

pub returns-in-Some-clause-puts : goal.returns-in-Some-clause-puts
returns-in-Some-clause-puts c = keep_there _ c.args.self.now.ready c.find_term.ensures c.in-Some.is

pub returns-clause-moved : goal.returns-clause-moved
returns-clause-moved c =
    let m = put_moved c.args.self.now c.append-self.result c.args.bytes.now (omega arith) c.append-self.ensures.put refl c.append-self.ensures.grows.done_is in
    record {
      memory = record { out_name = refl; work_name = refl; out_size = m.1.0; work_size = c.append-self.auto.work };
      grown = m.0;
      past = m.1.1;
    }

pub returns-clause-puts : goal.returns-clause-puts
returns-clause-puts c = keep_put _ c.args.self.now.ready c.find_term.ensures c.in_default.is (omega arith) c.append-self.ensures.put c.append-self.result c.append-self.ensures.grows.done_is
