use mathlib.Core.Path.{refl}
use native.Mathlib.Omega.{arith}
use Rattle.writer.proofs.StepLaws.{step_ready, step_past, step_size}
use Rattle.writer.proofs.places.Writer.put_step.Goals as goal

pub invariant_of-self : goal.invariant_of-self
invariant_of-self c = record { ready = step_ready c.args.self.now.ready c.args.rule c.in_ok-number.number c.if-self-done-lt-STEP_BYTES.false c.store_step.ensures }

pub returns-clause-moved : goal.returns-clause-moved
returns-clause-moved c =
    let size = step_size c.args.self.now.ready c.args.rule c.in_ok-number.number c.if-self-done-lt-STEP_BYTES.false c.store_step.ensures in
    record {
      memory = record { out_name = refl; work_name = refl; out_size = size; work_size = refl };
      grown = omega arith;
      past = step_past c.args.self.now.ready c.args.rule c.in_ok-number.number c.if-self-done-lt-STEP_BYTES.false c.store_step.ensures;
    }
