use Rattle.operations.proofs.MoveLaws.{repeat_in, copying_start, copying_turn, copying_done}
use Rattle.operations.proofs.apply.repeated.Goals as goal

pub loop-init : goal.loop-init
loop-init c = copying_start _ _ _ c.requires

pub loop-preserved : goal.loop-preserved
loop-preserved c = copying_turn _ _ _ _ _ c.requires c.loop.invariant c.loop-test.true

pub returns : goal.returns
returns c = copying_done _ _ _ _ _ c.requires c.loop.invariant (c.loop.auto.counter-end (repeat_in _ _ _ c.requires).some) c.loop-test.false
