use Rattle.bitblast.proofs.AletheLaws.{steps_called}
use Rattle.bitblast.proofs.alethe.bb_text.Goals as goal

pub returns-clause-steps : goal.returns-clause-steps
returns-clause-steps c = steps_called c.args.text.now c.args.work.now c.args.job.now c.convert.ensures.result c.convert.ensures.job
