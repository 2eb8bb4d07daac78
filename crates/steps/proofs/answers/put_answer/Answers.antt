-- `put_answer`: four numbers stored one after the other are an answer, as it stands while the job runs.
use Rattle.steps.specs.Answering.{noted}
use Rattle.steps.proofs.Writing.{four}
use Rattle.steps.proofs.answers.put_answer.Goals as goal

pub returns : goal.returns
returns c = four c.args.bytes c.args.d.now _ _ _ _ c.args.k c.args.place (noted c.args.rule c.args.code c.args.depth) c.requires.room
    c.put_number.ensures c.put_number-2.ensures c.put_number-3.ensures c.put_number-4.ensures
