use Rattle.writer.proofs.CoverLaws.{ready_first}
use Rattle.convert.proofs.write_job.Goals as goal

pub invariant_of-writer : goal.invariant_of-writer
invariant_of-writer c = record { ready = ready_first c.requires }
