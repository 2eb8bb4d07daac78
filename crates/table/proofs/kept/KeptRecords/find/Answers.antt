use Rattle.table.proofs.MemoryLaws.{sought_of}
use Rattle.table.proofs.kept.KeptRecords.find.Goals as goal

pub walk-requires : goal.walk-requires
walk-requires g c = sought_of g.N.Lengths.BYTES g.N.Lengths.linked c.args.self.now.table c.first_of-first.ensures
