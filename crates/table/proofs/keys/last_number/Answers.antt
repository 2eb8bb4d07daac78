use Rattle.table.proofs.KeyLaws.{last_is}
use Rattle.table.proofs.keys.last_number.Goals as goal

pub returns : goal.returns
returns g c = last_is g.N.Lengths.sized c.BYTES.ensures
