-- The laws that goals of this crate want: lengths of links, the job's own number length, room in the arrays.
use Rattle.rows.proofs.RowLaws.{link_back, link_sized}
use Rattle.table.proofs.Face.{table_short, table_long, fits_short, fits_long}
use Rattle.table.proofs.AddLaws.{limit_short, limit_long}
use Rattle.table.proofs.KeyLaws.{few_room, list_room, roomy_less}

pub ruleset laws = (link_back, link_sized, table_short, table_long, fits_short, fits_long, limit_short, limit_long, few_room, list_room, roomy_less)
