-- The laws that goals of this crate want.
use Rattle.partial.proofs.InputLaws.{placing_start, cell_room}
use Rattle.digits.proofs.AskLaws.{number_low}
use Rattle.partial.proofs.PassLaws.{knowing_start, know_cell, know_done}
use Rattle.marks.proofs.MarkLaws.{rows_kept, rows_marked}
use Rattle.marks.proofs.Threading.{marks_marked}
use Rattle.marks.proofs.Walking.{walk_start, walk_step, walk_at, walk_end}

pub ruleset laws = (placing_start, cell_room, number_low, knowing_start, know_cell, know_done, rows_kept, rows_marked, marks_marked, walk_start, walk_step, walk_at, walk_end)
