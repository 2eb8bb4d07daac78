-- The laws that goals of this crate want.
use Rattle.writer.proofs.PlaceLaws.{keep_there, keep_full, keep_put, still_ready, put_longer, grows_plain, grows_row, add_ready, add_ends, kind_high, front_few, low_bytes, fill_start, fill_room}
use Rattle.writer.proofs.CoverLaws.{unchanged_found, unchanged_none}
use Rattle.writer.proofs.PutLaws.{put_low, put_record}
use Rattle.words.proofs.WordLaws.{same_said}
use Rattle.writer.proofs.Moves.{same_none, moved_none}
use Rattle.writer.proofs.StepLaws.{step_over, step_full, step_put, step_row}
use Rattle.rows.proofs.RowLaws.{link_short, sets_append}

pub ruleset laws = (same_said, keep_there, keep_full, keep_put, still_ready, put_longer, grows_plain, grows_row, add_ready, add_ends, kind_high, front_few, low_bytes, fill_start, fill_room, unchanged_found, unchanged_none, link_short, put_low, put_record, same_none, moved_none, step_over, step_full, step_put, step_row, sets_append)
