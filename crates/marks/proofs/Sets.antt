-- The laws that goals of this crate want.
use Rattle.marks.proofs.LinkLaws.{room_in, link_row}
use Rattle.marks.proofs.MarkLaws.{mark_fits, set_one, clearing_turn, clearing_done, listing_start, listing_low, listing_done}
use Rattle.marks.proofs.Marking.{term_ready, term_done, marking_low}
use Rattle.marks.proofs.Threading.{threading_low, threading_small, marks_top, marks_threaded, following_last, following_true, following_false, following_row}
use Rattle.rows.proofs.RowLaws.{link_whole, short_link, long_link}
use Rattle.terms.proofs.Numbers.{length_of, place_small}

pub ruleset laws = (room_in, link_row, mark_fits, set_one, clearing_turn, clearing_done, listing_start, listing_low, listing_done, term_ready, term_done, marking_low, threading_low, threading_small, marks_top, marks_threaded, following_last, following_true, following_false, following_row, link_whole, short_link, long_link, length_of, place_small)
