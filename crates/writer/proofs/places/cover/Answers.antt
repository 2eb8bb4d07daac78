use mathlib.Core.Path.{refl, ap, ◌∙◌}
use Rattle.std.specs.Prelude.{Some as some}
use native.Mathlib.Omega.{arith}
use Rattle.rows.specs.Layout.{link_bytes}
use Rattle.writer.proofs.CoverLaws.{unchanged_found, unchanged_none}
use Rattle.writer.proofs.PlaceLaws.{grows_plain, grows_row, add_ready, add_ends}
use Rattle.writer.proofs.places.cover.Goals as goal

pub returns-then-spot : goal.returns-then-spot
returns-then-spot c = grows_plain c.requires refl

pub returns-then-end-gt-MAX_COVERED : goal.returns-then-end-gt-MAX_COVERED
returns-then-end-gt-MAX_COVERED c = grows_plain c.requires refl

pub add_record-requires : goal.add_record-requires
unfolding link_bytes
add_record-requires c = record { kept = add_ready c.requires c.if-end-gt-MAX_COVERED.false; limited = record { held = omega arith }; inside = add_ends c.requires c.if-end-gt-MAX_COVERED.false; measured = omega arith }

pub returns-in_default : goal.returns-in_default
returns-in_default c = grows_plain c.requires (unchanged_none c.add_record.ensures c.in_default.is)

pub returns-in-Found : goal.returns-in-Found
returns-in-Found c = grows_plain c.requires (unchanged_found c.add_record.ensures (c.in-Some.is ∙ ap some c.in-Found.is))

pub returns-in-New : goal.returns-in-New
returns-in-New c = grows_row c.requires c.if-end-gt-MAX_COVERED.false c.if-spot.false c.add_record.ensures (c.in-Some.is ∙ ap some c.in-New.is)
