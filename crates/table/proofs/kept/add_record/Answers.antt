use mathlib.Core.Path.{sym, ap, ◌∙◌}
use native.Mathlib.Omega.{arith}
use lib.ListN.{length}
use Rattle.theory.specs.Record.{Bytes}
use Rattle.rows.proofs.RowLaws.{rows_small}
use Rattle.table.specs.Buckets.{bucket_of}
use Rattle.table.proofs.BucketLaws.{sought_from, told_missing}
use Rattle.table.proofs.MemoryLaws.{framed, row_memory}
use Rattle.table.proofs.AddLaws.{grown_found, grown_new, grown_spent, part_record, room_true, walk_told}
use Rattle.table.proofs.kept.add_record.Goals as goal

pub walk-requires : goal.walk-requires
walk-requires g c = sought_from _ (framed g.N.Lengths.BYTES g.N.Lengths.linked c.of-heads.ensures.start c.of-heads.ensures.count c.requires.kept) c.bucket-j.ensures c.first_in-first.ensures

pub returns-in-Some : goal.returns-in-Some
returns-in-Some g c = grown_found _ _ _ _ _ _ _ c.requires.kept (walk_told g.N.Lengths.BYTES _ _ _ _ _ g.N.Lengths.linked c.number_of.ensures.value c.walk.ensures) c.in-Some.is

pub has_room-requires : goal.has_room-requires
has_room-requires g c = rows_small c.requires.kept.rows

pub returns-then-not-has_room : goal.returns-then-not-has_room
returns-then-not-has_room g c = grown_spent _ _ _ _ _ _ _ c.requires.kept (told_missing (walk_told g.N.Lengths.BYTES _ _ _ _ _ g.N.Lengths.linked c.number_of.ensures.value c.walk.ensures) c.in_default.is)
    (sym c.has_room.ensures ∙ c.if-not-has_room.true)

pub add_row-requires : goal.add_row-requires
add_row-requires g c = let t = (framed g.N.Lengths.BYTES g.N.Lengths.linked c.of-heads.ensures.start c.of-heads.ensures.count c.requires.kept) in
    let r = room_true g.N.Lengths.BYTES c.args.limit c.args.n (length c.args.work.now) (sym c.has_room.ensures ∙ c.if-not-has_room.false) in
    record {
      inside = row_memory g.N.Lengths.BYTES c.args.n (length c.args.work.now) g.N.Lengths.linked r.1 (let m = r.0 in omega arith);
      cells = λ h. omega (arith, t.cells h);
      few = let s = rows_small t.rows in omega arith;
    }

pub overflow_cast-result : goal.overflow_cast-result
overflow_cast-result g c = let r = rows_small c.requires.kept.rows in omega arith

pub returns : goal.returns
returns g c = let p = c.requires in
    let a = c.args in
    grown_new _ _ _ _ _ _ _ p.kept p.limited p.inside p.measured (told_missing (walk_told g.N.Lengths.BYTES _ _ _ _ _ g.N.Lengths.linked c.number_of.ensures.value c.walk.ensures) c.in_default.is)
    (sym c.has_room.ensures ∙ c.if-not-has_room.false)
    g.N.Lengths.linked c.of-heads.ensures.start c.of-heads.ensures.count
    (c.bucket-j.ensures ∙ ap (λ (x : Bytes). bucket_of a.work.now c.of-heads.result.count x) (part_record a.job.now a.at c.number_of.result c.number_of.ensures.value))
    c.first_in-first.ensures c.add_row.ensures
