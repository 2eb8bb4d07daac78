-- `first_of`: the frame as the definitions have it, and in it the head of the record's bucket
use native.Mathlib.Omega.{arith}
use Rattle.rows.proofs.RowLaws.{link_sized}
use Rattle.table.proofs.MemoryLaws.{first_is, heads_few, heads_inside}
use Rattle.table.proofs.buckets.first_of.Goals as goal

pub bucket-j-requires : goal.bucket-j-requires
bucket-j-requires g c = record {
  few = heads_few g.N.Lengths.LINK_BYTES _ c.of-heads.result.start c.of-heads.ensures.count;
  seeded = λ h. omega (arith, heads_inside c.of-heads.result.start (link_sized g.N.Lengths.linked g.N.Lengths.sized) c.of-heads.ensures.count h);
}

pub first_in-requires : goal.first_in-requires
first_in-requires g c = λ h. omega (arith, heads_inside c.of-heads.result.start (link_sized g.N.Lengths.linked g.N.Lengths.sized) c.of-heads.ensures.count h)

pub returns : goal.returns
returns g c = first_is g.N.Lengths.BYTES _ _ _ g.N.Lengths.linked c.of-heads.ensures.start c.of-heads.ensures.count c.bucket-j.ensures c.first_in.ensures
