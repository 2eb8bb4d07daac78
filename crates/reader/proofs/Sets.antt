-- The laws that goals of this crate want.
use Rattle.std.proofs.lemmas.Bool.Decides.{nat_tests}
use Rattle.words.proofs.ReadLaws.{told_none, told_some}
use Rattle.reader.proofs.SpanLaws.{takes_by}
use Rattle.reader.proofs.FinishLaws.{finish_not, finish_full, finish_put, leaf_full, leaf_put, finish_reads, leaf_reads}

pub ruleset laws = (nat_tests, told_none, told_some, takes_by, finish_not, finish_full, finish_put, leaf_full, leaf_put, finish_reads, leaf_reads)
