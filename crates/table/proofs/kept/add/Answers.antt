-- `add`: the job's number length is two or four, and the same for any
use Rattle.table.proofs.AddLaws.{grown_as}
use Rattle.table.proofs.Face.{table_long, fits_long}
use Rattle.terms.proofs.Numbers.{long_length}
use Rattle.table.proofs.kept.add.Goals as goal

pub returns : goal.returns
returns c = grown_as (long_length _ c.number_length.ensures c.if-number_length-eq-NUMBER_BYTES.false) c.add_record-2.ensures

pub add_record-requires-2-clause-kept : goal.add_record-requires-2-clause-kept
add_record-requires-2-clause-kept c = table_long _ c.number_length.ensures c.if-number_length-eq-NUMBER_BYTES.false c.requires.kept

pub add_record-requires-2-clause-measured : goal.add_record-requires-2-clause-measured
add_record-requires-2-clause-measured c = fits_long _ c.number_length.ensures c.if-number_length-eq-NUMBER_BYTES.false c.requires.measured
