-- `row_width`: the job's number length, and the width for any.
use Rattle.terms.proofs.Numbers.{short_length, long_length}
use Rattle.store.proofs.shelf.Terms.row_width.Goals as goal

pub row_width_as-requires : goal.row_width_as-requires
row_width_as-requires c = record { kept = c.requires; own = short_length _ c.number_length.ensures c.if-number_length-eq-NUMBER_BYTES.true }

pub row_width_as-requires-2 : goal.row_width_as-requires-2
row_width_as-requires-2 c = record { kept = c.requires; own = long_length _ c.number_length.ensures c.if-number_length-eq-NUMBER_BYTES.false }
