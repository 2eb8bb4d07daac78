-- `row_depth`: the job's number length, and the depth for any.
use Rattle.terms.proofs.Numbers.{short_length, long_length}
use Rattle.store.proofs.shelf.Terms.row_depth.Goals as goal

pub row_depth_as-requires : goal.row_depth_as-requires
row_depth_as-requires c = record { kept = c.requires; own = short_length _ c.number_length.ensures c.if-number_length-eq-NUMBER_BYTES.true }

pub row_depth_as-requires-2 : goal.row_depth_as-requires-2
row_depth_as-requires-2 c = record { kept = c.requires; own = long_length _ c.number_length.ensures c.if-number_length-eq-NUMBER_BYTES.false }
