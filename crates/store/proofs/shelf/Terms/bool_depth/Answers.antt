-- `bool_depth`: `true` and `false` are Bools of depth 0; of a row, the job's number length, and the depth for any.
use native.Mathlib.Omega.{arith}
use Rattle.terms.proofs.Numbers.{short_length, long_length}
use Rattle.store.proofs.Sorting.{low_bool}
use Rattle.store.proofs.shelf.Terms.bool_depth.Goals as goal

pub returns-then-k-lt-FIRST_PLACE : goal.returns-then-k-lt-FIRST_PLACE
returns-then-k-lt-FIRST_PLACE c = low_bool c.args.self.now.shelf c.args.place c.if-k-lt-FIRST_PLACE.true

pub bool_depth_as-requires : goal.bool_depth_as-requires
bool_depth_as-requires c = let h = c.if-k-lt-FIRST_PLACE.false in
    let l = c.requires in
    record { kept = omega arith; own = short_length _ c.number_length.ensures c.if-number_length-eq-NUMBER_BYTES.true }

pub bool_depth_as-requires-2 : goal.bool_depth_as-requires-2
bool_depth_as-requires-2 c = let h = c.if-k-lt-FIRST_PLACE.false in
    let l = c.requires in
    record { kept = omega arith; own = long_length _ c.number_length.ensures c.if-number_length-eq-NUMBER_BYTES.false }
