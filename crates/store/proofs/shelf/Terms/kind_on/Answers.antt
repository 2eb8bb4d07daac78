-- `kind_on`: `true` and `false` are kinds 0 and 1; of a row, the number after its record's length.
use mathlib.Core.Path.{refl}
use Prim.Native.Nat.{◌+◌, ◌-◌, ◌≤◌}
use native.Mathlib.Omega.{arith}
use lib.ListN.{drop, length}
use Rattle.theory.specs.Record.{extent}
use Rattle.store.proofs.Sorting.{row_kind, row_root, row_stands}
use Rattle.store.proofs.shelf.Terms.kind_on.Goals as goal

pub number-requires : goal.number-requires
number-requires c = let r = (let stands_here : let at = c.offset_at-at.result in
    (at + extent (drop at c.args.self.now.job.now) ≤ length c.args.self.now.job.now) × (4 ≤ extent (drop at c.args.self.now.job.now)) = let h = c.if-k-lt-FIRST_PLACE.false in
    let l = c.requires in
    row_stands c.args.self.now.shelf (c.args.place - 2) (omega arith) refl refl c.offset_at-at.ensures.value in stands_here) in record { inside = omega (arith, r.0, r.1); short = omega arith }

pub returns : goal.returns
returns c = let h = c.if-k-lt-FIRST_PLACE.false in
    let l = c.requires in
    row_kind c.args.self.now.shelf c.args.place h
    (row_root c.args.self.now.shelf (c.args.place - 2) (omega arith) refl refl c.offset_at-at.ensures.value c.number.ensures.value)
