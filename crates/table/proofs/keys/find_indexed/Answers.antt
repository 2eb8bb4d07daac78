-- the job's number length is two or four, and the lookup for any
use mathlib.Core.Path.{ap, ◌∙◌}
use mathlib.Core.List.{List}
use Prim.Native.Nat.{ℕ}
use Rattle.theory.specs.Record.{Bytes}
use Rattle.rows.specs.Layout.{link_bytes}
use Rattle.rows.specs.Rows.{kept_as}
use Rattle.table.specs.Keys.{place_indexed}
use Rattle.table.specs.Buckets.{unless_missing}
use Rattle.table.proofs.Face.{place_short, place_long, table_long}
use Rattle.table.proofs.keys.find_indexed.Goals as goal
use Rattle.table.proofs.keys.find_indexed.Goals.{then-number_length-eq-NUMBER_BYTES, else-number_length-eq-NUMBER_BYTES}

pub new-requires-else-number_length-eq-NUMBER_BYTES : goal.new-requires-else-number_length-eq-NUMBER_BYTES
new-requires-else-number_length-eq-NUMBER_BYTES c = table_long _ c.number_length.ensures c.if-number_length-eq-NUMBER_BYTES.false c.requires

pub returns : goal.returns
returns c = let a = c.args in
    let place : ℕ → ℕ = λ (b : ℕ). place_indexed b a.kind a.index a.a (kept_as (link_bytes b) a.job.now a.work.now a.n) in
    elim c.if-number_length-eq-NUMBER_BYTES.branch [
      | then-number_length-eq-NUMBER_BYTES w ↦ place_short _ c.number_length.ensures place c.unwrap_or.ensures w.if-number_length-eq-NUMBER_BYTES.true (w.place-is ∙ w.find_indexed-place.ensures ∙ ap (λ (rows : List Bytes). unless_missing (place_indexed 2 a.kind a.index a.a rows)) w.new.ensures)
      | else-number_length-eq-NUMBER_BYTES w ↦ place_long _ c.number_length.ensures place c.unwrap_or.ensures w.if-number_length-eq-NUMBER_BYTES.false (w.place-is ∙ w.find_indexed-place-else-number_length-eq-NUMBER_BYTES.ensures ∙ ap (λ (rows : List Bytes). unless_missing (place_indexed 4 a.kind a.index a.a rows)) w.new-else-number_length-eq-NUMBER_BYTES.ensures)
    ]
