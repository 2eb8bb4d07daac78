-- the job's number length is two or four, and the lookup for any
use mathlib.Core.Path.{ap, ◌∙◌}
use mathlib.Core.List.{List}
use Prim.Native.Nat.{ℕ}
use Rattle.theory.specs.Record.{Bytes}
use Rattle.rows.specs.Layout.{link_bytes}
use Rattle.rows.specs.Rows.{kept_as}
use Rattle.table.specs.Buckets.{unless_missing}
use Rattle.table.specs.Keys.{place_list}
use Rattle.table.proofs.Face.{place_short, place_long, table_long}
use Rattle.table.proofs.lists.find_arguments.Goals as goal

pub returns-then-number_length-eq-NUMBER_BYTES : goal.returns-then-number_length-eq-NUMBER_BYTES
returns-then-number_length-eq-NUMBER_BYTES g c = let a = c.args in
    place_short _ c.number_length.ensures (λ (b : ℕ). place_list b a.kind a.args.now (kept_as (link_bytes b) a.job.now a.work.now a.n)) c.unwrap_or.ensures
    c.if-number_length-eq-NUMBER_BYTES.true (c.find_built-place.ensures ∙ ap (λ (rows : List Bytes). unless_missing (place_list 2 a.kind a.args.now rows)) c.new.ensures)

pub find_long-requires-clause-kept : goal.find_long-requires-clause-kept
find_long-requires-clause-kept g c = table_long _ c.number_length.ensures c.if-number_length-eq-NUMBER_BYTES.false c.requires.kept

pub returns : goal.returns
returns g c = let a = c.args in
    place_long _ c.number_length.ensures (λ (b : ℕ). place_list b a.kind a.args.now (kept_as (link_bytes b) a.job.now a.work.now a.n)) c.unwrap_or-2.ensures
    c.if-number_length-eq-NUMBER_BYTES.false c.find_long.ensures
