use mathlib.Core.Path.{ap, ◌∙◌}
use mathlib.Core.List.{List}
use Prim.Native.Nat.{ℕ, ◌+◌}
use Rattle.rows.specs.Rows.{stored_row}
use Rattle.table.specs.Buckets.{added_row, stored_head}
use Rattle.table.proofs.kept.add_row.Goals as goal

pub returns : goal.returns
unfolding added_row
returns g c = let a = c.args in
    c.put.ensures ∙ ap (λ (w : List ℕ). stored_head g.N.Lengths.LINK_BYTES w a.heads.start a.heads.count a.j (a.n + 1)) (c.put_row.ensures ∙ ap (λ (l : ℕ). stored_row l a.work.now a.n a.offset a.measure a.first) c.LINK_BYTES.ensures)
