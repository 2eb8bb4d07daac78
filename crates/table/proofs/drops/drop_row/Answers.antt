use mathlib.Core.Path.{ap, ◌∙◌}
use Prim.Native.Nat.{ℕ}
use Rattle.rows.specs.Layout.{link_at, offset_at}
use Rattle.table.proofs.MemoryLaws.{drop_is}
use Rattle.table.proofs.drops.drop_row.Goals as goal

pub returns : goal.returns
returns g c = c.put.ensures
    ∙ drop_is _ _ _ _ _ _ _ c.requires (c.offset_as-at.ensures.value ∙ ap (λ (l : ℕ). offset_at l c.args.work.now c.args.k) c.LINK_BYTES.ensures) _ _ _ c.number_of.ensures.value c.bucket-j.ensures (c.link_at-before.ensures.value ∙ ap (λ (l : ℕ). link_at l c.args.work.now c.args.k) c.LINK_BYTES-2.ensures)
