use mathlib.Core.Path.{ap, ◌∙◌}
use Prim.Native.Nat.{◌+◌, ◌*◌, ◌-◌}
use borrow.Rule.Slice.PartMut.{put_mid}
use Rattle.std.specs.Int.{w64}
use Rattle.theory.specs.Record.{bytes_of}
use Rattle.sweeps.specs.Calls.{cell_bytes}
use Rattle.evaluation.specs.Cells.{stored_cell}
use Rattle.terms.proofs.LittleEndian.{to_le}
use Rattle.rows.proofs.RowLaws.{length_bytes, part_put}
use Rattle.evaluation.proofs.cells.put_cell.Goals as goal

pub returns : goal.returns
unfolding stored_cell
returns c = let a = c.args in let at = a.k * cell_bytes in
    ap (put_mid at (at + cell_bytes - at) a.values.now) (c.copy_from_slice.ensures.after ∙ c.to_le_bytes.ensures ∙ to_le w64 a.x)
    ∙ part_put a.values.now (bytes_of cell_bytes a.x) at cell_bytes c.requires (length_bytes cell_bytes a.x)
