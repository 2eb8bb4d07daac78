-- the part that is read is stored in eight zeros
use mathlib.Core.Path.{◌≡◌, refl, ap, ◌∙◌}
use native.Mathlib.Omega.{arith}
use lib.ListN.{take, drop}
use Rattle.theory.specs.Record.{little_endian}
use Rattle.theory.proofs.Bytes.{drop_bytes}
use Rattle.terms.proofs.Numbers.{all_bytes}
use Rattle.terms.proofs.LittleEndian.{below, padded}
use Rattle.rows.proofs.RowLaws.{part_length, part_whole}
use Rattle.rows.proofs.bytes.number_of.Goals as goal

pub returns : goal.returns
returns g c =
    let a = c.args in
    let n = g.row.N in
    let e = c.copy_from_slice.ensures.after in
    let v : c.from_le_bytes.result ≡ little_endian (take n (drop a.at a.s.now))
    = c.from_le_bytes.ensures
    ∙ padded {k = n} c.copy_from_slice.new.self _ refl refl (part_length a.s.now a.at n e c.requires.inside) (omega (arith, c.requires.short))
    ∙ ap little_endian (part_whole a.s.now a.at n e) in
    record { value = v; below = rw v (below n (drop a.at a.s.now) (drop_bytes _ _ (all_bytes a.s.now c.type_inv.s))) }
