-- byte by byte of the part that is lent
use mathlib.Core.Path.{◌≡◌, refl, sym, ap, ◌∙◌}
use Prim.Native.Nat.{ℕ, ◌+◌, ◌-◌}
use native.Mathlib.Omega.{arith}
use lib.ListN.{take, drop}
use lib.Seq.{sets}
use Rattle.theory.specs.Record.{bytes_of}
use borrow.Rule.Slice.PartMut.{put_mid}
use Rattle.rows.proofs.RowLaws.{length_bytes, part_length, part_stored, put_done, put_turn}
use Rattle.rows.proofs.bytes.put_bytes.Goals as goal

pub loop-byte-init : goal.loop-byte-init
loop-byte-init c = let a = c.args in
    ap (λ (n : ℕ). sets (take (a.at + a.len - a.at) (drop a.at a.s.now)) 0 (bytes_of n a.x)) (let e : a.len ≡ a.len - 0 = omega arith in e)

pub loop-byte-preserved : goal.loop-byte-preserved
loop-byte-preserved c = let a = c.args in
    c.loop-byte.invariant ∙ put_turn c.loop-byte.byte-items a.len c.loop-byte.byte-index c.loop-byte.rest (omega (arith, c.loop-byte-test.true, part_length a.s.now a.at a.len refl c.requires))

pub returns : goal.returns
returns c = let a = c.args in
    ap (put_mid a.at (a.at + a.len - a.at) a.s.now)
    (sym (c.loop-byte.invariant ∙ put_done c.loop-byte.byte-items a.len c.loop-byte.byte-index c.loop-byte.rest (omega (arith, c.loop-byte-test.false, part_length a.s.now a.at a.len refl c.requires))))
    ∙ part_stored a.s.now (bytes_of a.len a.x) a.at a.len c.requires (length_bytes a.len a.x)
