-- `Term::bytes`: those that are there are stored in eight zeros.
use mathlib.Core.Path.{◌≡◌, refl, ap, ◌∙◌}
use Prim.Native.Nat.{◌-◌}
use native.Mathlib.Omega.{arith}
use lib.ListN.{take, drop, length, length-take}
use Rattle.theory.specs.Record.{little_endian}
use Rattle.theory.proofs.Bytes.{drop_bytes}
use Rattle.terms.proofs.Numbers.{all_bytes}
use Rattle.terms.proofs.LittleEndian.{bytes_there, below, padded}
use Rattle.terms.proofs.Term.bytes.Goals as goal

pub returns : goal.returns
returns c =
    let a = c.args in
    let e = c.copy_from_slice.ensures.after in
    let v : c.from_le_bytes.result ≡ little_endian (take a.n (drop a.at a.s.now))
    = c.from_le_bytes.ensures
    ∙ padded {k = c.min-there.result} c.copy_from_slice.new.self _ refl refl (omega (arith, ap length e, length-take c.min-there.result (take (length a.s.now - c.min.result) (drop c.min.result a.s.now)), c.min-there.ensures)) (omega (arith, c.min-there.ensures, c.requires))
    ∙ ap little_endian (e ∙ bytes_there a.s.now a.at a.n c.min.ensures c.min-there.ensures) in
    record { value = v; bound = rw v (below a.n (drop a.at a.s.now) (drop_bytes _ _ (all_bytes a.s.now c.type_inv.s))) }
