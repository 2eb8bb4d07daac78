use mathlib.Core.Path.{◌∙◌}
use native.Mathlib.Numerals.{add-one}
use native.Mathlib.Omega.{arith}
use Rattle.circuits.proofs.AppendLaws.{bits_snoc}
use Rattle.slice_rules.proofs.movement.moved.Goals as goal

pub loop-j-preserved : goal.loop-j-preserved
loop-j-preserved c = let inv = c.loop-j.invariant in
    (c.push.ensures.items ∙ rw (inv.0, c.bit_at.ensures, add-one) (bits_snoc c.loop-j.j _), omega (arith, c.push.ensures.len, inv.1))
