use mathlib.Core.Path.{◌∙◌}
use native.Mathlib.Numerals.{add-one}
use native.Mathlib.Omega.{arith}
use Rattle.circuits.proofs.AppendLaws.{bits_snoc}
use Rattle.circuits.proofs.bits.select_bits.Goals as goal

pub loop-i-preserved : goal.loop-i-preserved
loop-i-preserved c = let inv = c.loop-i.invariant in
    (c.push.ensures.items ∙ rw (inv.0, c.bit_of.ensures, add-one) (bits_snoc c.loop-i.i _), omega (arith, c.push.ensures.len, inv.1))
