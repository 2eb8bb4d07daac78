use mathlib.Core.Path.{refl}
use Rattle.circuits.proofs.AppendLaws.{with_left}
use Rattle.shift_circuits.proofs.DivideLaws.{quotient}
use Rattle.shift_circuits.proofs.divider.udiv.Goals as goal

pub returns : goal.returns
returns c =
    quotient _ _ _ _ c.args.x.now.items c.bitblast_udiv_urem_rec-d.ensures.value c.len.ensures.value refl c.is_zero-zero.ensures
    (with_left _ _ _ c.ites.ensures c.same_bits-trues.ensures c.len-2.ensures.value)
