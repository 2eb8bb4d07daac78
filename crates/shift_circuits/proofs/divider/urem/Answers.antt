use mathlib.Core.Path.{refl}
use Rattle.shift_circuits.proofs.DivideLaws.{remains}
use Rattle.shift_circuits.proofs.divider.urem.Goals as goal

pub returns : goal.returns
returns c = remains _ _ _ _ c.args.x.now.items c.bitblast_udiv_urem_rec-d.ensures.value c.len.ensures.value refl c.is_zero-zero.ensures c.ites.ensures
