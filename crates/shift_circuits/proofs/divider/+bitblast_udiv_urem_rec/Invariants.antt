use Rattle.shift_circuits.proofs.divider.+bitblast_udiv_urem_rec.Given as goal

-- the bits that are left
abbrev pub decreases-bitblast_udiv_urem_rec : goal.decreases-bitblast_udiv_urem_rec
decreases-bitblast_udiv_urem_rec l = l.left
