-- The weight of the top bit and the lower bits add up to the signed value, which fits.
use Rattle.std.proofs.Common.{arith, ◌∙◌}
use mir.Facts.{to_z-of_z}
use Rattle.theory.proofs.Signs.{sum_fits, set, clear, wide_enough}
use Rattle.theory.proofs.sign.signed_value.Goals as goal

pub returns-then-x-n-eq1 : goal.returns-then-x-n-eq1
returns-then-x-n-eq1 c =
    let ne = c.if-n-eq0.false in
    let h = c.if-n-gt64.false in
    wide_enough _ _ _ (omega arith) h (to_z-of_z (sum_fits _ _ ne h) ∙ set _ _ ne h c.if-x-n-eq1.true)

pub returns-else-x-n-eq1 : goal.returns-else-x-n-eq1
returns-else-x-n-eq1 c =
    let ne = c.if-n-eq0.false in
    let h = c.if-n-gt64.false in
    wide_enough _ _ _ (omega arith) h (clear _ _ ne h c.if-x-n-eq1.false)
