-- A bit's byte read back, and And and Or of bits in a row.
use mathlib.Core.Path.{◌≡◌, refl}
use mathlib.Core.Bool.{Bool, true, false, not}
use mathlib.Core.List.{List, [], ◌∷◌}
use Rattle.sweeps.specs.Known.{Known, zero_bit, one_bit, unknown, known_byte, of_byte, of_bool, and_known, or_known}
use Rattle.sweeps.proofs.Partial.{and_cons, or_cons}
use Rattle.ternary.specs.Gates.{row_known}

pub byte_back : (b : Known) → of_byte (known_byte b) ≡ b
byte_back zero_bit = refl
byte_back one_bit = refl
byte_back unknown = refl

-- ---- bits in a row
pub join_row : (o : Bool) (b : Known) (bs : List Known) → row_known o (b ∷ bs) ≡ row_known o (b ∷ row_known o bs ∷ [])
join_row true b bs = or_cons b bs
join_row false b bs = and_cons b bs

pub row_start : (o : Bool) → of_bool (not o) ≡ row_known o []
unfolding and_known or_known
row_start true = refl
row_start false = refl
