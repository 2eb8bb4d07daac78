-- What demand 3 shuts out. In this job record 0 stops it with code 6, since no term 7 is there; an outcome that claims three records done
-- and one answer "held" is no outcome of it, and does not meet demand 3, whatever its answer says.
use mathlib.Core.Path.{◌≡◌, refl}
use mathlib.Core.List.{[], ◌∷◌}
use Prim.Native.Nat.{ℕ}
use native.Mathlib.Omega.{arith}
use Rattle.theory.specs.Limit.{rack}
use Rattle.theory.specs.Record.{Bytes, cut, shape_of, read, number_length}
use Rattle.theory.specs.Codes.{fault}
use Rattle.theory.specs.Answer.{Answer}
use Rattle.theory.specs.Demand.{Demand3}

-- Not of term 7; Equals of terms 2 and 1; a step of rule 8 on term 3
abbrev job : Bytes
job = 0x04 ∷ 0x00 ∷ 0x14 ∷ 0x00 ∷ 0x07 ∷ 0x00 ∷ 0x06 ∷ 0x00 ∷ 0x18 ∷ 0x00 ∷ 0x02 ∷ 0x00 ∷ 0x01 ∷ 0x00 ∷ 0x06 ∷ 0x00 ∷ 0x64 ∷ 0x00 ∷ 0x08 ∷ 0x00 ∷ 0x03 ∷ 0x00 ∷ []

pub shut_out : (a : Answer) → Demand3 rack job 64 64 3 (a ∷ []) → ⊥
unfolding cut shape_of read number_length fault
shut_out a d =
    let e : ◌≡◌ {A = ℕ} 6 0 = (d.each 0 a refl).reached.passes 0 (0x04 ∷ 0x00 ∷ 0x14 ∷ 0x00 ∷ 0x07 ∷ 0x00 ∷ []) (omega arith) refl in
    omega arith
