-- `has_room`: a place among the rack's, one among the stated, and what a term costs.
use mathlib.Core.Path.{refl, ap, ◌∙◌}
use Prim.Native.Nat.{ℕ, ◌+◌, ◌*◌, ◌<◌, ◌≤◌}
use native.Mathlib.Nat.{mul-le-mul_left}
use native.Mathlib.Omega.{arith}
use Rattle.theory.specs.Limit.{max_terms}
use Rattle.terms.specs.Bodies.{Length}
use Rattle.table.proofs.AddLaws.{room_memory, room_numbers}
use Rattle.table.proofs.kept.has_room.Goals as goal

-- what the terms cost is far below what a number holds
cheap : (n b : ℕ) → Length b → 2 + n < 4294967296 → n * (4 + 2 * b) ≤ n * 12
cheap n b l h = mul-le-mul_left n (let f = l.few_bytes in let z : 4 + 2 * b ≤ 12 = omega arith in z)

pub returns-then-max_terms-n : goal.returns-then-max_terms-n
returns-then-max_terms-n g c = let a = c.args in
    room_numbers g.N.Lengths.BYTES a.limit a.n a.len (omega (arith, c.max_terms.ensures ∙ ap max_terms c.BYTES.ensures, c.if-max_terms-n.true))

pub returns-then-limit-n : goal.returns-then-limit-n
returns-then-limit-n g c = let a = c.args in room_numbers g.N.Lengths.BYTES a.limit a.n a.len (omega (arith, c.if-limit-n.true))

pub returns : goal.returns
returns g c = let a = c.args in
    room_memory g.N.Lengths.BYTES a.limit a.n a.len refl (rw c.BYTES-2.ensures (omega arith))
    (omega (arith, c.max_terms.ensures ∙ ap max_terms c.BYTES.ensures, c.if-max_terms-n.false, c.if-limit-n.false))
