use Rattle.marks.proofs.Walking.{walk_step, walk_at, walk_on}
use Rattle.partial.proofs.PassLaws.{bool_width, other_width, know_turn, know_over, know_next}
use Rattle.partial.proofs.pass.known_all.Goals as goal
use mathlib.Core.Path.{◌∙◌}

pub loop-k-preserved-then-eq : goal.loop-k-preserved-then-eq
loop-k-preserved-then-eq c = let s = c.loop-k.invariant in
    let g = c.in-Some.ensures.steps in
    let e = walk_step s g in
    let v = c.from-v in
    let b = bool_width c.sort_on.result _ c.sort_on.ensures c.eq.ensures c.if-eq.true in
    walk_on s g (know_next (know_turn (walk_at s g) e.low e.marked b v.type_inv c.known_of.ensures (v.ensures ∙ c.bit_byte.ensures) c.put_cell.ensures) e.on)

pub loop-k-preserved : goal.loop-k-preserved
loop-k-preserved c = let s = c.loop-k.invariant in
    let g = c.in-Some.ensures.steps in
    let e = walk_step s g in
    walk_on s g (know_next (know_over (walk_at s g) e.low (λ m. other_width c.sort_on.result _ c.sort_on.ensures c.eq.ensures c.if-eq.false)) e.on)
