-- going through the arguments, the array has the record's head and those passed
use mathlib.Core.Path.{◌≡◌, refl, ap, subst, ◌∙◌}
use Prim.Native.Nat.{ℕ, ◌<◌, ◌≤◌}
use native.Mathlib.Omega.{arith}
use lib.ListN.{length, get_or}
use lib.Seq.{sets}
use Rattle.theory.specs.Record.{bytes_of}
use Rattle.table.proofs.KeyLaws.{building_start, building_turn, built_all, built_none, written_more, written_none, written_own, roomy_own}
use Rattle.table.proofs.lists.build_key.Goals as goal

pub loop-arg-init : goal.loop-arg-init
loop-arg-init g c = let r = c.requires.room in
    let w = written_more (written_more (written_none c.args.key.now) 2 _ (omega (arith, c.BYTES.ensures)) (rw c.BYTES.ensures at c.put_number_of.ensures)) 2 _ (omega arith) c.put_number_of-2.ensures in
    (building_start _ _ _ (written_own w), roomy_own w c.requires)

pub returns-then-limit-x : goal.returns-then-limit-x
returns-then-limit-x g c = let a = c.args in
    built_none c.loop-arg.arg-index c.loop-arg-test.true
    (subst (λ (m : ℕ). m ≤ get_or a.args.now c.loop-arg.arg-index 0) c.last_number-limit.ensures c.if-limit-x.true) (let same_here : length c.loop-arg.key ≡ length c.args.key.now = let r = c.requires.room in
    c.loop-arg.invariant.0.written.long
    ∙ (written_more (written_more (written_none c.args.key.now) 2 _ (omega arith) c.put_number_of.ensures) 2 _ (omega arith) c.put_number_of-2.ensures).long in same_here)

pub loop-arg-preserved : goal.loop-arg-preserved
loop-arg-preserved g c = let a = c.args in (
  rw c.BYTES-at.ensures (building_turn c.loop-arg.invariant.0 c.loop-arg.invariant.1 c.loop-arg-test.true _ refl
      (subst (λ (m : ℕ). get_or a.args.now c.loop-arg.arg-index 0 < m) c.last_number-limit.ensures c.if-limit-x.false) (c.put_number.ensures ∙ ap (λ (b : ℕ). sets c.loop-arg.key c.loop-arg.at (bytes_of b (get_or a.args.now c.loop-arg.arg-index 0))) c.BYTES-in-loop-arg.ensures)),
  c.loop-arg.invariant.1,
)

pub returns : goal.returns
returns g c = built_all c.loop-arg.invariant.0 c.loop-arg-test.false (let same_here : length c.loop-arg.key ≡ length c.args.key.now = let r = c.requires.room in
    c.loop-arg.invariant.0.written.long
    ∙ (written_more (written_more (written_none c.args.key.now) 2 _ (omega arith) c.put_number_of.ensures) 2 _ (omega arith) c.put_number_of-2.ensures).long in same_here)
