-- `hash`: word by word, the number made so far and the bytes left give the whole number.
use mathlib.Core.Path.{sym, ap, subst, ◌∙◌}
use Prim.Native.Nat.{ℕ, ◌≤◌}
use native.Mathlib.Nat.{mod-lt}
use native.Mathlib.Omega.{arith}
use Rattle.std.specs.Slice.Iter.{chunks_exact_rest, chunks_exact_size}
use Rattle.table.proofs.BucketLaws.{fold_low, hash_last, hash_short, hash_start, hash_turn}
use Rattle.table.proofs.buckets.hash.Goals as goal

pub returns-then-s-lt-BODY_AT : goal.returns-then-s-lt-BODY_AT
returns-then-s-lt-BODY_AT c = let a = c.args in record { value = hash_short a.m a.s.now c.if-s-lt-BODY_AT.true; below = omega arith }

pub loop-word-init : goal.loop-word-init
loop-word-init c = let a = c.args in let i = c.into_iter-word-iterator.ensures.into_iter_gives in
    let rest = ap chunks_exact_rest i ∙ c.chunks_exact-word-items.ensures.rest in
    (omega (arith, c.from-h.ensures, (c.type_inv.s 2).fits), (ap chunks_exact_size i ∙ c.chunks_exact-word-items.ensures.size, hash_start a.m a.s.now (omega (arith, c.if-s-lt-BODY_AT.false)) c.from-h.ensures rest))

pub loop-word-preserved : goal.loop-word-preserved
loop-word-preserved c = let e = c.fold-h.ensures in let s = c.in-Some.ensures.steps in let i = c.loop-word.invariant in (
  subst (λ (x : ℕ). x ≤ 4295032832) (sym e) (fold_low c.loop-word.h c.number_of.result c.args.m i.0 c.number_of.ensures.below c.requires),
  (s.0 ∙ i.1.0, rw e (i.1.1 ∙ hash_turn c.args.m c.loop-word.h c.number_of.result _ _ s.1.0 (s.1.1 ∙ i.1.0) c.number_of.ensures.value)),
)

pub returns : goal.returns
returns c = let i = c.loop-word.invariant in
    record {
      value = sym (i.1.1 ∙ hash_last c.args.m c.loop-word.h _ (omega (arith, i.1.0, c.in-None.ensures.steps.1.0)));
      below = mod-lt c.loop-word.h (omega arith);
    }
