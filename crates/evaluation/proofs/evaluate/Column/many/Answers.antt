use mathlib.Core.Path.{sym, ap, ◌∙◌}
use mathlib.Core.List.{List, ◌∷◌}
use Prim.Native.Nat.{ℕ}
use Rattle.terms.specs.Numbers.{numbers_left}
use Rattle.evaluation.proofs.ListLaws.{folding_ready, folding_turn, start_ready, folding_start}
use Rattle.evaluation.proofs.evaluate.Column.many.Goals as goal

pub start-acc-requires : goal.start-acc-requires
start-acc-requires c = start_ready c.args.op _ c.requires.given _ _ _ c.width_on.ensures c.number.ensures c.split_first-first.ensures.numbers

pub loop-k-init : goal.loop-k-init
loop-k-init c =
    let left = ap numbers_left c.into_iter-k-iterator.ensures.into_iter_gives ∙ c.numbers-k-items.ensures in
    folding_start c.args.op _ c.requires.given _ _ _ c.width_on.ensures c.number.ensures
    (c.split_first-first.ensures.numbers ∙ ap (λ (ks : List ℕ). c.split_first-first.result.0 ∷ ks) (sym left)) _ c.start-acc.ensures

pub extend-acc-requires : goal.extend-acc-requires
extend-acc-requires c = folding_ready c.args.op _ c.requires.given _ _ _ c.width_on-in-loop-k.ensures c.number-in-loop-k.ensures _ c.loop-k.invariant c.in-Some.ensures.steps

pub loop-k-preserved : goal.loop-k-preserved
loop-k-preserved c = folding_turn c.args.op _ c.requires.given _ _ _ c.width_on-in-loop-k.ensures c.number-in-loop-k.ensures _ c.loop-k.invariant c.in-Some.ensures.steps _ c.extend-acc.ensures
