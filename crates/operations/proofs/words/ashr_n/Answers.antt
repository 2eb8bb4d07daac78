use Rattle.std.proofs.Common.{◌<◌, sym, ◌∙◌, arith}
use Rattle.operations.proofs.WordLaws.{ashr_le, ashr_fits, ashr_set}
use Rattle.operations.proofs.words.ashr_n.Goals as goal

pub overflow_sub-result : goal.overflow_sub-result
overflow_sub-result c = ashr_le _ _ _ _ (omega (arith, c.from.ensures, c.if-y-from.true)) c.ones.ensures c.ones-then-top.ensures

pub overflow_add-result : goal.overflow_add-result
overflow_add-result c = record { fits = ashr_fits _ _ _ _ _ c.requires.wide.most (omega (arith, c.from.ensures, c.if-y-from.true)) c.requires.below c.ones.ensures c.ones-then-top.ensures }

pub returns-then-top : goal.returns-then-top
returns-then-top c = let below : c.args.y < c.args.n = omega (arith, c.from.ensures, c.if-y-from.true) in
    ashr_set _ _ _ _ _ below (sym c.bit-top.ensures ∙ c.if-top.true) c.ones.ensures c.ones-then-top.ensures
