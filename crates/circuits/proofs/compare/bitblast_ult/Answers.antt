use mathlib.Core.Logic.{inl, inr}
use mathlib.Core.Path.{ap, ◌∙◌}
use Rattle.std.specs.Iterator.Adapters.{zip_first, zip_second}
use Rattle.std.specs.Slice.Iter.{iter_rest}
use Rattle.std.proofs.lemmas.Slice.Zip.{either_empty_from_Zip}
use Rattle.circuits.proofs.CompareLaws.{ult_start, ult_next, ult_none, ult_empty}
use Rattle.circuits.proofs.compare.bitblast_ult.Goals as goal

pub returns-in_default : goal.returns-in_default
returns-in_default c = ult_empty _ c.args.x.now c.args.y.now (inl c.in_default.len_below)

pub returns-in_default-y : goal.returns-in_default-y
returns-in_default-y c = ult_empty _ c.args.x.now c.args.y.now (inr c.in_default-y.len_below)

pub loop-a-init : goal.loop-a-init
loop-a-init c = let it = c.into_iter-a-iterator.ensures.into_iter_gives in
    let z = c.zip-a-items.ensures in
    ult_start _ _ _ c.in-len1-up.len_at_least c.in-len1-up-y.len_at_least c.less_bit-res.ensures
    (ap (λ i. iter_rest (zip_first i)) it ∙ ap iter_rest z.first ∙ c.iter.ensures.rest) (ap (λ i. iter_rest (zip_second i)) it ∙ z.second.0)

pub loop-a-preserved : goal.loop-a-preserved
loop-a-preserved c = ult_next _ c.in-Some.ensures.steps c.less_step-res.ensures ∙ c.loop-a.invariant

pub returns : goal.returns
returns c = ult_none _ (either_empty_from_Zip c.loop-a.a-iterator c.next.new.self _ c.in-None.is c.next.ensures.steps) ∙ c.loop-a.invariant
