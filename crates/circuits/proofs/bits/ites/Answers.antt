use mathlib.Core.Path.{ap}
use Rattle.std.specs.Prelude.{length}
use Rattle.std.proofs.lemmas.Slice.Zip.{either_empty_from_Zip}
use Rattle.circuits.proofs.AppendLaws.{append_turn, append_end, zip_next, zip_none}
use Rattle.circuits.proofs.bits.ites.Goals as goal

pub loop-a-preserved : goal.loop-a-preserved
loop-a-preserved c = let h = c.in-Some.ensures.steps in
    append_turn c.loop-a.invariant c.push.ensures.items (zip_next _ h c.ite3.ensures) (ap length h.0)

pub returns : goal.returns
returns c = append_end c.loop-a.invariant (zip_none _ (either_empty_from_Zip c.loop-a.a-iterator c.next.new.self _ c.in-None.is c.next.ensures.steps))
