use borrow.Author.Rules.{rules}
use mathlib.Core.Path.{refl, ◌∙◌}
use Rattle.std.specs.Iterator.Adapters.{zip_second}
use Rattle.shift_circuits.proofs.ShiftLaws.{stages_start, stages_low, stages_turn, stages_end}
use Rattle.shift_circuits.proofs.shift.stages.Goals as goal

pub loop-s-init : goal.loop-s-init
loop-s-init g c = stages_start (c.shift_stages-stages.ensures ∙ rw c.len.ensures.value refl) (search rules) (search rules) (search rules)

pub stage-res-requires : goal.stage-res-requires
stage-res-requires g c = record { stage = stages_low c.loop-s.invariant c.in-Some.s c.in-Some.ensures.steps.0 (search rules) }

pub loop-s-preserved : goal.loop-s-preserved
loop-s-preserved g c = let h = c.in-Some.ensures.steps in stages_turn c.loop-s.invariant c.in-Some.s _ h.0 h.1 c.stage-res.ensures

pub returns : goal.returns
returns g c = stages_end (zip_second c.loop-s.s-iterator) c.loop-s.invariant c.in-None.ensures.steps
