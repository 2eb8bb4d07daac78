use borrow.Author.Rules.{rules}
use mathlib.Core.Path.{ap₂, ◌∙◌}
use Rattle.theory.specs.Circuit.{slt}
use Rattle.circuits.proofs.CompareLaws.{slt_empty, slt_one, slt_more}
use Rattle.circuits.proofs.compare.slt.Goals as goal

pub returns-in_default : goal.returns-in_default
returns-in_default c = slt_empty _ c.args.x.now.items _ (search rules)

pub returns-then-is_empty : goal.returns-then-is_empty
returns-then-is_empty c = slt_one _ c.as_slice.result.now c.as_slice-2.result.now (search rules) (search rules) c.sign_bit.ensures ∙ ap₂ (slt _) c.as_slice.ensures.value c.as_slice-2.ensures.value

pub returns : goal.returns
returns c = slt_more _ c.as_slice.result.now c.as_slice-2.result.now (search rules) (search rules) c.bitblast_ult-below.ensures c.sign_step.ensures ∙ ap₂ (slt _) c.as_slice.ensures.value c.as_slice-2.ensures.value
