use borrow.Author.Rules.{rules}
use mathlib.Core.Path.{ap, ◌∙◌}
use Rattle.std.specs.Prelude.{take}
use Rattle.std.proofs.lemmas.List.{take-replicate}
use Rattle.circuits.proofs.bits.same_bits.Goals as goal

pub returns : goal.returns
returns c = c.truncate.ensures.items ∙ ap (take c.args.w) (search rules) ∙ take-replicate c.args.w 64 c.args.bit c.requires
