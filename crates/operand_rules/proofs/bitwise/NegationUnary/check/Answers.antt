use mathlib.Core.Path.{sym, ap, ◌∙◌}
use Rattle.theory.specs.Circuit.{negate}
use Rattle.theory.proofs.Natural.{negate_hom}
use Rattle.theory.specs.Verdict.{held}
use Rattle.operand_rules.proofs.Numbers.{store_hom, bits_end}
use Rattle.operand_rules.proofs.bitwise.NegationUnary.check.Goals as goal

pub returns : goal.returns
returns c = let k = c.args.kept.now in
    bits_end held k c.requires.one.claimed _ (c.negate.ensures ∙ ap (negate _) c.get_term_bits-xs.ensures ∙ sym (negate_hom (store_hom k) _))
    c.compare_bits.ensures
