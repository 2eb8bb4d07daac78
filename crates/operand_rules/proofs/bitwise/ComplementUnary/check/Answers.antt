use mathlib.Core.Path.{sym, ap, ◌∙◌}
use mathlib.Core.List.{map}
use Rattle.theory.proofs.Natural.{map_not_hom}
use Rattle.theory.specs.Verdict.{held}
use Rattle.operand_rules.proofs.Numbers.{store_hom, bits_end}
use Rattle.operand_rules.proofs.bitwise.ComplementUnary.check.Goals as goal

pub returns : goal.returns
returns c = let k = c.args.kept.now in
    bits_end held k c.requires.one.claimed _ (c.nots.ensures ∙ ap (map _) c.get_term_bits-xs.ensures ∙ sym (map_not_hom (store_hom k) _))
    c.compare_bits.ensures
