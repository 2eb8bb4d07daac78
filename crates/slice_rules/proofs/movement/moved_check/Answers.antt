use mathlib.Core.Path.{◌∙◌}
use Prim.Native.Nat.{◌+◌, ◌%◌}
use Rattle.theory.specs.Kind.{False}
use Rattle.theory.specs.Term.{node, nil}
use Rattle.theory.specs.Bits.{get_term_bits, moved_bits}
use Rattle.theory.specs.Verdict.{held}
use Rattle.operand_rules.proofs.Numbers.{store_hom, bits_end}
use Rattle.store.specs.Kept.{kept_term, kept_number}
use Rattle.slice_rules.specs.Moves.{move_of}
use Rattle.slice_rules.proofs.Moving.{moved_numbers}
use Rattle.slice_rules.proofs.movement.moved_check.Goals as goal

pub returns : goal.returns
returns c = let a = c.args in
    let k = a.kept.now in
    let ts = get_term_bits (kept_term a.kept.now a.x) in
    bits_end held k c.requires.claim (moved_bits (move_of a.by) ts)
    (c.moved-bits.ensures ∙ moved_numbers (kept_number a.kept.now) (node False nil) ts c.get_term_bits.ensures (store_hom k).false_hom a.by.size (λ j. (j + a.by.shift) % a.by.cycle))
    c.compare_bits.ensures
