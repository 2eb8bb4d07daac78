use borrow.Author.Rules.{rules}
use mathlib.Core.Path.{sym, ap, ◌∙◌}
use mathlib.Core.List.{map}
use Prim.Native.Nat.{ℕ}
use Rattle.theory.specs.Sort.{sort_width}
use Rattle.store.specs.Kept.{kept_number}
use Rattle.operand_rules.proofs.Sorts.{width_bits, width_numbers}
use Rattle.shift_rules.proofs.shifts.width_bits.Goals as goal

pub returns : goal.returns
returns c = λ t e.
    width_numbers c.args.kept.now c.len-w.result (search rules) c.len-w.ensures.fits c.constant-size.ensures c.select_bits.ensures
    ∙ ap (λ (n : ℕ). map (kept_number c.args.kept.now) (width_bits n)) (c.len-w.ensures.value ∙ sym (ap sort_width e.sort))
