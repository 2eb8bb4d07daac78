use borrow.Author.Rules.{rules}
use mathlib.Core.Path.{sym, ap, ◌∙◌}
use mathlib.Core.Bool.{cond}
use Prim.Native.Nat.{ℕ, ◌+◌, ◌-◌}
use lib.Dec.{eqb}
use native.Mathlib.Omega.{arith}
use Rattle.theory.specs.Bits.{extract_bits}
use Rattle.theory.specs.Verdict.{held, terms_differ}
use Rattle.operand_rules.proofs.Forms.{no_case}
use Rattle.operand_rules.proofs.Numbers.{bits_end, bits_length}
use Rattle.store.specs.Kept.{kept_bits, kept_number}
use Rattle.slice_rules.proofs.Copying.{extracted}
use Rattle.slice_rules.proofs.Fitting.{any_form, part_fits}
use Rattle.slice_rules.proofs.parts.ExtractionUnary.check.Goals as goal

pub returns-in_default : goal.returns-in_default
returns-in_default c = no_case c.term_at.ensures 12 (search rules) tt _

pub slice_bounds-part-end : goal.slice_bounds-part-end
slice_bounds-part-end c =
    let f = part_fits _ c.args.self.upper c.args.self.lower c.requires.fits in
    let l = bits_length c.requires.one.only (c.deref.ensures.0 ∙ c.get_term_bits-xs.ensures) in
    omega (arith, f.1, l)

pub returns : goal.returns
returns c = let a = c.args in
    let k = a.kept.now in
    let i = a.self.upper in
    let j = a.self.lower in
    let f = part_fits _ i j c.requires.fits in
    bits_end held k c.requires.one.claimed (extract_bits i j (kept_bits k a.x))
    (extracted (kept_number k) (kept_bits k a.x) (c.deref.ensures.0 ∙ c.get_term_bits-xs.ensures) i j (i + 1 - j) (omega (arith, f.0)))
    (c.compare.ensures ∙ ap (λ (n : ℕ). cond (eqb n a.claim) held terms_differ) c.bb_term.ensures)
    ∙ sym (any_form c.term_at.ensures 12 (search rules) _)
