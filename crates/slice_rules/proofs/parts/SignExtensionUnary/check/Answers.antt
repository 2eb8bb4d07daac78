use mathlib.Core.Path.{ap, sym, ◌∙◌}
use mathlib.Core.List.{List, ◌++◌}
use Prim.Native.Nat.{ℕ, ◌-◌}
use lib.ListN.{length, get_or, replicate, length-replicate}
use native.Mathlib.Omega.{arith}
use borrow.Author.Tests.{eq-eqb, ne_eqb}
use Rattle.theory.specs.Kind.{False}
use Rattle.theory.specs.Term.{Term, node, nil}
use Rattle.theory.specs.Bits.{extend_bits}
use Rattle.theory.specs.Verdict.{held}
use Rattle.theory.specs.Rule.{compare}
use Rattle.theory.proofs.Indexed.{cond_true, cond_false}
use Rattle.operand_rules.proofs.Numbers.{ends, bits_end, bits_length}
use Rattle.store.specs.Kept.{kept_term, kept_bits, kept_number}
use Rattle.slice_rules.proofs.Copying.{extended}
use Rattle.slice_rules.proofs.Fitting.{own, wider_fits}
use Rattle.slice_rules.proofs.parts.SignExtensionUnary.check.Goals as goal

pub returns-then-self-eq0 : goal.returns-then-self-eq0
returns-then-self-eq0 c = let a = c.args in
    let o = c.requires.one.only in
    let x = kept_term a.kept.now a.x in
    ends held a.kept.now c.requires.one.claimed x (own a.kept.now o.there) c.compare.ensures
    ∙ ap (λ (t : Term). compare held t (kept_term a.kept.now a.claim)) (sym (cond_true x _ (eq-eqb _ _ c.if-self-eq0.true)))

pub bounds-deref-w : goal.bounds-deref-w
bounds-deref-w c =
    let l = bits_length c.requires.one.only (c.deref.ensures.0 ∙ c.get_term_bits-bits.ensures) in
    omega (arith, l, c.width_at-w.ensures.value, c.width_at-w.ensures.bound.0)

pub append-requires : goal.append-requires
append-requires c =
    let f = wider_fits _ c.args.self.copies c.requires.fits in
    let l = bits_length c.requires.one.only c.get_term_bits-bits.ensures in
    let n = ap length (c.deref-2.ensures.0 ∙ c.same_bits.ensures) ∙ length-replicate c.args.self.copies _ in
    record { room = omega (arith, f, l, n) }

pub returns : goal.returns
returns c = let a = c.args in
    let k = a.kept.now in
    let x = kept_term k a.x in
    let n = a.self.copies in
    let w = c.width_at-w.result in
    let l = bits_length c.requires.one.only c.get_term_bits-bits.ensures ∙ sym c.width_at-w.ensures.value in
    bits_end held k c.requires.one.claimed (extend_bits n (kept_bits k a.x))
    (c.append.ensures
    ∙ ap (λ (us : List ℕ). c.get_term_bits-bits.result.items ++ us) (c.deref-2.ensures.0 ∙ c.same_bits.ensures ∙ ap (λ (us : List ℕ). replicate n (get_or us (w - 1) 0)) c.deref.ensures.0)
    ∙ extended (kept_number k) (kept_bits k a.x) c.get_term_bits-bits.ensures (node False nil) n w l c.width_at-w.ensures.bound.0)
    c.compare_bits.ensures
    ∙ ap (λ (t : Term). compare held t (kept_term k a.claim)) (sym (cond_false x _ (ne_eqb _ _ c.if-self-eq0.false)))
