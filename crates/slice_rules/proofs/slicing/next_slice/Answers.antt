use borrow.Author.Rules.{rules}
use mathlib.Core.Path.{◌≡◌, sym, ap, ◌∙◌}
use Rattle.std.specs.Result.{result_ok}
use Rattle.theory.specs.Verdict.{wrong_form}
use Rattle.theory.specs.Kind.{BvExtract}
use Rattle.theory.specs.Rule.{extract_kind, parts_verdict}
use Rattle.operand_rules.proofs.Forms.{no_form, one_form, one_below}
use Rattle.store.specs.Kept.{kept_term}
use Rattle.slice_rules.specs.Slices.{after}
use Rattle.slice_rules.proofs.SliceLaws.{pair_form, pair_kept, pair_tested}
use Rattle.slice_rules.proofs.slicing.next_slice.Goals as goal

pub returns-in_err-left : goal.returns-in_err-left
returns-in_err-left c = let a = c.args in
    λ next.
    let refused : after c.from_residual-in_err-left.result next ≡ wrong_form = search rules in
    refused ∙ no_form c.term_at.ensures extract_kind (c.of.ensures.other (c.ok_or-2.ensures.ok_part ∙ ap result_ok c.in_err-left.was)) _
    ∙ pair_form c.and_pair.ensures (c.ok_or.ensures.ok_part ∙ ap result_ok c.in_ok-p.was) (parts_verdict a.done (kept_term a.kept.now a.a) (kept_term a.kept.now a.c) next)

pub returns-in_err-right : goal.returns-in_err-right
returns-in_err-right c = let a = c.args in
    let left = c.of.ensures.one _ _ (c.ok_or-2.ensures.ok_part ∙ ap result_ok c.in_ok-left.was) in
    λ next.
    let refused : after c.from_residual-in_err-right.result next ≡ wrong_form = search rules in
    refused ∙ no_form c.term_at-2.ensures extract_kind (c.of-2.ensures.other (c.ok_or-3.ensures.ok_part ∙ ap result_ok c.in_err-right.was)) _
    ∙ sym (one_form c.term_at.ensures (BvExtract _ _) _ left.0 left.1 _)
    ∙ pair_form c.and_pair.ensures (c.ok_or.ensures.ok_part ∙ ap result_ok c.in_ok-p.was) (parts_verdict a.done (kept_term a.kept.now a.a) (kept_term a.kept.now a.c) next)

pub returns : goal.returns
returns c = let a = c.args in
    let pair = c.ok_or.ensures.ok_part ∙ ap result_ok c.in_ok-p.was in
    let left = c.of.ensures.one _ _ (c.ok_or-2.ensures.ok_part ∙ ap result_ok c.in_ok-left.was) in
    let right = c.of-2.ensures.one _ _ (c.ok_or-3.ensures.ok_part ∙ ap result_ok c.in_ok-right.was) in
    let k = pair_kept c.and_pair.ensures pair in
    λ next. c.slice_check.ensures next
    ∙ pair_tested a.kept.now c.term_at.ensures c.term_at-2.ensures a.a a.c a.done _ _ _ _ next left.0 left.1 right.0 right.1
    c.requires.left c.requires.right (one_below c.term_at.ensures _ _ left.1 k.0) (one_below c.term_at-2.ensures _ _ right.1 k.1)
    ∙ pair_form c.and_pair.ensures pair (parts_verdict a.done (kept_term a.kept.now a.a) (kept_term a.kept.now a.c) next)
