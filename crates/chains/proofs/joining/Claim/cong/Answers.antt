-- `cong`: one kind on both sides, and a premise for each argument.
use mathlib.Core.Path.{sym, ap₂, subst, ◌∙◌}
use Rattle.terms.specs.declared.Operands.{Operands}
use Rattle.terms.specs.Decoded.{OperandsPlaced, op_of, numbers_of, arguments_of}
use Rattle.store.specs.KeptTerms.{kept_terms}
use Rattle.chains.specs.Premises.{argued}
use Rattle.chains.specs.Told.{all_sides_told}
use Rattle.chains.proofs.Joins.{args_below, cong_other, cong_is}
use Rattle.chains.proofs.joining.Claim.cong.Goals as goal

pub returns-then-not-same_kind : goal.returns-then-not-same_kind
returns-then-not-same_kind c =
    cong_other _ _ _ (op_of c.term_on-s.result) (op_of c.term_on-t.result) (arguments_of c.args.self.now.past.now.terms.job.now c.term_on-s.result)
    (arguments_of c.args.self.now.past.now.terms.job.now c.term_on-t.result) c.term_on-s.ensures.term_at.made c.term_on-t.ensures.term_at.made
    (sym c.same_kind.ensures ∙ c.if-not-same_kind.true)

pub argument_wise-requires : goal.argument_wise-requires
argument_wise-requires c =
    let s = c.term_on-s.ensures.term_at in
    let t = c.term_on-t.ensures.term_at in
    record {
      left_placed = subst (OperandsPlaced c.args.self.now.past.now.terms.job.now) (sym c.operands.ensures) s.placed;
      left_below = args_below s c.args.self.now.joining.left c.operands.result c.operands.ensures;
      right_placed = subst (OperandsPlaced c.args.self.now.past.now.terms.job.now) (sym c.operands-2.ensures) t.placed;
      right_below = args_below t c.args.self.now.joining.right c.operands-2.result c.operands-2.ensures;
    }

pub returns : goal.returns
returns c =
    let p = c.args.self.now.past.now in
    c.argument_wise.ensures
    ∙ ap₂ (λ (x y : Operands). argued (kept_terms p.terms) (all_sides_told p c.args.self.now.premises) (numbers_of p.terms.job.now x) (numbers_of p.terms.job.now y))
    c.operands.ensures c.operands-2.ensures
    ∙ cong_is _ _ _ (op_of c.term_on-s.result) (op_of c.term_on-t.result) (arguments_of p.terms.job.now c.term_on-s.result)
    (arguments_of p.terms.job.now c.term_on-t.result) c.term_on-s.ensures.term_at.made c.term_on-t.ensures.term_at.made
    (sym c.same_kind.ensures ∙ c.if-not-same_kind.false)
