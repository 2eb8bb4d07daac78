-- `symm`: one premise, turned round.
use mathlib.Core.Path.{ap, ◌∙◌}
use Prim.Native.Nat.{ℕ}
use native.Mathlib.Omega.{arith}
use Rattle.terms.proofs.Lists.{words_in_length}
use Rattle.store.specs.KeptTerms.{kept_term}
use Rattle.chains.specs.Premises.{is_equality}
use Rattle.chains.specs.Told.{sides_told}
use Rattle.chains.proofs.Joins.{symm_other, symm_one}
use Rattle.chains.proofs.joining.Claim.symm.Goals as goal

pub returns-then-self-ne1 : goal.returns-then-self-ne1
returns-then-self-ne1 c =
    symm_other _ _ _ _ _ (λ e. c.if-self-ne1.true (omega (arith, words_in_length c.args.self.now.past.now.terms.job.now c.args.self.now.premises)))

pub returns : goal.returns
returns c =
    let p = c.args.self.now.past.now in
    c.shows.ensures
    ∙ ap (λ (k : ℕ). is_equality (kept_term p.terms c.args.self.now.right) (kept_term p.terms c.args.self.now.left) (sides_told p k)) c.argument-number.ensures
    ∙ symm_one _ _ _ _ _ (words_in_length c.args.self.now.past.now.terms.job.now c.args.self.now.premises ∙ c.if-self-ne1.false)
