-- `verdict_by`: the form of the claim first, then the joining, and the premises where that fails.
use mathlib.Core.Path.{sym, ◌∙◌}
use borrow.Author.Rules.{rules}
use Rattle.terms.specs.Decoded.{words_in}
use Rattle.store.specs.KeptTerms.{kept_terms}
use Rattle.chains.specs.Told.{earlier_told}
use Rattle.chains.proofs.Verdicts.{no_claim, claim_joined}
use Rattle.chains.proofs.verdict_by.Goals as goal

pub returns-in_default : goal.returns-in_default
returns-in_default c = c.refused.ensures ∙ no_claim c.term_on.ensures.term_at _ (search rules) _

pub returns-then-joins_by : goal.returns-then-joins_by
returns-then-joins_by c =
    let p = c.args.past.now in
    claim_joined c.term_on.ensures.term_at _ (earlier_told p) (kept_terms p.terms) (words_in p.terms.job.now c.args.premises) c.in-Equals.is
    (sym c.if-joins_by.true ∙ c.joins_by.ensures)

pub returns : goal.returns
returns c =
    let p = c.args.past.now in
    c.refused-2.ensures
    ∙ claim_joined c.term_on.ensures.term_at _ (earlier_told p) (kept_terms p.terms) (words_in p.terms.job.now c.args.premises) c.in-Equals.is
    (sym c.if-joins_by.false ∙ c.joins_by.ensures)
