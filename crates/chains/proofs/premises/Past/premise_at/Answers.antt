-- `premise_at`: an earlier step that is held, and whose literal's origin is before its record.
use mathlib.Core.Path.{sym, ◌∙◌}
use Rattle.chains.proofs.Standing.{premise_beyond, code_told, place_told, premise_refused, premise_claims_none, premise_stands}
use Rattle.chains.proofs.premises.Past.premise_at.Goals as goal

pub returns-then-self-k : goal.returns-then-self-k
returns-then-self-k c = premise_beyond _ _ _ _ _ c.if-number-eq0.false c.if-self-k.true

pub returns-then-code_at : goal.returns-then-code_at
returns-then-code_at c =
    premise_refused _ _ _ _ _ c.if-number-eq0.false c.if-self-k.false (code_told c.args.self.now _ c.code_at.ensures.value)
    c.if-code_at.true

pub returns-in_err-p : goal.returns-in_err-p
returns-in_err-p c =
    c.from_residual.ensures
    ∙ premise_claims_none _ _ _ _ _ c.if-number-eq0.false c.if-self-k.false (code_told c.args.self.now _ c.code_at.ensures.value)
    c.if-code_at.false (place_told c.args.self.now _ c.place_at-at.ensures.value) (sym c.in_err-p.was ∙ c.claimed.ensures)

pub returns : goal.returns
returns c =
    c.then_some.ensures
    ∙ premise_stands _ _ _ _ _ c.if-number-eq0.false c.if-self-k.false (code_told c.args.self.now _ c.code_at.ensures.value)
    c.if-code_at.false (place_told c.args.self.now _ c.place_at-at.ensures.value) (sym c.in_ok-p.was ∙ c.claimed.ensures)
    c.kept_before.ensures
