use mathlib.Core.Path.{sym, ◌∙◌}
use Rattle.words.proofs.WordLaws.{token_end, token_left, token_right, token_bad, token_word}
use Rattle.words.proofs.tokens.next_token.Goals as goal

pub returns-in_default : goal.returns-in_default
returns-in_default c = token_end c.skip_blanks-line.result.now c.in_default.ensures.cases ∙ c.skip_blanks-line.ensures.same

pub returns-then-b-eq40 : goal.returns-then-b-eq40
returns-then-b-eq40 c = token_left c.in-Some.ensures.cases.0 c.skip_blanks-line.ensures.black c.if-b-eq40.true ∙ c.skip_blanks-line.ensures.same

pub returns-then-b-eq41 : goal.returns-then-b-eq41
returns-then-b-eq41 c = token_right c.in-Some.ensures.cases.0 c.skip_blanks-line.ensures.black c.if-b-eq41.true ∙ c.skip_blanks-line.ensures.same

pub returns-then-not-in_word : goal.returns-then-not-in_word
returns-then-not-in_word c =
    token_bad c.in-Some.ensures.cases.0 c.skip_blanks-line.ensures.black c.if-b-eq40.false c.if-b-eq41.false
    (sym c.in_word.ensures ∙ c.if-not-in_word.true)
    ∙ c.skip_blanks-line.ensures.same

pub returns : goal.returns
returns c =
    token_word c.in-Some.ensures.cases.0 c.skip_blanks-line.ensures.black c.if-b-eq40.false c.if-b-eq41.false
    (sym c.in_word.ensures ∙ c.if-not-in_word.false) c.split_word.ensures.word c.split_word.ensures.rest
    ∙ c.skip_blanks-line.ensures.same
