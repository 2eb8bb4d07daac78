use borrow.Author.Rules.{rules}
use borrow.Author.Tests.{tests}
use mathlib.Core.Path.{◌≡◌, ◌∙◌}
use mathlib.Core.Bool.{true, false}
use Rattle.std.proofs.lemmas.Iterator.{IsFirst-from_position, YieldsList-from_slice}
use Rattle.text.specs.Tokens.{in_word}
use Rattle.words.proofs.WordLaws.{word_split, word_rest, FirstPlace}
use Rattle.words.proofs.tokens.split_word.Goals as goal

pub returns : goal.returns
returns c =
    let first : FirstPlace in_word c.args.line.now c.position-end.result
    = IsFirst-from_position _ _ _ (λ b. in_word b ≡ false) (λ b. in_word b ≡ true) c.position-end.ensures.ran (YieldsList-from_slice c.args.line.now cc) (λ x q k. search (rules, tests)) (λ x q k. search (rules, tests)) in
    record {
      word = c.split_at.ensures.front ∙ word_split c.args.line.now _ first _ c.unwrap_or.ensures;
      rest = c.split_at.ensures.back ∙ word_rest c.args.line.now _ first _ c.unwrap_or.ensures;
    }
