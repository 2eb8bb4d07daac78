use borrow.Author.Rules.{rules}
use borrow.Author.Tests.{tests}
use mathlib.Core.Path.{◌≡◌}
use mathlib.Core.Bool.{true, false}
use Rattle.std.proofs.lemmas.Iterator.{IsFirst-from_position, YieldsList-from_slice}
use Rattle.std.proofs.lemmas.List.{take_rest}
use Rattle.text.specs.Tokens.{is_blank}
use Rattle.words.proofs.WordLaws.{skipped, skipped_black, FirstPlace}
use Rattle.words.proofs.tokens.skip_blanks.Goals as goal

pub returns : goal.returns
returns c =
    let first : FirstPlace is_blank c.args.line.now c.position-start.result
    = IsFirst-from_position _ _ _ (λ b. is_blank b ≡ false) (λ b. is_blank b ≡ true) c.position-start.ensures.ran (YieldsList-from_slice c.args.line.now cc) (λ x q k. search (rules, tests)) (λ x q k. search (rules, tests)) in
    let rest = take_rest c.args.line.now c.unwrap_or.result in
    record { same = skipped c.args.line.now _ first _ c.unwrap_or.ensures rest; black = skipped_black c.args.line.now _ first _ c.unwrap_or.ensures rest }
