use mathlib.Core.Path.{sym, ◌∙◌}
use mathlib.Core.Bool.{false}
use native.Mathlib.Omega.{arith}
use Rattle.text.specs.Tokens.{in_symbol}
use Rattle.words.proofs.WordLaws.{agree, symbol_word}
use Rattle.words.proofs.tokens.in_symbol.Goals as goal

pub returns-then-b-eq35 : goal.returns-then-b-eq35
unfolding in_symbol
returns-then-b-eq35 c = sym (agree in_symbol (λ b. false) 35 1 tt c.args.b (omega arith) (omega arith))

pub returns-then-b-eq58 : goal.returns-then-b-eq58
unfolding in_symbol
returns-then-b-eq58 c = sym (agree in_symbol (λ b. false) 58 1 tt c.args.b (omega arith) (omega arith))

pub returns : goal.returns
returns c = c.in_word.ensures ∙ symbol_word c.args.b c.if-b-eq35.false c.if-b-eq58.false
