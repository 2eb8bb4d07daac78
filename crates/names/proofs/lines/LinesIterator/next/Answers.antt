use borrow.Author.Rules.{rules}
use borrow.Author.Tests.{tests}
use mathlib.Core.Path.{◌≡◌, ap}
use native.Mathlib.Omega.{arith}
use lib.ListN.{length}
use Rattle.std.proofs.lemmas.Iterator.{IsFirst-from_position, YieldsList-from_slice}
use Rattle.names.proofs.LineLaws.{first_left}
use Rattle.names.proofs.lines.LinesIterator.next.Goals as goal

pub returns : goal.returns
returns c =
    let text = c.args.self.now.rest.now in
    let first = first_left text c.position-newline.result (search rules)
    (IsFirst-from_position _ _ _ (λ b. b ≡ 10) (λ b. b ≡ 10 → ⊥) c.position-newline.ensures.ran (YieldsList-from_slice text c.iter.ensures.rest) (λ x q k. search (rules, tests)) (λ x q k. search (rules, tests)))
    c.unwrap_or-end.ensures c.min.ensures in
    let shorter = ap length first in
    record { steps = first; goes = record { on = λ _. (tt, tt, omega (arith, shorter)); keeps = tt; rests = λ _. tt } }
