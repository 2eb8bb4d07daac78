use borrow.Author.Rules.{rules}
use borrow.Author.Tests.{tests}
use mathlib.Core.Path.{ap, ◌∙◌}
use native.Mathlib.Omega.{arith}
use Prim.Native.Nat.{◌<◌, ◌^◌}
use lib.Dec.{eqb}
use lib.ListN.{length}
use Rattle.std.specs.Cmp.Lexicographic.{pointwise}
use Rattle.std.proofs.lemmas.Iterator.Search.{find_from_yields_List}
use Rattle.std.proofs.lemmas.Iterator.Consumers.{YieldsList-from_enumerate, YieldsList-at}
use Rattle.text.specs.Convert.{lines}
use Rattle.names.proofs.LineLaws.{lines_few}
use Rattle.names.specs.Kinds.{declarations, declared_in}
use Rattle.names.specs.Lines.{lines_left}
use Rattle.names.proofs.FindLaws.{YieldsList-from_declared, none_named, one_named}
use Rattle.names.proofs.names.find_name.Goals as goal

pub find-requires-clause-can : goal.find-requires-clause-can
find-requires-clause-can c =
    let f = lines_few c.args.declarations.now in
    let l : length (lines c.args.declarations.now) < 2 ^ 64 = omega (arith, f, c.well_formed) in
    search rules

pub returns-in_err-k : goal.returns-in_err-k
returns-in_err-k c =
    let is = find_from_yields_List (λ p. pointwise eqb c.args.word.now p.1.name) c.find.new.self _ c.find.result c.find.ensures.ran
    (YieldsList-from_enumerate (YieldsList-at c.enumerate.ensures.source (YieldsList-from_declared _ (λ f x r q k. search (rules, tests)) _)) c.enumerate.ensures.count)
    (λ x b q k. search (rules, tests)) in
    let same = ap (λ s. declarations (lines_left s)) c.filter_map-declared.ensures.source ∙ ap declared_in c.new.ensures in
    rw c.from_residual.ensures (none_named c.args.word.now _ (declared_in c.args.declarations.now) c.find.result is same c.in_err-k.was)

pub returns : goal.returns
returns c =
    let is = find_from_yields_List (λ p. pointwise eqb c.args.word.now p.1.name) c.find.new.self _ c.find.result c.find.ensures.ran
    (YieldsList-from_enumerate (YieldsList-at c.enumerate.ensures.source (YieldsList-from_declared _ (λ f x r q k. search (rules, tests)) _)) c.enumerate.ensures.count)
    (λ x b q k. search (rules, tests)) in
    let same = ap (λ s. declarations (lines_left s)) c.filter_map-declared.ensures.source ∙ ap declared_in c.new.ensures in
    one_named c.args.word.now _ (declared_in c.args.declarations.now) c.find.result is same c.in_ok-k.was c.variable.ensures
