use borrow.Author.Rules.{rules}
use borrow.Author.Tests.{tests}
use mathlib.Core.Path.{refl, ap}
use mathlib.Core.Logic.{inl}
use native.Mathlib.Omega.{arith}
use lib.Dec.{eqb}
use lib.ListN.{length}
use Rattle.std.specs.Cmp.Lexicographic.{pointwise}
use Rattle.std.proofs.lemmas.Iterator.Search.{position_from_yields_List}
use Rattle.std.proofs.lemmas.Iterator.Consumers.{YieldsList-from_filter, YieldsList-from_first, YieldsList-at}
use Rattle.theory.specs.Record.{records_of}
use Rattle.writer.specs.Records.{records_left}
use Rattle.writer.proofs.RecordLaws.{records_few, bound_of, is_term, none_placed, one_placed}
use Rattle.writer.proofs.places.walk_records.Goals as goal

pub position-requires-clause-fits : goal.position-requires-clause-fits
position-requires-clause-fits c =
    let f = records_few c.args.job.now in
    let e = ap (λ s. length (records_left s)) c.filter.ensures.source in
    inl (omega (arith, f, e, c.well_formed))

pub returns-in_err-place : goal.returns-in_err-place
returns-in_err-place c =
    let is = position_from_yields_List (pointwise eqb c.args.wanted.now) c.position.new.self _ c.position.result c.position.ensures.ran
    (YieldsList-from_filter _ is_term (YieldsList-at c.filter.ensures.source (YieldsList-from_first (λ x. x.now) records_left (records_of c.args.job.now) refl)) c.filter.ensures.closure (λ x b q k. search (rules, tests)))
    (λ x b q k. search (rules, tests)) in
    rw c.from_residual.ensures (none_placed c.args.first c.args.wanted.now c.args.job.now c.position.result is c.in_err-place.was)

pub overflow_add-result : goal.overflow_add-result
overflow_add-result c =
    let f = records_few c.args.job.now in
    let e = ap (λ s. length (records_left s)) c.filter.ensures.source in
    let b = bound_of c.position.result c.position.ensures.bound c.in_ok-place.was in
    omega (arith, f, e, b, c.requires, c.well_formed)

pub returns : goal.returns
returns c =
    let is = position_from_yields_List (pointwise eqb c.args.wanted.now) c.position.new.self _ c.position.result c.position.ensures.ran
    (YieldsList-from_filter _ is_term (YieldsList-at c.filter.ensures.source (YieldsList-from_first (λ x. x.now) records_left (records_of c.args.job.now) refl)) c.filter.ensures.closure (λ x b q k. search (rules, tests)))
    (λ x b q k. search (rules, tests)) in
    one_placed c.args.first c.args.wanted.now c.args.job.now c.position.result is c.in_ok-place.was
