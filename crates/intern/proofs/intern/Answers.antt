-- `intern`: the sort and the depth are those of the term, and the row that is added builds its entry.
use Rattle.std.proofs.Common.{refl, sym, ap, ◌∙◌}
use Rattle.std.proofs.lemmas.Result.{err_from_is_err_and}
use Rattle.std.specs.Prelude.{Some as some}
use Rattle.terms.proofs.Numbers.{all_bytes}
use Rattle.intern.specs.Interning.{limits_of}
use Rattle.intern.specs.Kinds.{sort_in}
use Rattle.intern.proofs.Taking.{fitting, measure_computed, measure_fits, taken_unsorted, taken_found, taken_spent, taken_new, ok_told, err_told, sorted_told, sorted_as, fits_told}
use Rattle.intern.proofs.intern.Goals as goal

pub sort_and_depth-requires : goal.sort_and_depth-requires
sort_and_depth-requires c = fitting (limits_of c.args.limits) c.requires c.new-kept.result c.new-kept.ensures

pub returns-in_err-found : goal.returns-in_err-found
returns-in_err-found c =
    let p = err_from_is_err_and c.from_residual.result c.from_residual.ensures.1 in
    let q = err_told c.sort_and_depth.result _ c.ok_or.ensures.value c.in_err-found.was in
    rw (p.1, p.2, q.1)
    (taken_unsorted (limits_of c.args.limits) c.requires (ap sort_in (sym q.0) ∙ (sorted_as c.new-kept.ensures c.args.term c.sort_and_depth.ensures).sort_is) refl)

pub returns-then-not-fits_within : goal.returns-then-not-fits_within
returns-then-not-fits_within c =
    let f = sorted_told c.new-kept.ensures c.args.term c.sort_and_depth.ensures (ok_told c.sort_and_depth.result _ c.ok_or.ensures.value c.in_ok-found.was) in
    taken_unsorted (limits_of c.args.limits) c.requires f.sort_is (fits_told (limits_of c.args.limits) c.in_ok-found.found.sort c.fits_within.ensures ∙ c.if-not-fits_within.true)

pub add-requires-clause-measured : goal.add-requires-clause-measured
add-requires-clause-measured c =
    let f = sorted_told c.new-kept.ensures c.args.term c.sort_and_depth.ensures (ok_told c.sort_and_depth.result _ c.ok_or.ensures.value c.in_ok-found.was) in
    measure_fits (limits_of c.args.limits) c.requires c.number-kind.result f.depth_is c.width_of-width.ensures f.sort_is c.measure_in-measure.ensures

pub returns-in_err-added : goal.returns-in_err-added
returns-in_err-added c =
    let p = err_from_is_err_and c.from_residual-in_err-added.result c.from_residual-in_err-added.ensures.1 in
    let q = err_told c.add.result _ c.ok_or-2.ensures.value c.in_err-added.was in
    let f = sorted_told c.new-kept.ensures c.args.term c.sort_and_depth.ensures (ok_told c.sort_and_depth.result _ c.ok_or.ensures.value c.in_ok-found.was) in
    rw (p.1, p.2, q.1)
    (taken_spent (limits_of c.args.limits) c.requires (all_bytes c.args.job.now c.type_inv.job) f.sort_is (fits_told (limits_of c.args.limits) c.in_ok-found.found.sort c.fits_within.ensures ∙ c.if-not-fits_within.false)
    (measure_computed (limits_of c.args.limits) c.requires c.number-kind.ensures.value f.depth_is c.width_of-width.ensures f.sort_is c.measure_in-measure.ensures)
    c.add.ensures q.0)

pub returns-in-Found : goal.returns-in-Found
returns-in-Found c =
    let f = sorted_told c.new-kept.ensures c.args.term c.sort_and_depth.ensures (ok_told c.sort_and_depth.result _ c.ok_or.ensures.value c.in_ok-found.was) in
    taken_found (limits_of c.args.limits) c.requires (all_bytes c.args.job.now c.type_inv.job) f.sort_is (fits_told (limits_of c.args.limits) c.in_ok-found.found.sort c.fits_within.ensures ∙ c.if-not-fits_within.false)
    (measure_computed (limits_of c.args.limits) c.requires c.number-kind.ensures.value f.depth_is c.width_of-width.ensures f.sort_is c.measure_in-measure.ensures)
    c.add.ensures (ok_told c.add.result _ c.ok_or-2.ensures.value c.in_ok-added.was ∙ ap some c.in-Found.is)

pub returns-in-New : goal.returns-in-New
returns-in-New c =
    let f = sorted_told c.new-kept.ensures c.args.term c.sort_and_depth.ensures (ok_told c.sort_and_depth.result _ c.ok_or.ensures.value c.in_ok-found.was) in
    taken_new (limits_of c.args.limits) c.requires (all_bytes c.args.job.now c.type_inv.job) f.sort_is (fits_told (limits_of c.args.limits) c.in_ok-found.found.sort c.fits_within.ensures ∙ c.if-not-fits_within.false)
    (measure_computed (limits_of c.args.limits) c.requires c.number-kind.ensures.value f.depth_is c.width_of-width.ensures f.sort_is c.measure_in-measure.ensures)
    c.add.ensures (ok_told c.add.result _ c.ok_or-2.ensures.value c.in_ok-added.was ∙ ap some c.in-New.is)
