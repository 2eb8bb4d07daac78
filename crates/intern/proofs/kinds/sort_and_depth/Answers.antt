-- `sort_and_depth`: the term asks what theory's sorts and depths ask of its kind.
use mathlib.Core.Path.{refl, sym, ap, ◌∙◌}
use Rattle.terms.specs.Decoded.{numbers_of}
use Rattle.store.specs.Kept.{kept_terms}
use Rattle.store.specs.Sorts.{sort_or_bad}
use Rattle.intern.specs.Kinds.{sort_in}
use Rattle.intern.proofs.Bools.{asks_as, asked_both, gate_both, bits_both, depth_in, some_not}
use Rattle.intern.proofs.kinds.sort_and_depth.Goals as goal

pub returns-in-Bools : goal.returns-in-Bools
returns-in-Bools c =
    gate_both (kept_terms c.args.kept.now) c.args.term c.requires.number (ap (numbers_of c.args.kept.now.lookup.job.now) c.operands.ensures)
    (asks_as c.asked_by.ensures c.asked_of-asks.ensures) refl c.in-Bools.is c.of_bools.ensures

pub returns-in-Bits : goal.returns-in-Bits
returns-in-Bits c =
    bits_both (kept_terms c.args.kept.now) c.args.term c.requires.number (ap (numbers_of c.args.kept.now.lookup.job.now) c.operands.ensures)
    (asks_as c.asked_by.ensures c.asked_of-asks.ensures) refl c.in-Bits.is c.count.ensures c.of_bools-in-Bits.ensures

pub returns-in_ok-asked_sort-in_default : goal.returns-in_ok-asked_sort-in_default
returns-in_ok-asked_sort-in_default c =
    asked_both (kept_terms c.args.kept.now) c.args.term c.requires.number (ap (numbers_of c.args.kept.now.lookup.job.now) c.operands.ensures)
    (asks_as c.asked_by.ensures c.asked_of-asks.ensures) (ap sort_or_bad (sym c.in_ok-asked_sort-in_default.was) ∙ c.asked_sort.ensures)
    (λ m g. ap depth_in (sym g) ∙ c.asked_depth.ensures)

pub returns-in_err-asked_sort-in_default : goal.returns-in_err-asked_sort-in_default
returns-in_err-asked_sort-in_default c =
    asked_both (kept_terms c.args.kept.now) c.args.term c.requires.number (ap (numbers_of c.args.kept.now.lookup.job.now) c.operands.ensures)
    (asks_as c.asked_by.ensures c.asked_of-asks.ensures)
    (ap sort_in c.from_residual.ensures ∙ ap sort_or_bad (sym c.in_err-asked_sort-in_default.was) ∙ c.asked_sort.ensures)
    (λ m g. absurd (some_not m (sym g ∙ c.from_residual.ensures)))
