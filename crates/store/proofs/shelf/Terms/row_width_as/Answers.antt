-- `row_width_as`: what the row's record and its measure say.
use mathlib.Core.Path.{sym, ap, ◌∙◌}
use native.Mathlib.Omega.{arith}
use Rattle.rows.specs.Layout.{link_bytes}
use Rattle.terms.proofs.Numbers.{length_of}
use Rattle.store.proofs.Sorting.{row_stands, row_width}
use Rattle.store.proofs.shelf.Terms.row_width_as.Goals as goal

pub width_in-requires : goal.width_in-requires
width_in-requires g c = let e = c.requires.own in
    let r = row_stands c.args.self.now.shelf c.args.k c.requires.kept e (ap link_bytes (sym e)) c.row_as-row.ensures.at_is in
    record { some = omega (arith, (length_of c.args.self.now.job.now).some_bytes, e); sized = omega (arith, r.1, c.number-size.ensures.value) }

pub returns : goal.returns
returns g c = let e = c.BYTES.ensures ∙ c.requires.own in
    row_width c.args.self.now.shelf c.args.k c.requires.kept e (ap link_bytes (sym e)) c.row_as-row.ensures.at_is c.width_in.ensures
    c.row_as-row.ensures.kind_is c.number-size.ensures.value c.row_as-row.ensures.measure_is.value
