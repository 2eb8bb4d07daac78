-- `row_as`: a row's record lies in the job, and its measure fits into a number.
use mathlib.Core.Path.{◌∙◌}
use native.Mathlib.Omega.{arith}
use Rattle.store.proofs.Sorting.{own_measure, own_offset, row_stands}
use Rattle.store.proofs.shelf.Terms.row_as.Goals as goal

pub number-kind-requires : goal.number-kind-requires
number-kind-requires g c = let r = row_stands c.args.self.now.shelf c.args.k c.requires.kept c.requires.own (c.LINK_BYTES-len.ensures ∙ g.N.Lengths.linked) c.offset_as-at.ensures.value in
    record { inside = omega (arith, r.0, r.1); short = omega arith }

pub returns : goal.returns
returns g c = let s = c.args.self.now.shelf in
    let e = c.offset_as-at.ensures.value in
    let linked = c.LINK_BYTES-len.ensures ∙ g.N.Lengths.linked in
    let r = row_stands s c.args.k c.requires.kept c.requires.own linked e in
    record {
      at_is = own_offset s c.args.k c.requires.kept c.requires.own linked e;
      inside = omega (arith, r.0, r.1);
      kind_is = c.number-kind.ensures.value;
      measure_is = own_measure s c.args.k c.requires.kept c.requires.own linked e c.measure_as-measure.ensures;
    }
