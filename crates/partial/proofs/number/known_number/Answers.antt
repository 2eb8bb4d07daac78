use mathlib.Core.Path.{sym, ◌∙◌}
use Rattle.marks.proofs.MarkLaws.{rows_marked}
use Rattle.digits.proofs.AskLaws.{number_in, number_high}
use Rattle.sweeper.proofs.NumberLaws.{none_low, term_low, asked_low}
use Rattle.partial.proofs.NumberLaws.{way_none, way_room, way_refused, way_done, refused_code, refused_bytes, done, accepted_of, derived_here, cells_same, derived_same}
use Rattle.partial.proofs.number.known_number.Goals as goal

pub returns-then-not-has_term-clause-code : goal.returns-then-not-has_term-clause-code
returns-then-not-has_term-clause-code c = refused_code (way_none _ _ _ _ _ (none_low c.requires (number_high c.new-terms.ensures c.has_term.ensures c.if-not-has_term.true)))

pub returns-then-not-has_term-clause-outputs : goal.returns-then-not-has_term-clause-outputs
returns-then-not-has_term-clause-outputs c = refused_bytes _ (way_none _ _ _ _ _ (none_low c.requires (number_high c.new-terms.ensures c.has_term.ensures c.if-not-has_term.true)))

pub returns-then-not-has_cells_for-clause-code : goal.returns-then-not-has_cells_for-clause-code
returns-then-not-has_cells_for-clause-code c = let t = c.new-terms in
    refused_code (derived_here t.ensures _ _ _ _
    ∙ way_room _ _ _ _ _ (term_low t.result (number_in c.has_term.ensures c.if-not-has_term.false)) (sym c.has_cells_for.ensures ∙ c.if-not-has_cells_for.true))

pub returns-then-not-has_cells_for-clause-outputs : goal.returns-then-not-has_cells_for-clause-outputs
returns-then-not-has_cells_for-clause-outputs c = let t = c.new-terms in
    refused_bytes _ (derived_here t.ensures _ _ _ _
    ∙ way_room _ _ _ _ _ (term_low t.result (number_in c.has_term.ensures c.if-not-has_term.false)) (sym c.has_cells_for.ensures ∙ c.if-not-has_cells_for.true))

pub returns-then-not-is_derivable-clause-code : goal.returns-then-not-is_derivable-clause-code
returns-then-not-is_derivable-clause-code c = let k = c.new-asked in
    let m = c.mark_from.ensures in
    refused_code (sym (derived_same m k.result k.ensures.terms k.ensures.place _ _ _)
    ∙ way_refused _ _ _ _ _ (asked_low k.result) (sym (cells_same m k.result k.ensures.terms k.ensures.place c.new-terms.ensures _ c.has_cells_for.ensures) ∙ c.if-not-has_cells_for.false) (sym c.is_derivable.ensures.is ∙ c.if-not-is_derivable.true))

pub returns-then-not-is_derivable-clause-outputs : goal.returns-then-not-is_derivable-clause-outputs
returns-then-not-is_derivable-clause-outputs c = let k = c.new-asked in
    let m = c.mark_from.ensures in
    refused_bytes _ (sym (derived_same m k.result k.ensures.terms k.ensures.place _ _ _)
    ∙ way_refused _ _ _ _ _ (asked_low k.result) (sym (cells_same m k.result k.ensures.terms k.ensures.place c.new-terms.ensures _ c.has_cells_for.ensures) ∙ c.if-not-has_cells_for.false) (sym c.is_derivable.ensures.is ∙ c.if-not-is_derivable.true))

pub derive_bits-requires : goal.derive_bits-requires
derive_bits-requires c = let k = c.new-asked in
    accepted_of k.result c.is_derivable.ensures c.if-not-is_derivable.false (cells_same c.mark_from.ensures k.result k.ensures.terms k.ensures.place c.new-terms.ensures _ c.has_cells_for.ensures) c.if-not-has_cells_for.false

pub returns : goal.returns
returns c = let k = c.new-asked in
    let m = c.mark_from.ensures in
    let r = c.derive_bits.ensures in
    let d = done c.args.outputs.now _ (sym (derived_same m k.result k.ensures.terms k.ensures.place _ _ _)
    ∙ way_done _ _ _ _ _ (asked_low k.result) (sym (cells_same m k.result k.ensures.terms k.ensures.place c.new-terms.ensures _ c.has_cells_for.ensures) ∙ c.if-not-has_cells_for.false) (sym c.is_derivable.ensures.is ∙ c.if-not-is_derivable.false)) r.outputs in
    record { code = d.0; outputs = d.1; values = r.values; work = rows_marked m }
