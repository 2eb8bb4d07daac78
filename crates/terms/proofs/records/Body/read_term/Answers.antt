-- `Body::read_term`: the number is that of a kind, and the test of length is that of its shape.
use mathlib.Core.Path.{◌∙◌}
use Rattle.terms.specs.Framing.{part}
use Rattle.terms.proofs.Parts.{length_part}
use Rattle.terms.proofs.Forms.{known_kind}
use Rattle.terms.proofs.Reading.{test_of, term_misfit, term_fits}
use Rattle.terms.proofs.records.Body.read_term.Goals as goal

pub returns-then-not-fits : goal.returns-then-not-fits
returns-then-not-fits c = let a = c.args.self.now in let b = part a.job.now a.at a.size in
    let t = test_of a.bytes a.size c.in_ok-kind.kind b c.fits.ensures c.form-form.ensures
    (length_part a.job.now a.at a.size c.args.self.now.inside) c.if-not-fits.true in
    record { says = term_misfit a.bytes (known_kind _ c.in_ok-kind.ensures) b t; placed = tt }

pub returns : goal.returns
returns c = let a = c.args.self.now in let e = c.term.ensures in
    let b = part a.job.now a.at a.size in
    let t = test_of a.bytes a.size c.in_ok-kind.kind b c.fits.ensures c.form-form.ensures
    (length_part a.job.now a.at a.size c.args.self.now.inside) c.if-not-fits.false in
    record {
      says = e.says ∙ term_fits a.bytes (known_kind _ c.in_ok-kind.ensures) b t;
      placed = e.placed;
    }
