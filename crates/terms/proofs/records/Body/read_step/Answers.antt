-- `Body::read_step`: the test of length is that of a step.
use mathlib.Core.Path.{sym, ◌∙◌}
use Rattle.terms.proofs.Reading.{step_sizes, step_end, step_fits}
use Rattle.terms.proofs.records.Body.read_step.Goals as goal

pub returns : goal.returns
returns c = let e = sym c.fits.ensures ∙ c.if-not-fits.false in
    let p = step_sizes c.args.self.now.bytes c.args.self.now.job.now c.args.self.now.at c.args.self.now.size c.args.self.now.inside e in
    record { says = step_fits _ _ _ _ c.args.self.now.inside e c.number-rule.ensures.value; placed = record { end = step_end c.args.self.now.bytes c.args.self.now.job.now c.args.self.now.at c.args.self.now.size c.args.self.now.inside e; few = p.1; sized = c.args.self.now.sized } }
