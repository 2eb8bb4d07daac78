-- `sides_at`: the sides of the equation at the premise's place.
use mathlib.Core.Path.{refl, ap, ◌∙◌}
use borrow.Author.Rules.{rules}
use Rattle.std.specs.Prelude.{option_map}
use Rattle.steps.proofs.Equations.{no_sides, two_sides}
use Rattle.chains.specs.Told.{sides_of}
use Rattle.chains.proofs.Standing.{broken_sides, literal_below, standing_sides}
use Rattle.chains.proofs.premises.Past.sides_at.Goals as goal

pub returns-in_err-p-clause-sides : goal.returns-in_err-p-clause-sides
returns-in_err-p-clause-sides c =
    ap (option_map (sides_of c.args.self.now)) c.from_residual.ensures
    ∙ broken_sides _ _ _ _ _ c.args.self.now.noted.store _ _ _ c.premise_at.ensures refl c.in_err-p.was

pub term_on-requires : goal.term_on-requires
term_on-requires c = literal_below _ _ _ _ _ c.args.self.now.noted.store _ _ _ c.premise_at.ensures refl c.in_ok-p.was

pub returns-in_default : goal.returns-in_default
returns-in_default c = record {
  below = tt;
  sides = standing_sides _ _ _ _ _ c.args.self.now.noted.store _ _ _ c.premise_at.ensures refl c.in_ok-p.was
      (no_sides c.term_on.ensures.term_at (search rules));
}

pub returns-clause-sides : goal.returns-clause-sides
returns-clause-sides c =
    standing_sides _ _ _ _ _ c.args.self.now.noted.store _ _ _ c.premise_at.ensures refl c.in_ok-p.was
    (two_sides c.term_on.ensures.term_at c.in-Equals.is)
