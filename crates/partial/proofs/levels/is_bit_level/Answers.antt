use Rattle.std.proofs.Common.{rules}
use Rattle.marks.proofs.Walking.{walk_start}
use Rattle.partial.proofs.LevelLaws.{searching_start}
use Rattle.partial.proofs.SearchLaws.{callable, answered}
use Rattle.partial.proofs.levels.is_bit_level.Goals as goal
use mathlib.Core.Path.{refl}

pub all-requires-clause-callable : goal.all-requires-clause-callable
all-requires-clause-callable c =
    callable (λ x l b q k. search rules) (λ x l. search rules) (walk_start _ refl c.places.ensures.asked c.places.ensures.first (searching_start c.args.asked.now.marks))

pub returns : goal.returns
returns c =
    answered (λ x l b q k. search rules) (walk_start _ refl c.places.ensures.asked c.places.ensures.first (searching_start c.args.asked.now.marks)) c.all.ensures.ran
