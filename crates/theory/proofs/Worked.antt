-- The worked values, computed.
use mathlib.Core.Path.{◌≡◌, refl}
use mathlib.Core.Bool.{true}
use Rattle.theory.specs.Term.{fold}
use Rattle.theory.specs.Value.{all_true, meaning, ashr_n, top_copies, udiv_n, urem_n}
use Rattle.theory.specs.Worked.{worked}

pub worked_right : all_true worked ≡ true
unfolding fold meaning ashr_n top_copies udiv_n urem_n
worked_right = refl
