-- The numbers of a list, one after the other.
use Rattle.std.specs.Prelude.{List, ℕ}
use Rattle.terms.specs.Decoded.{words_in}
use Rattle.terms.specs.declared.list.Numbers.{Numbers}

-- the numbers that are still to come
abbrev pub numbers_left : Numbers → List ℕ
numbers_left s = words_in s.job.now s.rest
