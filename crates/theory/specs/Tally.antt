-- Document 01, "The job": the tally that is lent to the service.
use Rattle.std.specs.Prelude.{Bool, cond, ℕ, suc, ◌+◌, ◌-◌, ◌^◌, min, eqb, leb}
use mathlib.Core.List.{List, [], ◌∷◌, foldl}
use Rattle.theory.specs.Answer.{Answer}

-- 64 bits each
pub record Tally : Type 0 where
  pub jobs : ℕ
  pub held : ℕ
  pub form_only : ℕ
  pub refused : ℕ

-- the largest number of 64 bits
abbrev pub max_tally : ℕ
max_tally = 2 ^ 64 - 1

-- a count saturates: it stays at its largest number
abbrev pub up : ℕ → ℕ → ℕ
up c n = min (c + n) max_tally

-- the answers whose code passes
abbrev pub how_many : (ℕ → Bool) → List Answer → ℕ
how_many p [] = 0
how_many p (a ∷ rest) = cond (p a.code) (suc (how_many p rest)) (how_many p rest)

-- after one job that wrote these answers: held is code 0, form only 1, refused any other
unfoldable pub tally_after : Tally → List Answer → Tally
tally_after t answers = record {
  jobs = up t.jobs 1;
  held = up t.held (how_many (λ c. eqb c 0) answers);
  form_only = up t.form_only (how_many (λ c. eqb c 1) answers);
  refused = up t.refused (how_many (λ c. leb 2 c) answers);
}

-- a tally at the start
abbrev pub zero_tally : Tally
zero_tally = record { jobs = 0; held = 0; form_only = 0; refused = 0 }

-- after the jobs that it was lent for, by the answers of each
abbrev pub tally_of : List (List Answer) → Tally
tally_of = foldl tally_after zero_tally
