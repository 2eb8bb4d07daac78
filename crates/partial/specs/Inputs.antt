-- Where the bits of each variable stand among the inputs.
use Rattle.std.specs.Prelude.{◌≡◌, cond, List, [], ◌∷◌, ℕ, ◌+◌, ◌<◌, T, length}
use Rattle.theory.specs.Term.{Term, same_term}
use Rattle.theory.specs.Record.{Bytes}
use Rattle.theory.specs.Plain.{Plain}
use Rattle.theory.specs.Places.{tree_at}
use Rattle.sweeps.specs.Variables.{is_variable, stands, bits_in, variables}
use Rattle.evaluation.specs.Cells.{cell_at}

-- the bits of the variables before u
abbrev pub offset_of : List Term → Term → ℕ
offset_of [] u = 0
offset_of (v ∷ vs) u = cond (same_term u v) 0 (bits_in v + offset_of vs u)

-- the cells of the variables that stand in the asked term say where their bits begin
pub record InputsPlaced (list : Plain) (asked : ℕ) (values after : Bytes) : Type 0 where
  pub length_is : length after ≡ length values
  pub placed : (p : ℕ) → p < length list → T (is_variable (tree_at list p)) → T (stands (tree_at list p) (tree_at list asked))
      → cell_at after p ≡ offset_of (variables list (tree_at list asked)) (tree_at list p)
