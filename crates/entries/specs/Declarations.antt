-- A declaration line that is read and put, as the code says it.
use Rattle.std.specs.Prelude.{false, List, [], ◌∷◌, ◌++◌}
use Rattle.std.specs.Prelude.{Option, option_map}
use Rattle.theory.specs.Record.{Bytes}
use Rattle.theory.specs.Optional.{either}
use Rattle.text.specs.Reading as R
use Rattle.text.specs.Convert.{State, state}
use Rattle.text.specs.Claim.{declared_by}
use Rattle.writer.specs.declared.places.Writer.{Writer}
use Rattle.writer.specs.Written.{job_of}

-- the variables, and the one that the line declares
abbrev pub and_declared : Bytes → List R.Declared → List R.Declared
and_declared line vars = either vars (λ d. vars ++ (d ∷ [])) (declared_by line)

-- the state after the declaration
abbrev pub told_declared : Bytes → List R.Declared → Writer → Option (Unit {0}) → Option State
told_declared line vars w r = option_map (λ u. state (and_declared line vars) false (job_of w)) r
