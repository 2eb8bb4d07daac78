-- A step line that is read and put, as the code says it.
use Rattle.std.specs.Prelude.{true, List}
use Rattle.std.specs.Prelude.{Option, option_map}
use Rattle.text.specs.Reading.{Declared}
use Rattle.text.specs.Convert.{State, state}
use Rattle.writer.specs.declared.places.Writer.{Writer}
use Rattle.writer.specs.Written.{job_of}

-- the state after the step
abbrev pub told_step : List Declared → Writer → Option (Unit {0}) → Option State
told_step vars w r = option_map (λ u. state vars true (job_of w)) r
