-- Between two lines, as the code says it.
use Rattle.std.specs.Prelude.{◌≡◌, false, length}
use Rattle.std.specs.Prelude as rust
use Rattle.std.specs.Prelude.{Option}
use Rattle.theory.specs.Record.{Bytes}
use Rattle.text.specs.Convert as C
use Rattle.words.specs.Tables.{Reads}
use Rattle.names.specs.Kinds.{declared_in}
use Rattle.writer.specs.declared.places.Writer.{Writer}
use Rattle.writer.specs.Written.{job_of}
use Rattle.convert.specs.declared.line.State as code

-- the state that the code's stands for
abbrev pub told_state : Writer → code.State → C.State
told_state w s = C.state (declared_in s.declarations.now) s.begun (job_of w)

-- the declarations are counted, and up to the first step they are all of the text before the next line
pub record Between (before : Bytes) (s : code.State) : Type 0 where
  pub counted : s.declared ≡ length (declared_in s.declarations.now)
  pub level : s.begun ≡ false → s.declarations.now ≡ before

-- a line was taken, and the next stands after that part of the text; or it was refused
abbrev pub Lined : Bytes → Writer → Option C.State → rust.Option code.State → Type 0
Lined through new expected r = Reads (told_state new) (Between through) expected r
