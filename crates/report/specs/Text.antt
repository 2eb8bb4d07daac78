-- The text of what a run came to, and where it is written.
use Rattle.std.specs.Prelude.{cond, ◌&&◌, [], ◌++◌, ℕ, ◌+◌, ◌*◌, leb, length, drop}
use Rattle.theory.specs.Limit.{answer_bytes}
use Rattle.theory.specs.Record.{Bytes}
use Rattle.theory.specs.Answer.{Answer, decode_answers}
use Rattle.theory.specs.Job.{Outcome}
use Rattle.theory.specs.Program.{decimal, steps_text, terms_text, repeats_text, stop_text, blank, end_line, too_long_text, outcome_text}

-- no first line is longer than this, and no line of an answer than that
abbrev pub head_space : ℕ
head_space = 80

abbrev pub line_space : ℕ
line_space = 34

-- the first line
abbrev pub head : ℕ → ℕ → ℕ → ℕ → Bytes
head steps terms repeats stop =
    steps_text ++ decimal steps ++ terms_text ++ decimal terms
    ++ repeats_text ++ decimal repeats ++ stop_text ++ decimal stop ++ end_line

-- the line of an answer
abbrev pub line : ℕ → Answer → Bytes
line place a = decimal place ++ blank ++ decimal a.rule ++ blank ++ decimal a.code ++ blank ++ decimal a.depth ++ end_line

-- a run that came to these numbers and answers, whose depths have b bytes; the text does not say how many records were done
abbrev pub came_to : ℕ → ℕ → ℕ → ℕ → ℕ → Bytes → Outcome
came_to stop terms repeats count b answers =
    record { stop = stop; records = 0; answers = decode_answers b count answers; terms = terms; repeats = repeats }

-- the text, where the answers are all there and a memory of `space` bytes is long enough for any such text
unfoldable pub report_text : ℕ → ℕ → ℕ → ℕ → ℕ → Bytes → ℕ → Bytes
report_text stop terms repeats count b answers space =
    cond (leb (count * answer_bytes b) (length answers) && leb (head_space + count * line_space) space)
    (outcome_text (came_to stop terms repeats count b answers))
    []

-- `too long`, where a memory of `space` bytes is long enough for any first line
unfoldable pub too_long : ℕ → Bytes
too_long space = cond (leb head_space space) (too_long_text ++ end_line) []

-- a memory with a text at its start, and every byte after it as it was
abbrev pub written : Bytes → Bytes → Bytes
written text old = text ++ drop (length text) old
