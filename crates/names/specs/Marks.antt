-- What stands after a token, as the code says it.
use Rattle.std.specs.Borrow.{Bor}
use Rattle.std.specs.Prelude.{Option, option_map}
use Rattle.theory.specs.Record.{Bytes}
use Rattle.text.specs.Reading.{Word}

-- what stands after it
abbrev pub rest_of : Option (Bor Bytes) → Option Bytes
rest_of r = option_map (λ b. b.now) r

-- a word, and what stands after it
abbrev pub word_and_rest : Option (Bor Bytes × Bor Bytes) → Option Word
word_and_rest r = option_map (λ p. record { name = p.0.now; rest = p.1.now }) r
