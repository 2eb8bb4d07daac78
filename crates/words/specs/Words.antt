-- Tokens, and pieces of a line.
use Rattle.std.specs.Prelude.{ℕ, ◌-◌, take, drop}
use Rattle.theory.specs.Record.{Bytes}
use Rattle.text.specs.Tokens.{followed, left, right, end, bad, word}
use Rattle.text.specs.Tokens as K
use Rattle.words.specs.declared.tokens.Token.{Token}
use Rattle.words.specs.declared.tokens.Token.TheVariants as T
use Rattle.words.specs.declared.tokens.Next as code

-- a token
abbrev pub told_token : Token → K.Token
told_token T.Left = left
told_token T.Right = right
told_token T.End = end
told_token T.Bad = bad
told_token (T.Word w) = word w.now

-- a token, and what stands after it
abbrev pub told_next : code.Next → K.Next
told_next n = followed (told_token n.token) n.rest.now

-- the bytes from place s up to place e
abbrev pub piece : ℕ → ℕ → Bytes → Bytes
piece s e line = take (e - s) (drop s line)
