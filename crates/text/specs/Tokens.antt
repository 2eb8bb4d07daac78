-- Document 02, P13: a line's bytes as tokens: a parenthesis or a word. Blanks stand between them.
use Rattle.std.specs.Prelude.{Bool, true, false, ◌||◌, cond, [], ◌∷◌, ℕ, zero, suc, eqb, length, drop}
use Rattle.std.specs.Prelude.{Option, None as none, Some as some}
use Prim.Native.Char.{code}
use Prim.Native.String.{String, len, char_at}
use Rattle.theory.specs.Term.{same_numbers}
use Rattle.theory.specs.Record.{Bytes}

-- ---- bytes
-- n bytes of a text from place i on
abbrev pub codes : ℕ → ℕ → String → Bytes
codes zero i s = []
codes (suc n) i s = code (char_at s i) ∷ codes n (suc i) s

-- the bytes of a text in ASCII
abbrev pub ascii : String → Bytes
ascii s = codes (len s) 0 s

-- b is one of these bytes
abbrev pub member : ℕ → Bytes → Bool
member b [] = false
member b (c ∷ cs) = eqb b c || member b cs

-- space, tab and carriage return
abbrev pub is_blank : ℕ → Bool
is_blank b = eqb b 32 || eqb b 9 || eqb b 13

-- the bytes of SMT-LIB's simple symbols
abbrev pub symbol_bytes : Bytes
symbol_bytes = ascii "abcdefghijklmnopqrstuvwxyzABCDEFGHIJKLMNOPQRSTUVWXYZ0123456789~!@$%^&*_-+=<>.?/"

-- a byte of a symbol
unfoldable pub in_symbol : ℕ → Bool
in_symbol b = member b symbol_bytes

-- a byte of a word: of a symbol, or one that constants and `:rule` begin with
unfoldable pub in_word : ℕ → Bool
in_word b = member b (ascii "#:") || member b symbol_bytes

-- ---- tokens
-- a token; `end` where the line ends, `bad` for a byte that no token has
pub data Token : Type 0 where
  left right end bad : Token
  word : Bytes → Token

-- a token, and what stands after it
pub record Next : Type 0 where
  pub token : Token
  pub rest : Bytes

-- these by their parts
abbrev pub followed : Token → Bytes → Next
followed t bs = record { token = t; rest = bs }

-- the word that a text begins with
unfoldable pub front_word : Bytes → Bytes
front_word [] = []
front_word (b ∷ bs) = elim (in_word b) [ true ↦ b ∷ front_word bs | false ↦ [] ]

-- the token that begins with byte b, which is no blank
abbrev pub token_at : ℕ → Bytes → Next
token_at b bs =
    cond (eqb b 40) (followed left bs)
    (cond (eqb b 41) (followed right bs)
    (cond (in_word b) (followed (word (front_word (b ∷ bs))) (drop (length (front_word (b ∷ bs))) (b ∷ bs)))
    (followed bad bs)))

-- the first token
unfoldable pub next : Bytes → Next
next [] = followed end []
next (b ∷ bs) = elim (is_blank b) [ true ↦ next bs | false ↦ token_at b bs ]

-- the two tokens are one
abbrev pub same_token : Token → Token → Bool
same_token left left = true
same_token left right = false
same_token left end = false
same_token left bad = false
same_token left (word w) = false
same_token right left = false
same_token right right = true
same_token right end = false
same_token right bad = false
same_token right (word w) = false
same_token end left = false
same_token end right = false
same_token end end = true
same_token end bad = false
same_token end (word w) = false
same_token bad t = false
same_token (word v) left = false
same_token (word v) right = false
same_token (word v) end = false
same_token (word v) bad = false
same_token (word v) (word w) = same_numbers v w

-- what stands after the token t, where t is the first
unfoldable pub after : Token → Bytes → Option Bytes
after t bs = cond (same_token (next bs).token t) (some (next bs).rest) none

-- the word of a token
abbrev pub word_of : Token → Option Bytes
word_of left = none
word_of right = none
word_of end = none
word_of bad = none
word_of (word w) = some w
