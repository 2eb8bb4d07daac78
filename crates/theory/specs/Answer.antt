-- Document 01, "The job": the answer to a step, and its bytes.
-- The depth has b of them, as many as a term's number: ten in all where b is two.
use Rattle.std.specs.Prelude.{List, [], ◌∷◌, ◌++◌, ℕ, zero, suc, ◌-◌, ◌*◌, take, drop}
use Rattle.theory.specs.Limit.{number_bytes, answer_bytes}
use Rattle.theory.specs.Record.{Bytes, little_endian, word, bytes_of, word_bytes}

-- the step's rule, the verdict's code, and a depth
pub record Answer : Type 0 where
  pub rule : ℕ
  pub code : ℕ
  pub depth : ℕ

-- ---- writing
-- the kind of an answer record
abbrev pub answer_kind : ℕ
answer_kind = 200

-- length, kind 200, rule, code, depth
abbrev pub encode_answer : ℕ → Answer → Bytes
encode_answer b a =
    word_bytes (answer_bytes b - number_bytes) ++ word_bytes answer_kind
    ++ word_bytes a.rule ++ word_bytes a.code ++ bytes_of b a.depth

-- one after the other
abbrev pub encode_answers : ℕ → List Answer → Bytes
encode_answers b [] = []
encode_answers b (a ∷ rest) = encode_answer b a ++ encode_answers b rest

-- ---- reading
-- an answer at the start of these bytes; a number that is not there reads as 0, so it is asked only where the whole answer is
abbrev pub decode_answer : ℕ → Bytes → Answer
decode_answer b bs = record {
  rule = word (drop (2 * number_bytes) bs);
  code = word (drop (3 * number_bytes) bs);
  depth = little_endian (take b (drop (4 * number_bytes) bs));
}

-- k answers, one after the other
abbrev pub decode_answers : ℕ → ℕ → Bytes → List Answer
decode_answers b zero bs = []
decode_answers b (suc k) bs = decode_answer b bs ∷ decode_answers b k (drop (answer_bytes b) bs)
