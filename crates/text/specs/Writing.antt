-- Document 02, P13: terms and steps written as records, equal terms one time, arguments from the left before their term.
use Rattle.std.specs.Prelude.{◌≡◌, true, false, cond, List, [], ◌∷◌, ◌++◌, ℕ, suc, ◌+◌, eqb, leb, ltb, length}
use Rattle.std.specs.Prelude.{Option, None as none, Some as some}
use Rattle.theory.specs.Limit.{first_terms, number_bytes, value_bytes}
use Rattle.theory.specs.Kind.{Op, Const, kind, indices}
use Rattle.theory.specs.Term.{Term, Terms, node, nil, cons, same_numbers}
use Rattle.theory.specs.Record.{Bytes, bytes_of, word_bytes, extent, whole, records_of, total_length, kind_of, step_kind}
use Rattle.theory.specs.Codes.{all_below}
use Rattle.text.specs.Reading.{bind, number_end}

-- ---- records
-- a record of a kind: its length, which counts the bytes after it, its kind, its body
abbrev pub record_of : ℕ → Bytes → Bytes
record_of k body = word_bytes (number_bytes + length body) ++ word_bytes k ++ body

-- numbers of two bytes in a row
abbrev pub words_bytes : List ℕ → Bytes
words_bytes [] = []
words_bytes (x ∷ xs) = word_bytes x ++ words_bytes xs

-- the bytes of the numbers in a kind: two each, but eight for a constant's value
abbrev pub value_last : List ℕ → Bytes
value_last [] = []
value_last (n ∷ []) = word_bytes n
value_last (n ∷ x ∷ xs) = word_bytes n ++ bytes_of value_bytes x

unfoldable pub front_bytes : Op → Bytes
front_bytes o = cond (eqb (kind o) (kind (Const 0 0))) (value_last (indices o)) (words_bytes (indices o))

-- the record of a term, by the numbers of its arguments
unfoldable pub term_record : Op → List ℕ → Bytes
term_record o ks = record_of (kind o) (front_bytes o ++ words_bytes ks)

-- the record of a step
unfoldable pub step_record : ℕ → ℕ → Bytes
step_record rule literal = record_of step_kind (words_bytes (rule ∷ literal ∷ []))

-- a record and nothing after it
pub record Lone (r : Bytes) : Type 0 where
  pub is_whole : whole r ≡ true
  pub size : extent r ≡ length r

-- the records are the whole job
unfoldable pub Clean : Bytes → Type 0
Clean job = total_length (records_of job) ≡ length job

-- ---- the terms of the job so far
-- all records but steps
abbrev pub terms_of : List Bytes → List Bytes
terms_of [] = []
terms_of (r ∷ rs) = elim (eqb (kind_of r) step_kind) [ true ↦ terms_of rs | false ↦ r ∷ terms_of rs ]

-- the terms' records, in order: the first has number 2
unfoldable pub kept : Bytes → List Bytes
kept job = terms_of (records_of job)

-- the place of a record, the list's first having place p
abbrev pub place_from : ℕ → Bytes → List Bytes → Option ℕ
place_from p r [] = none
place_from p r (s ∷ ss) = elim (same_numbers r s) [ true ↦ some p | false ↦ place_from (suc p) r ss ]

-- ---- writing, into so many bytes
-- a record at the end, where it fits
abbrev pub append : ℕ → Bytes → Bytes → Option Bytes
append room r job = cond (leb (length job + length r) room) (some (job ++ r)) none

-- a term's number, and the job with it
pub record Placed : Type 0 where
  pub number : ℕ
  pub job : Bytes

-- these by their parts
abbrev pub placed : ℕ → Bytes → Placed
placed k job = record { number = k; job = job }

-- several terms' numbers, and the job with them
pub record PlacedAll : Type 0 where
  pub numbers : List ℕ
  pub job : Bytes

-- these by their parts
abbrev pub placed_all : List ℕ → Bytes → PlacedAll
placed_all ks job = record { numbers = ks; job = job }

-- a term's record: the number of the one that is there, or put at the end
unfoldable pub keep : ℕ → Bytes → Bytes → Option Placed
keep room r job =
    elim (place_from first_terms r (kept job)) [
      | none ↦ bind (append room r job) (λ j. some (placed (first_terms + length (kept job)) j))
      | some k ↦ some (placed k job)
    ]

-- a term of which the arguments are written: `true` and `false` are terms 0 and 1, any other has a record, where its arguments' numbers fit
unfoldable pub put_term : ℕ → Op → PlacedAll → Option Placed
put_term room o g =
    cond (ltb (kind o) first_terms) (some (placed (kind o) g.job))
    (cond (all_below number_end g.numbers) (keep room (term_record o g.numbers) g.job) none)

-- A TERM: its arguments from the left, then itself
unfoldable mutual
  pub write : Term → ℕ → Bytes → Option Placed
  write (node o ts) room job = bind (write_all ts room job) (put_term room o)

  pub write_all : Terms → ℕ → Bytes → Option PlacedAll
  write_all nil room job = some (placed_all [] job)
  write_all (cons t ts) room job =
      bind (write t room job) (λ p. bind (write_all ts room p.job) (λ g. some (placed_all (p.number ∷ g.numbers) g.job)))

-- a step whose literal is written
unfoldable pub put_step : ℕ → ℕ → Placed → Option Bytes
put_step room rule p = cond (ltb p.number number_end) (append room (step_record rule p.number) p.job) none
