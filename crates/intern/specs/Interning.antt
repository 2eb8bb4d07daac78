-- What callers are promised when the store starts, is cut back, and takes a term.
use Rattle.std.specs.Prelude.{◌≡◌, Bool, true, ◌||◌, cond, List, [], ◌∷◌, ◌++◌, ℕ, ◌+◌, ◌-◌, length, take, drop}
use Rattle.std.specs.Prelude.{Result, Ok, Err}
use Rattle.theory.specs.Limit.{Limits, stated, capped, first_terms}
use Rattle.theory.specs.Term as T
use Rattle.theory.specs.Record.{Bytes, whole, read, number_length}
use Rattle.theory.specs.Plain.{Plain, term_of, has, feed}
use Rattle.theory.specs.Plain as P
use Rattle.theory.specs.Codes.{first_fault, well_sorted, room}
use Rattle.theory.specs.Places.{tree_of}
use Rattle.terms.specs.declared.Term.{Term}
use Rattle.terms.specs.declared.Item.TheVariants as I
use Rattle.terms.specs.Framing.{record_at}
use Rattle.terms.specs.Decoded.{op_of, operands_of, arguments_of, item_of}
use Rattle.terms.specs.Numbered.{code_in}
use Rattle.terms.specs.declared.stop.Stop.{Stop}
use Rattle.terms.specs.declared.stop.Stop.TheVariants.{Unsorted, Spent}
use Rattle.rows.specs.Layout.{link_size}
use Rattle.rows.specs.Rows.{offsets}
use Rattle.table.specs.Promise.{with_row, dropped_rows, cleared}
use Rattle.store.specs.Measure.{measure}
use Rattle.store.specs.Store.{Store, listed}
use Rattle.store.specs.Sorts.{Arguments}
use Rattle.intern.specs.declared.Limits.{Limits as Given}
use Rattle.intern.specs.declared.Interned.{Interned}
use Rattle.intern.specs.declared.Interned.TheVariants.{Found, New}

-- the store is empty: `true` and `false` alone, and the work memory is cleared
pub record Started (job work after : Bytes) : Type 0 where
  pub store : Store job after 0
  pub listed_is : listed job after 0 ≡ P.start
  pub memory_is : after ≡ cleared work

-- the work memory without the terms from place `count` on, of n rows
abbrev pub without_terms : Bytes → Bytes → ℕ → ℕ → Bytes
without_terms job work n count = dropped_rows (number_length job) job work n (count - first_terms)

-- of n rows those of the first `count` places are kept
pub record CutBack (job work after : Bytes) (n count : ℕ) : Type 0 where
  pub memory_is : after ≡ without_terms job work n count
  pub store : Store job after (count - first_terms)
  pub listed_is : listed job after (count - first_terms) ≡ take count (listed job work n)
  pub offsets_are : offsets (link_size job) after (count - first_terms) ≡ take (count - first_terms) (offsets (link_size job) work n)

-- ---- taking a term
-- the limits that a caller gives, as theory has them
abbrev pub limits_of : Given → Limits
limits_of l = stated l.width l.terms

-- what `intern` returns
abbrev pub Answer : Type 0
Answer = Result Interned Stop

-- the rows after it
abbrev pub rows_after : Answer → ℕ → ℕ
rows_after (Ok (Found m)) n = m
rows_after (Ok (New m)) n = m
rows_after (Err s) n = n

-- the list after it: fed the record where the code is 0
abbrev pub list_after : Answer → Plain → Plain → Plain
list_after (Ok a) list fed = fed
list_after (Err s) list fed = list

-- where the records of the rows stand after it: a new one stands at `at`
abbrev pub offsets_after : Answer → ℕ → List ℕ → List ℕ
offsets_after (Ok (Found m)) at os = os
offsets_after (Ok (New m)) at os = os ++ (at ∷ [])
offsets_after (Err s) at os = os

-- the work memory after it: every byte as it was, unless the term is new
abbrev pub bytes_after : Answer → Bytes → Bytes → Bytes
bytes_after (Ok (Found m)) work new = work
bytes_after (Ok (New m)) work new = new
bytes_after (Err s) work new = work

-- the work memory with t, the term of the record at `at`, in row n: its measure stands in the row, and the table has it
unfoldable pub with_term : Bytes → Bytes → ℕ → ℕ → T.Term → Bytes
with_term job work n at t = with_row (number_length job) job work n at (measure t)

-- the answer where the term fits or not, its record is there or not, and there is room or not
unfoldable pub answer_for : Bool → Bool → Bool → ℕ → Answer
answer_for sorted there roomy n = cond sorted (cond there (Ok (Found n)) (cond roomy (Ok (New (n + 1))) (Err Spent))) (Err Unsorted)

-- a whole record stands at `at` and says the term t, whose arguments are kept
pub record Offered (job work : Bytes) (n at : ℕ) (t : Term) : Type 0 where
  pub arguments : Arguments job work n (operands_of t)
  pub stands : whole (drop at job) ≡ true
  pub says : item_of job (I.Term t) ≡ read (number_length job) (record_at job at)

-- the term was taken or not, under stated limits: the answer, its code by document 01's tests 7 and 8, the work memory then, and the store
-- in it
pub record Taken (limits : Limits) (job work after : Bytes) (n at : ℕ) (t : Term) (answer : Answer) : Type 0 where
  pub answer_is : answer
      ≡ answer_for (well_sorted (capped (number_length job) limits) (term_of (listed job work n) (op_of t) (arguments_of job t)))
      (has (listed job work n) (record_at job at))
      (room (number_length job) (capped (number_length job) limits) (length work) (listed job work n)) n
  pub code_is : code_in answer
      ≡ first_fault ((well_sorted (capped (number_length job) limits) (term_of (listed job work n) (op_of t) (arguments_of job t)), 7)
      ∷ (
        has (listed job work n) (record_at job at)
            || room (number_length job) (capped (number_length job) limits) (length work) (listed job work n),
        8,
      ) ∷ [])
  pub memory_is : after ≡ bytes_after answer work (with_term job work n at (tree_of (listed job work n) (op_of t) (arguments_of job t)))
  pub store : Store job after (rows_after answer n)
  pub listed_is : listed job after (rows_after answer n)
      ≡ list_after answer (listed job work n) (feed (number_length job) (listed job work n) (record_at job at))
  pub offsets_are : offsets (link_size job) after (rows_after answer n) ≡ offsets_after answer at (offsets (link_size job) work n)
