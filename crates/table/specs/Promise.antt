-- What callers are promised when a record is added, when the newest rows are dropped, and when the work memory is cleared. Terms' numbers
-- have b bytes.
use Rattle.std.specs.Prelude.{◌≡◌, Option, None as none, Some as some, Bool, not, ◌&&◌, ◌||◌, cond, List, [], ◌∷◌, ◌++◌, ℕ, suc, ◌+◌, ◌-◌, ◌*◌, ◌^◌, ◌<◌, ◌≤◌, min, length, take, drop, replicate, eqb, ltb, leb}
use Rattle.std.proofs.lemmas.List.Edits.{sets}
use Rattle.theory.specs.Limit.{term_bytes, first_terms, max_terms, max_job}
use Rattle.theory.specs.Record.{Bytes, bytes_of}
use Rattle.theory.specs.Codes.{first_fault}
use Rattle.terms.specs.Framing.{record_at}
use Rattle.rows.specs.Layout.{missing, link_bytes}
use Rattle.rows.specs.Rows.{kept_as, offsets, measures, place_of}
use Rattle.table.specs.Buckets.{TableAs, Table, seed_bytes, seed_in, heads_start, bucket_count, bucket_of, first_in, added_row, dropped_from}
use Rattle.table.specs.declared.kept.Added.{Added}
use Rattle.table.specs.declared.kept.Added.TheVariants.{Found, New}

-- ---- adding a record
-- links can count the rack's terms, by their numbers' length
pub record TermLimit (b : ℕ) : Type 0 where
  pub held : max_terms b < 256 ^ link_bytes b

-- there is memory and a place for one row more than n; the terms may be as many as the limit says, and no more than the rack's
unfoldable pub room_for : ℕ → ℕ → ℕ → ℕ → Bool
room_for b limit n len = leb (term_bytes b * suc n) len && ltb (first_terms + n) (min limit (max_terms b))

-- a record that equals x is kept
unfoldable pub is_kept : Bytes → List Bytes → Bool
is_kept x rows = not (eqb (place_of x rows) missing)

-- the answer to record x under a limit of terms where `rows` are kept in len bytes: the place of the kept record that equals it, or the
-- place after the last, or none where there is no room
unfoldable pub added_for : ℕ → ℕ → Bytes → List Bytes → ℕ → Option Added
added_for b limit x rows len =
    cond (eqb (place_of x rows) missing)
    (cond (room_for b limit (length rows) len) (some (New (first_terms + length rows))) none) (some (Found (place_of x rows)))

-- document 01's code of an answer: 8 where there is no room
abbrev pub added_code : Option Added → ℕ
added_code (some (Found p)) = 0
added_code (some (New p)) = 0
added_code none = 8

-- the number of rows after an answer
unfoldable pub count_after : Option Added → ℕ → ℕ
count_after (some (Found p)) n = n
count_after (some (New p)) n = n + 1
count_after none n = n

-- a list with one entry for each row after an answer: a new row's entry is the last
unfoldable pub list_after : {A : Type 0} → Option Added → A → List A → List A
list_after (some (Found p)) x rows = rows
list_after (some (New p)) x rows = rows ++ (x ∷ [])
list_after none x rows = rows

-- the work memory with row n, of the record at `at`, before the newest of the bucket j: the bytes of the row and of the bucket's head are
-- stored, and no other
unfoldable pub in_bucket : ℕ → Bytes → ℕ → ℕ → ℕ → ℕ → Bytes
in_bucket b work n j at measure =
    added_row (link_bytes b) work n (heads_start b (length work)) (bucket_count b (length work)) j at measure
    (first_in (link_bytes b) work n (heads_start b (length work)) (bucket_count b (length work)) j)

-- the work memory with the record at `at` as row n, with a measure
unfoldable pub with_row : ℕ → Bytes → Bytes → ℕ → ℕ → ℕ → Bytes
with_row b job work n at measure = in_bucket b work n (bucket_of work (bucket_count b (length work)) (record_at job at)) at measure

-- the work memory after an answer: every byte as it was, unless a row is new
unfoldable pub memory_after : Option Added → ℕ → Bytes → Bytes → ℕ → ℕ → ℕ → Bytes
memory_after (some (Found p)) b job work n at measure = work
memory_after (some (New p)) b job work n at measure = with_row b job work n at measure
memory_after none b job work n at measure = work

-- the record at `at` was added to n rows under a limit of terms, with a measure: the answer, the work memory then, and what is kept
pub record Grown (b : ℕ) (job work after : Bytes) (n limit at measure : ℕ) (answer : Option Added) : Type 0 where
  pub answer_is : answer ≡ added_for b limit (record_at job at) (kept_as (link_bytes b) job work n) (length work)
  pub code_is : added_code answer
      ≡ first_fault ((is_kept (record_at job at) (kept_as (link_bytes b) job work n) || room_for b limit n (length work), 8) ∷ [])
  pub memory_is : after ≡ memory_after answer b job work n at measure
  pub table : TableAs b job after (count_after answer n)
  pub kept_is : kept_as (link_bytes b) job after (count_after answer n)
      ≡ list_after answer (record_at job at) (kept_as (link_bytes b) job work n)
  pub offsets_are : offsets (link_bytes b) after (count_after answer n) ≡ list_after answer at (offsets (link_bytes b) work n)
  pub measures_are : measures (link_bytes b) after (count_after answer n) ≡ list_after answer measure (measures (link_bytes b) work n)

-- ---- dropping rows
-- the work memory with the rows from m up dropped, of n: only their buckets' heads change
unfoldable pub dropped_rows : ℕ → Bytes → Bytes → ℕ → ℕ → Bytes
dropped_rows b job work n m = dropped_from (link_bytes b) job work (heads_start b (length work)) (bucket_count b (length work)) m (n - m)

-- of n rows the first m are kept
pub record Cut (b : ℕ) (job work after : Bytes) (n m : ℕ) : Type 0 where
  pub memory_is : after ≡ dropped_rows b job work n m
  pub table : TableAs b job after m
  pub kept_is : kept_as (link_bytes b) job after m ≡ take m (kept_as (link_bytes b) job work n)
  pub offsets_are : offsets (link_bytes b) after m ≡ take m (offsets (link_bytes b) work n)
  pub measures_are : measures (link_bytes b) after m ≡ take m (measures (link_bytes b) work n)

-- ---- clearing
-- the work memory with all bytes zero but the seed's
unfoldable pub cleared : Bytes → Bytes
cleared work = replicate (length work - seed_bytes) 0 ++ drop (length work - seed_bytes) work

-- no row of any job, and the seed as it was
pub record Cleared (work after : Bytes) : Type 0 where
  pub memory_is : after ≡ cleared work
  pub ready : (job : Bytes) → length job ≤ max_job → Table job after 0

-- the work memory with its seed at the end of the first n bytes too, where these are enough
unfoldable pub carried : Bytes → ℕ → Bytes
carried work n = cond (ltb n seed_bytes) work (sets work (n - seed_bytes) (bytes_of seed_bytes (seed_in work)))

-- the work memory is all zero: no row of any job
pub record Wiped (work after : Bytes) : Type 0 where
  pub all_zero : after ≡ replicate (length work) 0
  pub ready : (job : Bytes) → length job ≤ max_job → Table job after 0
