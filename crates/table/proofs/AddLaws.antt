-- Laws of adding a record.
use mathlib.Core.Path.{◌≡◌, refl, sym, ap, ◌∙◌, subst}
use mathlib.Core.Bool.{Bool, true, false, not, ◌&&◌, ◌||◌, and-false, and-true, cond}
use mathlib.Core.List.{List, [], ◌∷◌}
use Prim.Native.Nat.{ℕ, suc, ◌+◌, ◌*◌, ◌-◌, ◌^◌, ◌≤◌, ◌<◌, min}
use native.Mathlib.Omega.{arith}
use lib.Dec.{eqb, leb, ltb}
use lib.ListN.{drop, length, take}
use borrow.Author.Tests.{eq-eqb, le-ltb, leb-true, lt-ltb, ltb-true, ne_eqb}
use Rattle.theory.specs.Limit.{first_terms, max_terms, term_bytes}
use Rattle.theory.specs.Record.{Bytes, extent}
use Rattle.theory.specs.Codes.{first_fault}
use Rattle.terms.specs.Framing.{record_at}
use Rattle.rows.specs.Layout.{link_bytes, missing, number_at, offset_at}
use Rattle.rows.specs.Rows.{kept_as, place_of}
use Rattle.table.specs.Buckets.{TableAs, TableOf, added_row, bucket_count, bucket_of, first_in, head_count, heads_start, newest, row_bucket, unless_missing}
use Rattle.table.specs.Promise.{TermLimit, Grown, added_code, added_for, count_after, in_bucket, is_kept, list_after, memory_after, room_for, with_row}
use Rattle.rows.proofs.RowLaws.{and_first, and_second, get_or_kept, length_kept, rows_small}
use Rattle.table.proofs.BucketLaws.{first_newest, told_found}
use Rattle.table.proofs.MemoryLaws.{kept_added, length_added, measures_added, offsets_added, start_room, table_added}
use Rattle.table.proofs.Face.{place_absent}
use Rattle.table.specs.declared.kept.Added.{Added}
use Rattle.std.specs.Prelude.{Option, None as none, Some as some}

-- the part of the job that the code looks up is the record
pub part_record : (job : Bytes) (at len : ℕ) → len ≡ number_at job at 2 → take (at + len + 2 - at) (drop at job) ≡ record_at job at
part_record job at len e =
    let f : at + len + 2 - at ≡ extent (drop at job) = omega arith in
    rw f

-- what the walk over that part says of the record
pub walk_told : (b : ℕ) {l : ℕ} (job work : Bytes) (n at len : ℕ) {r : Option ℕ} → l ≡ link_bytes b → len ≡ number_at job at 2
    → r ≡ unless_missing (place_of (take (at + len + 2 - at) (drop at job)) (kept_as l job work n)) → r ≡ unless_missing (place_of (record_at job at) (kept_as (link_bytes b) job work n))
walk_told b {l} job work n at len e f told =
    told ∙ ap (λ (x : Bytes). unless_missing (place_of x (kept_as l job work n))) (part_record job at len f)
    ∙ ap (λ (m : ℕ). unless_missing (place_of (record_at job at) (kept_as m job work n))) e

-- a job's links count the rack's terms
pub limit_short : TermLimit 2
unfolding link_bytes
limit_short = record { held = omega arith }

pub limit_long : TermLimit 4
unfolding link_bytes
limit_long = record { held = omega arith }

-- the same number length by another name
pub grown_as : {b c : ℕ} {job work after : Bytes} {n limit at measure : ℕ} {answer : Option Added} → b ≡ c
    → Grown b job work after n limit at measure answer → Grown c job work after n limit at measure answer
grown_as {job = job} {work = work} {after = after} {n = n} {limit = limit} {at = at} {measure = measure} {answer = answer} e =
    subst (λ (x : ℕ). Grown x job work after n limit at measure answer) e

-- ---- room for a row

module _ (b limit n len : ℕ) where
  -- the test of the memory, where there is a number
  pub room_memory : {r : Bool} {m : ℕ} → r ≡ leb m len → m ≡ term_bytes b * suc n → first_terms + n < min limit (max_terms b) → r ≡ room_for b limit n len
  unfolding room_for
  room_memory e same h =
      e ∙ ap (λ (m : ℕ). leb m len) same
      ∙ sym (ap (λ (q : Bool). leb (term_bytes b * suc n) len && q) (lt-ltb (2 + n) (min limit (max_terms b)) h) ∙ and-true (leb (term_bytes b * suc n) len))

  -- too many terms already
  pub room_numbers : min limit (max_terms b) ≤ first_terms + n → false ≡ room_for b limit n len
  unfolding room_for
  room_numbers h =
      sym (ap (λ (q : Bool). leb (term_bytes b * suc n) len && q) (le-ltb (2 + n) (min limit (max_terms b)) h) ∙ and-false (leb (term_bytes b * suc n) len))

  pub room_true : room_for b limit n len ≡ true → (first_terms + n < max_terms b) × (n * term_bytes b + term_bytes b ≤ len)
  unfolding room_for
  room_true e =
      let p : 2 + n < min limit (max_terms b) = ltb-true (2 + n) (min limit (max_terms b)) (and_second (leb (term_bytes b * suc n) len) (ltb (2 + n) (min limit (max_terms b))) e) in
      let q : term_bytes b * suc n ≤ len = leb-true (term_bytes b * suc n) len (and_first (leb (term_bytes b * suc n) len) (ltb (2 + n) (min limit (max_terms b))) e) in
      (omega arith, omega arith)

-- ---- the code of an answer

code_for : (b limit : ℕ) (x : Bytes) (rows : List Bytes) (len : ℕ)
    → added_code (added_for b limit x rows len) ≡ first_fault ((is_kept x rows || room_for b limit (length rows) len, 8) ∷ [])
unfolding added_for is_kept
code_for b limit x rows len = go (eqb (place_of x rows) missing) (room_for b limit (length rows) len)
  where
    go : (p q : Bool) → added_code (cond p (cond q (some (Added.New (first_terms + length rows))) none) (some (Added.Found (place_of x rows)))) ≡ first_fault ((not p || q, 8) ∷ [])
    go true true = refl
    go true false = refl
    go false q = refl

-- ---- what callers are promised, by the way that the code takes

module _ (b : ℕ) (job work : Bytes) (n limit at measure : ℕ) (table : TableAs b job work n) where
  abbrev x : Bytes
  x = record_at job at

  abbrev rows : List Bytes
  rows = kept_as (link_bytes b) job work n

  code_is : {r : Option Added} → r ≡ added_for b limit (record_at job at) (kept_as (link_bytes b) job work n) (length work)
      → added_code r ≡ first_fault ((is_kept (record_at job at) (kept_as (link_bytes b) job work n) || room_for b limit n (length work), 8) ∷ [])
  code_is e =
      ap added_code e ∙ code_for b limit x rows (length work)
      ∙ ap (λ (k : ℕ). first_fault ((is_kept x rows || room_for b limit k (length work), 8) ∷ [])) (length_kept (link_bytes b) job work n)

  apart : place_of (record_at job at) (kept_as (link_bytes b) job work n) ≡ missing
      → (k : ℕ) → k < n → record_at job at ≡ record_at job (offset_at (link_bytes b) work k) → ⊥
  apart e k h q =
      let l = length_kept (link_bytes b) job work n in
      let s = rows_small table.rows in
      place_absent x rows (omega arith) e k (omega arith) (get_or_kept (link_bytes b) job work n k h ∙ sym q)

  -- a kept record equals it
  pub grown_found : {r : Option ℕ} {p : ℕ} → r ≡ unless_missing (place_of (record_at job at) (kept_as (link_bytes b) job work n)) → r ≡ some p
      → Grown b job work work n limit at measure (some (Added.Found p))
  unfolding added_for count_after list_after memory_after
  grown_found {r} {p} told is =
      let f = told_found told is in
      let answer : some (Added.Found p) ≡ added_for b limit x rows (length work) = rw (sym f.0, ne_eqb p missing f.1) in
      record { answer_is = answer; code_is = code_is answer; memory_is = refl; table = table; kept_is = refl; offsets_are = refl; measures_are = refl }

  -- there is no room
  pub grown_spent : place_of (record_at job at) (kept_as (link_bytes b) job work n) ≡ missing → room_for b limit n (length work) ≡ false
      → Grown b job work work n limit at measure none
  unfolding added_for count_after list_after memory_after
  grown_spent e f =
      let answer : none ≡ added_for b limit x rows (length work) = rw (eq-eqb (place_of x rows) missing e, length_kept (link_bytes b) job work n, f) in
      record { answer_is = answer; code_is = code_is answer; memory_is = refl; table = table; kept_is = refl; offsets_are = refl; measures_are = refl }

  -- a row is new
  module _ (fit : TermLimit b) (inside : at + extent (drop at job) ≤ length job) (fits : measure < 256 ^ link_bytes b)
      (e : place_of (record_at job at) (kept_as (link_bytes b) job work n) ≡ missing) (room : room_for b limit n (length work) ≡ true) where
    abbrev l : ℕ
    l = link_bytes b

    abbrev start : ℕ
    start = heads_start b (length work)

    abbrev c : ℕ
    c = bucket_count b (length work)

    abbrev first : ℕ
    first = first_in l work n start c (bucket_of work c x)

    abbrev last : Bytes
    last = added_row l work n start c (bucket_of work c x) at measure first

    small : at < 16777216
    small = omega (arith, table.rows.short)

    linked : first_terms + suc n < 256 ^ link_bytes b
    linked = let h = fit.held in let r = room_true b limit n (length work) room in omega arith

    below : n * (3 + 2 * link_bytes b) + (3 + 2 * link_bytes b) ≤ heads_start b (length work)
    below = let r = room_true b limit n (length work) room in start_room b n (length work) r.1 (let m = r.0 in omega arith)

    newest_is : first_in l work n start c (bucket_of work c x) ≡ newest (row_bucket l job work c) (bucket_of work c x) n
    newest_is = first_newest x table

    long : length last ≡ length work
    long = length_added l job work n start c at measure first table linked below small inside newest_is (apart e)

    grown_here : Grown b job work last n limit at measure (some (Added.New (n + 2)))
    unfolding added_for count_after list_after memory_after with_row in_bucket
    grown_here =
        let two : n + 2 ≡ 2 + n = omega arith in
        let answer : some (Added.New (n + 2)) ≡ added_for b limit x rows (length work)
        = rw (eq-eqb (place_of x rows) missing e, length_kept (link_bytes b) job work n, room) (ap (λ (k : ℕ). some (Added.New k)) two) in
        record {
          answer_is = answer;
          code_is = code_is answer;
          memory_is = refl;
          table = subst (λ (len : ℕ). TableOf l job last (n + 1) (heads_start b len) (bucket_count b len)) (sym long)
              (table_added l job work n start c at measure first table linked below small inside newest_is (apart e));
          kept_is = kept_added l job work n start c at measure first table linked below small inside newest_is (apart e);
          offsets_are = offsets_added l job work n start c at measure first table linked below small inside newest_is (apart e);
          measures_are = measures_added l job work n start c at measure first table linked below small inside newest_is (apart e) fits;
        }

    -- by what the code computed
    pub grown_new : {l' start' c' j' first' : ℕ} {after : Bytes} → l' ≡ link_bytes b → start' ≡ heads_start b (length work) → c' ≡ head_count l' (length work) start'
        → j' ≡ bucket_of work c' (record_at job at) → first' ≡ first_in l' work n start' c' j' → after ≡ added_row l' work n start' c' j' at measure first'
        → Grown b job work after n limit at measure (some (Added.New (n + 2)))
    grown_new el es ec ej ef ea = rw (ea, ef, ej, ec, es, el) grown_here
