-- The walk over the records: what holds between two of them, and where the job stops.
use mathlib.Core.Path.{◌≡◌, refl, sym, ap, ap₂, subst, subst₂, ◌∙◌}
use mathlib.Core.Bool.{Bool, true, false, cond}
use mathlib.Core.List.{List, [], ◌∷◌, ◌++◌, foldl}
use Prim.Native.Nat.{ℕ, zero, suc, ◌+◌, ◌-◌, ◌*◌, ◌<◌, ◌≤◌}
use native.Mathlib.Omega.{arith}
use native.Mathlib.Numerals.{add-one}
use lib.Dec.{leb}
use lib.ListN.{length, take, drop, length-drop, length-append, length-map}
use lib.Seq.{drop-drop, length-take-le}
use borrow.Author.Tests.{le-leb, lt-leb}
use Rattle.theory.specs.Limit.{Limits, first_terms, max_job, answer_bytes}
use Rattle.theory.specs.Record.{Bytes, extent, whole, records_of, total_length, ending, Item, term, step, chain, back, unknown, misfit, read, number_length}
use Rattle.theory.specs.Plain.{Plain, start, feed, plain_after, has, repeat_item, repeat_of}
use Rattle.theory.specs.Codes.{fault}
use Rattle.theory.specs.Answer.{Answer}
use Rattle.theory.specs.Chain.{Earlier}
use Rattle.theory.specs.Job.{answers_to, recall, Outcome, Returned, outcome, returned, run_from, run, answers_after}
use Rattle.theory.proofs.Basics.{foldl_append}
use Rattle.theory.proofs.Written.{new_small}
use Rattle.theory.proofs.Origins.{Mark, marks_item, Tracks, tracks_start, tracks_next}
use Rattle.terms.specs.Framing.{record_at}
use Rattle.terms.proofs.Reading.{stands}
use Rattle.rows.specs.Rows.{column, offsets}
use Rattle.store.specs.Store.{Store, listed}
use Rattle.rows.proofs.RowLaws.{rows_small, link_holds}
use Rattle.table.specs.Promise.{cleared}
use Rattle.table.proofs.MemoryLaws.{length_cleared}
use Rattle.intern.specs.Interning.{Started}
use Rattle.records.specs.declared.Turn.{Turn}
use Rattle.runs.specs.declared.walk.State.{State}
use Rattle.steps.specs.Answering.{with_notes, step_place, sealed}
use Rattle.chains.specs.Premises.{marks_in, origins, earlier_in}
use Rattle.records.specs.Turning.{memory_at, fault_at, Passed, Turned}
use Rattle.runs.specs.Walking.{state, stop_number, moved, Next, broken, taken, stopped, memory_run, memory_left, Walked}
use Rattle.terms.specs.declared.stop.Stop.{Stop}
use Rattle.terms.specs.declared.stop.Stop.TheVariants as C
use Rattle.terms.specs.Numbered.{stop_code}
use Rattle.std.specs.Prelude.{None, Some, Result, Ok, Err}
use Rattle.steps.proofs.Writing.{Note, written_fits, one_answer}
use Rattle.runs.proofs.Notes.{answers_of, at_record, notes_after, answers_more, notes_more, notes_sealed, marks_more, places_more}
use Rattle.theory.proofs.Positions.{records_whole, records_broken, none_left, ends_whole, ends_broken}

-- ---- a record is one repeat or none
one_item : (list : Plain) (r : Bytes) (i : Item) → repeat_item list r i ≤ 1
one_item list r (term o ks) = go (has list r)
  where
    go : (b : Bool) → cond b 1 0 ≤ 1
    go true = omega arith
    go false = omega arith
one_item list r (step n ks) = omega arith
one_item list r (chain n ps k) = omega arith
one_item list r (back n) = omega arith
one_item list r unknown = omega arith
one_item list r misfit = omega arith

one_repeat : (b : ℕ) (list : Plain) (r : Bytes) → repeat_of b list r ≤ 1
unfolding repeat_of
one_repeat b list r = one_item list r (read b r)

pub turn_repeats : {limits : Limits} {job work answers work' answers' : Bytes} {place rows answered at : ℕ} {t : Turn} → Passed limits place job work answers rows answered at work' answers' t → t.repeats ≤ 1
turn_repeats {limits} {job} {work} {answers} {work'} {answers'} {place} {rows} {answered} {at} p =
    subst (λ (n : ℕ). n ≤ 1) (sym p.repeats_is) (one_repeat (number_length job) (listed job work rows) (record_at job at))

-- what became of the record where a job stands
pub turned_as : (limits : Limits) (job work answers work' answers' : Bytes) (s : State) {q r : Result Turn Stop} → q ≡ r
    → Turned limits s.records job work answers s.rows s.answers s.at work' answers' q → Turned limits s.records job work answers s.rows s.answers s.at work' answers' r
turned_as limits job work answers work' answers' s e h = subst (Turned limits s.records job work answers s.rows s.answers s.at work' answers') e h

-- ---- results
ok_same : {x y : State} → ◌≡◌ {A = Result State Stop} (Ok x) (Ok y) → x ≡ y
ok_same e = cc

err_same : {x y : Stop} → ◌≡◌ {A = Result State Stop} (Err x) (Err y) → x ≡ y
err_same e = cc

-- ---- the run, record by record
module _ (b : ℕ) (limits : Limits) (work space end done repeats : ℕ) (earlier : Earlier) (list : Plain) (answers : List Answer) where
  -- what it comes to with one more record, by the record's code
  abbrev by_code : Bytes → List Bytes → ℕ → Outcome
  by_code r rs f =
      elim f as (λ z. Outcome) [
        | zero ↦ run_from b limits work space end (suc done) (repeats + repeat_of b list r) (recall b earlier list r) (feed b list r) (answers ++ answers_to b earlier list r) rs
        | suc code ↦ outcome (suc code) done repeats answers list
      ]

  -- one more record
  run_record : (r : Bytes) (rs : List Bytes) {f : ℕ} → fault done b limits work space list (length answers) r ≡ f
      → run_from b limits work space end done repeats earlier list answers (r ∷ rs) ≡ by_code r rs f
  unfolding run_from
  run_record r rs e = ap (by_code r rs) e

  -- no record is left
  run_ends : {rs : List Bytes} → rs ≡ [] → run_from b limits work space end done repeats earlier list answers rs ≡ outcome end done repeats answers list
  unfolding run_from
  run_ends e = ap (run_from b limits work space end done repeats earlier list answers) e

-- the run, by the test of the job's length
module _ (limits : Limits) (job : Bytes) (work space : ℕ) where
  by_length : {b : Bool} → leb (length job) max_job ≡ b
      → run limits job work space ≡ elim b as (λ z. Outcome) [ true ↦ run_from (number_length job) limits work space (ending job) 0 0 [] start [] (records_of job) | false ↦ outcome 2 0 0 [] start ]
  unfolding run
  by_length e = ap (λ (b : Bool). elim b as (λ z. Outcome) [ true ↦ run_from (number_length job) limits work space (ending job) 0 0 [] start [] (records_of job) | false ↦ outcome 2 0 0 [] start ]) e

  -- a job that is not too long
  run_short : length job ≤ max_job → run limits job work space ≡ run_from (number_length job) limits work space (ending job) 0 0 [] start [] (records_of job)
  run_short h = by_length (le-leb (length job) max_job h)

  -- a job that is too long
  pub run_long : max_job < length job → run limits job work space ≡ outcome 2 0 0 [] start
  run_long h = by_length (lt-leb (length job) max_job h)

-- ---- the records done
-- the first that is left, of any list
take_next : (m : ℕ) (xs : List Bytes) {r : Bytes} {rs : List Bytes} → drop m xs ≡ r ∷ rs → (take (suc m) xs ≡ take m xs ++ (r ∷ [])) × (drop (suc m) xs ≡ rs)
take_next zero xs e = (ap (take 1) e, ap (drop 1) e)
take_next (suc m) [] e = absurd (let z = ap length e in omega arith)
take_next (suc m) (x ∷ xs) e = let q = take_next m xs e in (ap (λ (l : List Bytes). x ∷ l) q.0, q.1)

total_snoc : (xs : List Bytes) (r : Bytes) → total_length (xs ++ (r ∷ [])) ≡ total_length xs + length r
total_snoc [] r = omega arith
total_snoc (x ∷ xs) r = let q = total_snoc xs r in omega arith

-- where they end, and what they made of the list and of the work memory
pub record Done (job from work : Bytes) (at records rows : ℕ) : Type 0 where
  pub at_is : at ≡ total_length (take records (records_of job))
  pub listed_is : listed job work rows ≡ plain_after records job
  pub memory_is : work ≡ memory_run job from records

-- one more is done
module _ {job from work : Bytes} {at m rows : ℕ} (d : Done job from work at m rows) (count : length (listed job work rows) ≡ first_terms + rows)
    {r : Bytes} {rs : List Bytes} (e : drop m (records_of job) ≡ r ∷ rs) where
  memory_more : memory_at job work rows at ≡ memory_run job from (m + 1)
  unfolding memory_run
  memory_more =
      let k : rows ≡ length (plain_after m job) - first_terms = let z = ap length d.listed_is in omega arith in
      ap (λ (w : Bytes). memory_at job w rows at) d.memory_is ∙ ap₂ (λ (i j : ℕ). memory_at job (memory_run job from m) i j) k d.at_is ∙ ap (memory_run job from) (sym (add-one m))

  done_more : {work' : Bytes} {rows' n : ℕ} → length r ≡ n → listed job work' rows' ≡ feed (number_length job) (listed job work rows) r → work' ≡ memory_at job work rows at
      → Done job from work' (at + n) (m + 1) rows'
  done_more {work'} {rows'} {n} l f w =
      let q = (take_next m (records_of job) e).0 in
      let t : take (m + 1) (records_of job) ≡ take m (records_of job) ++ (r ∷ []) = ap (λ (i : ℕ). take i (records_of job)) (add-one m) ∙ q in
      record {
        at_is = let x = d.at_is in let y = total_snoc (take m (records_of job)) r in let z = ap total_length t in omega arith;
        listed_is = f ∙ ap (λ (x : Plain). feed (number_length job) x r) d.listed_is ∙ sym (foldl_append (feed (number_length job)) start (take m (records_of job)) (r ∷ [])) ∙ ap (foldl (feed (number_length job)) start) (sym t);
        memory_is = w ∙ memory_more;
      }

  left_more : drop (m + 1) (records_of job) ≡ rs
  left_more = ap (λ (i : ℕ). drop i (records_of job)) (add-one m) ∙ (take_next m (records_of job) e).1

-- ---- what holds between two records
-- of the job, its work memory before it and the old bytes of its answers' memory: the answers given, what both memories hold, and the counts
pub record Holding (job from old work answers : Bytes) (s : State) (ms : List Note) : Type 0 where
  pub store : Store job work s.rows
  pub same_work : length work ≡ length from
  pub same_answers : length answers ≡ length old
  pub written : answers ≡ notes_after (number_length job) ms old
  pub counted : s.answers ≡ length ms
  pub places : (k : ℕ) → k < s.answers → whole (drop (step_place (number_length job) answers k) job) ≡ true
  pub roomy : answer_bytes (number_length job) * s.answers ≤ length old
  pub within : s.at ≤ length job
  pub few : s.records ≤ s.at
  pub fewer : s.answers ≤ s.records
  pub rarer : s.repeats ≤ s.records

-- the run goes on from here with the records that are left, and those before are the bytes before
pub record Between (limits : Limits) (job from old work answers : Bytes) (s : State) : Type 0 where
  pub given : List Note
  pub holding : Holding job from old work answers s given
  pub tracks : Tracks s.at (origins job work s.rows) (marks_in job answers s.answers) (earlier_in job work answers s.rows s.answers) (listed job work s.rows)
  pub done : Done job from work s.at s.records s.rows
  pub left : drop s.records (records_of job) ≡ records_of (drop s.at job)
  pub before : total_length (records_of job) ≡ s.at + total_length (records_of (drop s.at job))
  pub leads : run limits job (length from) (length old)
      ≡ run_from (number_length job) limits (length from) (length old) (ending job) s.records s.repeats (earlier_in job work answers s.rows s.answers) (listed job work s.rows) (answers_of given) (records_of (drop s.at job))

-- the run ends here
pub record Stopped (limits : Limits) (job from old work answers : Bytes) (s : State) : Type 0 where
  pub given : List Note
  pub holding : Holding job from old work answers s given
  pub done : Done job from work s.at s.records s.rows
  pub ended : run limits job (length from) (length old) ≡ outcome (stop_number s.stop) s.records s.repeats (answers_of given) (listed job work s.rows)

-- before the first record no step is there, and `true` and `false` are the only terms
none_earlier : (job work answers : Bytes) → earlier_in job work answers 0 0 ≡ []
unfolding marks_in column
none_earlier job work answers = refl

start_tracks : {job work after : Bytes} (old : Bytes) → length job ≤ max_job → Started job work after
    → Tracks 0 (origins job after 0) (marks_in job old 0) (earlier_in job after old 0 0) (listed job after 0)
unfolding marks_in origins offsets column
start_tracks {job} {work} {after} old h s = subst (Tracks 0 (0 ∷ 0 ∷ []) [] []) (sym s.listed_is) tracks_start

start_memory : (job from : Bytes) → from ≡ memory_run job from 0
unfolding memory_run
start_memory job from = refl

-- at the first record
begins : (limits : Limits) {job work after : Bytes} (old : Bytes) → length job ≤ max_job → Started job work after → Between limits job after old after old (state 0 None 0 0 0 0)
begins limits {job} {work} {after} old h s = record {
  given = [];
  tracks = start_tracks old h s;
  holding = record {
    store = s.store;
    same_work = refl;
    same_answers = refl;
    written = ap (λ (n : ℕ). drop n old) (let z : 0 ≡ answer_bytes (number_length job) * 0 = omega arith in z);
    counted = refl;
    places = λ k l. absurd (omega arith);
    roomy = omega arith;
    within = omega arith;
    few = omega arith;
    fewer = omega arith;
    rarer = omega arith;
  };
  done = record {
    at_is = refl;
    listed_is = s.listed_is;
    memory_is = start_memory job after;
  };
  left = refl;
  before = omega arith;
  leads = run_short limits job (length after) (length old) h
      ∙ ap₂ (λ (earlier : Earlier) (list : Plain). run_from (number_length job) limits (length after) (length old) (ending job) 0 0 earlier list [] (records_of job)) (sym (none_earlier job after old)) (sym s.listed_is);
}

pub begun : (limits : Limits) {job work after : Bytes} (old : Bytes) → length job ≤ max_job → Started job work after → {s : State} → s ≡ state 0 None 0 0 0 0
    → (s.stop ≡ None) × Between limits job after old after old s
begun limits {job} {work} {after} old h e {s} q = subst (λ (x : State). (x.stop ≡ None) × Between limits job after old after old x) (sym q) (refl, begins limits old h e)

-- no record is left: the run ends with the ending's code
last : {limits : Limits} {job from old work answers : Bytes} {s : State} (b : Between limits job from old work answers s) → records_of (drop s.at job) ≡ [] → {c : ℕ} → ending job ≡ c
    → run limits job (length from) (length old) ≡ outcome c s.records s.repeats (answers_of b.given) (listed job work s.rows)
last {limits} {job} {from} {old} {work} {answers} {s} b none e =
    b.leads ∙ run_ends (number_length job) limits (length from) (length old) (ending job) s.records s.repeats (earlier_in job work answers s.rows s.answers) (listed job work s.rows) (answers_of b.given) none
    ∙ ap (λ (x : ℕ). outcome x s.records s.repeats (answers_of b.given) (listed job work s.rows)) e

-- the job ends where nothing is left
pub ends : {limits : Limits} {job from old work answers : Bytes} {s : State} → Between limits job from old work answers s → s.stop ≡ None → length job ≤ s.at → Stopped limits job from old work answers s
ends {limits} {job} {from} {old} {work} {answers} {s} b z h =
    let w = b.holding.within in
    let l = length-drop s.at job in
    let none : records_of (drop s.at job) ≡ [] = records_broken (drop s.at job) (none_left (drop s.at job) (omega arith)) in
    let total : total_length (records_of job) ≡ length job = b.before ∙ ap (λ (rs : List Bytes). s.at + total_length rs) none ∙ omega arith in
    record { given = b.given; holding = b.holding; done = b.done; ended = last b none (ends_whole job total ∙ sym (ap stop_number z)) }

-- what the host is told of a job that stopped
pub walked : {limits : Limits} {job from old work answers : Bytes} {s : State} → length job ≤ max_job → Stopped limits job from old work answers s
    → {lent : Bytes} → from ≡ cleared lent → Walked limits job lent old work answers s
walked {limits} {job} {from} {old} {work} {answers} {s} short t {lent} same =
    let h = t.holding in
    let c = h.counted in
    let n = h.store.count in
    let a = h.within in
    let b = h.few in
    let d = h.fewer in
    let q = h.rarer in
    let f = rows_small h.store.table.rows in
    let m : length (answers_of t.given) ≡ length t.given = length-map t.given (λ (x : Note). x.1) in
    let y = h.roomy in
    let z = h.same_answers in
    let e : run limits job (length lent) (length old) ≡ outcome (stop_number s.stop) s.records s.repeats (answers_of t.given) (listed job work s.rows) = ap (λ (m : ℕ). run limits job m (length old)) (sym (ap length same ∙ length_cleared lent)) ∙ t.ended in
    let terms : s.rows + first_terms ≡ length (listed job work s.rows) = omega arith in
    record {
      result_is = ap₂ (λ (x y : ℕ). told_of x y) (c ∙ sym m) terms ∙ ap returned (sym e);
      at_is = t.done.at_is;
      memory_is = t.done.memory_is ∙ ap (λ (m : Bytes). memory_run job m s.records) same;
      roomy = omega arith;
      answers_are = ap (sealed (number_length job) s.answers) h.written ∙ notes_sealed (number_length job) old t.given c ∙ ap (λ (o : Outcome). answers_after (number_length job) o.answers old) (sym e);
      few_records = omega arith;
      few_answers = omega arith;
      few_terms = omega arith;
      few_repeats = omega arith;
      store = h.store;
      list_is = t.done.listed_is;
    }
  where
    told_of : ℕ → ℕ → Returned
    told_of x y = record { stop = stop_number s.stop; records = s.records; answers = x; terms = y; repeats = s.repeats }

-- ---- the work memory that a job leaves, by the test of its length
module _ (limits : Limits) (job work : Bytes) (space : ℕ) where
  by_test : {b : Bool} → leb (length job) max_job ≡ b → cond b (memory_run job (cleared work) (run limits job (length work) space).records) work ≡ memory_left limits job work space
  unfolding memory_left
  by_test e = sym (ap (λ (x : Bool). cond x (memory_run job (cleared work) (run limits job (length work) space).records) work) e)

  -- a job that is too long
  pub left_long : max_job < length job → work ≡ memory_left limits job work space
  left_long h = by_test (lt-leb (length job) max_job h)

  -- a job that is read
  pub left_short : length job ≤ max_job → {work' : Bytes} {m : ℕ} → work' ≡ memory_run job (cleared work) m → m ≡ (run limits job (length work) space).records
      → work' ≡ memory_left limits job work space
  left_short h e k = e ∙ ap (memory_run job (cleared work)) k ∙ by_test (le-leb (length job) max_job h)

-- ---- one record
module _ {limits : Limits} {job from old work answers : Bytes} {s : State} (b : Between limits job from old work answers s) (more : s.at < length job) (work' answers' : Bytes)
    (lw : length work' ≡ length work) (la : length answers' ≡ length answers) where
  -- the run stops here, and nothing is changed
  unmoved : work' ≡ work → answers' ≡ answers → (c : Stop)
      → run limits job (length from) (length old) ≡ outcome (stop_code c) s.records s.repeats (answers_of b.given) (listed job work s.rows)
      → Stopped limits job from old work' answers' (state s.at (Some c) s.records s.answers s.rows s.repeats)
  unmoved p q c e =
      let h = b.holding in
      subst (λ (x : Bytes). Stopped limits job from old x answers' (state s.at (Some c) s.records s.answers s.rows s.repeats)) (sym p)
      (subst (λ (x : Bytes). Stopped limits job from old work x (state s.at (Some c) s.records s.answers s.rows s.repeats)) (sym q) (record {
        given = b.given;
        holding = record {
          store = h.store;
          same_work = h.same_work;
          same_answers = h.same_answers;
          written = h.written;
          counted = h.counted;
          places = h.places;
          roomy = h.roomy;
          within = h.within;
          few = h.few;
          fewer = h.fewer;
          rarer = h.rarer;
        };
        done = b.done;
        ended = e;
      }))

  -- no whole record: code 3
  broke : whole (drop s.at job) ≡ false → work' ≡ work → answers' ≡ answers
      → Stopped limits job from old work' answers' (state s.at (Some C.Cut) s.records s.answers s.rows s.repeats)
  broke w p q =
      let none : records_of (drop s.at job) ≡ [] = records_broken (drop s.at job) w in
      let total : total_length (records_of job) ≡ s.at + 0 = b.before ∙ ap (λ (rs : List Bytes). s.at + total_length rs) none in
      unmoved p q C.Cut (last b none (ends_broken job (omega arith)))

  -- the parts of the record that stands here
  abbrev n : ℕ
  n = extent (drop s.at job)

  abbrev r : Bytes
  r = record_at job s.at

  abbrev list : Plain
  list = listed job work s.rows

  abbrev E : Earlier
  E = earlier_in job work answers s.rows s.answers

  abbrev left : List Bytes
  left = records_of (drop n (drop s.at job))

  -- the answers that it adds
  abbrev new : List Answer
  new = answers_to (number_length job) E list r

  module _ (w : whole (drop s.at job) ≡ true) where
    -- it is the run's next record
    here : run limits job (length from) (length old) ≡ run_from (number_length job) limits (length from) (length old) (ending job) s.records s.repeats E list (answers_of b.given) (r ∷ left)
    here = b.leads ∙ ap (run_from (number_length job) limits (length from) (length old) (ending job) s.records s.repeats E list (answers_of b.given)) (records_whole (drop s.at job) w)

    -- as many answers as the code counts
    counts : s.answers ≡ length (answers_of b.given)
    counts = b.holding.counted ∙ sym (length-map b.given (λ (x : Note). x.1))

    -- its code
    test : {c : ℕ} → c ≡ fault_at limits s.records job work answers s.rows s.answers s.at → fault s.records (number_length job) limits (length from) (length old) list (length (answers_of b.given)) r ≡ c
    test e =
        let h = b.holding in
        sym (e ∙ ap (λ (k : ℕ). fault s.records (number_length job) limits (length work) (length answers) list k r) counts
        ∙ ap₂ (λ (x y : ℕ). fault s.records (number_length job) limits x y list (length (answers_of b.given)) r) h.same_work h.same_answers)

    -- a test fails: the run stops at the record
    halted : (c : Stop) → Turned limits s.records job work answers s.rows s.answers s.at work' answers' (Err c)
        → Stopped limits job from old work' answers' (state s.at (Some c) s.records s.answers s.rows s.repeats)
    halted c turned =
        unmoved turned.memory_is turned.answers_are c
        (here ∙ run_record (number_length job) limits (length from) (length old) (ending job) s.records s.repeats E list (answers_of b.given) r left (test turned.code_is) ∙ by_stop c)
      where
        by_stop : (c : Stop) → by_code (number_length job) limits (length from) (length old) (ending job) s.records s.repeats E list (answers_of b.given) r left (stop_code c)
            ≡ outcome (stop_code c) s.records s.repeats (answers_of b.given) list
        by_stop C.TooLong = refl
        by_stop C.Cut = refl
        by_stop C.Unknown = refl
        by_stop C.Misfit = refl
        by_stop C.NoTerm = refl
        by_stop C.Unsorted = refl
        by_stop C.Spent = refl
        by_stop C.NoRule = refl
        by_stop C.NoBack = refl
        by_stop C.NoRoom = refl

    -- all pass: the run goes on after the record
    module _ (t : Turn) (turned : Turned limits s.records job work answers s.rows s.answers s.at work' answers' (Ok t)) where
      -- the memory holds all answers
      wrote : answers' ≡ notes_after (number_length job) (b.given ++ at_record s.at new) old
      wrote =
          let h = b.holding in
          turned.written_is ∙ ap (λ (x : Bytes). with_notes (number_length job) x s.answers s.at new) h.written ∙ notes_more (number_length job) old b.given s.at new h.counted

      -- they have room
      fits : answer_bytes (number_length job) * t.answers ≤ length old
      fits =
          let h = b.holding in
          let x = h.same_answers in
          let y = h.roomy in
          let z = written_fits (number_length job) answers s.answers s.at new (omega arith) (ap length (sym turned.written_is) ∙ la) in
          subst (λ (k : ℕ). answer_bytes (number_length job) * k ≤ length old) (sym turned.answers_is) (omega arith)

      -- at most one is new
      few_new : length new ≤ 1
      few_new = one_answer (number_length job) E list r

      near : s.at < 16777216
      near = let z = b.holding.store.table.rows.short in omega arith

      room : answer_bytes (number_length job) * s.answers ≤ length answers
      room = let x = b.holding.same_answers in let y = b.holding.roomy in omega arith

      -- the earlier steps after it
      tracked : Tracks (s.at + n) (origins job work' t.rows) (marks_in job answers' t.answers) (recall (number_length job) E list r) (listed job work' t.rows)
      tracked =
          let h = b.holding in
          let st = stands job s.at w in
          let p = st.low in
          let few = link_holds (number_length job) _ h.store.table.rows.few in
          let c = h.store.count in
          let f = test turned.code_is in
          let small = new_small s.records (number_length job) limits (length from) (length old) E list (length (answers_of b.given)) r f h.store.well (omega arith) in
          let ms : marks_item (marks_in job answers s.answers) s.at (read (number_length job) r) new ≡ marks_in job answers' t.answers
          = sym (ap₂ (marks_in job) turned.written_is turned.answers_is ∙ marks_more job answers s.answers s.at room near E list small) in
          subst (λ (l : Plain). Tracks (s.at + n) (origins job work' t.rows) (marks_in job answers' t.answers) (recall (number_length job) E list r) l) (sym turned.listed_is)
          (subst₂ (λ (o : List ℕ) (m : List Mark). Tracks (s.at + n) o m (recall (number_length job) E list r) (feed (number_length job) list r)) (sym turned.origins_are) ms
          (tracks_next s.records (number_length job) limits (length from) (length old) (length (answers_of b.given)) s.at (s.at + n) r (origins job work s.rows) (marks_in job answers s.answers) E list b.tracks (omega arith) f))

      took : Between limits job from old work' answers' (moved n s t)
      took =
          let h = b.holding in
          let st = stands job s.at w in
          let p = st.low in
          let q = st.end in
          let f = h.few in
          let o = h.fewer in
          let y = h.rarer in
          let x = turned.repeats_is in
          let z = one_repeat (number_length job) list r in
          let k = turned.answers_is in
          let u = few_new in
          let d : drop n (drop s.at job) ≡ drop (s.at + n) job = drop-drop n s.at job in
          let next_left : drop s.records (records_of job) ≡ r ∷ left = b.left ∙ records_whole (drop s.at job) w in
          let len : length r ≡ n = length-take-le n (drop s.at job) (let m = length-drop s.at job in omega arith) in
          record {
            given = b.given ++ at_record s.at new;
            tracks = subst (λ (x : Earlier). Tracks (s.at + n) (origins job work' t.rows) (marks_in job answers' t.answers) x (listed job work' t.rows)) tracked.is tracked;
            holding = record {
              store = turned.store;
              same_work = lw ∙ h.same_work;
              same_answers = la ∙ h.same_answers;
              written = wrote;
              counted = turned.answers_is ∙ ap₂ (λ (k i : ℕ). k + i) h.counted (sym (length-map new (λ (a : Answer). (s.at, a)))) ∙ sym (length-append b.given (at_record s.at new));
              places = λ k l. subst (λ (m : Bytes). whole (drop (step_place (number_length job) m k) job) ≡ true) (sym turned.written_is)
                  (places_more job answers s.answers s.at room near w h.places new few_new k (let i = turned.answers_is in omega arith));
              roomy = fits;
              within = omega arith;
              few = omega arith;
              fewer = omega arith;
              rarer = omega arith;
            };
            done = done_more b.done h.store.count next_left len turned.listed_is turned.memory_is;
            left = left_more b.done h.store.count next_left ∙ ap records_of d;
            before = b.before ∙ ap (λ (rs : List Bytes). s.at + total_length rs) (records_whole (drop s.at job) w)
                ∙ ap (λ (m : ℕ). s.at + (m + total_length left)) len ∙ ap (λ (bs : Bytes). s.at + (n + total_length (records_of bs))) d ∙ omega arith;
            leads = here ∙ run_record (number_length job) limits (length from) (length old) (ending job) s.records s.repeats E list (answers_of b.given) r left (test turned.code_is)
                ∙ ap₂ (λ (x : Earlier) (l : Plain). run_from (number_length job) limits (length from) (length old) (ending job) (suc s.records) (s.repeats + repeat_of (number_length job) list r) x l (answers_of b.given ++ new) left)
                tracked.is (sym turned.listed_is)
                ∙ ap (λ (xs : List Answer). run_from (number_length job) limits (length from) (length old) (ending job) (suc s.records) (s.repeats + repeat_of (number_length job) list r) (earlier_in job work' answers' t.rows t.answers) (listed job work' t.rows) xs left)
                (sym (answers_more b.given s.at new))
                ∙ ap₂ (λ (m : ℕ) (bs : Bytes). run_from (number_length job) limits (length from) (length old) (ending job) m (s.repeats + repeat_of (number_length job) list r) (earlier_in job work' answers' t.rows t.answers) (listed job work' t.rows)
                (answers_of (b.given ++ at_record s.at new)) (records_of bs))
                (sym (add-one s.records)) d
                ∙ ap (λ (i : ℕ). run_from (number_length job) limits (length from) (length old) (ending job) (s.records + 1) (s.repeats + i) (earlier_in job work' answers' t.rows t.answers) (listed job work' t.rows)
                (answers_of (b.given ++ at_record s.at new)) (records_of (drop (s.at + n) job)))
                (sym turned.repeats_is);
          }

  -- the loop goes on: the next state stands further on, between two records
  pub goes : {q : Result State Stop} {s' : State} → Next limits job work answers s work' answers' q → q ≡ Ok s'
      → (s'.stop ≡ s.stop) × (Between limits job from old work' answers' s' × (s.at < s'.at))
  goes {q} {s'} (broken w o p e) f = absurd (let d : Err C.Cut ≡ Ok s' = sym e ∙ f in let z : ◌≡◌ {A = ℕ} 0 1 = cc in omega arith)
  goes {q} {s'} (taken w t turned e) f =
      let d : moved n s t ≡ s' = ok_same (sym e ∙ f) in
      let st = (stands job s.at w).low in
      subst (λ (x : State). (x.stop ≡ s.stop) × (Between limits job from old work' answers' x × (s.at < x.at))) d (refl, (took w t turned, omega arith))
  goes {q} {s'} (stopped w c turned e) f = absurd (let d : Err c ≡ Ok s' = sym e ∙ f in let z : ◌≡◌ {A = ℕ} 0 1 = cc in omega arith)

  -- the loop stops
  pub stops : {q : Result State Stop} {c : Stop} → Next limits job work answers s work' answers' q → q ≡ Err c
      → Stopped limits job from old work' answers' (state s.at (Some c) s.records s.answers s.rows s.repeats)
  stops {q} {c} (broken w o p e) f =
      let d : C.Cut ≡ c = err_same (sym e ∙ f) in
      subst (λ (x : Stop). Stopped limits job from old work' answers' (state s.at (Some x) s.records s.answers s.rows s.repeats)) d (broke w o p)
  stops {q} {c} (taken w t turned e) f = absurd (let d : Ok (moved n s t) ≡ Err c = sym e ∙ f in let z : ◌≡◌ {A = ℕ} 0 1 = cc in omega arith)
  stops {q} {c} (stopped w x turned e) f =
      let d : x ≡ c = err_same (sym e ∙ f) in
      subst (λ (x : Stop). Stopped limits job from old work' answers' (state s.at (Some x) s.records s.answers s.rows s.repeats)) d (halted w x turned)
