-- What became of a record, by what it was read as.
use mathlib.Core.Path.{◌≡◌, refl, sym, ap, subst, ◌∙◌}
use mathlib.Core.Bool.{Bool, true, false, cond}
use mathlib.Core.List.{List, [], ◌∷◌, ◌++◌, map}
use Rattle.std.specs.Prelude.{Option, None as none, Some as some, Result, Ok, Err, IsErrAnd}
use Prim.Native.Nat.{ℕ, suc, ◌+◌, ◌-◌, ◌*◌, ◌<◌, ◌≤◌}
use native.Mathlib.Omega.{arith}
use lib.Dec.{leb}
use lib.ListN.{length, take, drop}
use borrow.Author.Tests.{le-leb, lt-leb}
use Rattle.theory.specs.Limit.{Limits, first_terms, answer_bytes}
use Rattle.theory.specs.Term as T
use Rattle.theory.specs.Optional.{is_some, collect}
use Rattle.theory.specs.Verdict.{held, wrong_form, accepted}
use Rattle.theory.specs.Verdict.{Verdict as Said}
use Rattle.theory.specs.Rule.{form}
use Rattle.theory.specs.Chain.{sides, joins, chain_verdict, premises_at, joined}
use Rattle.theory.specs.RuleTable.{Rule, rule_at, ChainRule, chain_rule_at}
use Rattle.theory.specs.Record.{Bytes, whole, read, number_length}
use Rattle.theory.specs.Record as R
use Rattle.theory.specs.Plain.{Plain, has, feed, feed_item, repeat_item, repeat_of}
use Rattle.theory.specs.Codes.{first_fault, all_below, step_tests, opening_tests, tests, fault}
use Rattle.theory.specs.Answer.{Answer}
use Rattle.theory.specs.Job.{right_depth, judged, answer_to, item_answers, answers_to}
use Rattle.theory.proofs.Places.{tree_at, tree_of}
use Rattle.theory.proofs.Run.{StepPassed, step_passed, step_answer, ChainPassed, chain_passed, chain_answer}
use Rattle.theory.proofs.Slices.{map_take}
use Rattle.theory.proofs.Origins.{origins_item}
use Rattle.terms.specs.declared.Args.{Args}
use Rattle.terms.specs.declared.Item.{Item}
use Rattle.terms.specs.declared.Item.TheVariants as I
use Rattle.terms.specs.declared.Fault.{Fault}
use Rattle.terms.specs.declared.stop.Stop.{Stop}
use Rattle.terms.specs.declared.stop.Stop.TheVariants as S
use Rattle.terms.specs.Numbered.{stop_code, code_in}
use Rattle.terms.specs.declared.Term.{Term}
use Rattle.terms.specs.Framing.{record_at}
use Rattle.terms.specs.Decoded.{PlacedIn, read_of, item_of, fault_of, op_of, arguments_of, words_in}
use Rattle.rows.specs.Rows.{offsets}
use Rattle.store.specs.declared.shelf.Terms.{Terms}
use Rattle.store.specs.KeptTerms.{Holds, kept_terms, kept_term}
use Rattle.store.specs.Store.{Store, listed}
use Rattle.intern.specs.Interning.{CutBack, Taken, with_term, answer_for}
use Rattle.intern.specs.declared.Interned.{Interned}
use Rattle.intern.specs.declared.Interned.TheVariants as N
use Rattle.steps.specs.declared.answers.Reply.{Reply}
use Rattle.records.specs.declared.Turn.{Turn}
use Rattle.store.specs.declared.gates.Kept.{Kept}
use Rattle.store.specs.Lookup.{Finds}
use Rattle.steps.specs.Answering.{given, equation_depth, with_notes, Judged}
use Rattle.steps.proofs.Equations.{accepted_depth}
use Rattle.steps.proofs.Judging.{judged_is}
use Rattle.rows.specs.Layout.{link_size, place_end}
use Rattle.rows.proofs.RowLaws.{rows_small}
use Rattle.chains.specs.Premises.{earlier_in, origins}
use Rattle.records.specs.Turning.{turn, Reading, answers_at, origins_at, memory_item, memory_at, Turned}
use Rattle.steps.proofs.Writing.{none_written}
use Rattle.std.proofs.lemmas.Result.{err_from_is_err_and}
use Rattle.records.proofs.StepTests.{fault_6, fault_9, fault_room, one_kept, one_gone}
use Rattle.theory.proofs.Basics.{some_inj}
use Rattle.store.specs.Kept.{Reads}

-- the error that `?` returns is the one that was met
pub same_err : {A : Type 0} (r : Result A Stop) {e : Stop} → IsErrAnd r (λ (y : Stop). y ≡ e) → r ≡ Err e
same_err r h = let p = err_from_is_err_and r h in p.1 ∙ ap (λ (x : Stop). Err x) p.2

-- every place fits into 32 bits
pub few_terms : {job work : Bytes} {rows : ℕ} → Store job work rows → rows + first_terms < place_end
few_terms s = let f = rows_small s.table.rows in omega arith

-- a record that was read as an item
pub reading : {job work : Bytes} {rows at : ℕ} (r : Result Item Fault) {k : Item} → Store job work rows → whole (drop at job) ≡ true
    → read_of job r ≡ read (number_length job) (record_at job at) → PlacedIn job r → r ≡ Ok k → Reading job work rows at k
reading {job} r s w e p f = record { store = s; stands = w; says = ap (read_of job) (sym f) ∙ e; placed = subst (PlacedIn job) f p }

-- the record at `at` says an item, or why it says none
pub record Told (job work : Bytes) (rows at : ℕ) (item : R.Item) : Type 0 where
  pub store : Store job work rows
  pub says : item ≡ read (number_length job) (record_at job at)

told : {job work : Bytes} {rows at : ℕ} {k : Item} → Reading job work rows at k → Told job work rows at (item_of job k)
told g = record { store = g.store; says = g.says }

pub told_none : {job work : Bytes} {rows at : ℕ} (r : Result Item Fault) (f : Fault) → Store job work rows → read_of job r ≡ read (number_length job) (record_at job at) → r ≡ Err f
    → Told job work rows at (fault_of f)
told_none {job} r f s e q = record { store = s; says = ap (read_of job) (sym q) ∙ e }

-- what the record does, by what it says
module _ {job work : Bytes} {rows at : ℕ} {item : R.Item} (g : Told job work rows at item) (answers : Bytes) (answered : ℕ) where
  -- the list before the record, and the record
  abbrev list : Plain
  list = listed job work rows

  abbrev r : Bytes
  r = record_at job at

  -- what the item does to the list, the record does
  feed_is : feed_item list r item ≡ feed (number_length job) list r
  unfolding feed
  feed_is = ap (feed_item list r) g.says

  -- the item's repeats are the record's
  repeats_are : repeat_item list r item ≡ repeat_of (number_length job) list r
  unfolding repeat_of
  repeats_are = ap (repeat_item list r) g.says

  -- the item's answers are the record's
  answers_are : item_answers (earlier_in job work answers rows answered) list item ≡ answers_at job work answers rows answered at
  unfolding answers_to
  answers_are = ap (item_answers (earlier_in job work answers rows answered) list) g.says

  -- so are the origins job after it
  origins_are : origins_item (origins job work rows) list at r item ≡ origins_at job work rows at
  origins_are = ap (origins_item (origins job work rows) list at r) g.says

  -- so is the work memory after it
  memory_same : memory_item job work rows at item ≡ memory_at job work rows at
  memory_same = ap (memory_item job work rows at) g.says

module _ (limits : Limits) (place : ℕ) {job work : Bytes} {rows at : ℕ} {item : R.Item} (g : Told job work rows at item) (answers : Bytes) (answered : ℕ) where
  -- the code of the item's tests
  abbrev code : ℕ
  code = first_fault (tests place (number_length job) limits (length work) (length answers) (listed job work rows) answered (record_at job at) item)

  -- it is the record's
  fault_is : code ≡ fault place (number_length job) limits (length work) (length answers) (listed job work rows) answered (record_at job at)
  unfolding fault
  fault_is = ap (λ (i : R.Item). first_fault (tests place (number_length job) limits (length work) (length answers) (listed job work rows) answered (record_at job at) i)) g.says

  -- a turn that writes no answer
  unanswered : {after : Bytes} {n m : ℕ} → 0 ≡ code → after ≡ memory_at job work rows at → Store job after n → listed job after n ≡ feed (number_length job) (listed job work rows) (record_at job at)
      → origins job after n ≡ origins_at job work rows at → answers_at job work answers rows answered at ≡ []
      → m ≡ repeat_of (number_length job) (listed job work rows) (record_at job at) → Turned limits place job work answers rows answered at after answers (Ok (turn answered n m))
  unanswered e w s l o a q = record {
    code_is = e ∙ fault_is;
    memory_is = w;
    store = s;
    listed_is = l;
    origins_are = o;
    repeats_is = q;
    answers_is = sym (ap (λ (xs : List Answer). answered + length xs) a ∙ omega arith);
    written_is = sym (ap (with_notes (number_length job) answers answered at) a ∙ none_written (number_length job) answers answered at);
  }

  -- a stop
  pub halted : {after : Bytes} (s : Stop) → after ≡ work → stop_code s ≡ code → Turned limits place job work answers rows answered at after answers (Err s)
  halted s w e = record { code_is = e ∙ fault_is; memory_is = w; answers_are = refl }

  pub stopped : (s : Stop) → stop_code s ≡ code → Turned limits place job work answers rows answered at work answers (Err s)
  stopped s e = halted s refl e

  -- by the code of a result
  pub stopped_by : {A : Type 0} {q : Result A Stop} {s : Stop} → code_in q ≡ code → q ≡ Err s → Turned limits place job work answers rows answered at work answers (Err s)
  stopped_by {A} {q} {s} e f = stopped s (sym (ap code_in f) ∙ e)

-- ---- a record that says no term, step, chain or back
-- the first may ask for long numbers: it changes nothing
pub opened : (limits : Limits) (place : ℕ) {job work : Bytes} {rows at : ℕ} (g : Told job work rows at R.unknown) (answers : Bytes) (answered : ℕ)
    → 0 ≡ first_fault (opening_tests place (record_at job at)) → Turned limits place job work answers rows answered at work answers (Ok (turn answered rows 0))
opened limits place g answers answered e =
    unanswered limits place g answers answered e (memory_same g answers answered) g.store (feed_is g answers answered) (origins_are g answers answered)
    (sym (answers_are g answers answered)) (repeats_are g answers answered)

-- ---- a term
-- what `intern`'s answer says of the record
found_was : (sorted there roomy : Bool) (n m : ℕ) → Ok (N.Found m) ≡ answer_for sorted there roomy n → there ≡ true
unfolding answer_for
found_was true true roomy n m e = refl
found_was true false true n m e = absurd (let z : ◌≡◌ {A = ℕ} 0 1 = cc in omega arith)
found_was true false false n m e = absurd (let z : ◌≡◌ {A = ℕ} 0 1 = cc in omega arith)
found_was false there roomy n m e = absurd (let z : ◌≡◌ {A = ℕ} 0 1 = cc in omega arith)

new_was : (sorted there roomy : Bool) (n m : ℕ) → Ok (N.New m) ≡ answer_for sorted there roomy n → there ≡ false
unfolding answer_for
new_was true true roomy n m e = absurd (let z : ◌≡◌ {A = ℕ} 0 1 = cc in omega arith)
new_was true false true n m e = refl
new_was true false false n m e = absurd (let z : ◌≡◌ {A = ℕ} 0 1 = cc in omega arith)
new_was false there roomy n m e = absurd (let z : ◌≡◌ {A = ℕ} 0 1 = cc in omega arith)

-- what becomes of the record by that answer
abbrev pub kept_turn : ℕ → Result Interned Stop → Result Turn Stop
kept_turn answered (Err s) = Err s
kept_turn answered (Ok (N.Found n)) = Ok (turn answered n 1)
kept_turn answered (Ok (N.New n)) = Ok (turn answered n 0)

module _ (limits : Limits) (place : ℕ) {job work : Bytes} {rows at : ℕ} {t : Term} (g : Reading job work rows at (I.Term t)) (answers : Bytes) (answered : ℕ) where
  -- as many terms are kept as the code counts
  first_test : {b : Bool} → all_below (rows + first_terms) (arguments_of job t) ≡ b → all_below (length (listed job work rows)) (arguments_of job t) ≡ b
  first_test e =
      let c = g.store.count in
      let same : length (listed job work rows) ≡ rows + first_terms = omega arith in
      ap (λ (n : ℕ). all_below n (arguments_of job t)) same ∙ e

  -- an argument is not kept
  pub not_below : all_below (rows + first_terms) (arguments_of job t) ≡ false → Turned limits place job work answers rows answered at work answers (Err S.NoTerm)
  not_below e = stopped limits place (told g) answers answered S.NoTerm (rw (first_test e))

  -- the origins job after it, by whether it was there
  snoc_map : (os : List ℕ) → map suc (os ++ (at ∷ [])) ≡ map suc os ++ (suc at ∷ [])
  snoc_map [] = refl
  snoc_map (o ∷ os) = ap (λ (xs : List ℕ). suc o ∷ xs) (snoc_map os)

  put_at : (b : Bool) → has (listed job work rows) (record_at job at) ≡ b → cond b (origins job work rows) (origins job work rows ++ (suc at ∷ [])) ≡ origins_at job work rows at
  put_at b e = sym (ap (λ (x : Bool). cond x (origins job work rows) (origins job work rows ++ (suc at ∷ []))) e) ∙ origins_are (told g) answers answered

  term_origins : (after : Bytes) (n : ℕ) (b : Bool) → has (listed job work rows) (record_at job at) ≡ b
      → offsets (link_size job) after n ≡ cond b (offsets (link_size job) work rows) (offsets (link_size job) work rows ++ (at ∷ [])) → origins job after n ≡ origins_at job work rows at
  unfolding origins
  term_origins after n true e f = ap (λ (os : List ℕ). 0 ∷ 0 ∷ map suc os) f ∙ put_at true e
  term_origins after n false e f =
      ap (λ (os : List ℕ). 0 ∷ 0 ∷ map suc os) f ∙ ap (λ (xs : List ℕ). 0 ∷ 0 ∷ xs) (snoc_map (offsets (link_size job) work rows)) ∙ put_at false e

  -- the work memory after it
  put_row : (b : Bool) → has (listed job work rows) (record_at job at) ≡ b
      → cond b work (with_term job work rows at (tree_of (listed job work rows) (op_of t) (arguments_of job t))) ≡ memory_at job work rows at
  put_row b e =
      sym (ap (λ (x : Bool). cond x work (with_term job work rows at (tree_of (listed job work rows) (op_of t) (arguments_of job t)))) e) ∙ memory_same (told g) answers answered

  -- a repeat, where it was there
  counts : (b : Bool) → has (listed job work rows) (record_at job at) ≡ b → cond b 1 0 ≡ repeat_of (number_length job) (listed job work rows) (record_at job at)
  counts b e = sym (ap (λ (x : Bool). cond x 1 0) e) ∙ repeats_are (told g) answers answered

  -- the term is offered to `intern`, whose answer says the rest
  pub term_turned : {after : Bytes} {a : Result Interned Stop} → all_below (rows + first_terms) (arguments_of job t) ≡ true → Taken limits job work after rows at t a
      → {b : Result Interned Stop} → a ≡ b → Turned limits place job work answers rows answered at after answers (kept_turn answered b)
  term_turned {after} {a} e taken {b} q = go b (subst (Taken limits job work after rows at t) q taken)
    where
      go : (x : Result Interned Stop) → Taken limits job work after rows at t x → Turned limits place job work answers rows answered at after answers (kept_turn answered x)
      go (Err s) k = halted limits place (told g) answers answered s k.memory_is (k.code_is ∙ rw (first_test e))
      go (Ok (N.Found m)) k =
          let there = found_was _ _ _ _ _ k.answer_is in
          unanswered limits place (told g) answers answered (k.code_is ∙ rw (first_test e)) (k.memory_is ∙ put_row true there) k.store k.listed_is
          (term_origins after m true there k.offsets_are) (sym (answers_are (told g) answers answered)) (counts true there)
      go (Ok (N.New m)) k =
          let there = new_was _ _ _ _ _ k.answer_is in
          unanswered limits place (told g) answers answered (k.code_is ∙ rw (first_test e)) (k.memory_is ∙ put_row false there) k.store k.listed_is
          (term_origins after m false there k.offsets_are) (sym (answers_are (told g) answers answered)) (counts false there)

-- ---- a back
module _ (limits : Limits) (place : ℕ) {job work : Bytes} {rows at n : ℕ} (g : Reading job work rows at (I.Back n)) (answers : Bytes) (answered : ℕ) where
  -- its count is too low
  pub back_low : n < first_terms → Turned limits place job work answers rows answered at work answers (Err S.NoBack)
  back_low h = stopped limits place (told g) answers answered S.NoBack (rw (lt-leb first_terms n h))

  -- its count is too high
  pub back_high : first_terms ≤ n → rows + first_terms < n → Turned limits place job work answers rows answered at work answers (Err S.NoBack)
  back_high h k =
      let c = g.store.count in
      stopped limits place (told g) answers answered S.NoBack (rw (le-leb first_terms n h, lt-leb n (length (listed job work rows)) (omega arith)))

  back_origins : {after : Bytes} → first_terms ≤ n → CutBack job work after rows n → origins job after (n - first_terms) ≡ origins_at job work rows at
  unfolding origins
  back_origins h b =
      let z : n ≡ suc (suc (n - first_terms)) = omega arith in
      ap (λ (os : List ℕ). 0 ∷ 0 ∷ map suc os) b.offsets_are
      ∙ ap (λ (os : List ℕ). 0 ∷ 0 ∷ os) (map_take suc (n - first_terms) (offsets (link_size job) work rows))
      ∙ ap (λ (i : ℕ). take i (origins job work rows)) (sym z) ∙ origins_are (told g) answers answered

  -- the list is cut back
  pub back_turned : {after : Bytes} → first_terms ≤ n → n ≤ rows + first_terms → CutBack job work after rows n
      → Turned limits place job work answers rows answered at after answers (Ok (turn answered (n - first_terms) 0))
  back_turned h k b =
      let c = g.store.count in
      unanswered limits place (told g) answers answered (rw (le-leb first_terms n h, le-leb n (length (listed job work rows)) (omega arith)))
      (b.memory_is ∙ memory_same (told g) answers answered) b.store
      (b.listed_is ∙ feed_is (told g) answers answered) (back_origins h b) (sym (answers_are (told g) answers answered)) (repeats_are (told g) answers answered)

-- ---- a step of either kind: its answer is written
module _ (limits : Limits) (place : ℕ) {job work : Bytes} {rows at : ℕ} {item : R.Item} (g : Told job work rows at item) (answers : Bytes) (answered : ℕ) where
  answering : {a : Answer} {after : Bytes} → 0 ≡ code limits place g answers answered → memory_item job work rows at item ≡ work
      → feed_item (listed job work rows) (record_at job at) item ≡ listed job work rows → origins_item (origins job work rows) (listed job work rows) at (record_at job at) item ≡ origins job work rows
      → repeat_item (listed job work rows) (record_at job at) item ≡ 0
      → item_answers (earlier_in job work answers rows answered) (listed job work rows) item ≡ a ∷ []
      → after ≡ with_notes (number_length job) answers answered at (a ∷ []) → {u : Turn} → u ≡ turn (answered + 1) rows 0
      → Turned limits place job work answers rows answered at work after (Ok u)
  answering {a} {after} e m l o q one wrote d =
      let told : answers_at job work answers rows answered at ≡ a ∷ [] = sym (answers_are g answers answered) ∙ one in
      subst (λ (t : Turn). Turned limits place job work answers rows answered at work after (Ok t)) (sym d)
      (record {
        code_is = e ∙ fault_is limits place g answers answered;
        memory_is = sym m ∙ memory_same g answers answered;
        store = g.store;
        listed_is = sym l ∙ feed_is g answers answered;
        origins_are = sym o ∙ origins_are g answers answered;
        repeats_is = sym q ∙ repeats_are g answers answered;
        answers_is = sym (ap (λ (xs : List Answer). answered + length xs) told);
        written_is = wrote ∙ sym (ap (with_notes (number_length job) answers answered at) told);
      })

-- ---- a step
module _ (limits : Limits) (place : ℕ) {job work : Bytes} {rows at rule : ℕ} {literals : Args} (g : Reading job work rows at (I.Step rule literals)) (answers : Bytes) (answered : ℕ) where
  -- its tests, where the rows say how many terms are kept
  abbrev step_tested : ℕ
  step_tested = first_fault (step_tests (number_length job) (rows + first_terms) (length answers) answered (is_some (rule_at rule)) (words_in job literals))

  same_code : step_tested ≡ code limits place (told g) answers answered
  same_code =
      let n = g.store.count in
      let e : rows + first_terms ≡ length (listed job work rows) = omega arith in
      ap (λ (k : ℕ). first_fault (step_tests (number_length job) k (length answers) answered (is_some (rule_at rule)) (words_in job literals))) e

  -- a test fails
  pub step_stopped : (s : Stop) → stop_code s ≡ step_tested → Turned limits place job work answers rows answered at work answers (Err s)
  step_stopped s f = stopped limits place (told g) answers answered s (f ∙ same_code)

  pub step_unkept : all_below (rows + first_terms) (words_in job literals) ≡ false → Turned limits place job work answers rows answered at work answers (Err S.NoTerm)
  step_unkept a = step_stopped S.NoTerm (fault_6 (number_length job) (rows + first_terms) (length answers) answered (is_some (rule_at rule)) (words_in job literals) a)

  module _ (a : all_below (rows + first_terms) (words_in job literals) ≡ true) where
    pub step_unruled : is_some (rule_at rule) ≡ false → Turned limits place job work answers rows answered at work answers (Err S.NoRule)
    step_unruled k = step_stopped S.NoRule (fault_9 (number_length job) (rows + first_terms) (length answers) answered (is_some (rule_at rule)) (words_in job literals) a k)

    module _ (k : is_some (rule_at rule) ≡ true) {A : Type 0} {q : Result A Stop} (r : code_in q ≡ cond (leb (answer_bytes (number_length job) * suc answered) (length answers)) 0 19) where
      step_room : {c : Result A Stop} → q ≡ c → code_in c ≡ step_tested
      step_room e = fault_room (number_length job) (rows + first_terms) (length answers) answered (is_some (rule_at rule)) (words_in job literals) a k (sym (ap code_in e) ∙ r)

      pub step_full : {s : Stop} → q ≡ Err s → Turned limits place job work answers rows answered at work answers (Err s)
      step_full {s} e = step_stopped s (step_room e)

      pub step_free : {x : A} → q ≡ Ok x → 0 ≡ step_tested
      step_free e = step_room e

  -- all tests pass: the literals are kept, there is such a rule, and there is room for the answer
  module _ (f : 0 ≡ step_tested) where
    pub step_right : StepPassed (number_length job) (length answers) (listed job work rows) answered rule (words_in job literals)
    step_right = step_passed place (number_length job) limits (length work) (length answers) (listed job work rows) answered (record_at job at) rule (words_in job literals) (sym (f ∙ same_code))

    -- its answer is written
    pub step_turned : {by : Rule} → rule_at rule ≡ some by → (reply : Reply) {after : Bytes}
        → given rule reply ≡ answer_to rule by (map (tree_at (listed job work rows)) (words_in job literals))
        → after ≡ with_notes (number_length job) answers answered at (given rule reply ∷ []) → {u : Turn} → u ≡ turn (answered + 1) rows 0 → Turned limits place job work answers rows answered at work after (Ok u)
    step_turned {by} known reply {after} says wrote d =
        let p = step_right in
        let ts = map (tree_at (listed job work rows)) (words_in job literals) in
        let same : p.rule ≡ by = some_inj p.rule by (sym p.rule_is ∙ known) in
        answering limits place (told g) answers answered (f ∙ same_code) refl refl refl refl
        (step_answer (number_length job) (length answers) (listed job work rows) answered rule (words_in job literals) p ∙ ap (λ (a : Answer). a ∷ []) (ap (λ (r : Rule). answer_to rule r ts) same ∙ sym says))
        wrote d

-- ---- a chain
-- an accepted chain has two sides
joined_depth : (by : ChainRule) (q : Option (List T.Term)) (t : T.Term) → accepted (joined by q t) ≡ true → equation_depth t ≡ right_depth t
unfolding chain_verdict
joined_depth by none t a = absurd (let z : ◌≡◌ {A = ℕ} 0 1 = cc in omega arith)
joined_depth by (some ts) t a = accepted_depth t (λ l r. form (collect (map sides ts)) (λ ps. cond (joins by ps l r) held wrong_form)) a

-- its verdict, by the terms that were read
pub verdict_told : (t : Terms) {job work : Bytes} {rows : ℕ} → Holds t job work rows → (answers : Bytes) (answered : ℕ) (premises : Args) (literal : ℕ) (by : ChainRule)
    → joined by (premises_at (earlier_in t.job.now t.work.now answers t.rows answered) (kept_terms t) (words_in t.job.now premises)) (kept_term t literal)
    ≡ joined by (premises_at (earlier_in job work answers rows answered) (listed job work rows) (words_in job premises)) (tree_at (listed job work rows) literal)
verdict_told t h answers answered premises literal by = rw (h.job_is, h.work_is, h.rows_are) refl

-- the terms of a store that was taken up
pub terms_hold : (k : Kept) (t : Terms) {job work : Bytes} {rows : ℕ} → Finds k.lookup job work rows → Reads k t → Holds t job work rows
terms_hold k t f h = record { job_is = h.job_is ∙ f.job_is; work_is = h.work_is ∙ f.work_is; rows_are = h.rows_are ∙ f.rows_are }

module _ (limits : Limits) (place : ℕ) {job work : Bytes} {rows at rule literal : ℕ} {premises : Args} (g : Reading job work rows at (I.Chain rule premises literal)) (answers : Bytes) (answered : ℕ) where
  -- its tests, where the rows say how many terms are kept
  abbrev chain_tested : ℕ
  chain_tested = first_fault (step_tests (number_length job) (rows + first_terms) (length answers) answered (is_some (chain_rule_at rule)) (literal ∷ []))

  chain_same : chain_tested ≡ code limits place (told g) answers answered
  chain_same =
      let n = g.store.count in
      let e : rows + first_terms ≡ length (listed job work rows) = omega arith in
      ap (λ (k : ℕ). first_fault (step_tests (number_length job) k (length answers) answered (is_some (chain_rule_at rule)) (literal ∷ []))) e

  -- a test fails
  pub chain_stopped : (s : Stop) → stop_code s ≡ chain_tested → Turned limits place job work answers rows answered at work answers (Err s)
  chain_stopped s f = stopped limits place (told g) answers answered s (f ∙ chain_same)

  pub chain_unkept : rows + first_terms ≤ literal → Turned limits place job work answers rows answered at work answers (Err S.NoTerm)
  chain_unkept h =
      chain_stopped S.NoTerm (fault_6 (number_length job) (rows + first_terms) (length answers) answered (is_some (chain_rule_at rule)) (literal ∷ []) (one_gone (rows + first_terms) literal h))

  module _ (h : literal < rows + first_terms) where
    pub chain_unruled : is_some (chain_rule_at rule) ≡ false → Turned limits place job work answers rows answered at work answers (Err S.NoRule)
    chain_unruled k =
        chain_stopped S.NoRule (fault_9 (number_length job) (rows + first_terms) (length answers) answered (is_some (chain_rule_at rule)) (literal ∷ []) (one_kept (rows + first_terms) literal h) k)

    module _ (k : is_some (chain_rule_at rule) ≡ true) {A : Type 0} {q : Result A Stop} (r : code_in q ≡ cond (leb (answer_bytes (number_length job) * suc answered) (length answers)) 0 19) where
      chain_room : {c : Result A Stop} → q ≡ c → code_in c ≡ chain_tested
      chain_room e =
          fault_room (number_length job) (rows + first_terms) (length answers) answered (is_some (chain_rule_at rule)) (literal ∷ []) (one_kept (rows + first_terms) literal h) k
          (sym (ap code_in e) ∙ r)

      pub chain_full : {s : Stop} → q ≡ Err s → Turned limits place job work answers rows answered at work answers (Err s)
      chain_full {s} e = chain_stopped s (chain_room e)

      pub chain_free : {x : A} → q ≡ Ok x → 0 ≡ chain_tested
      chain_free e = chain_room e

  -- all tests pass: there is such a rule, the literal is kept, and there is room for the answer
  module _ (f : 0 ≡ chain_tested) where
    pub chain_right : ChainPassed (number_length job) (length answers) (listed job work rows) answered rule literal
    chain_right = chain_passed place (number_length job) limits (length work) (length answers) (listed job work rows) answered (record_at job at) rule (words_in job premises) literal (sym (f ∙ chain_same))

    -- its answer is written
    pub chain_turned : {by : ChainRule} → chain_rule_at rule ≡ some by → {v : Said} {reply : Reply} {after : Bytes}
        → v ≡ joined by (premises_at (earlier_in job work answers rows answered) (listed job work rows) (words_in job premises)) (tree_at (listed job work rows) literal)
        → Judged v (tree_at (listed job work rows) literal) reply
        → after ≡ with_notes (number_length job) answers answered at (given rule reply ∷ []) → {u : Turn} → u ≡ turn (answered + 1) rows 0 → Turned limits place job work answers rows answered at work after (Ok u)
    chain_turned {by} known {v} {reply} {after} e j wrote o =
        let p = chain_right in
        let q = premises_at (earlier_in job work answers rows answered) (listed job work rows) (words_in job premises) in
        let t = tree_at (listed job work rows) literal in
        let same : p.rule ≡ by = some_inj p.rule by (sym p.rule_is ∙ known) in
        let said : v ≡ joined p.rule q t = e ∙ ap (λ (x : ChainRule). joined x q t) (sym same) in
        answering limits place (told g) answers answered (f ∙ chain_same) refl refl refl refl
        (chain_answer (number_length job) (earlier_in job work answers rows answered) (length answers) (listed job work rows) answered rule literal (words_in job premises) p
        ∙ ap (λ (a : Answer). a ∷ []) (sym (judged_is rule j (λ a. joined_depth p.rule q t (ap accepted (sym said) ∙ a)) ∙ ap (λ (w : Said). judged rule w t) said)))
        wrote o
