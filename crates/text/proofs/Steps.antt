-- The job that is written has one step for each step line, in order, whose literal is that line's term.
use mathlib.Core.Path.{◌≡◌, refl, sym, ap, ap₂, subst, ◌∙◌}
use mathlib.Core.Bool.{Bool, true, false, ◌&&◌, not, cond}
use mathlib.Core.List.{List, [], ◌∷◌, ◌++◌, foldl, append_assoc, append-nil}
use Rattle.std.specs.Prelude.{Option, None as none, Some as some}
use Prim.Native.Nat.{ℕ, suc, ◌+◌, ◌<◌, ◌≤◌}
use native.Mathlib.Omega.{arith}
use lib.Dec.{leb, ltb}
use lib.ListN.{length, take, length-append}
use Rattle.std.specs.Prelude.{slice_get as get_elem?}
use lib.Seq.{take-append-le, take_all}
use borrow.Author.Tests.{ltb-true}
use Rattle.theory.specs.Limit.{number_bytes}
use Rattle.theory.specs.Term.{Term, node, nil, same_numbers}
use Rattle.theory.specs.Optional.{either, is_some}
use Rattle.theory.specs.RuleTable.{Rule}
use Rattle.theory.specs.Record.{Bytes, records_of, cut, kind_of, step_kind, long_kind, Item, step, read, is_step, step_count, number_length}
use Rattle.theory.specs.Plain.{Plain, start, feed, feed_item, at_place}
use Rattle.theory.proofs.Basics.{none_some, some_inj, foldl_append, get_elem_lt, get_elem_old, get_elem_seam, snoc_elim}
use Rattle.theory.proofs.Places.{at_place_is}
use Rattle.theory.proofs.Distinct.{start_well}
use Rattle.text.specs.Tokens.{ascii, left, right, end, word, after}
use Rattle.text.specs.Spelling.{Spelled, place_named, rule_names, rule_number}
use Rattle.text.specs.Reading.{bind, number_end, index, Declared, variable, find_name, first_word, is_symbol, reserved, Sorted, sort_in, declaration, Step, step_front, read_term, max_nesting, step_back}
use Rattle.text.specs.Writing.{Lone, Placed, words_bytes, step_record, kept, write, put_step}
use Rattle.text.specs.Convert as convert
use Rattle.text.specs.Convert.{lines, State, state, declare, take_step, take_line, Outcome, written, refused, convert_from}
use Rattle.text.specs.Claim.{declared_by, step_by, a_step, steps_in, steps_of, StepWritten, StepsWritten, WorkFree}
use Rattle.text.proofs.Records.{empty_clean, records_more, clean_more, short_more, kept_step, clean_ending}
use Rattle.text.proofs.Encoding.{record_kind, record_lone, step_says}
use Rattle.text.proofs.Listed.{Holds, Grows, count_append, Stood}
use Rattle.text.proofs.Placed.{write_sound}
use Rattle.text.proofs.Readable.{bound, guarded, AllFit, variable_writable, index_fits, read_fits}

-- ---- a step that is written stays
old_take : (m : ℕ) (xs ys : List Bytes) → m ≤ length xs → take m (xs ++ ys) ≡ take m xs
old_take m xs ys h = take-append-le m xs ys h

stays : {old new : Bytes} (more : List Bytes) → records_of new ≡ records_of old ++ more → number_length new ≡ number_length old → (k : ℕ) (s : Step) → StepWritten old k s → StepWritten new k s
stays {old} {new} more e same k s w =
    let l : w.m < length (records_of old) = get_elem_lt (records_of old) w.m w.bytes w.stands in
    let t : take w.m (records_of new) ≡ take w.m (records_of old) = ap (take w.m) e ∙ old_take w.m (records_of old) more (omega arith) in
    record {
      m = w.m;
      bytes = w.bytes;
      place = w.place;
      stands = ap (λ (rs : List Bytes). get_elem? rs w.m) e ∙ get_elem_old (records_of old) more w.m l ∙ w.stands;
      kth = ap₂ step_count same t ∙ w.kth;
      says = ap (λ (b : ℕ). read b w.bytes) same ∙ w.says;
      literal = ap₂ (λ (b : ℕ) (rs : List Bytes). at_place (foldl (feed b) start rs) w.place) same t ∙ w.literal;
    }

-- ---- between two lines
record Sofar (s : State) (steps : List Step) : Type 0 where
  list : Plain
  holds : Holds s.job list
  fits : AllFit s.declared
  few : length s.declared ≤ number_end
  counted : step_count number_bytes (records_of s.job) ≡ length steps
  each : (k : ℕ) (x : Step) → get_elem? steps k ≡ some x → StepWritten s.job k x

at_first : number_length [] ≡ number_bytes
unfolding number_length
at_first = refl

at_start : Sofar convert.start []
unfolding cut AllFit kept
at_start = record {
  list = start;
  holds = record { clean = empty_clean; short = at_first; list_is = refl; well = start_well; same = refl };
  fits = tt;
  few = omega arith;
  counted = refl;
  each = λ k x e. absurd (none_some x e);
}

-- the job has grown by terms
counted_on : {old new : Bytes} → Grows old new → step_count number_bytes (records_of new) ≡ step_count number_bytes (records_of old)
counted_on {old} {new} g = ap (step_count number_bytes) g.are ∙ count_append (records_of old) g.records ∙ (let z = g.no_steps in omega arith)

-- ---- a declaration
fit_more : (ds : List Declared) (d : Declared) → AllFit ds → ((n : ℕ) → d.width ≡ some n → n < number_end) → AllFit (ds ++ (d ∷ []))
unfolding AllFit
fit_more [] d a f = (f, tt)
fit_more (x ∷ ds) d a f = (a.0, fit_more ds d a.1 f)

sort_fits : (bs : Bytes) (s : Sorted) → sort_in bs ≡ some s → (n : ℕ) → s.width ≡ some n → n < number_end
unfolding sort_in
sort_fits bs s e n w = go (after (word (ascii "Bool")) bs) e
  where
    go : (q : Option Bytes)
        → either
        (bind (after left bs) (λ a. bind (after (word (ascii "_")) a) (λ b. bind (after (word (ascii "BitVec")) b) (λ c.
        bind (index c) (λ n. bind (after right n.rest) (λ rest. some (record { width = some n.value; rest = rest })))))))
        (λ rest. some (record { width = none; rest = rest }))
        q ≡ some s → n < number_end
    go (some rest) d = let f : none ≡ some n = ap (λ (x : Sorted). x.width) (some_inj _ s d) ∙ w in absurd (none_some n f)
    go none d =
        let a = bound (after left bs) _ s d in
        let b = bound (after (word (ascii "_")) a.given) _ s a.gives in
        let c = bound (after (word (ascii "BitVec")) b.given) _ s b.gives in
        let i = bound (index c.given) _ s c.gives in
        let f = bound (after right i.given.rest) _ s i.gives in
        let g : some i.given.value ≡ some n = ap (λ (x : Sorted). x.width) (some_inj _ s f.gives) ∙ w in
        subst (λ (x : ℕ). x < number_end) (some_inj _ n g) (index_fits c.given i.given i.was)

declared_fits : (bs : Bytes) (d : Declared) → declaration bs ≡ some d → (n : ℕ) → d.width ≡ some n → n < number_end
unfolding declaration
declared_fits bs d e n w =
    let a = bound (first_word bs) _ d e in
    let b = bound (sort_in a.given.rest) _ d a.gives in
    let c = bound (after right b.given.rest) _ d b.gives in
    let f = bound (after end c.given) _ d c.gives in
    let g = guarded (is_symbol a.given.name && not (reserved a.given.name)) _ d f.gives in
    sort_fits a.given.rest b.given b.was n (ap (λ (x : Declared). x.width) (some_inj _ d g.1) ∙ w)

refuses : {A : Type 0} (b : Bool) (p : Option A) (a : A) → cond b none p ≡ some a → p ≡ some a
refuses true p a e = absurd (none_some a e)
refuses false p a e = e

after_declare : (room : ℕ) {s : State} {steps : List Step} → Sofar s steps → (d : Declared) → ((n : ℕ) → d.width ≡ some n → n < number_end)
    → (t : State) → declare room s d ≡ some t → Sofar t steps × (t.declared ≡ s.declared ++ (d ∷ []))
unfolding declare
after_declare room {s} {steps} h d f t e =
    let n = length s.declared in
    let a = refuses s.begun _ t e in
    let b = refuses (is_some (find_name 0 d.name s.declared)) _ t a in
    let c = guarded (ltb n number_end) _ t b in
    let l : n < number_end = ltb-true n number_end c.0 in
    let g = bound (write (node (variable n d) nil) room s.job) _ t c.1 in
    let w = write_sound (node (variable n d) nil) (variable_writable n d l f) h.holds room g.given g.was in
    let ds = s.declared ++ (d ∷ []) in
    let ld : length ds ≡ n + 1 = length-append s.declared (d ∷ []) in
    let r : state ds false g.given.job ≡ t = some_inj _ t g.gives in
    let now : Sofar (state ds false g.given.job) steps = record {
      list = w.after;
      holds = w.holds;
      fits = fit_more s.declared d h.fits f;
      few = omega arith;
      counted = counted_on w.grows ∙ h.counted;
      each = λ k x q. stays {old = s.job} {new = g.given.job} w.grows.records w.grows.are (w.holds.short ∙ sym h.holds.short) k x (h.each k x q);
    } in
    (subst (λ (x : State). Sofar x steps) r now, sym (ap (λ (x : State). x.declared) r))

-- ---- a step
rule_low : (k : ℕ) (w : Bytes) (rs : List (Spelled Rule)) (n : ℕ) → place_named k w rs ≡ some n → n < k + length rs
rule_low k w [] n e = absurd (none_some n e)
rule_low k w (r ∷ rs) n e = go (same_numbers w r.name) (rule_low (suc k) w rs n) e
  where
    go : (b : Bool) → (place_named (suc k) w rs ≡ some n → n < suc k + length rs) → cond b (some k) (place_named (suc k) w rs) ≡ some n → n < k + suc (length rs)
    go true ih d = let q : k ≡ n = some_inj k n d in omega arith
    go false ih d = let q = ih d in omega arith

rule_fits : (bs : Bytes) (n : ℕ) → step_back bs ≡ some n → n < number_end
unfolding step_back rule_number
rule_fits bs n e =
    let a = bound (after right bs) _ n e in
    let b = bound (after (word (ascii ":rule")) a.given) _ n a.gives in
    let c = bound (first_word b.given) _ n b.gives in
    let d = bound (after right c.given.rest) _ n c.gives in
    let f = bound (after end d.given) _ n d.gives in
    let l : n < 1 + 23 = rule_low 1 c.given.name rule_names n f.gives in
    omega arith

-- the step after its literal
module _ {job : Bytes} {list : Plain} {p : Placed} {t : Term} (w : Stood job list p t) (rule : ℕ) (rl : rule < number_end) (room : ℕ) where
  after_step : number_length job ≡ number_bytes → (steps : List Step) → step_count number_bytes (records_of job) ≡ length steps → ((k : ℕ) (x : Step) → get_elem? steps k ≡ some x → StepWritten job k x)
      → (j : Bytes) → put_step room rule p ≡ some j
      → Holds j w.after × (step_count number_bytes (records_of j) ≡ length (steps ++ (a_step t rule ∷ [])))
      × ((k : ℕ) (x : Step) → get_elem? (steps ++ (a_step t rule ∷ [])) k ≡ some x → StepWritten j k x)
  unfolding put_step step_record feed
  after_step was steps c each j e =
      let g = guarded (ltb p.number number_end) _ j e in
      let a = guarded (leb _ room) _ j g.1 in
      let r = step_record rule p.number in
      let pl : p.number < number_end = ltb-true p.number number_end g.0 in
      let sz : 2 + 4 < number_end = omega arith in
      let lone : Lone r = record_lone step_kind (words_bytes (rule ∷ p.number ∷ [])) sz in
      let kd : kind_of r ≡ step_kind = record_kind step_kind (words_bytes (rule ∷ p.number ∷ [])) (omega arith) in
      let says : read number_bytes r ≡ step rule (p.number ∷ []) = step_says rule p.number rl pl in
      let h = w.holds in
      let q : p.job ++ r ≡ j = some_inj _ j a.1 in
      let more : records_of (p.job ++ r) ≡ records_of p.job ++ (r ∷ []) = records_more p.job r h.clean lone in
      let fed : feed number_bytes w.after r ≡ w.after = ap (feed_item w.after r) says in
      let m = length (records_of p.job) in
      let before : take m (records_of (p.job ++ r)) ≡ records_of p.job = ap (take m) more ∙ take-append-le m (records_of p.job) (r ∷ []) (omega arith) ∙ take_all m (records_of p.job) (omega arith) in
      let old : step_count number_bytes (records_of p.job) ≡ length steps = counted_on w.grows ∙ c in
      let one : step_count number_bytes (r ∷ []) ≡ 1 = ap (λ (i : Item). cond (is_step i) 1 0) says in
      let ls : length (steps ++ (a_step t rule ∷ [])) ≡ length steps + 1 = length-append steps (a_step t rule ∷ []) in
      let short : number_length (p.job ++ r) ≡ number_bytes = short_more p.job r h.clean (λ z. let y : step_kind ≡ long_kind = sym kd ∙ z in omega arith) h.short in
      let new : StepWritten (p.job ++ r) (length steps) (a_step t rule) = record {
        m = m;
        bytes = r;
        place = p.number;
        stands = ap (λ (rs : List Bytes). get_elem? rs m) more ∙ get_elem_seam (records_of p.job) r [];
        kth = ap₂ step_count short before ∙ old;
        says = ap (λ (b : ℕ). read b r) short ∙ says;
        literal = ap₂ (λ (b : ℕ) (rs : List Bytes). at_place (foldl (feed b) start rs) p.number) short before ∙ ap (λ (x : Plain). at_place x p.number) h.list_is
            ∙ at_place_is w.after p.number w.inside ∙ ap some w.tree;
      } in
      let ready : Holds (p.job ++ r) w.after = record {
        clean = clean_more p.job r h.clean lone;
        short = short;
        list_is = ap (foldl (feed number_bytes) start) more ∙ foldl_append (feed number_bytes) start (records_of p.job) (r ∷ []) ∙ ap (λ (x : Plain). feed number_bytes x r) h.list_is ∙ fed;
        well = h.well;
        same = kept_step p.job r h.clean lone kd ∙ h.same;
      } in (
        subst (λ (x : Bytes). Holds x w.after) q ready,
        ap (λ (x : Bytes). step_count number_bytes (records_of x)) (sym q) ∙ ap (step_count number_bytes) more ∙ count_append (records_of p.job) (r ∷ []) ∙ omega arith,
        λ k x d. subst (λ (y : Bytes). StepWritten y k x) q (snoc_elim steps (a_step t rule) k x d
            (λ o. stays {old = p.job} {new = p.job ++ r} (r ∷ []) more (short ∙ sym h.short) k x (stays {old = job} {new = p.job} w.grows.records w.grows.are (h.short ∙ sym was) k x (each k x o)))
            (λ i z. subst (StepWritten (p.job ++ r) k) z (subst (λ (y : ℕ). StepWritten (p.job ++ r) y (a_step t rule)) (sym i) new))),
      )

after_take_step : (room : ℕ) {s : State} {steps : List Step} → Sofar s steps → (bs : Bytes) (t : State) → take_step room s bs ≡ some t
    → (x : Step) × (bind (step_front bs) (λ c. bind (read_term max_nesting s.declared c) (λ r. bind (step_back r.rest) (λ n. some (a_step r.term n)))) ≡ some x)
    × Sofar t (steps ++ (x ∷ [])) × (t.declared ≡ s.declared)
unfolding take_step
after_take_step room {s} {steps} h bs t e =
    let a = bound (step_front bs) _ t e in
    let b = bound (read_term max_nesting s.declared a.given) _ t a.gives in
    let c = bound (step_back b.given.rest) _ t b.gives in
    let d = bound (write b.given.term room s.job) _ t c.gives in
    let f = bound (put_step room c.given d.given) _ t d.gives in
    let w = write_sound b.given.term (read_fits s.declared h.fits h.few max_nesting a.given b.given b.was) h.holds room d.given d.was in
    let z = after_step w c.given (rule_fits b.given.rest c.given c.was) room h.holds.short steps h.counted h.each f.given f.was in
    let x = a_step b.given.term c.given in
    let r : state s.declared true f.given ≡ t = some_inj _ t f.gives in
    let now : Sofar (state s.declared true f.given) (steps ++ (x ∷ [])) = record {
      list = w.after;
      holds = z.0;
      fits = h.fits;
      few = h.few;
      counted = z.1;
      each = z.2;
    } in (
      x,
      again (step_front bs) _ a.given a.was (again (read_term max_nesting s.declared a.given) _ b.given b.was (again (step_back b.given.rest) _ c.given c.was refl)),
      subst (λ (y : State). Sofar y (steps ++ (x ∷ []))) r now,
      sym (ap (λ (y : State). y.declared) r),
    )
  where
    again : {A B : Type 0} (p : Option A) (g : A → Option B) (v : A) {y : Option B} → p ≡ some v → g v ≡ y → bind p g ≡ y
    again p g v q k = ap (λ (o : Option _). bind o g) q ∙ k

-- ---- a line
-- a line adds its step, or a variable
record Taken (s t : State) (steps : List Step) (line : Bytes) : Type 0 where
  done : List Step
  sofar : Sofar t done
  leads : (ls : List Bytes) → done ++ steps_in t.declared ls ≡ steps ++ steps_in s.declared (line ∷ ls)

declared_leads : (s t : State) (steps : List Step) (line : Bytes) (d : Declared) → declared_by line ≡ some d → t.declared ≡ s.declared ++ (d ∷ [])
    → (ls : List Bytes) → steps ++ steps_in t.declared ls ≡ steps ++ steps_in s.declared (line ∷ ls)
unfolding steps_in
declared_leads s t steps line d e f ls =
    ap (λ (v : List Declared). steps ++ steps_in v ls) f
    ∙ sym (ap (λ (q : Option Declared). steps ++ elim q as (λ x. List Step) [
      | none ↦ either (steps_in s.declared ls) (λ x. x ∷ steps_in s.declared ls) (step_by s.declared line)
      | some y ↦ steps_in (s.declared ++ (y ∷ [])) ls
    ]) e)

step_leads : (s t : State) (steps : List Step) (line : Bytes) (x : Step) → declared_by line ≡ none → step_by s.declared line ≡ some x → t.declared ≡ s.declared
    → (ls : List Bytes) → (steps ++ (x ∷ [])) ++ steps_in t.declared ls ≡ steps ++ steps_in s.declared (line ∷ ls)
unfolding steps_in
step_leads s t steps line x e g f ls =
    ap (λ (v : List Declared). (steps ++ (x ∷ [])) ++ steps_in v ls) f
    ∙ append_assoc steps (x ∷ []) (steps_in s.declared ls)
    ∙ sym (ap₂ (λ (q : Option Declared) (p : Option Step). steps ++ elim q as (λ z. List Step) [
      | none ↦ either (steps_in s.declared ls) (λ y. y ∷ steps_in s.declared ls) p
      | some y ↦ steps_in (s.declared ++ (y ∷ [])) ls
    ]) e g)

after_line : (room : ℕ) {s : State} {steps : List Step} → Sofar s steps → (line : Bytes) (t : State) → take_line room s line ≡ some t → Taken s t steps line
unfolding take_line declared_by step_by
after_line room {s} {steps} h line t e =
    let a = bound (after left line) _ t e in
    by_word a.given a.was (after (word (ascii "declare-const")) a.given) refl a.gives
  where
    by_word : (b : Bytes) → after left line ≡ some b → (q : Option Bytes) → after (word (ascii "declare-const")) b ≡ q
        → either (bind (after (word (ascii "step")) b) (take_step room s)) (λ c. bind (declaration c) (declare room s)) q ≡ some t → Taken s t steps line
    by_word b f (some c) g d =
        let m = bound (declaration c) (declare room s) t d in
        let z = after_declare room h m.given (declared_fits c m.given m.was) t m.gives in
        record {
          done = steps;
          sofar = z.0;
          leads = declared_leads s t steps line m.given
              (ap (λ (o : Option Bytes). bind o (λ x. bind (after (word (ascii "declare-const")) x) declaration)) f ∙ ap (λ (o : Option Bytes). bind o declaration) g ∙ m.was) z.1;
        }
    by_word b f none g d =
        let m = bound (after (word (ascii "step")) b) (take_step room s) t d in
        let z = after_take_step room h m.given t m.gives in
        record {
          done = steps ++ (z.0 ∷ []);
          sofar = z.2;
          leads = step_leads s t steps line z.0
              (ap (λ (o : Option Bytes). bind o (λ x. bind (after (word (ascii "declare-const")) x) declaration)) f ∙ ap (λ (o : Option Bytes). bind o declaration) g)
              (ap (λ (o : Option Bytes). bind o (λ x. bind (after (word (ascii "step")) x) (rest_of s.declared))) f
              ∙ ap (λ (o : Option Bytes). bind o (rest_of s.declared)) m.was ∙ z.1)
              z.3;
        }
      where
        rest_of : List Declared → Bytes → Option Step
        rest_of vars b = bind (step_front b) (λ c. bind (read_term max_nesting vars c) (λ r. bind (step_back r.rest) (λ n. some (a_step r.term n))))

-- ---- the text
all_lines : (room place : ℕ) (ls : List Bytes) {s : State} {steps : List Step} → Sofar s steps → (job : Bytes) → convert_from room place s ls ≡ written job
    → StepsWritten job (steps ++ steps_in s.declared ls)
unfolding convert_from steps_in
all_lines room place [] {s} {steps} h job e =
    let q : s.job ≡ job = cc in
    let r : steps ≡ steps ++ [] = sym (append-nil steps) in
    subst (StepsWritten job) r (subst (λ (x : Bytes). StepsWritten x steps) q (record {
      short = h.holds.short;
      whole = clean_ending s.job h.holds.clean;
      counted = ap (λ (b : ℕ). step_count b (records_of s.job)) h.holds.short ∙ h.counted;
      each = h.each;
    }))
all_lines room place (l ∷ ls) {s} {steps} h job e = go (take_line room s l) refl e (λ t steps k d. all_lines room (suc place) ls k job d)
  where
    go : (q : Option State) → take_line room s l ≡ q → elim q as (λ x. Outcome) [ none ↦ refused place | some t ↦ convert_from room (suc place) t ls ] ≡ written job
        → ((t : State) (done : List Step) → Sofar t done → convert_from room (suc place) t ls ≡ written job → StepsWritten job (done ++ steps_in t.declared ls))
        → StepsWritten job (steps ++ steps_in s.declared (l ∷ ls))
    go none f d ih = absurd (let z : ◌≡◌ {A = ℕ} 0 1 = cc in omega arith)
    go (some t) f d ih = let k = after_line room h l t f in subst (StepsWritten job) (k.leads ls) (ih t k.done k.sofar d)

-- THE STEPS OF THE TEXT ARE THE STEPS OF THE JOB
pub steps_written : (room : ℕ) (text job : Bytes) → convert.convert room text ≡ written job → StepsWritten job (steps_of text)
steps_written room text job e = all_lines room 1 (lines text) at_start job e

-- no definition of what is returned or written names the work memory
pub work_free : WorkFree
work_free text job work work' = (refl, refl)
