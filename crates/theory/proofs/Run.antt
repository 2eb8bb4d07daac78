-- What holds all through a run: the list is the plain list, every term on it has a sort, no record done has a fault, and each answer
-- is the answer to its step.
use mathlib.Core.Path.{◌≡◌, refl, sym, ap, ap₂, subst, subst₂, ◌∙◌}
use mathlib.Core.Bool.{Bool, true, false, ◌||◌, ◌&&◌, cond}
use mathlib.Core.List.{List, [], ◌∷◌, ◌++◌, map, foldl, append_assoc, append-nil}
use Rattle.std.specs.Prelude.{Option, None as none, Some as some}
use Prim.Native.Nat.{ℕ, zero, suc, ◌+◌, ◌*◌, ◌<◌, ◌≤◌}
use native.Mathlib.Nat.{suc-add}
use native.Mathlib.Numerals.{add-one}
use native.Mathlib.Omega.{arith}
use native.Mathlib.Decide.{ℕ_discrete, dec_le}
use lib.Dec.{T, leb, ltb, leb→le, le→leb, ltb→lt}
use lib.Ieee.Fits.{and_l, and_r}
use lib.ListN.{length, take, get_or, length-append}
use Rattle.std.specs.Prelude.{slice_get as get_elem?}
use lib.Seq.{take-append_seam, take-suc}
use Rattle.theory.specs.Limit.{Limits, capped, max_job, first_terms, answer_bytes}
use Rattle.theory.specs.Kind.{Op}
use Rattle.theory.specs.Term.{Term, fold}
use Rattle.theory.specs.Sort.{guard, good, sort_width, sort_of}
use Rattle.theory.specs.Optional.{is_some}
use Rattle.theory.specs.RuleTable.{Rule, rule_at, ChainRule, chain_rule_at}
use Rattle.theory.specs.Record.{Bytes, records_of, ending, Item, term, step, chain, back, unknown, misfit, read, is_step, step_count, number_length}
use Rattle.theory.specs.Plain.{Entry, entry, Plain, start, at_place, at_places, term_of, has, put, feed_item, feed, repeat_of, plain_after}
use Rattle.theory.specs.Codes.{first_fault, all_below, well_sorted, room, tests, fault}
use Rattle.theory.specs.Answer.{Answer}
use Rattle.theory.specs.Chain.{Earlier, premises_at, joined}
use Rattle.theory.specs.Job.{answer_to, judged, reply, chain_reply, item_answers, answers_to, recall, Outcome, outcome, run_from, run}
use Rattle.theory.specs.Claim.{repeats_from}
pub use Rattle.theory.specs.Listed.{AllGood}
use Rattle.theory.specs.Demands.{Stops, too_long, at_record, at_end, earlier_from, earlier_after}
use Rattle.theory.proofs.Basics.{none_some, some_inj, taken, foldl_append, get_elem_of, get_elem_lt, get_elem_seam, snoc_elim}
use Rattle.theory.proofs.Stops.{Stop, fault_code, ending_code}
use Rattle.theory.proofs.Places.{tree_at, tree_of, at_place_is, at_places_are, term_of_is}

step_count_append : (b : ℕ) (xs : List Bytes) (r : Bytes) → step_count b (xs ++ (r ∷ [])) ≡ step_count b xs + cond (is_step (read b r)) 1 0
step_count_append b [] r = go (is_step (read b r))
  where
    go : (t : Bool) → ◌≡◌ {A = ℕ} (cond t (suc 0) 0) (0 + cond t 1 0)
    go true = refl
    go false = refl
step_count_append b (x ∷ xs) r = go (is_step (read b x)) (step_count_append b xs r)
  where
    go : (t : Bool) → step_count b (xs ++ (r ∷ [])) ≡ step_count b xs + cond (is_step (read b r)) 1 0
        → cond t (suc (step_count b (xs ++ (r ∷ [])))) (step_count b (xs ++ (r ∷ []))) ≡ cond t (suc (step_count b xs)) (step_count b xs) + cond (is_step (read b r)) 1 0
    go true e = ap suc e ∙ sym (suc-add (step_count b xs) (cond (is_step (read b r)) 1 0))
    go false e = e

-- ---- every term of the list has a sort
pub good_snoc : (list : Plain) (e : Entry) → AllGood list → T (good (sort_of e.tree)) → AllGood (list ++ (e ∷ []))
good_snoc [] e h g = (g, tt)
good_snoc (d ∷ list) e h g = (h.0, good_snoc list e h.1 g)

pub good_take : (n : ℕ) (list : Plain) → AllGood list → AllGood (take n list)
good_take zero list h = tt
good_take (suc n) [] h = tt
good_take (suc n) (e ∷ list) h = (h.0, good_take n list h.1)

pub good_at : (list : Plain) (i : ℕ) → AllGood list → i < length list → T (good (sort_of (tree_at list i)))
good_at [] i h l = absurd (omega arith)
good_at (e ∷ list) zero h l = h.0
good_at (e ∷ list) (suc i) h l = good_at list i h.1 (omega arith)

pub start_good : AllGood start
unfolding fold guard
start_good = (tt, (tt, tt))

-- ---- a record with no fault
-- what its tests say
pub record TermPassed (b : ℕ) (limits : Limits) (work : ℕ) (list : Plain) (r : Bytes) (o : Op) (ks : List ℕ) : Type 0 where
  pub below : T (all_below (length list) ks)
  pub sorted : T (good (sort_of (tree_of list o ks)))
  pub narrow : T (leb (sort_width (sort_of (tree_of list o ks))) (capped b limits).width)
  pub roomy : T (has list r || room b (capped b limits) work list)

pub term_passed : (place b : ℕ) (limits : Limits) (work space : ℕ) (list : Plain) (answered : ℕ) (r : Bytes) (o : Op) (ks : List ℕ)
    → first_fault (tests place b limits work space list answered r (term o ks)) ≡ 0 → TermPassed b limits work list r o ks
term_passed place b limits work space list answered r o ks e =
    let w = well_sorted (capped b limits) (term_of list o ks) in
    let m = has list r || room b (capped b limits) work list in
    let a = taken (all_below (length list) ks) 5 (cond w (cond m 0 8) 7) e in
    let c = taken w 6 (cond m 0 8) a.1 in
    let fits = subst (λ (q : Option Term). T (well_sorted (capped b limits) q)) (term_of_is list o ks a.0) c.0 in
    record {
      below = a.0;
      sorted = and_l (good (sort_of (tree_of list o ks))) _ fits;
      narrow = and_r (good (sort_of (tree_of list o ks))) _ fits;
      roomy = (taken m 7 0 c.1).0;
    }

pub record StepPassed (b space : ℕ) (list : Plain) (answered n : ℕ) (ks : List ℕ) : Type 0 where
  pub below : T (all_below (length list) ks)
  pub rule : Rule
  pub rule_is : rule_at n ≡ some rule
  pub roomy : answer_bytes b * suc answered ≤ space

there : {A : Type 0} (q : Option A) → T (is_some q) → (a : A) × (q ≡ some a)
there none h = absurd h
there (some a) h = (a, refl)

pub step_passed : (place b : ℕ) (limits : Limits) (work space : ℕ) (list : Plain) (answered : ℕ) (r : Bytes) (n : ℕ) (ks : List ℕ)
    → first_fault (tests place b limits work space list answered r (step n ks)) ≡ 0 → StepPassed b space list answered n ks
step_passed place b limits work space list answered r n ks e =
    let m = leb (answer_bytes b * suc answered) space in
    let a = taken (all_below (length list) ks) 5 (cond (is_some (rule_at n)) (cond m 0 19) 9) e in
    let c = taken (is_some (rule_at n)) 8 (cond m 0 19) a.1 in
    let q = there (rule_at n) c.0 in
    record { below = a.0; rule = q.0; rule_is = q.1; roomy = leb→le (answer_bytes b * suc answered) space (taken m 18 0 c.1).0 }

pub record ChainPassed (b space : ℕ) (list : Plain) (answered n k : ℕ) : Type 0 where
  pub below : k < length list
  pub rule : ChainRule
  pub rule_is : chain_rule_at n ≡ some rule
  pub roomy : answer_bytes b * suc answered ≤ space

pub chain_passed : (place b : ℕ) (limits : Limits) (work space : ℕ) (list : Plain) (answered : ℕ) (r : Bytes) (n : ℕ) (ps : List ℕ) (k : ℕ)
    → first_fault (tests place b limits work space list answered r (chain n ps k)) ≡ 0 → ChainPassed b space list answered n k
chain_passed place b limits work space list answered r n ps k e =
    let m = leb (answer_bytes b * suc answered) space in
    let a = taken (all_below (length list) (k ∷ [])) 5 (cond (is_some (chain_rule_at n)) (cond m 0 19) 9) e in
    let c = taken (is_some (chain_rule_at n)) 8 (cond m 0 19) a.1 in
    let q = there (chain_rule_at n) c.0 in
    record {
      below = ltb→lt k (length list) (and_l (ltb k (length list)) _ a.0);
      rule = q.0;
      rule_is = q.1;
      roomy = leb→le (answer_bytes b * suc answered) space (taken m 18 0 c.1).0;
    }

-- the answer to a step that passed
pub step_answer : (b space : ℕ) (list : Plain) (answered n : ℕ) (ks : List ℕ) (p : StepPassed b space list answered n ks)
    → reply n (rule_at n) (at_places list ks) ≡ answer_to n p.rule (map (tree_at list) ks) ∷ []
step_answer b space list answered n ks p = ap₂ (reply n) p.rule_is (at_places_are list ks p.below)

-- the answer to a chain that passed
pub chain_answer : (b : ℕ) (earlier : Earlier) (space : ℕ) (list : Plain) (answered n k : ℕ) (ps : List ℕ) (p : ChainPassed b space list answered n k)
    → chain_reply n (chain_rule_at n) (premises_at earlier list ps) (at_place list k)
    ≡ judged n (joined p.rule (premises_at earlier list ps) (tree_at list k)) (tree_at list k) ∷ []
chain_answer b earlier space list answered n k ps p =
    ap₂ (λ (rule : Option ChainRule) (claim : Option Term). chain_reply n rule (premises_at earlier list ps) claim) p.rule_is (at_place_is list k p.below)

-- an answer to a step of either kind that passed
pub data AnswerOf (earlier : Earlier) (list : Plain) : Item → Answer → Type 0 where
  to_step : (n : ℕ) (rule : Rule) (ks : List ℕ) → rule_at n ≡ some rule → T (all_below (length list) ks)
      → AnswerOf earlier list (step n ks) (answer_to n rule (map (tree_at list) ks))
  to_chain : (n : ℕ) (rule : ChainRule) (ps : List ℕ) (k : ℕ) → chain_rule_at n ≡ some rule → k < length list
      → AnswerOf earlier list (chain n ps k) (judged n (joined rule (premises_at earlier list ps) (tree_at list k)) (tree_at list k))

pub answered_step : {earlier : Earlier} {list : Plain} {i : Item} {a : Answer} → AnswerOf earlier list i a → is_step i ≡ true
answered_step (to_step n rule ks e b) = refl
answered_step (to_chain n rule ps k e b) = refl

-- a new term at the end, or nothing new
pub put_cases : (P : Plain → Type 0) (list : Plain) (r : Bytes) (t : Term) → P list → ((T (has list r) → ⊥) → P (list ++ (entry t r ∷ []))) → P (put list r (some t))
put_cases P list r t old new = go (has list r) new
  where
    go : (b : Bool) → ((T b → ⊥) → P (list ++ (entry t r ∷ []))) → P (cond b list (list ++ (entry t r ∷ [])))
    go true f = old
    go false f = f (λ z. z)

-- what a record without a fault makes of the list: a property that a new term and a shorter list keep
pub fed : (P : Plain → Type 0) (place b : ℕ) (limits : Limits) (work space : ℕ) (list : Plain) (answered : ℕ) (r : Bytes) → fault place b limits work space list answered r ≡ 0 → P list
    → ((o : Op) (ks : List ℕ) → read b r ≡ term o ks → TermPassed b limits work list r o ks → (T (has list r) → ⊥) → P (list ++ (entry (tree_of list o ks) r ∷ [])))
    → ((n : ℕ) → first_terms ≤ n → n ≤ length list → P (take n list)) → P (feed b list r)
unfolding feed fault
fed P place b limits work space list answered r e old new shorter = go (read b r) e refl
  where
    go : (i : Item) → first_fault (tests place b limits work space list answered r i) ≡ 0 → read b r ≡ i → P (feed_item list r i)
    go (term o ks) f d =
        let p = term_passed place b limits work space list answered r o ks f in
        subst (λ (q : Option Term). P (put list r q)) (sym (term_of_is list o ks p.below))
        (put_cases P list r (tree_of list o ks) old (new o ks d p))
    go (step n ks) f d = old
    go (chain n ps k) f d = old
    go (back n) f d =
        let t = (taken (leb first_terms n && leb n (length list)) 17 0 f).0 in
        shorter n (leb→le first_terms n (and_l (leb first_terms n) _ t)) (leb→le n (length list) (and_r (leb first_terms n) _ t))
    go unknown f d = old
    go misfit f d = old

pub feed_good : (place b : ℕ) (limits : Limits) (work space : ℕ) (list : Plain) (answered : ℕ) (r : Bytes) → fault place b limits work space list answered r ≡ 0 → AllGood list → AllGood (feed b list r)
feed_good place b limits work space list answered r e h =
    fed AllGood place b limits work space list answered r e h
    (λ o ks d p n. good_snoc list (entry (tree_of list o ks) r) h p.sorted) (λ n x y. good_take n list h)

-- the answers to a record without a fault: one to a step, none to any other
pub answers_cases : (P : List Answer → Type 0) (place b : ℕ) (limits : Limits) (work space : ℕ) (earlier : Earlier) (list : Plain) (answered : ℕ) (r : Bytes) → fault place b limits work space list answered r ≡ 0
    → ((a : Answer) → AnswerOf earlier list (read b r) a → P (a ∷ []))
    → (is_step (read b r) ≡ false → P []) → P (answers_to b earlier list r)
unfolding answers_to fault
answers_cases P place b limits work space earlier list answered r e one other = go (read b r) e refl
  where
    go : (i : Item) → first_fault (tests place b limits work space list answered r i) ≡ 0 → read b r ≡ i → P (item_answers earlier list i)
    go (step n ks) f d =
        let p = step_passed place b limits work space list answered r n ks f in
        let a = answer_to n p.rule (map (tree_at list) ks) in
        subst P (sym (step_answer b space list answered n ks p))
        (one a (subst (λ (i : Item). AnswerOf earlier list i a) (sym d) (to_step n p.rule ks p.rule_is p.below)))
    go (chain n ps k) f d =
        let p = chain_passed place b limits work space list answered r n ps k f in
        let a = judged n (joined p.rule (premises_at earlier list ps) (tree_at list k)) (tree_at list k) in
        subst P (sym (chain_answer b earlier space list answered n k ps p))
        (one a (subst (λ (i : Item). AnswerOf earlier list i a) (sym d) (to_chain n p.rule ps k p.rule_is p.below)))
    go (term o ks) f d = other (ap is_step d)
    go (back n) f d = other (ap is_step d)
    go unknown f d = other (ap is_step d)
    go misfit f d = other (ap is_step d)

-- ---- the earlier steps
pub earlier_snoc : (b : ℕ) (earlier : Earlier) (list : Plain) (rs : List Bytes) (r : Bytes)
    → earlier_from b earlier list (rs ++ (r ∷ [])) ≡ recall b (earlier_from b earlier list rs) (foldl (feed b) list rs) r
earlier_snoc b earlier list [] r = refl
earlier_snoc b earlier list (s ∷ rs) r = earlier_snoc b (recall b earlier list s) (feed b list s) rs r

-- ---- the repeats
pub repeats_snoc : (b : ℕ) (list : Plain) (rs : List Bytes) (r : Bytes) → repeats_from b list (rs ++ (r ∷ [])) ≡ repeats_from b list rs + repeat_of b (foldl (feed b) list rs) r
repeats_snoc b list [] r = omega arith
repeats_snoc b list (s ∷ rs) r = let e = repeats_snoc b (feed b list s) rs r in omega arith

module _ (limits : Limits) (job : Bytes) (work space : ℕ) where
  -- the bytes of a term's number
  abbrev b : ℕ
  b = number_length job

  -- answer k of the first `done` records is the answer to step k, from the plain list and the earlier steps just then
  pub record Answered (done k : ℕ) (a : Answer) : Type 0 where
    pub m : ℕ
    pub bytes : Bytes
    pub m_done : m < done
    pub stands : get_elem? (records_of job) m ≡ some bytes
    pub kth : step_count b (take m (records_of job)) ≡ k
    pub sorted : AllGood (plain_after m job)
    pub is : AnswerOf (earlier_after m job) (plain_after m job) (read b bytes) a

  -- record m, which is r, has no fault
  abbrev pub Passes : ℕ → Bytes → Type 0
  Passes m r = fault m b limits work space (plain_after m job) (step_count b (take m (records_of job))) r ≡ 0

  -- after the records `pre`
  pub record Good (pre : List Bytes) (earlier : Earlier) (list : Plain) (answers : List Answer) : Type 0 where
    pub plain : list ≡ foldl (feed b) start pre
    pub recalled : earlier ≡ earlier_from b [] start pre
    pub sorted : AllGood list
    pub counted : length answers ≡ step_count b pre
    pub exact : (k : ℕ) (a : Answer) → get_elem? answers k ≡ some a → Answered (length pre) k a
    pub passed : (m : ℕ) (r : Bytes) → m < length pre → get_elem? (records_of job) m ≡ some r → Passes m r

  later : (d d' k : ℕ) (a : Answer) → d ≤ d' → Answered d k a → Answered d' k a
  later d d' k a l h =
      let before = h.m_done in
      record {
        m = h.m;
        bytes = h.bytes;
        m_done = omega arith;
        stands = h.stands;
        kth = h.kth;
        sorted = h.sorted;
        is = h.is;
      }

  module _ (pre : List Bytes) (earlier : Earlier) (list : Plain) (answers : List Answer) (r : Bytes) (rs : List Bytes)
      (all : records_of job ≡ pre ++ (r ∷ rs)) (before : Good pre earlier list answers) (e : fault (length pre) b limits work space list (length answers) r ≡ 0) where
    so_far : take (length pre) (records_of job) ≡ pre
    so_far = ap (take (length pre)) all ∙ take-append_seam pre (r ∷ rs)

    plain_now : list ≡ plain_after (length pre) job
    plain_now = before.plain ∙ ap (foldl (feed b) start) (sym so_far)

    earlier_now : earlier ≡ earlier_after (length pre) job
    earlier_now = before.recalled ∙ ap (earlier_from b [] start) (sym so_far)

    stands_now : get_elem? (records_of job) (length pre) ≡ some r
    stands_now = ap (λ (l : List Bytes). get_elem? l (length pre)) all ∙ get_elem_seam pre r rs

    count_now : step_count b (take (length pre) (records_of job)) ≡ length answers
    count_now = ap (step_count b) so_far ∙ sym before.counted

    passes_now : Passes (length pre) r
    passes_now = subst₂ (λ (l : Plain) (k : ℕ). fault (length pre) b limits work space l k r ≡ 0) plain_now (sym count_now) e

    -- the step that comes now
    new_answer : (a : Answer) → AnswerOf earlier list (read b r) a → Answered (suc (length pre)) (length answers) a
    new_answer a h = record {
      m = length pre;
      bytes = r;
      m_done = omega arith;
      stands = stands_now;
      kth = count_now;
      sorted = subst AllGood plain_now before.sorted;
      is = subst₂ (λ (x : Earlier) (l : Plain). AnswerOf x l (read b r) a) earlier_now plain_now h;
    }

    after_exact : (k : ℕ) (a : Answer) → get_elem? (answers ++ answers_to b earlier list r) k ≡ some a → Answered (suc (length pre)) k a
    after_exact k a =
        answers_cases (λ (new : List Answer). get_elem? (answers ++ new) k ≡ some a → Answered (suc (length pre)) k a) (length pre) b limits work space earlier list (length answers) r e
        (λ x p g. snoc_elim answers x k a g
        (λ h. later (length pre) (suc (length pre)) k a (omega arith) (before.exact k a h))
        (λ i j. subst₂ (Answered (suc (length pre))) (sym i) j (new_answer x p)))
        (λ d g. later (length pre) (suc (length pre)) k a (omega arith)
        (before.exact k a (ap (λ (l : List Answer). get_elem? l k) (sym (append-nil answers)) ∙ g)))

    after_counted : length (answers ++ answers_to b earlier list r) ≡ step_count b (pre ++ (r ∷ []))
    after_counted =
        answers_cases (λ (new : List Answer). length (answers ++ new) ≡ step_count b (pre ++ (r ∷ []))) (length pre) b limits work space earlier list (length answers) r e
        (λ a p. length-append answers (a ∷ []) ∙ ap₂ ◌+◌ before.counted (ap (λ (x : Bool). cond x 1 0) (sym (answered_step p))) ∙ sym (step_count_append b pre r))
        (λ d. length-append answers [] ∙ ap₂ ◌+◌ before.counted (ap (λ (x : Bool). cond x 1 0) (sym d)) ∙ sym (step_count_append b pre r))

    after_passed : (m : ℕ) (s : Bytes) → m < suc (length pre) → get_elem? (records_of job) m ≡ some s → Passes m s
    after_passed m s l f = go (ℕ_discrete m (length pre))
      where
        go : Dec (m ≡ length pre) → Passes m s
        go (yes d) = subst₂ Passes (sym d) (some_inj r s (sym stands_now ∙ ap (get_elem? (records_of job)) (sym d) ∙ f)) passes_now
        go (no d) = before.passed m s (omega arith) f

    next : Good (pre ++ (r ∷ [])) (recall b earlier list r) (feed b list r) (answers ++ answers_to b earlier list r)
    next =
        let l : length (pre ++ (r ∷ [])) ≡ suc (length pre) = length-append pre (r ∷ []) ∙ add-one (length pre) in
        record {
          plain = ap (λ (p : Plain). feed b p r) before.plain ∙ sym (foldl_append (feed b) start pre (r ∷ []));
          recalled = ap₂ (λ (x : Earlier) (l : Plain). recall b x l r) before.recalled before.plain ∙ sym (earlier_snoc b [] start pre r);
          sorted = feed_good (length pre) b limits work space list (length answers) r e before.sorted;
          counted = after_counted;
          exact = λ k a f. subst (λ (n : ℕ). Answered n k a) (sym l) (after_exact k a f);
          passed = λ m s h f. after_passed m s (subst (λ (n : ℕ). m < n) l h) f;
        }

  -- what a run's outcome says of the job
  pub record Ran (o : Outcome) : Type 0 where
    pub stop_known : Stop o.stop
    pub short : (m : ℕ) → m < o.records → length job ≤ max_job
    pub within : o.records ≤ length (records_of job)
    pub terms_are : o.terms ≡ length (plain_after o.records job)
    pub repeats_are : o.repeats ≡ repeats_from b start (take o.records (records_of job))
    pub all_sorted : AllGood (plain_after o.records job)
    pub answers_are : length o.answers ≡ step_count b (take o.records (records_of job))
    pub all_passed : (m : ℕ) (r : Bytes) → m < o.records → get_elem? (records_of job) m ≡ some r → Passes m r
    pub exact_answers : (k : ℕ) (a : Answer) → get_elem? o.answers k ≡ some a → Answered o.records k a
    pub why : Stops limits job work space o.stop o.records

  stopped : (stop repeats : ℕ) (pre rs : List Bytes) → repeats ≡ repeats_from b start pre → (earlier : Earlier) (list : Plain) (answers : List Answer) → records_of job ≡ pre ++ rs → Good pre earlier list answers
      → ((m : ℕ) → m < length pre → length job ≤ max_job) → Stop stop → Stops limits job work space stop (length pre) → Ran (outcome stop (length pre) repeats answers list)
  stopped stop repeats pre rs n earlier list answers all g short code why =
      let t : take (length pre) (records_of job) ≡ pre = ap (take (length pre)) all ∙ take-append_seam pre rs in
      let p : list ≡ plain_after (length pre) job = g.plain ∙ ap (foldl (feed b) start) (sym t) in
      let l : length (records_of job) ≡ length pre + length rs = ap length all ∙ length-append pre rs in
      record {
        stop_known = code;
        short = short;
        within = omega arith;
        terms_are = ap length p;
        repeats_are = n ∙ ap (repeats_from b start) (sym t);
        all_sorted = subst AllGood p g.sorted;
        answers_are = g.counted ∙ ap (step_count b) (sym t);
        all_passed = g.passed;
        exact_answers = g.exact;
        why = why;
      }

  by_fault : (f : ℕ) (x : Outcome) (y : ℕ → Outcome) → (f ≡ 0 → Ran x) → ((c : ℕ) → f ≡ suc c → Ran (y c))
      → Ran (elim f as (λ z. Outcome) [ zero ↦ x | suc c ↦ y c ])
  by_fault zero x y p q = p refl
  by_fault (suc c) x y p q = q c refl

  -- why it stops at record r, or where none is left
  why_fault : (pre : List Bytes) (earlier : Earlier) (list : Plain) (answers : List Answer) (r : Bytes) (rs : List Bytes) → length job ≤ max_job → records_of job ≡ pre ++ (r ∷ rs)
      → Good pre earlier list answers → (c : ℕ) → fault (length pre) b limits work space list (length answers) r ≡ suc c → Stops limits job work space (suc c) (length pre)
  why_fault pre earlier list answers r rs short all g c e =
      let t : take (length pre) (records_of job) ≡ pre = ap (take (length pre)) all ∙ take-append_seam pre (r ∷ rs) in
      at_record short (ap (λ (l : List Bytes). get_elem? l (length pre)) all ∙ get_elem_seam pre r rs)
      (subst₂ (λ (l : Plain) (k : ℕ). fault (length pre) b limits work space l k r ≡ suc c) (g.plain ∙ ap (foldl (feed b) start) (sym t)) (g.counted ∙ ap (step_count b) (sym t)) e)
      g.passed

  why_end : (pre : List Bytes) (earlier : Earlier) (list : Plain) (answers : List Answer) → length job ≤ max_job → records_of job ≡ pre ++ [] → Good pre earlier list answers
      → Stops limits job work space (ending job) (length pre)
  why_end pre earlier list answers short all g = at_end short (ap length (all ∙ append-nil pre)) g.passed

  module _ (short : length job ≤ max_job) where
    runs : (rs pre : List Bytes) (earlier : Earlier) (list : Plain) (answers : List Answer) (done repeats : ℕ) → done ≡ length pre → repeats ≡ repeats_from b start pre → records_of job ≡ pre ++ rs → Good pre earlier list answers
        → Ran (run_from b limits work space (ending job) done repeats earlier list answers rs)
    unfolding run_from
    runs [] pre earlier list answers done repeats d n all g =
        subst (λ (m : ℕ). Ran (outcome (ending job) m repeats answers list)) (sym d)
        (stopped (ending job) repeats pre [] n earlier list answers all g (λ m l. short) (ending_code job) (why_end pre earlier list answers short all g))
    runs (r ∷ rs) pre earlier list answers done repeats d n all g =
        by_fault (fault done b limits work space list (length answers) r)
        (run_from b limits work space (ending job) (suc done) (repeats + repeat_of b list r) (recall b earlier list r) (feed b list r) (answers ++ answers_to b earlier list r) rs) (λ c. outcome (suc c) done repeats answers list)
        (λ e. runs rs (pre ++ (r ∷ [])) (recall b earlier list r) (feed b list r) (answers ++ answers_to b earlier list r) (suc done) (repeats + repeat_of b list r)
        (ap suc d ∙ sym (length-append pre (r ∷ []) ∙ add-one (length pre)))
        (ap₂ (λ (k : ℕ) (l : Plain). k + repeat_of b l r) n g.plain ∙ sym (repeats_snoc b start pre r))
        (all ∙ sym (append_assoc pre (r ∷ []) rs))
        (next pre earlier list answers r rs all g (here e)))
        (λ c e. subst (λ (m : ℕ). Ran (outcome (suc c) m repeats answers list)) (sym d)
        (stopped (suc c) repeats pre (r ∷ rs) n earlier list answers all g (λ m l. short) (subst Stop e (fault_code done b limits work space list (length answers) r))
        (why_fault pre earlier list answers r rs short all g c (here e))))
      where
        here : {c : ℕ} → fault done b limits work space list (length answers) r ≡ c → fault (length pre) b limits work space list (length answers) r ≡ c
        here {c} = subst (λ (p : ℕ). fault p b limits work space list (length answers) r ≡ c) d

  good_start : Good [] [] start []
  good_start = record { plain = refl; recalled = refl; sorted = start_good; counted = refl; exact = λ k a f. absurd (none_some a f); passed = λ m r l f. absurd (omega arith) }

  by_length : (b : Bool) → leb (length job) max_job ≡ b → (x y : Outcome) → (length job ≤ max_job → Ran x) → (max_job < length job → Ran y)
      → Ran (elim b as (λ z. Outcome) [ true ↦ x | false ↦ y ])
  by_length true e x y p q = p (leb→le (length job) max_job (subst T (sym e) tt))
  by_length false e x y p q = q (longer (dec_le (suc max_job) (length job)))
    where
      longer : Dec (suc max_job ≤ length job) → max_job < length job
      longer (yes h) = h
      longer (no h) = absurd (subst T e (le→leb (length job) max_job (omega arith)))

  pub ran : Ran (run limits job work space)
  unfolding run
  ran =
      by_length (leb (length job) max_job) refl (run_from b limits work space (ending job) 0 0 [] start [] (records_of job)) (outcome 2 0 0 [] start)
      (λ s. runs s (records_of job) [] [] start [] 0 0 refl refl refl good_start)
      (λ h. stopped 2 0 [] (records_of job) refl [] start [] refl good_start (λ m l. absurd (omega arith)) tt (too_long h))

  pub take_next : (m : ℕ) (r : Bytes) → get_elem? (records_of job) m ≡ some r → take (suc m) (records_of job) ≡ take m (records_of job) ++ (r ∷ [])
  take_next m r e =
      let l = get_elem_lt (records_of job) m r e in
      take-suc (records_of job) m [] l
      ∙ ap (λ (x : Bytes). take m (records_of job) ++ (x ∷ [])) (some_inj (get_or (records_of job) m []) r (sym (get_elem_of (records_of job) m [] l) ∙ e))

  -- the list, the earlier steps and their number after one more record
  pub plain_next : (m : ℕ) (r : Bytes) → get_elem? (records_of job) m ≡ some r → plain_after (suc m) job ≡ feed b (plain_after m job) r
  plain_next m r e = ap (foldl (feed b) start) (take_next m r e) ∙ foldl_append (feed b) start (take m (records_of job)) (r ∷ [])

  pub earlier_next : (m : ℕ) (r : Bytes) → get_elem? (records_of job) m ≡ some r → earlier_after (suc m) job ≡ recall b (earlier_after m job) (plain_after m job) r
  earlier_next m r e = ap (earlier_from b [] start) (take_next m r e) ∙ earlier_snoc b [] start (take m (records_of job)) r

  pub count_next : (m : ℕ) (r : Bytes) → get_elem? (records_of job) m ≡ some r
      → step_count b (take (suc m) (records_of job)) ≡ step_count b (take m (records_of job)) + cond (is_step (read b r)) 1 0
  count_next m r e = ap (step_count b) (take_next m r e) ∙ step_count_append b (take m (records_of job)) r

  -- a property that holds at the start and that every record without a fault keeps holds all through the run
  pub plain_ind : (P : ℕ → Type 0) → P 0
      → ((m : ℕ) (r : Bytes) → m < (run limits job work space).records → get_elem? (records_of job) m ≡ some r → Passes m r → P m → P (suc m))
      → (m : ℕ) → m ≤ (run limits job work space).records → P m
  plain_ind P base next zero l = base
  plain_ind P base next (suc m) l =
      let w = ran.within in
      let r = get_or (records_of job) m [] in
      let e : get_elem? (records_of job) m ≡ some r = get_elem_of (records_of job) m [] (omega arith) in
      next m r (omega arith) e (ran.all_passed m r (omega arith) e) (plain_ind P base next m (omega arith))

  -- so every term on the list has a sort
  pub sorted_after : (m : ℕ) → m ≤ (run limits job work space).records → AllGood (plain_after m job)
  sorted_after =
      plain_ind (λ m. AllGood (plain_after m job)) start_good
      (λ m r l e p h. subst AllGood (sym (plain_next m r e)) (feed_good m b limits work space (plain_after m job) (step_count b (take m (records_of job))) r p h))
