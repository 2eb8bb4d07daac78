-- Demands 1 and 2, for every job, every length of work memory and of answers.
use mathlib.Core.Path.{◌≡◌, sym, ap, ap₂, subst, subst₂, ◌∙◌}
use mathlib.Core.Bool.{Bool, true, false, cond}
use mathlib.Core.List.{List, [], ◌∷◌, map}
use Rattle.std.specs.Prelude.{Some as some}
use Prim.Native.Nat.{ℕ, zero, suc, ◌+◌, ◌<◌, ◌≤◌}
use native.Mathlib.Decide.{ℕ_discrete, dec_le}
use native.Mathlib.Omega.{arith}
use lib.Dec.{T}
use lib.ListN.{length, take, get_or}
use Rattle.std.specs.Prelude.{slice_get as get_elem?}
use Rattle.theory.specs.Limit.{Limits}
use Rattle.theory.specs.Record.{Bytes, records_of, Item, step, chain, read, is_step, step_count, number_length}
use Rattle.theory.specs.Plain.{Plain, plain_after}
use Rattle.theory.specs.RuleTable.{Rule, rule_at, ChainRule, chain_rule_at}
use Rattle.theory.specs.Codes.{all_below}
use Rattle.theory.specs.Answer.{Answer}
use Rattle.theory.specs.Chain.{Earlier, premises_at, joined}
use Rattle.theory.specs.Job.{judged, answer_to, run}
use Rattle.theory.specs.Demand.{Reached}
use Rattle.theory.specs.Demands.{Stops, too_long, at_record, at_end, earlier_after, Demand2}
use Rattle.theory.proofs.Basics.{some_inj, get_elem_of, get_elem_lt}
use Rattle.theory.proofs.Places.{tree_at, at_place_is, at_places_are}
use Rattle.theory.proofs.Run.{AnswerOf, to_step, to_chain, answered_step, ran, count_next}

-- ---- steps are counted upwards
count_cons : (t : Bool) (k l : ℕ) → k ≤ l → cond t (suc k) k ≤ cond t (suc l) l
count_cons true k l h = omega arith
count_cons false k l h = h

steps_grow : (b : ℕ) (rs : List Bytes) (i j : ℕ) → i ≤ j → step_count b (take i rs) ≤ step_count b (take j rs)
steps_grow b rs zero j h = omega arith
steps_grow b rs (suc i) zero h = absurd (omega arith)
steps_grow b [] (suc i) (suc j) h = omega arith
steps_grow b (r ∷ rs) (suc i) (suc j) h = count_cons (is_step (read b r)) (step_count b (take i rs)) (step_count b (take j rs)) (steps_grow b rs i j (omega arith))

-- an answer to a step, and to a chain
to_that_step : {earlier : Earlier} {list : Plain} {i : Item} {a : Answer} (n : ℕ) (ks : List ℕ) → AnswerOf earlier list i a → i ≡ step n ks
    → (rule : Rule) × (rule_at n ≡ some rule) × T (all_below (length list) ks) × (a ≡ answer_to n rule (map (tree_at list) ks))
to_that_step {earlier} {list} n ks (to_step k rule js e b) d =
    let x : k ≡ n = number d in
    let y : js ≡ ks = places d in
    (rule, ap rule_at (sym x) ∙ e, subst (λ (ls : List ℕ). T (all_below (length list) ls)) y b, ap₂ (λ (z : ℕ) (ls : List ℕ). answer_to z rule (map (tree_at list) ls)) x y)
  where
    number : {i j : ℕ} {is js : List ℕ} → step i is ≡ step j js → i ≡ j
    number e = cc

    places : {i j : ℕ} {is js : List ℕ} → step i is ≡ step j js → is ≡ js
    places e = cc
to_that_step n ks (to_chain k rule ps p e b) d = absurd (let z : ◌≡◌ {A = ℕ} 0 1 = cc in omega arith)

to_that_chain : {earlier : Earlier} {list : Plain} {i : Item} {a : Answer} (n : ℕ) (ps : List ℕ) (p : ℕ) → AnswerOf earlier list i a → i ≡ chain n ps p
    → (rule : ChainRule) × (chain_rule_at n ≡ some rule) × (p < length list) × (a ≡ judged n (joined rule (premises_at earlier list ps) (tree_at list p)) (tree_at list p))
to_that_chain n ps p (to_step k rule js e b) d = absurd (let z : ◌≡◌ {A = ℕ} 0 1 = cc in omega arith)
to_that_chain {earlier} {list} n ps p (to_chain k rule qs q e b) d =
    let x : k ≡ n = number d in
    let y : qs ≡ ps = premises d in
    let z : q ≡ p = place d in (
      rule,
      ap chain_rule_at (sym x) ∙ e,
      subst (λ (i : ℕ). i < length list) z b,
      ap₂ (λ (i : ℕ) (ls : List ℕ). judged i (joined rule (premises_at earlier list ls) (tree_at list q)) (tree_at list q)) x y
          ∙ ap (λ (i : ℕ). judged n (joined rule (premises_at earlier list ps) (tree_at list i)) (tree_at list i)) z,
    )
  where
    number : {i j p q : ℕ} {is js : List ℕ} → chain i is p ≡ chain j js q → i ≡ j
    number e = cc

    premises : {i j p q : ℕ} {is js : List ℕ} → chain i is p ≡ chain j js q → is ≡ js
    premises e = cc

    place : {i j p q : ℕ} {is js : List ℕ} → chain i is p ≡ chain j js q → p ≡ q
    place e = cc

module _ (limits : Limits) (job : Bytes) (work space : ℕ) where
  -- the bytes of a term's number
  abbrev b : ℕ
  b = number_length job

  -- demand 1: why the job stops
  pub demand_1 : let o = run limits job work space in Stops limits job work space o.stop o.records
  demand_1 = (ran limits job work space).why

  -- a record that is reached is done
  pub reached_done : (m : ℕ) (r : Bytes) → Reached limits job work space m r → m < (run limits job work space).records
  reached_done m r h = go (run limits job work space).stop (run limits job work space).records demand_1
    where
      go : (stop done : ℕ) → Stops limits job work space stop done → m < done
      go stop done (too_long l) = absurd (let s = h.short in omega arith)
      go stop done (at_record {m = d} {code = c} {r = q} s e f p) = late (dec_le (suc m) d)
        where
          late : Dec (suc m ≤ d) → m < d
          late (yes l) = l
          late (no l) = absurd (let z = h.passes d q (omega arith) e in omega arith)
      go stop done (at_end s e p) = subst (λ (k : ℕ). m < k) e (get_elem_lt (records_of job) m r h.stands)

  -- one more step after record m
  step_more : (m : ℕ) (r : Bytes) → get_elem? (records_of job) m ≡ some r → is_step (read b r) ≡ true
      → step_count b (take (suc m) (records_of job)) ≡ step_count b (take m (records_of job)) + 1
  step_more m r s e = count_next limits job work space m r s ∙ ap (λ (t : Bool). step_count b (take m (records_of job)) + cond t 1 0) e

  -- two steps with as many steps before them are one
  one_step : (i j : ℕ) (p q : Bytes) → get_elem? (records_of job) i ≡ some p → get_elem? (records_of job) j ≡ some q → is_step (read b p) ≡ true → is_step (read b q) ≡ true
      → step_count b (take i (records_of job)) ≡ step_count b (take j (records_of job)) → i ≡ j
  one_step i j p q s t c d e = go (ℕ_discrete i j) (dec_le (suc i) j)
    where
      go : Dec (i ≡ j) → Dec (suc i ≤ j) → i ≡ j
      go (yes z) w = z
      go (no z) (yes w) = absurd (let u = step_more i p s c in let v = steps_grow b (records_of job) (suc i) j w in omega arith)
      go (no z) (no w) = absurd (let u = step_more j q t d in let v = steps_grow b (records_of job) (suc j) i (omega arith) in omega arith)

  -- a step of either kind that is reached has its answer
  reply_at : (m : ℕ) (r : Bytes) → Reached limits job work space m r → is_step (read b r) ≡ true
      → (a : Answer) × (get_elem? (run limits job work space).answers (step_count b (take m (records_of job))) ≡ some a) × AnswerOf (earlier_after m job) (plain_after m job) (read b r) a
  reply_at m r h e =
      let o = run limits job work space in
      let w = ran limits job work space in
      let k = step_count b (take m (records_of job)) in
      let d : Answer = record { rule = 0; code = 0; depth = 0 } in
      let l = reached_done m r h in
      let u = step_more m r h.stands e in
      let v = steps_grow b (records_of job) (suc m) o.records l in
      let c = w.answers_are in
      let a = get_or o.answers k d in
      let f : get_elem? o.answers k ≡ some a = get_elem_of o.answers k d (omega arith) in
      let g = w.exact_answers k a f in
      let q : g.m ≡ m = one_step g.m m g.bytes r g.stands h.stands (answered_step g.is) e g.kth in
      let z : g.bytes ≡ r = some_inj g.bytes r (sym g.stands ∙ ap (get_elem? (records_of job)) q ∙ h.stands) in
      (a, f, subst₂ (λ (i : ℕ) (s : Bytes). AnswerOf (earlier_after i job) (plain_after i job) (read b s) a) q z g.is)

  pub demand_2 : Demand2 limits job work space (run limits job work space).answers
  demand_2 = record {
    steps = λ m r n ks h e.
        let g = reply_at m r h (ap is_step e) in
        let t = to_that_step n ks g.2 e in
        record {
          rule = t.0;
          rule_is = t.1;
          literals = map (tree_at (plain_after m job)) ks;
          literals_are = at_places_are (plain_after m job) ks t.2;
          answered = g.1 ∙ ap some t.3;
        };
    chains = λ m r n ps p h e.
        let g = reply_at m r h (ap is_step e) in
        let t = to_that_chain n ps p g.2 e in
        record {
          rule = t.0;
          rule_is = t.1;
          claim = tree_at (plain_after m job) p;
          claim_is = at_place_is (plain_after m job) p t.2;
          answered = g.1 ∙ ap some t.3;
        };
  }
