-- What a step that is held shows, and that every earlier step that may be a premise still shows it.
use mathlib.Core.Path.{◌≡◌, refl, sym, ap, subst, subst₂, ◌∙◌}
use mathlib.Core.Bool.{Bool, true, false, cond}
use mathlib.Core.List.{List, [], ◌∷◌, ◌++◌, map}
use Rattle.std.specs.Prelude.{Option, None as none, Some as some}
use Prim.Native.Nat.{ℕ, zero, suc, ◌<◌, ◌≤◌}
use native.Mathlib.Omega.{arith}
use lib.Dec.{T, ltb, eqb, ltb→lt, eqb→eq}
use lib.Ieee.Fits.{and_l}
use lib.ListN.{length, take}
use Rattle.std.specs.Prelude.{slice_get as get_elem?}
use Rattle.theory.specs.Limit.{Limits}
use Rattle.theory.specs.Kind.{Equals}
use Rattle.theory.specs.Term.{Term, two}
use Rattle.theory.specs.Optional.{either}
use Rattle.theory.specs.Verdict.{held, premise_broken}
use Rattle.theory.specs.RuleTable.{Rule, ChainRule}
use Rattle.theory.specs.Rule.{verdict}
use Rattle.theory.specs.Record.{Bytes, records_of, Item, term, step, chain, back, unknown, misfit, read, claim_of, step_count, number_length}
use Rattle.theory.specs.Plain.{Entry, entry, Plain, at_place, put, feed_item, feed, plain_after}
use Rattle.theory.specs.Codes.{first_fault, all_below, tests, fault}
use Rattle.theory.specs.Answer.{Answer}
use Rattle.theory.specs.Chain.{Earlier, leaves, unless_dropped, recall_item, premise_at, premises_at, joined}
use Rattle.theory.specs.Job.{judged, answer_to, item_answers, answers_to, recall, run}
use Rattle.theory.specs.Demand.{Held}
use Rattle.theory.specs.Demands.{earlier_after}
use Rattle.theory.proofs.Basics.{none_some, some_inj, cons_some_is, get_elem_lt, get_elem_old, take_get_elem, snoc_elim}
use Rattle.theory.proofs.Form.{not_held, code_held}
use Rattle.theory.proofs.Verdict.{verdict_holds}
use Rattle.theory.proofs.Chain.{AllHold, Holds, chain_holds}
use Rattle.theory.proofs.Places.{tree_at, tree_of, at_place_is, term_of_is}
use Rattle.theory.proofs.Run.{AllGood, good_at, start_good, feed_good, AnswerOf, to_step, to_chain, step_passed, step_answer, chain_passed, chain_answer, term_passed, put_cases, earlier_next, plain_next, plain_ind}

-- ---- a step that is held
below_one : (n p : ℕ) (ks : List ℕ) → ks ≡ p ∷ [] → T (all_below n ks) → p < n
below_one n p ks e h = ltb→lt p n (and_l (ltb p n) _ (subst (λ (js : List ℕ). T (all_below n js)) e h))

-- code 0: one literal, and the verdict on it
one_held : (n : ℕ) (rule : Rule) (list : Plain) (ks : List ℕ) → (answer_to n rule (map (tree_at list) ks)).code ≡ 0
    → (p : ℕ) × (ks ≡ p ∷ []) × (verdict rule (tree_at list p) ≡ held)
one_held n rule list [] e = absurd (omega arith)
one_held n rule list (p ∷ []) e = (p, refl, code_held (verdict rule (tree_at list p)) e)
one_held n rule list (p ∷ q ∷ ks) e = absurd (omega arith)

pub answer_rule : (n : ℕ) (rule : Rule) (ts : List Term) → (answer_to n rule ts).rule ≡ n
answer_rule n rule [] = refl
answer_rule n rule (t ∷ []) = refl
answer_rule n rule (t ∷ u ∷ us) = refl

-- a literal that holds, at place p of the list
placed : (list : Plain) (ks : List ℕ) (p : ℕ) → ks ≡ p ∷ [] → p < length list → Holds (tree_at list p) → Held list ks
placed list ks p e l v = record {
  place = p;
  left = v.0;
  right = v.1;
  one_literal = e;
  on_list = at_place_is list p l ∙ ap some v.2;
  equal = v.3;
}

step_held : (n : ℕ) (rule : Rule) (list : Plain) (ks : List ℕ) → AllGood list → T (all_below (length list) ks)
    → (answer_to n rule (map (tree_at list) ks)).code ≡ 0 → Held list ks
step_held n rule list ks g b c =
    let p = one_held n rule list ks c in
    let l : p.0 < length list = below_one (length list) p.0 ks p.1 b in
    placed list ks p.0 p.1 l (verdict_holds rule (tree_at list p.0) (good_at list p.0 g l) p.2)

-- ---- premises
-- each earlier step that may be a premise shows an equality that holds
abbrev pub Valid : Earlier → Plain → Type 0
Valid earlier list = (k p : ℕ) → get_elem? earlier k ≡ some (some p) → Held list (p ∷ [])

-- the literal at its place
held_holds : (list : Plain) (p : ℕ) (t : Term) → Held list (p ∷ []) → at_place list p ≡ some t → Holds t
held_holds list p t h e =
    let q : p ≡ h.place = same h.one_literal in
    (h.left, h.right, some_inj t (two Equals h.left h.right) (sym e ∙ ap (at_place list) q ∙ h.on_list), h.equal)
  where
    same : {i j : ℕ} → i ∷ [] ≡ j ∷ [] → i ≡ j
    same f = cc

module _ (earlier : Earlier) (list : Plain) (v : Valid earlier list) where
  premise_holds : (n : ℕ) (t : Term) → premise_at earlier list n ≡ some t → Holds t
  premise_holds zero t e = absurd (none_some t e)
  premise_holds (suc k) t e = go (get_elem? earlier k) refl e
    where
      go : (q : Option (Option ℕ)) → get_elem? earlier k ≡ q → either none (at_place list) (either none (λ (p : Option ℕ). p) q) ≡ some t → Holds t
      go none f d = absurd (none_some t d)
      go (some none) f d = absurd (none_some t d)
      go (some (some p)) f d = held_holds list p t (v k p f) d

  premises_hold : (ps : List ℕ) (ts : List Term) → premises_at earlier list ps ≡ some ts → AllHold ts
  premises_hold [] ts e = subst AllHold (some_inj [] ts e) tt
  premises_hold (p ∷ ps) ts e =
      let q = cons_some_is (premise_at earlier list p) (premises_at earlier list ps) ts e in
      subst AllHold (sym q.4) (premise_holds p q.0 q.2, premises_hold ps q.1 q.3)

  chain_held : (rule : ChainRule) (ps : List ℕ) (k : ℕ) → k < length list → joined rule (premises_at earlier list ps) (tree_at list k) ≡ held → Held list (k ∷ [])
  chain_held rule ps k l e = placed list (k ∷ []) k refl l (go (premises_at earlier list ps) (premises_hold ps) e)
    where
      go : (q : Option (List Term)) → ((ts : List Term) → q ≡ some ts → AllHold ts) → joined rule q (tree_at list k) ≡ held → Holds (tree_at list k)
      go none f d = absurd (not_held premise_broken tt d)
      go (some ts) f d = chain_holds rule ts (tree_at list k) (f ts refl) d

  -- an answer to a step of either kind: it carries the step's rule, and with code 0 the step holds
  pub answer_holds : {i : Item} {a : Answer} → AllGood list → AnswerOf earlier list i a
      → (ks : List ℕ) × (claim_of i ≡ some (a.rule, ks)) × (a.code ≡ 0 → Held list ks)
  answer_holds g (to_step n rule ks e b) = (ks, ap (λ (m : ℕ). some (m, ks)) (sym (answer_rule n rule (map (tree_at list) ks))), step_held n rule list ks g b)
  answer_holds g (to_chain n rule ps k e b) = (k ∷ [], refl, λ c. chain_held rule ps k b (code_held (joined rule (premises_at earlier list ps) (tree_at list k)) c))

-- ---- one more record
-- an earlier step that is still a premise after a back
pub dropped_not : (n : ℕ) (q : Option ℕ) (p : ℕ) → unless_dropped n q ≡ some p → (q ≡ some p) × (p < n)
dropped_not n none p e = absurd (none_some p e)
dropped_not n (some m) p e = go (ltb m n) (ltb→lt m n) e
  where
    go : (b : Bool) → (T b → m < n) → cond b (some m) none ≡ some p → (some m ≡ some p) × (p < n)
    go true f d = (d, subst (λ (z : ℕ). z < n) (some_inj m p d) (f tt))
    go false f d = absurd (none_some p d)

pub get_elem_map : {A B : Type 0} (f : A → B) (xs : List A) (k : ℕ) (b : B) → get_elem? (map f xs) k ≡ some b → (a : A) × (get_elem? xs k ≡ some a) × (f a ≡ b)
get_elem_map f [] k b e = absurd (none_some b e)
get_elem_map f (x ∷ xs) zero b e = (x, refl, some_inj (f x) b e)
get_elem_map f (x ∷ xs) (suc k) b e = get_elem_map f xs k b e

-- what a step leaves
pub left_held : (ks : List ℕ) (a : Answer) (p : ℕ) → leaves ks a ≡ some p → (a.code ≡ 0) × (get_elem? ks 0 ≡ some p)
left_held ks a p e = go (eqb a.code 0) (eqb→eq a.code 0) e
  where
    go : (b : Bool) → (T b → a.code ≡ 0) → cond b (get_elem? ks 0) none ≡ some p → (a.code ≡ 0) × (get_elem? ks 0 ≡ some p)
    go true f d = (f tt, d)
    go false f d = absurd (none_some p d)

-- the same literal on another list, which has its place
held_moved : (list more : Plain) (ks : List ℕ) (h : Held list ks) → at_place more h.place ≡ at_place list h.place → Held more ks
held_moved list more ks h e = record { place = h.place; left = h.left; right = h.right; one_literal = h.one_literal; on_list = e ∙ h.on_list; equal = h.equal }

place_of : (p : ℕ) {list : Plain} (h : Held list (p ∷ [])) → h.place ≡ p
place_of p h = same h.one_literal
  where
    same : {i j : ℕ} → i ∷ [] ≡ j ∷ [] → j ≡ i
    same f = cc

there_lt : (list : Plain) (p : ℕ) (t : Term) → at_place list p ≡ some t → p < length list
there_lt list p t e = go (get_elem? list p) refl e
  where
    go : (q : Option Entry) → get_elem? list p ≡ q → either none (λ x. some x.tree) q ≡ some t → p < length list
    go none f d = absurd (none_some t d)
    go (some x) f d = get_elem_lt list p x f

module _ (earlier : Earlier) (list : Plain) (g : AllGood list) (v : Valid earlier list) where
  valid_grown : (e : Entry) → Valid earlier (list ++ (e ∷ []))
  valid_grown e k p f =
      let h = v k p f in
      held_moved list (list ++ (e ∷ [])) (p ∷ []) h
      (ap (either none (λ (x : Entry). some x.tree)) (get_elem_old list (e ∷ []) h.place (there_lt list h.place _ h.on_list)))

  valid_cut : (n : ℕ) → Valid (map (unless_dropped n) earlier) (take n list)
  valid_cut n k p f =
      let q = get_elem_map (unless_dropped n) earlier k (some p) f in
      let d = dropped_not n q.0 p q.2 in
      let h = v k p (q.1 ∙ ap some d.0) in
      held_moved list (take n list) (p ∷ []) h
      (ap (either none (λ (x : Entry). some x.tree)) (take_get_elem n list h.place (subst (λ (z : ℕ). z < n) (sym (place_of p h)) d.1)))

  -- one more step
  valid_more : (i : Item) (ks : List ℕ) (a : Answer) → AnswerOf earlier list i a → claim_of i ≡ some (a.rule, ks) → Valid (earlier ++ (leaves ks a ∷ [])) list
  valid_more i ks a o c k p f = snoc_elim earlier (leaves ks a) k (some p) f (v k p) (λ x y. new (left_held ks a p y))
    where
      first : {js : List ℕ} (h : Held list js) → get_elem? js 0 ≡ some p → js ≡ p ∷ []
      first h e = let w : h.place ≡ p = some_inj h.place p (ap (λ (ls : List ℕ). get_elem? ls 0) (sym h.one_literal) ∙ e) in h.one_literal ∙ ap (λ (z : ℕ). z ∷ []) w

      new : (a.code ≡ 0) × (get_elem? ks 0 ≡ some p) → Held list (p ∷ [])
      new z =
          let b = answer_holds earlier list v g o in
          let s : b.0 ≡ ks = ap (λ (q : ℕ × List ℕ). q.1) (some_inj (a.rule, b.0) (a.rule, ks) (sym b.1 ∙ c)) in
          let h : Held list ks = subst (Held list) s (b.2 z.0) in
          subst (Held list) (first h z.1) h

  valid_item : (place b : ℕ) (limits : Limits) (work space answered : ℕ) (r : Bytes) (i : Item) → first_fault (tests place b limits work space list answered r i) ≡ 0
      → Valid (recall_item earlier i (item_answers earlier list i)) (feed_item list r i)
  valid_item place b limits work space answered r (term o ks) e =
      subst (λ (q : Option Term). Valid earlier (put list r q)) (sym (term_of_is list o ks (term_passed place b limits work space list answered r o ks e).below))
      (put_cases (Valid earlier) list r (tree_of list o ks) v (λ n. valid_grown (entry (tree_of list o ks) r)))
  valid_item place b limits work space answered r (step n ks) e =
      let p = step_passed place b limits work space list answered r n ks e in
      let a = answer_to n p.rule (map (tree_at list) ks) in
      subst (λ (new : List Answer). Valid (earlier ++ map (leaves ks) new) list) (sym (step_answer b space list answered n ks p))
      (valid_more (step n ks) ks a (to_step n p.rule ks p.rule_is p.below) (ap (λ (m : ℕ). some (m, ks)) (sym (answer_rule n p.rule (map (tree_at list) ks)))))
  valid_item place b limits work space answered r (chain n ps k) e =
      let p = chain_passed place b limits work space list answered r n ps k e in
      let a = judged n (joined p.rule (premises_at earlier list ps) (tree_at list k)) (tree_at list k) in
      subst (λ (new : List Answer). Valid (earlier ++ map (leaves (k ∷ [])) new) list) (sym (chain_answer b earlier space list answered n k ps p))
      (valid_more (chain n ps k) (k ∷ []) a (to_chain n p.rule ps k p.rule_is p.below) refl)
  valid_item place b limits work space answered r (back n) e = valid_cut n
  valid_item place b limits work space answered r unknown e = v
  valid_item place b limits work space answered r misfit e = v

valid_next : (place b : ℕ) (limits : Limits) (work space : ℕ) (earlier : Earlier) (list : Plain) (answered : ℕ) (r : Bytes) → fault place b limits work space list answered r ≡ 0 → AllGood list → Valid earlier list
    → Valid (recall b earlier list r) (feed b list r)
unfolding fault recall answers_to feed
valid_next place b limits work space earlier list answered r e g v = valid_item earlier list g v place b limits work space answered r (read b r) e

-- all through a run
module _ (limits : Limits) (job : Bytes) (work space : ℕ) where
  pub premises_valid : (m : ℕ) → m ≤ (run limits job work space).records → AllGood (plain_after m job) × Valid (earlier_after m job) (plain_after m job)
  premises_valid =
      plain_ind limits job work space (λ m. AllGood (plain_after m job) × Valid (earlier_after m job) (plain_after m job)) (start_good, λ k p f. absurd (none_some (some p) f))
      (λ m r l e p w.
      let k = step_count (number_length job) (take m (records_of job)) in
      let list = plain_after m job in
      let n = plain_next limits job work space m r e in (
        subst AllGood (sym n) (feed_good m (number_length job) limits work space list k r p w.0),
        subst₂ Valid (sym (earlier_next limits job work space m r e)) (sym n) (valid_next m (number_length job) limits work space (earlier_after m job) list k r p w.0 w.1),
      ))
