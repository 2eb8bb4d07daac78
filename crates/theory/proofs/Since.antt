-- Premises in document 02's words: an earlier step that is held, whose literal has not been dropped by a back since. `Earlier` is just that.
use mathlib.Core.Path.{◌≡◌, refl, sym, ap, subst, ◌∙◌}
use mathlib.Core.Bool.{Bool, true, false, cond}
use mathlib.Core.List.{List, [], ◌∷◌, ◌++◌, map}
use Rattle.std.specs.Prelude.{None as none, Some as some}
use Prim.Native.Nat.{ℕ, zero, suc, ◌+◌, ◌<◌}
use native.Mathlib.Omega.{arith}
use native.Mathlib.Decide.{ℕ_discrete}
use lib.ListN.{length, take, length-append, length-map}
use Rattle.std.specs.Prelude.{slice_get as get_elem?}
use borrow.Author.Tests.{lt-ltb, eq-eqb}
use Rattle.theory.specs.Limit.{Limits}
use Rattle.theory.specs.Record.{Bytes, records_of, Item, term, step, chain, back, unknown, misfit, read, is_step, claim_of, step_count, number_length}
use Rattle.theory.specs.Plain.{plain_after}
use Rattle.theory.specs.Codes.{fault}
use Rattle.theory.specs.Answer.{Answer}
use Rattle.theory.specs.Chain.{Earlier, leaves, unless_dropped, recall_item}
use Rattle.theory.specs.Job.{answers_to, recall}
use Rattle.theory.specs.Demands.{earlier_after, Kept, Tells, PremisesTold}
use Rattle.theory.proofs.Basics.{none_some, some_inj, get_elem_lt, get_elem_old, get_elem_seam, snoc_elim}
use Rattle.theory.proofs.Premises.{dropped_not, get_elem_map, left_held}
use Rattle.theory.proofs.Run.{answers_cases, earlier_next, count_next, plain_ind}

-- ---- one more record
module _ (job : Bytes) (m : ℕ) (r : Bytes) (e : get_elem? (records_of job) m ≡ some r) where
  -- it is no back at or below p
  more : (k p : ℕ) → ((n : ℕ) → read (number_length job) r ≡ back n → p < n) → Kept job m k p → Kept job (suc m) k p
  more k p f h =
      let l = h.earlier in
      record {
        i = h.i;
        bytes = h.bytes;
        rule = h.rule;
        literals = h.literals;
        answer = h.answer;
        earlier = omega arith;
        stands = h.stands;
        claims = h.claims;
        kth = h.kth;
        answered = h.answered;
        held = h.held;
        first = h.first;
        since = λ j s n x y c d. go j s n x y c d (ℕ_discrete j m);
      }
    where
      go : (j : ℕ) (s : Bytes) (n : ℕ) → h.i < j → j < suc m → get_elem? (records_of job) j ≡ some s → read (number_length job) s ≡ back n → Dec (j ≡ m) → p < n
      go j s n y z c d (yes x) = f n (ap (read (number_length job)) (some_inj r s (sym e ∙ ap (get_elem? (records_of job)) (sym x) ∙ c)) ∙ d)
      go j s n y z c d (no x) = h.since j s n y (omega arith) c d

  -- the other way, where it is not that step itself
  less : (k p : ℕ) (h : Kept job (suc m) k p) → (h.i ≡ m → ⊥) → Kept job m k p
  less k p h x =
      let l = h.earlier in
      record {
        i = h.i;
        bytes = h.bytes;
        rule = h.rule;
        literals = h.literals;
        answer = h.answer;
        earlier = omega arith;
        stands = h.stands;
        claims = h.claims;
        kth = h.kth;
        answered = h.answered;
        held = h.held;
        first = h.first;
        since = λ j s n a b c d. h.since j s n a (omega arith) c d;
      }

  -- the step itself is this record
  same_bytes : (k p : ℕ) (h : Kept job (suc m) k p) → h.i ≡ m → h.bytes ≡ r
  same_bytes k p h x = some_inj h.bytes r (sym h.stands ∙ ap (get_elem? (records_of job)) x ∙ e)

map_at : {A B : Type 0} (f : A → B) (xs : List A) (k : ℕ) (a : A) → get_elem? xs k ≡ some a → get_elem? (map f xs) k ≡ some (f a)
map_at f [] k a e = absurd (none_some a e)
map_at f (x ∷ xs) zero a e = ap (λ (y : _). some (f y)) (some_inj x a e)
map_at f (x ∷ xs) (suc k) a e = map_at f xs k a e

not_claimed : {c : ℕ × List ℕ} → none ≡ some c → ⊥
not_claimed {c} e = none_some c e

module _ (limits : Limits) (job : Bytes) (work space m : ℕ) (r : Bytes) (e : get_elem? (records_of job) m ≡ some r) (t : Tells job m (earlier_after m job)) where
  -- the bytes of a term's number
  abbrev b : ℕ
  b = number_length job

  abbrev E : Earlier
  E = earlier_after m job

  -- no step and no back
  same_told : is_step (read b r) ≡ false → claim_of (read b r) ≡ none → ((n : ℕ) → read b r ≡ back n → ⊥) → Tells job (suc m) E
  same_told a d c = record {
    counted = t.counted ∙ sym (count_next limits job work space m r e ∙ ap (λ (x : Bool). step_count b (take m (records_of job)) + cond x 1 0) a ∙ omega arith);
    only = λ k p f. more job m r e k p (λ n x. absurd (c n x)) (t.only k p f);
    all = λ k p h. t.all k p (less job m r e k p h (λ x. not_claimed (sym d ∙ ap (λ (s : Bytes). claim_of (read b s)) (sym (same_bytes job m r e k p h x)) ∙ h.claims)));
  }

  -- a back
  back_told : (n : ℕ) → read b r ≡ back n → Tells job (suc m) (map (unless_dropped n) E)
  back_told n d = record {
    counted = length-map E (unless_dropped n) ∙ t.counted ∙ sym (count_next limits job work space m r e ∙ ap (λ (i : Item). step_count b (take m (records_of job)) + cond (is_step i) 1 0) d ∙ omega arith);
    only = λ k p f.
        let q = get_elem_map (unless_dropped n) E k (some p) f in
        let u = dropped_not n q.0 p q.2 in
        more job m r e k p (λ x y. subst (λ (z : ℕ). p < z) (count_of (sym d ∙ y)) u.1) (t.only k p (q.1 ∙ ap some u.0));
    all = λ k p h.
        let x : h.i ≡ m → ⊥ = λ x. not_claimed (sym (ap claim_of d) ∙ ap (λ (s : Bytes). claim_of (read b s)) (sym (same_bytes job m r e k p h x)) ∙ h.claims) in
        let l = h.earlier in
        let u : p < n = h.since m r n (omega arith) (omega arith) e d in
        map_at (unless_dropped n) E k (some p) (t.all k p (less job m r e k p h x)) ∙ ap some (kept p u);
  }
    where
      count_of : {x y : ℕ} → back x ≡ back y → x ≡ y
      count_of f = cc

      kept : (p : ℕ) → p < n → unless_dropped n (some p) ≡ some p
      kept p h = rw (lt-ltb p n h)

  -- a step of either kind
  step_told : (n : ℕ) (ks : List ℕ) → claim_of (read b r) ≡ some (n, ks) → is_step (read b r) ≡ true → (a : Answer) → answers_to b E (plain_after m job) r ≡ a ∷ []
      → Tells job (suc m) (E ++ (leaves ks a ∷ []))
  step_told n ks c s a w = record {
    counted = length-append E (leaves ks a ∷ []) ∙ ap (λ (x : ℕ). x + 1) t.counted
        ∙ sym (count_next limits job work space m r e ∙ ap (λ (x : Bool). step_count b (take m (records_of job)) + cond x 1 0) s);
    only = λ k p f. snoc_elim E (leaves ks a) k (some p) f
        (λ g. more job m r e k p (λ x d. absurd (not_claimed (sym (ap claim_of d) ∙ c))) (t.only k p g)) (λ x y. itself k p x y);
    all = λ k p h. go k p h (ℕ_discrete h.i m);
  }
    where
      itself : (k p : ℕ) → k ≡ length E → leaves ks a ≡ some p → Kept job (suc m) k p
      itself k p x y =
          let z = left_held ks a p y in
          record {
            i = m;
            bytes = r;
            rule = n;
            literals = ks;
            answer = a;
            earlier = omega arith;
            stands = e;
            claims = c;
            kth = sym t.counted ∙ sym x;
            answered = w;
            held = z.0;
            first = z.1;
            since = λ j u v b d f g. absurd (omega arith);
          }

      same_answer : {x y : Answer} → x ∷ [] ≡ y ∷ [] → x ≡ y
      same_answer f = cc

      go : (k p : ℕ) (h : Kept job (suc m) k p) → Dec (h.i ≡ m) → get_elem? (E ++ (leaves ks a ∷ [])) k ≡ some (some p)
      go k p h (no x) =
          let g = t.all k p (less job m r e k p h x) in
          get_elem_old E (leaves ks a ∷ []) k (get_elem_lt E k (some p) g) ∙ g
      go k p h (yes x) =
          let s = same_bytes job m r e k p h x in
          let l : h.literals ≡ ks = ap (λ (q : ℕ × List ℕ). q.1) (some_inj (h.rule, h.literals) (n, ks) (sym h.claims ∙ ap (λ (bs : Bytes). claim_of (read b bs)) s ∙ c)) in
          let y : h.answer ≡ a
          = same_answer (sym h.answered ∙ ap (λ (i : ℕ). answers_to b (earlier_after i job) (plain_after i job) h.bytes) x ∙ ap (answers_to b E (plain_after m job)) s ∙ w) in
          let z : a.code ≡ 0 = ap (λ (v : Answer). v.code) (sym y) ∙ h.held in
          let i : k ≡ length E = sym h.kth ∙ ap (λ (v : ℕ). step_count b (take v (records_of job))) x ∙ sym t.counted in
          ap (get_elem? (E ++ (leaves ks a ∷ []))) i ∙ get_elem_seam E (leaves ks a) []
          ∙ ap some (ap (λ (v : Bool). cond v (get_elem? ks 0) none) (eq-eqb a.code 0 z) ∙ ap (λ (js : List ℕ). get_elem? js 0) (sym l) ∙ h.first)

  one_new : fault m b limits work space (plain_after m job) (step_count b (take m (records_of job))) r ≡ 0 → is_step (read b r) ≡ true → (a : Answer) × (answers_to b E (plain_after m job) r ≡ a ∷ [])
  one_new p =
      answers_cases (λ (new : List Answer). is_step (read b r) ≡ true → (a : Answer) × (new ≡ a ∷ [])) m b limits work space E (plain_after m job) (step_count b (take m (records_of job))) r p
      (λ a h s. (a, refl)) (λ f s. absurd (let q : false ≡ true = sym f ∙ s in let z : ◌≡◌ {A = ℕ} 0 1 = cc in omega arith))

  next_told : fault m b limits work space (plain_after m job) (step_count b (take m (records_of job))) r ≡ 0 → Tells job (suc m) (recall b E (plain_after m job) r)
  unfolding recall
  next_told p = go (read b r) refl
    where
      go : (i : Item) → read b r ≡ i → Tells job (suc m) (recall_item E i (answers_to b E (plain_after m job) r))
      go (term o ks) d = same_told (ap is_step d) (ap claim_of d) (λ n f. let g = sym d ∙ f in let z : ◌≡◌ {A = ℕ} 0 1 = cc in omega arith)
      go (step n ks) d =
          let a = one_new p (ap is_step d) in
          subst (λ (new : List Answer). Tells job (suc m) (E ++ map (leaves ks) new)) (sym a.1) (step_told n ks (ap claim_of d) (ap is_step d) a.0 a.1)
      go (chain n ps k) d =
          let a = one_new p (ap is_step d) in
          subst (λ (new : List Answer). Tells job (suc m) (E ++ map (leaves (k ∷ [])) new)) (sym a.1) (step_told n (k ∷ []) (ap claim_of d) (ap is_step d) a.0 a.1)
      go (back n) d = back_told n d
      go unknown d = same_told (ap is_step d) (ap claim_of d) (λ n f. let g = sym d ∙ f in let z : ◌≡◌ {A = ℕ} 0 1 = cc in omega arith)
      go misfit d = same_told (ap is_step d) (ap claim_of d) (λ n f. let g = sym d ∙ f in let z : ◌≡◌ {A = ℕ} 0 1 = cc in omega arith)

-- all through a run
pub earlier_tells : PremisesTold
earlier_tells limits job work space =
    plain_ind limits job work space (λ m. Tells job m (earlier_after m job))
    (record { counted = refl; only = λ k p f. absurd (none_some (some p) f); all = λ k p h. let l = h.earlier in absurd (omega arith) })
    (λ m r l e p t. subst (Tells job (suc m)) (sym (earlier_next limits job work space m r e)) (next_told limits job work space m r e t p))
