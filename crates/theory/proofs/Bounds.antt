-- What is lent is enough: the answers fit, the kept terms fit, and a term's depth is at most its place.
use mathlib.Core.Path.{◌≡◌, sym, subst, ◌∙◌}
use mathlib.Core.Bool.{Bool, true, false, cond}
use mathlib.Core.List.{List, [], ◌∷◌, ◌++◌, map}
use Prim.Native.Nat.{ℕ, zero, suc, ◌+◌, ◌-◌, ◌*◌, ◌<◌, ◌≤◌, max}
use native.Mathlib.Nat.{add-zero, le_trans, mul-le-mul_left}
use native.Mathlib.Numerals.{add-one}
use native.Mathlib.Omega.{arith}
use lib.Dec.{T, leb, ltb, eqb, ltb→lt, leb→le}
use lib.Ieee.Fits.{and_l, and_r}
use lib.ListN.{length, take, length-append, length-take}
use Rattle.theory.specs.Limit.{Limits, capped, first_terms, term_bytes, answer_bytes}
use Rattle.theory.specs.Kind.{Op, True, False, kind}
use Rattle.theory.specs.Term.{Term, node, nil, from_list}
use Rattle.theory.specs.Sort.{Sort, first, sorts_of}
use Rattle.theory.specs.Depth.{gate_kind, depth_op, depth, deepest}
use Rattle.theory.specs.Record.{Bytes, AllBytes, records_of, Item, term, step, back, unknown, misfit, read, is_step, step_count, chain, number_length}
use Rattle.theory.specs.Plain.{Plain, entry, has, feed, plain_after}
use Rattle.theory.specs.Codes.{first_fault, all_below, room, tests, fault}
use Rattle.theory.specs.Job.{run}
use Rattle.theory.specs.Claim.{LentEnough}
use Rattle.theory.proofs.Basics.{or_not}
use Rattle.theory.proofs.Places.{tree_at, tree_of}
use Rattle.theory.proofs.Run.{step_passed, chain_passed, fed, ran, plain_ind, plain_next, count_next}
use Rattle.theory.proofs.Distinct.{WellKept, tree_0, tree_1, kept_at, plain_well}

-- ---- the memories
pub record TermsFit (b : ℕ) (limits : Limits) (work : ℕ) (list : Plain) : Type 0 where
  pub first_there : first_terms ≤ length list
  pub terms_fit : term_bytes b * (length list - first_terms) ≤ work
  pub numbers_fit : length list ≤ max first_terms (capped b limits).terms

feed_fits : (place b : ℕ) (limits : Limits) (work space : ℕ) (list : Plain) (answered : ℕ) (r : Bytes) → fault place b limits work space list answered r ≡ 0 → TermsFit b limits work list
    → TermsFit b limits work (feed b list r)
feed_fits place b limits work space list answered r e f =
    let a = f.first_there in
    let c = f.numbers_fit in
    fed (TermsFit b limits work) place b limits work space list answered r e f
    (λ o ks d p n.
    let t = or_not (has list r) (room b (capped b limits) work list) p.roomy n in
    let u = leb→le (term_bytes b * (suc (length list) - first_terms)) work (and_l (leb (term_bytes b * (suc (length list) - first_terms)) work) _ t) in
    let v = ltb→lt (length list) (capped b limits).terms (and_r (leb (term_bytes b * (suc (length list) - first_terms)) work) _ t) in
    let l : length (list ++ (entry (tree_of list o ks) r ∷ [])) ≡ suc (length list) = length-append list (entry (tree_of list o ks) r ∷ []) ∙ add-one (length list) in
    record { first_there = omega arith; terms_fit = subst (λ (k : ℕ). term_bytes b * (k - first_terms) ≤ work) (sym l) u; numbers_fit = omega arith })
    (λ n h k.
    let l : length (take n list) ≡ n = length-take n list ∙ omega arith in
    record { first_there = omega arith; terms_fit = fewer (term_bytes b) (length (take n list)) (length list) work (omega arith) f.terms_fit; numbers_fit = omega arith })
  where
    fewer : (c m n work : ℕ) → m ≤ n → c * (n - first_terms) ≤ work → c * (m - first_terms) ≤ work
    fewer c m n work h l = le_trans (mul-le-mul_left c (omega arith)) l

-- one more step has room for its answer
step_fits : (place b : ℕ) (limits : Limits) (work space : ℕ) (list : Plain) (answered : ℕ) (r : Bytes) → fault place b limits work space list answered r ≡ 0 → answer_bytes b * answered ≤ space
    → answer_bytes b * (answered + cond (is_step (read b r)) 1 0) ≤ space
unfolding fault
step_fits place b limits work space list answered r e f = go (read b r) e
  where
    none_more : answer_bytes b * (answered + 0) ≤ space
    none_more = subst (λ (k : ℕ). answer_bytes b * k ≤ space) (sym (add-zero answered)) f

    one_more : answer_bytes b * suc answered ≤ space → answer_bytes b * (answered + 1) ≤ space
    one_more p = subst (λ (k : ℕ). answer_bytes b * k ≤ space) (sym (add-one answered)) p

    go : (i : Item) → first_fault (tests place b limits work space list answered r i) ≡ 0 → answer_bytes b * (answered + cond (is_step i) 1 0) ≤ space
    go (step n ks) d = one_more (step_passed place b limits work space list answered r n ks d).roomy
    go (chain n ps k) d = one_more (chain_passed place b limits work space list answered r n ps k d).roomy
    go (term o ks) d = none_more
    go (back n) d = none_more
    go unknown d = none_more
    go misfit d = none_more

module _ (limits : Limits) (job : Bytes) (work space : ℕ) where
  -- the bytes of a term's number
  abbrev b : ℕ
  b = number_length job

  pub terms_fit : (m : ℕ) → m ≤ (run limits job work space).records → TermsFit b limits work (plain_after m job)
  terms_fit =
      plain_ind limits job work space (λ m. TermsFit b limits work (plain_after m job)) (record { first_there = omega arith; terms_fit = omega arith; numbers_fit = omega arith })
      (λ m r l e p f. subst (TermsFit b limits work) (sym (plain_next limits job work space m r e)) (feed_fits m b limits work space (plain_after m job) (step_count b (take m (records_of job))) r p f))

  answers_fit : (m : ℕ) → m ≤ (run limits job work space).records → answer_bytes b * step_count b (take m (records_of job)) ≤ space
  answers_fit =
      plain_ind limits job work space (λ m. answer_bytes b * step_count b (take m (records_of job)) ≤ space) (omega arith)
      (λ m r l e p f. subst (λ (k : ℕ). answer_bytes b * k ≤ space) (sym (count_next limits job work space m r e)) (step_fits m b limits work space (plain_after m job) (step_count b (take m (records_of job))) r p f))

pub run_fits : LentEnough
run_fits limits job work space =
    let o = run limits job work space in
    let h = ran limits job work space in
    let t = terms_fit limits job work space o.records (omega arith) in
    let e = h.terms_are in
    record {
      answers_fit = subst (λ (n : ℕ). answer_bytes (number_length job) * n ≤ space) (sym h.answers_are) (answers_fit limits job work space o.records (omega arith));
      terms_fit = subst (λ (n : ℕ). term_bytes (number_length job) * (n - first_terms) ≤ work) (sym e) t.terms_fit;
      numbers_fit = let y = t.numbers_fit in omega arith;
    }

-- ---- depths
pub depth_step : (o : Op) (s : Sort) (d : ℕ) → depth_op o s d ≤ suc d
depth_step o s d = go (gate_kind (kind o) s) (eqb (kind o) 31)
  where
    go : (a b : Bool) → cond a (suc d) (cond b d 0) ≤ suc d
    go true b = omega arith
    go false true = omega arith
    go false false = omega arith

pub deepest_le : (list : Plain) (m : ℕ) → ((k : ℕ) → k < suc m → depth (tree_at list k) ≤ k) → (ks : List ℕ) → T (all_below (suc m) ks)
    → deepest (from_list (map (tree_at list) ks)) ≤ m
unfolding depth
deepest_le list m f [] b = omega arith
deepest_le list m f (k ∷ ks) b =
    let l = ltb→lt k (suc m) (and_l (ltb k (suc m)) _ b) in
    both (f k l) l (deepest_le list m f ks (and_r (ltb k (suc m)) _ b))
  where
    both : {d e : ℕ} → d ≤ k → k < suc m → e ≤ m → max d e ≤ m
    both p q r = omega arith

term_depth : (list : Plain) (o : Op) (ks : List ℕ) → depth (tree_of list o ks) ≤ suc (deepest (from_list (map (tree_at list) ks)))
unfolding depth
term_depth list o ks = depth_step o (first (sorts_of (from_list (map (tree_at list) ks)))) (deepest (from_list (map (tree_at list) ks)))

constant_depths : (depth (node True nil) ≤ 0) × (depth (node False nil) ≤ 1)
unfolding depth
constant_depths = (omega arith, omega arith)

module _ {b : ℕ} (list : Plain) (w : WellKept b list) where
  pub place_depth : (n i : ℕ) → i < n → i < length list → depth (tree_at list i) ≤ i
  place_depth zero i l m = absurd (omega arith)
  place_depth (suc n) zero l m = subst (λ (t : Term). depth t ≤ 0) (sym (tree_0 list w)) constant_depths.0
  place_depth (suc n) (suc zero) l m = subst (λ (t : Term). depth t ≤ 1) (sym (tree_1 list w)) constant_depths.1
  place_depth (suc n) (suc (suc j)) l m =
      let k = kept_at list w (suc (suc j)) (omega arith) m in
      let d = deepest_le list (suc j) (λ x y. place_depth n x (omega arith) (omega arith)) k.args k.below in
      subst (λ (x : Term). depth x ≤ suc (suc j)) (sym k.made) (let q = term_depth list k.op k.args in omega arith)

-- in a job of bytes a depth is at most the term's place, so it fits into two bytes
pub depth_fits : (limits : Limits) (job : Bytes) → AllBytes job → (work space m i : ℕ) → m ≤ (run limits job work space).records
    → i < length (plain_after m job) → depth (tree_at (plain_after m job) i) ≤ i
depth_fits limits job b work space m i l h = place_depth (plain_after m job) (plain_well limits job b work space m l) (suc i) i (omega arith) h
