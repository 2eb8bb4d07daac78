-- In a job of bytes, the terms at two places of the plain list are different: a term has one number.
use mathlib.Core.Path.{◌≡◌, refl, sym, ap, ap₂, subst, ◌∙◌}
use mathlib.Core.List.{List, [], ◌∷◌, ◌++◌, map}
use Rattle.std.specs.Prelude.{Some as some}
use Prim.Native.Nat.{ℕ, zero, suc, ◌<◌, ◌≤◌}
use native.Mathlib.Omega.{arith}
use native.Mathlib.Decide.{ℕ_discrete}
use lib.Dec.{T, ltb, ltb→lt}
use lib.Ieee.Fits.{and_l, and_r}
use lib.ListN.{length, take, drop, take-append-drop}
use Rattle.std.specs.Prelude.{slice_get as get_elem?}
use Rattle.theory.specs.Limit.{Limits, first_terms}
use Rattle.theory.specs.Kind.{Op, True, False, kind}
use Rattle.theory.specs.Term.{Term, node, nil, to_list, from_list, same_numbers}
use Rattle.theory.specs.Record.{Bytes, AllBytes, records_of, term, read, step_count, number_length}
use Rattle.theory.specs.Plain.{Entry, entry, Plain, start, has, feed, plain_after}
use Rattle.theory.specs.Codes.{all_below, fault}
use Rattle.theory.specs.Job.{run}
use Rattle.theory.specs.Claim.{OneNumber}
pub use Rattle.theory.specs.Listed.{Entered, WellKept}
use Rattle.theory.proofs.Basics.{none_some, some_inj, or_left, or_right, get_elem_of, get_elem_lt, get_elem_old, get_elem_take, take_get_elem, snoc_elim}
use Rattle.theory.proofs.Blast.{to_from_list}
use Rattle.theory.proofs.Same.{same_numbers_refl}
use Rattle.theory.proofs.Bytes.{Sound, same_record, record_sound, not_constant}
use Rattle.theory.proofs.Places.{entry_at, tree_at, tree_of, term_there, trees_old, more_below}
use Rattle.theory.proofs.Run.{fed, plain_ind, plain_next}

pub has_at : (list : Plain) (j : ℕ) (e : Entry) (r : Bytes) → get_elem? list j ≡ some e → e.bytes ≡ r → T (has list r)
has_at [] j e r f g = absurd (none_some e f)
has_at (d ∷ list) zero e r f g =
    or_left (same_numbers d.bytes r) (has list r) (subst (λ (s : Bytes). T (same_numbers d.bytes s)) (ap (λ (x : Entry). x.bytes) (some_inj d e f) ∙ g) (same_numbers_refl d.bytes))
has_at (d ∷ list) (suc j) e r f g = or_right (same_numbers d.bytes r) (has list r) (has_at list j e r f g)

-- the same in another list, where the places before are the same
pub moved : {b : ℕ} (ks ls : Plain) (i : ℕ) (e : Entry) → ((args : List ℕ) → T (all_below i args) → map (tree_at ls) args ≡ map (tree_at ks) args)
    → ((j : ℕ) (d : Entry) → j < i → get_elem? ls j ≡ some d → get_elem? ks j ≡ some d) → Entered b ks i e → Entered b ls i e
moved ks ls i e same f k = record {
  sound = k.sound;
  op = k.op;
  args = k.args;
  says = k.says;
  below = k.below;
  made = k.made ∙ ap (λ (ts : List Term). node k.op (from_list ts)) (sym (same k.args k.below));
  new = λ j d l g. k.new j d l (f j d l g);
}

pub take_well : {b : ℕ} (n : ℕ) (list : Plain) → first_terms ≤ n → n ≤ length list → WellKept b list → WellKept b (take n list)
take_well n list h l w = record {
  is_true = take_get_elem n list 0 (omega arith) ∙ w.is_true;
  is_false = take_get_elem n list 1 (omega arith) ∙ w.is_false;
  kept = λ i e p f.
      let b : i < length (take n list) = get_elem_lt (take n list) i e f in
      moved list (take n list) i e
      (λ args c. sym (trees_old (take n list) (drop n list) i (omega arith) args c) ∙ ap (λ (x : Plain). map (tree_at x) args) (take-append-drop n list))
      (λ j d m g. get_elem_take n list j d g) (w.kept i e p (get_elem_take n list i e f));
}

pub snoc_well : {b : ℕ} (list : Plain) (r : Bytes) (o : Op) (ks : List ℕ) → WellKept b list → Sound r → read b r ≡ term o ks → T (all_below (length list) ks)
    → (T (has list r) → ⊥) → WellKept b (list ++ (entry (tree_of list o ks) r ∷ []))
snoc_well {b} list r o ks w s d l n =
    let new = entry (tree_of list o ks) r in
    let old : (j : ℕ) (e : Entry) → j < length list → get_elem? (list ++ (new ∷ [])) j ≡ some e → get_elem? list j ≡ some e
    = λ j e l g. sym (get_elem_old list (new ∷ []) j l) ∙ g in
    record {
      is_true = get_elem_old list (new ∷ []) 0 (get_elem_lt list 0 _ w.is_true) ∙ w.is_true;
      is_false = get_elem_old list (new ∷ []) 1 (get_elem_lt list 1 _ w.is_false) ∙ w.is_false;
      kept = λ i e p f. snoc_elim list new i e f
          (λ g. let l = get_elem_lt list i e g in
          moved list (list ++ (new ∷ [])) i e (λ args c. trees_old list (new ∷ []) i (omega arith) args c) (λ j x m h. old j x (omega arith) h) (w.kept i e p g))
          (λ q z. subst (Entered b (list ++ (new ∷ [])) i) z (subst (λ (k : ℕ). Entered b (list ++ (new ∷ [])) k new) (sym q) (record {
            sound = s;
            op = o;
            args = ks;
            says = d;
            below = l;
            made = ap (λ (ts : List Term). node o (from_list ts)) (sym (trees_old list (new ∷ []) (length list) (omega arith) ks l));
            new = λ j x m g c. n (has_at list j x r (old j x m g) c);
          })));
    }

pub start_well : {b : ℕ} → WellKept b start
start_well = record {
  is_true = refl;
  is_false = refl;
  kept = λ i e p f. let l = get_elem_lt start i e f in absurd (omega arith);
}

feed_well : (place b : ℕ) (limits : Limits) (work space : ℕ) (list : Plain) (answered : ℕ) (r : Bytes) → fault place b limits work space list answered r ≡ 0 → Sound r → WellKept b list
    → WellKept b (feed b list r)
feed_well place b limits work space list answered r e s w =
    fed (WellKept b) place b limits work space list answered r e w
    (λ o ks d p n. snoc_well list r o ks w s d p.below n) (λ n a b. take_well n list a b w)

module _ (limits : Limits) (job : Bytes) (bytes : AllBytes job) (work space : ℕ) where
  -- after m records done the list is well kept
  pub plain_well : (m : ℕ) → m ≤ (run limits job work space).records → WellKept (number_length job) (plain_after m job)
  plain_well =
      plain_ind limits job work space (λ m. WellKept (number_length job) (plain_after m job)) start_well
      (λ m r l e p w. subst (WellKept (number_length job)) (sym (plain_next limits job work space m r e))
      (feed_well m (number_length job) limits work space (plain_after m job) (step_count (number_length job) (take m (records_of job))) r p (record_sound job bytes m r e) w))

-- ---- the terms of a well-kept list
module _ {b : ℕ} (list : Plain) (w : WellKept b list) where
  pub tree_0 : tree_at list 0 ≡ node True nil
  tree_0 = ap (λ (e : Entry). e.tree) (some_inj _ _ (sym (get_elem_of list 0 _ (get_elem_lt list 0 _ w.is_true)) ∙ w.is_true))

  pub tree_1 : tree_at list 1 ≡ node False nil
  tree_1 = ap (λ (e : Entry). e.tree) (some_inj _ _ (sym (get_elem_of list 1 _ (get_elem_lt list 1 _ w.is_false)) ∙ w.is_false))

  pub kept_at : (i : ℕ) → first_terms ≤ i → i < length list → Entered b list i (entry_at list i)
  kept_at i h l = w.kept i (entry_at list i) h (get_elem_of list i (entry (node True nil) []) l)

abbrev pub DistinctBelow : Plain → ℕ → Type 0
DistinctBelow list n = (i j : ℕ) → i < n → j < n → tree_at list i ≡ tree_at list j → i ≡ j

trees_inj : (list : Plain) (n : ℕ) → DistinctBelow list n → (ks ls : List ℕ) → T (all_below n ks) → T (all_below n ls)
    → map (tree_at list) ks ≡ map (tree_at list) ls → ks ≡ ls
trees_inj list n d [] [] a b e = refl
trees_inj list n d [] (l ∷ ls) a b e = absurd (let w : ◌≡◌ {A = ℕ} 0 1 = cc in omega arith)
trees_inj list n d (k ∷ ks) [] a b e = absurd (let w : ◌≡◌ {A = ℕ} 0 1 = cc in omega arith)
trees_inj list n d (k ∷ ks) (l ∷ ls) a b e =
    let p : tree_at list k ≡ tree_at list l = cc in
    let q : map (tree_at list) ks ≡ map (tree_at list) ls = cc in
    ap₂ (λ (v : ℕ) (vs : List ℕ). v ∷ vs)
    (d k l (ltb→lt k n (and_l (ltb k n) _ a)) (ltb→lt l n (and_l (ltb l n) _ b)) p)
    (trees_inj list n d ks ls (and_r (ltb k n) _ a) (and_r (ltb l n) _ b) q)

module _ {b : ℕ} (list : Plain) (w : WellKept b list) where
  -- the term at a place after the first two is no constant
  no_constant : (n : ℕ) → first_terms ≤ n → n < length list → (o : Op) → kind o < 2 → node o nil ≡ tree_at list n → ⊥
  no_constant n h l o small e =
      let k = kept_at list w n h l in
      let f : node o nil ≡ tree_of list k.op k.args = e ∙ k.made in
      let g : o ≡ k.op = cc in
      not_constant b (entry_at list n).bytes k.op k.args k.says (subst (λ (p : Op). kind p < 2) g small)

  -- and no earlier term
  no_earlier : (i n : ℕ) → DistinctBelow list n → first_terms ≤ i → i < n → n < length list → tree_at list i ≡ tree_at list n → ⊥
  no_earlier i n d h c l e =
      let x = kept_at list w i h (omega arith) in
      let y = kept_at list w n (omega arith) l in
      let t : tree_of list x.op x.args ≡ tree_of list y.op y.args = sym x.made ∙ e ∙ y.made in
      let o : x.op ≡ y.op = cc in
      let us : from_list (map (tree_at list) x.args) ≡ from_list (map (tree_at list) y.args) = cc in
      let vs : map (tree_at list) x.args ≡ map (tree_at list) y.args
      = sym (to_from_list (map (tree_at list) x.args)) ∙ ap to_list us ∙ to_from_list (map (tree_at list) y.args) in
      let a : x.args ≡ y.args = trees_inj list n d x.args y.args (more_below i n (omega arith) x.args x.below) y.below vs in
      let s : (entry_at list i).bytes ≡ (entry_at list n).bytes
      = same_record b (entry_at list i).bytes (entry_at list n).bytes y.op y.args x.sound y.sound (x.says ∙ ap₂ term o a) y.says in
      y.new i (entry_at list i) c (get_elem_of list i (entry (node True nil) []) (omega arith)) s

  fresh : (n i : ℕ) → DistinctBelow list n → i < n → n < length list → tree_at list i ≡ tree_at list n → ⊥
  fresh zero i d c l e = omega arith
  fresh (suc zero) zero d c l e = let f : node True nil ≡ node False nil = sym (tree_0 list w) ∙ e ∙ tree_1 list w in let z : ◌≡◌ {A = ℕ} 0 1 = cc in omega arith
  fresh (suc zero) (suc i) d c l e = omega arith
  fresh (suc (suc n)) zero d c l e = no_constant (suc (suc n)) (omega arith) l True (omega arith) (sym (tree_0 list w) ∙ e)
  fresh (suc (suc n)) (suc zero) d c l e = no_constant (suc (suc n)) (omega arith) l False (omega arith) (sym (tree_1 list w) ∙ e)
  fresh (suc (suc n)) (suc (suc i)) d c l e = no_earlier (suc (suc i)) (suc (suc n)) d (omega arith) c l e

  distinct_below : (n : ℕ) → n ≤ length list → DistinctBelow list n
  distinct_below zero h i j a c e = absurd (omega arith)
  distinct_below (suc n) h i j a c e =
      let d = distinct_below n (omega arith) in
      go d (ℕ_discrete i n) (ℕ_discrete j n)
    where
      go : DistinctBelow list n → Dec (i ≡ n) → Dec (j ≡ n) → i ≡ j
      go d (yes p) (yes q) = p ∙ sym q
      go d (yes p) (no q) = absurd (fresh n j d (omega arith) (omega arith) (sym e ∙ ap (tree_at list) p))
      go d (no p) (yes q) = absurd (fresh n i d (omega arith) (omega arith) (e ∙ ap (tree_at list) q))
      go d (no p) (no q) = d i j (omega arith) (omega arith) e

  pub trees_distinct : DistinctBelow list (length list)
  trees_distinct = distinct_below (length list) (omega arith)

-- all through a run
pub one_number : OneNumber
one_number limits job b work space m i j t l p q =
    let list = plain_after m job in
    let x = term_there list i t p in
    let y = term_there list j t q in
    trees_distinct list (plain_well limits job b work space m l) i j x.0 y.0 (x.1 ∙ sym y.1)
