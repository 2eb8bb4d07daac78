-- The laws of origins: record by record, the earlier steps that may be premises are those whose literal stands before them.
use mathlib.Core.Path.{◌≡◌, refl, sym, ap, ap₂, subst, ◌∙◌}
use mathlib.Core.Bool.{Bool, true, false, cond}
use mathlib.Core.List.{List, [], ◌∷◌, ◌++◌, map}
use Rattle.std.specs.Prelude.{Option, None as none, Some as some}
use Prim.Native.Nat.{ℕ, zero, suc, ◌+◌, ◌<◌, ◌≤◌, min}
use native.Mathlib.Omega.{arith}
use native.Mathlib.Decide.{dec_lt}
use lib.Dec.{T, leb, ltb, eqb, ltb→lt, lt→ltb}
use lib.Ieee.Fits.{and_l, and_i}
use lib.ListN.{length, take, length-append, length-take}
use Rattle.std.specs.Prelude.{slice_get as get_elem?}
use borrow.Author.Tests.{le-leb, lt-leb, lt-ltb, le-ltb}
use Rattle.theory.specs.Limit.{Limits}
use Rattle.theory.specs.Term.{Term}
use Rattle.theory.specs.Record.{Bytes, Item, term, step, chain, back, unknown, misfit, read}
use Rattle.theory.specs.Plain.{Entry, entry, Plain, start, has, put, feed_item, feed}
use Rattle.theory.specs.Codes.{first_fault, all_below, tests, fault}
use Rattle.theory.specs.Answer.{Answer}
use Rattle.theory.specs.Chain.{Earlier, leaves, unless_dropped, recall_item, premises_at, joined}
use Rattle.theory.specs.Job.{judged, answer_to, item_answers, answers_to, recall}
pub use Rattle.theory.specs.Origins.{before, standing, Mark, all_standing, origins_item}
use Rattle.theory.proofs.Basics.{none_some, some_inj, take_get_elem}
use Rattle.theory.proofs.Places.{tree_at, tree_of, term_of_is}
use Rattle.theory.proofs.Run.{term_passed, step_passed, step_answer, chain_passed, chain_answer}

-- ---- one literal
-- each origin is at most n
abbrev pub AllUpTo : ℕ → List ℕ → Type 0
AllUpTo n [] = Unit {0}
AllUpTo n (o ∷ os) = (o ≤ n) × AllUpTo n os

pub up_to_snoc : (n : ℕ) (os : List ℕ) (o : ℕ) → AllUpTo n os → o ≤ n → AllUpTo n (os ++ (o ∷ []))
up_to_snoc n [] o h l = (l, tt)
up_to_snoc n (x ∷ os) o h l = (h.0, up_to_snoc n os o h.1 l)

pub up_to_take : (n k : ℕ) (os : List ℕ) → AllUpTo n os → AllUpTo n (take k os)
up_to_take n zero os h = tt
up_to_take n (suc k) [] h = tt
up_to_take n (suc k) (o ∷ os) h = (h.0, up_to_take n k os h.1)

pub up_to_more : (m n : ℕ) → m ≤ n → (os : List ℕ) → AllUpTo m os → AllUpTo n os
up_to_more m n l [] h = tt
up_to_more m n l (o ∷ os) h = (let x = h.0 in omega arith, up_to_more m n l os h.1)

-- one more term, which came after s
before_late : (o s p : ℕ) → s < o → before (some o) s p ≡ none
before_late o s p h = rw (lt-leb o s h)

grown_at : (os : List ℕ) (o s p i : ℕ) → s < o → before (get_elem? (os ++ (o ∷ [])) i) s p ≡ before (get_elem? os i) s p
grown_at [] o s p zero h = before_late o s p h
grown_at [] o s p (suc i) h = refl
grown_at (x ∷ os) o s p zero h = refl
grown_at (x ∷ os) o s p (suc i) h = grown_at os o s p i h

pub standing_grown : (os : List ℕ) (o s : ℕ) (q : Option ℕ) → s < o → standing (os ++ (o ∷ [])) s q ≡ standing os s q
standing_grown os o s none h = refl
standing_grown os o s (some p) h = grown_at os o s p p h

-- a back keeps the first n terms
beyond : {A : Type 0} (n : ℕ) (xs : List A) (i : ℕ) → n ≤ i → get_elem? (take n xs) i ≡ none
beyond zero xs i h = refl
beyond (suc n) [] i h = refl
beyond (suc n) (x ∷ xs) zero h = absurd (omega arith)
beyond (suc n) (x ∷ xs) (suc i) h = beyond n xs i (omega arith)

below_kept : (q : Option ℕ) (n s p : ℕ) → p < n → unless_dropped n (before q s p) ≡ before q s p
below_kept none n s p h = refl
below_kept (some o) n s p h = go (leb o s)
  where
    go : (b : Bool) → unless_dropped n (cond b (some p) none) ≡ cond b (some p) none
    go true = rw (lt-ltb p n h)
    go false = refl

above_dropped : (q : Option ℕ) (n s p : ℕ) → n ≤ p → unless_dropped n (before q s p) ≡ none
above_dropped none n s p h = refl
above_dropped (some o) n s p h = go (leb o s)
  where
    go : (b : Bool) → unless_dropped n (cond b (some p) none) ≡ none
    go true = rw (le-ltb p n h)
    go false = refl

pub standing_cut : (os : List ℕ) (n s : ℕ) (q : Option ℕ) → standing (take n os) s q ≡ unless_dropped n (standing os s q)
standing_cut os n s none = refl
standing_cut os n s (some p) = go (dec_lt p n)
  where
    go : Dec (p < n) → before (get_elem? (take n os) p) s p ≡ unless_dropped n (before (get_elem? os p) s p)
    go (yes h) = ap (λ (o : Option ℕ). before o s p) (take_get_elem n os p h) ∙ sym (below_kept (get_elem? os p) n s p h)
    go (no h) = ap (λ (o : Option ℕ). before o s p) (beyond n os p (omega arith)) ∙ sym (above_dropped (get_elem? os p) n s p (omega arith))

-- at the step itself: its literal is there, and every term came before
new_at : (os : List ℕ) (s p i : ℕ) → AllUpTo s os → i < length os → before (get_elem? os i) s p ≡ some p
new_at [] s p i h l = absurd (omega arith)
new_at (o ∷ os) s p zero h l = rw (le-leb o s h.0)
new_at (o ∷ os) s p (suc i) h l = new_at os s p i h.1 (omega arith)

pub standing_new : (os : List ℕ) (s : ℕ) (q : Option ℕ) → AllUpTo s os → ((p : ℕ) → q ≡ some p → p < length os) → standing os s q ≡ q
standing_new os s none h l = refl
standing_new os s (some p) h l = new_at os s p p h (l p refl)

-- ---- all steps so far
-- each step began before n
abbrev pub AllBefore : ℕ → List Mark → Type 0
AllBefore n [] = Unit {0}
AllBefore n (m ∷ ms) = (m.0 < n) × AllBefore n ms

pub before_snoc : (n : ℕ) (ms : List Mark) (m : Mark) → AllBefore n ms → m.0 < n → AllBefore n (ms ++ (m ∷ []))
before_snoc n [] m h l = (l, tt)
before_snoc n (x ∷ ms) m h l = (h.0, before_snoc n ms m h.1 l)

pub before_more : (m n : ℕ) → m ≤ n → (ms : List Mark) → AllBefore m ms → AllBefore n ms
before_more m n l [] h = tt
before_more m n l (x ∷ ms) h = (let y = h.0 in omega arith, before_more m n l ms h.1)

pub all_grown : (os : List ℕ) (o : ℕ) (marks : List Mark) → AllBefore o marks → all_standing (os ++ (o ∷ [])) marks ≡ all_standing os marks
all_grown os o [] h = refl
all_grown os o (m ∷ ms) h = ap₂ (λ (x : Option ℕ) (xs : Earlier). x ∷ xs) (standing_grown os o m.0 m.1 h.0) (all_grown os o ms h.1)

pub all_cut : (os : List ℕ) (n : ℕ) (marks : List Mark) → all_standing (take n os) marks ≡ map (unless_dropped n) (all_standing os marks)
all_cut os n [] = refl
all_cut os n (m ∷ ms) = ap₂ (λ (x : Option ℕ) (xs : Earlier). x ∷ xs) (standing_cut os n m.0 m.1) (all_cut os n ms)

pub all_snoc : (os : List ℕ) (marks : List Mark) (m : Mark) → all_standing os (marks ++ (m ∷ [])) ≡ all_standing os marks ++ (standing os m.0 m.1 ∷ [])
all_snoc os [] m = refl
all_snoc os (x ∷ ms) m = ap (λ (xs : Earlier). standing os x.0 x.1 ∷ xs) (all_snoc os ms m)

-- ---- the law: record by record, the earlier steps that may be premises are those whose literal stands before them
-- the marks after a record that begins at `at`
abbrev pub marks_item : List Mark → ℕ → Item → List Answer → List Mark
marks_item ms at (term o ks) answers = ms
marks_item ms at (step n ks) answers = ms ++ map (λ (a : Answer). (at, leaves ks a)) answers
marks_item ms at (chain n ps k) answers = ms ++ map (λ (a : Answer). (at, leaves (k ∷ []) a)) answers
marks_item ms at (back n) answers = ms
marks_item ms at unknown answers = ms
marks_item ms at misfit answers = ms

-- before a record that begins at `at`
pub record Tracks (at : ℕ) (os : List ℕ) (marks : List Mark) (earlier : Earlier) (list : Plain) : Type 0 where
  pub as_long : length os ≡ length list
  pub behind : AllUpTo at os
  pub past : AllBefore at marks
  pub is : earlier ≡ all_standing os marks

pub tracks_start : Tracks 0 (0 ∷ 0 ∷ []) [] [] start
tracks_start = record { as_long = refl; behind = (omega arith, (omega arith, tt)); past = tt; is = refl }

-- what a step leaves is one of its literals
pub left_below : (n : ℕ) (ks : List ℕ) (a : Answer) (p : ℕ) → T (all_below n ks) → leaves ks a ≡ some p → p < n
left_below n ks a p b e = go (eqb a.code 0) ks b e
  where
    go : (c : Bool) (js : List ℕ) → T (all_below n js) → cond c (get_elem? js 0) none ≡ some p → p < n
    go true [] h d = absurd (none_some p d)
    go true (j ∷ js) h d = subst (λ (x : ℕ). x < n) (some_inj j p d) (ltb→lt j n (and_l (ltb j n) _ h))
    go false js h d = absurd (none_some p d)

module _ (place b : ℕ) (limits : Limits) (work space answered at at' : ℕ) (r : Bytes) (os : List ℕ) (marks : List Mark) (earlier : Earlier) (list : Plain)
    (t : Tracks at os marks earlier list) (on : at < at') where
  -- nothing changes
  tracks_same : Tracks at' os marks earlier list
  tracks_same = record { as_long = t.as_long; behind = up_to_more at at' (omega arith) os t.behind; past = before_more at at' (omega arith) marks t.past; is = t.is }

  -- a new term
  tracks_grown : (e : Entry) → Tracks at' (os ++ (suc at ∷ [])) marks earlier (list ++ (e ∷ []))
  tracks_grown e = record {
    as_long = length-append os (suc at ∷ []) ∙ ap (λ (n : ℕ). n + 1) t.as_long ∙ sym (length-append list (e ∷ []));
    behind = up_to_snoc at' os (suc at) (up_to_more at at' (omega arith) os t.behind) (omega arith);
    past = before_more at at' (omega arith) marks t.past;
    is = t.is ∙ sym (all_grown os (suc at) marks (before_more at (suc at) (omega arith) marks t.past));
  }

  -- a back
  tracks_cut : (n : ℕ) → Tracks at' (take n os) marks (map (unless_dropped n) earlier) (take n list)
  tracks_cut n = record {
    as_long = length-take n os ∙ ap (min n) t.as_long ∙ sym (length-take n list);
    behind = up_to_take at' n os (up_to_more at at' (omega arith) os t.behind);
    past = before_more at at' (omega arith) marks t.past;
    is = ap (map (unless_dropped n)) t.is ∙ sym (all_cut os n marks);
  }

  -- a step, which left q
  tracks_left : (q : Option ℕ) → ((p : ℕ) → q ≡ some p → p < length list) → Tracks at' os (marks ++ ((at, q) ∷ [])) (earlier ++ (q ∷ [])) list
  tracks_left q l = record {
    as_long = t.as_long;
    behind = up_to_more at at' (omega arith) os t.behind;
    past = before_snoc at' marks (at, q) (before_more at at' (omega arith) marks t.past) on;
    is = ap₂ (λ (x : Earlier) (y : Option ℕ). x ++ (y ∷ [])) t.is (sym (standing_new os at q t.behind (λ p e. subst (λ (n : ℕ). p < n) (sym t.as_long) (l p e))))
        ∙ sym (all_snoc os marks (at, q));
  }

  tracks_item : (i : Item) → first_fault (tests place b limits work space list answered r i) ≡ 0
      → Tracks at' (origins_item os list at r i) (marks_item marks at i (item_answers earlier list i)) (recall_item earlier i (item_answers earlier list i)) (feed_item list r i)
  tracks_item (term o ks) e =
      subst (λ (q : Option Term). Tracks at' (cond (has list r) os (os ++ (suc at ∷ []))) marks earlier (put list r q))
      (sym (term_of_is list o ks (term_passed place b limits work space list answered r o ks e).below)) (go (has list r))
    where
      go : (b : Bool) → Tracks at' (cond b os (os ++ (suc at ∷ []))) marks earlier (cond b list (list ++ (entry (tree_of list o ks) r ∷ [])))
      go true = tracks_same
      go false = tracks_grown (entry (tree_of list o ks) r)
  tracks_item (step n ks) e =
      let p = step_passed place b limits work space list answered r n ks e in
      let a = answer_to n p.rule (map (tree_at list) ks) in
      subst (λ (new : List Answer). Tracks at' os (marks ++ map (λ (a : Answer). (at, leaves ks a)) new) (earlier ++ map (leaves ks) new) list)
      (sym (step_answer b space list answered n ks p)) (tracks_left (leaves ks a) (λ x. left_below (length list) ks a x p.below))
  tracks_item (chain n ps k) e =
      let p = chain_passed place b limits work space list answered r n ps k e in
      let a = judged n (joined p.rule (premises_at earlier list ps) (tree_at list k)) (tree_at list k) in
      subst (λ (new : List Answer). Tracks at' os (marks ++ map (λ (a : Answer). (at, leaves (k ∷ []) a)) new) (earlier ++ map (leaves (k ∷ [])) new) list)
      (sym (chain_answer b earlier space list answered n k ps p))
      (tracks_left (leaves (k ∷ []) a) (λ x. left_below (length list) (k ∷ []) a x (and_i (ltb k (length list)) true (lt→ltb k (length list) p.below) tt)))
  tracks_item (back n) e = tracks_cut n
  tracks_item unknown e = tracks_same
  tracks_item misfit e = tracks_same

-- one record that no code stops, at `at`, with the next one at `at'`
pub tracks_next : (place b : ℕ) (limits : Limits) (work space answered at at' : ℕ) (r : Bytes) (os : List ℕ) (marks : List Mark) (earlier : Earlier) (list : Plain) → Tracks at os marks earlier list → at < at'
    → fault place b limits work space list answered r ≡ 0
    → Tracks at' (origins_item os list at r (read b r)) (marks_item marks at (read b r) (answers_to b earlier list r)) (recall b earlier list r) (feed b list r)
unfolding fault recall answers_to feed
tracks_next place b limits work space answered at at' r os marks earlier list t on e = tracks_item place b limits work space answered at at' r os marks earlier list t on (read b r) e
