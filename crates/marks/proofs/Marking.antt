-- Marking downwards from the asked term: what is marked stands in it, and what stands in it is marked.
use mathlib.Core.Path.{◌≡◌, refl, sym, ap, subst, ◌∙◌}
use mathlib.Core.Bool.{Bool, true, false, ◌||◌}
use mathlib.Core.List.{List, [], ◌∷◌, map}
use Prim.Native.Nat.{ℕ, ◌+◌, ◌-◌, ◌≤◌, ◌<◌}
use native.Mathlib.Omega.{arith}
use lib.Dec.{T, ltb, eqb, ltb→lt, eqb→eq}
use lib.Ieee.Fits.{and_l, and_r}
use lib.ListN.{length}
use borrow.Author.Tests.{eq-eqb, eqb-true, eqb-false}
use Rattle.rows.specs.Layout.{link_bytes}
use Rattle.theory.specs.Limit.{first_terms}
use Rattle.theory.specs.Term.{Term, Terms, node, nil, cons, from_list}
use Rattle.theory.specs.Record.{Bytes}
use Rattle.theory.specs.Plain.{Plain}
use Rattle.theory.specs.Claim.{element}
use Rattle.theory.specs.Codes.{all_below}
use Rattle.theory.proofs.Basics.{T_same, true_T, or_left, or_right}
use Rattle.theory.proofs.Places.{tree_at, more_below}
use Rattle.theory.proofs.Distinct.{WellKept, kept_at, trees_distinct}
use Rattle.terms.specs.declared.Term.{Term as Decoded}
use Rattle.terms.specs.declared.Operands.{Operands}
use Rattle.terms.specs.Decoded.{OperandsPlaced, operands_of, arguments_of, numbers_of}
use Rattle.store.specs.Shelf.{item_args, args_at, TermOn}
use Rattle.sweeps.specs.Variables.{stands, stands_any}
use Rattle.sweeps.proofs.Standing.{stands_self, stands_in, stands_first, stands_rest, stands_cases, any_cases}
use Rattle.sweeps.proofs.Placing.{placed}
use Rattle.marks.specs.Marks.{mark_of}
use Rattle.marks.specs.Links.{is_marked, list_of, args_of, Kept, Cleared, Set, SetAll, SetTerm, Reaches}
use Rattle.marks.specs.declared.links.Links.{Links}
use Rattle.marks.proofs.LinkLaws.{kept_self, kept_more, args_same, low_kept}

-- ---- what stands in a term that stands in another stands in that
mutual
  unfolding stands

  pub stands_trans : (u v t : Term) → T (stands u v) → T (stands v t) → T (stands u t)
  stands_trans u v (node o ts) h k =
      stands_cases (T (stands u (node o ts))) v o ts k (λ e. subst (λ (z : Term). T (stands u z)) e h) (λ s. stands_in u o ts (any_trans u v ts h s))

  any_trans : (u v : Term) (ts : Terms) → T (stands u v) → T (stands_any v ts) → T (stands_any u ts)
  any_trans u v nil h k = k
  any_trans u v (cons t ts) h k =
      any_cases (T (stands_any u (cons t ts))) v t ts k (λ s. stands_first u t ts (stands_trans u v t h s)) (λ s. stands_rest u t ts (any_trans u v ts h s))

-- ---- the arguments of a kept term
module _ {b : ℕ} (list : Plain) (w : WellKept b list) where
  args_are : (q : ℕ) (h : first_terms ≤ q) (l : q < length list) → args_at b list q ≡ (kept_at list w q h l).args
  unfolding args_at
  args_are q h l = ap item_args (kept_at list w q h l).says

  element_below : (m j : ℕ) (ks : List ℕ) → T (all_below m ks) → T (element j ks) → j < m
  element_below m j [] b e = absurd e
  element_below m j (k ∷ ks) b e = go (element_below m j ks (and_r (ltb k m) _ b)) (eqb j k) (eqb→eq j k) e
    where
      go : (T (element j ks) → j < m) → (c : Bool) → (T c → j ≡ k) → T (c || element j ks) → j < m
      go r true f z = subst (λ (x : ℕ). x < m) (sym (f tt)) (ltb→lt k m (and_l (ltb k m) _ b))
      go r false f z = r z

  element_stands : (j : ℕ) (ks : List ℕ) → T (element j ks) → T (stands_any (tree_at list j) (from_list (map (tree_at list) ks)))
  element_stands j [] e = absurd e
  element_stands j (k ∷ ks) e = go (element_stands j ks) (eqb j k) (eqb→eq j k) e
    where
      go : (T (element j ks) → T (stands_any (tree_at list j) (from_list (map (tree_at list) ks)))) → (c : Bool) → (T c → j ≡ k) → T (c || element j ks) → T (stands_any (tree_at list j) (from_list (map (tree_at list) (k ∷ ks))))
      go r true f z = stands_first (tree_at list j) (tree_at list k) (from_list (map (tree_at list) ks)) (subst (λ (x : ℕ). T (stands (tree_at list x) (tree_at list k))) (sym (f tt)) (stands_self (tree_at list k)))
      go r false f z = stands_rest (tree_at list j) (tree_at list k) (from_list (map (tree_at list) ks)) (r z)

  -- they stand before it, and in it
  pub arg_below : (q j : ℕ) → first_terms ≤ q → q < length list → T (element j (args_at b list q)) → j < q
  arg_below q j h l e = element_below q j (kept_at list w q h l).args (kept_at list w q h l).below (subst (λ (ks : List ℕ). T (element j ks)) (args_are q h l) e)

  pub arg_stands : (q j : ℕ) → first_terms ≤ q → q < length list → T (element j (args_at b list q)) → T (stands (tree_at list j) (tree_at list q))
  arg_stands q j h l e =
      let k = kept_at list w q h l in
      subst (λ (z : Term). T (stands (tree_at list j) z)) (sym k.made)
      (stands_in (tree_at list j) k.op _ (element_stands j k.args (subst (λ (ks : List ℕ). T (element j ks)) (args_are q h l) e)))

  -- what stands in a term of the list stands before it, or is it
  pub stands_before : (q : ℕ) → q < length list → (p : ℕ) → p < length list → T (stands (tree_at list p) (tree_at list q)) → p ≤ q
  stands_before q l p h s =
      let a = placed list w (λ j. Unit {0}) (λ i f k z j e. tt) q l tt (tree_at list p) s in
      let e = trees_distinct list w a.place p (omega (arith, a.low)) h a.is in
      omega (arith, a.low)

  -- ---- what stands in a marked term is at a marked place, where marks are closed
  module _ (job work : Bytes) (closed : (q : ℕ) → first_terms ≤ q → q < length list → T (mark_of job work q) → (j : ℕ) → T (element j (args_at b list q)) → T (mark_of job work j)) where
    pub complete : (q : ℕ) → q < length list → T (mark_of job work q) → (p : ℕ) → p < length list → T (stands (tree_at list p) (tree_at list q)) → T (mark_of job work p)
    complete q l m p h s =
        let a = placed list w (λ j. T (mark_of job work j)) (λ i f k z j e. closed i f k z j (subst (λ (ks : List ℕ). T (element j ks)) (sym (args_are i f k)) e)) q l m (tree_at list p) s in
        subst (λ (z : ℕ). T (mark_of job work z)) (trees_distinct list w a.place p (omega (arith, a.low)) h a.is) a.has

-- ---- on the way: the marked terms from k on have their arguments marked
pub record Marking (start : Links) (asked : ℕ) (now : Links) (k : ℕ) : Type 0 where
  pub low : asked < first_terms + start.rows
  pub most : k ≤ asked
  pub kept : Kept start now
  pub top : T (is_marked now asked)
  pub last : (p : ℕ) → first_terms ≤ p → asked < p → p < first_terms + start.rows → is_marked now p ≡ false
  pub sound : (p : ℕ) → first_terms ≤ p → p < first_terms + start.rows → T (is_marked now p) → T (stands (tree_at (list_of start) p) (tree_at (list_of start) asked))
  pub closed : (p : ℕ) → k < p → first_terms ≤ p → p < first_terms + start.rows → T (is_marked now p) → (j : ℕ) → T (element j (args_of start p)) → T (is_marked now j)

T_none : (b : Bool) → (T b → ⊥) → b ≡ false
T_none true f = absurd (f tt)
T_none false f = refl

in_list : (l : Links) {p : ℕ} → p < first_terms + l.rows → p < length (list_of l)
in_list l h = omega (arith, l.shelf.count)

or_cases : (P : Type 0) (a b : Bool) → T (a || b) → (T a → P) → (T b → P) → P
or_cases P true b h f g = f tt
or_cases P false b h f g = g h

module _ {start : Links} {asked : ℕ} where
  -- the arguments of a marked term are marked
  pub marking_term : {now after : Links} {k : ℕ} → Marking start asked now k → first_terms ≤ k → T (is_marked now k) → SetTerm now k after → Marking start asked after (k - 1)
  marking_term {now} {after} {k} m h t r = record {
    low = m.low;
    most = omega (arith, m.most);
    kept = kept_more m.kept r.kept;
    top = old asked m.top;
    last = λ p a l b. last_after p a l b (element p (args_of start k)) refl;
    sound = λ p a b z. or_cases _ (element p (args_of start k)) (is_marked now p) (subst T (marks p) z)
        (λ e. stands_trans _ _ _ (arg_stands (list_of start) start.shelf.well k p h (in_list start k_low) e) (m.sound k h k_low t)) (m.sound p a b);
    closed = λ p l a b z j e. go p a b (subst T (marks p) z) j e (eqb p k) (eqb-true p k) (eqb-false p k) l;
  }
    where
      k_low : k < first_terms + start.rows
      k_low = omega (arith, m.most, m.low)

      marks : (p : ℕ) → is_marked after p ≡ element p (args_of start k) || is_marked now p
      marks p = r.marks_are p ∙ ap (λ (ks : List ℕ). element p ks || is_marked now p) (args_same m.kept k)

      old : (p : ℕ) → T (is_marked now p) → T (is_marked after p)
      old p z = subst T (sym (marks p)) (or_right (element p (args_of start k)) (is_marked now p) z)

      far : (p : ℕ) → k ≤ p → T (element p (args_of start k) || is_marked now p) → T (is_marked now p)
      far p l z =
          or_cases _ (element p (args_of start k)) (is_marked now p) z
          (λ e. let b = arg_below (list_of start) start.shelf.well k p h (in_list start k_low) e in absurd (omega arith)) (λ y. y)

      last_after : (p : ℕ) → first_terms ≤ p → asked < p → p < first_terms + start.rows → (b : Bool) → element p (args_of start k) ≡ b → is_marked after p ≡ false
      last_after p a l b true e = let q = arg_below (list_of start) start.shelf.well k p h (in_list start k_low) (true_T _ e) in absurd (omega (arith, m.most))
      last_after p a l b false e = marks p ∙ ap (λ (c : Bool). c || is_marked now p) e ∙ m.last p a l b

      above : (p : ℕ) → k - 1 < p → (p ≡ k → ⊥) → k < p
      above p l f = omega arith

      go : (p : ℕ) → first_terms ≤ p → p < first_terms + start.rows → T (element p (args_of start k) || is_marked now p) → (j : ℕ) → T (element j (args_of start p))
          → (b : Bool) → (b ≡ true → p ≡ k) → (b ≡ false → p ≡ k → ⊥) → k - 1 < p → T (is_marked after j)
      go p a b z j e true f g l =
          subst T (sym (marks j)) (or_left (element j (args_of start k)) (is_marked now j) (subst (λ (q : ℕ). T (element j (args_of start q))) (f refl) e))
      go p a b z j e false f g l = let u = above p l (g refl) in old j (m.closed p u a b (far p (omega arith) z) j e)

  -- an unmarked term is passed by
  pub marking_pass : {now : Links} {k : ℕ} → Marking start asked now k → first_terms ≤ k → is_marked now k ≡ false → Marking start asked now (k - 1)
  marking_pass {now} {k} m h t = record {
    low = m.low;
    most = omega (arith, m.most);
    kept = m.kept;
    top = m.top;
    last = m.last;
    sound = m.sound;
    closed = λ p l a b z j e. go p l a b z j e (eqb p k) (eqb-true p k) (eqb-false p k);
  }
    where
      above : (p : ℕ) → k - 1 < p → (p ≡ k → ⊥) → k < p
      above p l f = omega arith

      go : (p : ℕ) → k - 1 < p → first_terms ≤ p → p < first_terms + start.rows → T (is_marked now p) → (j : ℕ) → T (element j (args_of start p))
          → (b : Bool) → (b ≡ true → p ≡ k) → (b ≡ false → p ≡ k → ⊥) → T (is_marked now j)
      go p l a b z j e true f g = absurd (subst T (ap (is_marked now) (f refl) ∙ t) z)
      go p l a b z j e false f g = m.closed p (above p l (g refl)) a b z j e

  -- at the end exactly what stands in the asked term is marked; the rows say what they said before the marks were taken off
  pub marking_done : {old now : Links} {k : ℕ} → Kept old start → Marking start asked now k → k < first_terms → Reaches old asked now
  marking_done {old} {now} {k} e m h = record {
    kept = kept_more e m.kept;
    marks_are = λ p a b. marks p a (low_kept e b) ∙ ap (λ (list : Plain). stands (tree_at list p) (tree_at list asked)) e.list_is;
    last = λ p a l b. m.last p a l (low_kept e b);
  }
    where
      marks : (p : ℕ) → first_terms ≤ p → p < first_terms + start.rows → is_marked now p ≡ stands (tree_at (list_of start) p) (tree_at (list_of start) asked)
      marks p a b = T_same (is_marked now p) (stands (tree_at (list_of start) p) (tree_at (list_of start) asked)) (m.sound p a b)
          (complete (list_of start) start.shelf.well now.job.now now.work.now (λ q c d. m.closed q (omega arith) c (omega (arith, start.shelf.count))) asked (in_list start m.low) m.top p (in_list start b))

  pub marking_same : {now after : Links} {k : ℕ} → after ≡ now → Marking start asked now k → Marking start asked after k
  marking_same {k = k} e m = subst (λ (l : Links). Marking start asked l k) (sym e) m

  pub marking_low : {now : Links} {k : ℕ} → Marking start asked now k → k < first_terms + now.rows
  marking_low m = omega (arith, m.most, m.low, m.kept.rows_are)

-- only the asked term is marked at first
pub marking_start : {old mid start : Links} {asked : ℕ} → asked < first_terms + old.rows → Cleared old mid → Set mid asked start → Marking start asked start asked
marking_start {old} {mid} {start} {asked} l c t = record {
  low = low_kept (kept_more c.kept t.kept) l;
  most = omega arith;
  kept = kept_self start;
  top = true_T _ (t.marks_are asked ∙ ap (λ (b : Bool). b || is_marked mid asked) (eq-eqb asked asked refl));
  last = λ p a l b. T_none (is_marked start p) (λ z. let e = only p a b z in absurd (omega arith));
  sound = λ p a b m. subst (λ (z : ℕ). T (stands (tree_at (list_of start) z) (tree_at (list_of start) asked))) (sym (only p a b m)) (stands_self (tree_at (list_of start) asked));
  closed = λ p k a b m. let e = only p a b m in absurd (omega arith);
}
  where
    only : (p : ℕ) → first_terms ≤ p → p < first_terms + start.rows → T (is_marked start p) → p ≡ asked
    only p a b m =
        or_cases (p ≡ asked) (eqb p asked) (is_marked mid p) (subst T (t.marks_are p) m) (eqb→eq p asked) (λ z. absurd (subst T (c.clear p a (omega (arith, c.kept.rows_are, t.kept.rows_are))) z))

-- ---- one term
module _ {job work : Bytes} {n place : ℕ} {t : Decoded} {ops : Operands} (h : TermOn job work n place t) (e : ops ≡ operands_of t) where
  pub term_ready : place < first_terms + n → record { placed : OperandsPlaced job ops; low : T (all_below (first_terms + n) (numbers_of job ops)) }
  unfolding link_bytes
  term_ready l = record {
    placed = subst (OperandsPlaced job) (sym e) h.term_at.placed;
    low = subst (λ (o : Operands). T (all_below (first_terms + n) (numbers_of job o))) (sym e) (more_below place (first_terms + n) (omega arith) (arguments_of job t) (true_T _ h.term_at.below));
  }

-- what was marked are its arguments
pub term_done : {old new : Links} {place : ℕ} {t : Decoded} {ops : Operands} → TermOn old.job.now old.work.now old.rows place t → ops ≡ operands_of t → SetAll old (numbers_of old.job.now ops) new → SetTerm old place new
term_done {old} {new} h e r = subst (λ (ks : List ℕ). SetAll old ks new) (ap (numbers_of old.job.now) e ∙ h.args_are) r
