-- The marked places, threaded downwards: each link leads to the next marked place above.
use mathlib.Core.Path.{◌≡◌, refl, sym, ap, subst, ◌∙◌}
use mathlib.Core.Bool.{Bool, true, false, cond}
use Prim.Native.Nat.{ℕ, zero, suc, ◌+◌, ◌-◌, ◌^◌, ◌≤◌, ◌<◌}
use native.Mathlib.Omega.{arith}
use lib.Dec.{T, ltb, eqb}
use borrow.Author.Tests.{eq-eqb, ne_eqb, eqb-true, eqb-false, ltb-true, ltb-false}
use Rattle.theory.specs.Limit.{first_terms}
use Rattle.theory.specs.Record.{Bytes}
use Rattle.theory.specs.Plain.{Plain}
use Rattle.theory.specs.Places.{tree_at}
use Rattle.rows.specs.Layout.{link_at, link_size}
use Rattle.store.specs.Store.{listed}
use Rattle.store.specs.Shelf.{Shelf}
use Rattle.sweeps.specs.Variables.{stands}
use Rattle.sweeps.proofs.Standing.{stands_self}
use Rattle.marks.specs.Marks.{mark_of, Next, following, Threads, Marks, Marked}
use Rattle.marks.specs.Links.{link_of, is_marked, list_of, Kept, Linked, Reaches, Threaded}
use Rattle.marks.specs.declared.links.Links.{Links}
use Rattle.marks.proofs.LinkLaws.{kept_more, link_marks}
use Rattle.marks.proofs.MarkLaws.{mark_low}

-- q is the next marked place above p
abbrev NextOn : Links → ℕ → ℕ → ℕ → Type 0
NextOn l asked p q = Next l.job.now l.work.now asked p q

-- ---- on the way: the marked places above k are threaded
pub record Threading (start : Links) (asked : ℕ) (now : Links) (next k : ℕ) : Type 0 where
  pub low : asked < first_terms + start.rows
  pub most : k ≤ asked
  pub least : 1 ≤ asked → 1 ≤ k
  pub kept : Kept start now
  pub marks_are : (p : ℕ) → is_marked now p ≡ is_marked start p
  pub next_is : Next start.job.now start.work.now asked k next
  pub links : (p : ℕ) → k < p → p ≤ asked → first_terms ≤ p → T (is_marked start p) → Next start.job.now start.work.now asked p (link_of now (p - first_terms))

-- the one after the asked place
after_all : (l : Links) (asked : ℕ) → NextOn l asked asked (suc asked)
after_all l asked = record { above = omega arith; most = omega arith; between = λ r a b. absurd (omega arith); marked = λ h. absurd (omega arith) }

module _ {start : Links} {asked : ℕ} {now : Links} {next k : ℕ} (t : Threading start asked now next k) (h : first_terms ≤ k) where
  -- a marked place
  pub threading_turn : T (is_marked start k) → {after : Links} → Linked now k next after → Threading start asked after k (k - 1)
  threading_turn m {after} s = record {
    low = t.low;
    most = omega (arith, t.most);
    least = λ z. omega arith;
    kept = kept_more t.kept s.kept;
    marks_are = λ p. link_marks s (omega (arith, t.next_is.above)) (subst T (sym (t.marks_are k)) m) p ∙ t.marks_are p;
    next_is = record { above = omega arith; most = omega (arith, t.most); between = λ r a b. absurd (omega arith); marked = λ l. m };
    links = λ p a b l q. go p a b l q (eqb p k) (eqb-true p k) (eqb-false p k);
  }
    where
      higher : (p : ℕ) → k - 1 < p → (p ≡ k → ⊥) → k < p
      higher p a f = omega arith

      go : (p : ℕ) → k - 1 < p → p ≤ asked → first_terms ≤ p → T (is_marked start p) → (c : Bool) → (c ≡ true → p ≡ k) → (c ≡ false → p ≡ k → ⊥) → NextOn start asked p (link_of after (p - first_terms))
      go p a b l q true f g =
          subst (λ (z : ℕ). NextOn start asked z (link_of after (z - first_terms))) (sym (f refl)) (subst (NextOn start asked k) (sym (s.here h)) t.next_is)
      go p a b l q false f g =
          subst (NextOn start asked p) (sym (s.others (p - first_terms) (λ z. g refl (let y : p ≡ k = omega arith in y)))) (t.links p (higher p a (g refl)) b l q)

  -- a place that is not marked
  pub threading_pass : is_marked start k ≡ false → Threading start asked now next (k - 1)
  threading_pass m = record {
    low = t.low;
    most = omega (arith, t.most);
    least = λ z. omega arith;
    kept = t.kept;
    marks_are = t.marks_are;
    next_is = record {
      above = omega (arith, t.next_is.above);
      most = t.next_is.most;
      between = λ r a b. go r a b (eqb r k) (eqb-true r k) (eqb-false r k);
      marked = t.next_is.marked;
    };
    links = λ p a b l q. links p a b l q (eqb p k) (eqb-true p k) (eqb-false p k);
  }
    where
      higher : (p : ℕ) → k - 1 < p → (p ≡ k → ⊥) → k < p
      higher p a f = omega arith

      go : (r : ℕ) → k - 1 < r → r < next → (c : Bool) → (c ≡ true → r ≡ k) → (c ≡ false → r ≡ k → ⊥) → is_marked start r ≡ false
      go r a b true f g = ap (is_marked start) (f refl) ∙ m
      go r a b false f g = t.next_is.between r (higher r a (g refl)) b

      links : (p : ℕ) → k - 1 < p → p ≤ asked → first_terms ≤ p → T (is_marked start p) → (c : Bool) → (c ≡ true → p ≡ k) → (c ≡ false → p ≡ k → ⊥) → NextOn start asked p (link_of now (p - first_terms))
      links p a b l q true f g = absurd (subst T (ap (is_marked start) (f refl) ∙ m) q)
      links p a b l q false f g = t.links p (higher p a (g refl)) b l q

pub threading_same : {start : Links} {asked : ℕ} {now after : Links} {next next' k : ℕ} → after ≡ now → next' ≡ next → Threading start asked now next k → Threading start asked after next' k
threading_same {start} {asked} {now} {after} {next} {next'} {k} e f t =
    subst (λ (l : Links). Threading start asked l next' k) (sym e) (subst (λ (z : ℕ). Threading start asked now z k) (sym f) t)

-- a place up to the asked one is one of the rows, and the next one fits into a link
pub threading_low : {start : Links} {asked : ℕ} {now : Links} {next k : ℕ} → Threading start asked now next k → (p : ℕ) → p ≤ asked → p < first_terms + now.rows
threading_low t p l = omega (arith, t.low, t.kept.rows_are)

pub threading_small : {start : Links} {asked : ℕ} {now : Links} {next k : ℕ} → Threading start asked now next k → next < 256 ^ link_size now.job.now
threading_small {now = now} t = omega (arith, t.low, t.kept.rows_are, t.next_is.most, now.shelf.rows.few)

-- ---- at the end the asked place's link leads to the first
module _ {start : Links} {asked : ℕ} {now : Links} {next k : ℕ} (t : Threading start asked now next k) (l : k < first_terms) (top : T (is_marked start asked)) {after : Links} (s : Linked now asked next after) where
  marks_same : (p : ℕ) → is_marked after p ≡ is_marked start p
  marks_same p = link_marks s (omega (arith, t.next_is.above)) (subst T (sym (t.marks_are asked)) top) p ∙ t.marks_are p

  -- by the marks that are there at the end
  moved : {p q : ℕ} → NextOn start asked p q → NextOn after asked p q
  moved {p} {q} e = record {
    above = e.above;
    most = e.most;
    between = λ r a b. marks_same r ∙ e.between r a b;
    marked = λ h. subst T (sym (marks_same q)) (e.marked h);
  }

  follow : (p : ℕ) → p ≤ asked → T (is_marked start p) → (a b c : Bool) → eqb p asked ≡ a → (a ≡ true → p ≡ asked) → (a ≡ false → p ≡ asked → ⊥)
      → (b ≡ true → p ≡ 0) → (b ≡ false → p ≡ 0 → ⊥) → (c ≡ true → p ≡ 1) → (c ≡ false → p ≡ 1 → ⊥)
      → NextOn start asked p (cond a (suc asked) (cond b 1 (cond c (link_of after (asked - first_terms)) (link_of after (p - first_terms)))))
  follow p h m true b c z a₁ a₂ b₁ b₂ c₁ c₂ = subst (λ (y : ℕ). NextOn start asked y (suc asked)) (sym (a₁ refl)) (after_all start asked)
  follow p h m false true c z a₁ a₂ b₁ b₂ c₁ c₂ =
      let e = b₁ refl in
      record { above = omega arith; most = omega arith; between = λ r x y. absurd (omega arith); marked = λ y. tt }
  follow p h m false false true z a₁ a₂ b₁ b₂ c₁ c₂ =
      let e = c₁ refl in
      let two : first_terms ≤ asked = two_of e (a₂ refl) in
      let k1 : k ≡ p = omega (arith, t.least (let x : 1 ≤ asked = omega arith in x)) in
      subst (NextOn start asked p) (sym (s.here two)) (subst (λ (y : ℕ). NextOn start asked y next) k1 t.next_is)
    where
      two_of : p ≡ 1 → (p ≡ asked → ⊥) → first_terms ≤ asked
      two_of e f = omega arith
  follow p h m false false false z a₁ a₂ b₁ b₂ c₁ c₂ =
      let two : first_terms ≤ p = two_of (b₂ refl) (c₂ refl) in
      subst (NextOn start asked p) (sym (s.others (p - first_terms) (λ y. a₂ refl (let x : p ≡ asked = omega arith in x)))) (t.links p (omega arith) h two m)
    where
      two_of : (p ≡ 0 → ⊥) → (p ≡ 1 → ⊥) → first_terms ≤ p
      two_of f g = omega arith

  pub threading_done : Threaded start asked after
  unfolding following
  threading_done = record {
    kept = kept_more t.kept s.kept;
    marks_are = marks_same;
    threads = λ p h m. moved (follow p h (subst T (marks_same p) m) (eqb p asked) (eqb p 0) (eqb p 1) refl (eqb-true p asked) (eqb-false p asked) (eqb-true p 0) (eqb-false p 0) (eqb-true p 1) (eqb-false p 1));
  }

-- ---- marked and threaded
-- the asked term is marked
pub marks_top : {old mid : Links} {asked : ℕ} → asked < first_terms + old.rows → Reaches old asked mid → T (is_marked mid asked)
marks_top {old} {mid} {asked} l m = go (ltb asked first_terms) (ltb-true asked first_terms) (ltb-false asked first_terms)
  where
    go : (b : Bool) → (b ≡ true → asked < first_terms) → (b ≡ false → first_terms ≤ asked) → T (is_marked mid asked)
    go true f g = subst T (mark_low mid.job.now mid.work.now asked (f refl)) tt
    go false f g = subst T (sym (m.marks_are asked (g refl) l)) (stands_self (tree_at (list_of old) asked))

-- `after` is what the memory holds, where it is the one that was lent
pub marks_threaded : {old mid new : Links} {asked : ℕ} {after : Bytes} → Reaches old asked mid → Threaded mid asked new → (old.work.ghost_name ≡ new.work.ghost_name → after ≡ new.work.now) → Marks old.job.now old.work.now old.rows asked after
marks_threaded {old} {mid} {new} {asked} m t f = subst (Marks old.job.now old.work.now old.rows asked) (sym (f (sym e.memory_is))) (record {
  shelf = subst (λ (n : ℕ). Shelf old.job.now new.work.now n) e.rows_are (subst (λ (j : Bytes). Shelf j new.work.now new.rows) e.job_is new.shelf);
  list_is = sym (ap (λ (j : Bytes). listed j new.work.now new.rows) e.job_is ∙ ap (listed old.job.now new.work.now) e.rows_are) ∙ e.list_is;
  length_is = e.length_is;
  marks_are = λ p a b. same p ∙ m.marks_are p a b;
  last = λ p a l b. same p ∙ m.last p a l b;
  threads = subst (λ (j : Bytes). Threads j new.work.now asked) e.job_is t.threads;
})
  where
    e : Kept old new
    e = kept_more m.kept t.kept

    same : (p : ℕ) → mark_of old.job.now new.work.now p ≡ is_marked mid p
    same p = sym (ap (λ (j : Bytes). mark_of j new.work.now p) e.job_is) ∙ t.marks_are p

module _ {job work : Bytes} {n asked : ℕ} where
  -- what a call of `mark_from` leaves
  pub marks_marked : {after : Bytes} → asked < first_terms + n → Marks job work n asked after → Marked job after n asked
  marks_marked l m = record {
    shelf = m.shelf;
    low = l;
    marks_are = λ p a b. m.marks_are p a b ∙ ap (λ (list : Plain). stands (tree_at list p) (tree_at list asked)) (sym m.list_is);
    last = m.last;
    threads = m.threads;
  }

-- ---- where a link leads
module _ (job work : Bytes) (asked place : ℕ) where
  pub following_last : place ≡ asked → asked + 1 ≡ following job work asked place
  unfolding following
  following_last e = (let z : asked + 1 ≡ suc asked = omega arith in z) ∙ sym (ap (λ (b : Bool). cond b (suc asked) (cond (eqb place 0) 1 (cond (eqb place 1) (link_at (link_size job) work (asked - first_terms)) (link_at (link_size job) work (place - first_terms))))) (eq-eqb place asked e))

  module _ (f : place ≡ asked → ⊥) where
    not_last : following job work asked place ≡ cond (eqb place 0) 1 (cond (eqb place 1) (link_at (link_size job) work (asked - first_terms)) (link_at (link_size job) work (place - first_terms)))
    unfolding following
    not_last = ap (λ (b : Bool). cond b (suc asked) (cond (eqb place 0) 1 (cond (eqb place 1) (link_at (link_size job) work (asked - first_terms)) (link_at (link_size job) work (place - first_terms))))) (ne_eqb place asked f)

    pub following_true : place ≡ 0 → 1 ≡ following job work asked place
    following_true e = sym (not_last ∙ ap (λ (b : Bool). cond b 1 (cond (eqb place 1) (link_at (link_size job) work (asked - first_terms)) (link_at (link_size job) work (place - first_terms)))) (eq-eqb place 0 e))

    pub following_false : (place ≡ 0 → ⊥) → place ≡ 1 → {r : ℕ} → r ≡ link_at (link_size job) work (asked - first_terms) → r ≡ following job work asked place
    following_false g e z =
        z ∙ sym (not_last ∙ ap (λ (b : Bool). cond b 1 (cond (eqb place 1) (link_at (link_size job) work (asked - first_terms)) (link_at (link_size job) work (place - first_terms)))) (ne_eqb place 0 g)
        ∙ ap (λ (b : Bool). cond b (link_at (link_size job) work (asked - first_terms)) (link_at (link_size job) work (place - first_terms))) (eq-eqb place 1 e))

    pub following_row : (place ≡ 0 → ⊥) → (place ≡ 1 → ⊥) → {r : ℕ} → r ≡ link_at (link_size job) work (place - first_terms) → r ≡ following job work asked place
    following_row g e z =
        z ∙ sym (not_last ∙ ap (λ (b : Bool). cond b 1 (cond (eqb place 1) (link_at (link_size job) work (asked - first_terms)) (link_at (link_size job) work (place - first_terms)))) (ne_eqb place 0 g)
        ∙ ap (λ (b : Bool). cond b (link_at (link_size job) work (asked - first_terms)) (link_at (link_size job) work (place - first_terms))) (ne_eqb place 1 e))

-- ---- from place to place
-- a property that holds at j holds at stop, if the places between keep it
pub jump : (P Q : ℕ → Type 0) (stop : ℕ) → ((j : ℕ) → j < stop → Q j → P j → P (j + 1)) → (d j : ℕ) → j + d ≡ stop → ((r : ℕ) → j ≤ r → r < stop → Q r) → P j → P stop
jump P Q stop f zero j e h p = subst P (let z : j ≡ stop = omega arith in z) p
jump P Q stop f (suc d) j e h p =
    jump P Q stop f d (j + 1) (omega arith) (λ r a b. h r (omega arith) b) (f j (omega arith) (h j (omega arith) (omega arith)) p)
