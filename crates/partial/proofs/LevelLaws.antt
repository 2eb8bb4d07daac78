-- A term of kinds that are not refused: every term that stands in it is of such a kind.
use mathlib.Core.Path.{◌≡◌, refl, sym, subst}
use mathlib.Core.Bool.{Bool, true, false}
use mathlib.Core.List.{List}
use Prim.Native.Nat.{ℕ, zero, suc, ◌+◌, ◌-◌, ◌≤◌, ◌<◌}
use native.Mathlib.Omega.{arith}
use lib.Dec.{T, leb, eqb}
use lib.Ieee.Fits.{and_l, and_r, and_i}
use lib.ListN.{length}
use borrow.Author.Tests.{eqb-true, eqb-false, ltb-true, ltb-false, leb-true, leb-false}
use lib.Dec.{ltb}
use Rattle.theory.specs.Limit.{first_terms}
use Rattle.theory.specs.Term.{Term, Terms, node, nil, cons}
use Rattle.theory.specs.Record.{Bytes, number_length}
use Rattle.theory.specs.Claim.{element}
use Rattle.theory.proofs.Basics.{true_T, T_true}
use Rattle.theory.proofs.Distinct.{tree_0, tree_1}
use Rattle.theory.specs.Places.{tree_at}
use Rattle.store.specs.Store.{listed}
use Rattle.store.specs.Shelf.{args_at}
use Rattle.store.proofs.Keeping.{first_args}
use Rattle.marks.proofs.Marking.{arg_below, arg_stands, stands_trans}
use Rattle.sweeps.specs.Variables.{stands, stands_any}
use Rattle.sweeps.specs.Known.{bit_level, all_bit_level}
use Rattle.sweeps.proofs.Standing.{stands_self, stands_in, stands_first, stands_rest, stands_cases, any_cases, no_arguments}
use Rattle.sweeps.proofs.Placing.{placed}
use Rattle.marks.specs.Marks.{mark_of, Next, Marked}
use Rattle.marks.proofs.MarkLaws.{mark_low}
use Rattle.marks.proofs.Threading.{jump}
use Rattle.ternary.specs.Bits.{bit_kind_in, Closed}
use Rattle.partial.specs.Levels.{BitLevel}

-- ---- terms
mutual
  unfolding bit_level

  kinds_of : (t : Term) → T (bit_level t) → (u : Term) → T (stands u t) → T (bit_kind_in u)
  kinds_of (node o ts) h u s =
      stands_cases (T (bit_kind_in u)) u o ts s (λ e. subst (λ (z : Term). T (bit_kind_in z)) (sym e) (and_l (bit_kind_in (node o ts)) (all_bit_level ts) h))
      (λ k. kinds_any ts (and_r (bit_kind_in (node o ts)) (all_bit_level ts) h) u k)

  kinds_any : (ts : Terms) → T (all_bit_level ts) → (u : Term) → T (stands_any u ts) → T (bit_kind_in u)
  kinds_any nil h u s = absurd (no_arguments u s)
  kinds_any (cons t ts) h u s = any_cases (T (bit_kind_in u)) u t ts s (λ k. kinds_of t (and_l (bit_level t) (all_bit_level ts) h) u k) (λ k. kinds_any ts (and_r (bit_level t) (all_bit_level ts) h) u k)

mutual
  unfolding bit_level

  level_by : (t : Term) → ((u : Term) → T (stands u t) → T (bit_kind_in u)) → T (bit_level t)
  level_by (node o ts) f = and_i (bit_kind_in (node o ts)) (all_bit_level ts) (f (node o ts) (stands_self (node o ts))) (all_by ts (λ u s. f u (stands_in u o ts s)))

  all_by : (ts : Terms) → ((u : Term) → T (stands_any u ts) → T (bit_kind_in u)) → T (all_bit_level ts)
  all_by nil f = tt
  all_by (cons t ts) f = and_i (bit_level t) (all_bit_level ts) (level_by t (λ u s. f u (stands_first u t ts s))) (all_by ts (λ u s. f u (stands_rest u t ts s)))

off : (b : Bool) → (T b → ⊥) → false ≡ b
off true f = absurd (f tt)
off false f = refl

-- ---- the loop
pub record Searching (job work : Bytes) (n asked k : ℕ) : Type 0 where
  pub marked : Marked job work n asked
  pub most : k ≤ suc asked
  pub kinds : (p : ℕ) → p < k → T (mark_of job work p) → T (bit_kind_in (tree_at (listed job work n) p))

module _ {job work : Bytes} {n asked : ℕ} where
  pub searching_start : Marked job work n asked → Searching job work n asked 0
  searching_start m = record { marked = m; most = omega arith; kinds = λ p l. absurd (omega arith) }

  -- one place more, whose kind is not refused or which is unmarked
  searching_more : {k : ℕ} → Searching job work n asked k → k ≤ asked → (T (mark_of job work k) → T (bit_kind_in (tree_at (listed job work n) k))) → Searching job work n asked (k + 1)
  searching_more {k} s l e = record {
    marked = s.marked;
    most = omega arith;
    kinds = λ p h m. go p h m (eqb p k) (eqb-true p k) (eqb-false p k);
  }
    where
      lower : (p : ℕ) → p < k + 1 → (p ≡ k → ⊥) → p < k
      lower p l f = omega arith

      go : (p : ℕ) → p < k + 1 → T (mark_of job work p) → (b : Bool) → (b ≡ true → p ≡ k) → (b ≡ false → p ≡ k → ⊥) → T (bit_kind_in (tree_at (listed job work n) p))
      go p h m true x y = subst (λ (q : ℕ). T (bit_kind_in (tree_at (listed job work n) q))) (sym (x refl)) (e (subst (λ (q : ℕ). T (mark_of job work q)) (x refl) m))
      go p h m false x y = s.kinds p (lower p h (y refl)) m

  pub searching_turn : {k q : ℕ} → Searching job work n asked k → k ≤ asked → bit_kind_in (tree_at (listed job work n) k) ≡ true → Next job work asked k q → Searching job work n asked q
  searching_turn {k} {q} s l e x =
      jump (Searching job work n asked) (λ r. mark_of job work r ≡ false) q
      (λ j h m i. searching_more i (omega (arith, x.most)) (λ t. absurd (subst T m t))) (q - (k + 1)) (k + 1) (omega (arith, x.above)) (λ r a b. x.between r (omega arith) b)
      (searching_more s l (λ t. true_T _ e))

  -- a place where a term of the asked one stands is marked
  marks_it : Marked job work n asked → (p : ℕ) → p < first_terms + n → T (stands (tree_at (listed job work n) p) (tree_at (listed job work n) asked)) → T (mark_of job work p)
  marks_it m p l s = go (ltb p first_terms) (ltb-true p first_terms) (ltb-false p first_terms)
    where
      go : (b : Bool) → (b ≡ true → p < first_terms) → (b ≡ false → first_terms ≤ p) → T (mark_of job work p)
      go true f g = subst T (mark_low job work p (f refl)) tt
      go false f g = subst T (sym (m.marks_are p (g refl) l)) s

  -- `true` and `false` are not refused
  low_kind : Marked job work n asked → (p : ℕ) → p < first_terms → T (bit_kind_in (tree_at (listed job work n) p))
  low_kind m zero h = subst (λ (z : Term). T (bit_kind_in z)) (sym (tree_0 (listed job work n) m.shelf.well)) tt
  low_kind m (suc zero) h = subst (λ (z : Term). T (bit_kind_in z)) (sym (tree_1 (listed job work n) m.shelf.well)) tt
  low_kind m (suc (suc p)) h = absurd (omega arith)

  pub searching_done : {k : ℕ} → Searching job work n asked k → asked < k → BitLevel (listed job work n) job work n asked true
  searching_done {k} s h = record {
    is = sym (T_true (bit_level (tree_at (listed job work n) asked)) (level_by (tree_at (listed job work n) asked) each));
    kinds = λ e p l m. all p l m (ltb p first_terms) (ltb-true p first_terms) (ltb-false p first_terms) (leb p asked) (leb-true p asked) (leb-false p asked);
  }
    where
      all : (p : ℕ) → p < first_terms + n → T (mark_of job work p) → (b : Bool) → (b ≡ true → p < first_terms) → (b ≡ false → first_terms ≤ p) → (c : Bool) → (c ≡ true → p ≤ asked) → (c ≡ false → asked < p) → T (bit_kind_in (tree_at (listed job work n) p))
      all p l m true f g c x y = low_kind s.marked p (f refl)
      all p l m false f g true x y = let z = x refl in s.kinds p (omega arith) m
      all p l m false f g false x y = absurd (subst T (s.marked.last p (g refl) (y refl) l) m)

      each : (u : Term) → T (stands u (tree_at (listed job work n) asked)) → T (bit_kind_in u)
      each u t =
          let m = s.marked in
          let a : asked < length (listed job work n) = omega (arith, m.shelf.count, m.low) in
          let q = placed (listed job work n) m.shelf.well (λ j. Unit {0}) (λ i f k z j e. tt) asked a tt u t in
          subst (λ (z : Term). T (bit_kind_in z)) q.is
          (s.kinds q.place (omega (arith, q.low)) (marks_it m q.place (omega (arith, q.low, m.low)) (subst (λ (z : Term). T (stands z (tree_at (listed job work n) asked))) (sym q.is) t)))

  pub searching_not : {k : ℕ} → Searching job work n asked k → k ≤ asked → T (mark_of job work k) → bit_kind_in (tree_at (listed job work n) k) ≡ false → BitLevel (listed job work n) job work n asked false
  searching_not {k} s l m e = record {
    is = off (bit_level (tree_at (listed job work n) asked)) (λ t. subst T e (go (ltb k first_terms) (ltb-true k first_terms) (ltb-false k first_terms) t));
    kinds = λ f. absurd (let z : ◌≡◌ {A = ℕ} 0 1 = cc in omega arith);
  }
    where
      go : (b : Bool) → (b ≡ true → k < first_terms) → (b ≡ false → first_terms ≤ k) → T (bit_level (tree_at (listed job work n) asked)) → T (bit_kind_in (tree_at (listed job work n) k))
      go true f g t = low_kind s.marked k (f refl)
      go false f g t = kinds_of (tree_at (listed job work n) asked) t (tree_at (listed job work n) k) (subst T (s.marked.marks_are k (g refl) (omega (arith, s.marked.low))) m)

  -- the marked terms, once all of them are bit-level
  pub closed_of : Marked job work n asked → BitLevel (listed job work n) job work n asked true → Closed job work n
  closed_of m a = record {
    shelf = m.shelf;
    closed = λ p l k j e. go p l k j e (ltb p first_terms) (ltb-true p first_terms) (ltb-false p first_terms);
    kinds = a.kinds refl;
  }
    where
      go : (p : ℕ) → p < first_terms + n → T (mark_of job work p) → (j : ℕ) → T (element j (args_at (number_length job) (listed job work n) p)) → (b : Bool) → (b ≡ true → p < first_terms) → (b ≡ false → first_terms ≤ p) → T (mark_of job work j)
      go p l k j e true f g = absurd (subst (λ (ks : List ℕ). T (element j ks)) (first_args (listed job work n) m.shelf.well p (f refl)) e)
      go p l k j e false f g =
          let q : p < length (listed job work n) = omega (arith, m.shelf.count) in
          let w = m.shelf.well in
          let below = arg_below (listed job work n) w p j (g refl) q e in
          marks_it m j (omega arith)
          (stands_trans (tree_at (listed job work n) j) (tree_at (listed job work n) p) (tree_at (listed job work n) asked) (arg_stands (listed job work n) w p j (g refl) q e) (subst T (m.marks_are p (g refl) l) k))
