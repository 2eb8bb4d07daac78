-- Marks in the links of rows: one, none, and several.
use mathlib.Core.Path.{◌≡◌, refl, sym, ap, subst, ◌∙◌}
use mathlib.Core.Bool.{Bool, true, false, not, ◌||◌}
use mathlib.Core.List.{List, [], ◌∷◌}
use Prim.Native.Nat.{ℕ, zero, suc, ◌+◌, ◌-◌, ◌^◌, ◌≤◌, ◌<◌}
use native.Mathlib.Nat.{pow-le-pow_right}
use native.Mathlib.Omega.{arith}
use lib.Dec.{T, ltb, eqb, ltb→lt}
use lib.Ieee.Fits.{and_l, and_r}
use lib.ListN.{length, drop}
use borrow.Author.Tests.{eqb-true, eqb-false}
use Rattle.theory.specs.Limit.{first_terms}
use Rattle.theory.specs.Record.{Bytes}
use Rattle.theory.specs.Claim.{element}
use Rattle.theory.specs.Codes.{all_below}
use Rattle.theory.proofs.Bytes.{words_length}
use Rattle.terms.specs.declared.Args.{Args}
use Rattle.terms.specs.Decoded.{words_in}
use Rattle.terms.proofs.Numbers.{length_of}
use Rattle.rows.specs.Layout.{link_size}
use Rattle.rows.proofs.RowLaws.{link_whole}
use Rattle.store.specs.Shelf.{Shelf}
use Rattle.marks.specs.Marks.{mark_of, Marks, LinksFree}
use Rattle.marks.specs.Links.{link_of, is_marked, Kept, Put, Linked, Cleared, Set, SetAll}
use Rattle.marks.specs.declared.links.Links.{Links}
use Rattle.marks.proofs.LinkLaws.{kept_self, kept_more}

pub mark_low : (job work : Bytes) (place : ℕ) → place < first_terms → true ≡ mark_of job work place
mark_low job work zero l = refl
mark_low job work (suc zero) l = refl
mark_low job work (suc (suc k)) l = absurd (omega arith)

-- ---- one mark
or_true : (b : Bool) → true ≡ b || true
or_true true = refl
or_true false = refl

-- it fits into a link
pub mark_fits : (job : Bytes) → 1 < 256 ^ link_size job
mark_fits job = let p : 256 ^ 1 ≤ 256 ^ link_size job = pow-le-pow_right (omega arith) (link_whole (length_of job)).some_bytes in omega arith

pub set_one : {old new : Links} {place : ℕ} → Linked old place 1 new → Set old place new
set_one {old} {new} {place} s = record { kept = s.kept; marks_are = marks }
  where
    go : (i : ℕ) (b : Bool) → (b ≡ true → suc (suc i) ≡ place) → (b ≡ false → suc (suc i) ≡ place → ⊥) → is_marked new (suc (suc i)) ≡ b || is_marked old (suc (suc i))
    go i true f g =
        let e = f refl in
        let k : i ≡ place - first_terms = omega arith in
        ap (λ (z : ℕ). not (eqb z 0)) (ap (link_of new) k ∙ s.here (omega arith))
    go i false f g = ap (λ (z : ℕ). not (eqb z 0)) (s.others i (g refl))

    marks : (p : ℕ) → is_marked new p ≡ eqb p place || is_marked old p
    marks zero = or_true (eqb 0 place)
    marks (suc zero) = or_true (eqb 1 place)
    marks (suc (suc i)) = go i (eqb (suc (suc i)) place) (eqb-true (suc (suc i)) place) (eqb-false (suc (suc i)) place)

-- ---- clearing
-- the first k rows have no mark
pub record Clearing (start now : Links) (k : ℕ) : Type 0 where
  pub kept : Kept start now
  pub most : k ≤ start.rows
  pub clear : (p : ℕ) → first_terms ≤ p → p < first_terms + k → is_marked now p ≡ false

module _ {start now : Links} {k : ℕ} (c : Clearing start now k) where
  pub clearing_turn : k < start.rows → {after : Links} → Put now k 0 after → Clearing start after (k + 1)
  clearing_turn l {after} s = record {
    kept = kept_more c.kept s.kept;
    most = omega arith;
    clear = λ p a b. go p a b (eqb p (suc (suc k))) (eqb-true p (suc (suc k))) (eqb-false p (suc (suc k)));
  }
    where
      none : is_marked after (suc (suc k)) ≡ false
      none = let p = mark_fits now.job.now in ap (λ (z : ℕ). not (eqb z 0)) (s.here (omega arith))

      other : (p : ℕ) → (p ≡ suc (suc k) → ⊥) → is_marked after p ≡ is_marked now p
      other zero f = refl
      other (suc zero) f = refl
      other (suc (suc i)) f = ap (λ (z : ℕ). not (eqb z 0)) (s.others i (λ e. f (ap (λ (z : ℕ). suc (suc z)) e)))

      below : (p : ℕ) → p < first_terms + (k + 1) → (p ≡ suc (suc k) → ⊥) → p < first_terms + k
      below p b n = omega arith

      go : (p : ℕ) → first_terms ≤ p → p < first_terms + (k + 1) → (b : Bool) → (b ≡ true → p ≡ suc (suc k)) → (b ≡ false → p ≡ suc (suc k) → ⊥) → is_marked after p ≡ false
      go p a b true f g = ap (is_marked after) (f refl) ∙ none
      go p a b false f g = other p (g refl) ∙ c.clear p a (below p b (g refl))

  pub clearing_done : start.rows ≤ k → Cleared start now
  clearing_done l = record { kept = c.kept; clear = λ p a b. c.clear p a (omega (arith, c.most)) }

-- ---- several marks
all_none : (l : Links) → SetAll l [] l
all_none l = record { kept = kept_self l; marks_are = λ p. refl }

or_swap : (a b c : Bool) → a || (b || c) ≡ (b || a) || c
or_swap true true c = refl
or_swap true false c = refl
or_swap false true c = refl
or_swap false false c = refl

-- one, and then the others
set_then : {old mid new : Links} {k : ℕ} {ks : List ℕ} → Set old k mid → SetAll mid ks new → SetAll old (k ∷ ks) new
set_then {old} {k = k} {ks} s r = record {
  kept = kept_more s.kept r.kept;
  marks_are = λ p. r.marks_are p ∙ ap (λ (b : Bool). element p ks || b) (s.marks_are p) ∙ or_swap (element p ks) (eqb p k) (is_marked old p);
}

-- the first place of a list, and the others
first_below : (m k : ℕ) (ks : List ℕ) → T (all_below m (k ∷ ks)) → k < m
first_below m k ks b = ltb→lt k m (and_l (ltb k m) _ b)

others_below : (m k : ℕ) (ks : List ℕ) → T (all_below m (k ∷ ks)) → T (all_below m ks)
others_below m k ks b = and_r (ltb k m) _ b

-- ---- a list: where the rest is marked, all are
pub record Listing (start : Links) (ks : List ℕ) (now : Links) (rest : List ℕ) : Type 0 where
  pub low : T (all_below (first_terms + now.rows) rest)
  pub whole : (after : Links) → SetAll now rest after → SetAll start ks after

pub listing_start : {start : Links} {ks rest : List ℕ} → rest ≡ ks → T (all_below (first_terms + start.rows) ks) → Listing start ks start rest
listing_start {start} {ks} e l = subst (Listing start ks start) (sym e) (record { low = l; whole = λ after s. s })

module _ {start : Links} {ks : List ℕ} {now : Links} {rest : List ℕ} (l : Listing start ks now rest) where
  on : {others : List ℕ} → rest ≡ others → Listing start ks now others
  on e = subst (Listing start ks now) e l

  pub listing_low : {k : ℕ} {others : List ℕ} → rest ≡ k ∷ others → k < first_terms + now.rows
  listing_low {k} {others} e = first_below (first_terms + now.rows) k others (on e).low

  pub listing_turn : {k : ℕ} {others : List ℕ} {after : Links} → rest ≡ k ∷ others → Set now k after → Listing start ks after others
  listing_turn {k} {others} e s = record {
    low = subst (λ (n : ℕ). T (all_below (first_terms + n) others)) (sym s.kept.rows_are) (others_below (first_terms + now.rows) k others (on e).low);
    whole = λ last r. (on e).whole last (set_then s r);
  }

  pub listing_done : rest ≡ [] → SetAll start ks now
  listing_done e = (on e).whole now (all_none now)

-- the numbers of a list in the job
pub count_is : (job : Bytes) (a : Args) → length (words_in job a) ≡ a.count
count_is job a = words_length a.bytes a.count (drop a.at job)

-- ---- what a call leaves
-- nothing was marked
pub rows_kept : {job work : Bytes} {n : ℕ} → Shelf job work n → LinksFree job work n work
rows_kept s = record { shelf = s; list_is = refl; length_is = refl }

-- the terms that stand in the asked one were
pub rows_marked : {job work after : Bytes} {n asked : ℕ} → Marks job work n asked after → LinksFree job work n after
rows_marked m = record { shelf = m.shelf; list_is = m.list_is; length_is = m.length_is }
