-- `all` over the marked places of an asked term, with a test that says whether the kind at a place is bit-level.
use mathlib.Core.Path.{◌≡◌, sym, subst}
use mathlib.Core.Bool.{Bool, true, false}
use mathlib.Core.List.{List, [], ◌∷◌}
use Prim.Native.Nat.{ℕ, ◌+◌, ◌<◌, ◌≤◌}
use native.Mathlib.Omega.{arith}
use denote.Param.Members.{Mut}
use Rattle.std.specs.Prelude.{None as none, Some as some}
use Rattle.std.specs.Fn.{Called, Takes}
use Rattle.std.specs.Iterator.{Yields, ChecksAll, CallableWhile}
use Rattle.std.specs.List.{FoldsTo}
use Rattle.theory.specs.Limit.{first_terms}
use Rattle.store.specs.KeptTerms.{kept_term}
use Rattle.marks.specs.Places.{GivesNext}
use Rattle.marks.specs.declared.Asked.{Asked}
use Rattle.marks.specs.declared.Places.{Places}
use Rattle.marks.proofs.Walking.{Walking, walk_step, walk_at, walk_on, walk_end}
use Rattle.ternary.specs.Bits.{bit_kind_in}
use Rattle.partial.specs.Levels.{IsBitLevel}
use Rattle.partial.proofs.LevelLaws.{Searching, searching_turn, searching_not, searching_done}

-- places so far that are bit-level
abbrev pub Searched : Asked → Places → Type 0
Searched a = Walking a (λ (k : ℕ). Searching a.terms.job.now a.terms.work.now a.terms.rows a.place k)

-- a place up to the asked one
low : (a : Asked) {k : ℕ} → k ≤ a.place → k < first_terms + a.terms.rows
low a h = omega (arith, a.marks.low)

module _ {F : Type 0} (g : Mut F (ℕ × Unit {0}) Bool) (f : F) (a : Asked) where
  -- a call leaves the test as it is, and says what it tests
  abbrev pub Tests : Type 0
  Tests = (x : ℕ) → x < first_terms + a.terms.rows → (b : Bool) (q : F) → Called g f (x, tt) b q → (q ≡ f) × (b ≡ bit_kind_in (kept_term a.terms x))

module _ {F : Type 0} {g : Mut F (ℕ × Unit {0}) Bool} {f : F} {a : Asked} (k : Tests g f a) where
  searched : (xs : List ℕ) {s t : Places} {q : F} → Searched a s → Yields GivesNext s xs t → FoldsTo (λ p x q. Called g p (x, tt) true q) f xs q → Searched a t × (q ≡ f)
  searched [] w y e = (subst (Searched a) y w, sym e)
  searched (x ∷ xs) {q = r} w (j, v, y) (p, c, e) =
      let s = walk_step w v in
      let h = k x (low a s.low) true p c in
      searched xs (walk_on w v (searching_turn (walk_at w v) s.low (sym h.1) s.on)) y (subst (λ z. FoldsTo (λ p x q. Called g p (x, tt) true q) z xs r) h.0 e)

  pub callable : ((x : ℕ) → x < first_terms + a.terms.rows → Takes g f (x, tt)) → {s : Places} → Searched a s → CallableWhile GivesNext g true s f
  callable m w = record { at = λ xs t q x u y e v. let r = searched xs w y e in subst (λ z. Takes g z (x, tt)) (sym r.1) (m x (low a (walk_step r.0 v).low)) }

  pub answered : {r : Bool} {s u : Places} → Searched a s → ChecksAll GivesNext g s f r u → IsBitLevel a r
  answered w (xs, none, q, (t, y, v), e, h) = let r = searched xs w y e in subst (IsBitLevel a) (sym h) (searching_done r.0.so_far (walk_end r.0 v.0))
  answered w (xs, some x, q, (t, y, v), e, (h, (p, c))) =
      let r = searched xs w y e in
      let s = walk_step r.0 v in
      let d = k x (low a s.low) false p (subst (λ z. Called g z (x, tt) false p) r.1 c) in
      subst (IsBitLevel a) (sym h) (searching_not (walk_at r.0 v) s.low s.marked (sym d.1))
