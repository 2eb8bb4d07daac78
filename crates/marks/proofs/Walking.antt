-- A walk over the marked places: each item is the place that the walk stands at, and the walk goes on to the next marked one.
use mathlib.Core.Path.{◌≡◌, sym, ap, subst, ◌∙◌}
use Prim.Native.Nat.{ℕ, ◌≤◌, ◌<◌}
use lib.Dec.{T}
use Rattle.marks.specs.Asked.{next_of}
use Rattle.marks.specs.Marks.{mark_of, Next}
use Rattle.marks.specs.Places.{Gives}
use Rattle.marks.specs.declared.Asked.{Asked}
use Rattle.marks.specs.declared.Places.{Places}

-- an item is a marked place, and the next one is q
pub record Stepping (a : Asked) (k q : ℕ) : Type 0 where
  pub low : k ≤ a.place
  pub marked : T (mark_of a.terms.job.now a.terms.work.now k)
  pub on : Next a.terms.job.now a.terms.work.now a.place k q

-- the walk s of the asked term stands where P holds
pub record Walking (a : Asked) (P : ℕ → Type 0) (s : Places) : Type 0 where
  pub asked_is : s.asked ≡ a
  pub so_far : P s.next

-- at first
pub walk_start : {a : Asked} {s t : Places} (P : ℕ → Type 0) → t ≡ s → s.asked ≡ a → s.next ≡ 0 → P 0 → Walking a P t
walk_start P i e z p = record { asked_is = ap (λ (x : Places). x.asked) i ∙ e; so_far = subst P (sym (ap (λ (x : Places). x.next) i ∙ z)) p }

module _ {a : Asked} {P : ℕ → Type 0} {s t : Places} {k : ℕ} (w : Walking a P s) (g : Gives s k t) where
  from : Stepping s.asked s.next t.next
  from = record {
    low = g.low;
    marked = s.marked g.low;
    on = subst (Next _ _ _ s.next) (sym (g.next_is ∙ ap (next_of s.asked) g.item_is)) (s.asked.marks.threads s.next g.low (s.marked g.low));
  }

  pub walk_step : Stepping a k t.next
  walk_step = subst (λ (z : ℕ). Stepping a z t.next) (sym g.item_is) (subst (λ (z : Asked). Stepping z s.next t.next) w.asked_is from)

  pub walk_at : P k
  walk_at = subst P (sym g.item_is) w.so_far

  pub walk_on : {Q : ℕ → Type 0} → Q t.next → Walking a Q t
  walk_on q = record { asked_is = g.asked_is ∙ w.asked_is; so_far = q }

-- after the last
pub walk_end : {a : Asked} {P : ℕ → Type 0} {s : Places} → Walking a P s → s.asked.place < s.next → a.place < s.next
walk_end {s = s} w l = subst (λ (z : Asked). z.place < s.next) w.asked_is l
