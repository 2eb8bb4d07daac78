-- A step that is put.
use mathlib.Core.Path.{◌≡◌, refl, sym, ap, ap₂, subst, ◌∙◌}
use mathlib.Core.Bool.{Bool, true, false, cond}
use mathlib.Core.List.{[], ◌∷◌, ◌++◌}
use Rattle.std.specs.Prelude.{Option, None as none, Some as some}
use Prim.Native.Nat.{ℕ, ◌+◌, ◌-◌, ◌<◌, ◌≤◌}
use native.Mathlib.Omega.{arith}
use lib.Dec.{leb, ltb}
use lib.ListN.{length, take, drop}
use lib.Seq.{sets, length-take-le}
use borrow.Author.Tests.{le-leb, lt-leb, lt-ltb, le-ltb}
use Rattle.theory.specs.Record.{Bytes, word_bytes, kind_of, step_kind}
use Rattle.rows.proofs.RowLaws.{sets_append}
use Rattle.text.specs.Reading.{number_end}
use Rattle.text.specs.Writing.{Clean, Lone, kept, placed, words_bytes, step_record, put_step}
use Rattle.text.proofs.Records.{clean_more, kept_step}
use Rattle.text.proofs.Encoding.{record_kind, record_lone}
use Rattle.writer.specs.declared.places.Spot.{Spot}
use Rattle.writer.specs.Places.{so_far, Covered, Ready}
use Rattle.writer.proofs.CoverLaws.{covered_step}
use Rattle.writer.proofs.PlaceLaws.{so_put, put_long, past_put}

-- four numbers in a row
pub step_stored : (out : Bytes) (d rule k : ℕ)
    → sets (sets (sets (sets out d (word_bytes 6)) (d + 2) (word_bytes 100)) (d + 4) (word_bytes rule)) (d + 6) (word_bytes k) ≡ sets out d (step_record rule k)
unfolding step_record
step_stored out d rule k =
    ap (λ (x : Bytes). sets (sets x (d + 4) (word_bytes rule)) (d + 6) (word_bytes k)) (sym (sets_append out d (word_bytes 6) (word_bytes 100)))
    ∙ ap (λ (x : Bytes). sets x (d + 6) (word_bytes k)) (sym (sets_append out d (word_bytes 6 ++ word_bytes 100) (word_bytes rule)))
    ∙ sym (sets_append out d (word_bytes 6 ++ word_bytes 100 ++ word_bytes rule) (word_bytes k))

pub step_row : (out : Bytes) (d rule k : ℕ) {a b c new : Bytes} → a ≡ sets out d (word_bytes 6) → b ≡ sets a (d + 2) (word_bytes 100) → c ≡ sets b (d + 4) (word_bytes rule) → new ≡ sets c (d + 6) (word_bytes k)
    → new ≡ sets out d (step_record rule k)
step_row out d rule k {a} {b} {c} {new} e f g h =
    h ∙ ap (λ (x : Bytes). sets x (d + 6) (word_bytes k)) (g ∙ ap (λ (x : Bytes). sets x (d + 4) (word_bytes rule)) (f ∙ ap (λ (x : Bytes). sets x (d + 2) (word_bytes 100)) e))
    ∙ step_stored out d rule k

pub step_long : (rule k : ℕ) → length (step_record rule k) ≡ 8
unfolding step_record
step_long rule k = refl

step_lone : (rule k : ℕ) → Lone (step_record rule k)
unfolding step_record
step_lone rule k = let sz : 2 + 4 < number_end = omega arith in record_lone step_kind (words_bytes (rule ∷ k ∷ [])) sz

step_kinded : (rule k : ℕ) → kind_of (step_record rule k) ≡ step_kind
unfolding step_record
step_kinded rule k = record_kind step_kind (words_bytes (rule ∷ k ∷ [])) (omega arith)

pub step_over : (room : ℕ) (rule k : ℕ) (job : Bytes) → number_end ≤ k → none ≡ put_step room rule (placed k job)
unfolding put_step
step_over room rule k job h = rw (le-ltb k number_end h)

module _ {out work : Bytes} {s : Spot} (g : Ready out work s) (rule k : ℕ) where
  job_size : length (so_far out s) ≡ s.done
  job_size = length-take-le s.done out g.within

  pub step_full : length out - s.done < 8 → none ≡ put_step (length out) rule (placed k (so_far out s))
  unfolding put_step
  step_full h =
      let l = job_size in
      let m = step_long rule k in
      let w = g.within in
      let b : leb (length (so_far out s) + length (step_record rule k)) (length out) ≡ false = lt-leb (length (so_far out s) + length (step_record rule k)) (length out) (omega arith) in
      sym (ap (λ (x : Bool). cond (ltb k number_end) (cond x (some (so_far out s ++ step_record rule k)) none) none) b ∙ never (ltb k number_end))
    where
      never : (b : Bool) → cond {A = Option Bytes} b none none ≡ none
      never true = refl
      never false = refl

  pub step_fits : 8 ≤ length out - s.done → s.done + length (step_record rule k) ≤ length out
  step_fits h = let m = step_long rule k in let w = g.within in omega arith

  -- the step is put at the end
  module _ (h : 8 ≤ length out - s.done) {new : Bytes} (e : new ≡ sets out s.done (step_record rule k)) where
    abbrev next : Spot
    next = record { done = s.done + 8; terms = s.terms; rows = s.rows; covered = s.covered }

    done_is : s.done + 8 ≡ s.done + length (step_record rule k)
    done_is = let m = step_long rule k in omega arith

    far : so_far new next ≡ so_far out s ++ step_record rule k
    far = ap (λ (m : ℕ). take m new) done_is ∙ so_put g (step_record rule k) (step_fits h) e

    pub step_ready : Ready new work next
    step_ready =
        let r = step_record rule k in
        let job = so_far out s in
        let few = g.few in
        let cnt = g.counted in
        let ln : length new ≡ length out = put_long g r (step_fits h) e in
        let kc : length (kept (so_far new next)) ≡ length (kept job) = ap (λ (x : Bytes). length (kept x)) far ∙ ap length (kept_step job r g.clean (step_lone rule k) (step_kinded rule k)) in
        record {
          within = omega arith;
          counted = omega arith;
          clean = subst Clean (sym far) (clean_more job r g.clean (step_lone rule k));
          few = omega arith;
          rows = subst (λ (x : Bytes). Covered x work s.rows s.covered) (sym far)
              (covered_step g.rows r g.clean (step_lone rule k) (step_kinded rule k));
        }

    pub step_past : drop (s.done + 8) new ≡ drop (s.done + 8) out
    step_past = past_put g (step_record rule k) (step_fits h) e done_is

    pub step_size : length new ≡ length out
    step_size = put_long g (step_record rule k) (step_fits h) e

    pub step_put : k < number_end → some (so_far new next) ≡ put_step (length out) rule (placed k (so_far out s))
    unfolding put_step
    step_put lo =
        let r = step_record rule k in
        let job = so_far out s in
        let l = job_size in
        let m = step_long rule k in
        let w = g.within in
        let b : leb (length job + length r) (length out) ≡ true = le-leb (length job + length r) (length out) (omega arith) in
        sym (ap₂ (λ (x y : Bool). cond x (cond y (some (job ++ r)) none) none) (lt-ltb k number_end lo) b ∙ ap some (sym far))
