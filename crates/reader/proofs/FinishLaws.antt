-- A term whose arguments are put.
use mathlib.Core.Path.{◌≡◌, refl, sym, ap, ◌∙◌}
use mathlib.Core.Bool.{Bool, true, false, cond}
use mathlib.Core.Logic.{◌⊎◌, inl, inr}
use mathlib.Core.List.{List, [], ◌∷◌}
use Rattle.std.specs.Prelude.{Option, None as none, Some as some}
use Prim.Native.Nat.{ℕ, suc, ◌<◌}
use native.Mathlib.Omega.{arith}
use lib.ListN.{length}
use borrow.Author.Tests.{ne_eqb}
use Rattle.theory.specs.Limit.{first_terms}
use Rattle.theory.specs.Kind.{Op, True, False, kind, arity, takes}
use Rattle.theory.specs.Record.{Bytes}
use Rattle.theory.specs.Codes.{all_below}
use Rattle.text.specs.Reading.{bind, number_end}
use Rattle.text.specs.Writing.{Placed, placed, placed_all, put_term}
use Rattle.text.proofs.Placed.{low}
use Rattle.writer.specs.declared.places.Writer.{Writer}
use Rattle.writer.specs.Written.{job_of, told_put}
use Rattle.words.proofs.ReadLaws.{told_some}
use Rattle.reader.specs.Reader.{Got, got, got_all, leaf_write, finish}

-- `true` and `false` take no arguments, so none that is too large
pub low_takes : (o : Op) → kind o < first_terms → (ks : List ℕ) → all_below number_end ks ≡ false → takes (arity o) (length ks) ≡ false
low_takes o h [] e = absurd (let z : ◌≡◌ {A = ℕ} 0 1 = cc in omega arith)
low_takes o h (k ∷ ks) e = go (low o h)
  where
    go : (o ≡ True) ⊎ (o ≡ False) → takes (arity o) (suc (length ks)) ≡ false
    go (inl f) = ap (λ (x : Op). takes (arity x) (suc (length ks))) f ∙ ne_eqb (suc (length ks)) 0 (λ q. omega arith)
    go (inr f) = ap (λ (x : Op). takes (arity x) (suc (length ks))) f ∙ ne_eqb (suc (length ks)) 0 (λ q. omega arith)

-- ---- a term whose arguments are put
module _ (room : ℕ) (o : Op) (ks : List ℕ) (rest job : Bytes) where
  pub finish_not : takes (arity o) (length ks) ≡ false → finish room o (got_all ks rest job) ≡ none
  unfolding finish
  finish_not e = rw e

  pub finish_full : put_term room o (placed_all ks job) ≡ none → finish room o (got_all ks rest job) ≡ none
  unfolding finish
  finish_full e = ap (λ (q : Option Placed). cond (takes (arity o) (length ks)) (bind q (λ p. some (got p.number rest p.job))) none) e ∙ never (takes (arity o) (length ks))
    where
      never : (b : Bool) → cond {A = Option Got} b none none ≡ none
      never true = refl
      never false = refl

  pub finish_put : takes (arity o) (length ks) ≡ true → {k : ℕ} {j : Bytes} → put_term room o (placed_all ks job) ≡ some (placed k j) → finish room o (got_all ks rest job) ≡ some (got k rest j)
  unfolding finish
  finish_put t e = rw (t, e)

  pub leaf_full : put_term room o (placed_all [] job) ≡ none → leaf_write room o rest job ≡ none
  unfolding leaf_write
  leaf_full e = rw e

  pub leaf_put : {k : ℕ} {j : Bytes} → put_term room o (placed_all [] job) ≡ some (placed k j) → leaf_write room o rest job ≡ some (got k rest j)
  unfolding leaf_write
  leaf_put e = rw e

-- what was put, with what is left of the line
module _ (new : Writer) (room : ℕ) (o : Op) (rest job : Bytes) where
  pub finish_reads : (ks : List ℕ) (r : Option ℕ) {k : ℕ} → takes (arity o) (length ks) ≡ true
      → told_put new r ≡ put_term room o (placed_all ks job) → r ≡ some k → some (got k rest (job_of new)) ≡ finish room o (got_all ks rest job)
  finish_reads ks r t e f = sym (finish_put room o ks rest job t (told_some _ r e f))

  pub leaf_reads : (r : Option ℕ) {k : ℕ}
      → told_put new r ≡ put_term room o (placed_all [] job) → r ≡ some k → some (got k rest (job_of new)) ≡ leaf_write room o rest job
  leaf_reads r e f = sym (leaf_put room o [] rest job (told_some _ r e f))
