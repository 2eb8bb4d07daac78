-- A term that is put.
use mathlib.Core.Path.{◌≡◌, refl, sym, ap, subst, ◌∙◌}
use mathlib.Core.Bool.{true, false}
use mathlib.Core.List.{List, [], ◌∷◌, ◌++◌}
use Rattle.std.specs.Prelude.{None as none, Some as some}
use Prim.Native.Nat.{ℕ, suc, ◌+◌, ◌<◌, ◌≤◌}
use mir.Syntax.{w16}
use mir.Val.{Fits}
use native.Mathlib.Omega.{arith}
use lib.ListN.{length, get_or, length-append}
use borrow.Author.Tests.{lt-ltb, le-ltb}
use Rattle.theory.specs.Limit.{first_terms, max_arguments}
use Rattle.theory.specs.Kind.{Op, kind}
use Rattle.theory.specs.Record.{Bytes, kind_of, step_kind}
use Rattle.theory.specs.Codes.{all_below}
use Rattle.text.specs.Reading.{number_end}
use Rattle.text.specs.Writing.{Lone, placed, placed_all, keep, record_of, words_bytes, front_bytes, term_record, put_term}
use Rattle.text.proofs.Encoding.{record_kind, record_lone, words_length}
use Rattle.text.proofs.Placed.{small}

-- ---- the record of a term is one, and no step
module _ (o : Op) (ks : List ℕ) (h : length ks ≤ max_arguments) where
  short : 2 + length (front_bytes o ++ words_bytes ks) < number_end
  short =
      let s = (small o).1 in
      let l : length (front_bytes o ++ words_bytes ks) ≡ length (front_bytes o) + length (words_bytes ks) = length-append (front_bytes o) (words_bytes ks) in
      let w = words_length ks in
      omega arith

  pub term_lone : {r : Bytes} → r ≡ term_record o ks → Lone r
  unfolding term_record
  term_lone e = subst Lone (sym e) (record_lone (kind o) (front_bytes o ++ words_bytes ks) short)

  pub term_low : {r : Bytes} → r ≡ term_record o ks → kind_of r < step_kind
  unfolding term_record
  term_low e =
      let s = (small o).0 in
      let k : kind_of (record_of (kind o) (front_bytes o ++ words_bytes ks)) ≡ kind o = record_kind (kind o) (front_bytes o ++ words_bytes ks) (omega arith) in
      subst (λ (x : Bytes). kind_of x < step_kind) (sym e) (omega arith)

-- ---- a term that is put
module _ (room : ℕ) (o : Op) (ks : List ℕ) (job : Bytes) where
  pub put_low : kind o < first_terms → put_term room o (placed_all ks job) ≡ some (placed (kind o) job)
  unfolding put_term
  put_low h = rw (lt-ltb (kind o) first_terms h)

  pub put_over : first_terms ≤ kind o → all_below number_end ks ≡ false → put_term room o (placed_all ks job) ≡ none
  unfolding put_term
  put_over h e = rw (le-ltb (kind o) first_terms h, e)

  pub put_high : first_terms ≤ kind o → all_below number_end ks ≡ true → put_term room o (placed_all ks job) ≡ keep room (term_record o ks) job
  unfolding put_term
  put_high h e = rw (le-ltb (kind o) first_terms h, e)

-- numbers of two bytes
words_small : (ks : List ℕ) → ((i : ℕ) → Fits w16 (get_or ks i 0)) → all_below number_end ks ≡ true
words_small [] h = refl
words_small (k ∷ ks) h = let l = (h 0).fits in rw (lt-ltb k number_end l) (words_small ks (λ i. h (suc i)))

pub put_record : (room : ℕ) (o : Op) (ks : List ℕ) (job : Bytes) {x : Bytes} → first_terms ≤ kind o → ((i : ℕ) → Fits w16 (get_or ks i 0)) → x ≡ term_record o ks
    → keep room x job ≡ put_term room o (placed_all ks job)
put_record room o ks job h b e = sym (put_high room o ks job h (words_small ks b) ∙ ap (λ (y : Bytes). keep room y job) (sym e))
