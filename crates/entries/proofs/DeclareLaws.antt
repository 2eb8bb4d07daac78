-- A declaration line.
use mathlib.Core.Path.{◌≡◌, refl, sym, ap, ◌∙◌}
use mathlib.Core.Bool.{Bool, false, cond}
use mathlib.Core.List.{List, [], ◌∷◌, ◌++◌}
use Rattle.std.specs.Prelude.{Option, None as none, Some as some}
use Prim.Native.Nat.{ℕ, ◌<◌, ◌≤◌}
use lib.Dec.{ltb}
use lib.ListN.{length}
use borrow.Author.Tests.{lt-ltb, le-ltb}
use Rattle.theory.specs.Kind.{Op}
use Rattle.theory.specs.Optional.{is_some, either}
use Rattle.theory.specs.Record.{Bytes}
use Rattle.text.specs.Reading as R
use Rattle.text.specs.Reading.{bind, number_end, variable, find_name}
use Rattle.text.specs.Writing.{Placed, placed_all, write, put_term}
use Rattle.text.specs.Convert.{State, state, declare}
use Rattle.text.specs.Claim.{declared_by}
use Rattle.writer.specs.declared.places.Writer.{Writer}
use Rattle.writer.specs.Written.{job_of, told_put}
use Rattle.words.proofs.ReadLaws.{told_none, told_some}
use Rattle.entries.specs.Declarations.{and_declared}

abbrev put_so : List R.Declared → Option Placed → Option State
put_so vars q = bind q (λ p. some (state vars false p.job))

abbrev declared_so : List R.Declared → ℕ → Bytes → R.Declared → Bool → Bool → Option Placed → Option State
declared_so vars room job d a b q = cond a none (cond b (put_so (vars ++ (d ∷ [])) q) none)

declare_is : (vars : List R.Declared) (room : ℕ) (job : Bytes) (d : R.Declared)
    → declare room (state vars false job) d
    ≡ declared_so vars room job d (is_some (find_name 0 d.name vars)) (ltb (length vars) number_end) (put_term room (variable (length vars) d) (placed_all [] job))
unfolding declare write
declare_is vars room job d = refl

module _ (line : Bytes) (vars : List R.Declared) (room : ℕ) (job : Bytes) where
  abbrev declares : Option R.Declared → Option State
  declares q = bind q (declare room (state vars false job))

  module _ {d : R.Declared} (e : declared_by line ≡ some d) where
    declare_so : declares (declared_by line)
        ≡ declared_so vars room job d (is_some (find_name 0 d.name vars)) (ltb (length vars) number_end) (put_term room (variable (length vars) d) (placed_all [] job))
    declare_so = ap declares e ∙ declare_is vars room job d

    pub declare_2 : {o : Op} → find_name 0 d.name vars ≡ some o → declares (declared_by line) ≡ none
    declare_2 f = declare_so ∙ ap (λ (q : Option Op). declared_so vars room job d (is_some q) (ltb (length vars) number_end) (put_term room (variable (length vars) d) (placed_all [] job))) f

    module _ (f : find_name 0 d.name vars ≡ none) where
      new_so : declares (declared_by line) ≡ cond (ltb (length vars) number_end) (put_so (vars ++ (d ∷ [])) (put_term room (variable (length vars) d) (placed_all [] job))) none
      new_so = declare_so ∙ ap (λ (q : Option Op). declared_so vars room job d (is_some q) (ltb (length vars) number_end) (put_term room (variable (length vars) d) (placed_all [] job))) f

      pub declare_3 : {n : ℕ} → n ≡ length vars → number_end ≤ n → declares (declared_by line) ≡ none
      declare_3 {n} i h =
          new_so
          ∙ ap (λ (b : Bool). cond b (put_so (vars ++ (d ∷ [])) (put_term room (variable (length vars) d) (placed_all [] job))) none)
          (sym (ap (λ (m : ℕ). ltb m number_end) i) ∙ le-ltb n number_end h)

      pub declare_4 : {n : ℕ} → n ≡ length vars → n < number_end → {o : Op} → o ≡ variable n d → declares (declared_by line) ≡ put_so (and_declared line vars) (put_term room o (placed_all [] job))
      declare_4 {n} i h {o} k =
          new_so
          ∙ ap (λ (b : Bool). cond b (put_so (vars ++ (d ∷ [])) (put_term room (variable (length vars) d) (placed_all [] job))) none)
          (sym (ap (λ (m : ℕ). ltb m number_end) i) ∙ lt-ltb n number_end h)
          ∙ ap (λ (x : Op). put_so (vars ++ (d ∷ [])) (put_term room x (placed_all [] job))) (sym (k ∙ ap (λ (m : ℕ). variable m d) i))
          ∙ ap (λ (q : Option R.Declared). put_so (either vars (λ c. vars ++ (c ∷ [])) q) (put_term room o (placed_all [] job))) (sym e)

-- the variable is put, or does not fit
module _ (vars : List R.Declared) (new : Writer) {q : Option State} (r : Option ℕ) {p : Option Placed} (h : told_put new r ≡ p) (e : q ≡ put_so vars p) where
  pub declares_put : {k : ℕ} → r ≡ some k → some (state vars false (job_of new)) ≡ q
  declares_put f = sym (e ∙ ap (put_so vars) (told_some _ r h f))

  pub declares_full : r ≡ none → none ≡ q
  declares_full f = sym (e ∙ ap (put_so vars) (told_none _ r h f))
