-- Laws of the code's options.
use mathlib.Core.Path.{◌≡◌, refl, sym, ap, subst, ◌∙◌}
use mathlib.Core.Bool.{Bool, true, false}
use Rattle.std.specs.Prelude.{Option, None as none, Some as some, is_some, option_map, Result, Ok, Err}
use Rattle.std.specs.Result.{OkIff, result_ok}
use Prim.Native.Nat.{ℕ, ◌<◌, ◌≤◌}
use native.Mathlib.Omega.{arith}
use Rattle.words.specs.Tables.{Reads}

module _ {A B : Type 0} {tell : A → B} {Fits : A → Type 0} {q : Option B} where
  pub read_none : {r : Option A} → Reads tell Fits q r → r ≡ none → q ≡ none
  read_none h e = sym h.is ∙ ap (option_map tell) e

  pub read_some : {r : Option A} {a : A} → Reads tell Fits q r → r ≡ some a → q ≡ some (tell a)
  read_some h e = sym h.is ∙ ap (option_map tell) e

  pub reads_none : q ≡ none → Reads tell Fits q none
  reads_none e = record { is = sym e; fits = λ a f. absurd (cc) }

  pub reads_some : {a : A} → q ≡ some (tell a) → Fits a → Reads tell Fits q (some a)
  reads_some {a} e h = record { is = sym e; fits = λ b f. let g : a ≡ b = cc in subst Fits g h }

-- the same of an equation alone
pub told_none : {A B : Type 0} (tell : A → B) (r : Option A) {q : Option B} → option_map tell r ≡ q → r ≡ none → q ≡ none
told_none tell r h e = sym h ∙ ap (option_map tell) e

pub told_some : {A B : Type 0} (tell : A → B) (r : Option A) {q : Option B} → option_map tell r ≡ q → {a : A} → r ≡ some a → q ≡ some (tell a)
told_some tell r h e = sym h ∙ ap (option_map tell) e

-- what `is_some` says
pub is_there : {A : Type 0} (r : Option A) {b : Bool} → b ≡ is_some r → b ≡ true → (a : A) × (r ≡ some a)
is_there none e f = absurd (cc)
is_there (some a) e f = (a, refl)

pub is_absent : {A : Type 0} (r : Option A) {b : Bool} → b ≡ is_some r → b ≡ false → r ≡ none
is_absent none e f = refl
is_absent (some a) e f = absurd (cc)

-- ---- `try_from` of a smaller type
pub fits_in : {E P : Type 0} {k : ℕ} (r : Result ℕ E) {q : Option ℕ} {n : ℕ} → OkIff r P k → q ≡ result_ok r → q ≡ some n → P × (n ≡ k)
fits_in (Ok x) {q} {n} h e f = let d : x ≡ n = cc in (h.0, sym d ∙ h.1)
fits_in (Err x) h e f = absurd cc

pub fits_not : {E : Type 0} {k b : ℕ} (r : Result ℕ E) {q : Option ℕ} → OkIff r (k < b) k → q ≡ result_ok r → q ≡ none → b ≤ k
fits_not (Ok x) h e f = absurd cc
fits_not (Err x) h e f = omega (arith, h)
