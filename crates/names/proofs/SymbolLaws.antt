-- Which words are names.
use mathlib.Core.Path.{◌≡◌, refl, sym, ap, ◌∙◌}
use mathlib.Core.Bool.{Bool, true, false, ◌&&◌, ◌||◌, not, cond}
use mathlib.Core.List.{List, [], ◌∷◌}
use Rattle.std.specs.Prelude as rust
use Rattle.std.specs.Prelude.{Option, None as none, Some as some, option_map}
use Prim.Native.Nat.{ℕ, suc, ◌+◌, ◌-◌, ◌*◌, ◌<◌, ◌≤◌}
use native.Mathlib.Omega.{arith}
use native.Mathlib.Decide.{dec_le}
use lib.Dec.{leb, ltb}
use lib.ListN.{length, get_or}
use borrow.Author.Tests.{le-leb, lt-leb}
use Rattle.std.specs.Char.{is_ascii_digit}
use Rattle.std.specs.List.{list_all}
use Rattle.theory.specs.Term.{same_numbers}
use Rattle.theory.specs.Optional.{is_some}
use Rattle.theory.specs.Record.{Bytes}
use Rattle.terms.specs.declared.kind.Kind.{Kind}
use Rattle.terms.specs.Numbered.{shape}
use Rattle.text.specs.Tokens.{ascii, in_symbol}
use Rattle.text.specs.Spelling.{Spelled, named, is_named, kind_names}
use Rattle.text.specs.Reading.{digit_value, number_from, number_in, leading_zero, numeral, all_symbol, is_symbol, bv_value, reserved}

-- ---- digits
abbrev all_digits : Bytes → Bool
all_digits [] = true
all_digits (d ∷ ds) = ltb (digit_value d) 10 && all_digits ds

from_more : (n d : ℕ) (ds : Bytes) → ltb (digit_value d) 10 ≡ true → number_from 10 n (d ∷ ds) ≡ number_from 10 (10 * n + digit_value d) ds
unfolding number_from
from_more n d ds e = rw (e, number_from)

from_bad : (n d : ℕ) (ds : Bytes) → ltb (digit_value d) 10 ≡ false → number_from 10 n (d ∷ ds) ≡ none
unfolding number_from
from_bad n d ds e = rw (e, number_from)

from_digits : (n : ℕ) (ds : Bytes) → is_some (number_from 10 n ds) ≡ all_digits ds
unfolding number_from
from_digits n [] = refl
from_digits n (d ∷ ds) = go (from_digits (10 * n + digit_value d) ds) (ltb (digit_value d) 10) refl
  where
    go : is_some (number_from 10 (10 * n + digit_value d) ds) ≡ all_digits ds → (b : Bool) → ltb (digit_value d) 10 ≡ b → is_some (number_from 10 n (d ∷ ds)) ≡ (ltb (digit_value d) 10 && all_digits ds)
    go ih true e = ap is_some (from_more n d ds e) ∙ ih ∙ sym (ap (λ (b : Bool). b && all_digits ds) e)
    go ih false e = ap is_some (from_bad n d ds e) ∙ sym (ap (λ (b : Bool). b && all_digits ds) e)

low_digit : (d : ℕ) → d < 48 → ltb (digit_value d) 10 ≡ false
low_digit d h = rw (lt-leb 48 d h, lt-leb 97 d (omega arith), lt-leb 65 d (omega arith))

digit : (d : ℕ) → 48 ≤ d → d ≤ 57 → ltb (digit_value d) 10 ≡ true
digit d h l = rw (le-leb 48 d h, le-leb d 57 l) (le-leb (suc (d - 48)) 10 (omega arith))

high_digit : (d : ℕ) → 57 < d → ltb (digit_value d) 10 ≡ false
high_digit d h = rw (lt-leb d 57 h, le-leb 48 d (omega arith)) (go (dec_le 97 d) (dec_le d 102) (dec_le 65 d) (dec_le d 70))
  where
    go : Dec (97 ≤ d) → Dec (d ≤ 102) → Dec (65 ≤ d) → Dec (d ≤ 70)
        → ltb (cond (leb 97 d && leb d 102) (d - 87) (cond (leb 65 d && leb d 70) (d - 55) 16)) 10 ≡ false
    go (yes a) (yes b) p q = rw (le-leb 97 d a, le-leb d 102 b) (lt-leb (suc (d - 87)) 10 (omega arith))
    go (yes a) (no b) p (yes q) = absurd (omega arith)
    go (yes a) (no b) p (no q) = rw (le-leb 97 d a, lt-leb d 102 (omega arith), lt-leb d 70 (omega arith), le-leb 65 d (omega arith))
    go (no a) b (yes p) (yes q) = rw (lt-leb 97 d (omega arith), le-leb 65 d p, le-leb d 70 q) (lt-leb (suc (d - 55)) 10 (omega arith))
    go (no a) b (yes p) (no q) = rw (lt-leb 97 d (omega arith), le-leb 65 d p, lt-leb d 70 (omega arith))
    go (no a) b (no p) q = rw (lt-leb 97 d (omega arith), lt-leb 65 d (omega arith))

pub no_digits : (w : Bytes) → length w ≡ 0 → false ≡ is_some (numeral w)
no_digits [] h = refl
no_digits (d ∷ ds) h = absurd (omega arith)

pub zero_digits : (w : Bytes) → leading_zero w ≡ true → false ≡ is_some (numeral w)
zero_digits w e = sym (ap (λ (b : Bool). is_some (cond b none (number_in 10 w))) e)

same_digits : (ds : Bytes) → list_all is_ascii_digit ds ≡ all_digits ds
same_digits [] = refl
same_digits (d ∷ ds) = go (same_digits ds) (dec_le 48 d) (dec_le d 57)
  where
    both : (x : Bool) → is_ascii_digit d ≡ x → list_all is_ascii_digit (d ∷ ds) ≡ (x && list_all is_ascii_digit ds)
    both x e = ap (λ (y : Bool). y && list_all is_ascii_digit ds) e

    digit_in : (d : ℕ) → 48 ≤ d → d ≤ 57 → is_ascii_digit d ≡ true
    digit_in d a b = rw (le-leb 48 d a, le-leb d 57 b)

    go : list_all is_ascii_digit ds ≡ all_digits ds → Dec (48 ≤ d) → Dec (d ≤ 57) → list_all is_ascii_digit (d ∷ ds) ≡ all_digits (d ∷ ds)
    go ih (yes a) (yes b) = both true (digit_in d a b) ∙ ih ∙ sym (ap (λ (x : Bool). x && all_digits ds) (digit d a b))
    go ih (yes a) (no b) = both false (rw (le-leb 48 d a, lt-leb d 57 (omega arith))) ∙ sym (ap (λ (x : Bool). x && all_digits ds) (high_digit d (omega arith)))
    go ih (no a) q = both false (rw (lt-leb 48 d (omega arith))) ∙ sym (ap (λ (x : Bool). x && all_digits ds) (low_digit d (omega arith)))

pub digits_end : (w : Bytes) → (length w ≡ 0 → ⊥) → leading_zero w ≡ false → list_all is_ascii_digit w ≡ is_some (numeral w)
digits_end [] h e = absurd (h refl)
digits_end (d ∷ ds) h e = same_digits (d ∷ ds) ∙ sym (ap (λ (b : Bool). is_some (cond b none (number_in 10 (d ∷ ds)))) e ∙ from_digits 0 (d ∷ ds))

-- ---- symbols
pub symbol_none : (w : Bytes) → length w ≡ 0 → false ≡ is_symbol w
unfolding is_symbol
symbol_none [] h = refl
symbol_none (b ∷ bs) h = absurd (omega arith)

pub symbol_digit : (w : Bytes) → (length w ≡ 0 → ⊥) → is_ascii_digit (get_or w 0 0) ≡ true → false ≡ is_symbol w
unfolding is_symbol
symbol_digit [] f h = absurd (f refl)
symbol_digit (b ∷ bs) f h = sym (rw h)

starts : (b : ℕ) (bs : Bytes) → not (leb 48 b && leb b 57) ≡ true → is_symbol (b ∷ bs) ≡ all_symbol (b ∷ bs)
unfolding is_symbol
starts b bs e = ap (λ (c : Bool). c && all_symbol (b ∷ bs)) e

same_symbols : (bs : Bytes) → list_all in_symbol bs ≡ all_symbol bs
same_symbols [] = refl
same_symbols (b ∷ bs) = ap (λ (x : Bool). in_symbol b && x) (same_symbols bs)

pub symbol_all : (w : Bytes) → (length w ≡ 0 → ⊥) → is_ascii_digit (get_or w 0 0) ≡ false → list_all in_symbol w ≡ is_symbol w
symbol_all [] f h = absurd (f refl)
symbol_all (b ∷ bs) f h = same_symbols (b ∷ bs) ∙ sym (starts b bs (rw h))

-- ---- names that terms are spelled with
some_named : {A : Type 0} (w : Bytes) (rs : List (Spelled A)) → is_named w rs ≡ is_some (named w rs)
some_named w [] = refl
some_named w (r ∷ rs) = go (same_numbers w r.name) (some_named w rs)
  where
    go : (b : Bool) → is_named w rs ≡ is_some (named w rs) → (b || is_named w rs) ≡ is_some (cond b (some r.names) (named w rs))
    go true e = refl
    go false e = e

or_false : (a b c d e : Bool) → a ≡ false → b ≡ false → c ≡ false → d ≡ false → (a || b || c || d || e) ≡ e
or_false a b c d e p q r s = rw (p, q, r, s)

or_1 : (a b c d e : Bool) → a ≡ true → true ≡ (a || b || c || d || e)
or_1 true b c d e p = refl
or_1 false b c d e p = absurd (let z : ◌≡◌ {A = ℕ} 0 1 = cc in omega arith)

or_2 : (a b c d e : Bool) → b ≡ true → true ≡ (a || b || c || d || e)
or_2 true b c d e p = refl
or_2 false true c d e p = refl
or_2 false false c d e p = absurd (let z : ◌≡◌ {A = ℕ} 0 1 = cc in omega arith)

or_3 : (a b c d e : Bool) → c ≡ true → true ≡ (a || b || c || d || e)
or_3 true b c d e p = refl
or_3 false true c d e p = refl
or_3 false false true d e p = refl
or_3 false false false d e p = absurd (let z : ◌≡◌ {A = ℕ} 0 1 = cc in omega arith)

or_4 : (a b c d e : Bool) → d ≡ true → true ≡ (a || b || c || d || e)
or_4 true b c d e p = refl
or_4 false true c d e p = refl
or_4 false false true d e p = refl
or_4 false false false true e p = refl
or_4 false false false false e p = absurd (let z : ◌≡◌ {A = ℕ} 0 1 = cc in omega arith)

module _ (w : Bytes) where
  abbrev P : Bool
  P = is_named w kind_names

  abbrev Q : Bool
  Q = same_numbers w (ascii "true")

  abbrev R : Bool
  R = same_numbers w (ascii "false")

  abbrev S : Bool
  S = same_numbers w (ascii "_")

  abbrev B : Bool
  B = is_some (bv_value w)

  named_is : (r : Option Kind) → option_map shape r ≡ named w kind_names → {b : Bool} → b ≡ rust.is_some r → is_named w kind_names ≡ b
  named_is r h e = some_named w kind_names ∙ ap is_some (sym h) ∙ same r ∙ sym e
    where
      same : (r : Option Kind) → is_some (option_map shape r) ≡ rust.is_some r
      same none = refl
      same (some k) = refl

  pub reserved_kind : (r : Option Kind) → option_map shape r ≡ named w kind_names → {b : Bool} → b ≡ rust.is_some r → b ≡ true → true ≡ reserved w
  unfolding reserved
  reserved_kind r h e f = or_1 P Q R S B (named_is r h e ∙ f)

  pub reserved_true : Q ≡ true → true ≡ reserved w
  unfolding reserved
  reserved_true e = or_2 P Q R S B e

  pub reserved_false : R ≡ true → true ≡ reserved w
  unfolding reserved
  reserved_false e = or_3 P Q R S B e

  pub reserved_mark : S ≡ true → true ≡ reserved w
  unfolding reserved
  reserved_mark e = or_4 P Q R S B e

  pub reserved_bv : (r : Option Kind) → option_map shape r ≡ named w kind_names → {c : Bool} → c ≡ rust.is_some r → c ≡ false
      → Q ≡ false → R ≡ false → S ≡ false → {b : Bool} → b ≡ is_some (bv_value w) → b ≡ reserved w
  unfolding reserved
  reserved_bv r k e f g h i {b} j = j ∙ sym (or_false P Q R S B (named_is r k e ∙ f) g h i)
