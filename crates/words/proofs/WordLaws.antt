-- Laws of bytes, words and tokens.
use mathlib.Core.Path.{◌≡◌, refl, sym, ap, ap₂, subst, ◌∙◌}
use mathlib.Core.Bool.{Bool, true, false, ◌&&◌, ◌||◌, not, cond}
use mathlib.Core.List.{[], ◌∷◌, ◌++◌}
use Prim.Native.Nat.{ℕ, zero, suc, ◌+◌, ◌-◌, ◌<◌, ◌≤◌}
use native.Mathlib.Decide.{dec_le}
use native.Mathlib.Omega.{arith}
use native.Mathlib.Numerals.{add-one}
use lib.Dec.{eqb, leb}
use lib.Dec as dec
use lib.Ieee.Fits.{and_l, and_r}
use lib.ListN.{length, take, drop, get_or, length-take, length-drop}
use borrow.Author.Tests.{eq-eqb, ne_eqb, eqb-true}
use Rattle.std.specs.Borrow.{Bor}
use Rattle.std.specs.Prelude.{Option, None as none, Some as some, MatchOption, option_map}
use Rattle.std.proofs.lemmas.Bool.Decides.{Decides-eqb}
use Rattle.std.proofs.lemmas.Iterator.{index_from_first}
use Rattle.std.specs.List.{AllWithin, HoldsAt}
use Rattle.std.specs.Option.{unwrap_or}
use Rattle.std.proofs.lemmas.Slice.Eq.{strip_prefix_is, bytes_eq-Decides}
use Rattle.std.specs.Cmp.Lexicographic.{pointwise}
use Rattle.theory.specs.Term.{same_numbers}
use Rattle.theory.specs.Record.{Bytes}
use Rattle.text.specs.Reading.{past}
use Rattle.words.specs.Words.{piece}
use Rattle.text.specs.Tokens.{is_blank, in_word, in_symbol, followed, token_at, next, front_word, left, right, end, bad, word}

-- ---- a property of bytes, decided by trying a run of them
abbrev pub same_bool : Bool → Bool → Bool
same_bool true b = b
same_bool false b = not b

same_bool_is : (a b : Bool) → dec.T (same_bool a b) → a ≡ b
same_bool_is true true t = refl
same_bool_is false false t = refl
same_bool_is false true t = elim t [ ]
same_bool_is true false t = elim t [ ]

abbrev pub agree_on : (ℕ → Bool) → (ℕ → Bool) → ℕ → ℕ → Bool
agree_on f g lo zero = true
agree_on f g lo (suc n) = same_bool (f lo) (g lo) && agree_on f g (suc lo) n

pub agree : (f g : ℕ → Bool) (lo n : ℕ) → dec.T (agree_on f g lo n) → (b : ℕ) → lo ≤ b → b < lo + n → f b ≡ g b
agree f g lo zero t b h k = absurd (omega arith)
agree f g lo (suc n) t b h k = go (λ l. agree f g (suc lo) n (and_r (same_bool (f lo) (g lo)) _ t) b l (omega arith)) (dec_le (suc lo) b)
  where
    go : (suc lo ≤ b → f b ≡ g b) → Dec (suc lo ≤ b) → f b ≡ g b
    go ih (yes l) = ih l
    go ih (no l) =
        let e : lo ≡ b = omega arith in
        subst (λ (x : ℕ). f x ≡ g x) e (same_bool_is (f lo) (g lo) (and_l (same_bool (f lo) (g lo)) _ t))

-- a byte of a word, by the runs in which they stand
abbrev word_runs : ℕ → Bool
word_runs b =
    eqb b 33 || (leb 35 b && leb b 38) || (leb 42 b && leb b 43) || (leb 45 b && leb b 58) || (leb 60 b && leb b 90)
    || (leb 94 b && leb b 95) || (leb 97 b && leb b 122) || eqb b 126

pub word_ranges : (b : ℕ) → b < 256 → in_word b ≡ word_runs b
unfolding in_word
word_ranges b h = agree in_word word_runs 0 256 tt b (omega arith) h

-- ---- words
front_more : (b : ℕ) (bs : Bytes) → in_word b ≡ true → front_word (b ∷ bs) ≡ b ∷ front_word bs
unfolding front_word
front_more b bs e = rw (e, front_word)

front_none : (b : ℕ) (bs : Bytes) → in_word b ≡ false → front_word (b ∷ bs) ≡ []
unfolding front_word
front_none b bs e = rw (e, front_word)

-- ---- blanks
next_blank : (b : ℕ) (bs : Bytes) → is_blank b ≡ true → next (b ∷ bs) ≡ next bs
unfolding next
next_blank b bs e = rw (e, next)

next_black : (b : ℕ) (bs : Bytes) → is_blank b ≡ false → next (b ∷ bs) ≡ token_at b bs
unfolding next
next_black b bs e = rw (e, next)

-- how many blanks a line begins with
abbrev pub blanks : Bytes → ℕ
blanks [] = 0
blanks (b ∷ bs) = cond (is_blank b) (suc (blanks bs)) 0

blank_more : (b : ℕ) (bs : Bytes) → is_blank b ≡ true → blanks (b ∷ bs) ≡ blanks bs + 1
blank_more b bs e = rw e (sym (add-one (blanks bs)))

black_here : (b : ℕ) (bs : Bytes) → is_blank b ≡ false → blanks (b ∷ bs) ≡ 0
black_here b bs e = rw e

past_blanks : (line : Bytes) → next (drop (blanks line) line) ≡ next line
past_blanks [] = refl
past_blanks (b ∷ bs) = go (is_blank b) refl (past_blanks bs)
  where
    go : (t : Bool) → is_blank b ≡ t → next (drop (blanks bs) bs) ≡ next bs → next (drop (cond t (suc (blanks bs)) 0) (b ∷ bs)) ≡ next (b ∷ bs)
    go true e ih = ih ∙ sym (next_blank b bs e)
    go false e ih = refl

black_after : (line : Bytes) → 0 < length (drop (blanks line) line) → is_blank (get_or (drop (blanks line) line) 0 0) ≡ false
black_after [] h = absurd (omega arith)
black_after (b ∷ bs) h = go (is_blank b) refl (black_after bs) h
  where
    go : (t : Bool) → is_blank b ≡ t → (0 < length (drop (blanks bs) bs) → is_blank (get_or (drop (blanks bs) bs) 0 0) ≡ false)
        → 0 < length (drop (cond t (suc (blanks bs)) 0) (b ∷ bs)) → is_blank (get_or (drop (cond t (suc (blanks bs)) 0) (b ∷ bs)) 0 0) ≡ false
    go true e ih h = ih h
    go false e ih h = e

-- the first place where a test fails, or the end, as `position` says it
abbrev pub FirstPlace : (ℕ → Bool) → Bytes → Option ℕ → Type 0
FirstPlace test line r =
    MatchOption r (AllWithin (λ b. test b ≡ true) line 0 (length line))
    (λ i. (i < length line) × HoldsAt (λ b. test b ≡ false) line i × AllWithin (λ b. test b ≡ true) line 0 i)

module _ (line : Bytes) (r : Option ℕ) (first : FirstPlace is_blank line r) (i : ℕ) (e : i ≡ unwrap_or r (length line)) where
  blanks_are : blanks line ≡ i
  blanks_are = index_from_first blanks (λ b. is_blank b ≡ false) (λ b. is_blank b ≡ true) refl black_here blank_more line r first ∙ sym e

  pub skipped : {rest : Bytes} → rest ≡ drop i line → next rest ≡ next line
  skipped f = ap next (f ∙ ap (λ (n : ℕ). drop n line) (sym blanks_are)) ∙ past_blanks line

  pub skipped_black : {rest : Bytes} → rest ≡ drop i line → 0 < length rest → is_blank (get_or rest 0 0) ≡ false
  skipped_black f = subst (λ (bs : Bytes). 0 < length bs → is_blank (get_or bs 0 0) ≡ false) (ap (λ (n : ℕ). drop n line) blanks_are ∙ sym f) (black_after line)

-- ---- the first word
word_start : (line : Bytes) → take (length (front_word line)) line ≡ front_word line
unfolding front_word
word_start [] = refl
word_start (b ∷ bs) = go (in_word b) (word_start bs)
  where
    go : (t : Bool) → take (length (front_word bs)) bs ≡ front_word bs
        → take (length (elim t as (λ x. Bytes) [ true ↦ b ∷ front_word bs | false ↦ [] ])) (b ∷ bs) ≡ elim t as (λ x. Bytes) [ true ↦ b ∷ front_word bs | false ↦ [] ]
    go true ih = ap (λ (x : Bytes). b ∷ x) ih
    go false ih = refl

module _ (line : Bytes) (r : Option ℕ) (first : FirstPlace in_word line r) (i : ℕ) (e : i ≡ unwrap_or r (length line)) where
  word_long : length (front_word line) ≡ i
  unfolding front_word
  word_long =
      index_from_first (λ (l : Bytes). length (front_word l)) (λ b. in_word b ≡ false) (λ b. in_word b ≡ true) refl
      (λ b bs e. ap length (front_none b bs e)) (λ b bs e. ap length (front_more b bs e) ∙ sym (add-one (length (front_word bs)))) line r first ∙ sym e

  pub word_split : take i line ≡ front_word line
  word_split = ap (λ (n : ℕ). take n line) (sym word_long) ∙ word_start line

  pub word_rest : drop i line ≡ drop (length (front_word line)) line
  word_rest = ap (λ (n : ℕ). drop n line) (sym word_long)

-- ---- pieces
pub piece_length : (line : Bytes) (s e : ℕ) → s ≤ e → e ≤ length line → length (piece s e line) ≡ e - s
piece_length line s e h k = length-take (e - s) (drop s line) ∙ rw length-drop (omega arith)

-- ---- tokens
pub token_end : (line : Bytes) → length line ≡ 0 → followed end [] ≡ next line
unfolding next
token_end [] h = refl
token_end (b ∷ bs) h = absurd (omega arith)

-- a line that begins with no blank
module _ {line : Bytes} {b : ℕ} {bs : Bytes} (is : line ≡ b ∷ bs) (black : 0 < length line → is_blank (get_or line 0 0) ≡ false) where
  at_token : token_at b bs ≡ next line
  at_token =
      let one : 0 < length (b ∷ bs) = omega arith in
      let f : is_blank b ≡ false = ap (λ (l : Bytes). is_blank (get_or l 0 0)) (sym is) ∙ black (subst (λ (l : Bytes). 0 < length l) (sym is) one) in
      sym (ap next is ∙ next_black b bs f)

  pub token_left : b ≡ 40 → followed left bs ≡ next line
  token_left e = sym (ap (λ (b : ℕ). token_at b bs) e) ∙ at_token

  pub token_right : b ≡ 41 → followed right bs ≡ next line
  token_right e = sym (ap (λ (b : ℕ). token_at b bs) e) ∙ at_token

  pub token_bad : (b ≡ 40 → ⊥) → (b ≡ 41 → ⊥) → in_word b ≡ false → followed bad bs ≡ next line
  token_bad f g e =
      let x : token_at b bs ≡ followed bad bs = rw (ne_eqb b 40 f, ne_eqb b 41 g, e) in
      sym x ∙ at_token

  pub token_word : (b ≡ 40 → ⊥) → (b ≡ 41 → ⊥) → in_word b ≡ true → {w : Bytes} → w ≡ front_word line → {r : Bytes}
      → r ≡ drop (length (front_word line)) line → followed (word w) r ≡ next line
  token_word f g t {w} e {r} d =
      let x : token_at b bs ≡ followed (word (front_word (b ∷ bs))) (drop (length (front_word (b ∷ bs))) (b ∷ bs)) = rw (ne_eqb b 40 f, ne_eqb b 41 g, t) in
      ap₂ (λ (u v : Bytes). followed (word u) v) (e ∙ ap front_word is) (d ∙ ap (λ (l : Bytes). drop (length (front_word l)) l) is) ∙ sym x ∙ at_token

-- ---- the test for the same bytes
same_is : (x y : Bytes) → same_numbers x y ≡ pointwise eqb x y
same_is [] [] = refl
same_is [] (b ∷ y) = refl
same_is (a ∷ x) [] = refl
same_is (a ∷ x) (b ∷ y) = ap (λ (t : Bool). eqb a b && t) (same_is x y)

-- what `==` says
pub same_said : (x y : Bytes) {b : Bool} → b ≡ pointwise eqb x y → same_numbers x y ≡ b
same_said x y e = same_is x y ∙ sym e

-- of a text that is written out
pub same_as : (x z : Bytes) {y : Bytes} {b : Bool} → b ≡ pointwise eqb x y → y ≡ z → same_numbers x z ≡ b
same_as x z {y} e d = ap (same_numbers x) (sym d) ∙ same_said x y e

pub same_differ : (x y : Bytes) → (x ≡ y → ⊥) → same_numbers x y ≡ false
same_differ x y h = go (same_numbers x y) refl
  where
    go : (b : Bool) → same_numbers x y ≡ b → same_numbers x y ≡ false
    go true e = absurd (h ((bytes_eq-Decides x y).0 (sym (same_is x y) ∙ e)))
    go false e = e

-- ---- symbols
pub symbol_word : (b : ℕ) → (b ≡ 35 → ⊥) → (b ≡ 58 → ⊥) → in_word b ≡ in_symbol b
unfolding in_word in_symbol
symbol_word b f g = rw (ne_eqb b 35 f, ne_eqb b 58 g)

-- ---- what stands after a prefix
past_on : (p rest : Bytes) → past p (p ++ rest) ≡ some rest
past_on [] rest = refl
past_on (b ∷ p) rest = rw (eq-eqb b b refl) (past_on p rest)

past_off : (p s : Bytes) → ((rest : Bytes) → s ≡ p ++ rest → ⊥) → past p s ≡ none
past_off [] s h = absurd (h s refl)
past_off (b ∷ p) [] h = refl
past_off (b ∷ p) (c ∷ s) h = go (eqb b c) refl (past_off p s)
  where
    go : (t : Bool) → eqb b c ≡ t → (((rest : Bytes) → s ≡ p ++ rest → ⊥) → past p s ≡ none) → cond t (past p s) none ≡ none
    go true e ih = ih (λ rest f. h rest (ap₂ (λ (u : ℕ) (v : Bytes). u ∷ v) (sym (eqb-true b c e)) f))
    go false e ih = refl

-- what `strip_prefix` says
pub stripped : (p s : Bytes) (r : Option (Bor Bytes))
    → MatchOption r (pointwise eqb (take (length p) s) p ≡ false) (λ x. (pointwise eqb (take (length p) s) p ≡ true) × (x.now ≡ drop (length p) s) × (length x.now + length p ≡ length s))
    → option_map (λ (x : Bor Bytes). x.now) r ≡ past p s
stripped p s r m = go r (strip_prefix_is Decides-eqb s p r m)
  where
    go : (r : Option (Bor Bytes)) → MatchOption r ((rest : Bytes) → s ≡ p ++ rest → ⊥) (λ x. s ≡ p ++ x.now) → option_map (λ (x : Bor Bytes). x.now) r ≡ past p s
    go none h = sym (past_off p s h)
    go (some x) h = sym (ap (past p) h ∙ past_on p x.now)
