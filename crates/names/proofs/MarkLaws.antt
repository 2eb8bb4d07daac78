-- Tokens that must follow; words.
use mathlib.Core.Path.{◌≡◌, refl, sym, ap, ◌∙◌}
use mathlib.Core.Bool.{Bool, true, false, cond}
use Rattle.std.specs.Prelude.{Option, None as none, Some as some}
use Rattle.std.specs.Bool.{then_some}
use Rattle.std.specs.Borrow.{Bor}
use Prim.Native.Nat.{ℕ}
use native.Mathlib.Omega.{arith}
use Rattle.theory.specs.Term.{same_numbers}
use Rattle.theory.specs.Optional.{is_some}
use Rattle.theory.specs.Record.{Bytes}
use Rattle.text.specs.Tokens as K
use Rattle.text.specs.Tokens.{Next, next, left, right, end, word, word_of, same_token, after}
use Rattle.text.specs.Reading.{bind, Word, first_word}
use Rattle.words.specs.declared.tokens.Token.{Token}
use Rattle.words.specs.declared.tokens.Token.TheVariants as T
use Rattle.words.specs.declared.tokens.Next as code
use Rattle.words.specs.Words.{told_token, told_next}
use Rattle.words.proofs.ReadLaws.{told_none, told_some}
use Rattle.names.specs.Marks.{rest_of, word_and_rest}

abbrev pub a_word : Bytes → Bytes → Word
a_word w bs = record { name = w; rest = bs }

-- the first token, as the code says it
module _ (n : code.Next) (bs : Bytes) (l : told_next n ≡ next bs) where
  after_next : (t : K.Token) → cond (same_token (told_token n.token) t) (some n.rest.now) none ≡ after t bs
  unfolding after
  after_next t = ap (λ (x : Next). cond (same_token x.token t) (some x.rest) none) l

  first_next : bind (word_of (told_token n.token)) (λ w. some (record { name = w; rest = n.rest.now })) ≡ first_word bs
  unfolding first_word
  first_next = ap (λ (x : Next). bind (word_of x.token) (λ w. some (record { name = w; rest = x.rest }))) l

  pub left_is : n.token ≡ T.Left → some n.rest.now ≡ after left bs
  left_is e = ap (λ (t : Token). cond (same_token (told_token t) left) (some n.rest.now) none) (sym e) ∙ after_next left

  pub right_is : n.token ≡ T.Right → some n.rest.now ≡ after right bs
  right_is e = ap (λ (t : Token). cond (same_token (told_token t) right) (some n.rest.now) none) (sym e) ∙ after_next right

  pub end_is : n.token ≡ T.End → true ≡ is_some (after end bs)
  end_is e = ap is_some (ap (λ (t : Token). cond (same_token (told_token t) end) (some n.rest.now) none) (sym e) ∙ after_next end)

  pub first_is : {w : Bor Bytes} → n.token ≡ T.Word w → some (a_word w.now n.rest.now) ≡ first_word bs
  first_is e = ap (λ (t : Token). bind (word_of (told_token t)) (λ w. some (record { name = w; rest = n.rest.now }))) (sym e) ∙ first_next

  pub left_not : (n.token ≡ T.Left → ⊥) → none ≡ after left bs
  left_not k = go n.token refl ∙ after_next left
    where
      go : (t : Token) → n.token ≡ t → none ≡ cond (same_token (told_token n.token) left) (some n.rest.now) none
      go T.Left e = absurd (k e)
      go T.Right e = rw e
      go T.End e = rw e
      go T.Bad e = rw e
      go (T.Word w) e = rw e

  pub right_not : (n.token ≡ T.Right → ⊥) → none ≡ after right bs
  right_not k = go n.token refl ∙ after_next right
    where
      go : (t : Token) → n.token ≡ t → none ≡ cond (same_token (told_token n.token) right) (some n.rest.now) none
      go T.Left e = rw e
      go T.Right e = absurd (k e)
      go T.End e = rw e
      go T.Bad e = rw e
      go (T.Word w) e = rw e

  pub end_not : (n.token ≡ T.End → ⊥) → false ≡ is_some (after end bs)
  end_not k = ap is_some (go n.token refl ∙ after_next end)
    where
      go : (t : Token) → n.token ≡ t → none ≡ cond (same_token (told_token n.token) end) (some n.rest.now) none
      go T.Left e = rw e
      go T.Right e = rw e
      go T.End e = absurd (k e)
      go T.Bad e = rw e
      go (T.Word w) e = rw e

  pub first_none : ((w : Bor Bytes) → n.token ≡ T.Word w → ⊥) → none ≡ first_word bs
  first_none k = go n.token refl ∙ first_next
    where
      go : (t : Token) → n.token ≡ t → none ≡ bind (word_of (told_token n.token)) (λ w. some (a_word w n.rest.now))
      go T.Left e = rw e
      go T.Right e = rw e
      go T.End e = rw e
      go T.Bad e = rw e
      go (T.Word w) e = absurd (k w e)

-- a word that must follow, by the first word
word_first : (w bs : Bytes) → after (word w) bs ≡ bind (first_word bs) (λ f. cond (same_numbers f.name w) (some f.rest) none)
unfolding after first_word
word_first w bs = go (next bs).token
  where
    go : (t : K.Token) → cond (same_token t (word w)) (some (next bs).rest) none
        ≡ bind (bind (word_of t) (λ w. some (a_word w (next bs).rest))) (λ f. cond (same_numbers f.name w) (some f.rest) none)
    go left = refl
    go right = refl
    go end = refl
    go K.bad = refl
    go (word v) = refl

module _ (w bs : Bytes) where
  pub word_none : first_word bs ≡ none → none ≡ after (word w) bs
  word_none e = sym (word_first w bs ∙ ap (λ (q : Option Word). bind q (λ f. cond (same_numbers f.name w) (some f.rest) none)) e)

  module _ {f : Word} (e : first_word bs ≡ some f) where
    word_by : after (word w) bs ≡ cond (same_numbers f.name w) (some f.rest) none
    word_by = word_first w bs ∙ ap (λ (q : Option Word). bind q (λ f. cond (same_numbers f.name w) (some f.rest) none)) e

    -- what follows, where the test finds that word
    pub word_tested : (x : Bor Bytes) → x.now ≡ f.rest → (b : Bool) → same_numbers f.name w ≡ b → {r : Option (Bor Bytes)} → r ≡ then_some b x → rest_of r ≡ after (word w) bs
    word_tested x d true t h = ap rest_of h ∙ ap some d ∙ sym (word_by ∙ ap (λ (b : Bool). cond b (some f.rest) none) t)
    word_tested x d false t h = ap rest_of h ∙ sym (word_by ∙ ap (λ (b : Bool). cond b (some f.rest) none) t)

-- ---- what a function of this crate said
module _ {q : Option Bytes} where
  pub rest_none : (r : Option (Bor Bytes)) → rest_of r ≡ q → r ≡ none → q ≡ none
  rest_none r h e = told_none (λ b. b.now) r h e

  pub rest_some : (r : Option (Bor Bytes)) → rest_of r ≡ q → {b : Bor Bytes} → r ≡ some b → q ≡ some b.now
  rest_some r h e = told_some (λ b. b.now) r h e

module _ {q : Option Word} where
  pub no_word : (r : Option (Bor Bytes × Bor Bytes)) → word_and_rest r ≡ q → r ≡ none → q ≡ none
  no_word r h e = told_none (λ p. a_word p.0.now p.1.now) r h e

  pub some_word : (r : Option (Bor Bytes × Bor Bytes)) → word_and_rest r ≡ q → {p : Bor Bytes × Bor Bytes} → r ≡ some p → q ≡ some (a_word p.0.now p.1.now)
  some_word r h e = told_some (λ p. a_word p.0.now p.1.now) r h e

-- ---- the end of the line
pub end_some : (q : Option Bytes) {b : Bool} → b ≡ is_some q → b ≡ true → (d : Bytes) × (q ≡ some d)
end_some none e f = absurd (let z : ◌≡◌ {A = ℕ} 0 1 = cc in omega arith)
end_some (some d) e f = (d, refl)

pub end_none : (q : Option Bytes) {b : Bool} → b ≡ is_some q → b ≡ false → q ≡ none
end_none none e f = refl
end_none (some d) e f = absurd (let z : ◌≡◌ {A = ℕ} 0 1 = cc in omega arith)
