-- The lines of a text.
use mathlib.Core.Path.{◌≡◌, refl, sym, ap, subst, ◌∙◌}
use mathlib.Core.Logic.{◌⊎◌, inl, inr}
use mathlib.Core.Bool.{Bool, true, false}
use mathlib.Core.List.{List, [], ◌∷◌, ◌++◌}
use Prim.Native.Nat.{ℕ, zero, suc, ◌+◌, ◌-◌, ◌<◌, ◌≤◌, min}
use native.Mathlib.Omega.{arith}
use native.Mathlib.Decide.{dec_le}
use lib.ListN.{length, take, drop, get_or, drop_of_length-le}
use Rattle.std.proofs.lemmas.List.{take_rest}
use borrow.Author.Tests.{eq-eqb, ne_eqb}
use Rattle.std.proofs.lemmas.Bool.Decides.{eqb_tells}
use Rattle.std.specs.Prelude.{Option, None as none, Some as some, eqb}
use Rattle.std.specs.List.{AllWithin, HoldsAt}
use Rattle.std.specs.Option.{MatchOption, unwrap_or}
use Rattle.theory.specs.Record.{Bytes}
use Rattle.text.specs.Convert.{lines, push}

line_newline : (b : ℕ) (bs : Bytes) → b ≡ 10 → lines (b ∷ bs) ≡ [] ∷ lines bs
unfolding lines
line_newline b bs e = rw (eq-eqb b 10 e, lines)

line_other : (b : ℕ) (bs : Bytes) → (b ≡ 10 → ⊥) → lines (b ∷ bs) ≡ push b (lines bs)
unfolding lines
line_other b bs e = rw (ne_eqb b 10 e, lines)

first_line : (bs : Bytes) (n : ℕ) → ((k : ℕ) → k < n → get_or bs k 0 ≡ 10 → ⊥) → n ≤ length bs → (n ≡ length bs) ⊎ (get_or bs n 0 ≡ 10) → 0 < length bs
    → lines bs ≡ take n bs ∷ lines (drop (suc n) bs)
unfolding lines
first_line [] n f l s h = absurd (omega arith)
first_line (b ∷ bs) zero f l (inl e) h = absurd (omega arith)
first_line (b ∷ bs) zero f l (inr e) h = line_newline b bs e
first_line (b ∷ []) (suc zero) f l s h = line_other b [] (f 0 (omega arith))
first_line (b ∷ []) (suc (suc n)) f l s h = absurd (omega arith)
first_line (b ∷ c ∷ bs) (suc n) f l s h =
    line_other b (c ∷ bs) (f 0 (omega arith))
    ∙ ap (push b) (first_line (c ∷ bs) n (λ k i e. f (suc k) (omega arith) e) (omega arith) (go s) (omega arith))
  where
    go : (suc n ≡ suc (length (c ∷ bs))) ⊎ (get_or (c ∷ bs) n 0 ≡ 10) → (n ≡ length (c ∷ bs)) ⊎ (get_or (c ∷ bs) n 0 ≡ 10)
    go (inl e) = inl (omega arith)
    go (inr e) = inr e

-- each line takes a byte
push_few : (b : ℕ) (ls : List Bytes) (n : ℕ) → length ls ≤ n → length (push b ls) ≤ suc n
push_few b [] n h = omega arith
push_few b (l ∷ ls) n h = omega arith

one_more : (t : Bool) (b : ℕ) (ls : List Bytes) (n : ℕ) → length ls ≤ n → length {A = Bytes} (elim t [ true ↦ [] ∷ ls | false ↦ push b ls ]) ≤ suc n
one_more true b ls n h = omega arith
one_more false b ls n h = push_few b ls n h

pub lines_few : (bs : Bytes) → length (lines bs) ≤ length bs
unfolding lines
lines_few [] = omega arith
lines_few (b ∷ bs) = one_more (eqb b 10) b (lines bs) (length bs) (lines_few bs)

-- ---- the first line, and the others
pub none_left : (text : Bytes) → length text ≡ 0 → lines text ≡ []
unfolding lines
none_left [] h = refl
none_left (b ∷ bs) h = absurd (omega arith)

-- up to the first newline, as `position` says it, or to the end
pub first_left : (text : Bytes) (r : Option ℕ) → (length text ≡ 0 → ⊥)
    → MatchOption r (AllWithin (λ b. b ≡ 10 → ⊥) text 0 (length text)) (λ n. (n < length text) × HoldsAt (λ b. b ≡ 10) text n × AllWithin (λ b. b ≡ 10 → ⊥) text 0 n)
    → {i m : ℕ} → i ≡ unwrap_or r (length text) → m ≡ min (length text) (i + 1) → lines text ≡ take i text ∷ lines (take (length text - m) (drop m text))
first_left text r h f {i} {m} e d = by_place r f e
  where
    some_byte : 0 < length text
    some_byte = positive (length text) h
      where
        positive : (n : ℕ) → (n ≡ 0 → ⊥) → 0 < n
        positive zero z = absurd (z refl)
        positive (suc n) z = omega arith

    rest : drop (suc i) text ≡ take (length text - m) (drop m text)
    rest = by_end (dec_le (length text) i) ∙ sym (take_rest text m)
      where
        by_end : Dec (length text ≤ i) → drop (suc i) text ≡ drop m text
        by_end (yes p) = drop_of_length-le text {i = suc i} (omega arith) ∙ sym (drop_of_length-le text {i = m} (omega arith))
        by_end (no p) = let q : suc i ≡ m = omega arith in ap (λ (j : ℕ). drop j text) q

    so : ((k : ℕ) → k < i → get_or text k 0 ≡ 10 → ⊥) → i ≤ length text → (i ≡ length text) ⊎ (get_or text i 0 ≡ 10)
        → lines text ≡ take i text ∷ lines (take (length text - m) (drop m text))
    so c l s = first_line text i c l s some_byte ∙ ap (λ (bs : Bytes). take i text ∷ lines bs) rest

    by_place : (r : Option ℕ)
        → MatchOption r (AllWithin (λ b. b ≡ 10 → ⊥) text 0 (length text)) (λ n. (n < length text) × HoldsAt (λ b. b ≡ 10) text n × AllWithin (λ b. b ≡ 10 → ⊥) text 0 n)
        → i ≡ unwrap_or r (length text) → lines text ≡ take i text ∷ lines (take (length text - m) (drop m text))
    by_place none g q = so (λ k a. g k 0 (omega arith) (omega arith)) (omega arith) (inl q)
    by_place (some n) g q = so (λ k a. g.2 k 0 (omega arith) (omega arith)) (omega (arith, g.0)) (inr (ap (λ (j : ℕ). get_or text j 0) q ∙ g.1 0))

-- ---- lines one after the other
-- no byte is a newline
abbrev pub Plain : Bytes → Type 0
Plain l = (k : ℕ) → k < length l → get_or l k 0 ≡ 10 → ⊥

pub line_before : (l bs : Bytes) → Plain l → lines (l ++ (10 ∷ bs)) ≡ l ∷ lines bs
line_before [] bs f = line_newline 10 bs refl
line_before (b ∷ l) bs f = line_other b (l ++ (10 ∷ bs)) (f 0 (omega arith)) ∙ ap (push b) (line_before l bs (λ k h e. f (suc k) (omega arith) e))

-- a newline stands after the first line, and the other lines after it, or the first line is all
abbrev pub Parted : Bytes → Bytes → List Bytes → Type 0
Parted bs l ls = ((cs : Bytes) × (bs ≡ l ++ (10 ∷ cs)) × (lines cs ≡ ls)) ⊎ ((bs ≡ l) × (ls ≡ []))

plain_none : Plain []
plain_none k h e = omega (arith, h)

plain_more : {b : ℕ} (l : Bytes) → (b ≡ 10 → ⊥) → Plain l → Plain (b ∷ l)
plain_more l f p zero h e = f e
plain_more l f p (suc k) h e = p k (omega arith) e

no_bytes : (bs : Bytes) → lines bs ≡ [] → bs ≡ []
unfolding lines
no_bytes [] e = refl
no_bytes (b ∷ bs) e = absurd (by_test (eqb b 10) (lines bs) e)
  where
    by_test : (t : Bool) (ls : List Bytes) → ◌≡◌ {A = List Bytes} (elim t [ true ↦ [] ∷ ls | false ↦ push b ls ]) [] → ⊥
    by_test true ls z = absurd cc
    by_test false [] z = absurd cc
    by_test false (l ∷ ls) z = absurd cc

-- one byte more before the first newline
longer : {b : ℕ} {bs l : Bytes} {ls : List Bytes} → (b ≡ 10 → ⊥) → Plain l × Parted bs l ls → Plain (b ∷ l) × Parted (b ∷ bs) (b ∷ l) ls
longer {b} {bs} {l} {ls} f (p, inl (cs, s, t)) = (plain_more l f p, inl (cs, ap (λ (x : Bytes). b ∷ x) s, t))
longer {b} {bs} {l} {ls} f (p, inr (s, t)) = (plain_more l f p, inr (ap (λ (x : Bytes). b ∷ x) s, t))

pub parted : (bs : Bytes) {l : Bytes} {ls : List Bytes} → lines bs ≡ l ∷ ls → Plain l × Parted bs l ls
unfolding lines
parted [] e = absurd cc
parted (b ∷ bs) {l} {ls} e = by_test (λ k ks z. parted bs z) (eqb_tells b 10)
  where
    same : {k : Bytes} {ks : List Bytes} → k ≡ l → ks ≡ ls → Plain k × Parted (b ∷ bs) k ks → Plain l × Parted (b ∷ bs) l ls
    same {k} {ks} p q g = subst (λ (x : Bytes). Plain x × Parted (b ∷ bs) x ls) p (subst (λ (y : List Bytes). Plain k × Parted (b ∷ bs) k y) q g)

    by_rest : (b ≡ 10 → ⊥) → (q : List Bytes) → lines bs ≡ q → push b q ≡ l ∷ ls → ((k : Bytes) (ks : List Bytes) → lines bs ≡ k ∷ ks → Plain k × Parted bs k ks)
        → Plain l × Parted (b ∷ bs) l ls
    by_rest f [] r d ih =
        let p : b ∷ [] ≡ l = cc in
        let q : [] ≡ ls = cc in
        same p q (plain_more [] f plain_none, inr (ap (λ (x : Bytes). b ∷ x) (no_bytes bs r), refl))
    by_rest f (k ∷ ks) r d ih =
        let p : b ∷ k ≡ l = cc in
        let q : ks ≡ ls = cc in
        same p q (longer f (ih k ks r))

    by_test : ((k : Bytes) (ks : List Bytes) → lines bs ≡ k ∷ ks → Plain k × Parted bs k ks) → ((eqb b 10 ≡ true) × (b ≡ 10)) ⊎ ((eqb b 10 ≡ false) × (b ≡ 10 → ⊥))
        → Plain l × Parted (b ∷ bs) l ls
    by_test ih (inl t) =
        let w : [] ∷ lines bs ≡ l ∷ ls = sym (line_newline b bs t.1) ∙ e in
        let p : [] ≡ l = cc in
        let q : lines bs ≡ ls = cc in
        same p q (plain_none, inl (bs, ap (λ (x : ℕ). x ∷ bs) t.1, refl))
    by_test ih (inr t) = by_rest t.1 (lines bs) refl (sym (line_other b bs t.1) ∙ e) ih
