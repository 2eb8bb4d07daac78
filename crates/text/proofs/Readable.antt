-- A term that is read can be written.
use mathlib.Core.Path.{◌≡◌, refl, ap, subst, ◌∙◌}
use mathlib.Core.Bool.{Bool, true, false, cond}
use mathlib.Core.List.{List, [], ◌∷◌}
use Rattle.std.specs.Prelude.{Option, None as none, Some as some}
use Prim.Native.Nat.{ℕ, zero, suc, ◌+◌, ◌*◌, ◌<◌, ◌≤◌}
use native.Mathlib.Omega.{arith}
use lib.Dec.{ltb}
use lib.ListN.{length}
use borrow.Author.Tests.{ltb-true}
use Rattle.theory.specs.Limit.{max_arguments}
use Rattle.theory.specs.Kind.{Op, True, False, BoolVar, BvVar, arity, takes}
use Rattle.theory.specs.Term.{Term, node, nil, from_list, same_numbers}
use Rattle.theory.specs.Optional.{either}
use Rattle.theory.specs.Record.{Bytes, Shape, plain, indexed, twice_indexed, valued}
use Rattle.theory.proofs.Basics.{none_some, some_inj}
use Rattle.theory.proofs.Blast.{to_from_list}
use Rattle.text.specs.Tokens.{ascii, Token, left, right, end, bad, word, next, after}
use Rattle.text.specs.Spelling.{Spelled, named, kind_names}
use Rattle.text.specs.Reading.{bind, below, number_in, number_end, value_end, Number, first_word, index, numeral, past, bv_value, Declared, variable, find_name, constant, digits_of, atom, Operation, bv_constant, with_numbers, indexed_operation, alone, Read, ReadAll, all_terms, Head, leaf, branch, opened, head, arguments, applied, on_head, read_term}
use Rattle.text.proofs.Encoding.{Fit}
use Rattle.text.proofs.Placed.{Writable, WritableAll}

-- what was bound was there
pub record Bound {A B : Type 0} (p : Option A) (f : A → Option B) (b : B) : Type 0 where
  pub given : A
  pub was : p ≡ some given
  pub gives : f given ≡ some b

pub bound : {A B : Type 0} (p : Option A) (f : A → Option B) (b : B) → bind p f ≡ some b → Bound p f b
bound none f b e = absurd (none_some b e)
bound (some a) f b e = record { given = a; was = refl; gives = e }

pub guarded : {A : Type 0} (c : Bool) (p : Option A) (a : A) → cond c p none ≡ some a → (c ≡ true) × (p ≡ some a)
guarded true p a e = (refl, e)
guarded false p a e = absurd (none_some a e)

-- ---- numbers
below_fits : (b : ℕ) (p : Option ℕ) (n : ℕ) → below b p ≡ some n → n < b
below_fits b none n e = absurd (none_some n e)
below_fits b (some m) n e =
    let g = guarded (ltb m b) (some m) n e in
    subst (λ (x : ℕ). x < b) (some_inj m n g.1) (ltb-true m b g.0)

pub index_fits : (bs : Bytes) (n : Number) → index bs ≡ some n → n.value < number_end
index_fits bs n e =
    let a = bound (first_word bs) _ n e in
    let b = bound (below number_end (numeral a.given.name)) _ n a.gives in
    subst (λ (x : Number). x.value < number_end) (some_inj _ n b.gives) (below_fits number_end (numeral a.given.name) b.given b.was)

-- ---- words
-- variables that fit: their widths, and their number
unfoldable pub AllFit : List Declared → Type 0
AllFit [] = Unit {0}
AllFit (d ∷ ds) = ((n : ℕ) → d.width ≡ some n → n < number_end) × AllFit ds

-- a kind without arguments
LeafFit : Op → Type 0
LeafFit o = Fit o × (takes (arity o) 0 ≡ true)

variable_fits : (i : ℕ) (d : Declared) → i < number_end → ((n : ℕ) → d.width ≡ some n → n < number_end) → LeafFit (variable i d)
unfolding LeafFit
variable_fits i d h f = go d.width f
  where
    go : (q : Option ℕ) → ((n : ℕ) → q ≡ some n → n < number_end) → Fit (either (BoolVar i) (λ n. BvVar n i) q) × (takes (arity (either (BoolVar i) (λ n. BvVar n i) q)) 0 ≡ true)
    go none f = (h, refl)
    go (some n) f = ((f n refl, h), refl)

pub variable_writable : (i : ℕ) (d : Declared) → i < number_end → ((n : ℕ) → d.width ≡ some n → n < number_end) → Writable (node (variable i d) nil)
unfolding Writable WritableAll LeafFit
variable_writable i d h f = let l = variable_fits i d h f in (l.0, l.1, tt)

find_fits : (i : ℕ) (w : Bytes) (ds : List Declared) (o : Op) → AllFit ds → i + length ds ≤ number_end → find_name i w ds ≡ some o → LeafFit o
unfolding AllFit
find_fits i w [] o a l e = absurd (none_some o e)
find_fits i w (d ∷ ds) o a l e = go (same_numbers w d.name) (find_fits (suc i) w ds o a.1 (omega arith)) e
  where
    go : (b : Bool) → (find_name (suc i) w ds ≡ some o → LeafFit o) → cond b (some (variable i d)) (find_name (suc i) w ds) ≡ some o → LeafFit o
    go true ih q = subst LeafFit (some_inj _ o q) (variable_fits i d (omega arith) a.0)
    go false ih q = ih q

constant_fits : (p q : Option ℕ) (o : Op) → constant p q ≡ some o → LeafFit o
unfolding LeafFit
constant_fits p q o e =
    let a = bound (below number_end p) _ o e in
    let b = bound (below value_end q) _ o a.gives in
    subst LeafFit (some_inj _ o b.gives) ((below_fits number_end p a.given a.was, below_fits value_end q b.given b.was), refl)

atom_fits : (vars : List Declared) → AllFit vars → length vars ≤ number_end → (w : Bytes) (o : Op) → atom vars w ≡ some o → LeafFit o
unfolding atom LeafFit
atom_fits vars a l w o e = by_true (same_numbers w (ascii "true")) e
  where
    digits : (p q : Option Bytes) → either (either none (digits_of 4 16) q) (digits_of 1 2) p ≡ some o → LeafFit o
    digits none none d = absurd (none_some o d)
    digits none (some ds) d = constant_fits (some (4 * length ds)) (number_in 16 ds) o d
    digits (some ds) q d = constant_fits (some (1 * length ds)) (number_in 2 ds) o d

    by_name : (p : Option Op) → find_name 0 w vars ≡ p → either (either (either none (digits_of 4 16) (past (ascii "#x") w)) (digits_of 1 2) (past (ascii "#b") w)) some p ≡ some o → LeafFit o
    by_name none f d = digits (past (ascii "#b") w) (past (ascii "#x") w) d
    by_name (some v) f d = find_fits 0 w vars o a (omega arith) (f ∙ d)

    by_false : (b : Bool) → cond b (some False) (either (either (either none (digits_of 4 16) (past (ascii "#x") w)) (digits_of 1 2) (past (ascii "#b") w)) some (find_name 0 w vars)) ≡ some o → LeafFit o
    by_false true d = subst LeafFit (some_inj _ o d) (tt, refl)
    by_false false d = by_name (find_name 0 w vars) refl d

    by_true : (b : Bool)
        → cond b (some True) (cond (same_numbers w (ascii "false")) (some False) (either (either (either none (digits_of 4 16) (past (ascii "#x") w)) (digits_of 1 2) (past (ascii "#b") w)) some (find_name 0 w vars))) ≡ some o
        → LeafFit o
    by_true true d = subst LeafFit (some_inj _ o d) (tt, refl)
    by_true false d = by_false (same_numbers w (ascii "false")) d

-- ---- operations
abbrev ShapeFits : Shape → Type 0
ShapeFits (plain o) = Fit o
ShapeFits (indexed f) = (x : ℕ) → x < number_end → Fit (f x)
ShapeFits (twice_indexed f) = (x y : ℕ) → x < number_end → y < number_end → Fit (f x y)
ShapeFits (valued f) = Unit {0}

abbrev AllShapes : List (Spelled Shape) → Type 0
AllShapes [] = Unit {0}
AllShapes (r ∷ rs) = ShapeFits r.names × AllShapes rs

named_fits : (w : Bytes) (rs : List (Spelled Shape)) → AllShapes rs → (s : Shape) → named w rs ≡ some s → ShapeFits s
named_fits w [] a s e = absurd (none_some s e)
named_fits w (r ∷ rs) a s e = go (same_numbers w r.name) (named_fits w rs a.1 s) e
  where
    go : (b : Bool) → (named w rs ≡ some s → ShapeFits s) → cond b (some r.names) (named w rs) ≡ some s → ShapeFits s
    go true ih q = subst ShapeFits (some_inj _ s q) a.0
    go false ih q = ih q

table_fits : AllShapes kind_names
table_fits = (tt, (tt, (tt, (tt, (tt, (tt, ((λ x h. h), (tt, (tt, (tt, (tt, (tt, (tt, (tt, (tt, (tt, (tt, (tt, (tt, (tt, (tt, (tt, (tt, (tt, (tt, ((λ x y h k. (h, k)), ((λ x h. h), tt)))))))))))))))))))))))))))

numbers_fit : (s : Shape) → ShapeFits s → (bs : Bytes) (g : Operation) → with_numbers s bs ≡ some g → Fit g.op
numbers_fit (plain o) f bs g e = absurd (none_some g e)
numbers_fit (indexed k) f bs g e =
    let a = bound (index bs) _ g e in
    subst (λ (x : Operation). Fit x.op) (some_inj _ g a.gives) (f a.given.value (index_fits bs a.given a.was))
numbers_fit (twice_indexed k) f bs g e =
    let a = bound (index bs) _ g e in
    let b = bound (index a.given.rest) _ g a.gives in
    subst (λ (x : Operation). Fit x.op) (some_inj _ g b.gives) (f a.given.value b.given.value (index_fits bs a.given a.was) (index_fits a.given.rest b.given b.was))
numbers_fit (valued k) f bs g e = absurd (none_some g e)

indexed_fits : (bs : Bytes) (g : Operation) → indexed_operation bs ≡ some g → Fit g.op
unfolding indexed_operation
indexed_fits bs g e =
    let a = bound (after (word (ascii "_")) bs) _ g e in
    let b = bound (first_word a.given) _ g a.gives in
    let c = bound (named b.given.name kind_names) _ g b.gives in
    let d = bound (with_numbers c.given b.given.rest) _ g c.gives in
    let f = bound (after right d.given.rest) _ g d.gives in
    subst (λ (x : Operation). Fit x.op) (some_inj _ g f.gives) (numbers_fit c.given (named_fits b.given.name kind_names table_fits c.given c.was) b.given.rest d.given d.was)

alone_fits : (s : Shape) → ShapeFits s → (o : Op) → alone s ≡ some o → Fit o
alone_fits (plain p) f o e = subst Fit (some_inj p o e) f
alone_fits (indexed k) f o e = absurd (none_some o e)
alone_fits (twice_indexed k) f o e = absurd (none_some o e)
alone_fits (valued k) f o e = absurd (none_some o e)

bv_fits : (bs : Bytes) (g : Operation) → bv_constant bs ≡ some g → LeafFit g.op
unfolding bv_constant
bv_fits bs g e =
    let a = bound (first_word bs) _ g e in
    let b = bound (index a.given.rest) _ g a.gives in
    let c = bound (after right b.given.rest) _ g b.gives in
    let d = bound (constant (some b.given.value) (bv_value a.given.name)) _ g c.gives in
    subst (λ (x : Operation). LeafFit x.op) (some_inj _ g d.gives) (constant_fits (some b.given.value) (bv_value a.given.name) d.given d.was)

-- ---- how a term begins
abbrev HeadFits : Head → Type 0
HeadFits (leaf o bs) = LeafFit o
HeadFits (branch o bs) = Fit o

opened_fits : (bs : Bytes) (h : Head) → opened bs ≡ some h → HeadFits h
unfolding opened
opened_fits bs h e = by_token (next bs).token e
  where
    rest : Bytes
    rest = (next bs).rest

    by_word : (w : Bytes) (b : Bool)
        → cond b (bind (bv_constant rest) (λ g. some (leaf g.op g.rest))) (bind (bind (named w kind_names) alone) (λ o. some (branch o rest))) ≡ some h → HeadFits h
    by_word w true d =
        let a = bound (bv_constant rest) _ h d in
        subst HeadFits (some_inj _ h a.gives) (bv_fits rest a.given a.was)
    by_word w false d =
        let a = bound (bind (named w kind_names) alone) _ h d in
        let b = bound (named w kind_names) alone a.given a.was in
        subst HeadFits (some_inj _ h a.gives) (alone_fits b.given (named_fits w kind_names table_fits b.given b.was) a.given b.gives)

    by_token : (t : Token)
        → elim t as (λ x. Option Head) [
          | left ↦ bind (indexed_operation rest) (λ g. some (branch g.op g.rest))
          | right ↦ none
          | end ↦ none
          | bad ↦ none
          | word w ↦ cond (same_numbers w (ascii "_")) (bind (bv_constant rest) (λ g. some (leaf g.op g.rest))) (bind (bind (named w kind_names) alone) (λ o. some (branch o rest)))
        ] ≡ some h → HeadFits h
    by_token left d =
        let a = bound (indexed_operation rest) _ h d in
        subst HeadFits (some_inj _ h a.gives) (indexed_fits rest a.given a.was)
    by_token right d = absurd (none_some h d)
    by_token end d = absurd (none_some h d)
    by_token bad d = absurd (none_some h d)
    by_token (word w) d = by_word w (same_numbers w (ascii "_")) d

module _ (vars : List Declared) (a : AllFit vars) (l : length vars ≤ number_end) where
  head_fits : (bs : Bytes) (h : Head) → head vars bs ≡ some h → HeadFits h
  unfolding head
  head_fits bs h e = by_token (next bs).token e
    where
      by_token : (t : Token)
          → elim t as (λ x. Option Head) [
            | left ↦ opened (next bs).rest
            | right ↦ none
            | end ↦ none
            | bad ↦ none
            | word w ↦ bind (atom vars w) (λ o. some (leaf o (next bs).rest))
          ] ≡ some h → HeadFits h
      by_token left d = opened_fits (next bs).rest h d
      by_token right d = absurd (none_some h d)
      by_token end d = absurd (none_some h d)
      by_token bad d = absurd (none_some h d)
      by_token (word w) d =
          let b = bound (atom vars w) _ h d in
          subst HeadFits (some_inj _ h b.gives) (atom_fits vars a l w b.given b.was)

  -- ---- terms
  Reader : (Bytes → Option Read) → Type 0
  Reader r = (bs : Bytes) (t : Read) → r bs ≡ some t → Writable t.term

  arguments_fit : (r : Bytes → Option Read) → Reader r → (k : ℕ) (bs : Bytes) (g : ReadAll) → arguments r k bs ≡ some g → WritableAll (from_list g.terms)
  unfolding arguments WritableAll Reader
  arguments_fit r f zero bs g e =
      let b = bound (after right bs) _ g e in
      subst (λ (x : ReadAll). WritableAll (from_list x.terms)) (some_inj _ g b.gives) tt
  arguments_fit r f (suc k) bs g e = go (after right bs) (arguments_fit r f k) e
    where
      go : (q : Option Bytes) → ((x : Bytes) (y : ReadAll) → arguments r k x ≡ some y → WritableAll (from_list y.terms))
          → elim q as (λ x. Option ReadAll) [
            | none ↦ bind (r bs) (λ t. bind (arguments r k t.rest) (λ ts. some (all_terms (t.term ∷ ts.terms) ts.rest)))
            | some rest ↦ some (all_terms [] rest)
          ] ≡ some g → WritableAll (from_list g.terms)
      go (some rest) ih d = subst (λ (x : ReadAll). WritableAll (from_list x.terms)) (some_inj _ g d) tt
      go none ih d =
          let b = bound (r bs) _ g d in
          let c = bound (arguments r k b.given.rest) _ g b.gives in
          subst (λ (x : ReadAll). WritableAll (from_list x.terms)) (some_inj _ g c.gives) (f bs b.given b.was, ih b.given.rest c.given c.was)

  applied_fits : (o : Op) (g : ReadAll) (t : Read) → Fit o → WritableAll (from_list g.terms) → applied o g ≡ some t → Writable t.term
  unfolding Writable
  applied_fits o g t f w e =
      let b = guarded (takes (arity o) (length g.terms)) _ t e in
      subst (λ (x : Read). Writable x.term) (some_inj _ t b.1) (f, ap (λ (ts : List Term). takes (arity o) (length ts)) (to_from_list g.terms) ∙ b.0, w)

  on_head_fits : (f : Op → Bytes → Option Read) → ((o : Op) (bs : Bytes) (t : Read) → Fit o → f o bs ≡ some t → Writable t.term)
      → (h : Head) → HeadFits h → (t : Read) → on_head f h ≡ some t → Writable t.term
  unfolding Writable WritableAll LeafFit
  on_head_fits f k (leaf o bs) h t e = subst (λ (x : Read). Writable x.term) (some_inj _ t e) (h.0, h.1, tt)
  on_head_fits f k (branch o bs) h t e = k o bs t h e

  -- A TERM THAT IS READ
  pub read_fits : (n : ℕ) (bs : Bytes) (t : Read) → read_term n vars bs ≡ some t → Writable t.term
  unfolding read_term Reader
  read_fits zero bs t e =
      let b = bound (head vars bs) _ t e in
      on_head_fits (λ o rest. none) (λ o rest x f d. absurd (none_some x d)) b.given (head_fits bs b.given b.was) t b.gives
  read_fits (suc n) bs t e =
      let b = bound (head vars bs) _ t e in
      on_head_fits (λ o rest. bind (arguments (λ cs. read_term n vars cs) max_arguments rest) (applied o))
      (λ o rest x f d. let c = bound (arguments (λ cs. read_term n vars cs) max_arguments rest) (applied o) x d in
      applied_fits o c.given x f (arguments_fit (λ cs. read_term n vars cs) (read_fits n) max_arguments rest c.given c.was) c.gives)
      b.given (head_fits bs b.given b.was) t b.gives
