-- Reading and writing at one time is reading and then writing.
use mathlib.Core.Path.{◌≡◌, refl, sym, ap, ◌∙◌}
use mathlib.Core.Bool.{Bool, true, false, cond}
use mathlib.Core.List.{List, [], ◌∷◌}
use Rattle.std.specs.Prelude.{Option, None as none, Some as some}
use Prim.Native.Nat.{ℕ, zero, suc}
use native.Mathlib.Omega.{arith}
use lib.ListN.{length}
use Rattle.theory.specs.Limit.{max_arguments}
use Rattle.theory.specs.Kind.{Op, arity, takes}
use Rattle.theory.specs.Term.{Term, node, from_list}
use Rattle.theory.specs.Record.{Bytes}
use Rattle.text.specs.Tokens.{right, after}
use Rattle.text.specs.Reading.{bind, Declared, Read, a_term, ReadAll, all_terms, leaf, branch, head, read_term, arguments, applied}
use Rattle.text.specs.Writing.{Placed, PlacedAll, placed_all, put_term, write, write_all}
use Rattle.reader.specs.Reader.{Got, got, GotAll, got_all, read_write, read_write_all, leaf_write, finish, before}

-- a term written, as a term read
abbrev wrote : Bytes → Option Placed → Option Got
wrote rest p = bind p (λ q. some (got q.number rest q.job))

abbrev wrote_all : Bytes → Option PlacedAll → Option GotAll
wrote_all rest p = bind p (λ w. some (got_all w.numbers rest w.job))

-- as many numbers as terms
numbers_of : (ts : List Term) (room : ℕ) (job : Bytes) (w : PlacedAll) → write_all (from_list ts) room job ≡ some w → length w.numbers ≡ length ts
unfolding write_all
numbers_of [] room job w e = let f : w ≡ placed_all [] job = cc in ap (λ (x : PlacedAll). length x.numbers) f
numbers_of (t ∷ ts) room job w e = go (write t room job) (λ p. numbers_of ts room p.job) e
  where
    by_rest : (p : Placed) (q : Option PlacedAll) → ((g : PlacedAll) → q ≡ some g → length g.numbers ≡ length ts)
        → bind q (λ g. some (placed_all (p.number ∷ g.numbers) g.job)) ≡ some w → length w.numbers ≡ suc (length ts)
    by_rest p none ih d = absurd (let z : ◌≡◌ {A = ℕ} 0 1 = cc in omega arith)
    by_rest p (some g) ih d =
        let h : w ≡ placed_all (p.number ∷ g.numbers) g.job = cc in
        ap (λ (x : PlacedAll). length x.numbers) h ∙ ap suc (ih g refl)

    go : (q : Option Placed) → ((p : Placed) (g : PlacedAll) → write_all (from_list ts) room p.job ≡ some g → length g.numbers ≡ length ts)
        → bind q (λ p. bind (write_all (from_list ts) room p.job) (λ g. some (placed_all (p.number ∷ g.numbers) g.job))) ≡ some w
        → length w.numbers ≡ suc (length ts)
    go none ih d = absurd (let z : ◌≡◌ {A = ℕ} 0 1 = cc in omega arith)
    go (some p) ih d = by_rest p (write_all (from_list ts) room p.job) (ih p) d

-- a test before what is made of a value
by_count : {A B : Type 0} (b : Bool) (a : A) (f : A → Option B) (x : Option B) → f a ≡ x → bind (cond b (some a) none) f ≡ cond b x none
by_count true a f x e = e
by_count false a f x e = refl

never : {A : Type 0} (b : Bool) → cond {A = Option A} b none none ≡ none
never true = refl
never false = refl

module _ (vars : List Declared) (room : ℕ) where
  -- a term that does not begin
  pub no_head : (n : ℕ) (bs job : Bytes) → head vars bs ≡ none → read_write n vars room bs job ≡ none
  unfolding read_write read_term
  no_head zero bs job e = rw e
  no_head (suc n) bs job e = rw e

  -- a term without arguments
  pub at_leaf : (n : ℕ) (bs job : Bytes) (o : Op) (rest : Bytes) → head vars bs ≡ some (leaf o rest) → read_write n vars room bs job ≡ leaf_write room o rest job
  unfolding read_write read_term leaf_write write write_all
  at_leaf zero bs job o rest e = rw e
  at_leaf (suc n) bs job o rest e = rw e

  -- arguments that would be nested too deep
  pub too_deep : (bs job : Bytes) (o : Op) (rest : Bytes) → head vars bs ≡ some (branch o rest) → read_write 0 vars room bs job ≡ none
  unfolding read_write read_term
  too_deep bs job o rest e = rw e

  -- a term with arguments
  applied_write : (o : Op) (job : Bytes) (q : Option ReadAll)
      → bind (bind q (applied o)) (λ t. wrote t.rest (write t.term room job))
      ≡ bind (bind q (λ g. wrote_all g.rest (write_all (from_list g.terms) room job))) (finish room o)
  unfolding write finish
  applied_write o job none = refl
  applied_write o job (some g) = by_written (write_all (from_list g.terms) room job) refl
    where
      by_written : (q : Option PlacedAll) → write_all (from_list g.terms) room job ≡ q
          → bind (applied o g) (λ t. wrote t.rest (write t.term room job)) ≡ bind (wrote_all g.rest q) (finish room o)
      by_written none f =
          by_count (takes (arity o) (length g.terms)) (a_term (node o (from_list g.terms)) g.rest) (λ t. wrote t.rest (write t.term room job)) none
          (ap (λ (q : Option PlacedAll). wrote g.rest (bind q (put_term room o))) f)
          ∙ never (takes (arity o) (length g.terms))
      by_written (some w) f =
          by_count (takes (arity o) (length g.terms)) (a_term (node o (from_list g.terms)) g.rest) (λ t. wrote t.rest (write t.term room job)) (wrote g.rest (put_term room o w))
          (ap (λ (q : Option PlacedAll). wrote g.rest (bind q (put_term room o))) f)
          ∙ ap (λ (m : ℕ). cond (takes (arity o) m) (wrote g.rest (put_term room o w)) none) (sym (numbers_of g.terms room job w f))

  pub at_branch : (n : ℕ) (bs job : Bytes) (o : Op) (rest : Bytes) → head vars bs ≡ some (branch o rest)
      → read_write (suc n) vars room bs job ≡ bind (read_write_all n vars room max_arguments rest job) (finish room o)
  unfolding read_write read_write_all read_term
  at_branch n bs job o rest e = rw e (applied_write o job (arguments (λ cs. read_term n vars cs) max_arguments rest))

  -- a first argument before others: it does not fit, or it is written
  first_none : (t : Term) (job : Bytes) → write t room job ≡ none → (q : Option ReadAll)
      → bind (bind q (λ ts. some (all_terms (t ∷ ts.terms) ts.rest))) (λ g. wrote_all g.rest (write_all (from_list g.terms) room job)) ≡ none
  unfolding write_all
  first_none t job f none = refl
  first_none t job f (some ts) = rw f

  first_some : (t : Term) (job : Bytes) (p : Placed) → write t room job ≡ some p → (q : Option ReadAll)
      → bind (bind q (λ ts. some (all_terms (t ∷ ts.terms) ts.rest))) (λ g. wrote_all g.rest (write_all (from_list g.terms) room job))
      ≡ before (p.number ∷ []) (bind q (λ g. wrote_all g.rest (write_all (from_list g.terms) room p.job)))
  unfolding write_all
  first_some t job p f none = refl
  first_some t job p f (some ts) = rw f (go (write_all (from_list ts.terms) room p.job))
    where
      go : (q : Option PlacedAll) → wrote_all ts.rest (bind q (λ g. some (placed_all (p.number ∷ g.numbers) g.job))) ≡ before (p.number ∷ []) (wrote_all ts.rest q)
      go none = refl
      go (some g) = refl

  module _ (n : ℕ) where
    -- no more arguments
    pub none_more : (k : ℕ) (bs job rest : Bytes) → after right bs ≡ some rest → read_write_all n vars room k bs job ≡ some (got_all [] rest job)
    unfolding read_write_all arguments write_all
    none_more zero bs job rest e = rw e
    none_more (suc k) bs job rest e = rw (e, arguments)

    -- too many
    pub too_many : (bs job : Bytes) → after right bs ≡ none → read_write_all n vars room 0 bs job ≡ none
    unfolding read_write_all arguments
    too_many bs job e = rw e

    by_first : (t : Read) (job : Bytes) (k : ℕ) (w : Option Placed) → write t.term room job ≡ w
        → bind (bind (arguments (λ cs. read_term n vars cs) k t.rest) (λ ts. some (all_terms (t.term ∷ ts.terms) ts.rest))) (λ g. wrote_all g.rest (write_all (from_list g.terms) room job))
        ≡ bind (wrote t.rest w) (λ g. before (g.number ∷ []) (read_write_all n vars room k g.rest g.job))
    unfolding read_write_all
    by_first t job k none f = first_none t.term job f (arguments (λ cs. read_term n vars cs) k t.rest)
    by_first t job k (some p) f = first_some t.term job p f (arguments (λ cs. read_term n vars cs) k t.rest)

    by_term : (k : ℕ) (job : Bytes) (q : Option Read)
        → bind (bind q (λ t. bind (arguments (λ cs. read_term n vars cs) k t.rest) (λ ts. some (all_terms (t.term ∷ ts.terms) ts.rest)))) (λ g. wrote_all g.rest (write_all (from_list g.terms) room job))
        ≡ bind (bind q (λ t. wrote t.rest (write t.term room job))) (λ g. before (g.number ∷ []) (read_write_all n vars room k g.rest g.job))
    by_term k job none = refl
    by_term k job (some t) = by_first t job k (write t.term room job) refl

    -- one more
    pub one_more : (k : ℕ) (bs job : Bytes) → after right bs ≡ none
        → read_write_all n vars room (suc k) bs job ≡ bind (read_write n vars room bs job) (λ g. before (g.number ∷ []) (read_write_all n vars room k g.rest g.job))
    unfolding read_write read_write_all arguments write_all
    one_more k bs job e = rw (e, arguments) (by_term k job (read_term n vars bs))
