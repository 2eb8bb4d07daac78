-- What holds of a plain list is a fact: any two proofs of it are equal. A ghost field needs this of what it says.
use Rattle.std.specs.Prelude.{◌≡◌, ◌<◌, Bool, true, false, ℕ, List, [], ◌∷◌, T}
use Rattle.std.specs.Coded.{coded_ℕ, coded_list, code_by, coded×, Coded-set, ×_prop, Unit-prop, le_prop}
use mathlib.Core.Path.{refl, sym, ap, subst, ◌∙◌}
use mathlib.Core.HLevel.{Discrete, hedberg, Σ_prop_path}
use mathlib.Core.List.{is_set}
use mathlib.Core.Sum.{⊎_set}
use native.Mathlib.Decide.{ℕ_discrete}
use Rattle.theory.specs.Kind.{Op, True, kind, indices}
use Rattle.theory.specs.Term.{Term, same_term}
use Rattle.theory.specs.Plain.{Entry, Plain}
use Rattle.theory.specs.Record.{Item, term, step, chain, back, unknown, misfit, Bytes, AllBytes, read}
use Rattle.theory.specs.Codes.{all_below}
use Rattle.theory.specs.Places.{tree_of}
use Rattle.theory.specs.Listed.{AllGood, Sound, Entered, WellKept}
use Rattle.theory.proofs.Same.{decode, decode_kind, same_eq, eq_same}
use Rattle.std.specs.Prelude.{slice_get as get_elem?}
use Rattle.std.specs.Prelude.{Some as some}

-- ---- kinds and terms are told apart
pub ℕ-set : IsSet ℕ
ℕ-set = hedberg ℕ_discrete

numbers-set : IsSet (List ℕ)
numbers-set = is_set ℕ-set

Op-set : IsSet Op
Op-set = Coded-set (code_by (ℕ × List ℕ) (coded× coded_ℕ (coded_list coded_ℕ)) (λ o. (kind o, indices o)) (λ p. decode p.0 p.1) decode_kind)

Term-discrete : Discrete Term
Term-discrete t u = go (same_term t u) refl
  where
    go : (b : Bool) → same_term t u ≡ b → Dec (t ≡ u)
    go true e = yes (same_eq t u (subst T (sym e) tt))
    go false e = no (λ p. subst T e (eq_same t u p))

Term-set : IsSet Term
Term-set = hedberg Term-discrete

Item-set : IsSet Item
Item-set = hlevel (⊎_set, Op-set, ℕ-set, numbers-set)

T-prop : (b : Bool) → IsProp (T b)
T-prop true = Unit-prop
T-prop false = λ x y. elim x [ ]

-- ---- records and their entries
AllBytes-prop : (bs : Bytes) → IsProp (AllBytes bs)
AllBytes-prop [] = Unit-prop
AllBytes-prop (b ∷ bs) = ×_prop le_prop (AllBytes-prop bs)

Sound-prop : (r : Bytes) → IsProp (Sound r)
Sound-prop r = hlevel (AllBytes-prop, ℕ-set, le_prop)

-- the kind and the arguments of a term
abbrev parts_of : Item → Op × List ℕ
parts_of (term o ks) = (o, ks)
parts_of (step k ks) = (True, [])
parts_of (chain k ps p) = (True, [])
parts_of (back k) = (True, [])
parts_of unknown = (True, [])
parts_of misfit = (True, [])

module _ (b : ℕ) (list : Plain) (i : ℕ) (e : Entry) where
  -- what an entry says, but for its kind and arguments
  abbrev Rest : Op × List ℕ → Type 0
  Rest w = (read b e.bytes ≡ term w.0 w.1) × Sound e.bytes × T (all_below i w.1) × (e.tree ≡ tree_of list w.0 w.1)
      × ((j : ℕ) (d : Entry) → j < i → get_elem? list j ≡ some d → d.bytes ≡ e.bytes → ⊥)

  Rest-prop : (w : Op × List ℕ) → IsProp (Rest w)
  Rest-prop w = hlevel (Item-set, Sound-prop, T-prop, Term-set)

  abbrev to : Entered b list i e → (w : Op × List ℕ) × Rest w
  to x = ((x.op, x.args), (x.says, x.sound, x.below, x.made, x.new))

  abbrev from : (w : Op × List ℕ) × Rest w → Entered b list i e
  from (w, s) = record { sound = s.1; op = w.0; args = w.1; says = s.0; below = s.2; made = s.3; new = s.4 }

  pub Entered-prop : IsProp (Entered b list i e)
  Entered-prop x y =
      ap from (Σ_prop_path {B = Rest} Rest-prop {u = to x} {v = to y} (ap parts_of (sym x.says ∙ y.says)))

Entry-set : IsSet Entry
Entry-set = hlevel (Term-set, numbers-set)

pub WellKept-prop : (b : ℕ) (list : Plain) → IsProp (WellKept b list)
WellKept-prop b list = hlevel (⊎_set, Entry-set, Entered-prop)

pub AllGood-prop : (list : Plain) → IsProp (AllGood list)
AllGood-prop [] = Unit-prop
AllGood-prop (e ∷ list) = ×_prop (T-prop _) (AllGood-prop list)

pub ruleset kept_facts = (WellKept-prop, AllGood-prop, ℕ-set, is_set, le_prop)
