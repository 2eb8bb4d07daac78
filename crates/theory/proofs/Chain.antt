-- The rules of a chain: from premises that hold under every assignment they join only claims that do.
use mathlib.Core.Path.{◌≡◌, refl, sym, ap, ap₂, subst, ◌∙◌}
use mathlib.Core.Bool.{cond}
use mathlib.Core.List.{List, [], ◌∷◌, map}
use Rattle.std.specs.Prelude.{Some as some}
use lib.Dec.{T, leb}
use lib.Ieee.Fits.{and_l, and_r}
use lib.ListN.{length}
use Rattle.theory.specs.Kind.{Equals}
use Rattle.theory.specs.Term.{Term, Terms, node, nil, cons, fold, to_list, two, same_op, same_term}
use Rattle.theory.specs.Value.{Assign, Val, meaning, value, values}
use Rattle.theory.specs.Optional.{collect}
use Rattle.theory.specs.Verdict.{held, wrong_form}
use Rattle.theory.specs.RuleTable.{ChainRule, by_symm, by_trans, by_cong}
use Rattle.theory.specs.Rule.{args_of, form}
use Rattle.theory.specs.Chain.{Sides, sides, turned, leads, argument_wise, congruent, joins, chain_verdict}
use Rattle.theory.proofs.Basics.{some_inj, cons_some_is}
use Rattle.theory.proofs.Form.{then_held, form_held, binary_held}
use Rattle.theory.proofs.Same.{same_eq, same_op_eq}

-- the same value under every assignment
abbrev pub Equal : Term → Term → Type 0
Equal l r = (ρ : Assign) → value ρ l ≡ value ρ r

abbrev pub AllEqual : List Sides → Type 0
AllEqual [] = Unit {0}
AllEqual (p ∷ ps) = Equal p.0 p.1 × AllEqual ps

-- a term that is an equality, and holds
abbrev pub Holds : Term → Type 0
Holds t = (l : Term) × (r : Term) × (t ≡ two Equals l r) × Equal l r

abbrev pub AllHold : List Term → Type 0
AllHold [] = Unit {0}
AllHold (t ∷ ts) = Holds t × AllHold ts

-- ---- the three rules
moved : (l m : Term) (ρ : Assign) → T (same_term l m) → value ρ l ≡ value ρ m
moved l m ρ t = ap (value ρ) (same_eq l m t)

symm_holds : (ps : List Sides) (l r : Term) → T (turned ps l r) → AllEqual ps → Equal l r
symm_holds [] l r t h ρ = absurd t
symm_holds (p ∷ []) l r t h ρ =
    sym (moved p.1 l ρ (and_l (same_term p.1 l) _ t)) ∙ sym (h.0 ρ) ∙ moved p.0 r ρ (and_r (same_term p.1 l) _ t)
symm_holds (p ∷ q ∷ ps) l r t h ρ = absurd t

trans_holds : (ps : List Sides) (l r : Term) → T (leads l ps r) → AllEqual ps → Equal l r
trans_holds [] l r t h ρ = moved l r ρ t
trans_holds (p ∷ ps) l r t h ρ =
    moved l p.0 ρ (and_l (same_term l p.0) _ t) ∙ h.0 ρ ∙ trans_holds ps p.1 r (and_r (same_term l p.0) _ t) h.1 ρ

-- equal arguments give equal values, for every kind
arguments_equal : (ps : List Sides) (ts us : Terms) → T (argument_wise ps (to_list ts) (to_list us)) → AllEqual ps → (ρ : Assign) → values ρ ts ≡ values ρ us
unfolding fold
arguments_equal [] nil nil t h ρ = refl
arguments_equal [] nil (cons u us) t h ρ = absurd t
arguments_equal [] (cons x ts) us t h ρ = absurd t
arguments_equal (p ∷ ps) nil us t h ρ = absurd t
arguments_equal (p ∷ ps) (cons x ts) nil t h ρ = absurd t
arguments_equal (p ∷ ps) (cons x ts) (cons u us) t h ρ =
    let a = and_l (same_term p.0 x) _ t in
    let b = and_r (same_term p.0 x) _ t in
    ap₂ (λ (v : Val) (vs : List Val). v ∷ vs) (sym (moved p.0 x ρ a) ∙ h.0 ρ ∙ moved p.1 u ρ (and_l (same_term p.1 u) _ b))
    (arguments_equal ps ts us (and_r (same_term p.1 u) _ b) h.1 ρ)

cong_holds : (ps : List Sides) (l r : Term) → T (congruent ps l r) → AllEqual ps → Equal l r
unfolding fold
cong_holds ps (node o ts) (node p us) t h ρ =
    ap₂ (meaning ρ) (same_op_eq o p (and_l (same_op o p) _ t)) (arguments_equal ps ts us (and_r (same_op o p) _ t) h ρ)

pub joins_hold : (rule : ChainRule) (ps : List Sides) (l r : Term) → T (joins rule ps l r) → AllEqual ps → Equal l r
unfolding joins
joins_hold by_symm ps l r t h = symm_holds ps l r t h
joins_hold by_trans ps l r t h = trans_holds ps l r (and_r (leb 2 (length ps)) _ t) h
joins_hold by_cong ps l r t h = cong_holds ps l r t h

-- ---- the verdict
-- the sides of an equality
pub sides_of : (l r : Term) → sides (two Equals l r) ≡ some (l, r)
unfolding args_of
sides_of l r = refl

one_equal : (t : Term) (p : Sides) → Holds t → sides t ≡ some p → Equal p.0 p.1
one_equal t p h e ρ =
    let q : (h.0, h.1) ≡ p = some_inj (h.0, h.1) p (sym (sides_of h.0 h.1) ∙ ap sides (sym h.2) ∙ e) in
    ap (λ (z : Sides). value ρ z.0) (sym q) ∙ h.3 ρ ∙ ap (λ (z : Sides). value ρ z.1) q

sides_equal : (ts : List Term) (ps : List Sides) → AllHold ts → collect (map sides ts) ≡ some ps → AllEqual ps
sides_equal [] ps h e = subst AllEqual (some_inj [] ps e) tt
sides_equal (t ∷ ts) ps h e =
    let q = cons_some_is (sides t) (collect (map sides ts)) ps e in
    subst AllEqual (sym q.4) (one_equal t q.0 h.0 q.2, sides_equal ts q.1 h.1 q.3)

-- a chain that is held
pub chain_holds : (rule : ChainRule) (premises : List Term) (claim : Term) → AllHold premises → chain_verdict rule premises claim ≡ held → Holds claim
unfolding chain_verdict
chain_holds rule premises claim h e =
    let u = binary_held 24 claim (λ l r. form (collect (map sides premises)) (λ ps. cond (joins rule ps l r) held wrong_form)) e in
    let f = form_held (collect (map sides premises)) (λ ps. cond (joins rule ps u.left u.right) held wrong_form) u.after in
    (u.left, u.right, u.is, joins_hold rule f.0 u.left u.right (then_held (joins rule f.0 u.left u.right) wrong_form held tt f.2).0 (sides_equal premises f.0 h f.1))
