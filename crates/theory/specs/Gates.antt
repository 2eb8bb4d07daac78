-- The gates that a circuit is made of, over any type of wires: terms, values, term numbers.
use Rattle.std.specs.Prelude.{Bool, true, false, ◌&&◌, ◌||◌, not, cond, List, [], ◌∷◌}
use Rattle.std.specs.Bool.{beq}
use Rattle.theory.specs.Kind.{Op, True, False, Not, And, Or, Xor, Equals, Ite}
use Rattle.theory.specs.Term.{Term, node, from_list}
use Rattle.theory.specs.Value.{xor, all_true}

-- `all_gate` is an And of any number
pub record Gates (A : Type 0) : Type 0 where
  pub true_gate : A
  pub false_gate : A
  pub not_gate : A → A
  pub and_gate : A → A → A
  pub or_gate : A → A → A
  pub xor_gate : A → A → A
  pub eq_gate : A → A → A
  pub ite_gate : A → A → A → A
  pub all_gate : List A → A

-- the gates of Bools
abbrev pub bool_gates : Gates Bool
bool_gates = record {
  true_gate = true;
  false_gate = false;
  not_gate = not;
  and_gate = ◌&&◌;
  or_gate = ◌||◌;
  xor_gate = xor;
  eq_gate = beq;
  ite_gate = cond;
  all_gate = all_true;
}

-- the gates of whatever the Boolean kinds can be applied to
abbrev pub gates_of : {A : Type 0} → (Op → List A → A) → Gates A
gates_of alg = record {
  true_gate = alg True [];
  false_gate = alg False [];
  not_gate = λ x. alg Not (x ∷ []);
  and_gate = λ x y. alg And (x ∷ y ∷ []);
  or_gate = λ x y. alg Or (x ∷ y ∷ []);
  xor_gate = λ x y. alg Xor (x ∷ y ∷ []);
  eq_gate = λ x y. alg Equals (x ∷ y ∷ []);
  ite_gate = λ c x y. alg Ite (c ∷ x ∷ y ∷ []);
  all_gate = λ xs. alg And xs;
}

-- the gates of terms: each builds the term, and simplifies nothing
abbrev pub term_gates : Gates Term
term_gates = gates_of (λ o ts. node o (from_list ts))
