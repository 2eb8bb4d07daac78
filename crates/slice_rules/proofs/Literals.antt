-- The rule value: bits that are literally `true` or `false`, and the number that they make.
use mathlib.Core.Path.{◌≡◌, refl, sym, ap, ap₂, ◌∙◌}
use mathlib.Core.Bool.{Bool, true, false, cond}
use mathlib.Core.List.{List, [], ◌∷◌, ◌++◌, map, append-nil}
use Rattle.std.proofs.lemmas.List.{append_assoc}
use Rattle.std.specs.Prelude.{Option, None as none, Some as some}
use Prim.Native.Nat.{ℕ, ◌+◌, ◌*◌, ◌^◌, ◌<◌, ◌≤◌}
use native.Mathlib.Omega.{arith}
use borrow.Enum.Refused.{Among}
use denote.Enum.Declared.{tag_of}
use lib.Dec.{T, ltb, ltb→lt}
use lib.Ieee.Fits.{and_l, and_r}
use lib.ListN.{length, length-append}
use lib.Pow.{pow_mono}
use Rattle.theory.specs.Limit.{first_terms}
use Rattle.theory.specs.Kind.{Const}
use Rattle.theory.specs.Term.{Term, same_term}
use Rattle.theory.specs.Value.{bit, to_number}
use Rattle.theory.specs.Optional.{cons_some, collect}
use Rattle.theory.specs.Record.{Bytes}
use Rattle.theory.specs.Codes.{all_below}
use Rattle.theory.specs.Verdict.{Verdict, not_constant, bit_not_literal}
use Rattle.theory.specs.Rule.{args_of, index_of, constant_kind, constant, literal_bit, literal_bits, value_bits}
use Rattle.theory.proofs.Distinct.{tree_0, tree_1}
use Rattle.theory.proofs.Sound.{to_number_lt}
use Rattle.terms.specs.declared.Term.{Term as Decoded}
use Rattle.terms.specs.declared.Operands.TheVariants.{None, List as Listed}
use Rattle.terms.specs.declared.Args.{Args}
use Rattle.terms.specs.Decoded.{op_of, operands_of}
use Rattle.terms.specs.contracts.Term as E
use Rattle.store.specs.declared.gates.Kept.{Kept}
use Rattle.store.specs.Kept.{KeptArguments, kept_terms, kept_term, words_of}
use Rattle.store.specs.Terms.{TermAt}
use Rattle.operand_rules.proofs.Forms.{tree, others, index_is}
use Rattle.slice_rules.specs.Given.{literal_number}
use Rattle.slice_rules.proofs.Fitting.{same_place, args_are, args_not}
use Rattle.theory.proofs.Basics.{true_T}

-- ---- the left side is a constant, or is none
module _ {job work : Bytes} {n p : ℕ} {t : Decoded} (s : TermAt job work n p t) where
  pub constant_form : (w x : ℕ) → op_of t ≡ Const w x → operands_of t ≡ None → (f : ℕ → Verdict) → f x ≡ constant (args_of constant_kind (tree job work n p)) (f (index_of 1 (tree job work n p)))
  constant_form w x e d f =
      sym (ap (λ (q : Option (List Term)). constant q (f (index_of 1 (tree job work n p)))) (args_are s (Const w x) None e d) ∙ ap f (index_is s 1 (Const w x) e))

  pub no_constant : Among (0 ∷ others 4) (tag_of E.the_type t) → (v : Verdict) → not_constant ≡ constant (args_of constant_kind (tree job work n p)) v
  no_constant e v = sym (ap (λ (q : Option (List Term)). constant q v) (args_not s 4 e tt))

-- ---- a literal bit, by its number
module _ (k : Kept) where
  one_literal : (i : ℕ) → i < first_terms + k.lookup.rows → literal_bit (kept_term k i) ≡ literal_number i
  one_literal i h =
      ap₂ (λ (a b : Bool). cond a (some true) (cond b (some false) none))
      (ap (same_term (kept_term k i)) (sym (tree_0 (kept_terms k) k.shelf.well)) ∙ same_place k i 0 h (omega arith))
      (ap (same_term (kept_term k i)) (sym (tree_1 (kept_terms k) k.shelf.well)) ∙ same_place k i 1 h (omega arith))

  each_literal : (ks : List ℕ) → T (all_below (first_terms + k.lookup.rows) ks) → map literal_bit (map (kept_term k) ks) ≡ map literal_number ks
  each_literal [] b = refl
  each_literal (i ∷ ks) b =
      ap₂ (λ (p : Option Bool) (ps : List (Option Bool)). p ∷ ps) (one_literal i (ltb→lt i (first_terms + k.lookup.rows) (and_l (ltb i (first_terms + k.lookup.rows)) _ b)))
      (each_literal ks (and_r (ltb i (first_terms + k.lookup.rows)) _ b))

pub numbers_literal : (k : Kept) {a : Args} → KeptArguments k (Listed a) → collect (map literal_number (words_of k a)) ≡ literal_bits (map (kept_term k) (words_of k a))
unfolding literal_bits
numbers_literal k {a} g = ap collect (sym (each_literal k (words_of k a) (true_T _ g.below)))

-- where one is none, there are no bits
lost : (ls : List ℕ) (x : ℕ) (ms : List ℕ) → literal_number x ≡ none → collect (map literal_number (ls ++ x ∷ ms)) ≡ none
lost [] x ms e = ap (λ (p : Option Bool). cons_some p (collect (map literal_number ms))) e
lost (l ∷ ls) x ms e = ap (cons_some (literal_number l)) (lost ls x ms e) ∙ none_after (literal_number l)
  where
    none_after : (p : Option Bool) → cons_some p none ≡ none
    none_after none = refl
    none_after (some b) = refl

-- ---- from the last bit on: those after the rest are literal, and have the value `sum`
pub record Summing (ks : List ℕ) (sum : ℕ) (rest : List ℕ) : Type 0 where
  pub done : List ℕ
  pub whole : rest ++ done ≡ ks
  pub few : length ks ≤ 64
  pub bits : List Bool
  pub literal_are : collect (map literal_number done) ≡ some bits
  pub size : length bits ≡ length done
  pub value : sum ≡ to_number bits

module _ {ks rest : List ℕ} where
  pub sum_start : rest ≡ ks → length ks ≤ 64 → Summing ks 0 rest
  sum_start e h = record { done = []; whole = append-nil rest ∙ e; few = h; bits = []; literal_are = refl; size = refl; value = refl }

  module _ {sum : ℕ} (inv : Summing ks sum rest) where
    -- the bit before those
    module _ (x : ℕ) (others : List ℕ) (e : rest ≡ others ++ x ∷ []) where
      next : others ++ x ∷ inv.done ≡ ks
      next = sym (append_assoc others (x ∷ []) inv.done) ∙ ap (λ (ls : List ℕ). ls ++ inv.done) (sym e) ∙ inv.whole

      -- one more bit fits
      pub sum_small : 2 * sum + 1 < 18446744073709551616
      sum_small =
          let f = inv.few in
          let z = inv.size in
          let v = inv.value in
          let l : length inv.bits ≤ 63 = omega (arith, sym (length-append others (x ∷ inv.done)), ap length next) in
          let m : 2 ^ length inv.bits ≤ 9223372036854775808 = pow_mono l in
          omega (arith, to_number_lt inv.bits)

      pub bit_fits : (b : Bool) {y : ℕ} → y ≡ bit b → 2 * sum + y < 18446744073709551616
      bit_fits false e = omega (arith, sum_small)
      bit_fits true e = omega (arith, sum_small)

      -- it is literal
      pub sum_turn : {b : Bool} → literal_number x ≡ some b → {y : ℕ} → y ≡ bit b → Summing ks (2 * sum + y) others
      sum_turn {b} f y_is =
          let z = inv.size in
          let v = inv.value in
          record {
            done = x ∷ inv.done;
            whole = next;
            few = inv.few;
            bits = b ∷ inv.bits;
            literal_are = ap₂ cons_some f inv.literal_are;
            size = omega arith;
            value = omega arith;
          }

      -- it is not
      pub sum_lost : (value : ℕ) → literal_number x ≡ none → bit_not_literal ≡ value_bits value (collect (map literal_number ks))
      sum_lost value f = sym (ap (value_bits value) (ap (λ (ls : List ℕ). collect (map literal_number ls)) (sym next) ∙ lost others x inv.done f))
