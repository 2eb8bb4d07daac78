-- The numbers of the bits that extract, sign_extend and concat expect.
use mathlib.Core.Path.{◌≡◌, refl, sym, ap, ap₂, subst, ◌∙◌}
use mathlib.Core.List.{List, [], ◌∷◌, ◌++◌, map, append-nil}
use Rattle.std.proofs.lemmas.List.{append_assoc}
use Prim.Native.Nat.{ℕ, zero, suc, ◌+◌, ◌-◌, ◌<◌, ◌≤◌}
use native.Mathlib.Omega.{arith}
use lib.Dec.{T, ltb, ltb→lt}
use lib.Ieee.Fits.{and_l, and_r}
use lib.ListN.{length, take, drop, get_or, replicate, length-append}
use Rattle.theory.specs.Limit.{first_terms}
use Rattle.theory.specs.Codes.{all_below}
use Rattle.theory.specs.Sort.{is_bv_sort, all_bv, sum_widths, sort_of}
use Rattle.theory.specs.Bits.{get_term_bits, concat_bits}
use Rattle.theory.specs.Circuit.{last}
use Rattle.theory.proofs.Slices.{map_append, map_drop, map_take, last_map}
use Rattle.theory.proofs.Sorts.{is_bv}
use Rattle.terms.specs.declared.Args.{Args}
use Rattle.store.specs.declared.gates.Kept.{Kept}
use Rattle.store.specs.Kept.{kept_term, kept_number, kept_width, words_of}
use Rattle.operand_rules.specs.Rules.{Operand}
use Rattle.slice_rules.specs.Given.{Concat, sorts_in}
use Rattle.theory.proofs.Basics.{true_T}

-- the top bit
top_bit : (xs : List ℕ) (n d : ℕ) → length xs ≡ suc n → get_or xs n 0 ≡ last d xs
unfolding last
top_bit [] n d e = absurd (omega arith)
top_bit (x ∷ []) zero d e = refl
top_bit (x ∷ []) (suc n) d e = absurd (omega arith)
top_bit (x ∷ y ∷ xs) zero d e = absurd (omega arith)
top_bit (x ∷ y ∷ xs) (suc n) d e = top_bit (y ∷ xs) n d (omega arith)

module _ {A : Type 0} (h : A → ℕ) (ts : List A) where
  -- bits j to i
  pub extracted : {xs : List ℕ} → xs ≡ map h ts → (i j n : ℕ) → n ≡ suc (i - j) → take n (drop j xs) ≡ map h (take (suc (i - j)) (drop j ts))
  extracted e i j n d =
      ap₂ (λ (m : ℕ) (zs : List ℕ). take m (drop j zs)) d e ∙ sym (map_take h (suc (i - j)) (drop j ts) ∙ ap (take (suc (i - j))) (map_drop h j ts))

  map_replicate : (k : ℕ) (a : A) → replicate k (h a) ≡ map h (replicate k a)
  map_replicate zero a = refl
  map_replicate (suc k) a = ap (λ (us : List ℕ). h a ∷ us) (map_replicate k a)

  -- and k copies of the top one
  pub extended : {xs : List ℕ} → xs ≡ map h ts → (z : A) (k w : ℕ) → length xs ≡ w → 1 ≤ w → xs ++ replicate k (get_or xs (w - 1) 0) ≡ map h (ts ++ replicate k (last z ts))
  extended {xs} e z k w l s =
      let top : get_or xs (w - 1) 0 ≡ h (last z ts) = top_bit xs (w - 1) (h z) (omega arith) ∙ ap (last (h z)) e ∙ sym (last_map h z ts) in
      ap₂ (λ (us : List ℕ) (b : ℕ). us ++ replicate k b) e top ∙ ap (λ (us : List ℕ). map h ts ++ us) (map_replicate k (last z ts))
      ∙ sym (map_append h ts (replicate k (last z ts)))

-- ---- concat: the arguments from the last on, those after the rest are joined
pub record Joining (k : Kept) (ks out rest : List ℕ) : Type 0 where
  pub done : List ℕ
  pub whole : rest ++ done ≡ ks
  pub width : length out ≡ sum_widths (sorts_in k done)
  pub sofar : out ≡ map (kept_number k) (concat_bits (map (kept_term k) done))

module _ (k : Kept) where
  -- the widths of some are no more than those of all
  fewer : (ls ms : List ℕ) → sum_widths (sorts_in k ms) ≤ sum_widths (sorts_in k (ls ++ ms))
  fewer [] ms = omega arith
  fewer (l ∷ ls) ms = omega (arith, fewer ls ms)

  -- one of bit-vectors is one, and one of kept terms is kept
  bit_vector : (ls : List ℕ) (x : ℕ) (ms : List ℕ) → T (all_bv (sorts_in k (ls ++ x ∷ ms))) → T (is_bv_sort (sort_of (kept_term k x)))
  bit_vector [] x ms h = and_l (is_bv_sort (sort_of (kept_term k x))) _ h
  bit_vector (l ∷ ls) x ms h = bit_vector ls x ms (and_r (is_bv_sort (sort_of (kept_term k l))) _ h)

  one_below : (ls : List ℕ) (x : ℕ) (ms : List ℕ) → T (all_below (first_terms + k.lookup.rows) (ls ++ x ∷ ms)) → x < first_terms + k.lookup.rows
  one_below [] x ms h = ltb→lt x (first_terms + k.lookup.rows) (and_l (ltb x (first_terms + k.lookup.rows)) _ h)
  one_below (l ∷ ls) x ms h = one_below ls x ms (and_r (ltb l (first_terms + k.lookup.rows)) _ h)

module _ {k : Kept} {ks out rest : List ℕ} where
  pub join_start : rest ≡ ks → out ≡ [] → Joining k ks out rest
  unfolding concat_bits
  join_start d e = record { done = []; whole = append-nil rest ∙ d; width = ap length e; sofar = e }

  module _ (inv : Joining k ks out rest) where
    pub join_end : rest ≡ [] → out ≡ map (kept_number k) (concat_bits (map (kept_term k) ks))
    join_end e = inv.sofar ∙ ap (λ (ls : List ℕ). map (kept_number k) (concat_bits (map (kept_term k) ls))) (ap (λ (ls : List ℕ). ls ++ inv.done) (sym e) ∙ inv.whole)

    -- the argument before those comes next
    module _ (x : ℕ) (others : List ℕ) (e : rest ≡ others ++ x ∷ []) where
      next : others ++ x ∷ inv.done ≡ ks
      next = sym (append_assoc others (x ∷ []) inv.done) ∙ ap (λ (ls : List ℕ). ls ++ inv.done) (sym e) ∙ inv.whole

      pub join_operand : {list : Args} {claim : ℕ} → Concat k list claim → words_of k list ≡ ks → Operand k x (kept_width k x)
      join_operand {list} c d =
          let same = d ∙ sym next in
          record {
            there = one_below k others x inv.done (subst (λ (ls : List ℕ). T (all_below (first_terms + k.lookup.rows) ls)) same (true_T _ c.arguments.below));
            sort = is_bv (sort_of (kept_term k x)) (bit_vector k others x inv.done (subst (λ (ls : List ℕ). T (all_bv (sorts_in k ls))) same c.bit_vectors));
          }

      wider : (xs : List ℕ) → length xs ≡ kept_width k x → length out + length xs ≡ sum_widths (sorts_in k (x ∷ inv.done))
      wider xs l = omega (arith, inv.width)

      pub join_fits : (xs : List ℕ) → length xs ≡ kept_width k x → sum_widths (sorts_in k ks) ≤ 64 → length out + length xs ≤ 64
      join_fits xs l g =
          let all : sum_widths (sorts_in k (others ++ x ∷ inv.done)) ≡ sum_widths (sorts_in k ks) = ap (λ (js : List ℕ). sum_widths (sorts_in k js)) next in
          omega (arith, wider xs l, fewer k others (x ∷ inv.done))

      pub join_turn : (xs : List ℕ) → length xs ≡ kept_width k x → xs ≡ map (kept_number k) (get_term_bits (kept_term k x)) → {more : List ℕ} → more ≡ out ++ xs → Joining k ks more others
      unfolding concat_bits
      join_turn xs l b {more} d = record {
        done = x ∷ inv.done;
        whole = next;
        width = ap length d ∙ length-append out xs ∙ wider xs l;
        sofar = d ∙ ap₂ (λ (us vs : List ℕ). us ++ vs) inv.sofar b
            ∙ sym (map_append (kept_number k) (concat_bits (map (kept_term k) inv.done)) (get_term_bits (kept_term k x)));
      }
