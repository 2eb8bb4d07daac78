-- An operation of a list of terms: what the arguments so far come to, extended by the others, is the whole.
use mathlib.Core.Path.{◌≡◌, refl, sym, ap, ap₂, subst, ◌∙◌}
use mathlib.Core.Bool.{false}
use mathlib.Core.List.{List, [], ◌∷◌, map, foldl}
use Prim.Native.Nat.{ℕ, zero, suc, ◌+◌, ◌^◌, ◌<◌, ◌≤◌}
use native.Mathlib.Numerals.{add-one}
use native.Mathlib.Omega.{arith}
use lib.Dec.{T, ltb, ltb→lt}
use lib.Ieee.Fits.{and_l, and_r}
use lib.ListN.{length, drop, get_or}
use Rattle.theory.specs.Limit.{first_terms}
use Rattle.theory.specs.Kind.{many, arity, takes}
use Rattle.theory.specs.Sort.{Sort, good, sort_width, sort_op, sort_of}
use Rattle.theory.specs.Value.{Assign, Val, truth, meaning}
use Rattle.theory.specs.Record.{Bytes}
use Rattle.theory.specs.Plain.{Plain}
use Rattle.theory.specs.Codes.{all_below}
use Rattle.theory.specs.Places.{tree_at}
use Rattle.theory.proofs.Bytes.{words_length}
use Rattle.terms.specs.declared.Args.{Args}
use Rattle.terms.specs.Decoded.{words_in}
use Rattle.store.specs.Store.{listed}
use Rattle.sweeps.specs.Sweep.{as_number}
use Rattle.sweeps.proofs.Fitting.{counted}
use Rattle.operations.specs.declared.apply.Many.{Many}
use Rattle.operations.specs.declared.apply.Many.TheVariants as M
use Rattle.operations.specs.declared.apply.Word.{Word}
use Rattle.operations.specs.Apply.{many_op, bits_by, val_by, Number, start_val, extend_val, next_width, Room, Starts, Started, Extends, Extended}
use Rattle.operations.proofs.ApplyLaws.{bit_back}
use Rattle.operations.proofs.MeaningLaws.{many_meaning, room_first, room_next, room_start, first_fits, sorts_by}
use Rattle.evaluation.specs.Cells.{AllRight, sorts_on, values_on, Given, GivenList, Comes}
use Rattle.evaluation.proofs.PlaceLaws.{place_sort, place_number, place_val}

-- ---- lists
pub below_at : (m : ℕ) (ks : List ℕ) (i : ℕ) → T (all_below m ks) → i < length ks → get_or ks i 0 < m
below_at m [] i b h = absurd (omega arith)
below_at m (k ∷ ks) zero b h = ltb→lt k m (and_l (ltb k m) _ b)
below_at m (k ∷ ks) (suc i) b h = below_at m ks i (and_r (ltb k m) _ b) (omega arith)

-- a value's number
number_back : (w v : ℕ) → v < 2 ^ bits_by w → as_number (val_by w v) ≡ v
number_back zero v h = sym (bit_back v h)
number_back (suc w) v h = refl

-- every kind of one argument or more takes as many as that
many_arity : (op : Many) → arity (many_op op) ≡ many
many_arity M.And = refl
many_arity M.Or = refl
many_arity M.Bits = refl
many_arity M.BvAnd = refl
many_arity M.BvOr = refl
many_arity M.BvXor = refl
many_arity M.Add = refl
many_arity M.Mul = refl
many_arity M.Concat = refl

-- ---- widths and num of the terms at places
abbrev width_on : Plain → ℕ → ℕ
width_on list k = sort_width (sort_of (tree_at list k))

abbrev val_on : Plain → (ℕ → ℕ) → ℕ → Val
val_on list num k = val_by (width_on list k) (num k)

-- what a list of num comes to
abbrev folded : Many → List Val → Val
folded op [] = truth false
folded op (v ∷ vs) = foldl (extend_val op) (start_val op v) vs

-- the arguments before the rest have come to acc
pub record Folding (job work : Bytes) (n : ℕ) (num : ℕ → ℕ) (op : Many) (ks : List ℕ) (acc : Word) (rest : List ℕ) : Type 0 where
  pub low : T (all_below (first_terms + n) rest)
  pub room : Room op acc.width (map (width_on (listed job work n)) rest)
  pub below : acc.value < 2 ^ bits_by acc.width
  pub whole : foldl (extend_val op) (val_by acc.width acc.value) (map (val_on (listed job work n) num) rest) ≡ folded op (map (val_on (listed job work n) num) ks)

-- the first of terms that are kept is kept, and so are the others
pub first_below : {m k : ℕ} {ks others : List ℕ} → T (all_below m ks) → ks ≡ k ∷ others → k < m
first_below {m} {k} h d = ltb→lt k m (and_l (ltb k m) _ (subst (λ (ls : List ℕ). T (all_below m ls)) d h))

others_below : (m : ℕ) {k : ℕ} {ks others : List ℕ} → T (all_below m ks) → ks ≡ k ∷ others → T (all_below m others)
others_below m {k} h d = and_r (ltb k m) _ (subst (λ (ls : List ℕ). T (all_below m ls)) d h)

module _ {job work : Bytes} {n : ℕ} {num : ℕ → ℕ} (op : Many) (ks : List ℕ) (g : Given job work n num (many_op op) ks) where
  -- there is a first argument
  pub some_first : 1 ≤ length ks
  some_first = go ks (subst (λ a. T (takes a (length (sorts_on (listed job work n) ks)))) (many_arity op) (counted (many_op op) (sorts_on (listed job work n) ks) g.sorted))
    where
      go : (ls : List ℕ) → T (takes many (length (sorts_on (listed job work n) ls))) → 1 ≤ length ls
      go [] h = absurd h
      go (l ∷ ls) h = omega arith

  sorts_back : (ls : List ℕ) → T (all_below (first_terms + n) ls) → sorts_by (map (width_on (listed job work n)) ls) ≡ sorts_on (listed job work n) ls
  sorts_back [] b = refl
  sorts_back (l ∷ ls) b =
      ap₂ (λ (s : Sort) (ss : List Sort). s ∷ ss) (place_sort g.able l (ltb→lt l (first_terms + n) (and_l (ltb l (first_terms + n)) _ b)) refl)
      (sorts_back ls (and_r (ltb l (first_terms + n)) _ b))

  widths_sorted : T (good (sort_op (many_op op) (sorts_by (map (width_on (listed job work n)) ks))))
  widths_sorted = subst (λ (ss : List Sort). T (good (sort_op (many_op op) ss))) (sym (sorts_back ks g.below)) g.sorted

  vals_back : (ρ : Assign) (ls : List ℕ) → T (all_below (first_terms + n) ls) → AllRight ρ (listed job work n) num ls
      → map (val_on (listed job work n) num) ls ≡ values_on ρ (listed job work n) ls
  vals_back ρ [] b a = refl
  vals_back ρ (l ∷ ls) b a =
      ap₂ (λ (v : Val) (vs : List Val). v ∷ vs) (place_val g.able l (ltb→lt l (first_terms + n) (and_l (ltb l (first_terms + n)) _ b)) ρ a.0 refl refl)
      (vals_back ρ ls (and_r (ltb l (first_terms + n)) _ b) a.1)

  -- ---- the next argument, with its width and cell
  module _ (k m v : ℕ) (e : m ≡ sort_width (sort_of (tree_at (listed job work n) k))) (f : v ≡ num k) where
    arg_val : val_by m v ≡ val_on (listed job work n) num k
    arg_val = ap₂ val_by e f

    module _ (acc : Word) {rest others : List ℕ} (s : Folding job work n num op ks acc rest) (d : rest ≡ k ∷ others) where
      room_on : Room op acc.width (m ∷ map (width_on (listed job work n)) others)
      room_on =
          subst (λ (w : ℕ). Room op acc.width (w ∷ map (width_on (listed job work n)) others)) (sym e)
          (subst (λ (ls : List ℕ). Room op acc.width (map (width_on (listed job work n)) ls)) d s.room)

      -- it can follow
      pub folding_ready : Extends op acc m v
      folding_ready = record {
        room = room_first op acc.width _ _ room_on;
        before = s.below;
        next = (place_number g.able k (first_below s.low d) e f).below;
      }

      pub folding_turn : (next : Word) → Extended op acc m v next → Folding job work n num op ks next others
      folding_turn next x = record {
        low = others_below (first_terms + n) s.low d;
        room = subst (λ (w : ℕ). Room op w (map (width_on (listed job work n)) others)) (sym x.width_is) (room_next op acc.width _ _ room_on);
        below = x.below;
        whole = ap (λ (u : Val). foldl (extend_val op) u (map (val_on (listed job work n) num) others)) (x.is ∙ ap (extend_val op (val_by acc.width acc.value)) arg_val)
            ∙ sym (ap (λ (ls : List ℕ). foldl (extend_val op) (val_by acc.width acc.value) (map (val_on (listed job work n) num) ls)) d) ∙ s.whole;
      }

    -- ---- the first argument
    module _ {others : List ℕ} (d : ks ≡ k ∷ others) where
      first_sorted : T (good (sort_op (many_op op) (sorts_by (m ∷ map (width_on (listed job work n)) others))))
      first_sorted =
          subst (λ (w : ℕ). T (good (sort_op (many_op op) (sorts_by (w ∷ map (width_on (listed job work n)) others))))) (sym e)
          (subst (λ (ls : List ℕ). T (good (sort_op (many_op op) (sorts_by (map (width_on (listed job work n)) ls))))) d widths_sorted)

      first_number : Number m v
      first_number = place_number g.able k (first_below g.below d) e f

      pub start_ready : Starts op m v
      start_ready = record { fits = first_fits op m (map (width_on (listed job work n)) others) first_sorted; first = first_number }

      pub folding_start : (r : Word) → Started op m v r → Folding job work n num op ks r others
      folding_start r x = record {
        low = others_below (first_terms + n) g.below d;
        room = subst (λ (w : ℕ). Room op w (map (width_on (listed job work n)) others)) (sym x.width_is) (room_start op m (map (width_on (listed job work n)) others) first_number.few first_sorted);
        below = x.below;
        whole = ap (λ (u : Val). foldl (extend_val op) u (map (val_on (listed job work n) num) others)) (x.is ∙ ap (start_val op) arg_val)
            ∙ sym (ap (λ (ls : List ℕ). folded op (map (val_on (listed job work n) num) ls)) d);
      }

  -- ---- the end
  folded_meaning : (ρ : Assign) (ls : List ℕ) → 1 ≤ length ls → folded op (map (val_on (listed job work n) num) ls) ≡ meaning ρ (many_op op) (map (val_on (listed job work n) num) ls)
  folded_meaning ρ [] h = absurd (omega arith)
  folded_meaning ρ (l ∷ ls) h = sym (many_meaning ρ op _ _)

  pub folding_done : (acc : Word) {rest : List ℕ} → rest ≡ [] → Folding job work n num op ks acc rest → Comes (listed job work n) num (many_op op) ks acc.value
  folding_done acc h s ρ a =
      sym (number_back acc.width acc.value s.below)
      ∙ ap as_number (ap (λ (ls : List ℕ). foldl (extend_val op) (val_by acc.width acc.value) (map (val_on (listed job work n) num) ls)) (sym h) ∙ s.whole
      ∙ folded_meaning ρ ks some_first ∙ ap (meaning ρ (many_op op)) (vals_back ρ ks g.below a))

-- ---- a list in the job has as many numbers as it says
pub count_is : (job : Bytes) (a : Args) → length (words_in job a) ≡ a.count
count_is job a = words_length a.bytes a.count (drop a.at job)

module _ {job work : Bytes} {n : ℕ} {num : ℕ → ℕ} (op : Many) (a : Args) (g : GivenList job work n num (many_op op) a) where
  count_first : 0 < length (words_in job a)
  count_first = some_first op (words_in job a) g.given

  pub count_some : 0 < a.count
  count_some = omega (arith, count_first, count_is job a)
