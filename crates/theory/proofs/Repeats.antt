-- Each term record done was a repeat or put an entry: the repeats and the new terms are the term records.
use mathlib.Core.Path.{◌≡◌, refl, sym, ap, subst, ◌∙◌}
use mathlib.Core.Bool.{Bool, true, false, not, ◌&&◌, cond}
use mathlib.Core.List.{List, [], ◌∷◌, ◌++◌, foldl}
use Rattle.std.specs.Prelude.{Option, Some as some}
use Prim.Native.Nat.{ℕ, zero, suc, ◌+◌, ◌-◌, ◌*◌, ◌/◌, ◌%◌, ◌≤◌, ◌<◌}
use native.Mathlib.Nat.{div-eq_of_lt}
use native.Mathlib.Omega.{arith}
use native.Mathlib.Decide.{dec_le}
use lib.Dec.{T, eqb, leb, ltb, leb→le}
use lib.Ieee.Fits.{and_l, and_r}
use lib.ListN.{length, take, length-append, length-take, length-drop}
use Rattle.std.specs.Prelude.{slice_get as get_elem?}
use borrow.Author.Tests.{le-leb, lt-leb}
use Rattle.theory.specs.Limit.{Limits, max_job}
use Rattle.theory.specs.Kind.{Op, kind, arity, takes}
use Rattle.theory.specs.Term.{Term}
use Rattle.theory.specs.Record.{Bytes, records_of, total_length, kind_of, body_of, fits, Shape, plain, indexed, twice_indexed, valued, front, make, shapes, find_shape, shape_of, Item, term, step, chain, back, unknown, misfit, read, number_length}
use Rattle.theory.specs.Plain.{Plain, start, entry, has, put, feed_item, feed, repeat_item, repeat_of, plain_after}
use Rattle.theory.specs.Codes.{first_fault, tests, fault}
use Rattle.theory.specs.Job.{run}
use Rattle.theory.specs.Claim.{repeats_from, news_from, is_term, term_count, Repeats, FewRepeats}
use Rattle.theory.proofs.Lengths.{length_least}
use Rattle.theory.proofs.Basics.{none_some, some_inj}
use Rattle.theory.proofs.Bytes.{says_term}
use Rattle.theory.proofs.Cut.{lengths}
use Rattle.theory.proofs.Places.{tree_of, term_of_is}
use Rattle.theory.proofs.Run.{term_passed, repeats_snoc, take_next, Passes, plain_ind, ran}

-- a list that is no longer has no new entry
not_longer : (m n : ℕ) → n ≤ m → ◌≡◌ {A = ℕ} (cond (ltb m n) 1 0) 0
not_longer m n h = ap (λ (b : Bool). cond b 1 0) (lt-leb (suc m) n (omega arith))

-- one that is longer has
longer : (m n : ℕ) → m < n → ◌≡◌ {A = ℕ} (cond (ltb m n) 1 0) 1
longer m n h = ap (λ (b : Bool). cond b 1 0) (le-leb (suc m) n h)

-- a record without a fault: a term is a repeat or puts an entry, and no other record does either
pub one_of : (place b : ℕ) (limits : Limits) (work space : ℕ) (list : Plain) (answered : ℕ) (r : Bytes) → fault place b limits work space list answered r ≡ 0
    → repeat_of b list r + cond (ltb (length list) (length (feed b list r))) 1 0 ≡ cond (is_term (read b r)) 1 0
unfolding repeat_of feed fault
one_of place b limits work space list answered r e = go (read b r) e
  where
    by_has : (t : Term) (h : Bool) → cond h 1 0 + cond (ltb (length list) (length (cond h list (list ++ (entry t r ∷ []))))) 1 0 ≡ 1
    by_has t true = ap (λ (k : ℕ). 1 + k) (not_longer (length list) (length list) (omega arith))
    by_has t false = let l = length-append list (entry t r ∷ []) in ap (λ (k : ℕ). 0 + k) (longer (length list) (length (list ++ (entry t r ∷ []))) (omega arith))

    same : ◌≡◌ {A = ℕ} (0 + cond (ltb (length list) (length list)) 1 0) 0
    same = ap (λ (k : ℕ). 0 + k) (not_longer (length list) (length list) (omega arith))

    go : (i : Item) → first_fault (tests place b limits work space list answered r i) ≡ 0
        → repeat_item list r i + cond (ltb (length list) (length (feed_item list r i))) 1 0 ≡ cond (is_term i) 1 0
    go (term o ks) f =
        subst (λ (q : Option Term). cond (has list r) 1 0 + cond (ltb (length list) (length (put list r q))) 1 0 ≡ 1)
        (sym (term_of_is list o ks (term_passed place b limits work space list answered r o ks f).below)) (by_has (tree_of list o ks) (has list r))
    go (step n ks) f = same
    go (chain n ps k) f = same
    go (back n) f = let l = length-take n list in ap (λ (k : ℕ). 0 + k) (not_longer (length list) (length (take n list)) (omega arith))
    go unknown f = same
    go misfit f = same

-- one more record
news_snoc : (b : ℕ) (list : Plain) (rs : List Bytes) (r : Bytes)
    → news_from b list (rs ++ (r ∷ [])) ≡ news_from b list rs + cond (ltb (length (foldl (feed b) list rs)) (length (feed b (foldl (feed b) list rs) r))) 1 0
news_snoc b list [] r = omega arith
news_snoc b list (s ∷ rs) r = let e = news_snoc b (feed b list s) rs r in omega arith

terms_snoc : (b : ℕ) (rs : List Bytes) (r : Bytes) → term_count b (rs ++ (r ∷ [])) ≡ term_count b rs + cond (is_term (read b r)) 1 0
terms_snoc b [] r = omega arith
terms_snoc b (s ∷ rs) r = let e = terms_snoc b rs r in omega arith

module _ (limits : Limits) (job : Bytes) (work space : ℕ) where
  -- the bytes of a term's number
  abbrev b : ℕ
  b = number_length job

  -- of the first m records
  abbrev Summed : List Bytes → Type 0
  Summed rs = repeats_from b start rs + news_from b start rs ≡ term_count b rs

  summed : (m : ℕ) → m ≤ (run limits job work space).records → Summed (take m (records_of job))
  summed = plain_ind limits job work space (λ m. Summed (take m (records_of job))) refl next
    where
      next : (m : ℕ) (r : Bytes) → m < (run limits job work space).records → get_elem? (records_of job) m ≡ some r → Passes limits job work space m r
          → Summed (take m (records_of job)) → Summed (take (suc m) (records_of job))
      next m r l e p h =
          let rs = take m (records_of job) in
          let a = repeats_snoc b start rs r in
          let c = news_snoc b start rs r in
          let d = terms_snoc b rs r in
          let o = one_of m b limits work space (plain_after m job) _ r p in
          let z : Summed (rs ++ (r ∷ [])) = omega arith in
          subst Summed (sym (take_next limits job work space m r e)) z

-- the claim
pub repeats_hold : Repeats
repeats_hold limits job work space =
    let w = (ran limits job work space).repeats_are in
    let s = summed limits job work space (run limits job work space).records (omega arith) in
    ap (λ (k : ℕ). k + news_from (number_length job) start (take (run limits job work space).records (records_of job))) w ∙ s

-- ---- how many there can be
-- a shape without numbers of its own has an argument
abbrev has_argument : Shape → Bool
has_argument (plain o) = not (takes (arity o) 0)
has_argument (indexed f) = true
has_argument (twice_indexed f) = true
has_argument (valued f) = true

abbrev all_have : List Shape → Bool
all_have [] = true
all_have (s ∷ ss) = has_argument s && all_have ss

found_has : (k : ℕ) (ss : List Shape) (s : Shape) → find_shape k ss ≡ some s → T (all_have ss) → T (has_argument s)
found_has k [] s e h = absurd (none_some s e)
found_has k (t ∷ ss) s e h = go (eqb (kind (make t [])) k) e (λ d. found_has k ss s d (and_r (has_argument t) _ h))
  where
    go : (b : Bool) → cond b (some t) (find_shape k ss) ≡ some s → (find_shape k ss ≡ some s → T (has_argument s)) → T (has_argument s)
    go true d f = subst (λ (u : Shape). T (has_argument u)) (some_inj t s d) (and_l (has_argument t) _ h)
    go false d f = f d

never_both : (b : Bool) → T (not b) → T b → ⊥
never_both true h t = h
never_both false h t = t

-- a record that says a term has six bytes or more, where a term's number has two or more
term_long : (b : ℕ) → 2 ≤ b → (r : Bytes) (o : Op) (ks : List ℕ) → read b r ≡ term o ks → 6 ≤ length r
unfolding shape_of
term_long b two r o ks e =
    let t = says_term b r o ks e in
    let n = go t.shape (found_has (kind_of r) shapes t.shape t.is_shape tt) t.fit t.made in
    let l : length (body_of r) ≡ length r - 4 = length-drop 4 r in
    omega arith
  where
    go : (s : Shape) → T (has_argument s) → T (fits b (front s) (takes (arity o)) (body_of r)) → make s (body_of r) ≡ o → 2 ≤ length (body_of r)
    go (plain p) h f m = by (dec_le 2 (length (body_of r)))
      where
        by : Dec (2 ≤ length (body_of r)) → 2 ≤ length (body_of r)
        by (yes l) = l
        by (no l) =
            let z : (length (body_of r) - 0) / b ≡ 0 = div-eq_of_lt (omega arith) in
            let a = and_r (eqb ((length (body_of r) - 0) % b) 0) _ (and_r (leb 0 (length (body_of r))) _ f) in
            absurd (never_both (takes (arity p) 0) h (subst (λ (q : Op). T (takes (arity q) 0)) (sym m) (subst (λ (n : ℕ). T (takes (arity o) n)) z a)))
    go (indexed g) h f m = leb→le 2 (length (body_of r)) (and_l (leb 2 (length (body_of r))) _ f)
    go (twice_indexed g) h f m = omega (arith, leb→le 4 (length (body_of r)) (and_l (leb 4 (length (body_of r))) _ f))
    go (valued g) h f m = omega (arith, leb→le 10 (length (body_of r)) (and_l (leb 10 (length (body_of r))) _ f))

repeat_long : (b : ℕ) → 2 ≤ b → (list : Plain) (r : Bytes) → 6 * repeat_of b list r ≤ length r
unfolding repeat_of
repeat_long b two list r = go (read b r) refl
  where
    by_has : (h : Bool) → 6 ≤ length r → 6 * cond h 1 0 ≤ length r
    by_has true h = h
    by_has false h = omega arith

    go : (i : Item) → read b r ≡ i → 6 * repeat_item list r i ≤ length r
    go (term o ks) e = by_has (has list r) (term_long b two r o ks e)
    go (step n ks) e = omega arith
    go (chain n ps k) e = omega arith
    go (back n) e = omega arith
    go unknown e = omega arith
    go misfit e = omega arith

repeats_long : (b : ℕ) → 2 ≤ b → (list : Plain) (rs : List Bytes) → 6 * repeats_from b list rs ≤ total_length rs
repeats_long b two list [] = omega arith
repeats_long b two list (r ∷ rs) = let x = repeat_long b two list r in let y = repeats_long b two (feed b list r) rs in omega arith

total_take : (m : ℕ) (rs : List Bytes) → total_length (take m rs) ≤ total_length rs
total_take zero rs = omega arith
total_take (suc m) [] = omega arith
total_take (suc m) (r ∷ rs) = let h = total_take m rs in omega arith

pub few_repeats : FewRepeats
few_repeats limits job work space = go (run limits job work space).records (ran limits job work space).repeats_are (ran limits job work space).short
  where
    go : (done : ℕ) → (run limits job work space).repeats ≡ repeats_from (number_length job) start (take done (records_of job)) → ((m : ℕ) → m < done → length job ≤ max_job)
        → (run limits job work space).repeats ≤ 2796202
    go zero e s = omega arith
    go (suc m) e s =
        let a = repeats_long (number_length job) (length_least job) start (take (suc m) (records_of job)) in
        let b = total_take (suc m) (records_of job) in
        let c = lengths job in
        let d = s 0 (omega arith) in
        omega arith
