-- The stated limits: no bit-vector on the list is wider than its limit; and they matter through codes 7 and 8 alone, so that a job which neither stops
-- comes to the same under larger limits.
use mathlib.Core.Path.{◌≡◌, refl, sym, ap, subst, ◌∙◌}
use mathlib.Core.Bool.{Bool, true, false, ◌||◌, cond}
use mathlib.Core.List.{List, [], ◌∷◌, ◌++◌}
use Rattle.std.specs.Prelude.{Option, None as none, Some as some}
use Prim.Native.Nat.{ℕ, zero, suc, ◌+◌, ◌-◌, ◌*◌, ◌≤◌}
use native.Mathlib.Omega.{arith}
use lib.Dec.{T, leb, ltb, leb→le, le→leb, ltb→lt, lt→ltb}
use lib.Ieee.Fits.{and_l, and_r, and_i}
use lib.ListN.{length, take}
use Rattle.theory.specs.Limit.{Limits, capped, max_job, first_terms, term_bytes}
use Rattle.theory.specs.Term.{Term, fold}
use Rattle.theory.specs.Sort.{guard, good, sort_of, sort_width}
use Rattle.theory.specs.Record.{Bytes, records_of, ending, Item, term, step, chain, back, unknown, misfit, read, step_count, number_length}
use Rattle.theory.specs.Plain.{Entry, entry, Plain, start, at_place, term_of, has, feed, repeat_of, plain_after}
use Rattle.theory.specs.Codes.{first_fault, all_below, well_sorted, room, tests, fault}
use Rattle.theory.specs.Answer.{Answer}
use Rattle.theory.specs.Chain.{Earlier}
use Rattle.theory.specs.Job.{answers_to, recall, Outcome, outcome, run_from, run, returned, answers_after, work_after}
use Rattle.theory.specs.Claim.{NoWider, LimitsOnly}
use Rattle.theory.proofs.Basics.{none_some, some_inj}
use Rattle.theory.proofs.Places.{tree_of}
use Rattle.theory.proofs.Run.{fed, plain_ind, plain_next}

-- ---- widths
-- each term of the list is within a width
abbrev Narrow : ℕ → Plain → Type 0
Narrow w [] = Unit {0}
Narrow w (e ∷ list) = (sort_width (sort_of e.tree) ≤ w) × Narrow w list

narrow_snoc : (w : ℕ) (list : Plain) (e : Entry) → Narrow w list → sort_width (sort_of e.tree) ≤ w → Narrow w (list ++ (e ∷ []))
narrow_snoc w [] e h g = (g, tt)
narrow_snoc w (d ∷ list) e h g = (h.0, narrow_snoc w list e h.1 g)

narrow_take : (w n : ℕ) (list : Plain) → Narrow w list → Narrow w (take n list)
narrow_take w zero list h = tt
narrow_take w (suc n) [] h = tt
narrow_take w (suc n) (e ∷ list) h = (h.0, narrow_take w n list h.1)

narrow_at : (w : ℕ) (list : Plain) (i : ℕ) (t : Term) → Narrow w list → at_place list i ≡ some t → sort_width (sort_of t) ≤ w
narrow_at w [] i t h e = absurd (none_some t e)
narrow_at w (d ∷ list) zero t h e = subst (λ (x : Term). sort_width (sort_of x) ≤ w) (some_inj _ _ e) h.0
narrow_at w (d ∷ list) (suc i) t h e = narrow_at w list i t h.1 e

start_narrow : (w : ℕ) → Narrow w start
unfolding fold guard
start_narrow w = (omega arith, (omega arith, tt))

pub no_wider : NoWider
no_wider limits job work space m i t l e =
    narrow_at (capped (number_length job) limits).width (plain_after m job) i t
    (plain_ind limits job work space (λ (k : ℕ). Narrow (capped (number_length job) limits).width (plain_after k job)) (start_narrow (capped (number_length job) limits).width)
    (λ k r h f p n. subst (Narrow (capped (number_length job) limits).width) (sym (plain_next limits job work space k r f))
    (fed (Narrow (capped (number_length job) limits).width) k (number_length job) limits work space (plain_after k job) (step_count (number_length job) (take k (records_of job))) r p n
    (λ o ks d q new. narrow_snoc (capped (number_length job) limits).width (plain_after k job) (entry (tree_of (plain_after k job) o ks) r) n
    (leb→le (sort_width (sort_of (tree_of (plain_after k job) o ks))) (capped (number_length job) limits).width q.narrow))
    (λ c a b. narrow_take (capped (number_length job) limits).width c (plain_after k job) n)))
    m l)
    e

-- ---- codes 7 and 8
-- a code that no limit gives
record Other (code : ℕ) : Type 0 where
  not_7 : code ≡ 7 → ⊥
  not_8 : code ≡ 8 → ⊥

-- a term's tests: where the code is neither 7 nor 8, it is the same under tests that pass more
by_tests : (a w x h m n : Bool) → (T w → T x) → (T m → T n) → Other (cond a (cond w (cond (h || m) 0 8) 7) 6)
    → ◌≡◌ {A = ℕ} (cond a (cond w (cond (h || m) 0 8) 7) 6) (cond a (cond x (cond (h || n) 0 8) 7) 6)
by_tests false w x h m n f g o = refl
by_tests true false x h m n f g o = absurd (o.not_7 refl)
by_tests true true false h m n f g o = absurd (f tt)
by_tests true true true true m n f g o = refl
by_tests true true true false false n f g o = absurd (o.not_8 refl)
by_tests true true true false true false f g o = absurd (g tt)
by_tests true true true false true true f g o = refl

-- by the code of a record: the run stops at it, or goes on
by_fault : (f g : ℕ) (x y : Outcome) (z : ℕ → Outcome) → ((c : ℕ) → (z c).stop ≡ suc c) → (Other f → f ≡ g) → (Other x.stop → x ≡ y)
    → Other (elim f as (λ w. Outcome) [ zero ↦ x | suc c ↦ z c ]).stop
    → ◌≡◌ {A = Outcome} (elim f as (λ w. Outcome) [ zero ↦ x | suc c ↦ z c ]) (elim g as (λ w. Outcome) [ zero ↦ y | suc c ↦ z c ])
by_fault zero g x y z s e h o =
    h o ∙ ap (λ (n : ℕ). elim n as (λ w. Outcome) [ zero ↦ y | suc c ↦ z c ]) (e (record { not_7 = λ d. omega arith; not_8 = λ d. omega arith }))
by_fault (suc c) g x y z s e h o =
    ap (λ (n : ℕ). elim n as (λ w. Outcome) [ zero ↦ y | suc c ↦ z c ]) (e (record { not_7 = λ d. o.not_7 (s c ∙ d); not_8 = λ d. o.not_8 (s c ∙ d) }))

module _ (b : ℕ) (small large : Limits) (width_within : small.width ≤ large.width) (terms_within : small.terms ≤ large.terms) where
  -- ---- the tests that read a limit pass under larger ones
  sorted_more : (q : Option Term) → T (well_sorted (capped b small) q) → T (well_sorted (capped b large) q)
  sorted_more none h = h
  sorted_more (some t) h =
      let g = good (sort_of t) in
      let n = sort_width (sort_of t) in
      let a = leb→le n (capped b small).width (and_r g _ h) in
      and_i g (leb n (capped b large).width) (and_l g _ h) (le→leb n (capped b large).width (omega arith))

  room_more : (work : ℕ) (list : Plain) → T (room b (capped b small) work list) → T (room b (capped b large) work list)
  room_more work list h =
      let m = leb (term_bytes b * (suc (length list) - first_terms)) work in
      let a = ltb→lt (length list) (capped b small).terms (and_r m _ h) in
      and_i m (ltb (length list) (capped b large).terms) (and_l m _ h) (lt→ltb (length list) (capped b large).terms (omega arith))

  module _ (work space : ℕ) where
    same_fault : (place : ℕ) (list : Plain) (answered : ℕ) (r : Bytes) → Other (fault place b small work space list answered r)
        → fault place b small work space list answered r ≡ fault place b large work space list answered r
    unfolding fault
    same_fault place list answered r o = go (read b r) o
      where
        go : (i : Item) → Other (first_fault (tests place b small work space list answered r i))
            → first_fault (tests place b small work space list answered r i) ≡ first_fault (tests place b large work space list answered r i)
        go (term p ks) c =
            by_tests (all_below (length list) ks) (well_sorted (capped b small) (term_of list p ks)) (well_sorted (capped b large) (term_of list p ks)) (has list r)
            (room b (capped b small) work list) (room b (capped b large) work list) (sorted_more (term_of list p ks)) (room_more work list) c
        go (step n ks) c = refl
        go (chain n ps k) c = refl
        go (back n) c = refl
        go unknown c = refl
        go misfit c = refl

    -- ---- from a record on
    same_run : (end done repeats : ℕ) (earlier : Earlier) (list : Plain) (answers : List Answer) (rs : List Bytes)
        → Other (run_from b small work space end done repeats earlier list answers rs).stop
        → run_from b small work space end done repeats earlier list answers rs ≡ run_from b large work space end done repeats earlier list answers rs
    unfolding run_from
    same_run end done repeats earlier list answers [] o = refl
    same_run end done repeats earlier list answers (r ∷ rs) o =
        by_fault (fault done b small work space list (length answers) r) (fault done b large work space list (length answers) r)
        (run_from b small work space end (suc done) (repeats + repeat_of b list r) (recall b earlier list r) (feed b list r) (answers ++ answers_to b earlier list r) rs)
        (run_from b large work space end (suc done) (repeats + repeat_of b list r) (recall b earlier list r) (feed b list r) (answers ++ answers_to b earlier list r) rs)
        (λ c. outcome (suc c) done repeats answers list) (λ c. refl) (same_fault done list (length answers) r)
        (same_run end (suc done) (repeats + repeat_of b list r) (recall b earlier list r) (feed b list r) (answers ++ answers_to b earlier list r) rs) o

-- ---- a whole run
module _ (small large : Limits) (width_within : small.width ≤ large.width) (terms_within : small.terms ≤ large.terms) (work space : ℕ) where
  same_outcome : (job : Bytes) → Other (run small job work space).stop → run small job work space ≡ run large job work space
  unfolding run
  same_outcome job h =
      go (run_from (number_length job) small work space (ending job) 0 0 [] start [] (records_of job)) (run_from (number_length job) large work space (ending job) 0 0 [] start [] (records_of job))
      (outcome 2 0 0 [] start) (leb (length job) max_job) h (same_run (number_length job) small large width_within terms_within work space (ending job) 0 0 [] start [] (records_of job))
    where
      go : (x y z : Outcome) (t : Bool) → Other (elim t as (λ w. Outcome) [ true ↦ x | false ↦ z ]).stop → (Other x.stop → x ≡ y)
          → ◌≡◌ {A = Outcome} (elim t as (λ w. Outcome) [ true ↦ x | false ↦ z ]) (elim t as (λ w. Outcome) [ true ↦ y | false ↦ z ])
      go x y z true o f = f o
      go x y z false o f = refl

pub limits_only : LimitsOnly
limits_only small large p q job work old a c =
    ap (λ (o : Outcome). record { result = returned o; work_memory = work_after work; answer_memory = answers_after (number_length job) o.answers old })
    (same_outcome small large p q (length work) (length old) job (record { not_7 = a; not_8 = c }))
