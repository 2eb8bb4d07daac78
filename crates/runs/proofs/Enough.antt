-- Work memory beyond what a job's records can fill makes no difference to its run.
use mathlib.Core.Path.{◌≡◌, refl, sym, ap, ◌∙◌}
use mathlib.Core.Bool.{Bool, true, false, ◌&&◌, ◌||◌, cond}
use mathlib.Core.List.{List, [], ◌∷◌, ◌++◌}
use Rattle.std.specs.Prelude.{Option, None as none, Some as some}
use Prim.Native.Nat.{ℕ, zero, suc, ◌+◌, ◌*◌, ◌-◌, ◌≤◌, ◌<◌}
use native.Mathlib.Nat.{le_trans, mul-le-mul_right}
use native.Mathlib.Omega.{arith}
use native.Mathlib.Decide.{dec_lt}
use lib.Dec.{leb, ltb}
use lib.ListN.{length, take, drop, length-drop, length-take, length-append}
use lib.Seq.{length-take-le}
use borrow.Author.Tests.{le-leb}
use Rattle.theory.specs.Limit.{Limits, capped, max_job, first_terms, term_bytes}
use Rattle.theory.specs.Term.{Term}
use Rattle.theory.specs.Record.{Bytes, extent, whole, cut, records_of, ending, Item, term, step, chain, back, unknown, misfit, read, number_length}
use Rattle.theory.specs.Plain.{Plain, entry, start, term_of, has, put, feed_item, feed, repeat_of}
use Rattle.theory.specs.Codes.{first_fault, all_below, well_sorted, room, tests, fault}
use Rattle.theory.specs.Answer.{Answer}
use Rattle.theory.specs.Chain.{Earlier}
use Rattle.theory.specs.Job.{Outcome, outcome, answers_to, recall, run_from, run}
use Rattle.theory.proofs.Lengths.{length_most}
use Rattle.terms.proofs.Parts.{whole_parts}
use Rattle.runs.specs.Walking.{Enough}

-- ---- a record has at least four bytes
next_few : (b : Bool) (n : ℕ) (r : Bytes) (rs : List Bytes) (len : ℕ) → (b ≡ true → (4 ≤ n) × (n ≤ len)) → 4 * length rs ≤ len - n
    → 4 * length {A = Bytes} (elim b as (λ w. List Bytes) [ true ↦ r ∷ rs | false ↦ [] ]) ≤ len
next_few true n r rs len h k = let g = h refl in omega (arith, g.0, g.1)
next_few false n r rs len h k = omega arith

few_cut : (fuel : ℕ) (bs : Bytes) → 4 * length (cut fuel bs) ≤ length bs
unfolding cut
few_cut zero bs = omega arith
few_cut (suc fuel) bs =
    let n = extent bs in
    let l : length (drop n bs) ≡ length bs - n = length-drop n bs in
    let k = few_cut fuel (drop n bs) in
    next_few (whole bs) n (take n bs) (cut fuel (drop n bs)) (length bs) (λ w. let p = whole_parts bs w in (let a = p.low in omega arith, p.fit)) (omega arith)

-- ---- one record
room_same : (b : ℕ) (limits : Limits) (more less : ℕ) (list : Plain) → term_bytes b * (suc (length list) - first_terms) ≤ less → less ≤ more → room b limits less list ≡ room b limits more list
room_same b limits more less list h k =
    ap (λ (t : Bool). t && ltb (length list) limits.terms) (le-leb (term_bytes b * (suc (length list) - first_terms)) less h ∙ sym (le-leb (term_bytes b * (suc (length list) - first_terms)) more (omega arith)))

fault_same : (place b : ℕ) (limits : Limits) (more less space : ℕ) (list : Plain) (n : ℕ) (r : Bytes) → room b (capped b limits) less list ≡ room b (capped b limits) more list → fault place b limits less space list n r ≡ fault place b limits more space list n r
unfolding fault
fault_same place b limits more less space list n r e = go (read b r)
  where
    go : (i : Item) → first_fault (tests place b limits less space list n r i) ≡ first_fault (tests place b limits more space list n r i)
    go unknown = refl
    go misfit = refl
    go (term o ks) = ap (λ (t : Bool). first_fault ((all_below (length list) ks, 6) ∷ (well_sorted (capped b limits) (term_of list o ks), 7) ∷ (has list r || t, 8) ∷ [])) e
    go (step m ks) = refl
    go (chain m ps k) = refl
    go (back m) = refl

put_short : (list : Plain) (r : Bytes) (t : Term) (b : Bool) → length (cond b list (list ++ (entry t r ∷ []))) ≤ suc (length list)
put_short list r t true = omega arith
put_short list r t false = let l = length-append list (entry t r ∷ []) in omega arith

feed_short : (b : ℕ) (list : Plain) (r : Bytes) → length (feed b list r) ≤ suc (length list)
unfolding feed
feed_short b list r = go (read b r)
  where
    of_term : (q : Option Term) → length (put list r q) ≤ suc (length list)
    of_term none = omega arith
    of_term (some t) = put_short list r t (has list r)

    go : (i : Item) → length (feed_item list r i) ≤ suc (length list)
    go unknown = omega arith
    go misfit = omega arith
    go (term o ks) = of_term (term_of list o ks)
    go (step m ks) = omega arith
    go (chain m ps k) = omega arith
    go (back m) = let l = length-take m list in omega arith

-- ---- the run
-- a term costs twelve bytes at most
cheap : (b n : ℕ) {less : ℕ} → b ≤ 4 → 12 * n ≤ less → term_bytes b * n ≤ less
cheap b n few h = le_trans (mul-le-mul_right n (let c : term_bytes b ≤ 12 = omega arith in c)) h

by_fault : (c : ℕ) {x y : Outcome} (f : ℕ → Outcome) → x ≡ y
    → ◌≡◌ {A = Outcome} (elim c as (λ w. Outcome) [ zero ↦ x | suc code ↦ f code ]) (elim c as (λ w. Outcome) [ zero ↦ y | suc code ↦ f code ])
by_fault zero f e = e
by_fault (suc code) f e = refl

run_from_same : (b : ℕ) → b ≤ 4 → (limits : Limits) (more less space end : ℕ) → less ≤ more → (rs : List Bytes) (done repeats : ℕ) (earlier : Earlier) (list : Plain) (given : List Answer)
    → 12 * (length list + length rs - first_terms) ≤ less → run_from b limits less space end done repeats earlier list given rs ≡ run_from b limits more space end done repeats earlier list given rs
unfolding run_from
run_from_same b few limits more less space end k [] done repeats earlier list given h = refl
run_from_same b few limits more less space end k (r ∷ rs) done repeats earlier list given h =
    let s = feed_short b list r in
    let stop : ℕ → Outcome = λ code. outcome (suc code) done repeats given list in
    ap (λ (c : ℕ). elim c as (λ w. Outcome) [ zero ↦ run_from b limits less space end (suc done) (repeats + repeat_of b list r) (recall b earlier list r) (feed b list r) (given ++ answers_to b earlier list r) rs | suc code ↦ stop code ])
    (fault_same done b limits more less space list (length given) r (room_same b (capped b limits) more less list (cheap b (suc (length list) - first_terms) few (omega arith)) k))
    ∙ by_fault (fault done b limits more space list (length given) r) stop (run_from_same b few limits more less space end k rs (suc done) (repeats + repeat_of b list r) (recall b earlier list r) (feed b list r) (given ++ answers_to b earlier list r) (omega arith))

by_length : (b : Bool) {x y : Outcome} (z : Outcome) → x ≡ y
    → ◌≡◌ {A = Outcome} (elim b as (λ w. Outcome) [ true ↦ x | false ↦ z ]) (elim b as (λ w. Outcome) [ true ↦ y | false ↦ z ])
by_length true z e = e
by_length false z e = refl

-- less is enough where it has four bytes for each of the job's
run_same : (limits : Limits) (job : Bytes) (more less space : ℕ) → less ≤ more → 4 * length job ≤ less → run limits job less space ≡ run limits job more space
unfolding run
run_same limits job more less space k h =
    let f = few_cut (length job) job in
    by_length (leb (length job) max_job) (outcome 2 0 0 [] start) (run_from_same (number_length job) (length_most job) limits more less space (ending job) k (records_of job) 0 0 [] start [] (omega arith))

-- the first bytes of a work memory, where they are enough
pub run_enough : (limits : Limits) (job work : Bytes) (used space : ℕ) → Enough (length job) (length work) used → (lent : Bytes) → length lent ≡ length work
    → run limits job (length (take used lent)) space ≡ run limits job (length work) space
run_enough limits job work used space e lent same =
    ap (λ (n : ℕ). run limits job n space) (length-take-le used lent (let w = e.within in omega arith)) ∙ go (dec_lt used (length work))
  where
    go : Dec (used < length work) → run limits job used space ≡ run limits job (length work) space
    go (yes h) = run_same limits job (length work) used space e.within (e.enough h)
    go (no h) = let w = e.within in ap (λ (n : ℕ). run limits job n space) (let d : used ≡ length work = omega arith in d)
