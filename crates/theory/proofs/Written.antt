-- The answers as bytes: what the answers' memory holds after a call reads back as the answers, so demand 3 can be read off it.
use mathlib.Core.Path.{◌≡◌, refl, sym, ap, ap₂, subst, ◌∙◌}
use mathlib.Core.Bool.{Bool, true, false, ◌||◌, cond}
use mathlib.Core.List.{List, [], ◌∷◌, ◌++◌, map, append_assoc}
use Rattle.std.specs.Prelude.{None as none, Some as some}
use Prim.Native.Nat.{ℕ, zero, suc, ◌+◌, ◌-◌, ◌*◌, ◌/◌, ◌^◌, ◌<◌, ◌≤◌}
use native.Mathlib.Nat.{div-add-mod, pow-succ'}
use native.Mathlib.Omega.{arith}
use lib.Dec.{T, eqb, leb, ltb, ltb→lt, eqb→eq}
use lib.Ieee.Fits.{and_l, and_r}
use lib.ListN.{length, drop, length-append, length-drop}
use Rattle.std.specs.Prelude.{slice_get as get_elem?}
use lib.Seq.{take_at, drop_at}
use Rattle.theory.specs.Limit.{Limits, answer_bytes}
use Rattle.theory.specs.Term.{Term}
use Rattle.theory.specs.Depth.{depth}
use Rattle.theory.specs.Optional.{either}
use Rattle.theory.specs.Verdict.{accepted}
use Rattle.theory.specs.RuleTable.{Rule, rules, rule_at, ChainRule, first_chain_rule, chain_rules, chain_rule_at}
use Rattle.theory.specs.Rule.{verdict}
use Rattle.theory.specs.Record.{Bytes, AllBytes, little_endian, word, bytes_of, word_bytes, Item, number_length}
use Rattle.theory.specs.Plain.{Plain, plain_after}
use Rattle.theory.specs.Codes.{all_below, fault}
use Rattle.theory.specs.Answer.{Answer, encode_answer, encode_answers, decode_answer, decode_answers}
use Rattle.theory.specs.Chain.{Earlier, premises_at, joined}
use Rattle.theory.specs.Job.{right_depth, answer_to, answers_to, run, answers_after, call}
use Rattle.theory.specs.Demand.{Demand3}
use Rattle.theory.specs.Demands.{Demand2}
use Rattle.theory.specs.Claim.{element, answer_codes}
use Rattle.theory.proofs.Basics.{none_some, some_inj, get_elem_lt}
use Rattle.theory.proofs.Blast.{to_from_list}
use Rattle.theory.proofs.Places.{tree_at}
use Rattle.theory.proofs.Run.{ran, AnswerOf, to_step, to_chain, answers_cases}
use Rattle.theory.proofs.Demand.{demand_3}
use Rattle.theory.proofs.Demands.{demand_2}
use Rattle.theory.proofs.Premises.{answer_rule}
use Rattle.theory.proofs.Distinct.{WellKept, kept_at, tree_0, tree_1, plain_well}
use Rattle.theory.proofs.Lengths.{terms_counted}
use Rattle.theory.proofs.Bounds.{terms_fit, run_fits, place_depth}
use Rattle.theory.proofs.Codes.{code_known}

-- ---- a number reads back
pub number_exact : (k n : ℕ) → n < 256 ^ k → little_endian (bytes_of k n) ≡ n
number_exact zero n h = omega arith
number_exact (suc k) n h =
    let e = number_exact k (n / 256) (quotient n (256 ^ k) (subst (λ (p : ℕ). n < p) (pow-succ' 256 k) h)) in
    let d = div-add-mod n 256 in
    omega arith
  where
    quotient : (n p : ℕ) → n < 256 * p → n / 256 < p
    quotient n p h = omega arith

pub number_size : (k n : ℕ) → length (bytes_of k n) ≡ k
number_size zero n = refl
number_size (suc k) n = ap suc (number_size k (n / 256))

pub word_exact : (n : ℕ) → n < 65536 → word (word_bytes n) ≡ n
word_exact n h = omega arith

-- an answer whose numbers fit: its rule and code into two bytes, its depth into b
pub record Small (b : ℕ) (a : Answer) : Type 0 where
  pub rule_small : a.rule < 65536
  pub code_small : a.code < 65536
  pub depth_small : a.depth < 256 ^ b

abbrev pub AllSmall : ℕ → List Answer → Type 0
AllSmall b answers = (k : ℕ) (a : Answer) → get_elem? answers k ≡ some a → Small b a

answer_size : (b : ℕ) (a : Answer) → length (encode_answer b a) ≡ answer_bytes b
answer_size b a = let l = number_size b a.depth in omega arith

decode_one : (b : ℕ) (a : Answer) (more : Bytes) → Small b a → decode_answer b (encode_answer b a ++ more) ≡ a
decode_one b a more s =
    same (word_exact a.rule s.rule_small) (word_exact a.code s.code_small)
    (ap little_endian (take_at (bytes_of b a.depth) more b (number_size b a.depth)) ∙ number_exact b a.depth s.depth_small)
  where
    same : {r c d : ℕ} → r ≡ a.rule → c ≡ a.code → d ≡ a.depth → record { rule = r; code = c; depth = d } ≡ a
    same p q z = rw (p, q, z)

pub decode_encode : (b : ℕ) (answers : List Answer) (more : Bytes) → AllSmall b answers → decode_answers b (length answers) (encode_answers b answers ++ more) ≡ answers
decode_encode b [] more h = refl
decode_encode b (a ∷ rest) more h =
    let after = encode_answers b rest ++ more in
    ap (decode_answers b (suc (length rest))) (append_assoc (encode_answer b a) (encode_answers b rest) more)
    ∙ ap₂ (λ (x : Answer) (xs : List Answer). x ∷ xs) (decode_one b a after (h 0 a refl))
    (ap (decode_answers b (length rest)) (drop_at (encode_answer b a) after (answer_bytes b) (answer_size b a))
    ∙ decode_encode b rest more (λ k c e. h (suc k) c e))

pub bytes_length : (b : ℕ) (answers : List Answer) → length (encode_answers b answers) ≡ answer_bytes b * length answers
bytes_length b [] = omega arith
bytes_length b (a ∷ rest) =
    length-append (encode_answer b a) (encode_answers b rest) ∙ ap₂ (λ (m n : ℕ). m + n) (answer_size b a) (bytes_length b rest) ∙ omega arith

-- ---- the numbers of an answer are small
rule_small : (n : ℕ) (rule : Rule) → rule_at n ≡ some rule → n < 65536
rule_small zero rule e = absurd (none_some rule e)
rule_small (suc k) rule e = let l : k < length rules = get_elem_lt rules k rule e in omega arith

chain_rule_small : (n : ℕ) (rule : ChainRule) → chain_rule_at n ≡ some rule → n < 65536
chain_rule_small n rule e = go (leb first_chain_rule n) e
  where
    go : (b : Bool) → cond b (get_elem? chain_rules (n - first_chain_rule)) none ≡ some rule → n < 65536
    go true d = let l : n - first_chain_rule < 3 = get_elem_lt chain_rules (n - first_chain_rule) rule d in omega arith
    go false d = absurd (none_some rule d)

element_below : (b : ℕ) (ks : List ℕ) → T (all_below b ks) → (c : ℕ) → T (element c ks) → c < b
element_below b [] h c t = absurd t
element_below b (k ∷ ks) h c t = go (eqb c k) (eqb→eq c k) (element_below b ks (and_r (ltb k b) _ h) c) t
  where
    go : (x : Bool) → (T x → c ≡ k) → (T (element c ks) → c < b) → T (x || element c ks) → c < b
    go true f g t = subst (λ (n : ℕ). n < b) (sym (f tt)) (ltb→lt k b (and_l (ltb k b) _ h))
    go false f g t = g t

-- the right side of a literal at place p stands before p
second_depth : {b : ℕ} (list : Plain) (w : WellKept b list) (p : ℕ) → p < length list → (ks : List ℕ) → T (all_below p ks)
    → either 0 depth (get_elem? (map (tree_at list) ks) 1) ≤ p
second_depth list w p l [] b = omega arith
second_depth list w p l (j ∷ []) b = omega arith
second_depth list w p l (j ∷ k ∷ ks) b =
    let h : k < p = ltb→lt k p (and_l (ltb k p) _ (and_r (ltb j p) _ b)) in
    omega (arith, place_depth list w (suc k) k (omega arith) (omega arith))

right_small : {b : ℕ} (list : Plain) (w : WellKept b list) (p : ℕ) → p < length list → right_depth (tree_at list p) ≤ p
right_small list w zero l = subst (λ (t : Term). right_depth t ≤ 0) (sym (tree_0 list w)) (omega arith)
right_small list w (suc zero) l = subst (λ (t : Term). right_depth t ≤ 1) (sym (tree_1 list w)) (omega arith)
right_small list w (suc (suc j)) l =
    let p = suc (suc j) in
    let k = kept_at list w p (omega arith) l in
    subst (λ (t : Term). right_depth t ≤ p) (sym k.made)
    (subst (λ (ts : List Term). either 0 depth (get_elem? ts 1) ≤ p) (sym (to_from_list (map (tree_at list) k.args)))
    (second_depth list w p l k.args k.below))

judged_depth : (t : Bool) (d m : ℕ) → d ≤ m → cond t d 0 ≤ m
judged_depth true d m h = h
judged_depth false d m h = omega arith

depth_small : {b : ℕ} (list : Plain) (w : WellKept b list) (n : ℕ) (rule : Rule) (ks : List ℕ) → T (all_below (length list) ks)
    → (answer_to n rule (map (tree_at list) ks)).depth ≤ length list
depth_small list w n rule [] b = omega arith
depth_small list w n rule (p ∷ q ∷ ks) b = omega arith
depth_small list w n rule (p ∷ []) b =
    let l : p < length list = ltb→lt p (length list) (and_l (ltb p (length list)) _ b) in
    let h = right_small list w p l in
    judged_depth (accepted (verdict rule (tree_at list p))) (right_depth (tree_at list p)) (length list) (omega arith)

-- of an answer to a step of either kind: its rule, and its depth
parts_small : {b : ℕ} {earlier : Earlier} (list : Plain) → WellKept b list → {i : Item} {a : Answer} → AnswerOf earlier list i a → (a.rule < 65536) × (a.depth ≤ length list)
parts_small list w (to_step n rule ks e b) =
    (subst (λ (m : ℕ). m < 65536) (sym (answer_rule n rule (map (tree_at list) ks))) (rule_small n rule e), depth_small list w n rule ks b)
parts_small {earlier = earlier} list w (to_chain n rule ps k e b) =
    let h = right_small list w k b in
    (chain_rule_small n rule e, judged_depth (accepted (joined rule (premises_at earlier list ps) (tree_at list k))) (right_depth (tree_at list k)) (length list) (omega arith))

one_small : {b : ℕ} {earlier : Earlier} (list : Plain) → WellKept b list → length list < 256 ^ b → {i : Item} {a : Answer} → AnswerOf earlier list i a → Small b a
one_small list w n {a = a} h =
    let d = parts_small list w h in
    record { rule_small = d.0; code_small = element_below 65536 answer_codes tt a.code (code_known h); depth_small = omega (arith, d.1) }

-- those of the answers to a record that no code stops
pub new_small : (place b : ℕ) (limits : Limits) (work space : ℕ) (earlier : Earlier) (list : Plain) (answered : ℕ) (r : Bytes) → fault place b limits work space list answered r ≡ 0 → WellKept b list
    → length list < 256 ^ b → AllSmall b (answers_to b earlier list r)
new_small place b limits work space earlier list answered r e w n =
    answers_cases (AllSmall b) place b limits work space earlier list answered r e
    (λ a h k c f. only k f (one_small list w n h)) (λ d k c f. absurd (none_some c f))
  where
    only : {a c : Answer} (k : ℕ) → get_elem? (a ∷ []) k ≡ some c → Small b a → Small b c
    only {a} {c} zero f s = subst (Small b) (some_inj a c f) s
    only {a} {c} (suc k) f s = absurd (none_some c f)

module _ (limits : Limits) (job : Bytes) (bytes : AllBytes job) (work space : ℕ) where
  pub answers_small : AllSmall (number_length job) (run limits job work space).answers
  answers_small k a e =
      let h = (ran limits job work space).exact_answers k a e in
      let list = plain_after h.m job in
      let l = h.m_done in
      let w = plain_well limits job bytes work space h.m (omega arith) in
      one_small list w (terms_counted job limits (length list) (terms_fit limits job work space h.m (omega arith)).numbers_fit) h.is

  -- the answers' memory reads back as the answers
  pub answers_read : (old : Bytes) → let o = run limits job work space in
      decode_answers (number_length job) (length o.answers) (answers_after (number_length job) o.answers old) ≡ o.answers
  answers_read old =
      let o = run limits job work space in
      let b = number_length job in
      decode_encode b o.answers (drop (length (encode_answers b o.answers)) old) answers_small

-- demand 2 of a call: the job's bytes, and the answers' memory after it
pub demand_2_call : (limits : Limits) (job work old : Bytes) → AllBytes job → let c = call limits job work old in
    Demand2 limits job (length work) (length old) (decode_answers (number_length job) c.result.answers c.answer_memory)
demand_2_call limits job work old b =
    subst (Demand2 limits job (length work) (length old)) (sym (answers_read limits job b (length work) (length old) old)) (demand_2 limits job (length work) (length old))

-- demand 3 of a call: the job's bytes, what the call returns, and the answers' memory after it
pub demand_3_call : (limits : Limits) (job work old : Bytes) → AllBytes job → let c = call limits job work old in
    Demand3 limits job (length work) (length old) c.result.records (decode_answers (number_length job) c.result.answers c.answer_memory)
demand_3_call limits job work old b =
    let o = run limits job (length work) (length old) in
    subst (Demand3 limits job (length work) (length old) o.records) (sym (answers_read limits job b (length work) (length old) old)) (demand_3 limits job (length work) (length old))

-- the memory of the answers keeps its length, and past the last answer its bytes
pub answers_kept : (limits : Limits) (job work old : Bytes) → let c = call limits job work old in let n = answer_bytes (number_length job) * c.result.answers in
    (length c.answer_memory ≡ length old) × (drop n c.answer_memory ≡ drop n old)
answers_kept limits job work old =
    let o = run limits job (length work) (length old) in
    let b = number_length job in
    let bs = encode_answers b o.answers in
    let l : length bs ≡ answer_bytes b * length o.answers = bytes_length b o.answers in
    let f : answer_bytes b * length o.answers ≤ length old = (run_fits limits job (length work) (length old)).answers_fit in
    let d : length (drop (length bs) old) ≡ length old - length bs = length-drop (length bs) old in (
      length-append bs (drop (length bs) old) ∙ omega arith,
      drop_at bs (drop (length bs) old) (answer_bytes b * length o.answers) l ∙ ap (λ (k : ℕ). drop k old) l,
    )
