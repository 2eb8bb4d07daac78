-- Demand 3, for every job, every length of work memory and of answers.
use mathlib.Core.Path.{◌≡◌, sym}
use mathlib.Core.Bool.{true}
use mathlib.Core.List.{List}
use Rattle.std.specs.Prelude.{Some as some}
use Prim.Native.Nat.{ℕ, ◌<◌}
use native.Mathlib.Omega.{arith}
use lib.ListN.{length}
use Rattle.std.specs.Prelude.{slice_get as get_elem?}
use Rattle.theory.specs.Limit.{Limits}
use Rattle.theory.specs.Kind.{Equals}
use Rattle.theory.specs.Term.{two}
use Rattle.theory.specs.Value.{Assign, truth, value}
use Rattle.theory.specs.Record.{Bytes, records_of}
use Rattle.theory.specs.Plain.{Plain, plain_after}
use Rattle.theory.specs.Answer.{Answer}
use Rattle.theory.specs.Job.{run}
use Rattle.theory.specs.Demand.{Reached, Held, Answers, Demand3}
use Rattle.theory.specs.Demands.{earlier_after}
use Rattle.theory.proofs.Rules.{literal_holds}
use Rattle.theory.proofs.Run.{AllGood, Answered, ran}
use Rattle.theory.proofs.Premises.{answer_holds, premises_valid}

module _ (limits : Limits) (job : Bytes) (work space : ℕ) where
  abbrev done : ℕ
  done = (run limits job work space).records

  reached : (m : ℕ) (r : Bytes) → m < done → get_elem? (records_of job) m ≡ some r → Reached limits job work space m r
  reached m r l e = record {
    short = (ran limits job work space).short m l;
    stands = e;
    passes = λ i s h f. (ran limits job work space).all_passed i s (omega arith) f;
  }

  answers_of : (k : ℕ) (a : Answer) → Answered limits job work space done k a → Answers limits job work space done k a
  answers_of k a h =
      let l = h.m_done in
      let v = premises_valid limits job work space h.m (omega arith) in
      let p = answer_holds (earlier_after h.m job) (plain_after h.m job) v.1 v.0 h.is in
      record {
        m = h.m;
        bytes = h.bytes;
        literals = p.0;
        m_done = h.m_done;
        reached = reached h.m h.bytes h.m_done h.stands;
        kth = h.kth;
        is_step = p.1;
        held = p.2;
      }

  pub demand_3 : Demand3 limits job work space done (run limits job work space).answers
  demand_3 = record {
    counted = (ran limits job work space).answers_are;
    each = λ k a e. answers_of k a ((ran limits job work space).exact_answers k a e);
  }

  -- the terms that a run keeps are those of the plain list, and each has a sort
  pub terms_are_plain : (run limits job work space).terms ≡ length (plain_after done job)
  terms_are_plain = (ran limits job work space).terms_are

  pub terms_are_sorted : AllGood (plain_after done job)
  terms_are_sorted = (ran limits job work space).all_sorted

-- the literal of a held step is true under every assignment
pub held_true : (list : Plain) (ks : List ℕ) (h : Held list ks) (ρ : Assign) → value ρ (two Equals h.left h.right) ≡ truth true
held_true list ks h ρ = literal_holds ρ h.left h.right (sym (h.equal ρ))
