-- `Body::read_chain`: the tests of length are those of a chain.
use native.Mathlib.Omega.{arith}
use Rattle.terms.proofs.Reading.{chain_none, chain_many, chain_length, chain_made}
use Rattle.terms.proofs.records.Body.read_chain.Goals as goal

pub returns-then-count-lt1 : goal.returns-then-count-lt1
returns-then-count-lt1 c = record { says = chain_none _ _ _ _ c.args.self.now.inside c.if-self.false c.number-count.ensures.value c.if-count-lt1.true; placed = tt }

pub returns-then-count-gt-MAX_ARGUMENTS : goal.returns-then-count-gt-MAX_ARGUMENTS
returns-then-count-gt-MAX_ARGUMENTS c = record { says = chain_many _ _ _ _ c.args.self.now.inside c.if-self.false c.number-count.ensures.value c.if-count-gt-MAX_ARGUMENTS.true; placed = tt }

pub returns-then-self-end : goal.returns-then-self-end
returns-then-self-end c = record {
  says = chain_length _ _ _ _ c.args.self.now.inside c.if-self.false c.number-count.ensures.value c.if-count-lt1.false c.if-count-gt-MAX_ARGUMENTS.false c.if-self-end.true;
  placed = tt;
}

pub returns : goal.returns
returns c = let h = c.args.self.now.inside in
    let m = c.if-count-gt-MAX_ARGUMENTS.false in
    let z = c.if-self-end.false in
    record {
      says = chain_made _ _ _ _ h c.if-self.false c.number-count.ensures.value c.if-count-lt1.false m z c.number-rule.ensures.value c.place-literal.ensures;
      placed = record { end = omega arith; few = m; sized = record { some_bytes = omega arith; few_bytes = omega arith } };
    }
