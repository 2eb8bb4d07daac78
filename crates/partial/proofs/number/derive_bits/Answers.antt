use Rattle.partial.proofs.NumberLaws.{derive_ready, derive_output, derive_bytes, derive_zero}
use Rattle.partial.proofs.number.derive_bits.Goals as goal

pub known_all-requires : goal.known_all-requires
known_all-requires c = derive_ready c.requires c.place_inputs.ensures

pub invariant_of-known : goal.invariant_of-known
invariant_of-known c = record { closed = (derive_ready c.requires c.place_inputs.ensures).closed }

pub write_bits-requires : goal.write_bits-requires
write_bits-requires c = derive_output c.requires c.place_inputs.ensures c.term_bits-bits.ensures

pub returns : goal.returns
returns c = let s = c.requires in
    let d = c.place_inputs.ensures in
    let e = c.known_all.ensures in
    record { outputs = derive_bytes s d e c.term_bits-bits.ensures c.write_bits.ensures; values = derive_zero s d e c.wipe.ensures }
