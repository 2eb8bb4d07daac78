use mathlib.Core.Path.{◌∙◌}
use Rattle.table.proofs.MemoryLaws.{carried_not, carried_on}
use Rattle.table.proofs.memory.carry_seed.Goals as goal

pub returns-then-n-lt-SEED_BYTES : goal.returns-then-n-lt-SEED_BYTES
returns-then-n-lt-SEED_BYTES c = carried_not c.args.work.now c.args.n c.if-n-lt-SEED_BYTES.true

pub returns : goal.returns
returns c = c.put_number_of.ensures ∙ carried_on c.args.work.now c.args.n c.if-n-lt-SEED_BYTES.false c.number_of-seed.ensures.value
