use mathlib.Core.Path.{refl}
use Rattle.words.proofs.TableLaws.{kind_said}
use Rattle.words.proofs.tables.kind_named.Goals as goal

pub returns : goal.returns
returns c = kind_said c.beside.ensures refl refl
