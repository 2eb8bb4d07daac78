use mathlib.Core.Path.{◌∙◌}
use Rattle.writer.proofs.PlaceLaws.{find_row, find_rest}
use Rattle.writer.proofs.places.Writer.find_term.Goals as goal

pub returns-in-Some : goal.returns-in-Some
returns-in-Some c = find_row c.args.self.now.ready _ c.find_record.ensures c.in-Some.is

pub returns : goal.returns
returns c = c.walk_records.ensures ∙ find_rest c.args.self.now.ready _ c.find_record.ensures c.in_default.is
