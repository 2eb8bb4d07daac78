use mathlib.Core.Path.{sym, ap, ◌∙◌}
use mathlib.Core.List.{◌++◌, append_assoc, append-nil}
use Rattle.theory.specs.Record.{bytes_of}
use Rattle.writer.proofs.PlaceLaws.{fronted}
use Rattle.writer.proofs.encode.put_front.Goals as goal

pub returns-in-Plain : goal.returns-in-Plain
returns-in-Plain c = fronted c.args.kind c.args.x c.args.y c.family.ensures c.in-Plain.is c.args.key.now.items (sym (append-nil c.args.key.now.items))

pub returns-in-Indexed : goal.returns-in-Indexed
returns-in-Indexed c = fronted c.args.kind c.args.x c.args.y c.family.ensures c.in-Indexed.is c.args.key.now.items c.put.ensures

pub returns-in-TwiceIndexed : goal.returns-in-TwiceIndexed
returns-in-TwiceIndexed c = fronted c.args.kind c.args.x c.args.y c.family.ensures c.in-TwiceIndexed.is c.args.key.now.items
    (c.put-in-TwiceIndexed-2.ensures ∙ ap (λ bs. bs ++ bytes_of 2 c.args.y) c.put-in-TwiceIndexed.ensures ∙ append_assoc c.args.key.now.items (bytes_of 2 c.args.x) (bytes_of 2 c.args.y))

pub returns-in-Valued : goal.returns-in-Valued
returns-in-Valued c = fronted c.args.kind c.args.x c.args.y c.family.ensures c.in-Valued.is c.args.key.now.items
    (c.put-in-Valued-2.ensures ∙ ap (λ bs. bs ++ bytes_of 8 c.args.y) c.put-in-Valued.ensures ∙ append_assoc c.args.key.now.items (bytes_of 2 c.args.x) (bytes_of 8 c.args.y))
