use mathlib.Core.Path.{refl}
use Rattle.marks.proofs.LinkLaws.{link_stored, shelf_put, put_done}
use Rattle.marks.proofs.links.Links.put.Goals as goal

pub invariant_of-self : goal.invariant_of-self
invariant_of-self c =
    let l = c.args.self.now in
    record { sized = l.sized; shelf = shelf_put c.args.v l.shelf c.requires (link_stored l c.args.k c.args.v c.put_number.ensures) }

pub returns : goal.returns
returns c = put_done c.requires refl refl refl (link_stored c.args.self.now c.args.k c.args.v c.put_number.ensures)
