use Rattle.incarnation.proofs.FilesLaws.{files_append, places_below}
use Rattle.incarnation.proofs.table.StartTable.add.Goals as goal

pub append_row-requires : goal.append_row-requires
append_row-requires c = places_below c.self.inside.rows.items c.self.inside.files.items c.self.invariant

pub invariant_of-self-2 : goal.invariant_of-self-2
invariant_of-self-2 c =
    rw c.in_ok-append_row.ensures.rows
    (files_append c.self.inside.rows.items c.self.inside.files.items c.append_row.new.files.items
    c.args.row c.self.invariant (rw c.self.view_is c.requires) c.in_ok-append_row.ensures.files)
