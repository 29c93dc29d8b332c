use Rattle.std.proofs.Common.{◌∙◌, ap, slice_set, List}
use Rattle.std.specs.Prelude.{Option, None}
use Rattle.model.specs.declared.records.Record.{Record}
use Rattle.shared_log.specs.Records.{in_blocks}
use Rattle.shared_log.proofs.Tables.{tabled_set}
use Rattle.shared_log.proofs.records.Records.forget.Goals as goal

pub returns : goal.returns
returns c =
    tabled_set (in_blocks c.self.inside.blocks) (in_blocks c.empty.new.self) c.self.inside.count c.args.place None
    c.empty.ensures.rest c.empty.ensures.own
    ∙ ap (λ (rs : List (Option Record)). slice_set rs c.args.place None) c.self.view_is
