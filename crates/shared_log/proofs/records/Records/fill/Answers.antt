use Rattle.std.proofs.lemmas.Result.{on_ok_weaker, on_err_weaker}
use Rattle.std.proofs.Common.{◌∙◌, ap, Some, List, slice_set}
use Rattle.std.specs.Prelude.{Option}
use Rattle.model.specs.declared.records.Record.{Record}
use Rattle.shared_log.specs.Records.{in_blocks}
use Rattle.shared_log.proofs.Tables.{tabled_set, tabled_all}
use Rattle.shared_log.proofs.records.Records.fill.Goals as goal

pub returns-clause-ok : goal.returns-clause-ok
returns-clause-ok c =
    on_ok_weaker c.put.result (λ own. tabled_set (in_blocks c.self.inside.blocks) (in_blocks c.put.new.self)
    c.self.inside.count c.args.place (Some c.args.logged) c.put.ensures.rest (own ∙ c.of.ensures)
    ∙ ap (λ (rs : List (Option Record)). slice_set rs c.args.place (Some c.args.logged)) c.self.view_is)
    c.put.ensures.own

pub returns-clause-err : goal.returns-clause-err
returns-clause-err c =
    on_err_weaker c.put.result (λ same. tabled_all (in_blocks c.self.inside.blocks) (in_blocks c.put.new.self)
    c.self.inside.count c.args.self.now same c.self.view_is) c.put.ensures.err
