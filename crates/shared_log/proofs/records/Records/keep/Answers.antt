use Rattle.std.proofs.Common.{◌≡◌, ◌∙◌, ap, ◌++◌, ◌∷◌, [], Some, List, ◌+◌, arith, rules}
use Rattle.std.specs.Prelude.{Option}
use Rattle.model.specs.declared.records.Record.{Record}
use Rattle.shared_log.specs.Records.{in_blocks, tabled}
use Rattle.shared_log.proofs.Tables.{tabled_push, tabled_kept}
use Rattle.shared_log.proofs.records.Records.keep.Goals as goal

pub returns-in_err-put-clause-err : goal.returns-in_err-put-clause-err
returns-in_err-put-clause-err c =
    let same = tabled_kept (in_blocks c.self.inside.blocks)
    (in_blocks c.put.new.self) c.self.inside.count c.args.self.now c.put.ensures.rest c.self.view_is in
    search rules

pub returns-clause-ok : goal.returns-clause-ok
returns-clause-ok c =
    let count = c.self.inside.count in
    let next : c.in-Some.next ≡ count + 1 = grind (arith, c.in-Some.ensures) in
    ap (tabled (in_blocks c.put.new.self)) next
    ∙ (tabled_push (in_blocks c.self.inside.blocks) (in_blocks c.put.new.self)
    count (Some c.args.logged) c.in_ok-put.ensures.rest (c.in_ok-put.ensures.own ∙ c.of.ensures)
    ∙ ap (λ (rs : List (Option Record)). rs ++ Some c.args.logged ∷ []) c.self.view_is)
