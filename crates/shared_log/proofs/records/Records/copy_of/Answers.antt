use Rattle.std.proofs.lemmas.Result.{IfOk-weaker}
use Rattle.std.proofs.Common.{◌≡◌, refl, sym, ◌∙◌, subst, true}
use Rattle.std.specs.Prelude.{Option, Some, None, is_some}
use Rattle.model.specs.declared.records.Record.{Record}
use Rattle.shared_log.specs.Records.{in_blocks}
use Rattle.shared_log.proofs.Tables.{found_at, held_there}
use Rattle.shared_log.proofs.records.Records.copy_of.Goals as goal

pub copy-requires : goal.copy-requires
copy-requires c =
    let h = held_there (in_blocks c.self.inside.blocks) c.self.inside.count
    c.args.place c.args.self.now c.requires.0 c.self.view_is c.requires.1 in
    subst (λ (o : Option Record). is_some o ≡ true) (sym h ∙ c.in-Some.ensures) refl

pub unreachable-requires : goal.unreachable-requires
unreachable-requires c =
    let h = held_there (in_blocks c.self.inside.blocks) c.self.inside.count
    c.args.place c.args.self.now c.requires.0 c.self.view_is c.requires.1 in
    let t : ◌≡◌ {A = Option Record} None (Some c.requires.0) = sym c.in-None.ensures ∙ h in
    cc

pub returns : goal.returns
returns c =
    IfOk-weaker c.copy.result _ _
    (λ r e. found_at (in_blocks c.self.inside.blocks) c.self.inside.count
    c.args.place c.args.self.now c.requires.0 r c.self.view_is c.requires.1 (c.in-Some.ensures ∙ e))
    c.copy.ensures
