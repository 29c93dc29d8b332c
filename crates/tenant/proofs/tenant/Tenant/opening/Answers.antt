use Rattle.std.proofs.Common.{◌∙◌, ap, sym, subst, length}
use Rattle.model.specs.declared.replies.Reply.TheVariants.{Opened}
use Rattle.tenant.specs.Kept.{KeepsNoText, KeepsTexts, opened_kept}
use Rattle.tenant.proofs.Lines.{no_texts_at_first, none_at_first}
use Rattle.tenant.proofs.Beginning.{open_is}
use Rattle.tenant.proofs.PastKept.{opens_past}
use Rattle.tenant.proofs.tenant.Tenant.opening.Goals as goal

pub returns-then-can_open : goal.returns-then-can_open
returns-then-can_open g c = record {
  opens = λ name live log. open_is g.H.Handler.meaning c.args.kinds.now
      c.args.quota c.args.optimism c.as_slice-names.result.now c.as_slice-names.ensures c.can_open.result
      c.can_open.ensures c.if-can_open.true c.in_ok-tenant.tenant c.in_ok-tenant.ensures name live log;
  past =
      let same = c.as_slice-names.ensures in
      opens_past g.H.Handler.meaning c.args.kinds.now c.args.quota c.args.optimism _ c.in_ok-tenant.tenant
      (c.in_ok-tenant.ensures ∙ ap (λ ns. opened_kept g.H.Handler.meaning ns c.args.quota c.args.optimism) same)
      (ap (λ ns. Opened (length ns)) same);
  texts = subst KeepsTexts (sym c.in_ok-tenant.ensures) (none_at_first (length c.as_slice-names.result.now));
  none = subst KeepsNoText (sym c.in_ok-tenant.ensures) (no_texts_at_first (length c.as_slice-names.result.now));
}
