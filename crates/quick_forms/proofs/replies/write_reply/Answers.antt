use Rattle.std.proofs.Common.{subst, sym, OnOk, ◌≡◌, ◌++◌}
use Rattle.model.specs.declared.replies.Reply.{Reply}
use Rattle.forms.specs.Writing.{reply_text}
use Rattle.quick_forms.proofs.replies.write_reply.Goals as goal

pub returns-in-Status : goal.returns-in-Status
returns-in-Status c =
    subst (λ (r : Reply). OnOk c.status.result (c.status.new.out.items ≡ c.args.out.now.items ++ reply_text r))
    (sym c.in-Status.is) c.status.ensures
