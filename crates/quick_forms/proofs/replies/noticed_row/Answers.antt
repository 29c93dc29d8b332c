use Rattle.quick_forms.proofs.Written.{noticed_row_text}
use Rattle.quick_forms.proofs.replies.noticed_row.Goals as goal

pub returns : goal.returns
returns c = rw (noticed_row_text c.args.row) c.start_between.ensures
