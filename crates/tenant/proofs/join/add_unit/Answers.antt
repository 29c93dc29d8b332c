use Rattle.std.proofs.Common.{arith}
use Rattle.tenant.proofs.Lines.{one_gone_more, one_line, same_counts, same_texts, still_no_texts}
use Rattle.tenant.proofs.Lines.{still_none}
use Rattle.tenant.proofs.Results.{whatever}
use Rattle.tenant.proofs.join.add_unit.Goals as goal

pub returns-in_err-widen-clause-err_lines : goal.returns-in_err-widen-clause-err_lines
returns-in_err-widen-clause-err_lines g c = whatever c.from_residual-in_err-widen.result
    (same_texts c.widen.new.self c.args.outlet.now c.in_err-widen.ensures.err c.widen.ensures.texts)

pub returns-clause-lines : goal.returns-clause-lines
returns-clause-lines g c = λ e.
    let len = c.in_ok-widen.ensures.len in
    one_line c.widen.new.self c.args.outlet.now (omega (arith, len, e)) c.widen.ensures.texts

pub returns-in_err-widen-clause-err_gone : goal.returns-in_err-widen-clause-err_gone
returns-in_err-widen-clause-err_gone g c = whatever c.from_residual-in_err-widen.result
    (same_counts c.widen.new.self c.args.outlet.now c.in_err-widen.ensures.err c.widen.ensures.gone)

pub returns-clause-gone : goal.returns-clause-gone
returns-clause-gone g c = λ e.
    let len = c.in_ok-widen.ensures.len in
    one_gone_more c.widen.new.self c.args.outlet.now (omega (arith, len, e)) c.widen.ensures.gone

pub returns-in_err-widen-clause-texts : goal.returns-in_err-widen-clause-texts
returns-in_err-widen-clause-texts g c = still_none c.widen.new.self c.args.outlet.now c.widen.ensures.gone

pub returns-clause-texts : goal.returns-clause-texts
returns-clause-texts g c = still_none c.widen.new.self c.args.outlet.now c.widen.ensures.gone

pub returns-in_err-widen-clause-none : goal.returns-in_err-widen-clause-none
returns-in_err-widen-clause-none g c = still_no_texts c.widen.new.self c.args.outlet.now c.widen.ensures.texts

pub returns-clause-none : goal.returns-clause-none
returns-clause-none g c = still_no_texts c.widen.new.self c.args.outlet.now c.widen.ensures.texts
