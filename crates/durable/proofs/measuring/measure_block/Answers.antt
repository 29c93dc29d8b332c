use Rattle.std.proofs.Common.{[], length, subst, sym, arith, append-nil, take_all}
use Rattle.std.specs.Io.BufRead.{FillKeeps}
use Rattle.std.specs.Io.KnownBytes.{Consumes}
use Rattle.std.proofs.BufReadLemmas.{Consumes_shown}
use Rattle.durable.specs.Measuring.{IsMeasured}
use Rattle.durable.proofs.Measured.{consumes_none}
use Rattle.durable.proofs.measuring.measure_block.Goals as goal

pub returns-then-is_interrupted : goal.returns-then-is_interrupted
returns-then-is_interrupted g c = (
  [],
  consumes_none _ _ c.fill_buf.follows.holds-at-none.0,
  λ all is. subst (λ l. IsMeasured l c.args.from c.args.measured.now) (sym (append-nil all)) is,
)

pub returns : goal.returns
returns g c =
    let shown = c.in-Ok.block.now in
    let rested = c.fill_buf.follows.lender-at-none in
    let filled = subst (FillKeeps _ (g.R.Read.remaining rested)
    (g.R.BufRead.consumable_len rested)) c.in-Ok.is c.fill_buf.follows.holds-at-none in
    let moved = Consumes_shown _ _ _ _ shown (length shown)
    (omega arith) c.in-Ok.ensures.front c.in-Ok.ensures.end filled.0 filled.1 c.consume.ensures.bytes in
    (shown, subst (Consumes _ _) (take_all (length shown) shown (omega arith)) moved.0, c.measure_bytes.ensures)
