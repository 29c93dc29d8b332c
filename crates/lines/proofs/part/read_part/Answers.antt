use Rattle.std.proofs.Common.{◌≡◌, ◌+◌, ◌++◌, ◌∷◌, [], take, length, refl, ap, subst, ◌∙◌, rules, arith}
use Rattle.std.proofs.lemmas.List.{take_more}
use Rattle.std.specs.Io.BufRead.{FillKeeps}
use Rattle.std.specs.Io.KnownBytes.{Consumes}
use Rattle.std.proofs.BufReadLemmas.{Consumes_shown}
use Rattle.lines.proofs.Parts.{at_end}
use Rattle.lines.proofs.part.read_part.Goals as goal

pub returns-then-is_empty-clause-takes : goal.returns-then-is_empty-clause-takes
returns-then-is_empty-clause-takes g c =
    let rested = c.fill_buf.follows.lender-at-none in
    let filled = subst (FillKeeps _ (g.R.Read.remaining rested) (g.R.BufRead.consumable_len rested))
    c.in-Ok.is c.fill_buf.follows.holds-at-none in
    let none : length c.in-Ok.available.now ≡ 0 = search rules in
    let ended = at_end (g.R.Read.remaining c.args.reader.now) c.in-Ok.available.now none c.in-Ok.ensures.end in
    (ended, filled.0, refl, refl)

pub returns-then-end-available-clause-takes : goal.returns-then-end-available-clause-takes
returns-then-end-available-clause-takes g c =
    let shown = c.in-Ok.available.now in
    let end = c.part_len-end in
    let rested = c.fill_buf.follows.lender-at-none in
    let filled = subst (FillKeeps _ (g.R.Read.remaining rested) (g.R.BufRead.consumable_len rested))
    c.in-Ok.is c.fill_buf.follows.holds-at-none in
    let moved = Consumes_shown _ _ _ _ shown (end.result + 1) (omega (arith, c.if-end-available.true))
    c.in-Ok.ensures.front c.in-Ok.ensures.end filled.0 filled.1 c.consume.ensures.bytes in
    let feed : take (end.result + 1) shown ≡ take end.result shown ++ 10 ∷ [] =
    take_more shown end.result 0 (c.if-end-available.true)
    ∙ ap (λ x. take end.result shown ++ x ∷ []) (end.ensures.at c.if-end-available.true) in
    (take end.result shown, end.ensures.before, subst (Consumes _ _) feed moved.0, c.hold.ensures.grows)

pub returns-else-end-available-clause-takes : goal.returns-else-end-available-clause-takes
returns-else-end-available-clause-takes g c =
    let shown = c.in-Ok.available.now in
    let end = c.part_len-end in
    let rested = c.fill_buf.follows.lender-at-none in
    let filled = subst (FillKeeps _ (g.R.Read.remaining rested) (g.R.BufRead.consumable_len rested))
    c.in-Ok.is c.fill_buf.follows.holds-at-none in
    let moved = Consumes_shown _ _ _ _ shown end.result end.ensures.within
    c.in-Ok.ensures.front c.in-Ok.ensures.end filled.0 filled.1 c.consume-else-end-available.ensures.bytes in
    (take end.result shown, end.ensures.before, moved.0, c.hold.ensures.grows)
