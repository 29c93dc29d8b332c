use Rattle.std.proofs.Common.{rules, ◌≡◌, ◌+◌, ◌<◌, ◌∷◌, length, ◌∙◌, ap, not, ◌&&◌, ◌==◌, drop, slice_index_or}
use Rattle.std.specs.List.{list_any}
use Rattle.std.proofs.lemmas.List.{drop_more}
use Rattle.orphan.proofs.NoRows.{bits_go_on}
use Rattle.orphan.proofs.without_rows.incarnation_bits.Goals as goal

pub loop-mark-preserved : goal.loop-mark-preserved
loop-mark-preserved c =
    let marks = c.args.marks.now in
    let at = c.loop-mark.mark-index in
    let g = slice_index_or marks at (record { incarnation = 0; index = 0 }) in
    let within : at < length marks = search rules in
    let left : drop at marks ≡ g ∷ drop (at + 1) marks = drop_more marks at _ within in
    c.loop-mark.invariant
    ∙ ap (λ gs. (c.loop-mark.bits == 0) && not (list_any (λ g. not (g.incarnation == 0)) gs)) left
    ∙ bits_go_on c.loop-mark.bits g.incarnation (list_any (λ g. not (g.incarnation == 0)) (drop (at + 1) marks))
