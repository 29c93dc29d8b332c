use Rattle.std.proofs.Common.{◌≡◌, ◌++◌, take, drop, sym, ap, ◌∙◌, append_assoc, take-append-drop}
use Rattle.std.proofs.KnownBytes.{Appends-trans}
use Rattle.written.proofs.whole.put_all.Goals as goal

pub loop-preserved : goal.loop-preserved
loop-preserved g c =
    let so_far = c.loop.invariant in
    let rest = c.loop.rest.now in
    let n = c.in_ok-n.n in
    let all : c.args.bytes.now ≡ (so_far.0 ++ take n rest) ++ c.split_at.result.1.now =
    so_far.2 ∙ ap (λ xs. so_far.0 ++ xs) (sym (take-append-drop n rest))
    ∙ sym (append_assoc so_far.0 (take n rest) (drop n rest))
    ∙ ap (λ xs. (so_far.0 ++ take n rest) ++ xs) (sym c.split_at.ensures.back) in
    (so_far.0 ++ take n rest, Appends-trans _ _ _ _ _ so_far.1 c.in_ok-n.ensures.ok, all)
