use Rattle.std.proofs.Common.{◌≡◌, ◌<◌, ◌+◌, ◌-◌, length, get_or, take, drop, refl, ap, arith}
use Rattle.std.proofs.Common.{rules}
use Rattle.shards.proofs.Telling.{next_line, on_err, on_ok, wrote_next, wrote_some}
use Rattle.shards.proofs.writing.put_next.Goals as goal

pub overflow_add-end : goal.overflow_add-end
overflow_add-end g c =
    let more : c.args.cursor.now.next < length c.args.lens.now = search rules in
    let within = (next_line c.requires.0 _ _ _ _ c.requires.1 more).within in
    search rules

pub slice_bounds-put_lines-end : goal.slice_bounds-put_lines-end
slice_bounds-put_lines-end g c =
    let more : c.args.cursor.now.next < length c.args.lens.now = search rules in
    let within = (next_line c.requires.0 _ _ _ _ c.requires.1 more).within in
    search rules

pub returns-clause-ok : goal.returns-clause-ok
returns-clause-ok g c = on_ok c.put_lines.result _ _ c.put_lines.ensures.ok (λ grown. let same : c.args.cursor.now.at
    + get_or c.args.lens.now c.args.cursor.now.next 0 - c.args.cursor.now.at ≡ get_or c.args.lens.now
    c.args.cursor.now.next 0 = omega arith in wrote_next _ _ _ _ _ _ (get_or c.args.lens.now c.args.cursor.now.next 0)
    _ (search rules) refl (ap (λ n. take n (drop c.args.cursor.now.at c.args.bytes.now)) same) grown)

pub returns-clause-err : goal.returns-clause-err
returns-clause-err g c = on_err c.put_lines.result _ _ c.put_lines.ensures.err (λ begun. let same : c.args.cursor.now.at
    + get_or c.args.lens.now c.args.cursor.now.next 0 - c.args.cursor.now.at ≡ get_or c.args.lens.now
    c.args.cursor.now.next 0 = omega arith in wrote_some _ _ _ _ _ _ (get_or c.args.lens.now c.args.cursor.now.next 0)
    _ (search rules) refl (ap (λ n. take n (drop c.args.cursor.now.at c.args.bytes.now)) same) begun)
