use Rattle.std.proofs.Common.{◌∙◌, ap, arith, length}
use Rattle.codec.proofs.Fronts.{front_length}
use Rattle.codec.proofs.letters.encode_parts.Goals as goal

pub overflow_sub-len : goal.overflow_sub-len
overflow_sub-len c =
    let all = c.len.ensures in
    let own = c.len-2.ensures.length ∙ ap length c.requires in
    let most = front_length c.args.letters.now.items in
    omega (arith, all, own, most)

pub encode_each-requires : goal.encode_each-requires
encode_each-requires c =
    let own = c.len-3.ensures.length ∙ ap length c.requires in
    let most = front_length c.args.letters.now.items in
    omega (arith, own, most)
