use Rattle.std.proofs.Common.{◌≡◌, ◌∙◌, ap, arith, length}
use Rattle.programs.proofs.Images.{length_of}
use Rattle.programs.proofs.loading.install.Goals as goal

pub set_bytes-requires : goal.set_bytes-requires
set_bytes-requires c =
    let process = c.args.process.now in
    let same : length c.as_slice.result.now ≡ process.loaded =
    ap length (c.as_slice.ensures.value ∙ c.in_ok-bytes.ensures) ∙ length_of process.image 0 process.loaded in
    let few = c.requires in
    omega (arith, same, few)
