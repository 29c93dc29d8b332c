use Rattle.std.proofs.Common.{rules, ◌≡◌, sym}
use Rattle.codec.specs.Codes.{Unless, bool_code, number_code}
use Rattle.codec.specs.declared.fault.DecodeFault.TheVariants.{NoMemory}
use Rattle.programs.specs.Coding.{memory_code, process_code, FitsProcess}
use Rattle.programs.proofs.portable.ProcessCoded.decode.Goals as goal

pub returns-in_err-loaded-clause-err : goal.returns-in_err-loaded-clause-err
returns-in_err-loaded-clause-err c =
    let only : Unless process_code FitsProcess c.args.input.now (c.in_err-loaded.field-0.0 ≡ NoMemory)
    = λ p rest fits is.
    let behind_image = number_code p.loaded rest in
    let behind_flag = memory_code p.image behind_image in
    let memory = c.in_ok-memory.ensures.ok p.memory (bool_code p.has_program behind_flag) fits.memory is in
    let has_program = c.in_ok-has_program.ensures.ok p.has_program behind_flag tt (sym memory.1) in
    let image = c.in_ok-image.ensures.ok p.image behind_image fits.image (sym has_program.1) in
    c.in_err-loaded.ensures.err p.loaded rest fits.loaded (sym image.1) in
    search (rules, only)
