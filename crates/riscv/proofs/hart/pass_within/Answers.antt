use Rattle.std.proofs.Common.{◌≢◌, ◌∙◌, ◌<◌, ◌-◌, refl, sym, arith}
use Rattle.riscv.specs.declared.predecoded.Predecoded.TheVariants.{Unread}
use Rattle.riscv.proofs.Steps.{step_more, steps_none, step_is, reads_at, says_too, pauses}
use Rattle.riscv.specs.Harts.{machine_of}
use Rattle.riscv.proofs.hart.pass_within.Goals as goal

pub loop-apart-init : goal.loop-apart-init
loop-apart-init c = record {
  some = c.requires.some;
  fewer = omega arith;
  made = steps_none _ _ (omega arith);
  page = (refl, refl);
  inside = (c.requires.aligned, c.requires.within);
  says = c.requires.says;
  reads = λ read. c.requires.first;
  first = λ unread. absurd (c.requires.read unread);
}

pub returns-in-Err : goal.returns-in-Err
returns-in-Err c =
    let i = c.loop-apart.invariant in
    let before = machine_of c.loop-apart.registers c.loop-apart.counter c.args.memory.now in
    let e = c.in-Err.ensures in
    let both = pauses c.loop-apart.instruction.now c.in-Err.apart _ before c.pass.new.registers
    c.pass.new.counter c.loop-apart.left c.args.most e.does e.unread e.kept i.first i.some
    (λ read. step_is before c.loop-apart.instruction.now i.inside.0 i.inside.1 (i.reads read)) in
    rw (both.0.0, both.0.1) (record { fewer = i.fewer; made = i.made; rests = both.1 })

pub returns-then-left-eq0 : goal.returns-then-left-eq0
returns-then-left-eq0 c =
    let i = c.loop-apart.invariant in
    let before = machine_of c.loop-apart.registers c.loop-apart.counter c.args.memory.now in
    let read : c.loop-apart.instruction.now ≢ Unread = λ u. let t = c.in_default.ensures.unread u in cc in
    let comes = step_is before c.loop-apart.instruction.now i.inside.0 i.inside.1 (i.reads read) in
    record {
      fewer = omega (arith, i.fewer);
      made = step_more (c.args.most - c.loop-apart.left) _ _ _ _ (omega (arith, i.fewer, i.some)) i.made
          (comes ∙ c.in_default.ensures.does read);
      rests = omega (arith, i.fewer, i.some);
    }

pub loop-apart-preserved : goal.loop-apart-preserved
loop-apart-preserved c =
    let i = c.loop-apart.invariant in
    let before = machine_of c.loop-apart.registers c.loop-apart.counter c.args.memory.now in
    let read : c.loop-apart.instruction.now ≢ Unread = λ u. let t = c.in_default.ensures.unread u in cc in
    let comes = step_is before c.loop-apart.instruction.now i.inside.0 i.inside.1 (i.reads read) in
    let several : 1 < c.args.most = omega (arith, i.fewer, c.if-left-eq0.false) in
    let says = says_too _ _ _ c.pass.new.counter (i.says several) c.in_default.ensures.aligned
    (c.if-counter-page.false ∙ sym i.page.1) in
    record {
      some = omega (arith, c.if-left-eq0.false);
      fewer = omega (arith, i.fewer);
      made = step_more (c.args.most - c.loop-apart.left) _ _ _ _ (omega (arith, i.fewer, i.some)) i.made
          (comes ∙ c.in_default.ensures.does read);
      page = (refl, c.if-counter-page.false);
      inside = (says.aligned, says.within);
      says = λ more. says;
      reads = reads_at c.args.code.now c.args.memory.now c.pass.new.counter c.index-code-counter.result says
          c.index-code-counter.is;
      first = λ unread. omega (arith, i.fewer, i.some);
    }
