use Rattle.std.proofs.Common.{◌∙◌, sym, ap}
use Rattle.std.specs.Prelude.{slice_get}
use Rattle.quick_forms.proofs.NoBrace.{begins_other}
use Rattle.quick_forms.proofs.steps.begins_no_object.Goals as goal

pub returns-then-not-is_space : goal.returns-then-not-is_space
returns-then-not-is_space c = λ other. begins_other c.args.text.now c.in-Some.byte.now
    (sym (c.in-Some.ensures.value ∙ ap (λ bytes. slice_get bytes 0) c.as_bytes.ensures.value))
    (sym c.is_space.ensures ∙ c.if-not-is_space.true) other
