use Rattle.std.proofs.Common.{ap, ◌∙◌}
use Rattle.quick_forms.specs.Seen.{step_of_tokens}
use Rattle.quick_forms.proofs.NoStep.{read_is_no_step, nothing_is_no_step, closing_is_no_step, array_is_no_step}
use Rattle.quick_forms.proofs.NoStep.{bracket_is_no_step, key_is_no_step, text_is_no_step, number_is_no_step}
use Rattle.quick_forms.proofs.NoStep.{flag_is_no_step, null_is_no_step, bad_is_no_step}
use Rattle.quick_forms.proofs.steps.begins_object.Goals as goal

pub returns-in-Some-BeginArray : goal.returns-in-Some-BeginArray
returns-in-Some-BeginArray c =
    read_is_no_step _ _ _ _ c.in-Some-BeginArray.ensures.value c.in-Some-BeginArray.field-0-is (array_is_no_step _)

pub returns-in-Some-EndArray : goal.returns-in-Some-EndArray
returns-in-Some-EndArray c =
    read_is_no_step _ _ _ _ c.in-Some-EndArray.ensures.value c.in-Some-EndArray.field-0-is (bracket_is_no_step _)

pub returns-in-Some-EndObject : goal.returns-in-Some-EndObject
returns-in-Some-EndObject c =
    read_is_no_step _ _ _ _ c.in-Some-EndObject.ensures.value c.in-Some-EndObject.field-0-is (closing_is_no_step _)

pub returns-in-Some-Key : goal.returns-in-Some-Key
returns-in-Some-Key c =
    read_is_no_step _ _ _ _ c.in-Some-Key.ensures.value c.in-Some-Key.field-0-is (key_is_no_step _ _)

pub returns-in-Some-String : goal.returns-in-Some-String
returns-in-Some-String c =
    read_is_no_step _ _ _ _ c.in-Some-String.ensures.value c.in-Some-String.field-0-is (text_is_no_step _ _)

pub returns-in-Some-Number : goal.returns-in-Some-Number
returns-in-Some-Number c =
    read_is_no_step _ _ _ _ c.in-Some-Number.ensures.value c.in-Some-Number.field-0-is (number_is_no_step _ _)

pub returns-in-Some-Bool : goal.returns-in-Some-Bool
returns-in-Some-Bool c =
    read_is_no_step _ _ _ _ c.in-Some-Bool.ensures.value c.in-Some-Bool.field-0-is (flag_is_no_step _ _)

pub returns-in-Some-Null : goal.returns-in-Some-Null
returns-in-Some-Null c =
    read_is_no_step _ _ _ _ c.in-Some-Null.ensures.value c.in-Some-Null.field-0-is (null_is_no_step _)

pub returns-in-Some-Bad : goal.returns-in-Some-Bad
returns-in-Some-Bad c = read_is_no_step _ _ _ _ c.in-Some-Bad.ensures.value c.in-Some-Bad.field-0-is (bad_is_no_step _)

pub returns-in-None : goal.returns-in-None
returns-in-None c = ap step_of_tokens c.in-None.ensures.value.0 ∙ nothing_is_no_step
