-- Lines in their shortest form are steps by their tokens.
use Rattle.std.proofs.Common.{◌≡◌, ℕ, ◌<◌, ◌^◌, List, Some, None, Option, ap, sym, ◌∙◌, refl, codes, ◌++◌}
use Rattle.json.specs.Lex.{tokens}
use Rattle.json.specs.Print.{ArePrintable, quoted, escape_byte}
use Rattle.json.specs.Json.{value, members}
use Rattle.json.specs.Tree.{json_tokens}
use Rattle.json.proofs.Printed.Tokens.{tokens-print}
use Rattle.json.proofs.Printed.Decimals.{IsNumber-decimal}
use Rattle.serde_json.specs.Data.{Data}
use Rattle.serde_json.specs.Written.{outline, compact_text}
use Rattle.serde_json.proofs.Texts.{print-outline}
use Rattle.serde_json.proofs.Numbers.{number_of-decimal}
use Rattle.std.specs.Prelude.{IfSome}
use Rattle.model.specs.declared.steps.Step.{Step}
use Rattle.forms.specs.Reading.{◌>>=◌, step_of}
use Rattle.quick_forms.specs.Seen.{step_of_tokens, read_tokens, post_data, deliver_data, place_data}
use Rattle.quick_forms.specs.Tails.{post_tail, deliver_tail, place_tail}

-- the shortest text of a value reads as its tokens
text_tokens : (d : Data) → ArePrintable (json_tokens (outline d)) → tokens (compact_text d) ≡ json_tokens (outline d)
text_tokens d printable = ap tokens (sym (print-outline d)) ∙ tokens-print (json_tokens (outline d)) printable

-- a value whose tokens are read as it is a step where it is one
pub step_of_text : (d : Data) → ArePrintable (json_tokens (outline d))
    → read_tokens (json_tokens (outline d)) ≡ Some d → step_of_tokens (tokens (compact_text d)) ≡ step_of d
unfolding step_of_tokens
step_of_text d printable read = ap step_of_tokens (text_tokens d printable) ∙ ap (λ o. o >>= step_of) read

-- The tokens of a post's shortest text are the step that its value is.
pub post_text : (verb tenant text : List ℕ) (n u : ℕ) → n < 2 ^ 64 → u < 2 ^ 64
    → step_of_tokens (tokens (compact_text (post_data verb n tenant text u))) ≡ step_of (post_data verb n tenant text u)
unfolding ArePrintable value members
post_text verb tenant text n u small few =
    let d = post_data verb n tenant text u in
    step_of_text d (
      tt,
      (
        tt,
        (tt, (tt, (IsNumber-decimal n small, (tt, (tt, (tt, (tt, (tt, (IsNumber-decimal u few, (tt, tt)))))))))),
      ),
    )
    (rw (number_of-decimal n small) (rw (number_of-decimal u few) refl))

-- The tokens of a delivery's shortest text are the step that its value is.
pub deliver_text : (verb tenant : List ℕ) (n : ℕ) → n < 2 ^ 64
    → step_of_tokens (tokens (compact_text (deliver_data verb n tenant))) ≡ step_of (deliver_data verb n tenant)
unfolding ArePrintable value members
deliver_text verb tenant n small =
    step_of_text (deliver_data verb n tenant) (tt, (tt, (tt, (tt, (IsNumber-decimal n small, (tt, (tt, (tt, tt))))))))
    (rw (number_of-decimal n small) refl)

-- The tokens of the shortest text that names a tenant and a unit alone are the step that its value is.
pub place_text : (verb tenant : List ℕ) (u : ℕ) → u < 2 ^ 64
    → step_of_tokens (tokens (compact_text (place_data verb tenant u))) ≡ step_of (place_data verb tenant u)
unfolding ArePrintable value members
place_text verb tenant u few =
    step_of_text (place_data verb tenant u) (tt, (tt, (tt, (tt, (tt, (tt, (IsNumber-decimal u few, (tt, tt))))))))
    (rw (number_of-decimal u few) refl)

-- what was found of a line's step, where the line is a text of that step
pub found : (line text : List ℕ) (form : Option Step) (o : Option Step) → line ≡ text
    → step_of_tokens (tokens text) ≡ form → IfSome o (λ s. form ≡ Some s)
    → IfSome o (λ s. step_of_tokens (tokens line) ≡ Some s)
found line text form None is same has = has
found line text form (Some s) is same has = ap (λ l. step_of_tokens (tokens l)) is ∙ same ∙ has

-- the shortest text of each form, part by part
pub post_parts : (verb tenant text : List ℕ) (n u : ℕ) → compact_text (post_data verb n tenant text u)
    ≡ codes "{\"do\":" ++ (quoted verb ++ post_tail n tenant text u)
unfolding escape_byte
post_parts verb tenant text n u = refl

-- The shortest text of a delivery is its verb, and its tail behind that.
pub deliver_parts : (verb tenant : List ℕ) (n : ℕ) → compact_text (deliver_data verb n tenant)
    ≡ codes "{\"do\":" ++ (quoted verb ++ deliver_tail n tenant)
unfolding escape_byte
deliver_parts verb tenant n = refl

-- The shortest text of a step that names a tenant and a unit alone is its verb and then its tail.
pub place_parts : (verb tenant : List ℕ) (u : ℕ) → compact_text (place_data verb tenant u)
    ≡ codes "{\"do\":" ++ (quoted verb ++ place_tail tenant u)
unfolding escape_byte
place_parts verb tenant u = refl
