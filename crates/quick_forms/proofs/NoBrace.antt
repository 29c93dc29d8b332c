-- A text that begins with neither a space nor a brace that opens is no step.
use Rattle.std.proofs.Common.{◌≡◌, refl, ap, ◌∙◌, ℕ, Bool, true, false, cond, List, [], ◌∷◌, ◌-◌, length, take}
use Rattle.std.specs.Prelude.{◌==◌, not, slice_get, IsTrue, Option, Some, None}
use Rattle.std.proofs.lemmas.Bool.{not-true, true≢false}
use Rattle.std.proofs.lemmas.Option.{same_Some}
use Rattle.json.specs.Ascii as ascii
use Rattle.json.specs.Token.{Token, begin_object, end_object, begin_array, end_array, key, string, number, boolean}
use Rattle.json.specs.Token.{null, bad}
use Rattle.json.specs.Word.{is_operator, is_space, word, number_before, after_number, ends_word, head}
use Rattle.json.specs.Lex.{Class, Lexeme, Mode, Place, begins_colon, comma, colon, fresh, lex, lex_byte}
use Rattle.json.specs.Lex.{operator_lexeme, place_token, punctuate, string_token, token, tokens}
use Rattle.quick_forms.specs.Seen.{step_of_tokens}
use Rattle.quick_forms.proofs.NoStep.{nothing_is_no_step, closing_is_no_step, array_is_no_step, bracket_is_no_step}
use Rattle.quick_forms.proofs.NoStep.{key_is_no_step, text_is_no_step, number_is_no_step, flag_is_no_step}
use Rattle.quick_forms.proofs.NoStep.{null_is_no_step, bad_is_no_step}

-- whether an object begins so
abbrev is_brace : Lexeme → Bool
is_brace (token begin_object) = true
is_brace (token end_object) = false
is_brace (token begin_array) = false
is_brace (token end_array) = false
is_brace (token (key s)) = false
is_brace (token (string s)) = false
is_brace (token (number s)) = false
is_brace (token (boolean b)) = false
is_brace (token null) = false
is_brace (token bad) = false
is_brace comma = false
is_brace colon = false

-- a string, or the key of an object that did not begin
string_at : (s : List ℕ) (b : Bool) (k : Place → List Token) → step_of_tokens (place_token fresh (string s) b k) ≡ None
string_at s true k = key_is_no_step s (k Place.after_key)
string_at s false k = text_is_no_step s (k Place.after_value)

-- what begins with another lexeme is no step
other_first : (l : Lexeme) (ls : List Lexeme) → is_brace l ≡ false → step_of_tokens (punctuate fresh (l ∷ ls)) ≡ None
unfolding punctuate
other_first (token begin_object) ls other = absurd (true≢false other)
other_first (token end_object) ls other = closing_is_no_step _
other_first (token begin_array) ls other = array_is_no_step _
other_first (token end_array) ls other = bracket_is_no_step _
other_first (token (key s)) ls other = bad_is_no_step _
other_first (token (string s)) ls other = string_at s (begins_colon ls) (λ next. punctuate next ls)
other_first (token (number s)) ls other = number_is_no_step s _
other_first (token (boolean b)) ls other = flag_is_no_step b _
other_first (token null) ls other = null_is_no_step _
other_first (token bad) ls other = bad_is_no_step _
other_first comma ls other = bad_is_no_step _
other_first colon ls other = bad_is_no_step _

-- a string is none
no_string : (o : Option (List ℕ)) → is_brace (token (string_token o)) ≡ false
no_string None = refl
no_string (Some s) = refl

-- nor is another operator
no_operator : (a b c d : Bool) → is_brace
    (cond a (token end_object) (cond b (token begin_array) (cond c (token end_array) (cond d comma colon)))) ≡ false
no_operator true b c d = refl
no_operator false true c d = refl
no_operator false false true d = refl
no_operator false false false true = refl
no_operator false false false false = refl

-- nor is one of two that are not
either : (b : Bool) (t : Token) → is_brace (token t) ≡ false → is_brace (token (cond b t bad)) ≡ false
either true t other = other
either false t other = refl

choice : (b : Bool) (t u : Token) → is_brace (token t) ≡ false → is_brace (token u) ≡ false
    → is_brace (token (cond b t u)) ≡ false
choice true t u other none = other
choice false t u other none = none

-- nor is a word
no_number : (t : List ℕ) (o : Option (List ℕ)) → is_brace (token (number_before t o)) ≡ false
no_number t None = refl
no_number t (Some rest) = either (ends_word rest) (number (take (length t - length rest) t)) refl

no_word : (t : List ℕ) → is_brace (token (word t)) ≡ false
unfolding word
no_word t =
    choice (head t == ascii.lower_t) _ _ (either _ (boolean true) refl)
    (choice (head t == ascii.lower_f) _ _ (either _ (boolean false) refl)
    (choice (head t == ascii.lower_n) _ _ (either _ null refl) (no_number t (after_number t))))

-- the first byte
first_byte : (q b o s : Bool) (x : ℕ) (xs : List ℕ) (k : Mode → List Lexeme) → s ≡ false
    → (o ≡ true → is_brace (operator_lexeme x) ≡ false)
    → (ls : List Lexeme) → ls ≡ lex_byte Mode.between
    (cond q Class.quote (cond b Class.backslash (cond o Class.operator (cond s Class.space Class.other)))) x xs k
    → step_of_tokens (punctuate fresh ls) ≡ None
first_byte true b o s x xs k other op ls is = ap (λ ls. step_of_tokens (punctuate fresh ls)) is
    ∙ other_first _ _ (no_string _)
first_byte false true o s x xs k other op ls is = ap (λ ls. step_of_tokens (punctuate fresh ls)) is
    ∙ other_first _ _ refl
first_byte false false true s x xs k other op ls is = ap (λ ls. step_of_tokens (punctuate fresh ls)) is
    ∙ other_first _ _ (op refl)
first_byte false false false false x xs k other op ls is = ap (λ ls. step_of_tokens (punctuate fresh ls)) is
    ∙ other_first _ _ (no_word (x ∷ xs))
first_byte false false false true x xs k other op ls is = absurd (true≢false other)

pub begins_no_object : (x : ℕ) (xs : List ℕ) → is_space x ≡ false → (x == ascii.open_brace) ≡ false
    → step_of_tokens (tokens (x ∷ xs)) ≡ None
unfolding lex
begins_no_object x xs space brace =
    first_byte (x == ascii.quote) (x == ascii.backslash) (is_operator x) (is_space x) x xs (λ next. lex next xs) space
    (λ o. ap (λ b. is_brace (cond b (token begin_object)
    (cond (x == ascii.close_brace) (token end_object) (cond (x == ascii.open_bracket) (token begin_array)
    (cond (x == ascii.close_bracket) (token end_array) (cond (x == ascii.comma) comma colon)))))) brace
    ∙ no_operator (x == ascii.close_brace) (x == ascii.open_bracket) (x == ascii.close_bracket) (x == ascii.comma))
    (lex Mode.between (x ∷ xs)) refl

-- a text by its first byte
pub begins_other : (text : List ℕ) (x : ℕ) → slice_get text 0 ≡ Some x → is_space x ≡ false
    → IsTrue (not (x == ascii.open_brace)) → step_of_tokens (tokens text) ≡ None
unfolding punctuate lex
begins_other [] x at space brace = nothing_is_no_step
begins_other (y ∷ text) x at space brace =
    let same : y ≡ x = same_Some y x at in
    begins_no_object y text (ap is_space same ∙ space)
    (ap (λ z. z == ascii.open_brace) same ∙ not-true (x == ascii.open_brace) brace)
