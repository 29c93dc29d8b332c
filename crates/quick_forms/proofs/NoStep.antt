-- What tokens are no step: those of no object, and of one without the verb.
use Rattle.std.proofs.Common.{◌≡◌, ℕ, Bool, Less, List, [], ◌∷◌, length, Option, Some, None, Err, option_map}
use Rattle.std.proofs.Common.{option_and_then, codes, refl, ap, ◌∙◌, arith}
use Rattle.std.specs.Prelude.{IsUtf8}
use Rattle.std.specs.Ordering.{nat_cmp}
use Rattle.std.specs.Cmp.Lexicographic.{slice_cmp}
use Rattle.std.proofs.lemmas.Str.{is_utf8-from_IsUtf8}
use Rattle.json.specs.Token.{Token}
use Rattle.json.specs.Lex.{tokens}
use Rattle.json.specs.Reads.{token_of}
use Rattle.json.specs.declared.token.Token.{Token as ReadToken}
use Rattle.json.specs.Json as json
use Rattle.json.specs.Json.{parse_map, items, value, if_last}
use Rattle.json.proofs.Grammar.{value_is, value-begin_array}
use Rattle.serde_json.specs.Data.{Data, Num, Items, Members, number, string, array, object, no_members}
use Rattle.serde_json.specs.Read.{of_json, of_items, number_of}
use Rattle.serde_json.specs.Find.{get_member, as_str}
use Rattle.forms.specs.Reading.{◌>>=◌, Gives, step_of, form_of, step_of_line}
use Rattle.quick_forms.specs.Seen.{with_if, whole_data, chain, seen_members, step_of_tokens}
use Rattle.quick_forms.specs.declared.steps.Seen.{Seen}
use Rattle.model.specs.declared.steps.Step.{Step}
use Rattle.forms.specs.declared.fault.LineFault.{LineFault}
use Rattle.forms.specs.declared.fault.LineFault.TheVariants.{Bad, NoMemory}

abbrev last_of : Option (json.Json × List Token) → Option Step
last_of o = option_and_then of_json (option_and_then (λ p. if_last p.0 p.1) o) >>= step_of

-- an array is no step
no_array : (o : Option (json.Items × List Token)) → last_of (parse_map json.array o) ≡ None
unfolding step_of
no_array None = refl
no_array (Some (js, t ∷ ts)) = refl
no_array (Some (js, [])) = at (of_items js)
  where
    at : (o : Option Items) → option_map array o >>= step_of ≡ None
    at None = refl
    at (Some ds) = refl

-- nor is any other value but an object
no_text : (s : List ℕ) (ts : List Token) → last_of (Some (json.string s, ts)) ≡ None
unfolding step_of
no_text s [] = refl
no_text s (t ∷ ts) = refl

no_number : (s : List ℕ) (ts : List Token) → last_of (Some (json.number s, ts)) ≡ None
unfolding step_of
no_number s (t ∷ ts) = refl
no_number s [] = at (number_of s)
  where
    at : (o : Option Num) → option_map number o >>= step_of ≡ None
    at None = refl
    at (Some n) = refl

-- tokens that begin so
starting : (t : Token) (ts : List Token) (o : Option (json.Json × List Token)) → value 127 (t ∷ ts) ≡ o
    → last_of o ≡ None → step_of_tokens (t ∷ ts) ≡ None
starting t ts o is none = ap last_of is ∙ none

-- An empty list of tokens is no step.
pub nothing_is_no_step : step_of_tokens [] ≡ None
nothing_is_no_step = ap last_of (value_is 127 [])

-- Tokens that begin with a closing brace are no step.
pub closing_is_no_step : (ts : List Token) → step_of_tokens (Token.end_object ∷ ts) ≡ None
closing_is_no_step ts = starting Token.end_object ts None (value_is 127 (Token.end_object ∷ ts)) refl

-- Tokens that begin with an opening bracket are no step.
pub array_is_no_step : (ts : List Token) → step_of_tokens (Token.begin_array ∷ ts) ≡ None
array_is_no_step ts = starting Token.begin_array ts (parse_map json.array (items (value 126) (length ts) ts))
    (value-begin_array 127 ts (omega arith)) (no_array (items (value 126) (length ts) ts))

-- Tokens that begin with a closing bracket are no step.
pub bracket_is_no_step : (ts : List Token) → step_of_tokens (Token.end_array ∷ ts) ≡ None
bracket_is_no_step ts = starting Token.end_array ts None (value_is 127 (Token.end_array ∷ ts)) refl

-- Tokens that begin with a key are no step.
pub key_is_no_step : (s : List ℕ) (ts : List Token) → step_of_tokens (Token.key s ∷ ts) ≡ None
key_is_no_step s ts = starting (Token.key s) ts None (value_is 127 (Token.key s ∷ ts)) refl

-- Tokens that begin with a string are no step.
pub text_is_no_step : (s : List ℕ) (ts : List Token) → step_of_tokens (Token.string s ∷ ts) ≡ None
text_is_no_step s ts = starting (Token.string s) ts _ (value_is 127 (Token.string s ∷ ts)) (no_text s ts)

-- Tokens that begin with a number are no step.
pub number_is_no_step : (s : List ℕ) (ts : List Token) → step_of_tokens (Token.number s ∷ ts) ≡ None
number_is_no_step s ts = starting (Token.number s) ts _ (value_is 127 (Token.number s ∷ ts)) (no_number s ts)

-- Tokens that begin with a boolean are no step.
pub flag_is_no_step : (b : Bool) (ts : List Token) → step_of_tokens (Token.boolean b ∷ ts) ≡ None
unfolding step_of
flag_is_no_step b ts = starting (Token.boolean b) ts _ (value_is 127 (Token.boolean b ∷ ts)) (at ts)
  where
    at : (ts : List Token) → last_of (Some (json.boolean b, ts)) ≡ None
    at [] = refl
    at (t ∷ ts) = refl

-- Tokens that begin with `null` are no step.
pub null_is_no_step : (ts : List Token) → step_of_tokens (Token.null ∷ ts) ≡ None
unfolding step_of
null_is_no_step ts = starting Token.null ts _ (value_is 127 (Token.null ∷ ts)) (at ts)
  where
    at : (ts : List Token) → last_of (Some (json.null, ts)) ≡ None
    at [] = refl
    at (t ∷ ts) = refl

-- Tokens that begin with a bad one are no step.
pub bad_is_no_step : (ts : List Token) → step_of_tokens (Token.bad ∷ ts) ≡ None
bad_is_no_step ts = starting Token.bad ts None (value_is 127 (Token.bad ∷ ts)) refl

-- a token that was read
pub read_is_no_step : (old new : List Token) (t u : ReadToken) → old ≡ token_of t ∷ new → t ≡ u
    → step_of_tokens (token_of u ∷ new) ≡ None → step_of_tokens old ≡ None
read_is_no_step old new t u is same none = ap step_of_tokens (is ∙ ap (λ t. token_of t ∷ new) same) ∙ none

-- a member behind others
skipped : (k l : List ℕ) → slice_cmp nat_cmp k l ≡ Less → (o : Option Data) (ms : Members)
    → get_member k (with_if l o ms) ≡ get_member k ms
skipped k l less None ms = refl
skipped k l less (Some d) ms = rw less refl

-- an object without the verb is no step
pub verbless_is_no_step : (b c e f g h : Option Data) → step_of (object (chain None b c e f g h)) ≡ None
unfolding step_of
verbless_is_no_step b c e f g h =
    let k = codes "do" in
    let none : get_member k (chain None b c e f g h) ≡ None =
    skipped k (codes "kind") refl b _ ∙ skipped k (codes "letter") refl c _ ∙ skipped k (codes "number") refl e _
    ∙ skipped k (codes "tenant") refl f _ ∙ skipped k (codes "text") refl g _
    ∙ skipped k (codes "unit") refl h no_members in
    ap (λ o. option_and_then as_str o >>= (λ verb. form_of verb (object (chain None b c e f g h)))) none

-- An object of the members that were seen is no step where no verb was among them.
pub verbless : (s : Seen) → s.verb ≡ None → step_of (object (seen_members s)) ≡ None
verbless s none =
    let b = option_map (λ t. string t.now) s.kind in
    let c = option_map whole_data s.letter in
    let e = option_map whole_data s.number in
    let f = option_map (λ t. string t.now) s.tenant in
    let g = option_map (λ t. string t.now) s.text in
    let h = option_map whole_data s.unit in
    ap (λ v. step_of (object (chain (option_map (λ t. string t.now) v) b c e f g h))) none
    ∙ verbless_is_no_step b c e f g h

-- the step of a line is that of its tokens
pub line_step : (line : List ℕ) → IsUtf8 line → step_of_line line ≡ step_of_tokens (tokens line)
unfolding step_of_line
line_step line text = rw (is_utf8-from_IsUtf8 line text) refl

-- a fault that is said of a line
pub gives_fault : (fault : LineFault) (o : Option Step) → (fault ≡ Bad → o ≡ None)
    → Gives (λ (s : Step). s) (Err fault) o
gives_fault Bad o told = told refl
gives_fault NoMemory o told = tt
