-- What `serde_json` writes has no line feed.
use Rattle.std.proofs.Common.{◌≡◌, ◌≢◌, ℕ, ◌+◌, suc, List, [], ◌∷◌, ◌++◌, drop, Bool, true, false, cond, ◌&&◌, ◌||◌}
use Rattle.std.proofs.Common.{◌==◌, Option, Some, None, refl, sym, ap, subst, ◌∙◌, arith, ◌/◌, ◌%◌}
use Rattle.std.specs.Prelude.{nat_lt, All, option_and_then}
use Rattle.std.specs.List.{AllByRecursion, prefix_len}
use Rattle.std.specs.Char.{digit_char, is_ascii_digit}
use Rattle.std.proofs.lemmas.Bool.{true≢false}
use Rattle.std.proofs.lemmas.List.Elements.{All-from_recursion}
use Rattle.std.proofs.lemmas.List.Concat.{flat_map-cons}
use Rattle.json.specs.Token.{Token, begin_object, end_object, begin_array, end_array, key, string, number, boolean}
use Rattle.json.specs.Token.{null, bad}
use Rattle.json.specs.Lex.{tokens}
use Rattle.json.specs.Word.{head, after_digits, after_minus, after_sign, after_whole, after_fraction, after_exponent}
use Rattle.json.specs.Word.{after_number}
use Rattle.json.specs.Print.{escape_letter, escape_byte, escape, quoted, token_text, begins, ends, separator}
use Rattle.json.specs.Print.{print_from, print, IsNumber, IsPrintableOrBad, ArePrintableOrBad}
use Rattle.json.proofs.Numbered.{ArePrintableOrBad-tokens}

-- bytes with no line feed
abbrev Plain : List ℕ → Type 0
Plain bytes = AllByRecursion (λ x. x ≢ 10) bytes

Plain-append : (a b : List ℕ) → Plain a → Plain b → Plain (a ++ b)
Plain-append [] b p q = q
Plain-append (x ∷ xs) b p q = (p.0, Plain-append xs b p.1 q)

-- a byte that passes a test that a line feed doesn't pass
passes : (test : ℕ → Bool) → test 10 ≡ false → (x : ℕ) → test x ≡ true → x ≢ 10
passes test fails x e = λ is. true≢false (sym e ∙ ap test is ∙ fails)

-- ---- strings

digit_char_plain : (d : ℕ) → digit_char d ≢ 10
digit_char_plain d = at (nat_lt d 10)
  where
    at : (b : Bool) → cond b (48 + d) (87 + d) ≢ 10
    at true = λ e. omega arith
    at false = λ e. omega arith

letter_plain : (x : ℕ) (q b c d e f : Bool) → (q ≡ true → x ≢ 10)
    → cond q x (cond b 98 (cond c 102 (cond d 110 (cond e 114 (cond f 116 0))))) ≢ 10
letter_plain x true b c d e f h = h refl
letter_plain x false true c d e f h = λ is. omega arith
letter_plain x false false true d e f h = λ is. omega arith
letter_plain x false false false true e f h = λ is. omega arith
letter_plain x false false false false true f h = λ is. omega arith
letter_plain x false false false false false true h = λ is. omega arith
letter_plain x false false false false false false h = λ is. omega arith

escape_letter_plain : (x : ℕ) → escape_letter x ≢ 10
escape_letter_plain x = letter_plain x ((x == 34) || (x == 92)) (x == 8) (x == 12) (x == 10) (x == 13) (x == 9)
    (passes (λ y. (y == 34) || (y == 92)) refl x)

byte_plain : (p q : Bool) (x : ℕ) → nat_lt x 32 ≡ q
    → Plain (cond p (92 ∷ escape_letter x ∷ [])
    (cond q (92 ∷ 117 ∷ 48 ∷ 48 ∷ digit_char (x / 16) ∷ digit_char (x % 16) ∷ []) (x ∷ [])))
byte_plain true q x e = ((λ is. omega arith), (escape_letter_plain x, tt))
byte_plain false true x e = (
  (λ is. omega arith),
  (
    (λ is. omega arith),
    ((λ is. omega arith), ((λ is. omega arith), (digit_char_plain (x / 16), (digit_char_plain (x % 16), tt)))),
  ),
)
byte_plain false false x e = ((λ is. true≢false (sym (ap (λ y. nat_lt y 32) is) ∙ e)), tt)

escape_byte_plain : (x : ℕ) → Plain (escape_byte x)
unfolding escape_byte
escape_byte_plain x = byte_plain (nat_lt 0 (escape_letter x)) (nat_lt x 32) x refl

escape_plain : (s : List ℕ) → Plain (escape s)
escape_plain [] = tt
escape_plain (x ∷ xs) = subst Plain (sym (flat_map-cons escape_byte x xs))
    (Plain-append (escape_byte x) (escape xs) (escape_byte_plain x) (escape_plain xs))

quoted_plain : (s : List ℕ) → Plain (quoted s)
quoted_plain s = ((λ is. omega arith), Plain-append (escape s) (34 ∷ []) (escape_plain s) ((λ is. omega arith), tt))

-- ---- numbers: what stands before a part with no line feed

first_plain : (test : ℕ → Bool) → test 10 ≡ false → (t : List ℕ) → test (head t) ≡ true → Plain (drop 1 t) → Plain t
first_plain test fails [] e p = tt
first_plain test fails (x ∷ xs) e p = (passes test fails x e, p)

digits_step : (b : Bool) (x : ℕ) (xs : List ℕ) (n : ℕ) → is_ascii_digit x ≡ b → (Plain (drop n xs) → Plain xs)
    → Plain (drop (cond b (1 + n) 0) (x ∷ xs)) → Plain (x ∷ xs)
digits_step true x xs n e rest p =
    let one : 1 + n ≡ suc n = omega arith in
    (passes is_ascii_digit refl x e, rest (subst (λ k. Plain (drop k (x ∷ xs))) one p))
digits_step false x xs n e rest p = p

digits_plain : (t : List ℕ) → Plain (drop (prefix_len is_ascii_digit t) t) → Plain t
digits_plain [] p = tt
digits_plain (x ∷ xs) p = digits_step (is_ascii_digit x) x xs (prefix_len is_ascii_digit xs) refl (digits_plain xs) p

after_digits_plain : (t r : List ℕ) → after_digits t ≡ Some r → Plain r → Plain t
after_digits_plain t r = at (prefix_len is_ascii_digit t == 0)
  where
    at : (b : Bool) → cond b None (Some (drop (prefix_len is_ascii_digit t) t)) ≡ Some r → Plain r → Plain t
    at true e p = absurd cc
    at false e p =
        let is : r ≡ drop (prefix_len is_ascii_digit t) t = cc in
        digits_plain t (subst Plain is p)

after_minus_plain : (t : List ℕ) → Plain (after_minus t) → Plain t
after_minus_plain t = at (head t == 45) refl
  where
    at : (b : Bool) → (head t == 45) ≡ b → Plain (cond b (drop 1 t) t) → Plain t
    at true e p = first_plain (λ y. y == 45) refl t e p
    at false e p = p

after_sign_plain : (t : List ℕ) → Plain (after_sign t) → Plain t
after_sign_plain t = at ((head t == 45) || (head t == 43)) refl
  where
    at : (b : Bool) → ((head t == 45) || (head t == 43)) ≡ b → Plain (cond b (drop 1 t) t) → Plain t
    at true e p = first_plain (λ y. (y == 45) || (y == 43)) refl t e p
    at false e p = p

after_whole_plain : (t r : List ℕ) → after_whole t ≡ Some r → Plain r → Plain t
after_whole_plain t r = at (head t == 48) refl
  where
    at : (b : Bool) → (head t == 48) ≡ b → cond b (Some (drop 1 t)) (after_digits t) ≡ Some r → Plain r → Plain t
    at true e is p =
        let same : r ≡ drop 1 t = cc in
        first_plain (λ y. y == 48) refl t e (subst Plain same p)
    at false e is p = after_digits_plain t r is p

after_fraction_plain : (t r : List ℕ) → after_fraction t ≡ Some r → Plain r → Plain t
after_fraction_plain t r = at (head t == 46) refl
  where
    at : (b : Bool) → (head t == 46) ≡ b → cond b (after_digits (drop 1 t)) (Some t) ≡ Some r → Plain r → Plain t
    at true e is p = first_plain (λ y. y == 46) refl t e (after_digits_plain (drop 1 t) r is p)
    at false e is p =
        let same : r ≡ t = cc in
        subst Plain same p

after_exponent_plain : (t r : List ℕ) → after_exponent t ≡ Some r → Plain r → Plain t
after_exponent_plain t r = at ((head t == 101) || (head t == 69)) refl
  where
    at : (b : Bool) → ((head t == 101) || (head t == 69)) ≡ b
        → cond b (after_digits (after_sign (drop 1 t))) (Some t) ≡ Some r → Plain r → Plain t
    at true e is p = first_plain (λ y. (y == 101) || (y == 69)) refl t e
        (after_sign_plain (drop 1 t) (after_digits_plain (after_sign (drop 1 t)) r is p))
    at false e is p =
        let same : r ≡ t = cc in
        subst Plain same p

-- what a chain went through
chained : (f : List ℕ → Option (List ℕ)) (o : Option (List ℕ)) (r : List ℕ) → option_and_then f o ≡ Some r
    → (y : List ℕ) × (o ≡ Some y) × (f y ≡ Some r)
chained f None r e = absurd cc
chained f (Some y) r e = (y, refl, e)

number_plain : (s : List ℕ) → IsNumber s → Plain s
unfolding after_number
number_plain s h =
    let last = chained after_exponent (option_and_then after_fraction (after_whole (after_minus s))) [] h in
    let first = chained after_fraction (after_whole (after_minus s)) last.0 last.1 in
    after_minus_plain s (after_whole_plain (after_minus s) first.0 first.1
    (after_fraction_plain first.0 last.0 first.2 (after_exponent_plain last.0 [] last.2 tt)))

-- ---- tokens

token_plain : (t : Token) → IsPrintableOrBad t → Plain (token_text t)
token_plain begin_object h = ((λ is. omega arith), tt)
token_plain end_object h = ((λ is. omega arith), tt)
token_plain begin_array h = ((λ is. omega arith), tt)
token_plain end_array h = ((λ is. omega arith), tt)
token_plain (key s) h = Plain-append (quoted s) (58 ∷ []) (quoted_plain s) ((λ is. omega arith), tt)
token_plain (string s) h = quoted_plain s
token_plain (number s) h = number_plain s h
token_plain (boolean true) h =
    ((λ is. omega arith), ((λ is. omega arith), ((λ is. omega arith), ((λ is. omega arith), tt))))
token_plain (boolean false) h = (
  (λ is. omega arith),
  ((λ is. omega arith), ((λ is. omega arith), ((λ is. omega arith), ((λ is. omega arith), tt)))),
)
token_plain null h = ((λ is. omega arith), ((λ is. omega arith), ((λ is. omega arith), ((λ is. omega arith), tt))))
token_plain bad h = tt

separator_plain : (b : Bool) → Plain (cond b (44 ∷ []) [])
separator_plain true = ((λ is. omega arith), tt)
separator_plain false = tt

print_plain : (ts : List Token) → ArePrintableOrBad ts → (b : Bool) → Plain (print_from b ts)
unfolding print_from
print_plain [] h b = tt
print_plain (t ∷ ts) h b =
    Plain-append (separator b t) (token_text t ++ print_from (ends t) ts) (separator_plain (b && begins t))
    (Plain-append (token_text t) (print_from (ends t) ts) (token_plain t h.0) (print_plain ts h.1 (ends t)))

-- a text that is written for its own tokens
pub one_line : (s : List ℕ) → s ≡ print (tokens s) → All (λ x. x ≢ 10) s
one_line s e = subst (All (λ x. x ≢ 10)) (sym e)
    (All-from_recursion (λ x. x ≢ 10) (print (tokens s)) (print_plain (tokens s) (ArePrintableOrBad-tokens s) false))
