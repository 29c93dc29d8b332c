-- The grammar's loop over the members, a turn at a time, and the members that were seen.
use Rattle.std.proofs.Common.{◌≡◌, ℕ, ◌-◌, ◌<◌, ◌≤◌, List, [], ◌∷◌, length, Option, Some, None, option_map}
use Rattle.std.proofs.Common.{option_and_then, codes, refl, ap, ◌∙◌, arith, Less, Equal, Greater}
use Rattle.std.specs.Prelude.{◌==◌, ◌^◌, slice_index, false}
use Rattle.std.proofs.Common.{lt-ltb}
use Rattle.fast_float.specs.Text.{IsInteger, scan, digits_of}
use Rattle.json.specs.Token.{Token}
use Rattle.json.specs.Json as json
use Rattle.json.specs.Json.{Parse, parse_map, read_key, members, value, if_last}
use Rattle.json.proofs.Grammar.{members_end, members_more, value_is, value-begin_object}
use Rattle.serde_json.specs.Data.{Data, object, string, unsigned, Members, no_members, member, put}
use Rattle.serde_json.specs.Read.{number_of, of_json, of_members, converted}
use Rattle.quick_forms.specs.Seen.{with_if, whole_data, chain, read_tokens}
use Rattle.std.specs.Ordering.{nat_cmp}
use Rattle.std.specs.Cmp.Lexicographic.{slice_cmp}

abbrev pick : {A : Type 0} → A → Option A → A
pick d None = d
pick d (Some a) = a

found : {A B : Type 0} (a : A) (r s : List Token) (x : Option B) (b : B)
    → option_map {U = B × List Token} (λ y. (y, r)) x ≡ Some (b, s) → (r ≡ s) × (x ≡ Some b)
found a r s None b e = absurd (cc)
found a r s (Some y) b e = let same = ap (pick (y, r)) e in (ap (λ p. p.1) same, ap (λ p. Some p.0) same)

converted_some : {A B : Type 0} (f : A → Option B) (o : Option (A × List Token)) (b : B) (r : List Token)
    → converted f o ≡ Some (b, r) → (a : A) × (o ≡ Some (a, r)) × (f a ≡ Some b)
converted_some f None b r e = absurd (cc)
converted_some f (Some p) b r e = let both = found p.0 p.1 r (f p.0) b e in
    (p.0, ap (λ s. Some (p.0, s)) both.0, both.1)

with_member : (k : List ℕ) (j : json.Json) (d : Data) (old : Members) → of_json j ≡ Some d
    → (o : Option (json.Members × List Token))
    → converted (λ ms. of_members ms old) (parse_map (json.member k j) o)
    ≡ converted (λ ms. of_members ms (put k d old)) o
with_member k j d old e None = refl
with_member k j d old e (Some p) = rw e

-- one member more
pub member_read : (p : Parse json.Json) (old : Members) (n : ℕ) (k : List ℕ) (ts s r : List Token) (d : Data) → 0 < n
    → read_key ts ≡ Some (Some k, s) → converted of_json (p s) ≡ Some (d, r)
    → converted (λ ms. of_members ms old) (members p n ts)
    ≡ converted (λ ms. of_members ms (put k d old)) (members p (n - 1) r)
member_read p old n k ts s r d some key e =
    let j = converted_some of_json (p s) d r e in
    ap (converted (λ ms. of_members ms old)) (members_more p n k ts s r j.0 some key j.1)
    ∙ with_member k j.0 d old j.2 _

-- the closing brace
pub members_over : (p : Parse json.Json) (old : Members) (n : ℕ) (ts r : List Token) → length ts ≤ n
    → read_key ts ≡ Some (None, r) → converted (λ ms. of_members ms old) (members p n ts) ≡ Some (old, r)
members_over p old n ts r enough e = ap (converted (λ ms. of_members ms old)) (members_end p n ts r enough e)

-- an object that is the whole text
pub object_read : (ts : List Token) (ms : Members)
    → converted (λ found. of_members found no_members) (members (value 126) (length ts) ts) ≡ Some (ms, [])
    → read_tokens (Token.begin_object ∷ ts) ≡ Some (object ms)
object_read ts ms e =
    let j = converted_some (λ found. of_members found no_members) (members (value 126) (length ts) ts) ms [] e in
    ap (λ o. option_and_then of_json (option_and_then (λ p. if_last p.0 p.1) o))
    (value-begin_object 127 ts (omega arith) ∙ ap (parse_map json.object) j.1)
    ∙ ap (option_map object) j.2

-- a text, and a whole number
pub string_read : (m : ℕ) (s : List ℕ) (ts : List Token)
    → converted of_json (value m (Token.string s ∷ ts)) ≡ Some (string s, ts)
string_read m s ts = ap (converted of_json) (value_is m (Token.string s ∷ ts))

-- A number token that says a whole number is read as it, and the tokens behind it are left.
pub number_read : (m : ℕ) (s : List ℕ) (n : ℕ) (ts : List Token) → number_of s ≡ Some (unsigned n)
    → converted of_json (value m (Token.number s ∷ ts)) ≡ Some (whole_data n, ts)
number_read m s n ts e = ap (converted of_json) (value_is m (Token.number s ∷ ts)) ∙ rw e refl

-- ---- a member put among those that were seen

-- the key goes before all of these
abbrev Front : List ℕ → Members → Type 0
Front k ms = (d : Data) → put k d ms ≡ member k d ms

before : (k l : List ℕ) → slice_cmp nat_cmp k l ≡ Less → (o : Option Data) (ms : Members) → Front k ms
    → Front k (with_if l o ms)
before k l less None ms h = h
before k l less (Some e) ms h = λ d. rw less

here : (k : List ℕ) → slice_cmp nat_cmp k k ≡ Equal → (d : Data) (o : Option Data) (ms : Members) → Front k ms
    → put k d (with_if k o ms) ≡ member k d ms
here k equal d None ms h = h d
here k equal d (Some e) ms h = rw equal

past : (k l : List ℕ) → slice_cmp nat_cmp k l ≡ Greater → (d : Data) (o : Option Data) (ms ns : Members)
    → put k d ms ≡ ns → put k d (with_if l o ms) ≡ with_if l o ns
past k l greater d None ms ns h = h
past k l greater d (Some e) ms ns h = rw greater (ap (member l e) h)

module _ (d : Data) (a b c e f g h : Option Data) where
  -- A value put under `unit` among the members that were seen is set in its place there.
  pub put_unit : put (codes "unit") d (chain a b c e f g h) ≡ chain a b c e f g (Some d)
  put_unit =
      let k = codes "unit" in
      past k (codes "do") refl d a _ _ (past k (codes "kind") refl d b _ _
      (past k (codes "letter") refl d c _ _ (past k (codes "number") refl d e _ _
      (past k (codes "tenant") refl d f _ _
      (past k (codes "text") refl d g _ _ (here k refl d h no_members (λ x. refl)))))))

  -- A value put under `text` among the members that were seen is set in its place there.
  pub put_text : put (codes "text") d (chain a b c e f g h) ≡ chain a b c e f (Some d) h
  put_text =
      let k = codes "text" in
      past k (codes "do") refl d a _ _ (past k (codes "kind") refl d b _ _
      (past k (codes "letter") refl d c _ _ (past k (codes "number") refl d e _ _
      (past k (codes "tenant") refl d f _ _ (here k refl d g _ (before k (codes "unit") refl h _ (λ x. refl)))))))

  -- A value put under `tenant` among the members that were seen is set in its place there.
  pub put_tenant : put (codes "tenant") d (chain a b c e f g h) ≡ chain a b c e (Some d) g h
  put_tenant =
      let k = codes "tenant" in
      past k (codes "do") refl d a _ _ (past k (codes "kind") refl d b _ _
      (past k (codes "letter") refl d c _ _ (past k (codes "number") refl d e _ _
      (here k refl d f _ (before k (codes "text") refl g _ (before k (codes "unit") refl h _ (λ x. refl)))))))

  -- A value put under `number` among the members that were seen is set in its place there.
  pub put_number : put (codes "number") d (chain a b c e f g h) ≡ chain a b c (Some d) f g h
  put_number =
      let k = codes "number" in
      past k (codes "do") refl d a _ _ (past k (codes "kind") refl d b _ _ (past k (codes "letter") refl d c _ _
      (here k refl d e _ (before k (codes "tenant") refl f _
      (before k (codes "text") refl g _ (before k (codes "unit") refl h _ (λ x. refl)))))))

  -- A value put under `letter` among the members that were seen is set in its place there.
  pub put_letter : put (codes "letter") d (chain a b c e f g h) ≡ chain a b (Some d) e f g h
  put_letter =
      let k = codes "letter" in
      past k (codes "do") refl d a _ _ (past k (codes "kind") refl d b _ _
      (here k refl d c _ (before k (codes "number") refl e _ (before k (codes "tenant") refl f _
      (before k (codes "text") refl g _ (before k (codes "unit") refl h _ (λ x. refl)))))))

  -- A value put under `kind` among the members that were seen is set in its place there.
  pub put_kind : put (codes "kind") d (chain a b c e f g h) ≡ chain a (Some d) c e f g h
  put_kind =
      let k = codes "kind" in
      past k (codes "do") refl d a _ _
      (here k refl d b _ (before k (codes "letter") refl c _
      (before k (codes "number") refl e _ (before k (codes "tenant") refl f _
      (before k (codes "text") refl g _ (before k (codes "unit") refl h _ (λ x. refl)))))))

  -- A value put under `do` among the members that were seen is set in its place there.
  pub put_verb : put (codes "do") d (chain a b c e f g h) ≡ chain (Some d) b c e f g h
  put_verb =
      let k = codes "do" in
      here k refl d a _ (before k (codes "kind") refl b _ (before k (codes "letter") refl c _
      (before k (codes "number") refl e _ (before k (codes "tenant") refl f _
      (before k (codes "text") refl g _ (before k (codes "unit") refl h _ (λ x. refl)))))))

-- a number with no sign, as its digits
pub number_of-unsigned : (s : List ℕ) → (slice_index s 0 == 45) ≡ false → IsInteger (scan s)
    → digits_of (scan s) < 2 ^ 64 → number_of s ≡ Some (unsigned (digits_of (scan s)))
unfolding number_of
number_of-unsigned s plain whole fits = rw (plain, lt-ltb _ _ whole.0, whole.1, whole.2, lt-ltb _ _ fits)
