-- What each letter says, and where its text stands among those that its sender's path sent.
use Rattle.std.proofs.Common.{◌≡◌, inl, inr, refl, sym, ◌∙◌, ap, subst, ℕ, zero, suc, ◌+◌, ◌<◌, Bool, true, false, cond}
use Rattle.std.proofs.Common.{List, [], ◌∷◌, ◌++◌, length, take, arith, map, append_assoc, ne_eqb}
use Rattle.std.specs.Prelude.{Option, Some, None, slice_get, ◌==◌}
use Rattle.std.specs.List.{filter, sum_by, flat_map}
use Rattle.std.proofs.lemmas.List.Sums.{sum_by-cons, sum_by_push, length-filter}
use Rattle.std.proofs.lemmas.List.{length-map}
use Rattle.std.proofs.lemmas.Option.{slice_get_within, same_Some}
use Rattle.std.proofs.Math.Seq.{take-append_seam}
use native.Mathlib.Decide.{ℕ_discrete}
use Rattle.model.specs.declared.names.Row.{Row}
use Rattle.model.specs.Handler.{Turn, Meaning}
use Rattle.model.specs.Lists.{from_end}
use Rattle.model.specs.World.{Member}
use Rattle.model.specs.Nodes.{Node, Message, node_at, Cause, place_before, sender_of, letters_of, execution, line}
use Rattle.model.specs.Nodes.{sends_within, count_along, count_to, next_turn}
use Rattle.model.proofs.Places.{get_below, line_none}
use Rattle.theory.proofs.ListLaws.{append_get, eq_same, has_before, get_append_any}
use Rattle.theory.proofs.Pasts.{Placed, node_newest, node_older, placed_older}
use Rattle.theory.proofs.Invariants.{SoundMember}
use Rattle.theory.proofs.Sending.{turns_length}

-- ---- sends

-- An execution has one list of sends for each node.
pub sends_length : {S : Type 0} (M : Meaning S) (nodes : List Node) → length (execution M nodes).sends ≡ length nodes
sends_length M [] = refl
sends_length M (n ∷ older) = ap suc (sends_length M older)

-- the sends of a node are those of its turn to units that were there
pub sends_are : {S : Type 0} (M : Meaning S) (nodes : List Node) (d : Turn S) (x : ℕ) → x < length nodes
    → from_end (execution M nodes).sends
    x [] ≡ sends_within (node_at nodes x).units (from_end (execution M nodes).turns x d)
sends_are M [] d x h = absurd (omega arith)
sends_are M (n ∷ older) d x h = elim (ℕ_discrete x (length older)) [
  | yes q ↦ rw (q, sends_length M older, turns_length M older, eq_same (length older)) refl
  | no q ↦
      rw (sends_length M older, turns_length M older, ne_eqb x (length older) q) (sends_are M older d x (omega arith))
]

sends_more : {S : Type 0} (M : Meaning S) (n : Node) (older : List Node) (x : ℕ)
    → x < length older → from_end (execution M (n ∷ older)).sends x [] ≡ from_end (execution M older).sends x []
sends_more M n older x h = rw (sends_length M older, ne_eqb x (length older) (omega arith)) refl

-- ---- lines

-- one more node leaves the older lines as they were
pub line_more : (n : Node) (older : List Node) (o : Option ℕ)
    → ((b : ℕ) → o ≡ Some b → b < length older) → line (n ∷ older) o ≡ line older o
line_more n older None h = sym (line_none older)
line_more n older (Some b) h = let t = h b refl in rw (ne_eqb b (length older) (omega arith)) refl

-- the node before was made before
pub before_below : (nodes : List Node) → Placed nodes → (x b : ℕ) → (node_at nodes x).before ≡ Some b → b < x
before_below nodes placed x b e =
    placed x b (has_before (node_at nodes x).before (sender_of (node_at nodes x).cause) b e)

-- a line begins with its node
pub line_at : (nodes : List Node)
    → Placed nodes → (x : ℕ) → x < length nodes → line nodes (Some x) ≡ x ∷ line nodes (node_at nodes x).before
line_at [] placed x h = absurd (omega arith)
line_at (n ∷ older) placed x h = elim (ℕ_discrete x (length older)) [
  | yes q ↦ rw (
    node_newest n older x q,
    line_more n older n.before (λ b e. let t = before_below (n ∷ older)
        placed x b (ap (λ z. z.before) (node_newest n older x q) ∙ e) in omega arith),
    q,
    eq_same (length older),
  ) refl
  | no q ↦ rw (
    node_older n older x q,
    line_more n older (node_at older x).before (λ b e. let t =
        before_below (n ∷ older) placed x b (ap (λ z. z.before) (node_older n older x q) ∙ e) in omega arith),
    ne_eqb x (length older) q,
  )
      (line_at older (placed_older n older placed) x (omega arith))
]

-- a sum along a line sees only nodes that there are
pub sum_line : (nodes : List Node) (o : Option ℕ) (f g : ℕ → ℕ)
    → ((x : ℕ) → x < length nodes → f x ≡ g x) → sum_by f (line nodes o) ≡ sum_by g (line nodes o)
sum_line [] o f g h = refl
sum_line (n ∷ older) None f g h = refl
sum_line (n ∷ older) (Some x) f g h = elim (ℕ_discrete x (length older)) [
  | yes q ↦ rw (q, eq_same (length older)) (sum_by-cons f (length older) (line older n.before)
      ∙ ap (λ t. t + sum_by f (line older n.before)) (h (length older) (omega arith))
      ∙ ap (λ t. g (length older) + t) (sum_line older n.before f g (λ y k. h y (omega arith)))
      ∙ sym (sum_by-cons g (length older) (line older n.before)))
  | no q ↦ rw (ne_eqb x (length older) q) (sum_line older (Some x) f g (λ y k. h y (omega arith)))
]

-- a front with one more element
pub take_more : {X : Type 0} (xs : List X) (i : ℕ) (x : X)
    → slice_get xs i ≡ Some x → take (suc i) xs ≡ take i xs ++ x ∷ []
take_more [] i x e = cc
take_more (y ∷ ys) zero x e = let q : y ≡ x = same_Some y x e in rw q refl
take_more (y ∷ ys) (suc i) x e = ap (λ t. y ∷ t) (take_more ys i x e)

no_before : (o : Option ℕ) (c : Cause) → place_before o ++ sender_of c ≡ [] → o ≡ None
no_before None c e = refl
no_before (Some x) c e = cc

-- no node is before the first of a path
pub first_before : {nodes : List Node} {table : List Row} {u x : ℕ} {m : Member}
    → SoundMember nodes table u m → slice_get m.path 0 ≡ Some x → (node_at nodes x).before ≡ None
first_before {nodes} {x = x} s e = no_before (node_at nodes x).before (node_at nodes x).cause (s.first x e)

-- a sum along the line before a node of a path is one along the path before it
pub sum_line_path : {nodes : List Node} {table : List Row} {u : ℕ} {m : Member}
    → Placed nodes → SoundMember nodes table u m → (f : ℕ → ℕ) (i x : ℕ) → slice_get m.path i ≡ Some x
    → sum_by f (line nodes (node_at nodes x).before) ≡ sum_by f (take i m.path)
sum_line_path {nodes} placed s f zero x e = rw (first_before s e, line_none nodes) refl
sum_line_path {nodes} {m = m} placed s f (suc j) x e =
    let within = slice_get_within m.path (suc j) x e in
    let r = get_below m.path j (omega arith) in
    rw (s.chained j r.0 x r.1 e, line_at nodes placed r.0 (s.made j r.0 r.1), take_more m.path j r.0 r.1)
    (sum_by-cons f r.0 (line nodes (node_at nodes r.0).before)
    ∙ (let k = sum_line_path placed s f j r.0 r.1 in omega (arith, k))
    ∙ sym (sum_by_push f (take j m.path) r.0))

-- ---- letters

get_after : {X : Type 0} (xs ys : List X) (q : ℕ) → slice_get (xs ++ ys) (length xs + q) ≡ slice_get ys q
get_after [] ys q = ap (slice_get ys) (let t : 0 + q ≡ q = omega arith in t)
get_after (x ∷ xs) ys q = ap (slice_get (x ∷ xs ++ ys))
    (let t : suc (length xs) + q ≡ suc (length xs + q) = omega arith in t) ∙ get_after xs ys q

-- what a letter of one node says
record OneOf (place unit : ℕ) (earlier : ℕ → ℕ) (all : List (ℕ × List ℕ)) (msg : Message) : Type 0 where
  pub sender : msg.sender ≡ place
  pub source : msg.source ≡ unit
  pub place_in : ℕ
  pub there : slice_get all place_in ≡ Some (msg.receiver, msg.text)
  pub number : msg.number ≡ earlier msg.receiver + count_to msg.receiver (take place_in all)

letters_of_at : (place unit : ℕ) (earlier : ℕ → ℕ) (done sends : List (ℕ × List ℕ)) (l : ℕ) (msg : Message)
    → slice_get (letters_of place unit earlier done sends) l ≡ Some msg → OneOf place unit earlier (done ++ sends) msg
letters_of_at place unit earlier done [] l msg e = absurd (cc e)
letters_of_at place unit earlier done (s ∷ sends) zero msg e =
    let q = same_Some _ msg e in
    subst (OneOf place unit earlier (done ++ s ∷ sends)) q (record {
      sender = refl;
      source = refl;
      place_in = length done + 0;
      there = get_after done (s ∷ sends) 0;
      number = let t : length done + 0 ≡ length done = omega arith in rw (t, take-append_seam done (s ∷ sends)) refl;
    })
letters_of_at place unit earlier done (s ∷ sends) (suc l) msg e =
    subst (λ all. OneOf place unit earlier all msg)
    (append_assoc done (s ∷ []) sends) (letters_of_at place unit earlier (done ++ s ∷ []) sends l msg e)

-- what a letter tells is true of its sender
pub record Sent {S : Type 0} (M : Meaning S) (nodes : List Node) (msg : Message) : Type 0 where
  pub within : msg.sender < length nodes
  pub source : msg.source ≡ (node_at nodes msg.sender).unit
  pub place : ℕ
  pub there : slice_get (from_end (execution M nodes).sends msg.sender []) place ≡ Some (msg.receiver, msg.text)
  pub number : msg.number ≡ sum_by (λ x. count_to msg.receiver (from_end (execution M nodes).sends x []))
      (line nodes (node_at nodes msg.sender).before)
      + count_to msg.receiver (take place (from_end (execution M nodes).sends msg.sender []))

sent_more : {S : Type 0} (M : Meaning S) (n : Node) (older : List Node) (msg : Message)
    → Placed (n ∷ older) → Sent M older msg → Sent M (n ∷ older) msg
sent_more M n older msg placed s = record {
  within = let t = s.within in omega arith;
  source = s.source ∙ ap (λ z. z.unit) (sym old);
  place = s.place;
  there = ap (λ t. slice_get t s.place) same ∙ s.there;
  number = s.number
      ∙ ap (λ t. t + count_to msg.receiver (take s.place (from_end (execution M older).sends msg.sender [])))
      (sum_line older (node_at older msg.sender).before (λ x. count_to msg.receiver (from_end (execution M older).sends
      x [])) (λ x. count_to msg.receiver (from_end (execution M (n ∷ older)).sends x []))
      (λ x h. ap (count_to msg.receiver) (sym (sends_more M n older x h)))
      ∙ ap (sum_by (λ x. count_to msg.receiver (from_end (execution M (n ∷ older)).sends x []))) (sym lines))
      ∙ ap (λ t. sum_by (λ x. count_to msg.receiver (from_end (execution M (n ∷ older)).sends x [])) (line
      (n ∷ older) (node_at (n ∷ older) msg.sender).before) + count_to msg.receiver (take s.place t)) (sym same);
}
  where
    old : node_at (n ∷ older) msg.sender ≡ node_at older msg.sender
    old = let t = s.within in node_older n older msg.sender (omega arith)

    same : from_end (execution M (n ∷ older)).sends msg.sender [] ≡ from_end (execution M older).sends msg.sender []
    same = sends_more M n older msg.sender s.within

    lines : line (n ∷ older) (node_at (n ∷ older) msg.sender).before ≡ line older (node_at older msg.sender).before
    lines = ap (λ z. line (n ∷ older) z.before) old ∙ line_more n older (node_at older msg.sender).before
        (λ b e. let t = before_below (n ∷ older) placed msg.sender b (ap (λ z. z.before) old ∙ e) in
        let k = s.within in omega arith)

sent_new : {S : Type 0} (M : Meaning S) (n : Node) (older : List Node) (msg : Message) → Placed (n ∷ older)
    → OneOf (length older) n.unit (λ u. count_along (execution M older).sends u (line older n.before))
    (sends_within n.units (next_turn M n.seat (execution M older) n.before n.cause)) msg
    → Sent M (n ∷ older) msg
sent_new M n older msg placed s = record {
  within = let t = s.sender in omega arith;
  source = s.source ∙ ap (λ z. z.unit) (sym new);
  place = s.place_in;
  there = ap (λ t. slice_get t s.place_in) same ∙ s.there;
  number = s.number
      ∙ ap (λ t. t + count_to msg.receiver (take s.place_in sends))
      (sum_line older n.before (λ x. count_to msg.receiver (from_end (execution M older).sends x []))
      (λ x. count_to msg.receiver (from_end (execution M (n ∷ older)).sends x []))
      (λ x h. ap (count_to msg.receiver) (sym (sends_more M n older x h)))
      ∙ ap (sum_by (λ x. count_to msg.receiver (from_end (execution M (n ∷ older)).sends x []))) (sym lines))
      ∙ ap (λ t. sum_by (λ x. count_to msg.receiver (from_end (execution M (n ∷ older)).sends x [])) (line (n ∷ older)
      (node_at (n ∷ older) msg.sender).before) + count_to msg.receiver (take s.place_in t)) (sym same);
}
  where
    sends : List (ℕ × List ℕ)
    sends = sends_within n.units (next_turn M n.seat (execution M older) n.before n.cause)

    new : node_at (n ∷ older) msg.sender ≡ n
    new = node_newest n older msg.sender s.sender

    same : from_end (execution M (n ∷ older)).sends msg.sender [] ≡ sends
    same = rw (s.sender, sends_length M older, eq_same (length older)) refl

    lines : line (n ∷ older) (node_at (n ∷ older) msg.sender).before ≡ line older n.before
    lines = ap (λ z. line (n ∷ older) z.before) new ∙ line_more n older n.before
        (λ b e. let t = before_below (n ∷ older) placed msg.sender b (ap (λ z. z.before) new ∙ e) in
        let k = s.sender in omega arith)

-- each letter tells its sender's unit, a send of it, and the count of those before to the same unit
pub letters_sent : {S : Type 0} (M : Meaning S) (nodes : List Node)
    → Placed nodes → (l : ℕ) (msg : Message) → slice_get (execution M nodes).letters l ≡ Some msg → Sent M nodes msg
letters_sent M [] placed l msg e = absurd (cc e)
letters_sent M (n ∷ older) placed l msg e = elim (get_append_any (execution M older).letters _ l msg e) [
  | inl h ↦ sent_more M n older msg placed (letters_sent M older (placed_older n older placed) l msg h)
  | inr h ↦ sent_new M n older msg placed
      (letters_of_at (length older) n.unit (λ u. count_along (execution M older).sends u (line older n.before)) []
      (sends_within n.units (next_turn M n.seat (execution M older) n.before n.cause)) _ msg h)
]

-- ---- texts along a path

filter_at : (u j : ℕ) (sends : List (ℕ × List ℕ)) (t : List ℕ) → slice_get sends j ≡ Some (u, t)
    → slice_get (map (λ s. s.1) (filter (λ s. s.0 == u) sends)) (count_to u (take j sends)) ≡ Some t
filter_at u j [] t e = cc
filter_at u zero (s ∷ sends) t e = let q : s ≡ (u, t) = same_Some s (u, t) e in rw (q, eq_same u) refl
filter_at u (suc j) (s ∷ sends) t e =
    rw (sum_by-cons (λ s. cond (s.0 == u) 1 0) s (take j sends)) (go (s.0 == u) (filter_at u j sends t e))
  where
    go : (b : Bool) → slice_get (map (λ s. s.1) (filter (λ s. s.0 == u) sends)) (count_to u (take j sends)) ≡ Some t
        → slice_get (map (λ s. s.1) (cond b (s ∷ filter (λ s. s.0 == u) sends) (filter (λ s. s.0 == u) sends)))
        (cond b 1 0 + count_to u (take j sends)) ≡ Some t
    go true h = let k : 1 + count_to u (take j sends) ≡ suc (count_to u (take j sends)) = omega arith in rw k h
    go false h = let k : 0 + count_to u (take j sends) ≡ count_to u (take j sends) = omega arith in rw k h

texts_length : (u : ℕ) (sends : List (ℕ × List ℕ))
    → length (map (λ s. s.1) (filter (λ s. s.0 == u) sends)) ≡ count_to u sends
texts_length u sends = length-map (filter (λ s. s.0 == u) sends) (λ s. s.1) ∙ length-filter (λ s. s.0 == u) sends

-- the text of the j-th send of a path's i-th node, among the texts to its unit
pub text_at : (sends_of : ℕ → List (ℕ × List ℕ)) (u : ℕ) (done : List ℕ) (i s j : ℕ) (t : List ℕ)
    → slice_get done i ≡ Some s → slice_get (sends_of s) j ≡ Some (u, t)
    → slice_get (flat_map (λ x. map (λ s. s.1) (filter (λ s. s.0 == u) (sends_of x))) done)
    (sum_by (λ x. count_to u (sends_of x)) (take i done) + count_to u (take j (sends_of s))) ≡ Some t
text_at sends_of u [] i s j t e f = cc
text_at sends_of u (x ∷ xs) zero s j t e f =
    let q : x ≡ s = same_Some x s e in
    let k : 0 + count_to u (take j (sends_of s)) ≡ count_to u (take j (sends_of s)) = omega arith in
    rw (q, k) (append_get (map (λ p. p.1) (filter (λ p. p.0 == u) (sends_of s)))
    (flat_map (λ x. map (λ s. s.1) (filter (λ s. s.0 == u) (sends_of x))) xs)
    (count_to u (take j (sends_of s))) t (filter_at u j (sends_of s) t f))
text_at sends_of u (x ∷ xs) (suc i) s j t e f =
    ap (slice_get (flat_map (λ x. map (λ s. s.1) (filter (λ s. s.0 == u) (sends_of x))) (x ∷ xs)))
    (ap (λ z. z + count_to u (take j (sends_of s))) (sum_by-cons (λ x. count_to u (sends_of x)) x (take i xs))
    ∙ (let z : (count_to u (sends_of x) + sum_by (λ x. count_to u (sends_of x)) (take i xs)) + count_to
    u (take j (sends_of s)) ≡ count_to u (sends_of x)
    + (sum_by (λ x. count_to u (sends_of x)) (take i xs) + count_to u (take j (sends_of s))) = omega arith in z)
    ∙ ap (λ z. z + (sum_by (λ x. count_to u (sends_of x)) (take i xs) + count_to u (take j (sends_of s))))
    (sym (texts_length u (sends_of x))))
    ∙ get_after (map (λ p. p.1) (filter (λ p. p.0 == u) (sends_of x)))
    (flat_map (λ x. map (λ s. s.1) (filter (λ s. s.0 == u) (sends_of x))) xs)
    (sum_by (λ x. count_to u (sends_of x)) (take i xs) + count_to u (take j (sends_of s)))
    ∙ text_at sends_of u xs i s j t e f
