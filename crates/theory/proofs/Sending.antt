-- Letters and the nodes that sent them; and the turn of each node, in the one execution of all nodes.
use Rattle.std.proofs.Common.{◌≡◌, inl, inr, refl, sym, ◌∙◌, ap, ℕ, zero, suc, ◌<◌, List, [], ◌∷◌, ◌++◌, length, arith}
use Rattle.std.proofs.Common.{ne_eqb}
use Rattle.std.proofs.lemmas.Option.{same_Some}
use Rattle.std.specs.Prelude.{Option, Some, None, slice_get}
use native.Mathlib.Decide.{ℕ_discrete}
use Rattle.model.specs.declared.names.Seat.{Seat}
use Rattle.model.specs.Handler.{Turn, Meaning}
use Rattle.model.specs.Nodes.{Node, Message, node_at, Cause, began, outside, letter, turn_at, turn_upon, sender_of}
use Rattle.model.specs.Nodes.{letters_of, execution, line, sends_within, count_along, next_turn}
use Rattle.model.specs.declared.names.Source.TheVariants.{Outside}
use Rattle.model.specs.Lists.{from_end}
use Rattle.theory.proofs.ListLaws.{eq_same, has_before, get_append_any}
use Rattle.theory.proofs.Pasts.{Placed, node_newest, node_older, placed_older}

abbrev AllSentBelow : ℕ → List Message → Type 0
AllSentBelow k letters = (l : ℕ) (msg : Message) → slice_get letters l ≡ Some msg → msg.sender < k

sent_below : (k place unit : ℕ) (earlier : ℕ → ℕ)
    → place < k → (done sends : List (ℕ × List ℕ)) → AllSentBelow k (letters_of place unit earlier done sends)
sent_below k place unit earlier h done [] = λ l msg e. absurd (cc e)
sent_below k place unit earlier h done (s ∷ sends) =
    λ l msg e. at l msg e (sent_below k place unit earlier h (done ++ s ∷ []) sends)
  where
    at : (l : ℕ) (msg : Message) → slice_get (letters_of place unit earlier done (s ∷ sends)) l ≡ Some msg
        → AllSentBelow k (letters_of place unit earlier (done ++ s ∷ []) sends) → msg.sender < k
    at zero msg e rest = let q = same_Some _ msg e in rw (← q) h
    at (suc l) msg e rest = rest l msg e

-- a letter was sent by a node that was made
pub letters_made : {S : Type 0} (M : Meaning S) (nodes : List Node)
    → AllSentBelow (length nodes) (execution M nodes).letters
letters_made M [] = λ l msg e. absurd (cc e)
letters_made M (n ∷ older) = λ l msg e. at (letters_made M older) l msg e
  where
    at : AllSentBelow (length older) (execution M older).letters
        → AllSentBelow (suc (length older)) (execution M (n ∷ older)).letters
    at below l msg e = elim (get_append_any (execution M older).letters _ l msg e) [
      | inl h ↦ let t : msg.sender < length older = below l msg h in omega arith
      | inr h ↦ sent_below (suc (length older))
          (length older) n.unit (λ u. count_along (execution M older).sends u (line older n.before)) (omega arith) []
          (sends_within n.units (next_turn M n.seat (execution M older) n.before n.cause)) _ msg h
    ]

-- ---- one execution for all nodes

letters_place : (place unit : ℕ) (earlier : ℕ → ℕ) (done sends : List (ℕ × List ℕ)) (l : ℕ) (msg : Message)
    → slice_get (letters_of place unit earlier done sends) l ≡ Some msg → msg.sender ≡ place
letters_place place unit earlier done [] l msg e = absurd (cc e)
letters_place place unit earlier done (s ∷ sends) zero msg e = let q = same_Some _ msg e in ap (λ m. m.sender) (sym q)
letters_place place unit earlier done (s ∷ sends) (suc l) msg e =
    letters_place place unit earlier (done ++ s ∷ []) sends l msg e

-- there is a turn for each node
pub turns_length : {S : Type 0} (M : Meaning S) (nodes : List Node) → length (execution M nodes).turns ≡ length nodes
turns_length M [] = refl
turns_length M (n ∷ older) = ap suc (turns_length M older)

-- a letter of an older node was there before the newest
letters_old : {S : Type 0} (M : Meaning S) (n : Node) (older : List Node) (l : ℕ) (msg : Message)
    → slice_get (execution M (n ∷ older)).letters l ≡ Some msg
    → msg.sender < length older → slice_get (execution M older).letters l ≡ Some msg
letters_old M n older l msg e h = elim (get_append_any (execution M older).letters _ l msg e) [
  | inl q ↦ q
  | inr q ↦ let p =
      letters_place (length older) n.unit (λ u. count_along (execution M older).sends u (line older n.before)) []
      (sends_within n.units (next_turn M n.seat (execution M older) n.before n.cause)) _ msg q in absurd (omega arith)
]

-- each letter that was received is there, and was sent before
abbrev pub Received : List Message → List Node → Type 0
Received letters nodes = (x l s : ℕ) → x < length nodes
    → (node_at nodes x).cause ≡ letter l s → (msg : Message) × (slice_get letters l ≡ Some msg) × (msg.sender < x)

-- the turn before, in the execution of some nodes and in that of one more
turn_at_more : {S : Type 0} (M : Meaning S) (seat : Seat) (n : Node) (older : List Node) (b : Option ℕ)
    → ((p : ℕ) → b ≡ Some p → p < length older)
    → turn_at M seat (execution M (n ∷ older)).turns b ≡ turn_at M seat (execution M older).turns b
turn_at_more M seat n older None h = refl
turn_at_more M seat n older (Some p) h = let t = h p refl in
    let k = turns_length M older in rw (ne_eqb p (length (execution M older).turns) (omega arith)) refl

next_turn_more : {S : Type 0} (M : Meaning S) (seat : Seat) (n : Node) (older : List Node) (b : Option ℕ) (c : Cause)
    → ((p : ℕ) → b ≡ Some p → p < length older)
    → ((l s : ℕ) → c ≡ letter l s
    → (msg : Message) × (slice_get (execution M (n ∷ older)).letters l ≡ Some msg) × (msg.sender < length older))
    → next_turn M seat (execution M (n ∷ older)) b c ≡ next_turn M seat (execution M older) b c
next_turn_more M seat n older b began h r = refl
next_turn_more M seat n older b (outside number text) h r =
    ap (λ t. M.handle seat t.state Outside text) (turn_at_more M seat n older b h)
next_turn_more M seat n older b (letter l s) h r =
    let q = r l s refl in
    let old = letters_old M n older l q.0 q.1 q.2 in
    ap (λ o. turn_upon M seat (turn_at M seat (execution M (n ∷ older)).turns b).state o) (q.1 ∙ sym old)
    ∙ ap (λ t. turn_upon M seat t.state (slice_get (execution M older).letters l)) (turn_at_more M seat n older b h)

-- The turn of each node is its handler's answer, after the state before it, in the one execution of all nodes.
pub turns_are : {S : Type 0} (M : Meaning S) (nodes : List Node) (d : Turn S)
    → Placed nodes → Received (execution M nodes).letters nodes → (x : ℕ) → x < length nodes
    → from_end (execution M nodes).turns
    x d ≡ next_turn M (node_at nodes x).seat (execution M nodes) (node_at nodes x).before (node_at nodes x).cause
turns_are M [] d placed received x h = absurd (omega arith)
turns_are {S} M (n ∷ older) d placed received x h = elim (ℕ_discrete x (length older)) [
  | yes q ↦ rw (q, turns_length M older, eq_same (length older)) (sym (next_turn_more M n.seat n older n.before n.cause
      (λ p e. placed (length older)
      p (rw (node_newest n older (length older) refl) (has_before n.before (sender_of n.cause) p e)))
      (λ l s e. received (length older)
      l s (omega arith) (ap (λ m. m.cause) (node_newest n older (length older) refl) ∙ e))))
  | no q ↦ rw (turns_length M older, ne_eqb x (length older) q)
      (turns_are M older d (placed_older n older placed) received_older x (omega arith)
      ∙ sym (next_turn_more M (node_at older x).seat n older (node_at older x).before (node_at older x).cause
      (λ p e. let t = placed_older n older
      placed x p (has_before (node_at older x).before (sender_of (node_at older x).cause) p e) in omega arith)
      (λ l s e. let r = received x l s (omega arith) (ap (λ m. m.cause) (node_older n older x q) ∙ e) in
      (r.0, r.1, omega (arith, r.2)))))
]
  where
    received_older : Received (execution M older).letters older
    received_older y l s k e =
        let r = received y l s (omega arith) (ap (λ m. m.cause) (node_older n older y (omega arith)) ∙ e) in
        (r.0, letters_old M n older l r.0 r.1 (omega (arith, r.2)), r.2)
