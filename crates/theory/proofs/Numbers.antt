-- The number of a letter that was received is the count of receipts from its source before it, along its receiver's
-- line.
use Rattle.std.proofs.Common.{◌≡◌, inr, refl, sym, ◌∙◌, ap, ℕ, suc, ◌+◌, ◌-◌, ◌<◌, true, cond, List, [], ◌∷◌, ◌++◌}
use Rattle.std.proofs.Common.{length, take, arith}
use Rattle.std.specs.Prelude.{Option, Some, slice_get}
use Rattle.std.specs.List.{sum_by}
use Rattle.std.proofs.lemmas.List.Sums.{sum_by-cons, sum_by_push}
use Rattle.std.proofs.Math.Seq.{take-length}
use native.Mathlib.Decide.{ℕ_discrete}
use Rattle.model.specs.declared.names.Row.{Row}
use Rattle.model.specs.declared.names.Source.{Source}
use Rattle.model.specs.declared.names.Source.TheVariants.{Unit as FromUnit}
use Rattle.model.specs.Handler.{Meaning}
use Rattle.model.specs.Lists.{has}
use Rattle.model.specs.World.{World, Member, executed, taken, source_of, is_from}
use Rattle.model.specs.Steps.{next_node, beginning}
use Rattle.model.specs.Nodes.{Node, Message, node_at, Cause, began, outside, letter, place_before, sender_of}
use Rattle.model.specs.Nodes.{letters_of, line, sends_within, count_along, next_turn as turn_after}
use Rattle.model.proofs.Places.{get_below}
use Rattle.theory.proofs.ListLaws.{append_get, eq_same, append_has, has_sender}
use Rattle.theory.proofs.Pasts.{Placed, node_newest, node_older, placed_older}
use Rattle.theory.proofs.Changes.{Change, MayTake, new_seat}
use Rattle.theory.proofs.Changes.Change.{unchanged, receives, flushes, dies, goes_back, learns, releases, joins}
use Rattle.theory.proofs.Changes.MayTake.{from_outside, from_letter}
use Rattle.theory.proofs.Invariants.{Sound, SoundMember, sound_change}
use Rattle.theory.proofs.Sending.{Received}
use Rattle.theory.proofs.LettersExact.{line_more, line_at, sum_line_path, sum_line, take_more, before_below}

-- the letter that the node at x received: its number is how many receipts from its source stand before
pub record NumberedBy (letters : List Message) (nodes : List Node) (x l s : ℕ) : Type 0 where
  pub msg : Message
  pub made : slice_get letters l ≡ Some msg
  pub sender : msg.sender ≡ s
  pub receiver : msg.receiver ≡ (node_at nodes x).unit
  pub number : msg.number ≡ taken nodes (line nodes (node_at nodes x).before) (FromUnit msg.source)

-- that of every letter received
abbrev pub Numbered : List Message → List Node → Type 0
Numbered letters nodes = (x l s : ℕ)
    → x < length nodes → (node_at nodes x).cause ≡ letter l s → NumberedBy letters nodes x l s

-- the sender of a letter was made before its receipt
pub sender_below : (nodes : List Node) → Placed nodes → (x l s : ℕ) → (node_at nodes x).cause ≡ letter l s → s < x
sender_below nodes placed x l s e =
    placed x s (has_sender (place_before (node_at nodes x).before) (node_at nodes x).cause l s e)

source_more : (n : Node) (nodes : List Node) (c : Cause)
    → ((p : ℕ) → has (sender_of c) p ≡ true → p < length nodes) → source_of (n ∷ nodes) c ≡ source_of nodes c
source_more n nodes began h = refl
source_more n nodes (outside number text) h = refl
source_more n nodes (letter l s) h = let t = h s (rw (eq_same s) refl) in
    ap (λ z. Some (FromUnit z.unit)) (node_older n nodes s (omega arith))

taken_older : (n : Node) (nodes : List Node)
    → Placed nodes → (o : Option ℕ) (source : Source) → ((b : ℕ) → o ≡ Some b → b < length nodes)
    → taken nodes (line nodes o) source ≡ taken (n ∷ nodes) (line (n ∷ nodes) o) source
taken_older n nodes placed o source h =
    sum_line nodes o (λ x. cond (is_from source (source_of nodes (node_at nodes x).cause)) 1 0)
    (λ x. cond (is_from source (source_of (n ∷ nodes) (node_at (n ∷ nodes) x).cause)) 1 0)
    (λ x k. ap (λ z. cond (is_from source z) 1 0)
    (sym (ap (λ z. source_of (n ∷ nodes) z.cause) (node_older n nodes x (omega arith))
    ∙ source_more n nodes (node_at nodes x).cause (λ p e. let t = placed x p (append_has
    (place_before (node_at nodes x).before) (sender_of (node_at nodes x).cause) p (inr e)) in omega arith))))
    ∙ ap (λ p. taken (n ∷ nodes) p source) (sym (line_more n nodes o h))

numbered_old : (letters more : List Message) (n : Node) (nodes : List Node) → Placed (n ∷ nodes)
    → (x l s : ℕ) → x < length nodes → NumberedBy letters nodes x l s → NumberedBy (letters ++ more) (n ∷ nodes) x l s
numbered_old letters more n nodes placed x l s h b = record {
  msg = b.msg;
  made = append_get letters more l b.msg b.made;
  sender = b.sender;
  receiver = b.receiver ∙ ap (λ z. z.unit) (sym old);
  number = b.number ∙ taken_older n nodes (placed_older n nodes placed) (node_at nodes x).before (FromUnit b.msg.source)
      (λ p e. let t = before_below nodes (placed_older n nodes placed) x p e in omega arith)
      ∙ ap (λ z. taken (n ∷ nodes) (line (n ∷ nodes) z.before) (FromUnit b.msg.source)) (sym old);
}
  where
    old : node_at (n ∷ nodes) x ≡ node_at nodes x
    old = node_older n nodes x (omega arith)

numbered_more : (letters more : List Message) (n : Node) (nodes : List Node)
    → Placed (n ∷ nodes) → Numbered letters nodes
    → ((l s : ℕ) → n.cause ≡ letter l s → NumberedBy (letters ++ more) (n ∷ nodes) (length nodes) l s)
    → Numbered (letters ++ more) (n ∷ nodes)
numbered_more letters more n nodes placed r new x l s h e = elim (ℕ_discrete x (length nodes)) [
  | yes q ↦ rw q (new l s (ap (λ m. m.cause) (sym (node_newest n nodes x q)) ∙ e))
  | no q ↦ numbered_old letters more
      n nodes placed x l s (omega arith) (r x l s (omega arith) (ap (λ m. m.cause) (sym (node_older n nodes x q)) ∙ e))
]

-- a sum along the line that a unit's next node will have is one along its path
pub line_whole : {nodes : List Node} {table : List Row} {u : ℕ} {m : Member}
    → Placed nodes → SoundMember nodes table u m → (f : ℕ → ℕ)
    → sum_by f (line nodes (slice_get m.path (length m.path - 1))) ≡ sum_by f m.path
line_whole {nodes} {m = m} placed s f =
    let begun = s.begun in let logged = s.logged in
    let r = get_below m.path (length m.path - 1) (omega arith) in
    let size : suc (length m.path - 1) ≡ length m.path = omega arith in
    ap (λ o. sum_by f (line nodes o)) r.1
    ∙ ap (sum_by f) (line_at nodes placed r.0 (s.made (length m.path - 1) r.0 r.1))
    ∙ sum_by-cons f r.0 (line nodes (node_at nodes r.0).before)
    ∙ (let k = sum_line_path placed s f (length m.path - 1) r.0 r.1 in
    let t : f r.0 + sum_by f (line nodes (node_at nodes r.0).before)
    ≡ sum_by f (take (length m.path - 1) m.path) + f r.0 = omega (arith, k) in t)
    ∙ sym (sum_by_push f (take (length m.path - 1) m.path) r.0)
    ∙ ap (sum_by f) (sym (take_more m.path (length m.path - 1) r.0 r.1)
    ∙ ap (λ k. take k m.path) size ∙ take-length m.path)

-- what was received was sent before
pub received_of : {letters : List Message} {nodes : List Node}
    → Placed nodes → Numbered letters nodes → Received letters nodes
received_of {letters} {nodes} placed r x l s h e =
    let b = r x l s h e in
    (b.msg, b.made, let t = sender_below nodes placed x l s e in let k = b.sender in omega arith)

module _ {S : Type 0} (M : Meaning S) where
  -- a change keeps the numbers
  pub numbered_change : {v w : World}
      → Sound v → Numbered (executed M v).letters v.nodes → Change M v w → Numbered (executed M w).letters w.nodes
  numbered_change c r unchanged = r
  numbered_change {v} c r (receives u m cause found up may) =
      numbered_more (executed M v).letters more n v.nodes placed r (taken_letter cause may)
    where
      n : Node
      n = next_node v u m cause

      more : List Message
      more = letters_of (length v.nodes) u (λ t. count_along (executed M v).sends t (line v.nodes n.before)) []
          (sends_within (length v.members) (turn_after M m.seat (executed M v) n.before cause))

      placed : Placed (n ∷ v.nodes)
      placed = (sound_change M c (receives u m cause found up may)).placed

      new : node_at (n ∷ v.nodes) (length v.nodes) ≡ n
      new = node_newest n v.nodes (length v.nodes) refl

      taken_letter : (k : Cause) → MayTake M v u m k
          → (l s : ℕ) → k ≡ letter l s → NumberedBy ((executed M v).letters ++ more) (n ∷ v.nodes) (length v.nodes) l s
      taken_letter k (from_outside text) l s e = absurd (cc e)
      taken_letter k (from_letter l msg made to b o few number) l' s e =
          let is : l ≡ l' = cc in
          let from : msg.sender ≡ s = cc in
          record {
            msg = msg;
            made =
                append_get (executed M v).letters more l' msg (ap (slice_get (executed M v).letters) (sym is) ∙ made);
            sender = from;
            receiver = to ∙ ap (λ z. z.unit) (sym new);
            number = number
                ∙ sym (line_whole c.placed (c.units u m found)
                (λ x. cond (is_from (FromUnit msg.source) (source_of v.nodes (node_at v.nodes x).cause)) 1 0))
                ∙ taken_older n v.nodes
                c.placed n.before (FromUnit msg.source) (λ p q. (c.units u m found).made (length m.path - 1) p q)
                ∙ ap (λ z. taken (n ∷ v.nodes) (line (n ∷ v.nodes) z.before) (FromUnit msg.source)) (sym new);
          }
  numbered_change c r (flushes u k m found h) = r
  numbered_change c r (dies u m found) = r
  numbered_change c r (goes_back u m found room) = r
  numbered_change c r (learns u m found h) = r
  numbered_change c r (releases u m found) = r
  numbered_change {v} c r (joins kind room) =
      let n = beginning (new_seat (length v.members + 1) v kind) (length v.members + 1) in
      numbered_more (executed M v).letters
      [] n v.nodes (sound_change M c (joins kind room)).placed r (λ l s q. absurd (cc q))
