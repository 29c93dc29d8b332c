-- The value of a reply has no float, and nests three deep at most.
use Rattle.std.proofs.Common.{◌≡◌, ◌≤◌, ℕ, List, [], ◌∷◌, false, Some, None, refl, lit≤}
use Rattle.serde_json.specs.Data.{depth, items_depth}
use Rattle.serde_json.specs.Read.{max_depth}
use Rattle.serde_json.specs.Written.{has_float, items_have_float}
use Rattle.forms.specs.Writing.{wholes, texts, reply_data}
use Rattle.model.specs.declared.replies.Reply.{Reply}
use Rattle.model.specs.declared.replies.Reply.TheVariants.{Opened, Joined, Accepted, Flushed, Checkpointed, Killed}
use Rattle.model.specs.declared.replies.Reply.TheVariants.{Restarted, Noticed, Released, Status, Stopped, Refused}

-- no list of numbers has a float
wholes_plain : (ns : List ℕ) → items_have_float (wholes ns) ≡ false
wholes_plain [] = refl
wholes_plain (n ∷ ns) = wholes_plain ns

-- no list of texts has a float
texts_plain : (ts : List (List ℕ)) → items_have_float (texts ts) ≡ false
texts_plain [] = refl
texts_plain (t ∷ ts) = texts_plain ts

-- no reply has a float
pub has_float-reply : (r : Reply) → has_float (reply_data r) ≡ false
has_float-reply (Opened units) = refl
has_float-reply (Joined unit) = refl
has_float-reply (Accepted at held letters) = rw (wholes_plain letters) refl
has_float-reply (Flushed count) = refl
has_float-reply (Checkpointed at) = refl
has_float-reply (Killed lost) = refl
has_float-reply (Restarted row) = refl
has_float-reply (Noticed None) = refl
has_float-reply (Noticed (Some row)) = refl
has_float-reply (Released outputs) = rw (texts_plain outputs) refl
has_float-reply (Status up at held known outside released rows stable volatile) = refl
has_float-reply (Stopped count refusal) = refl
has_float-reply (Refused refusal) = refl

-- a list of numbers is flat
wholes_flat : (ns : List ℕ) → items_depth (wholes ns) ≡ 0
wholes_flat [] = refl
wholes_flat (n ∷ ns) = rw (wholes_flat ns) refl

-- a list of texts is flat
texts_flat : (ts : List (List ℕ)) → items_depth (texts ts) ≡ 0
texts_flat [] = refl
texts_flat (t ∷ ts) = rw (texts_flat ts) refl

-- no reply nests too deep to be read
pub depth-reply : (r : Reply) → depth (reply_data r) ≤ max_depth
depth-reply (Opened units) = lit≤ tt
depth-reply (Joined unit) = lit≤ tt
depth-reply (Accepted at held letters) = rw (wholes_flat letters) (lit≤ tt)
depth-reply (Flushed count) = lit≤ tt
depth-reply (Checkpointed at) = lit≤ tt
depth-reply (Killed lost) = lit≤ tt
depth-reply (Restarted row) = lit≤ tt
depth-reply (Noticed None) = lit≤ tt
depth-reply (Noticed (Some row)) = lit≤ tt
depth-reply (Released outputs) = rw (texts_flat outputs) (lit≤ tt)
depth-reply (Status up at held known outside released rows stable volatile) = lit≤ tt
depth-reply (Stopped count refusal) = lit≤ tt
depth-reply (Refused refusal) = lit≤ tt
