-- The text of each reply, part by part.
use Rattle.std.proofs.Common.{◌≡◌, ◌∙◌, ap, sym, refl, ℕ, List, [], ◌∷◌, ◌++◌, append_assoc, append-nil, codes, decimal}
use Rattle.std.proofs.Common.{Bool, true, false}
use Rattle.std.specs.Prelude.{Some, None}
use Rattle.json.specs.Token.{string}
use Rattle.json.specs.Print.{escape_byte, quoted, print, print_from}
use Rattle.serde_json.specs.Written.{compact_text, items_text}
use Rattle.model.specs.Refusals.{refusal_name}
use Rattle.model.specs.declared.names.Mark.{Mark}
use Rattle.model.specs.declared.names.Start.{Start}
use Rattle.model.specs.declared.refusals.Refusal.{Refusal}
use Rattle.model.specs.declared.refusals.Refusal.TheVariants.{BadLine, NoTenant, AlreadyOpen, BadOpen, NoUnit, Down, Up}
use Rattle.model.specs.declared.refusals.Refusal.TheVariants.{NoLetter, Wait, Orphan, Repeat, Gap, Quota, TooMuch}
use Rattle.model.specs.declared.refusals.Refusal.TheVariants.{Unlogged, Limit, Store, Memory, Pending}
use Rattle.model.specs.declared.replies.Reply.TheVariants.{Opened, Joined, Accepted, Flushed, Checkpointed, Killed}
use Rattle.model.specs.declared.replies.Reply.TheVariants.{Restarted, Noticed, Released, Status, Stopped, Refused}
use Rattle.quick_forms.specs.Words.{up_text}
use Rattle.forms.specs.Writing.{data_text, reply_text, pair, wholes, texts}

-- a string that is written alone
pub one_string : (s : List ℕ) → print (string s ∷ []) ≡ quoted s
unfolding print_from
one_string s = append-nil (quoted s)

-- The reply to an opening is written with the count of its units.
pub opened_text : (n : ℕ) → reply_text (Opened n) ≡ codes "{\"ok\":\"open\",\"units\":" ++ (decimal n ++ codes "}")
unfolding data_text escape_byte
opened_text n = refl

-- The reply to a join is written with the new unit's number.
pub joined_text : (n : ℕ) → reply_text (Joined n) ≡ codes "{\"ok\":\"join\",\"unit\":" ++ (decimal n ++ codes "}")
unfolding data_text escape_byte
joined_text n = refl

-- The reply to a flush is written with the count of its records.
pub flushed_text : (n : ℕ) → reply_text (Flushed n) ≡ codes "{\"count\":" ++ (decimal n ++ codes ",\"ok\":\"flush\"}")
unfolding data_text escape_byte
flushed_text n = refl

-- The reply to a kill is written with the count of the intervals that were lost.
pub killed_text : (n : ℕ) → reply_text (Killed n) ≡ codes "{\"lost\":" ++ (decimal n ++ codes ",\"ok\":\"kill\"}")
unfolding data_text escape_byte
killed_text n = refl

-- what stands behind the two numbers of a list
pair_text : (a b : ℕ) (rest : List ℕ)
    → compact_text (pair a b) ++ rest ≡ codes "[" ++ (decimal a ++ (codes "," ++ (decimal b ++ (codes "]" ++ rest))))
pair_text a b rest =
    ap (λ (xs : List ℕ). 91 ∷ xs) (append_assoc (decimal a) (44 ∷ (decimal b ++ 93 ∷ [])) rest
    ∙ ap (λ (xs : List ℕ). decimal a ++ 44 ∷ xs) (append_assoc (decimal b) (93 ∷ []) rest))

-- the two numbers of a mark behind some words, before what stands behind it
flat : (w a b rest : List ℕ) → ((w ++ a) ++ (codes "," ++ b)) ++ rest ≡ w ++ (a ++ (codes "," ++ (b ++ rest)))
flat w a b rest = append_assoc (w ++ a) (codes "," ++ b) rest ∙ append_assoc w a (codes "," ++ (b ++ rest))

-- a reply that begins with a mark
at_text : (at : Mark) (rest : List ℕ) → codes "{\"at\":" ++ (compact_text (pair at.incarnation at.index) ++ rest)
    ≡ ((codes "{\"at\":[" ++ decimal at.incarnation) ++ (codes "," ++ decimal at.index)) ++ (codes "]" ++ rest)
at_text at rest =
    ap (λ (xs : List ℕ). codes "{\"at\":" ++ xs) (pair_text at.incarnation at.index rest)
    ∙ sym (flat (codes "{\"at\":[") (decimal at.incarnation) (decimal at.index) (codes "]" ++ rest))

-- The reply to a checkpoint is written with its mark.
pub checkpointed_text : (at : Mark) → reply_text (Checkpointed at)
    ≡ ((codes "{\"at\":[" ++ decimal at.incarnation) ++ (codes "," ++ decimal at.index))
    ++ codes "],\"ok\":\"checkpoint\"}"
unfolding data_text escape_byte
checkpointed_text at = at_text at (codes ",\"ok\":\"checkpoint\"}")

-- The reply to a restart is written with its row.
pub restarted_text : (row : Start) → reply_text (Restarted row)
    ≡ (codes "{\"ok\":\"restart\",\"row\":[" ++ decimal row.incarnation)
    ++ (codes "," ++ (decimal row.index ++ codes "]}"))
unfolding data_text escape_byte
restarted_text row =
    ap (λ (xs : List ℕ). codes "{\"ok\":\"restart\",\"row\":" ++ xs) (pair_text row.incarnation row.index (codes "}"))

-- The reply to a notice that appended a row is written with that row.
pub noticed_row_text : (row : Start) → reply_text (Noticed (Some row))
    ≡ (codes "{\"ok\":\"notice\",\"row\":[" ++ decimal row.incarnation)
    ++ (codes "," ++ (decimal row.index ++ codes "]}"))
unfolding data_text escape_byte
noticed_row_text row =
    ap (λ (xs : List ℕ). codes "{\"ok\":\"notice\",\"row\":" ++ xs) (pair_text row.incarnation row.index (codes "}"))

-- The reply to a notice that appended no row is written with `null` in its place.
pub noticed_none_text : reply_text (Noticed None) ≡ codes "{\"ok\":\"notice\",\"row\":null}"
unfolding data_text escape_byte
noticed_none_text = refl

-- The reply to an accepted receipt is written with its mark, its count of held outputs and its letters.
pub accepted_text : (at : Mark) (held : ℕ) (letters : List ℕ) → reply_text (Accepted at held letters)
    ≡ ((codes "{\"at\":[" ++ decimal at.incarnation) ++ (codes "," ++ decimal at.index))
    ++ ((codes "],\"held\":" ++ decimal held)
    ++ (codes ",\"letters\":[" ++ (items_text false (wholes letters) ++ codes ",\"ok\":\"accepted\"}")))
unfolding data_text escape_byte
accepted_text at held letters =
    at_text at (codes ",\"held\":" ++ (decimal held
    ++ (codes ",\"letters\":[" ++ (items_text false (wholes letters) ++ codes ",\"ok\":\"accepted\"}"))))

-- The reply to a release is written with its outputs.
pub released_text : (outputs : List (List ℕ)) → reply_text (Released outputs)
    ≡ codes "{\"ok\":\"released\",\"outputs\":[" ++ (items_text false (texts outputs) ++ codes "}")
unfolding data_text escape_byte
released_text outputs = refl

-- The reply to a status is written with all its members, in the order of their keys.
pub status_text : (at : Mark) (held known outside released rows stable : ℕ) (up : Bool) (volatile : ℕ)
    → reply_text (Status up at held known outside released rows stable volatile)
    ≡ ((codes "{\"at\":[" ++ decimal at.incarnation) ++ (codes "," ++ decimal at.index))
    ++ ((codes "],\"held\":" ++ decimal held)
    ++ ((codes ",\"known\":" ++ decimal known) ++ ((codes ",\"ok\":\"status\",\"outside\":" ++ decimal outside)
    ++ ((codes ",\"released\":" ++ decimal released)
    ++ ((codes ",\"rows\":" ++ decimal rows) ++ ((codes ",\"stable\":" ++ decimal stable)
    ++ (up_text up ++ (codes ",\"volatile\":" ++ (decimal volatile ++ codes "}")))))))))
unfolding data_text escape_byte up_text
status_text at held known outside released rows stable true volatile =
    at_text at (codes ",\"held\":" ++ (decimal held ++ (codes ",\"known\":" ++ (decimal known
    ++ (codes ",\"ok\":\"status\",\"outside\":" ++ (decimal outside ++ (codes ",\"released\":"
    ++ (decimal released ++ (codes ",\"rows\":" ++ (decimal rows ++ (codes ",\"stable\":" ++ (decimal stable
    ++ (up_text true ++ (codes ",\"volatile\":" ++ (decimal volatile ++ codes "}")))))))))))))))
status_text at held known outside released rows stable false volatile =
    at_text at (codes ",\"held\":" ++ (decimal held ++ (codes ",\"known\":" ++ (decimal known
    ++ (codes ",\"ok\":\"status\",\"outside\":" ++ (decimal outside ++ (codes ",\"released\":"
    ++ (decimal released ++ (codes ",\"rows\":" ++ (decimal rows ++ (codes ",\"stable\":" ++ (decimal stable
    ++ (up_text false ++ (codes ",\"volatile\":" ++ (decimal volatile ++ codes "}")))))))))))))))

-- the name of a refusal needs no escape
name_text : (r : Refusal) → quoted (refusal_name r) ≡ codes "\"" ++ (refusal_name r ++ codes "\"")
unfolding escape_byte
name_text BadLine = refl
name_text NoTenant = refl
name_text AlreadyOpen = refl
name_text BadOpen = refl
name_text NoUnit = refl
name_text Down = refl
name_text Up = refl
name_text NoLetter = refl
name_text Wait = refl
name_text Orphan = refl
name_text Repeat = refl
name_text Gap = refl
name_text Quota = refl
name_text TooMuch = refl
name_text Unlogged = refl
name_text Limit = refl
name_text Store = refl
name_text Memory = refl
name_text Pending = refl

-- The reply to a step that is refused is written with the refusal's name.
pub refused_text : (r : Refusal) → reply_text (Refused r) ≡ codes "{\"no\":\"" ++ (refusal_name r ++ codes "\"}")
unfolding data_text escape_byte
refused_text r = ap (λ (xs : List ℕ). codes "{\"no\":" ++ (xs ++ codes "}")) (name_text r)
    ∙ ap (λ (xs : List ℕ). codes "{\"no\":\"" ++ xs) (append_assoc (refusal_name r) (codes "\"") (codes "}"))

-- The reply to a flush that ended early is written with its count and the refusal's name.
pub stopped_text : (n : ℕ) (r : Refusal) → reply_text (Stopped n r) ≡ codes "{\"count\":"
    ++ (decimal n ++ (codes ",\"no\":\"" ++ (refusal_name r ++ codes "\"}")))
unfolding data_text escape_byte
stopped_text n r =
    ap (λ (xs : List ℕ). codes "{\"count\":" ++ (decimal n ++ (codes ",\"no\":" ++ (xs ++ codes "}")))) (name_text r)
    ∙ ap (λ (xs : List ℕ). codes "{\"count\":" ++ (decimal n ++ (codes ",\"no\":\"" ++ xs)))
    (append_assoc (refusal_name r) (codes "\"") (codes "}"))
