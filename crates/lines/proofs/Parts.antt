-- What parts of a line make together.
use Rattle.std.proofs.Common.{◌≡◌, ◌≢◌, ◌<◌, ℕ, List, [], ◌∷◌, ◌++◌, length, cond, Bool, true, false, ◌≤◌, eqb}
use Rattle.std.proofs.Common.{eqb-true, subst, Option, Some, None, refl, sym, ap, ◌∙◌, append_assoc, append-nil, ne_eqb}
use Rattle.std.proofs.Common.{arith}
use Rattle.std.proofs.lemmas.List.Elements.{All-nil, All-head, All-tail, All-append}
use Rattle.std.proofs.lemmas.List.{nil_from_length}
use Rattle.std.specs.Prelude.{IfSome}
use Rattle.std.specs.Io.KnownBytes.{Consumes, Keeps, IsAtEnd}
use Rattle.model.specs.declared.limits.TheConstants.{MAX_LINE_BYTES}
use Rattle.lines.specs.Lines.{onto_first, lines_of, IsPart, Holds, LinesRead}
use Rattle.lines.specs.Parts.{TakesPart, IsLineRead}
use Rattle.lines.specs.declared.input.LineRead.TheVariants.{Line, Long, End}

-- An input whose reader shows no bytes is at its end.
pub at_end : (a : Option (List ℕ)) (shown : List ℕ)
    → length shown ≡ 0 → IfSome a (λ xs. length shown ≡ 0 → xs ≡ []) → IsAtEnd a
at_end None shown none h = tt
at_end (Some xs) shown none h = h none

-- ---- lines

-- a part before a line feed is a line
pub lines_of-ended : (text rest : List ℕ) → IsPart text → lines_of (text ++ 10 ∷ rest) ≡ text ∷ lines_of rest
lines_of-ended [] rest part = refl
lines_of-ended (x ∷ xs) rest part =
    ap (λ b. cond b ([] ∷ lines_of (xs ++ 10 ∷ rest)) (onto_first x (lines_of (xs ++ 10 ∷ rest))))
    (ne_eqb x 10 (All-head (λ y. y ≢ 10) x xs part))
    ∙ ap (onto_first x) (lines_of-ended xs rest (All-tail (λ y. y ≢ 10) x xs part))

-- a part that isn't empty is one line
pub lines_of-last : (text : List ℕ) → IsPart text → 0 < length text → lines_of text ≡ text ∷ []
lines_of-last [] part some = absurd (omega arith)
lines_of-last (x ∷ []) part some =
    ap (λ b. cond b ([] ∷ []) ((x ∷ []) ∷ [])) (ne_eqb x 10 (All-head (λ y. y ≢ 10) x [] part))
lines_of-last (x ∷ y ∷ xs) part some =
    ap (λ b. cond b ([] ∷ lines_of (y ∷ xs)) (onto_first x (lines_of (y ∷ xs))))
    (ne_eqb x 10 (All-head (λ y. y ≢ 10) x (y ∷ xs) part))
    ∙ ap (onto_first x) (lines_of-last (y ∷ xs) (All-tail (λ y. y ≢ 10) x (y ∷ xs) part) (omega arith))

-- No bytes are a part of a line.
pub IsPart-nil : IsPart []
IsPart-nil = All-nil (λ x. x ≢ 10)

-- Two parts of a line, one behind the other, are a part of a line.
pub IsPart-append : (a b : List ℕ) → IsPart a → IsPart b → IsPart (a ++ b)
IsPart-append a b p q = All-append (λ x. x ≢ 10) a b p q

-- what was read up to a line feed is a line
pub LinesRead-ended : (a c : Option (List ℕ)) (text : List ℕ)
    → IsPart text → Consumes a c (text ++ 10 ∷ []) → LinesRead a c (text ∷ [])
LinesRead-ended None c text part h = tt
LinesRead-ended (Some x) None text part h = absurd h
LinesRead-ended (Some x) (Some y) text part h =
    (ap lines_of (h ∙ append_assoc text (10 ∷ []) y) ∙ lines_of-ended text y part, (text ++ 10 ∷ [], h))

-- what was read up to the end is the last line
pub LinesRead-last : (a b c : Option (List ℕ)) (text : List ℕ)
    → IsPart text → 0 < length text → Consumes a b text → IsAtEnd b → Keeps b c → LinesRead a c (text ∷ [])
LinesRead-last None b c text part some h e k = tt
LinesRead-last (Some x) None c text part some h e k = absurd h
LinesRead-last (Some x) (Some y) None text part some h e k = absurd k
LinesRead-last (Some x) (Some y) (Some z) text part some h e k =
    let none : z ≡ [] = k ∙ e in (
      ap lines_of (h ∙ ap (λ l. text ++ l) e ∙ append-nil text)
          ∙ lines_of-last text part some ∙ sym (ap (λ l. text ∷ lines_of l) none),
      (text, h ∙ ap (λ l. text ++ l) (sym k)),
    )

-- an input of which nothing was read before its end
pub IsAtEnd-unread : (a b : Option (List ℕ)) → Consumes a b [] → IsAtEnd b → IsAtEnd a
IsAtEnd-unread None b h e = tt
IsAtEnd-unread (Some x) None h e = absurd h
IsAtEnd-unread (Some x) (Some y) h e = h ∙ e

-- what was kept since nothing was read
Keeps-unread : (a b c : Option (List ℕ)) → Consumes a b [] → Keeps b c → Keeps a c
Keeps-unread None b c h k = tt
Keeps-unread (Some x) None c h k = absurd h
Keeps-unread (Some x) (Some y) None h k = absurd k
Keeps-unread (Some x) (Some y) (Some z) h k = k ∙ sym h

-- nothing is a part of a line
pub TakesPart-none : (a b : Option (List ℕ)) → Keeps a b → TakesPart a b
TakesPart-none None b k = ([], IsPart-nil, tt)
TakesPart-none (Some x) None k = absurd k
TakesPart-none (Some x) (Some y) k = ([], IsPart-nil, sym k)

-- a part, and then nothing
pub TakesPart-kept : (a b c : Option (List ℕ)) → TakesPart a b → Keeps b c → TakesPart a c
TakesPart-kept None b c p k = (p.0, p.1, tt)
TakesPart-kept (Some x) None c p k = absurd p.2
TakesPart-kept (Some x) (Some y) None p k = absurd k
TakesPart-kept (Some x) (Some y) (Some z) p k = (p.0, p.1, p.2 ∙ ap (λ l. p.0 ++ l) (sym k))

-- A line that was read is heard as it is held, or as one that is too long.
pub heard_line : (is_long : Bool) (held text : List ℕ) (a c : Option (List ℕ))
    → Holds held is_long text → LinesRead a c (text ∷ []) → IsLineRead (cond is_long Long Line) held a c
heard_line true held text a c h read = (text, h, read)
heard_line false held text a c h read =
    (subst (λ t. length t ≤ MAX_LINE_BYTES) (sym h.0) h.1, subst (λ t. LinesRead a c (t ∷ [])) (sym h.0) read)

heard_none : (none : Bool) (held : List ℕ) (a b c : Option (List ℕ))
    → eqb (length held) 0 ≡ none → length held ≤ MAX_LINE_BYTES
    → IsPart held → Consumes a b held → IsAtEnd b → Keeps b c → IsLineRead (cond none End Line) held a c
heard_none true held a b c is fits part taken ended kept =
    let unread = subst (Consumes a b) (nil_from_length held (eqb-true _ _ is)) taken in
    (IsAtEnd-unread a b unread ended, Keeps-unread a b c unread kept)
heard_none false held a b c is fits part taken ended kept =
    (fits, LinesRead-last a b c held part (some held is) taken ended kept)
  where
    some : (xs : List ℕ) → eqb (length xs) 0 ≡ false → 0 < length xs
    some [] e = absurd cc
    some (x ∷ xs) e = omega arith

-- What is held where the input ends is heard as its last line, or as the end.
pub heard_last : (is_long : Bool) (held text : List ℕ) (a b c : Option (List ℕ))
    → Holds held is_long text → IsPart text → Consumes a b text → IsAtEnd b → Keeps b c
    → IsLineRead (cond is_long Long (cond (eqb (length held) 0) End Line)) held a c
heard_last true held text a b c h part taken ended kept =
    (text, h, LinesRead-last a b c text part (omega arith) taken ended kept)
heard_last false held text a b c h part taken ended kept =
    let is = sym h.0 in
    heard_none _ held a b c refl (subst (λ t. length t ≤ MAX_LINE_BYTES) is h.1)
    (subst IsPart is part) (subst (Consumes a b) is taken) ended kept

-- ---- many lines

-- Of an input that is as it was no lines were read.
pub LinesRead-nil : (a : Option (List ℕ)) → LinesRead a a []
LinesRead-nil None = tt
LinesRead-nil (Some x) = (refl, ([], refl))

-- A line that was read behind others was read with them.
pub LinesRead-more : (a b c : Option (List ℕ)) (ls : List (List ℕ)) (l : List ℕ)
    → LinesRead a b ls → LinesRead b c (l ∷ []) → LinesRead a c (ls ++ l ∷ [])
LinesRead-more None b c ls l p q = tt
LinesRead-more (Some x) None c ls l p q = absurd p
LinesRead-more (Some x) (Some y) None ls l p q = absurd q
LinesRead-more (Some x) (Some y) (Some z) ls l p q = (
  p.0 ∙ ap (λ r. ls ++ r) q.0 ∙ sym (append_assoc ls (l ∷ []) (lines_of z)),
  (p.1.0 ++ q.1.0, p.1.1 ∙ ap (λ r. p.1.0 ++ r) q.1.1 ∙ sym (append_assoc p.1.0 q.1.0 z)),
)

-- Lines that were read up to the end of the input are all of its lines.
pub LinesRead-all : (a b : Option (List ℕ)) (ls : List (List ℕ))
    → LinesRead a b ls → IsAtEnd b → IfSome a (λ all. lines_of all ≡ ls)
LinesRead-all None b ls p e = tt
LinesRead-all (Some x) None ls p e = absurd p
LinesRead-all (Some x) (Some y) ls p e = p.0 ∙ ap (λ r. ls ++ lines_of r) e ∙ append-nil ls
