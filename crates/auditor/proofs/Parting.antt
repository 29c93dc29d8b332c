-- A history parted by tenants, one entry after another.
use Rattle.std.proofs.Common.{◌≡◌, refl, sym, ◌∙◌, ap, subst, ℕ, ◌+◌, ◌<◌, List, [], ◌∷◌, ◌++◌, length, drop, get_or}
use Rattle.std.proofs.Common.{Bool, true, false, cond, append_assoc, add-one, suc}
use Rattle.std.specs.Prelude.{Result, Ok, Err, OnOk, bytes_eq}
use Rattle.std.proofs.lemmas.List.{append-nil}
use Rattle.std.proofs.lemmas.List.Elements.{filter-append}
use Rattle.std.proofs.lemmas.Slice.Eq.{bytes_eq-Decides}
use Rattle.std.proofs.Math.Seq.{drop-cons}
use Rattle.model.specs.Addresses.{addressed}
use Rattle.model.specs.History.{names}
use Rattle.model.specs.declared.replies.Entry.{Entry}
use Rattle.book.proofs.Replays.{same_name}
use Rattle.book.specs.History.{entries_of}
use Rattle.auditor.specs.Parting.{AreOtherPartsSame}

-- what follows from two clauses on `Ok`
pub on_both : {A E P Q R : Type 0} (r : Result A E) → OnOk r P → OnOk r Q → (P → Q → R) → OnOk r R
on_both (Ok a) p q f = f p q
on_both (Err e) p q f = tt

-- One more entry: its tenant has it, and each other has what it had.
module _ (before after : List ℕ → List Entry) (e : Entry)
    (here : after (addressed e.step).0 ≡ before (addressed e.step).0 ++ e ∷ [])
    (others : AreOtherPartsSame (addressed e.step).0 before after) where
  -- Each tenant's part grows by what is its own of the new entry.
  pub one_more : (t : List ℕ) → after t ≡ before t ++ entries_of t (e ∷ [])
  one_more t = go (bytes_eq t (addressed e.step).0) refl
    where
      go : (b : Bool) → bytes_eq t (addressed e.step).0 ≡ b → after t ≡ before t ++ cond b (e ∷ []) []
      go true is =
          subst (λ u. after u ≡ before u ++ e ∷ []) (sym (same_name t (addressed e.step).0 is)) here
      go false is =
          let apart : t ≡ (addressed e.step).0 → ⊥ = λ same. let yes : bytes_eq t (addressed e.step).0 ≡ true =
          (bytes_eq-Decides t (addressed e.step).0).1 same in cc (yes, is) in
          others t apart ∙ sym (append-nil (before t))

-- The part of an entry in front, and that of those after it.
entries-cons : (t : List ℕ) (e : Entry) (h : List Entry)
    → entries_of t (e ∷ h) ≡ entries_of t (e ∷ []) ++ entries_of t h
entries-cons t e h = filter-append (λ (x : Entry). names t x.step) (e ∷ []) h

-- the parts so far, with those of the entries that are left
pub parts_on : (before after : List ℕ → List Entry) (history : List Entry) (i : ℕ) (e : Entry) → i < length history
    → e ≡ get_or history i e
    → ((t : List ℕ) → after t ≡ before t ++ entries_of t (e ∷ []))
    → ((t : List ℕ) → before t ++ entries_of t (drop i history) ≡ entries_of t history)
    → (t : List ℕ) → after t ++ entries_of t (drop (i + 1) history) ≡ entries_of t history
parts_on before after history i e within is more so_far t =
    let next : drop i history ≡ e ∷ drop (i + 1) history =
    rw add-one (drop-cons history i e within ∙ ap (λ (x : Entry). x ∷ drop (suc i) history) (sym is)) in
    ap (λ (l : List Entry). l ++ entries_of t (drop (i + 1) history)) (more t)
    ∙ append_assoc (before t) (entries_of t (e ∷ [])) (entries_of t (drop (i + 1) history))
    ∙ ap (λ (l : List Entry). before t ++ l) (sym (entries-cons t e (drop (i + 1) history))
    ∙ ap (entries_of t) (sym next))
    ∙ so_far t
