-- A tenant's own entries of a history are a history of it alone.
use Rattle.std.proofs.Common.{◌≡◌, refl, sym, ◌∙◌, ap, subst, ℕ, List, [], ◌∷◌, map, Bool, true, false, cond}
use Rattle.std.specs.Prelude.{bytes_eq}
use Rattle.std.specs.List.{filter}
use Rattle.model.specs.Alone.{Event, alone}
use Rattle.model.specs.Handler.{Meaning}
use Rattle.model.specs.History.{IsLegal, names, own, pairs, replies_to}
use Rattle.model.specs.declared.replies.Entry.{Entry}
use Rattle.model.specs.declared.replies.Said.{Said}
use Rattle.model.specs.declared.steps.Step.{Step}
use Rattle.book.specs.History.{entries_of}
use Rattle.book.proofs.Replays.{event_of, event_of_pair, name_of, pair_of, same_name}

-- ---- a list with a test taken twice, and with two tests that no element passes both

filtered_twice : {X : Type 0} (p : X → Bool) (xs : List X) → filter p (filter p xs) ≡ filter p xs
filtered_twice p [] = refl
filtered_twice {X} p (x ∷ xs) = go (p x) refl (filtered_twice p xs)
  where
    go : (b : Bool) → p x ≡ b → filter p (filter p xs) ≡ filter p xs
        → filter p (cond b (x ∷ filter p xs) (filter p xs)) ≡ cond b (x ∷ filter p xs) (filter p xs)
    go true e rest = rw e (ap (λ (ys : List X). x ∷ ys) rest)
    go false e rest = rest

filtered_apart : {X : Type 0} (p q : X → Bool) (xs : List X)
    → ((x : X) → p x ≡ true → q x ≡ false) → filter q (filter p xs) ≡ []
filtered_apart p q [] apart = refl
filtered_apart {X} p q (x ∷ xs) apart = go (p x) refl (filtered_apart p q xs apart)
  where
    go : (b : Bool) → p x ≡ b → filter q (filter p xs) ≡ [] → filter q (cond b (x ∷ filter p xs) (filter p xs)) ≡ []
    go true e rest = rw (apart x e) rest
    go false e rest = rest

-- ---- the lists of a tenant, by its entries

own_by_entries : (t : List ℕ) (h : List Entry) → own t (pairs h) ≡ map event_of (entries_of t h)
own_by_entries t [] = refl
own_by_entries t (e ∷ h) = go (names t e.step) (own_by_entries t h)
  where
    others : List (Step × Said)
    others = filter (λ (p : Step × Said). names t p.0) (pairs h)

    go : (b : Bool) → map event_of_pair others ≡ map event_of (entries_of t h)
        → map event_of_pair (cond b (pair_of e ∷ others) others)
        ≡ map event_of (cond b (e ∷ entries_of t h) (entries_of t h))
    go true rest = ap (λ (events : List Event). event_of e ∷ events) rest
    go false rest = rest

-- its events are those that it has among all
pub own_part : (t : List ℕ) (h : List Entry) → own t (pairs (entries_of t h)) ≡ own t (pairs h)
own_part t h =
    own_by_entries t (entries_of t h)
    ∙ ap (map event_of) (filtered_twice (λ (e : Entry). names t e.step) h)
    ∙ sym (own_by_entries t h)

-- and none of them is another's
none_of_another : (t u : List ℕ) (h : List Entry) → bytes_eq u t ≡ false → entries_of u (entries_of t h) ≡ []
none_of_another t u h differ =
    filtered_apart (λ (e : Entry). names t e.step) (λ (e : Entry). names u e.step) h
    (λ e is. subst (λ n. bytes_eq u n ≡ false) (same_name t (name_of e) is) differ)

module _ {S : Type 0} (M : Meaning S) (t : List ℕ) (h : List Entry) (legal : IsLegal M h) where
  abbrev Answered : List ℕ → Type 0
  Answered u = replies_to u (entries_of t h) ≡ (alone M (own u (pairs (entries_of t h)))).replies

  answered_itself : Answered t
  answered_itself =
      ap (map (λ (e : Entry). e.reply)) (filtered_twice (λ (e : Entry). names t e.step) h)
      ∙ legal t
      ∙ ap (λ (events : List Event). (alone M events).replies) (sym (own_part t h))

  answered_another : (u : List ℕ) → bytes_eq u t ≡ false → Answered u
  answered_another u differ =
      ap (map (λ (e : Entry). e.reply)) (none_of_another t u h differ)
      ∙ ap (λ (events : List Event). (alone M events).replies)
      (sym (own_by_entries u (entries_of t h) ∙ ap (map event_of) (none_of_another t u h differ)))

  -- of a legal history they are a legal one
  pub legal_part : IsLegal M (entries_of t h)
  legal_part u = go (bytes_eq u t) refl
    where
      go : (b : Bool) → bytes_eq u t ≡ b → Answered u
      go true is = subst Answered (sym (same_name u t is)) answered_itself
      go false differ = answered_another u differ
