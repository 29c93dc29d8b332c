-- What is left of letters whose contents are forgotten.
use Rattle.std.proofs.Common.{◌≡◌, refl, ◌∙◌, sym, ap, ℕ, zero, suc, ◌+◌, ◌-◌, ◌<◌, ◌≤◌, List, [], inl, inr}
use Rattle.std.proofs.Common.{◌∷◌, ◌++◌, length, map, arith}
use Rattle.std.proofs.lemmas.List.{length-map, set-append_right}
use Rattle.std.specs.List.{filter}
use Rattle.theory.proofs.ListLaws.{bool_cases}
use Rattle.theory.proofs.Simulation.{drop_at}
use Rattle.std.specs.Prelude.{◌==◌, None, Option, Some, cond, drop, false, is_none, is_some, slice_get, slice_set, true}
use Rattle.std.proofs.lemmas.Option.{same_Some}
use Rattle.compact.specs.Compact.{CompactLetter, Content}
use Rattle.compact.specs.Forgetting.{without_content}
use Rattle.unit_steps.specs.SentLetters.{front, is_spent_to, is_whole_to, spent_letter, spent_of}
use Rattle.spent_letters.specs.declared.letter.SpentLetter.{SpentLetter}

-- One of them has no content to give up.
pub front_stays : (xs : List SpentLetter) (rest : List CompactLetter) (n : ℕ) (c : CompactLetter) → n < length xs
    → slice_get (map spent_letter xs ++ rest) n ≡ Some c
    → map spent_letter xs ++ rest ≡ slice_set (map spent_letter xs ++ rest) n (without_content c)
front_stays [] rest n c h e = absurd (omega (arith, h))
front_stays (x ∷ xs) rest zero c h e =
    ap (λ (d : CompactLetter). without_content d ∷ map spent_letter xs ++ rest) (same_Some (spent_letter x) c e)
front_stays (x ∷ xs) rest (suc n) c h e =
    ap (λ l. spent_letter x ∷ l) (front_stays xs rest n c (omega (arith, h)) e)

-- One behind them is one of the rest.
pub rest_at : (xs : List SpentLetter) (rest : List CompactLetter) (n : ℕ) → length xs ≤ n
    → slice_get (map spent_letter xs ++ rest) n ≡ slice_get rest (n - length xs)
rest_at [] rest n h = ap (slice_get rest) (let t : n ≡ n - 0 = omega (arith) in t)
rest_at (x ∷ xs) rest zero h = absurd (omega (arith, h))
rest_at (x ∷ xs) rest (suc n) h =
    rest_at xs rest n (omega (arith, h))
    ∙ ap (slice_get rest) (let t : n - length xs ≡ suc n - suc (length xs) = omega (arith) in t)

-- and so it is set
pub rest_set : (xs : List SpentLetter) (rest : List CompactLetter) (n : ℕ) (c : CompactLetter) → length xs ≤ n
    → slice_set (map spent_letter xs ++ rest) n c ≡ map spent_letter xs ++ slice_set rest (n - length xs) c
rest_set xs rest n c h =
    set-append_right (map spent_letter xs) rest (length xs) n c (length-map xs spent_letter) h

-- those of a unit are those at the front, and those of the rest
pub spent_counted : (u : ℕ) (xs : List SpentLetter) (rest : List CompactLetter)
    → length (filter (λ s. is_spent_to u (spent_letter s)) xs) + length (filter (is_spent_to u) rest)
    ≡ length (filter (is_spent_to u) (map spent_letter xs ++ rest))
spent_counted u [] rest = omega (arith)
spent_counted u (x ∷ xs) rest = elim (bool_cases (is_spent_to u (spent_letter x))) [
  | inl e ↦ rw e (let t = spent_counted u xs rest in omega (arith, t))
  | inr e ↦ rw e (spent_counted u xs rest)
]

-- None at the front has its content.
pub whole_counted : (u : ℕ) (xs : List SpentLetter) (rest : List CompactLetter)
    → filter (is_whole_to u) rest ≡ filter (is_whole_to u) (map spent_letter xs ++ rest)
whole_counted u [] rest = refl
whole_counted u (x ∷ xs) rest = elim (bool_cases (x.receiver == u)) [
  | inl e ↦ rw e (whole_counted u xs rest)
  | inr e ↦ rw e (whole_counted u xs rest)
]

-- ---- the letters at the front whose contents are forgotten

-- They are those that are packed, where none follows them.
pub front_is : (xs : List SpentLetter) (rest : List CompactLetter) → front rest ≡ []
    → xs ≡ front (map spent_letter xs ++ rest)
unfolding front
front_is [] rest e = sym e
front_is (x ∷ xs) rest e = ap (λ (l : List SpentLetter). x ∷ l) (front_is xs rest e)

-- A letter to stand where there is none.
pub blank : CompactLetter
blank = record { source = 0; receiver = 0; content = None }

-- what is kept of it
abbrev kept : CompactLetter → SpentLetter
kept c = record { source = c.source; receiver = c.receiver }

ended : (c : CompactLetter) (l : List SpentLetter) → None ≡ spent_of c → cond (is_none c.content) (kept c ∷ l) [] ≡ []
ended c l is = elim (bool_cases (is_none c.content)) [
  | inl e ↦ let t : None ≡ Some (kept c) = is ∙ ap (λ b. cond b (Some (kept c)) None) e in cc
  | inr e ↦ rw e refl
]

added : (c : CompactLetter) (s : SpentLetter) (l : List SpentLetter) → Some s ≡ spent_of c
    → cond (is_none c.content) (kept c ∷ l) [] ≡ s ∷ l
added c s l is = elim (bool_cases (is_none c.content)) [
  | inl e ↦
      let t : Some s ≡ Some (kept c) = is ∙ ap (λ b. cond b (Some (kept c)) None) e in
      rw e (ap (λ (x : SpentLetter). x ∷ l) (sym (same_Some s (kept c) t)))
  | inr e ↦ let t : Some s ≡ None = is ∙ ap (λ b. cond b (Some (kept c)) None) e in cc
]

whole : (o : Option Content) (l : List SpentLetter) → is_some o ≡ true → cond (is_none o) l [] ≡ []
whole None l e = cc
whole (Some x) l e = refl

-- One that has its content ends them.
pub front_ends : (cs : List CompactLetter) (n : ℕ) (c : CompactLetter) → slice_get cs n ≡ Some c → None ≡ spent_of c
    → front (drop n cs) ≡ []
unfolding front
front_ends cs n c at is = ap front (drop_at cs n c at) ∙ ended c (front (drop (suc n) cs)) is

-- One that has none is the next of them.
pub front_more : (cs : List CompactLetter) (n : ℕ) (c : CompactLetter) (s : SpentLetter) → slice_get cs n ≡ Some c
    → Some s ≡ spent_of c → front (drop n cs) ≡ s ∷ front (drop (n + 1) cs)
unfolding front
front_more cs n c s at is =
    ap front (drop_at cs n c at)
    ∙ added c s (front (drop (suc n) cs)) is
    ∙ ap (λ k. s ∷ front (drop k cs)) (let k : suc n ≡ n + 1 = omega (arith) in k)

-- There is none where the first letter has its content, or there is no letter.
pub front_none : (cs : List CompactLetter)
    → ((c : CompactLetter) → slice_get cs 0 ≡ Some c → is_some c.content ≡ true) → front cs ≡ []
unfolding front
front_none [] h = refl
front_none (c ∷ cs) h = whole c.content (kept c ∷ front cs) (h c refl)

pub none_left : (cs : List CompactLetter) → (0 < length cs → false ≡ true) → front cs ≡ []
unfolding front
none_left [] h = refl
none_left (c ∷ cs) h = let t = h (omega (arith)) in cc

-- ---- how many are to a unit

pub counted_more : (u : ℕ) (xs : List SpentLetter) (n : ℕ) (x : SpentLetter) → slice_get xs n ≡ Some x
    → is_spent_to u (spent_letter x) ≡ true
    → 1 + length (filter (λ s. is_spent_to u (spent_letter s)) (drop (n + 1) xs))
    ≡ length (filter (λ s. is_spent_to u (spent_letter s)) (drop n xs))
counted_more u xs n x at is =
    let step : n + 1 ≡ suc n = omega (arith) in
    rw step (rw (drop_at xs n x at) (rw is (let e : (k : ℕ) → 1 + k ≡ suc k = λ k. omega (arith) in e _)))

pub counted_same : (u : ℕ) (xs : List SpentLetter) (n : ℕ) (x : SpentLetter) → slice_get xs n ≡ Some x
    → is_spent_to u (spent_letter x) ≡ false
    → length (filter (λ s. is_spent_to u (spent_letter s)) (drop (n + 1) xs))
    ≡ length (filter (λ s. is_spent_to u (spent_letter s)) (drop n xs))
counted_same u xs n x at is =
    let step : n + 1 ≡ suc n = omega (arith) in
    rw step (rw (drop_at xs n x at) (rw is refl))
