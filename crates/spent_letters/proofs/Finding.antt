-- The letters of all stretches by their numbers.
use Rattle.std.proofs.Common.{◌≡◌, refl, ◌∙◌, sym, ap, subst, ℕ, suc, ◌+◌, ◌-◌, ◌<◌, ◌≤◌, List, [], ◌∷◌, ◌++◌, inl, inr}
use Rattle.std.proofs.Common.{length, length-append, get_or, arith}
use Rattle.std.specs.Prelude.{Some, reverse, slice_get}
use Rattle.std.proofs.lemmas.List.{length-reverse}
use Rattle.std.proofs.lemmas.Option.{get_or_from_slice_get, slice_get_within}
use Rattle.theory.proofs.ListLaws.{append_get, get_append}
use Rattle.spent_letters.specs.declared.letter.SpentLetter.{SpentLetter}
use Rattle.spent_letters.specs.declared.stretch.TheConstants.{HEAD}
use Rattle.spent_letters.specs.Stretches.{grown, letters_in, AreWhole, Stretch}
use Rattle.spent_letters.proofs.Growing.{grown_length}
use Rattle.spent_letters.proofs.Reversing.{last_first, reverse_more, Ends, ends}

behind : {X : Type 0} (xs ys : List X) (i : ℕ) (x : X) → slice_get ys i ≡ Some x
    → slice_get (xs ++ ys) (length xs + i) ≡ Some x
behind [] ys i x e = ap (slice_get ys) (let t : 0 + i ≡ i = omega (arith) in t) ∙ e
behind (z ∷ zs) ys i x e =
    ap (slice_get (z ∷ zs ++ ys)) (let t : length (z ∷ zs) + i ≡ suc (length zs + i) = omega (arith) in t)
    ∙ behind zs ys i x e

-- The letters of a stretch stand behind those before it.
pub found : (ss : List Stretch) (k i : ℕ) (s : Stretch) (x : SpentLetter) → AreWhole ss
    → slice_get (reverse ss) k ≡ Some s → slice_get (grown s.head s.more) i ≡ Some x
    → slice_get (letters_in ss) (s.start + i) ≡ Some x
unfolding AreWhole letters_in
found [] k i s x w at is = cc
found (t ∷ ss) k i s x w at is =
    let here = ap (λ l. slice_get l k) (sym (reverse_more t ss)) ∙ at in
    elim (get_append (reverse ss) t s k here) [
      | inl h ↦ append_get (letters_in ss) (grown t.head t.more) (s.start + i) x (found ss k i s x w.3 h is)
      | inr h ↦
          let start : s.start + i ≡ length (letters_in ss) + i =
          ap (λ (r : Stretch). r.start + i) h.1 ∙ ap (λ n. n + i) w.0 in
          ap (slice_get (letters_in ss ++ grown t.head t.more)) start
          ∙ behind (letters_in ss) (grown t.head t.more) i x
          (ap (λ (r : Stretch). slice_get (grown r.head r.more) i) (sym h.1) ∙ is)
    ]

-- The last stretch ends where all end.
pub last_end : (ss : List Stretch) (k : ℕ) (s : Stretch) → AreWhole ss → slice_get (reverse ss) k ≡ Some s
    → suc k ≡ length ss → length (letters_in ss) ≡ s.start + (HEAD + s.more)
unfolding AreWhole letters_in
last_end [] k s w at e = cc
last_end (t ∷ ss) k s w at e =
    let here = ap (λ l. slice_get l k) (sym (reverse_more t ss)) ∙ at in
    elim (get_append (reverse ss) t s k here) [
      | inl h ↦
          let within = slice_get_within (reverse ss) k s h in
          let long = length-reverse ss in
          absurd (omega (arith, within, long, e))
      | inr h ↦
          length-append (letters_in ss) (grown t.head t.more)
          ∙ ap (λ n. length (letters_in ss) + n) (grown_length t.head t.more w.1)
          ∙ ap (λ n. n + (HEAD + t.more)) (sym w.0)
          ∙ ap (λ (r : Stretch). r.start + (HEAD + r.more)) (sym h.1)
    ]

-- Each other one ends where the next one begins.
pub next_start : (ss : List Stretch) (k : ℕ) (s t : Stretch) → AreWhole ss → slice_get (reverse ss) k ≡ Some s
    → slice_get (reverse ss) (suc k) ≡ Some t → t.start ≡ s.start + (HEAD + s.more)
unfolding AreWhole letters_in
next_start [] k s t w at after = cc
next_start (u ∷ ss) k s t w at after =
    let here = get_append (reverse ss) u s k (ap (λ l. slice_get l k) (sym (reverse_more u ss)) ∙ at) in
    let there = get_append (reverse ss) u t (suc k) (ap (λ l. slice_get l (suc k)) (sym (reverse_more u ss)) ∙ after) in
    let long = length-reverse ss in
    elim there [
      | inl h ↦ elim here [
        | inl g ↦ next_start ss k s t w.3 g h
        | inr g ↦
            let within = slice_get_within (reverse ss) (suc k) t h in
            let at_end = g.0 in
            absurd (omega (arith, within, at_end))
      ]
      | inr h ↦ elim here [
        | inl g ↦ ap (λ (r : Stretch). r.start) h.1 ∙ w.0 ∙ last_end ss k s w.3 g (h.0 ∙ long)
        | inr g ↦
            let a = g.0 in
            let b = h.0 in
            absurd (omega (arith, a, b))
      ]
    ]

none_reversed : (ss : List Stretch) → 0 ≡ length (reverse ss) → ss ≡ []
none_reversed [] e = refl
none_reversed (s ∷ ss) e = let long = length-reverse (s ∷ ss) in absurd (omega (arith, e, long))

-- The first one begins at 0.
pub first_start : (ss : List Stretch) (s : Stretch) → AreWhole ss → slice_get (reverse ss) 0 ≡ Some s → s.start ≡ 0
unfolding AreWhole letters_in
first_start [] s w at = cc
first_start (t ∷ ss) s w at =
    let here = ap (λ l. slice_get l 0) (sym (reverse_more t ss)) ∙ at in
    elim (get_append (reverse ss) t s 0 here) [
      | inl h ↦ first_start ss s w.3 h
      | inr h ↦ ap (λ (r : Stretch). r.start) h.1 ∙ w.0 ∙ ap (λ l. length (letters_in l)) (none_reversed ss h.0)
    ]

first_within : (s : Stretch) (ss : List Stretch) → AreWhole (s ∷ ss) → HEAD + s.more ≤ length (letters_in (s ∷ ss))
unfolding AreWhole letters_in
first_within s ss w =
    let long = length-append (letters_in ss) (grown s.head s.more) in
    let own = grown_length s.head s.more w.1 in
    omega (arith, long, own)

-- As many as the last one has are no more than all.
pub last_within : (xs : List Stretch) (s : Stretch) → AreWhole (reverse xs) → slice_get xs (length xs - 1) ≡ Some s
    → HEAD + s.more ≤ length (letters_in (reverse xs))
last_within xs s w at =
    let e : Ends xs s = ends xs s at in
    subst (λ l. AreWhole l → HEAD + s.more ≤ length (letters_in l)) (sym (last_first xs s e))
    (first_within s (reverse e.front)) w

pub some_letters : (xs : List Stretch) (n : ℕ) → n < length (letters_in (reverse xs)) → 0 < length xs
unfolding letters_in
some_letters [] n h = absurd (omega (arith, h))
some_letters (x ∷ xs) n h = omega (arith)

pub middle_is : (xs : List Stretch) (k : ℕ) (s r : Stretch) → slice_get xs k ≡ Some s → r ≡ get_or xs k r → r ≡ s
middle_is xs k s r at is = is ∙ get_or_from_slice_get xs k s r at
