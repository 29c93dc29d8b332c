-- Letters in stretches.
use Rattle.std.proofs.Common.{◌≡◌, refl, sym, ◌∙◌, ap, subst, ℕ, zero, suc, ◌+◌, ◌<◌, ◌≤◌, ◌^◌, List, [], ◌∷◌, ◌++◌}
use Rattle.std.proofs.Common.{arith, drop, length, length-append, reverse, take}
use Rattle.std.specs.Prelude.{true}
use Rattle.std.specs.Option.{option_to_list}
use Rattle.std.proofs.lemmas.List.{reverse-append, take-append-drop}
use Rattle.theory.proofs.ListLaws.{true_eq}
use Rattle.codec.specs.Codes.{AllFit}
use Rattle.codec.specs.Layers.{FitsSpent, FitsStretch}
use Rattle.codec.proofs.Fits.{fit_append, fit_at, fit_left, fit_right}
use Rattle.spent_letters.specs.declared.letter.SpentLetter.{SpentLetter}
use Rattle.spent_letters.specs.declared.stretch.TheConstants.{HEAD}
use Rattle.spent_letters.specs.Stretches.{after, follows, grown, letters_in, packed, AreWhole, Stretch}
use Rattle.spent_letters.proofs.Growing.{grown_length}
use Rattle.spent_letters.proofs.Packing.{whole_back}
use Rattle.spent_letters.proofs.Periods.{after_is}

-- ---- all of them fit

fit_grown : (head : List SpentLetter) (more : ℕ) → length head ≡ HEAD → AllFit FitsSpent head
    → AllFit FitsSpent (grown head more)
unfolding grown
fit_grown head zero h a = a
fit_grown head (suc more) h a =
    let next = after_is head more h in
    fit_append FitsSpent (grown head more) (option_to_list (after head more)) (fit_grown head more h a)
    (subst (λ o. AllFit FitsSpent (option_to_list o)) (sym next) (fit_at FitsSpent head _ _ a next, tt))

grown_fit : (head : List SpentLetter) (more : ℕ) → AllFit FitsSpent (grown head more) → AllFit FitsSpent head
unfolding grown
grown_fit head zero a = a
grown_fit head (suc more) a =
    grown_fit head more (fit_left FitsSpent (grown head more) (option_to_list (after head more)) a)

-- Where the stretches fit, so do their letters,
pub letters_fit : (ss : List Stretch) → AreWhole ss → AllFit FitsStretch ss → AllFit FitsSpent (letters_in ss)
unfolding AreWhole letters_in
letters_fit [] w a = tt
letters_fit (s ∷ ss) w a =
    fit_append FitsSpent (letters_in ss) (grown s.head s.more) (letters_fit ss w.3 a.1)
    (fit_grown s.head s.more w.1 a.0.0.0)

-- and the other way round,
pub stretches_fit : (ss : List Stretch) → AreWhole ss → AllFit FitsSpent (letters_in ss)
    → length (letters_in ss) < 2 ^ 64 → AllFit FitsStretch ss
unfolding AreWhole letters_in
stretches_fit [] w a few = tt
stretches_fit (s ∷ ss) w a few =
    let all = length-append (letters_in ss) (grown s.head s.more) in
    let own = grown_length s.head s.more w.1 in
    let head = w.1 in (
      (
        (grown_fit s.head s.more (fit_right FitsSpent (letters_in ss) (grown s.head s.more) a), omega (arith, head)),
        omega (arith, all, own, few),
      ),
      stretches_fit ss w.3 (fit_left FitsSpent (letters_in ss) (grown s.head s.more) a) (omega (arith, all, few)),
    )

-- and there are no more stretches than letters.
pub few_stretches : (ss : List Stretch) → AreWhole ss → length ss ≤ length (letters_in ss)
unfolding AreWhole letters_in
few_stretches [] w = omega (arith)
few_stretches (s ∷ ss) w =
    let all = length-append (letters_in ss) (grown s.head s.more) in
    let own = grown_length s.head s.more w.1 in
    let rest = few_stretches ss w.3 in
    omega (arith, all, own, rest)

-- ---- one after the other

whole_behind : (xs ys : List Stretch) → AreWhole (xs ++ ys) → AreWhole ys
unfolding AreWhole
whole_behind [] ys w = w
whole_behind (x ∷ xs) ys w = whole_behind xs ys w.3

-- The first ones of stretches that are whole are whole,
pub whole_first : (vs : List Stretch) (k : ℕ) → AreWhole (reverse vs) → AreWhole (reverse (take k vs))
whole_first vs k w =
    whole_behind (reverse (drop k vs)) (reverse (take k vs))
    (subst AreWhole (ap reverse (sym (take-append-drop k vs)) ∙ reverse-append (take k vs) (drop k vs)) w)

first_follows : (ss : List Stretch) (s : Stretch) → AreWhole (s ∷ ss)
    → follows (record { stretches = ss; tail = [] }) s.head ≡ true
unfolding AreWhole
first_follows ss s w = rw (true_eq (length s.head) HEAD w.1) (rw w.2 refl)

-- the next one follows them,
pub follows_at : (vs : List Stretch) (k : ℕ) (s : Stretch) → AreWhole (reverse vs)
    → take (k + 1) vs ≡ take k vs ++ s ∷ []
    → follows (packed (letters_in (reverse (take k vs)))) s.head ≡ true
follows_at vs k s w e =
    ap (λ p. follows p s.head) (whole_back (reverse (take k vs)) (whole_first vs k w))
    ∙ first_follows (reverse (take k vs)) s
    (subst AreWhole (ap reverse e ∙ reverse-append (take k vs) (s ∷ [])) (whole_first vs (k + 1) w))

-- and adds its letters.
pub letters_more : (vs : List Stretch) (k : ℕ) (s : Stretch) → take (k + 1) vs ≡ take k vs ++ s ∷ []
    → letters_in (reverse (take (k + 1) vs)) ≡ letters_in (reverse (take k vs)) ++ grown s.head s.more
unfolding letters_in
letters_more vs k s e = ap (λ l. letters_in (reverse l)) e ∙ ap letters_in (reverse-append (take k vs) (s ∷ []))
