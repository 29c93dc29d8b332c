-- A letter more, and the stretches of a list.
use Rattle.std.proofs.Common.{◌≡◌, refl, ◌∙◌, sym, ap, ℕ, zero, suc, ◌+◌, ◌<◌, List, [], ◌∷◌, ◌++◌}
use Rattle.std.proofs.Common.{inl, inr, length, length-append, get_or, reverse, arith}
use Rattle.std.specs.Prelude.{◌==◌, ◌&&◌, ◌≢◌, Bool, Option, not, true, false, None, Some}
use Rattle.std.specs.Option.{option_to_list}
use Rattle.std.specs.List.{fold}
use Rattle.std.proofs.lemmas.Grind.{fold-append}
use Rattle.std.proofs.lemmas.List.{append-nil, append_assoc}
use Rattle.theory.proofs.ListLaws.{and_both, bool_cases, different, eq_true, not_true, true_eq}
use Rattle.spent_letters.specs.declared.letter.SpentLetter.{SpentLetter}
use Rattle.spent_letters.specs.declared.stretch.TheConstants.{HEAD}
use Rattle.spent_letters.specs.Stretches.{after, follows, grown, lengthened, letters_in, letters_of, packed, pushed}
use Rattle.spent_letters.specs.Stretches.{put_apart}
use Rattle.spent_letters.specs.Stretches.{tells, tells_first, told, with_stretch, AreWhole, IsPacked, Packed, Stretch}
use Rattle.spent_letters.proofs.Periods.{after_is, is_same, same_is}

-- ---- the letters of a letter more

told_is : (o : Option SpentLetter) (x : SpentLetter) → told o x ≡ true → option_to_list o ≡ x ∷ []
unfolding told
told_is None x e = cc
told_is (Some y) x e = ap (λ z. z ∷ []) (same_is y x e)

-- What the last stretch has next is one more of it.
lengthened_letters : (ss : List Stretch) (x : SpentLetter) → tells ss x ≡ true
    → letters_in (lengthened ss) ≡ letters_in ss ++ x ∷ []
unfolding letters_in lengthened grown tells
lengthened_letters [] x e = cc
lengthened_letters (s ∷ ss) x e =
    ap (λ n. letters_in ss ++ grown s.head n) (let t : s.more + 1 ≡ suc s.more = omega (arith) in t)
    ∙ ap (λ l. letters_in ss ++ (grown s.head s.more ++ l)) (told_is (after s.head s.more) x e)
    ∙ sym (append_assoc (letters_in ss) (grown s.head s.more) (x ∷ []))

empty_is : {X : Type 0} (xs : List X) → (length xs == 0) ≡ true → xs ≡ []
empty_is [] e = refl
empty_is (x ∷ xs) e = let t = eq_true (length (x ∷ xs)) 0 e in absurd (omega (arith, t))

apart_letters : (p : Packed) (x : SpentLetter) → letters_of (put_apart p x) ≡ letters_of p ++ x ∷ []
unfolding letters_in grown
apart_letters p x = elim (bool_cases (length p.tail + 1 == HEAD)) [
  | inl e ↦ rw e (
      append-nil (letters_in p.stretches ++ (p.tail ++ x ∷ []))
      ∙ sym (append_assoc (letters_in p.stretches) p.tail (x ∷ [])))
  | inr e ↦ rw e (sym (append_assoc (letters_in p.stretches) p.tail (x ∷ [])))
]

-- One letter more stands at the end.
pub pushed_letters : (p : Packed) (x : SpentLetter) → letters_of (pushed p x) ≡ letters_of p ++ x ∷ []
pushed_letters p x = elim (bool_cases ((length p.tail == 0) && tells p.stretches x)) [
  | inl e ↦ rw e (
      let both = and_both (length p.tail == 0) (tells p.stretches x) e in
      append-nil (letters_in (lengthened p.stretches))
      ∙ lengthened_letters p.stretches x both.1
      ∙ ap (λ l. l ++ x ∷ []) (sym (append-nil (letters_in p.stretches))
      ∙ ap (λ t. letters_in p.stretches ++ t) (sym (empty_is p.tail both.0))))
  | inr e ↦ rw e (apart_letters p x)
]

-- ---- what stretches stay

pub lengthened_whole : (ss : List Stretch) → AreWhole ss → AreWhole (lengthened ss)
unfolding AreWhole lengthened
lengthened_whole [] w = w
lengthened_whole (s ∷ ss) w = w

first_apart : (ss : List Stretch) (tail : List SpentLetter) (x : SpentLetter) → tells_first ss tail ≡ false
    → ((length tail == 0) && tells ss x) ≡ false → tells_first ss (tail ++ x ∷ []) ≡ false
unfolding tells tells_first
first_apart ss [] x e f = f
first_apart ss (y ∷ ys) x e f = e

shorter : (tail : List SpentLetter) (x : SpentLetter) → length tail < HEAD → (length tail + 1 == HEAD) ≡ false
    → length (tail ++ x ∷ []) < HEAD
shorter tail x h e =
    let long = length-append tail (x ∷ []) in
    let other = different (length tail + 1) HEAD e in
    omega (arith, h, long, other)

apart_packed : (p : Packed) (x : SpentLetter) → IsPacked p → ((length p.tail == 0) && tells p.stretches x) ≡ false
    → IsPacked (put_apart p x)
unfolding AreWhole tells_first
apart_packed p x k f = elim (bool_cases (length p.tail + 1 == HEAD)) [
  | inl e ↦ rw e (record {
    whole = (
      refl,
      length-append p.tail (x ∷ []) ∙ eq_true (length p.tail + 1) HEAD e,
      first_apart p.stretches p.tail x k.apart f,
      k.whole,
    );
    short = omega (arith);
    apart = refl;
  })
  | inr e ↦ rw e (record {
    whole = k.whole;
    short = shorter p.tail x k.short e;
    apart = first_apart p.stretches p.tail x k.apart f;
  })
]

-- With a letter more they are packed.
pub pushed_packed : (p : Packed) (x : SpentLetter) → IsPacked p → IsPacked (pushed p x)
unfolding tells_first
pushed_packed p x k = elim (bool_cases ((length p.tail == 0) && tells p.stretches x)) [
  | inl e ↦ rw e (record { whole = lengthened_whole p.stretches k.whole; short = omega (arith); apart = refl })
  | inr e ↦ rw e (apart_packed p x k e)
]

-- ---- the stretches of a list

pub nothing_packed : IsPacked (record { stretches = []; tail = [] })
unfolding AreWhole tells_first
nothing_packed = record { whole = tt; short = omega (arith); apart = refl }

packed_all : (xs : List SpentLetter) (p : Packed) → IsPacked p
    → IsPacked (fold pushed p xs) × (letters_of (fold pushed p xs) ≡ letters_of p ++ xs)
packed_all [] p k = (k, sym (append-nil (letters_of p)))
packed_all (x ∷ xs) p k =
    let rest = packed_all xs (pushed p x) (pushed_packed p x k) in
    (rest.0, rest.1 ∙ ap (λ l. l ++ xs) (pushed_letters p x) ∙ append_assoc (letters_of p) (x ∷ []) xs)

-- They are packed, and have the letters of the list.
pub packed_is : (xs : List SpentLetter) → IsPacked (packed xs)
unfolding packed
packed_is xs = (packed_all xs (record { stretches = []; tail = [] }) nothing_packed).0

pub packed_letters : (xs : List SpentLetter) → letters_of (packed xs) ≡ xs
unfolding packed letters_in
packed_letters xs = (packed_all xs (record { stretches = []; tail = [] }) nothing_packed).1

-- ---- what is packed is the stretches of its letters

some : (n : ℕ) → (suc n == 0) ≡ false
some n = elim (bool_cases (suc n == 0)) [
  | inl e ↦ let t = eq_true (suc n) 0 e in absurd (omega (arith, t))
  | inr e ↦ e
]

-- A letter that is not told goes behind the stretches.
one_apart : (ss : List Stretch) (t : List SpentLetter) (x : SpentLetter) (xs : List SpentLetter)
    → tells_first ss (t ++ x ∷ xs) ≡ false → ((length t == 0) && tells ss x) ≡ false
unfolding tells tells_first
one_apart ss [] x xs e = e
one_apart ss (y ∷ ys) x xs e = let f : (length (y ∷ ys) == 0) ≡ false = some (length ys) in rw f refl

one_put : (ss : List Stretch) (t : List SpentLetter) (x : SpentLetter) (xs : List SpentLetter)
    → tells_first ss (t ++ x ∷ xs) ≡ false
    → pushed (record { stretches = ss; tail = t }) x ≡ put_apart (record { stretches = ss; tail = t }) x
one_put ss t x xs e = rw (one_apart ss t x xs e) refl

unequal : (n : ℕ) → n < HEAD → (n == HEAD) ≡ false
unequal n h = elim (bool_cases (n == HEAD)) [
  | inl e ↦ (let t = eq_true n HEAD e in absurd (omega (arith, h, t)))
  | inr e ↦ e
]

one_short : (ss : List Stretch) (t : List SpentLetter) (x : SpentLetter) (xs : List SpentLetter)
    → tells_first ss (t ++ x ∷ xs) ≡ false → length t + 1 < HEAD
    → pushed (record { stretches = ss; tail = t }) x ≡ record { stretches = ss; tail = t ++ x ∷ [] }
one_short ss t x xs e h =
    one_put ss t x xs e ∙ (let f : (length t + 1 == HEAD) ≡ false = unequal (length t + 1) h in rw f refl)

tail_back : (ss : List Stretch) (xs t : List SpentLetter) → tells_first ss (t ++ xs) ≡ false
    → length t + length xs < HEAD
    → fold pushed (record { stretches = ss; tail = t }) xs ≡ record { stretches = ss; tail = t ++ xs }
tail_back ss [] t e h = ap (λ l. let p : Packed = record { stretches = ss; tail = l } in p) (sym (append-nil t))
tail_back ss (x ∷ xs) t e h =
    ap (λ p. fold pushed p xs) (one_short ss t x xs e (omega (arith, h)))
    ∙ tail_back ss xs (t ++ x ∷ []) (ap (tells_first ss) (append_assoc t (x ∷ []) xs) ∙ e)
    (let k = length-append t (x ∷ []) in omega (arith, h, k))
    ∙ ap (λ l. let p : Packed = record { stretches = ss; tail = l } in p) (append_assoc t (x ∷ []) xs)

head_back : (ss : List Stretch) (xs t : List SpentLetter) (x : SpentLetter) → tells_first ss (t ++ x ∷ xs) ≡ false
    → length t + length (x ∷ xs) ≡ HEAD
    → fold pushed (record { stretches = ss; tail = t }) (x ∷ xs)
    ≡ record { stretches = with_stretch ss (t ++ x ∷ xs) 0; tail = [] }
head_back ss [] t x e h =
    one_put ss t x [] e
    ∙ (let f : (length t + 1 == HEAD) ≡ true = true_eq (length t + 1) HEAD h in rw f refl)
head_back ss (y ∷ ys) t x e h =
    ap (λ p. fold pushed p (y ∷ ys)) (one_short ss t x (y ∷ ys) e (omega (arith, h)))
    ∙ head_back ss ys (t ++ x ∷ []) y (ap (tells_first ss) (append_assoc t (x ∷ []) (y ∷ ys)) ∙ e)
    (let k = length-append t (x ∷ []) in omega (arith, h, k))
    ∙ ap (λ l. let p : Packed = record { stretches = with_stretch ss l 0; tail = [] } in p)
    (append_assoc t (x ∷ []) (y ∷ ys))

-- as many first letters as are kept in full begin a stretch
begun : (ss : List Stretch) (head : List SpentLetter) → length head ≡ HEAD → tells_first ss head ≡ false
    → fold pushed (record { stretches = ss; tail = [] }) head
    ≡ record { stretches = with_stretch ss head 0; tail = [] }
begun ss [] h e = absurd (omega (arith, h))
begun ss (x ∷ xs) h e = head_back ss xs [] x e (omega (arith, h))

-- A letter that it tells is one more of it,
told_one : (start : ℕ) (ss : List Stretch) (head : List SpentLetter) (more : ℕ) (x : SpentLetter)
    → after head more ≡ Some x
    → pushed (record { stretches = record { start = start; head = head; more = more } ∷ ss; tail = [] }) x
    ≡ record { stretches = record { start = start; head = head; more = suc more } ∷ ss; tail = [] }
unfolding told tells lengthened
told_one start ss head more x e =
    let f : told (after head more) x ≡ true = ap (λ o. told o x) e ∙ is_same x in
    rw f (ap (λ n. let p : Packed = record {
      stretches = record { start = start; head = head; more = n } ∷ ss;
      tail = [];
    } in p) (let t : more + 1 ≡ suc more = omega (arith) in t))

-- and so each.
grown_back : (ss : List Stretch) (head : List SpentLetter) (more : ℕ) → length head ≡ HEAD
    → tells_first ss head ≡ false
    → fold pushed (record { stretches = ss; tail = [] }) (grown head more)
    ≡ record { stretches = with_stretch ss head more; tail = [] }
unfolding grown
grown_back ss head zero h e = begun ss head h e
grown_back ss head (suc more) h e =
    fold-append pushed (record { stretches = ss; tail = [] }) (grown head more) (option_to_list (after head more))
    ∙ ap (λ p. fold pushed p (option_to_list (after head more))) (grown_back ss head more h e)
    ∙ ap (λ o. fold pushed (record {
      stretches = with_stretch ss head more;
      tail = [];
    }) (option_to_list o)) (after_is head more h)
    ∙ told_one (length (letters_in ss)) ss head more _ (after_is head more h)

-- What is whole is the stretches of its letters,
pub whole_back : (ss : List Stretch) → AreWhole ss → packed (letters_in ss) ≡ record { stretches = ss; tail = [] }
unfolding packed letters_in AreWhole
whole_back [] w = refl
whole_back (s ∷ ss) w =
    fold-append pushed (record { stretches = []; tail = [] }) (letters_in ss) (grown s.head s.more)
    ∙ ap (λ p. fold pushed p (grown s.head s.more)) (whole_back ss w.3)
    ∙ grown_back ss s.head s.more w.1 w.2
    ∙ ap (λ n. let p : Packed = record {
      stretches = record { start = n; head = s.head; more = s.more } ∷ ss;
      tail = [];
    } in p) (sym w.0)

-- and so is what is packed.
pub packed_back : (p : Packed) → IsPacked p → packed (letters_of p) ≡ p
unfolding packed
packed_back p k =
    fold-append pushed (record { stretches = []; tail = [] }) (letters_in p.stretches) p.tail
    ∙ ap (λ q. fold pushed q p.tail) (whole_back p.stretches k.whole)
    ∙ tail_back p.stretches p.tail [] k.apart (let h = k.short in omega (arith, h))

-- ---- a stretch more

-- A stretch that can begin behind what is packed is packed with it,
pub more_packed : (p : Packed) (start : ℕ) (head : List SpentLetter) (more : ℕ) → IsPacked p
    → start ≡ length (letters_of p) → follows p head ≡ true
    → IsPacked (record { stretches = record { start = start; head = head; more = more } ∷ p.stretches; tail = p.tail })
unfolding AreWhole tells_first
more_packed p start head more k at f =
    let both = and_both (length head == HEAD) ((length p.tail == 0) && not (tells_first p.stretches head)) f in
    let rest = and_both (length p.tail == 0) (not (tells_first p.stretches head)) both.1 in
    let plain = empty_is p.tail rest.0 in
    record {
      whole = (
        at ∙ ap (λ t. length (letters_in p.stretches ++ t)) plain ∙ ap length (append-nil (letters_in p.stretches)),
        eq_true (length head) HEAD both.0,
        not_true (tells_first p.stretches head) rest.1,
        k.whole,
      );
      short = k.short;
      apart = rw plain refl;
    }

-- and has its letters more.
pub more_letters : (p : Packed) (start : ℕ) (head : List SpentLetter) (more : ℕ) → follows p head ≡ true
    → letters_of (record {
      stretches = record { start = start; head = head; more = more } ∷ p.stretches;
      tail = p.tail;
    })
    ≡ letters_of p ++ grown head more
unfolding letters_in
more_letters p start head more f =
    let both = and_both (length head == HEAD) ((length p.tail == 0) && not (tells_first p.stretches head)) f in
    let rest = and_both (length p.tail == 0) (not (tells_first p.stretches head)) both.1 in
    let plain = empty_is p.tail rest.0 in
    rw plain (
    append-nil (letters_in p.stretches ++ grown head more)
    ∙ ap (λ l. l ++ grown head more) (sym (append-nil (letters_in p.stretches))))

-- ---- why one can't begin

pub not_full : (p : Packed) (head : List SpentLetter) → length head ≢ HEAD → false ≡ follows p head
not_full p head h = elim (bool_cases (length head == HEAD)) [
  | inl e ↦ absurd (h (eq_true (length head) HEAD e))
  | inr e ↦ rw e refl
]

pub not_plain : (p : Packed) (head : List SpentLetter) → length head ≡ HEAD → (length p.tail == 0) ≡ false
    → false ≡ follows p head
not_plain p head h e = rw (true_eq (length head) HEAD h) (rw e refl)

pub may_follow : (p : Packed) (head : List SpentLetter) (b : Bool) → length head ≡ HEAD → (length p.tail == 0) ≡ true
    → b ≡ tells_first p.stretches head → not b ≡ follows p head
may_follow p head b h e is = rw (true_eq (length head) HEAD h) (rw e (ap not is))

pub first_told : (ss : List Stretch) (head : List SpentLetter) (x : SpentLetter) → length head ≡ HEAD
    → x ≡ get_or head 0 x → tells ss x ≡ tells_first ss head
unfolding tells_first
first_told ss [] x h e = absurd (omega (arith, h))
first_told ss (y ∷ ys) x h e = ap (tells ss) e

-- What can follow the parts of a list can follow what is packed of it.
pub follows_parts : (now : List SpentLetter) (xs ys : List Stretch) (tail behind head first : List SpentLetter)
    → IsPacked (record { stretches = reverse xs; tail = tail })
    → letters_of (record { stretches = reverse xs; tail = tail }) ≡ now → ys ≡ xs → behind ≡ tail → first ≡ head
    → follows (record { stretches = reverse ys; tail = behind }) first ≡ follows (packed now) head
follows_parts now xs ys tail behind head first k is same_stretches same_tail same_head =
    ap (λ l. follows (record { stretches = reverse l; tail = behind }) first) same_stretches
    ∙ ap (λ l. follows (record { stretches = reverse xs; tail = l }) first) same_tail
    ∙ ap (follows (record { stretches = reverse xs; tail = tail })) same_head
    ∙ ap (λ p. follows p head) (sym (packed_back (record { stretches = reverse xs; tail = tail }) k) ∙ ap packed is)

pub follows_full : (p : Packed) (head : List SpentLetter) → follows p head ≡ true → length head ≡ HEAD
follows_full p head f =
    eq_true (length head) HEAD
    (and_both (length head == HEAD) ((length p.tail == 0) && not (tells_first p.stretches head)) f).0
