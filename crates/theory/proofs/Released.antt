-- What a unit released is a beginning of the outputs of its path's firm front.
use Rattle.std.proofs.Common.{◌≡◌, inl, inr, refl, sym, ◌∙◌, ap, subst, ℕ, zero, suc, ◌+◌, ◌<◌, ◌≤◌, Bool, true, false}
use Rattle.std.proofs.Common.{List, [], ◌∷◌, ◌++◌, length, drop, arith, map, length-append, append_assoc, ne_eqb}
use Rattle.std.specs.Prelude.{Some, slice_get, slice_set}
use Rattle.std.specs.List.{flat_map, take_while}
use Rattle.std.proofs.lemmas.List.Sums.{take_while-cons}
use Rattle.std.proofs.lemmas.List.{length-map, map-append, drop-map}
use Rattle.std.proofs.lemmas.Option.{slice_get_within, same_Some}
use Rattle.std.proofs.Math.Seq.{drop-append_seam}
use Rattle.std.proofs.lemmas.Grind.{flat_map-append}
use mathlib.Core.List.{IsPrefix}
use native.Mathlib.Decide.{ℕ_discrete}
use Rattle.model.specs.Handler.{Turn, Meaning}
use Rattle.model.specs.Lists.{from_end}
use Rattle.model.specs.Nodes.{Node, node_at, begun, execution}
use Rattle.model.specs.Nodes.DependsOn.{itself}
use Rattle.model.specs.World.{World, Member, executed, is_firm, releasable}
use Rattle.model.specs.Steps.{next_node, fresh, beginning, with_released}
use Rattle.model.proofs.Places.{get_below}
use Rattle.theory.specs.Laws.{firm_outputs}
use Rattle.theory.proofs.ListLaws.{get_set, get_append, eq_same, get_take_while, take_while_passes, kept_if_all_pass}
use Rattle.theory.proofs.ListLaws.{bool_cases}
use Rattle.theory.proofs.Pasts.{node_older}
use Rattle.theory.proofs.Changes.{Change, new_seat}
use Rattle.theory.proofs.Changes.Change.{unchanged, receives, flushes, dies, goes_back, learns, releases, joins}
use Rattle.theory.proofs.Invariants.{Sound, sound_change}
use Rattle.theory.proofs.Firm.{firm_stands, firm_change, path_depends}
use Rattle.theory.proofs.Fronts.{firm_past}
use Rattle.theory.proofs.Sending.{turns_length}

-- ---- lists

-- a list whose elements another has at their places begins it
pub prefix_at : {X : Type 0} (xs ys : List X)
    → ((i : ℕ) (x : X) → slice_get xs i ≡ Some x → slice_get ys i ≡ Some x) → IsPrefix xs ys
prefix_at [] ys h = (ys, refl)
prefix_at (x ∷ xs) [] h = absurd (let t = h 0 x refl in cc t)
prefix_at (x ∷ xs) (y ∷ ys) h =
    let q : y ≡ x = same_Some y x (h 0 x refl) in
    let r = prefix_at xs ys (λ i z e. h (suc i) z e) in
    (r.0, ap (λ t. x ∷ t) r.1 ∙ ap (λ z. z ∷ ys) (sym q))

-- a beginning gives a beginning of all that comes of it
pub prefix_flat : {X Y : Type 0} (f : X → List Y) (xs ys : List X)
    → IsPrefix xs ys → IsPrefix (flat_map f xs) (flat_map f ys)
prefix_flat f xs ys p = (flat_map f p.0, sym (flat_map-append f xs p.0) ∙ ap (flat_map f) p.1)

-- a beginning of a beginning is one
pub prefix_trans : {X : Type 0} (xs ys zs : List X) → IsPrefix xs ys → IsPrefix ys zs → IsPrefix xs zs
prefix_trans xs ys zs p q = (p.0 ++ q.0, sym (append_assoc xs p.0 q.0) ∙ ap (λ t. t ++ q.0) p.1 ∙ q.1)

-- functions that agree on a list give the same of it
pub flat_same : {X Y : Type 0} (f g : X → List Y) (xs : List X)
    → ((i : ℕ) (x : X) → slice_get xs i ≡ Some x → f x ≡ g x) → flat_map f xs ≡ flat_map g xs
flat_same f g [] h = refl
flat_same f g (x ∷ xs) h = ap (λ t. t ++ flat_map f xs) (h 0 x refl)
    ∙ ap (λ t. g x ++ t) (flat_same f g xs (λ i y e. h (suc i) y e))

-- the default does not matter where there is an element
pub from_end_default : {X : Type 0} (xs : List X) (x : ℕ) (d d' : X)
    → x < length xs → from_end xs x d ≡ from_end xs x d'
from_end_default [] x d d' h = absurd (omega arith)
from_end_default (y ∷ ys) x d d' h = elim (ℕ_discrete x (length ys)) [
  | yes q ↦ rw (q, eq_same (length ys)) refl
  | no q ↦ rw (ne_eqb x (length ys) q) (from_end_default ys x d d' (omega arith))
]

-- pairs of a place and an output there
abbrev pub pairs_of : {Y : Type 0} → (ℕ → List Y) → List ℕ → List (ℕ × Y)
pairs_of f path = flat_map (λ x. map (λ t. (x, t)) (f x)) path

none_pass : {Y : Type 0} (p : ℕ → Bool) (f : ℕ → List Y) (path : List ℕ)
    → ((i x : ℕ) → slice_get path i ≡ Some x → p x ≡ false) → take_while (λ o. p o.0) (pairs_of f path) ≡ []
none_pass p f [] h = refl
none_pass {Y} p f (x ∷ xs) h = go (f x) (h 0 x refl) (none_pass p f xs (λ i y k. h (suc i) y k))
  where
    go : (ys : List Y) → p x ≡ false → take_while (λ o. p o.0) (pairs_of f xs) ≡ []
        → take_while (λ o. p o.0) (map (λ t. (x, t)) ys ++ pairs_of f xs) ≡ []
    go [] e rest = rest
    go (y ∷ ys) e rest = rw e refl

all_pass : {Y : Type 0} (p : ℕ → Bool) (x : ℕ) (ys : List Y) (rest : List (ℕ × Y)) → p x ≡ true
    → take_while (λ o. p o.0) (map (λ t. (x, t)) ys ++ rest) ≡ map (λ t. (x, t)) ys ++ take_while (λ o. p o.0) rest
all_pass p x [] rest e = refl
all_pass p x (y ∷ ys) rest e = take_while-cons (λ o. p o.0) (x, y) (map (λ t. (x, t)) ys ++ rest)
    ∙ rw e (ap (λ z. (x, y) ∷ z) (all_pass p x ys rest e))

-- what stands before one that passes does too
abbrev pub Closed : (ℕ → Bool) → List ℕ → Type 0
Closed p path = (i j x y : ℕ) → slice_get path i ≡ Some x → slice_get path j ≡ Some y → j ≤ i → p x ≡ true → p y ≡ true

-- the outputs that pass are those of the nodes that do
pub pairs_front : {Y : Type 0} (p : ℕ → Bool) (f : ℕ → List Y) (path : List ℕ)
    → Closed p path → take_while (λ o. p o.0) (pairs_of f path) ≡ pairs_of f (take_while p path)
pairs_front p f [] closed = refl
pairs_front p f (x ∷ xs) closed = elim (bool_cases (p x)) [
  | inl e ↦ all_pass p x (f x) (pairs_of f xs) e ∙ rw (take_while-cons p x xs, e) (ap (λ z. map (λ t. (x, t)) (f x)
      ++ z) (pairs_front p f xs (λ i j y z a b le k. closed (suc i) (suc j) y z a b (omega arith) k)))
  | inr e ↦ none_pass p f (x ∷ xs) (λ i y k. elim (bool_cases (p y)) [
    | inr q ↦ q
    | inl q ↦
        let t = closed i 0 y x k refl (omega arith) q in absurd (cc (t, e))
  ]) ∙ rw (take_while-cons p x xs, e) refl
]

second_pairs : {Y : Type 0} (x : ℕ) (ys : List Y) → map (λ (o : ℕ × Y). o.1) (map (λ t. (x, t)) ys) ≡ ys
second_pairs x [] = refl
second_pairs x (y ∷ ys) = ap (λ t. y ∷ t) (second_pairs x ys)

-- the outputs of the pairs are all outputs
pub pairs_seconds : {Y : Type 0} (f : ℕ → List Y) (path : List ℕ)
    → map (λ (o : ℕ × Y). o.1) (pairs_of f path) ≡ flat_map f path
pairs_seconds f [] = refl
pairs_seconds {Y} f (x ∷ xs) = map-append (λ (o : ℕ × Y). o.1) (map (λ t. (x, t)) (f x)) (pairs_of f xs)
    ∙ ap (λ t. t ++ map (λ (o : ℕ × Y). o.1) (pairs_of f xs)) (second_pairs x (f x))
    ∙ ap (λ t. f x ++ t) (pairs_seconds f xs)

-- Of a list without a part of its passing front, what is left of that front is the passing front.
pub take_while_drop : {X : Type 0} (p : X → Bool) (k : ℕ) (xs : List X)
    → k ≤ length (take_while p xs) → take_while p (drop k xs) ≡ drop k (take_while p xs)
take_while_drop p zero xs h = refl
take_while_drop p (suc k) [] h = refl
take_while_drop p (suc k) (x ∷ xs) h = elim (bool_cases (p x)) [
  | inl e ↦ let t = rw (take_while-cons p x xs, e) at h in
      rw (take_while-cons p x xs, e) (take_while_drop p k xs (omega arith))
  | inr e ↦ let t = rw (take_while-cons p x xs, e) at h in absurd (omega arith)
]

-- a released list with those that pass is all of those
release_whole : {Y : Type 0} (p : ℕ → Bool) (f : ℕ → List Y) (path : List ℕ) (released : List Y)
    → Closed p path → IsPrefix released (flat_map f (take_while p path))
    → released ++ map (λ (o : ℕ × Y). o.1)
    (take_while (λ o. p o.0) (drop (length released) (pairs_of f path))) ≡ flat_map f (take_while p path)
release_whole {Y} p f path released closed pre =
    let front = pairs_of f (take_while p path) in
    let seconds : map (λ (o : ℕ × Y). o.1) front ≡ released ++ pre.0 =
    pairs_seconds f (take_while p path) ∙ sym pre.1 in
    let size : length released ≤ length front = let t = length-map front (λ (o : ℕ × Y). o.1) in
    let k = ap length seconds in let z = length-append released pre.0 in omega arith in
    ap (λ z. released ++ map (λ (o : ℕ × Y). o.1) z) (take_while_drop (λ o. p o.0) (length released) (pairs_of f path)
    (rw (pairs_front p f path closed) size) ∙ ap (drop (length released)) (pairs_front p f path closed))
    ∙ ap (λ z. released ++ z) (sym (drop-map (λ (o : ℕ × Y). o.1) (length released) front)
    ∙ ap (drop (length released)) seconds ∙ drop-append_seam released pre.0)
    ∙ pre.1

-- ---- worlds

-- nodes stay as they are
pub nodes_kept : {S : Type 0} (M : Meaning S) {v w : World}
    → Change M v w → (x : ℕ) → x < length v.nodes → (x < length w.nodes) × (node_at w.nodes x ≡ node_at v.nodes x)
nodes_kept M unchanged x h = (h, refl)
nodes_kept M {v} (receives u m cause found up may) x h =
    (omega arith, node_older (next_node v u m cause) v.nodes x (omega arith))
nodes_kept M (flushes u k m found g) x h = (h, refl)
nodes_kept M (dies u m found) x h = (h, refl)
nodes_kept M (goes_back u m found room) x h = (h, refl)
nodes_kept M (learns u m found g) x h = (h, refl)
nodes_kept M (releases u m found) x h = (h, refl)
nodes_kept M {v} (joins kind room) x h = (
  omega arith,
  node_older (beginning (new_seat (length v.members + 1) v kind) (length v.members + 1)) v.nodes x (omega arith),
)

module _ {S : Type 0} (M : Meaning S) where
  -- The turn of an older node is the same once a node is added.
  pub turns_older : (v : World) (n : Node) (x : ℕ) (d : Turn S)
      → x < length v.nodes → from_end (execution M (n ∷ v.nodes)).turns x d ≡ from_end (executed M v).turns x d
  turns_older v n x d h = let k = turns_length M v.nodes in
      rw (ne_eqb x (length (executed M v).turns) (omega arith)) refl

  -- so do their turns
  turns_kept : {v w : World} → Change M v w → (x : ℕ) (d : Turn S)
      → x < length v.nodes → from_end (executed M w).turns x d ≡ from_end (executed M v).turns x d
  turns_kept unchanged x d h = refl
  turns_kept {v} (receives u m cause found up may) x d h = turns_older v (next_node v u m cause) x d h
  turns_kept (flushes u k m found g) x d h = refl
  turns_kept (dies u m found) x d h = refl
  turns_kept (goes_back u m found room) x d h = refl
  turns_kept (learns u m found g) x d h = refl
  turns_kept (releases u m found) x d h = refl
  turns_kept {v} (joins kind room) x d h =
      turns_older v (beginning (new_seat (length v.members + 1) v kind) (length v.members + 1)) x d h

-- a firm node stands at its index on its unit's path, within the stable length
pub firm_on : (w : World) → Sound w → (u i x : ℕ) (n : Member) → slice_get w.members u ≡ Some n
    → x < length w.nodes → is_firm w x ≡ true → (node_at w.nodes x).unit ≡ u → (node_at w.nodes x).index ≡ i
    → (slice_get n.path i ≡ Some x) × (i < n.stable)
firm_on w s u i x n found h firm own index =
    let st = firm_stands w x x s.placed h firm itself in
    let g = s.units st.unit st.member st.found in
    let unit : st.unit ≡ u = sym (g.own st.place x st.on_path) ∙ own in
    let member : st.member ≡ n = same_Some st.member n (sym st.found ∙ ap (slice_get w.members) unit ∙ found) in
    let place : st.place ≡ i = sym (g.indexed st.place x st.on_path) ∙ index in
    let on : slice_get n.path st.place ≡ Some x = ap (λ q. slice_get q.path st.place) (sym member) ∙ st.on_path in
    let below : st.place < n.stable = subst (λ q. st.place < q.stable) member st.logged in
    (ap (slice_get n.path) (sym place) ∙ on, omega arith)

-- what stands before a firm node of a path is firm
pub firm_closed : (w : World) → Sound w
    → (u : ℕ) (m : Member) → slice_get w.members u ≡ Some m → Closed (is_firm w) m.path
firm_closed w s u m found i j x y e f le firm =
    let o = s.units u m found in firm_past w x y s.placed (o.made i x e) firm (path_depends o i j x y e f le)

module _ {S : Type 0} (M : Meaning S) where
  -- firm fronts only grow
  front_grows : {v w : World} → Sound v
      → Change M v w → (u : ℕ) (m n : Member) → slice_get v.members u ≡ Some m → slice_get w.members u ≡ Some n
      → (i x : ℕ) → slice_get (take_while (is_firm v) m.path) i ≡ Some x
      → slice_get (take_while (is_firm w) n.path) i ≡ Some x
  front_grows {v} {w} s c u m n found found' i x e =
      let t = get_take_while (is_firm v) m.path i x e in
      kept_if_all_pass (is_firm w) n.path i x (stands i x e).0 (λ j y le f.
      let size : i < length (take_while (is_firm v) m.path) = slice_get_within (take_while (is_firm v) m.path) i x e in
      let q = get_below (take_while (is_firm v) m.path) j (omega arith) in
      let k = stands j q.0 q.1 in
      let is : y ≡ q.0 = same_Some y q.0 (sym f ∙ k.0) in
      ap (is_firm w) is ∙ k.1)
    where
      stands : (j y : ℕ) → slice_get (take_while (is_firm v) m.path) j ≡ Some y
          → (slice_get n.path j ≡ Some y) × (is_firm w y ≡ true)
      stands j y f =
          let o = s.units u m found in
          let t = get_take_while (is_firm v) m.path j y f in
          let h = o.made j y t.0 in
          let firm = firm_change M s c y h (take_while_passes (is_firm v) m.path j y f) in
          let k = nodes_kept M c y h in (
            (firm_on w (sound_change M s c) u j y n found' k.0 firm (ap (λ z. z.unit) k.1
                ∙ o.own j y t.0) (ap (λ z. z.index) k.1 ∙ o.indexed j y t.0)).0,
            firm,
          )

  -- and their outputs with them
  firm_outputs_grow : {v w : World} → Sound v
      → Change M v w → (u : ℕ) (m n : Member) → slice_get v.members u ≡ Some m → slice_get w.members u ≡ Some n
      → IsPrefix (firm_outputs M v m) (firm_outputs M w n)
  firm_outputs_grow {v} {w} s c u m n found found' =
      subst (λ z. IsPrefix z (firm_outputs M w n)) (sym same)
      (prefix_flat (λ x. (from_end (executed M w).turns x (begun M n.seat)).outputs) (take_while (is_firm v) m.path)
      (take_while (is_firm w) n.path) (prefix_at _ _ (front_grows s c u m n found found')))
    where
      same : firm_outputs M v m
          ≡ flat_map (λ x. (from_end (executed M w).turns x (begun M n.seat)).outputs) (take_while (is_firm v) m.path)
      same = flat_same _ _ (take_while (is_firm v) m.path) (λ i x e.
          let h = (s.units u m found).made i x (get_take_while (is_firm v) m.path i x e).0 in
          let size = turns_length M v.nodes in
          ap (λ z. z.outputs) (from_end_default (executed M v).turns x (begun M m.seat) (begun M n.seat) (omega arith)
          ∙ sym (turns_kept M c x (begun M n.seat) h)))

  -- a release leaves just the outputs of the firm front
  pub release_all : (v : World) → Sound v → (u : ℕ) (m : Member) → slice_get v.members u ≡ Some m
      → IsPrefix m.released (firm_outputs M v m) → m.released ++ map (λ o. o.1) (releasable M v m) ≡ firm_outputs M v m
  release_all v s u m found pre =
      release_whole (is_firm v) (λ x. (from_end (executed M v).turns x (begun M m.seat)).outputs)
      m.path m.released (firm_closed v s u m found) pre

  -- what became of a unit's released list
  pub data Before (v : World) (u : ℕ) (n : Member) : Type 0 where
    new : n.released ≡ [] → Before v u n
    same : (m : Member) → slice_get v.members u ≡ Some m → n.released ≡ m.released → Before v u n
    more : (m : Member) → slice_get v.members u ≡ Some m
        → n.released ≡ m.released ++ map (λ o. o.1) (releasable M v m) → Before v u n

  set_before : (v : World) (u : ℕ) (m q : Member) → slice_get v.members u ≡ Some m
      → q.released ≡ m.released → (x : ℕ) (n : Member) → slice_get (slice_set v.members u q) x ≡ Some n → Before v x n
  set_before v u m q found e x n f = elim (get_set v.members u x q n f) [
    | inl k ↦ same m (ap (slice_get v.members) k.0 ∙ found) (ap (λ z. z.released) k.1 ∙ e)
    | inr k ↦ same n k.1 refl
  ]

  -- what a change does to a released list
  was_before : {v w : World} → Change M v w → (x : ℕ) (n : Member) → slice_get w.members x ≡ Some n → Before v x n
  was_before unchanged x n f = same n f refl
  was_before {v} (receives u m cause found up may) x n f = set_before v u m _ found refl x n f
  was_before {v} (flushes u k m found g) x n f = set_before v u m _ found refl x n f
  was_before {v} (dies u m found) x n f = set_before v u m _ found refl x n f
  was_before {v} (goes_back u m found room) x n f = set_before v u m _ found refl x n f
  was_before {v} (learns u m found g) x n f = set_before v u m _ found refl x n f
  was_before {v} (releases u m found) x n f =
      elim (get_set v.members u x (with_released m (map (λ o. o.1) (releasable M v m))) n f) [
        | inl k ↦ more m (ap (slice_get v.members) k.0 ∙ found) (ap (λ z. z.released) k.1)
        | inr k ↦ same n k.1 refl
      ]
  was_before {v} (joins kind room) x n f = elim (get_append
      v.members (fresh (new_seat (length v.members + 1) v kind) (length v.nodes) (length v.table)) n x f) [
        | inl k ↦ same n k refl
        | inr k ↦ new (ap (λ z. z.released) k.1)
      ]

  -- what each unit released begins its firm outputs
  abbrev pub AllReleased : World → Type 0
  AllReleased w = (u : ℕ) (m : Member) → slice_get w.members u ≡ Some m → IsPrefix m.released (firm_outputs M w m)

  -- a change keeps that
  pub released_change : {v w : World} → Sound v → AllReleased v → Change M v w → AllReleased w
  released_change {v} {w} s r c u n f = elim (was_before c u n f) [
    | new e ↦ rw e (firm_outputs M w n, refl)
    | same m g e ↦ rw e
        (prefix_trans m.released (firm_outputs M v m) (firm_outputs M w n) (r u m g) (firm_outputs_grow s c u m n g f))
    | more m g e ↦ rw (e, release_all v s u m g (r u m g)) (firm_outputs_grow s c u m n g f)
  ]
