-- What is released stays so to the end of a history, and begins what the certificate's run puts out.
use Rattle.std.proofs.Common.{◌≡◌, refl, sym, ap, subst, ◌∙◌, ℕ, zero, suc, List, [], ◌∷◌, ◌++◌, take, drop, map}
use Rattle.std.specs.Prelude.{Option, Result, Ok, Some, None, option_map, slice_get}
use Rattle.std.proofs.lemmas.List.{take-append-drop}
use Rattle.std.proofs.lemmas.Option.{same_Some}
use mathlib.Core.List.{IsPrefix}
use Rattle.model.specs.Alone.{Event, alone, course_from, step}
use Rattle.model.specs.FailureFree.{BeginWith, CertificateHolds, Network, Worker}
use Rattle.model.specs.Handler.{Meaning}
use Rattle.model.specs.History.{own, pairs}
use Rattle.model.specs.World.{Member, World}
use Rattle.model.specs.declared.moves.Flaw.{Flaw}
use Rattle.model.specs.declared.replies.Entry.{Entry}
use Rattle.theory.proofs.Certificate.{certificate_law}
use Rattle.theory.proofs.Courses.{courses_reach, released_stay, open_after}
use Rattle.theory.proofs.Released.{prefix_trans}
use Rattle.book.specs.Certificates.{BeginsRun, StaysReleased}
use Rattle.book.specs.History.{released_at, world_of}
use Rattle.book.proofs.Replays.{own-append}

-- what a run comes to, where it can be made
abbrev made_of : (S : Type 0) → Network S → Result (Network S) Flaw
made_of S x = Ok x

same_Ok : (S : Type 0) (x y : Network S) → made_of S x ≡ made_of S y → x ≡ y
same_Ok S x y e = cc e

-- a unit's list, found among those of the members
member_of : (members : List Member) (u : ℕ) (texts : List (List ℕ))
    → option_map (λ (m : Member). m.released) (slice_get members u) ≡ Some texts
    → (m : Member) × (slice_get members u ≡ Some m) × (m.released ≡ texts)
member_of [] u texts e = absurd (cc e)
member_of (m ∷ members) zero texts e = (m, refl, same_Some m.released texts e)
member_of (m ∷ members) (suc u) texts e = member_of members u texts e

released_of : (members : List Member) (u : ℕ) (m : Member)
    → slice_get members u ≡ Some m → slice_get (map (λ (x : Member). x.released) members) u ≡ Some m.released
released_of [] u m e = absurd (cc e)
released_of (x ∷ members) zero m e = ap (λ (y : Member). Some y.released) (same_Some x m e)
released_of (x ∷ members) (suc u) m e = released_of members u m e

module _ {S : Type 0} (M : Meaning S) where
  -- the outputs of a unit begin with its list
  begins_at : (workers : List (Worker S)) (lists : List (List (List ℕ))) (u : ℕ) (texts : List (List ℕ))
      → BeginWith workers lists → slice_get lists u ≡ Some texts
      → (a : Worker S) × (slice_get workers u ≡ Some a) × IsPrefix texts a.outputs
  begins_at [] [] u texts b e = absurd (cc e)
  begins_at (a ∷ workers) [] u texts b e = absurd b
  begins_at [] (x ∷ lists) u texts b e = absurd b
  begins_at (a ∷ workers) (x ∷ lists) zero texts b e =
      (a, refl, subst (λ (y : List (List ℕ)). IsPrefix y a.outputs) (same_Some x texts e) b.0)
  begins_at (a ∷ workers) (x ∷ lists) (suc u) texts b e = begins_at workers lists u texts b.1 e

  -- ---- a tenant that is open is open at the end

  ends_open : (before after : List Event) (o : Option World) (v : World) → (course_from M o before).world ≡ Some v
      → (w : World) × ((course_from M o (before ++ after)).world ≡ Some w)
  ends_open [] after o v e = let r = open_after M after v in (r.0, ap (λ z. (course_from M z after).world) e ∙ r.1)
  ends_open (x ∷ before) after o v e = ends_open before after (step M o x).world v e

  -- ---- what is released

  unfoldable pub Lasts : Option World → ℕ → List (List ℕ) → Type 0
  Lasts o u texts =
      (w : World) × (o ≡ Some w)
      × ((later : List (List ℕ)) × (released_at (Some w) u ≡ Some later) × IsPrefix texts later)
      × BeginsRun M w u texts

  begins_run : (w : World) (u : ℕ) (m : Member) (texts : List (List ℕ))
      → CertificateHolds M w → slice_get w.members u ≡ Some m → IsPrefix texts m.released → BeginsRun M w u texts
  begins_run w u m texts holds found p net made =
      let same : holds.0 ≡ net = same_Ok S holds.0 net (sym holds.1 ∙ made) in
      let begin =
      subst (λ (n : Network S). BeginWith n.workers (map (λ (x : Member). x.released) w.members)) same holds.3 in
      let a = begins_at net.workers
      (map (λ (x : Member). x.released) w.members) u m.released begin (released_of w.members u m found) in
      (a.0, a.1, prefix_trans texts m.released a.0.outputs p a.2)

  lasts : (before after : List Event) (o : Option World)
      → (alone M before).world ≡ o → (u : ℕ) (texts : List (List ℕ)) → released_at o u ≡ Some texts
      → Lasts (alone M (before ++ after)).world u texts
  unfolding Lasts
  lasts before after None e u texts r = absurd (cc r)
  lasts before after (Some v) e u texts r =
      let m = member_of v.members u texts r in
      let w = ends_open before after None v e in
      let n = (released_stay M before after v w.0 e w.1).0 u m.0 m.1 in
      let p = subst (λ (y : List (List ℕ)). IsPrefix y n.0.released) m.2 n.2 in (
        w.0,
        w.1,
        (n.0.released, ap (option_map (λ (x : Member). x.released)) n.1, p),
        begins_run w.0 u n.0 texts (certificate_law M w.0 (courses_reach M (before ++ after) w.0 w.1)) n.1 p,
      )

  -- what was released at an earlier moment of a history lasts to its end
  pub stays_released : (tenant : List ℕ) (history : List Entry) → StaysReleased M tenant history
  unfolding Lasts
  stays_released tenant history n u texts r =
      let all : own tenant (pairs (take n history)) ++ own tenant (pairs (drop n history)) ≡ own tenant (pairs history)
      = sym (own-append tenant (take n history) (drop n history))
      ∙ ap (λ (h : List Entry). own tenant (pairs h)) (take-append-drop n history) in
      subst (λ (events : List Event). Lasts (alone M events).world u texts) all
      (lasts (own tenant (pairs (take n history)))
      (own tenant (pairs (drop n history))) (world_of M tenant (take n history)) refl u texts r)
