-- Texts that were released are given up.
use Rattle.std.proofs.Common.{◌≡◌, ◌≢◌, ◌⊎◌, inl, inr, sym, ◌∙◌, ap, subst, ℕ, ◌+◌, ◌<◌, ◌≤◌, List, [], ◌++◌, length}
use Rattle.std.proofs.Common.{append-nil, arith, length-append}
use Rattle.std.proofs.lemmas.List.{length-map}
use Rattle.std.specs.Prelude.{Option, Some, slice_get}
use Rattle.std.proofs.lemmas.Option.{same_Some, slice_get_within}
use native.Mathlib.Decide.{ℕ_discrete}
use Rattle.output_commit.specs.Holds.{Line, gone_of as count_of, line_of, line_texts}
use Rattle.model.specs.declared.records.Record.{Record}
use Rattle.model.specs.declared.steps.TenantStep.{TenantStep}
use Rattle.model.specs.declared.steps.TenantStep.TheVariants.{Release}
use Rattle.model.specs.Handler.{Meaning}
use Rattle.model.specs.World.{World}
use Rattle.compact.specs.Compact.{Compact}
use Rattle.model.specs.Keeping.{Shelf}
use Rattle.tenant.specs.Past.{KeepsPast}
use Rattle.tenant.specs.Kept.{KeepsNoText, KeepsNoTextBut, NoTexts, TenantState, gone_of, released_of}
use Rattle.tenant.specs.Stands.{Stands, live_in}
use Rattle.tenant.proofs.Standing.{closed, opened}
use Rattle.tenant.specs.Represents.{IsCompact, IsReleased}
use Rattle.tenant.proofs.Lines.{count_there, texts_are, texts_there}

-- what is kept of what units released is this unit's alone
abbrev OnlyOf : ℕ → List (List (List ℕ)) → Type 0
OnlyOf unit released =
    (u : ℕ) (texts : List (List ℕ)) → slice_get released u ≡ Some texts → (texts ≡ []) ⊎ (Release unit ≡ Release u)

no_other : {u v : ℕ} {texts : List (List ℕ)}
    → (texts ≡ []) ⊎ (Release u ≡ Release v) → (u ≢ v) → texts ≡ []
no_other (inl e) apart = e
no_other (inr e) apart = absurd (apart (cc e))

-- where that unit is not there, nothing is kept
pub none_already : (lines : List Line) (u : ℕ)
    → length lines ≤ u → OnlyOf u (released_of lines) → NoTexts (released_of lines)
none_already lines u past only = λ v texts there.
    let h = slice_get_within (released_of lines) v texts there in
    let n = length-map lines (λ (l : Line). l.texts) in
    no_other (only v texts there) (λ e. absurd (omega (arith, h, n, past, e)))

-- Where no unit kept a text, none does after a step that leaves what is kept of what units released.
pub none_still : {S : Type 0} (t v : TenantState S) (step : TenantStep)
    → v.released ≡ t.released → KeepsNoText t → KeepsNoTextBut step v
none_still t v step same none = λ u texts there. inl (none u texts (ap (λ ls. slice_get ls u) (sym same) ∙ there))

-- nor after one that leaves it of all units but the one that it released
pub none_but : {S : Type 0} (t v : TenantState S) (unit : ℕ)
    → ((u : ℕ) → u ≢ unit → slice_get v.released u ≡ slice_get t.released u)
    → KeepsNoText t → KeepsNoTextBut (Release unit) v
none_but t v unit same none = λ u texts there. elim (ℕ_discrete u unit) [
  | yes e ↦ inr (ap Release (sym e))
  | no d ↦ inl (none u texts (sym (same u d) ∙ there))
]

module _ (before after : List Line) (u : ℕ) (len : length after ≡ length before)
    (gone : count_of after u ≡ count_of before u + length (line_texts before u)) (none : line_texts after u ≡ [])
    (others : (v : ℕ) → v ≢ u → line_of after v ≡ line_of before v) where
  -- the unit that gave its texts up
  pub gives_up : (all : List (List ℕ))
      → u < length before → IsReleased (slice_get (gone_of before) u) (slice_get (released_of before) u) all
      → IsReleased (slice_get (gone_of after) u) (slice_get (released_of after) u) all
  gives_up all h (front, texts, n, k, is) =
      let within : u < length after = omega (arith, h, len) in
      let n' : length front ≡ count_of before u =
      same_Some (length front) (count_of before u) (sym n ∙ count_there before u h) in
      let k' : texts ≡ line_texts before u = same_Some texts (line_texts before u) (sym k ∙ texts_there before u h) in
      let more : count_of after u ≡ length (front ++ texts) =
      gone ∙ (λ i. sym n' i + length (sym k' i)) ∙ sym (length-append front texts) in (
        front ++ texts,
        [],
        count_there after u within ∙ ap (λ (m : ℕ). Some m) more,
        texts_there after u within ∙ ap (λ (l : List (List ℕ)). Some l) none,
        is ∙ sym (append-nil (front ++ texts)),
      )

  -- and any other
  pub keeps_its_own : (a : ℕ) (all : List (List ℕ))
      → a < length before → a ≢ u → IsReleased (slice_get (gone_of before) a) (slice_get (released_of before) a) all
      → IsReleased (slice_get (gone_of after) a) (slice_get (released_of after) a) all
  keeps_its_own a all h apart (front, texts, n, k, is) =
      let within : a < length after = omega (arith, h, len) in (
        front,
        texts,
        count_there after a within ∙ ap (λ (l : Line). Some l.gone) (others a apart) ∙ sym (count_there before a h) ∙ n,
        texts_there after a within
            ∙ ap (λ (l : Line). Some l.texts) (others a apart) ∙ sym (texts_there before a h) ∙ k,
        is,
      )

  module _ (a : ℕ) (all : List (List ℕ)) (h : a < length before)
      (was : IsReleased (slice_get (gone_of before) a) (slice_get (released_of before) a) all) where
    any_unit : IsReleased (slice_get (gone_of after) a) (slice_get (released_of after) a) all
    any_unit = elim (ℕ_discrete a u) [
      | yes e ↦ subst (λ v. IsReleased (slice_get (gone_of after) v) (slice_get (released_of after) v) all)
          (sym e) (gives_up all (subst (λ v. v < length before) e h)
          (subst (λ v. IsReleased (slice_get (gone_of before) v) (slice_get (released_of before) v) all) e was))
      | no d ↦ keeps_its_own a all h d was
    ]

  -- the tenant keeps the same compact state
  pub given_up : {S : Type 0} (live : ℕ → List ℕ) (t : TenantState S) (k : Compact S)
      → t.gone ≡ gone_of before → t.released ≡ released_of before
      → IsCompact t live k → IsCompact (record t { gone = gone_of after; released = released_of after }) live k
  given_up live t k counts texts is = record {
    quota = is.quota;
    optimism = is.optimism;
    table = is.table;
    width = is.width;
    stables = is.stables;
    fronts = is.fronts;
    counts = length-map after (λ l. l.gone)
        ∙ len ∙ sym (length-map before (λ l. l.gone)) ∙ ap length (sym counts) ∙ is.counts;
    lines = length-map after (λ l. l.texts)
        ∙ len ∙ sym (length-map before (λ l. l.texts)) ∙ ap length (sym texts) ∙ is.lines;
    members = λ a m x atm atx.
        let i = is.members a m x atm atx in
        let within : a < length before =
        (let p = slice_get_within k.units a x atx in let q = is.lines in let r : length t.released ≡ length before =
        ap length texts ∙ length-map before (λ l. l.texts) in omega (arith, p, q, r)) in
        record {
          kept = i.kept;
          seen = i.seen;
          own = i.own;
          outputs = i.outputs;
          known = i.known;
          stable = i.stable;
          frontier = i.frontier;
          released = any_unit a
              x.released within (subst (λ ns. IsReleased (slice_get ns a) (slice_get (released_of before) a) x.released)
              counts (subst (λ ls. IsReleased (slice_get t.gone a) (slice_get ls a) x.released) texts i.released));
          places = i.places;
        };
    letters = is.letters;
  }

  -- A tenant that gives up released texts of a unit stands for the world that it stood for.
  pub stands_still : {S : Type 0} (M : Meaning S) (t : TenantState S)
      → t.gone ≡ gone_of before → t.released ≡ released_of before
      → (name : List ℕ) (w : World) (records : List (Option Record)) → Stands M name t w records
      → Stands M name (record t { gone = gone_of after; released = released_of after }) w records
  stands_still M t counts texts name w records s =
      let o = opened s in
      closed (record {
        whole = o.whole;
        left = o.left;
        stands = (o.stands.0, given_up (live_in name records) t o.stands.0 counts texts o.stands.1, o.stands.2);
      })

  -- where the unit alone kept texts, none is kept then
  pub none_then : OnlyOf u (released_of before) → NoTexts (released_of after)
  none_then only = λ v texts there.
      let is : line_texts after v ≡ texts = texts_are after v texts there in
      let within : v < length before =
      (let h = slice_get_within (released_of after) v texts there in let n = length-map after (λ (l : Line). l.texts) in
      omega (arith, h, n, len)) in
      elim (ℕ_discrete v u) [
        | yes e ↦ sym is ∙ ap (line_texts after) e ∙ none
        | no d ↦ sym is ∙ ap (λ (l : Line). l.texts) (others v d)
            ∙ no_other (only v (line_texts before v) (texts_there before v within)) (λ e. d (sym e))
      ]

-- what the tenant keeps of its past has nothing of the texts
pub past_still : {S : Type 0} (t : TenantState S)
    (gone : List ℕ) (texts : List (List (List ℕ))) (w : World) (shelves : List Shelf)
    → KeepsPast t w shelves → KeepsPast (record t { gone = gone; released = texts }) w shelves
unfolding KeepsPast
past_still t gone texts w shelves kept = record { shelved = kept.shelved; letters = kept.letters }
