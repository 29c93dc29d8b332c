-- The step `join`.
use Rattle.std.proofs.Common.{◌≡◌, inl, inr, refl, sym, ◌∙◌, ap, subst, ℕ, zero, suc, ◌+◌, ◌<◌, ◌≤◌, false, List, []}
use Rattle.std.proofs.Common.{◌∷◌, ◌++◌, length, map, drop, arith}
use Rattle.std.specs.Prelude.{Option, Some, None, nat_le, option_map, slice_get, slice_set}
use Rattle.std.proofs.lemmas.Bool.Decides.{nat_tests}
use Rattle.std.proofs.lemmas.List.{length-map, length_push}
use Rattle.std.proofs.lemmas.Option.{slice_get_within, same_Some}
use Rattle.model.specs.declared.names.Seat.{Seat}
use Rattle.model.specs.declared.records.Record.{Record}
use Rattle.model.specs.declared.refusals.Refusal.TheVariants.{BadOpen, Limit}
use Rattle.model.specs.declared.replies.End.TheVariants.{Whole}
use Rattle.model.specs.declared.replies.Reply.TheVariants.{Joined, Refused}
use Rattle.model.specs.declared.steps.TenantStep.TheVariants.{Join}
use Rattle.model.specs.Handler.{Meaning}
use Rattle.model.specs.World.{World}
use Rattle.model.specs.Steps.{first_refusal, join}
use Rattle.model.specs.Alone.{Reachable}
use Rattle.model.specs.Alone.Reachable.{stepped}
use Rattle.model.proofs.Places.{get_below}
use Rattle.theory.proofs.ListLaws.{append_get, append_get_last, get_append, map_at, take_get, true_le}
use Rattle.output_commit.specs.Holds.{Line}
use Rattle.session.specs.Counts.{Counts, widened_counts}
use Rattle.compact.specs.Compact.{Compact, CompactUnit}
use Rattle.compact.specs.Steps.{first_unit, fitted_unit, join_kind_of, joined_state}
use Rattle.compact.proofs.Joins.{joins_follow}
use Rattle.rollback.specs.Units.{IsKept, Recovering, widened_to}
use Rattle.rollback_laws.proofs.Joins.{beginnings_are_seen, joins_are_seen}
use Rattle.tenant.specs.Kept.{TenantState, Member, begun_member, fitted_from, fitted_member, gone_of, joined_kept}
use Rattle.tenant.specs.Kept.{released_of}
use Rattle.tenant.specs.Represents.{IsCompact, IsMember, Leaves, StandsFor}
use Rattle.tenant.proofs.Lasts.{last_none}
use Rattle.tenant.proofs.Beginning.{kept_begun}
use Rattle.tenant.proofs.Follow.{leaves}

-- ---- by lists

-- one unit more is fitted, from the last one on
fit_one : {S : Type 0} (n : ℕ) (members : List (Member S)) (at : ℕ) (m last : Member S)
    → slice_get members at ≡ Some m → slice_set
    (fitted_from n members (suc at) ++ last ∷ []) at (fitted_member n m) ≡ fitted_from n members at ++ last ∷ []
fit_one n [] at m last e = absurd (cc e)
fit_one n (x ∷ members) zero m last e =
    ap (λ y. fitted_member n y ∷ (map (fitted_member n) members ++ last ∷ [])) (sym (same_Some x m e))
fit_one n (x ∷ members) (suc at) m last e = ap (λ ys. x ∷ ys) (fit_one n members at m last e)

-- Once the unit at a place is fitted for a join too, all units from that place on are fitted.
pub fitted_one : {S : Type 0} (n : ℕ)
    (members mid after : List (Member S)) (at : ℕ) (last : Member S) (sessions : Option Counts) → at < length members
    → ((m : Member S) → slice_get members at ≡ Some m
    → sessions ≡ option_map (λ p. widened_counts p.sessions n) m.unit_state.progress)
    → mid ≡ fitted_from n members (at + 1) ++ last ∷ []
    → ((n : ℕ) (m : Member S) → slice_get mid at ≡ Some m → sessions ≡ option_map
    (λ p. widened_counts p.sessions n) m.unit_state.progress → after ≡ slice_set mid at (fitted_member n m))
    → after ≡ fitted_from n members at ++ last ∷ []
fitted_one {S} n members mid after at last sessions within made so_far fit =
    let m = get_below members at within in
    let front = append_get _ (map (fitted_member n) (drop (at + 1) members))
    at m.0 (take_get members (at + 1) at m.0 (omega arith) m.1) in
    let there : slice_get mid at ≡ Some m.0 =
    ap (λ ms. slice_get ms at) so_far ∙ append_get (fitted_from n members (at + 1)) (last ∷ []) at m.0 front in
    let next : at + 1 ≡ suc at = omega arith in
    fit n m.0 there (made m.0 m.1)
    ∙ ap (λ ms. slice_set ms at (fitted_member n m.0)) so_far
    ∙ ap (λ (i : ℕ). slice_set (fitted_from n members i ++ last ∷ []) at (fitted_member n m.0)) next
    ∙ fit_one n members at m.0 last m.1

-- one unit more, by what the calls give
pub entered : {S : Type 0} (M : Meaning S) (t u : TenantState S) (lines : List Line) (kind count unit home rows : ℕ)
    (first : Member S) (members : List (Member S)) (stables fronts gone : List ℕ) (released : List (List (List ℕ)))
    → u ≡ t → u.gone ≡ gone_of lines → u.released ≡ released_of lines → length t.released ≡ length t.members
    → count ≡ length t.members → unit ≡ count → home ≡ count + 1 → rows ≡ length u.table
    → first ≡ begun_member M (count + 1) (record { unit = unit; kind = kind; home = home }) rows
    → members ≡ fitted_from (count + 1) u.members 0 ++ first ∷ [] → stables ≡ u.stable_lengths ++ 1 ∷ []
    → fronts ≡ u.frontiers ++ 1 ∷ [] → (length lines + 1 ≡ count + 1 → gone ≡ gone_of lines ++ 0 ∷ [])
    → (length lines + 1 ≡ count + 1 → released ≡ released_of lines ++ [] ∷ [])
    → record u {
      members = members;
      stable_lengths = stables;
      frontiers = fronts;
      gone = gone;
      released = released;
    } ≡ joined_kept M t kind
entered {S} M t u lines kind count unit
    home rows first members stables fronts gone released same less out long counted own wide known begun a b c e d =
    let line : length lines + 1 ≡ count + 1 =
    (let e : length lines ≡ length t.released = sym (length-map lines (λ l. l.texts)) ∙ ap length (sym out)
    ∙ ap (λ (v : TenantState S). length v.released) same in omega (arith, e, long, counted)) in
    let n : count ≡ length u.members = counted ∙ ap (λ (v : TenantState S). length v.members) (sym same) in
    let last : first ≡ begun_member M (length u.members + 1)
    (record { unit = length u.members; kind = kind; home = length u.members + 1 }) (length u.table) =
    begun ∙ (λ i. begun_member
    M (n i + 1) (record { unit = (own ∙ n) i; kind = kind; home = (wide ∙ ap (λ k. k + 1) n) i }) (known i)) in
    (λ i. record u {
      members = (a ∙ (λ j. fitted_from (n j + 1) u.members 0 ++ last j ∷ [])) i;
      stable_lengths = b i;
      frontiers = c i;
      gone = (e line ∙ ap (λ xs. xs ++ 0 ∷ []) (sym less)) i;
      released = (d line ∙ ap (λ xs. xs ++ [] ∷ []) (sym out)) i;
    })
    ∙ ap (λ (v : TenantState S). joined_kept M v kind) same

-- ---- what is kept

not_le : (a b : ℕ) → b < a → nat_le a b ≡ false
not_le a b h = grind (arith, nat_tests)

kept_fitted : {S : Type 0} (r : Recovering S) (n : ℕ) → IsKept r → IsKept (widened_to r n)
kept_fitted r n i = record {
  base = i.base;
  stable = i.stable;
  few = i.few;
  top = i.top;
  rises = i.rises;
  marks = i.marks;
  outside = i.outside;
}

module _ {S : Type 0} (M : Meaning S) (name : List ℕ) (live : ℕ → List ℕ)
    (t : TenantState S) (w : World) (log : List Record) (s : StandsFor M name live t w log) (n : List ℕ) where
  abbrev k : Compact S
  k = s.0

  reach : (z : World) → (join M w n).world ≡ Some z → Reachable M z
  reach z f = stepped (record { step = Join n; said = record { appended = 0; end = Whole } }) s.2.reached f

  -- A join of an unknown kind is refused, and the tenant stays as it was.
  pub join_unknown : M.kind n ≡ None → Leaves M name live (join M w n) (Refused BadOpen) t log
  join_unknown e = leaves M name live log (join M w n) reach _ (record { reply = Refused BadOpen; state = k })
      (joins_follow M name k w log s.2 n) (ap (join_kind_of M k) e) t s.1

  module _ (kind : ℕ) (known : M.kind n ≡ Some kind) where
    full : 16 ≤ length k.units → join_kind_of M k (Some kind) ≡ record { reply = Refused Limit; state = k }
    unfolding first_refusal
    full h = rw (true_le 16 (length k.units) h) refl

    fits : length k.units < 16
        → join_kind_of M k (Some kind) ≡ record { reply = Joined (length k.units); state = joined_state M k kind }
    unfolding first_refusal
    fits h = rw (not_le 16 (length k.units) h) refl

    -- A join of a tenant with 16 units is refused, and the tenant stays as it was.
    pub join_full : 16 ≤ length t.members → Leaves M name live (join M w n) (Refused Limit) t log
    join_full h = leaves M name
        live log (join M w n) reach _ (record { reply = Refused Limit; state = k }) (joins_follow M name k w log s.2 n)
        (ap (join_kind_of M k) known ∙ full (let width = s.1.width in omega (arith, h, width))) t s.1

    abbrev width : ℕ
    width = length t.members + 1

    abbrev after : TenantState S
    after = joined_kept M t kind

    abbrev seat : Seat
    seat = record { unit = length t.members; kind = kind; home = width }

    abbrev first : CompactUnit S
    first = first_unit M (length k.units + 1)
        (record { unit = length k.units; kind = kind; home = length k.units + 1 }) (length k.table)

    same_first : first ≡ first_unit M width seat (length t.table)
    same_first =
        let e = s.1.width in
        (λ i. first_unit M (sym e i + 1)
        (record { unit = sym e i; kind = kind; home = sym e i + 1 }) (length (s.1.table i)))

    -- a unit that was there
    stays : (u : ℕ) (m : Member S) (x : CompactUnit S)
        → IsMember t live u m x → IsMember after live u (fitted_member width m) (fitted_unit width x)
    stays u m x i = record {
      kept = kept_fitted m.unit_state width i.kept;
      seen = joins_are_seen M m.unit_state x i.seen width;
      own = i.own;
      outputs = i.outputs;
      known = i.known;
      stable = append_get t.stable_lengths (1 ∷ []) u x.stable i.stable;
      frontier = append_get t.frontiers (1 ∷ []) u x.frontier i.frontier;
      released = (
        i.released.0,
        i.released.1,
        append_get t.gone (0 ∷ []) u (length i.released.0) i.released.2,
        append_get t.released ([] ∷ []) u i.released.1 i.released.3,
        i.released.4,
      );
      places = i.places;
    }

    -- and the new one
    begins : IsMember after live
        (length t.members) (begun_member M width seat (length t.table)) (first_unit M width seat (length t.table))
    begins =
        let i = s.1 in
        let stables : length t.stable_lengths ≡ length t.members = i.stables ∙ sym i.width in
        let fronts : length t.frontiers ≡ length t.members = i.fronts ∙ sym i.width in
        let lines : length t.released ≡ length t.members = i.lines ∙ sym i.width in
        let counts : length t.gone ≡ length t.members = i.counts ∙ sym i.width in
        record {
          kept = kept_begun M width seat;
          seen = beginnings_are_seen M width (length t.table) seat;
          own = refl;
          outputs = refl;
          known = refl;
          stable = subst (λ (u : ℕ). slice_get (t.stable_lengths ++ 1 ∷ []) u ≡ Some 1)
              stables (append_get_last t.stable_lengths 1);
          frontier =
              subst (λ (u : ℕ). slice_get (t.frontiers ++ 1 ∷ []) u ≡ Some 1) fronts (append_get_last t.frontiers 1);
          released = (
            [],
            [],
            subst (λ (u : ℕ). slice_get (t.gone ++ 0 ∷ []) u ≡ Some 0) counts (append_get_last t.gone 0),
            subst (λ (u : ℕ). slice_get (t.released ++ [] ∷ []) u ≡ Some []) lines (append_get_last t.released []),
            refl,
          );
          places = last_none (live (length t.members));
        }

    -- how many units there are then
    count : length (map (fitted_unit (length k.units + 1)) k.units ++ first ∷ []) ≡ length k.units + 1
    count = length_push (map (fitted_unit (length k.units + 1)) k.units) first
        ∙ ap (λ n. n + 1) (length-map k.units (fitted_unit (length k.units + 1)))

    joined_is : IsCompact after live (joined_state M k kind)
    joined_is =
        let i = s.1 in
        let e = i.width in
        record {
          quota = i.quota;
          optimism = i.optimism;
          table = i.table;
          width = length_push (map (fitted_member width) t.members) (begun_member M width seat (length t.table))
              ∙ ap (λ n. n + 1) (length-map t.members (fitted_member width) ∙ e) ∙ sym count;
          stables = length_push t.stable_lengths 1 ∙ ap (λ n. n + 1) i.stables ∙ sym count;
          fronts = length_push t.frontiers 1 ∙ ap (λ n. n + 1) i.fronts ∙ sym count;
          counts = length_push t.gone 0 ∙ ap (λ n. n + 1) i.counts ∙ sym count;
          lines = length_push t.released [] ∙ ap (λ n. n + 1) i.lines ∙ sym count;
          members = λ u m x atm atx. elim (get_append
              (map (fitted_member width) t.members) (begun_member M width seat (length t.table)) m u atm) [
                | inl a ↦ elim (get_append (map (fitted_unit (length k.units + 1)) k.units) first x u atx) [
                  | inl b ↦
                      let p = map_at (fitted_member width) t.members u m a in
                      let q = map_at (fitted_unit (length k.units + 1)) k.units u x b in
                      let same : x ≡ fitted_unit width q.0 = q.2 ∙ ap (λ n. fitted_unit (n + 1) q.0) (sym e) in
                      subst (λ (m : Member S). IsMember after live u m x) (sym p.2)
                      (subst (λ (x : CompactUnit S). IsMember after live u (fitted_member width p.0) x)
                      (sym same) (stays u p.0 q.0 (i.members u p.0 q.0 p.1 q.1)))
                  | inr b ↦
                      let within = slice_get_within (map (fitted_member width) t.members) u m a in
                      let long = length-map t.members (fitted_member width) in
                      let last = length-map k.units (fitted_unit (length k.units + 1)) in
                      let at = b.0 in
                      absurd (omega (arith, within, long, last, at, e))
                ]
                | inr a ↦ elim (get_append (map (fitted_unit (length k.units + 1)) k.units) first x u atx) [
                  | inl b ↦
                      let within = slice_get_within (map (fitted_unit (length k.units + 1)) k.units) u x b in
                      let long = length-map k.units (fitted_unit (length k.units + 1)) in
                      let last = length-map t.members (fitted_member width) in
                      let at = a.0 in
                      absurd (omega (arith, within, long, last, at, e))
                  | inr b ↦
                      let at : length t.members ≡ u = sym (a.0 ∙ length-map t.members (fitted_member width)) in
                      let same : x ≡ first_unit M width seat (length t.table) = b.1 ∙ same_first in
                      subst (λ (u : ℕ). IsMember after live u m x) at
                      (subst (λ (m : Member S). IsMember after live (length t.members) m x) (sym a.1)
                      (subst (λ (x : CompactUnit S). IsMember after
                      live (length t.members) (begun_member M width seat (length t.table)) x) (sym same) begins))
                ]
              ];
          letters = i.letters;
        }

    -- A join that is not refused adds a unit at its beginning, as the definitions say.
    pub join_done : length t.members < 16 → (unit : ℕ) → unit ≡ length t.members
        → (v : TenantState S) → (length t.released ≡ length t.members → v ≡ joined_kept M t kind)
        → Leaves M name live (join M w n) (Joined unit) v log
    join_done h unit e v is =
        let i = s.1 in
        let lines : length t.released ≡ length t.members = i.lines ∙ sym i.width in
        let number : length k.units ≡ unit = sym i.width ∙ sym e in
        leaves M name live log (join M w n)
        reach _ (record { reply = Joined unit; state = joined_state M k kind }) (joins_follow M name k w log s.2 n)
        (ap (join_kind_of M k) known ∙ fits (let width = i.width in omega (arith, h, width))
        ∙ (λ j. record { reply = Joined (number j); state = joined_state M k kind }))
        v (subst (λ (q : TenantState S). IsCompact q live (joined_state M k kind)) (sym (is lines)) joined_is)
