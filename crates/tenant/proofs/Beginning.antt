-- The step `open`.
use Rattle.std.proofs.Common.{◌≡◌, inl, inr, refl, sym, ◌∙◌, ap, subst, ℕ, zero, suc, ◌+◌, ◌<◌, Bool, true, false, cond}
use Rattle.std.proofs.Common.{List, [], ◌∷◌, length, replicate, take, get_or, arith, length-append}
use Rattle.std.specs.Prelude.{Some, None, slice_get}
use Rattle.std.specs.List.{fold}
use Rattle.std.proofs.lemmas.List.Sums.{fold_more}
use Rattle.std.proofs.lemmas.Option.{slice_get_within}
use Rattle.std.proofs.lemmas.List.{length-replicate}
use Rattle.model.specs.declared.names.Quota.{Quota}
use Rattle.model.specs.declared.names.Seat.{Seat}
use Rattle.model.specs.declared.records.Record.{Record}
use Rattle.model.specs.declared.refusals.Refusal.TheVariants.{BadOpen}
use Rattle.model.specs.declared.replies.End.TheVariants.{Whole}
use Rattle.model.specs.declared.replies.Reply.TheVariants.{Opened, Refused}
use Rattle.model.specs.declared.steps.TenantStep.TheVariants.{Open}
use Rattle.model.specs.Handler.{Meaning}
use Rattle.model.specs.Steps.{can_open, kind_or_0, open_new, opened_with}
use Rattle.model.specs.Alone.Reachable.{opened}
use Rattle.theory.proofs.ListLaws.{get_append}
use Rattle.checkpoint.specs.declared.snapshot.Snapshot.{Snapshot}
use Rattle.compact.specs.Compact.{Compact, Progress, CompactUnit}
use Rattle.compact.specs.Steps.{first_unit, opened_of, with_first}
use Rattle.compact.proofs.Opens.{opens_follow}
use Rattle.rollback.specs.Units.{IsKept, begun_unit}
use Rattle.rollback_laws.proofs.Joins.{beginnings_are_seen}
use Rattle.tenant.specs.Kept.{TenantState, Member, begun_member, opened_kept, with_begun}
use Rattle.tenant.specs.Represents.{IsCompact, IsMember, Leaves}
use Rattle.tenant.proofs.Lasts.{last_none}
use Rattle.tenant.proofs.Follow.{leaves}

-- a unit at its beginning is kept
pub kept_begun : {S : Type 0} (M : Meaning S) (width : ℕ) (seat : Seat) → IsKept (begun_unit M width seat)
kept_begun {S} M width seat = record {
  base = refl;
  stable = omega arith;
  few = omega arith;
  top = λ x there. elim there [
    | inl e ↦ let i : x.index ≡ 0 = sym (index x e) in omega (arith, i)
    | inr e ↦ absurd (cc (e.1))
  ];
  rises = record { above = λ b i x e f. absurd (cc f); rising = λ i j x y h e f. absurd (cc e) };
  marks = λ i r e. absurd (cc e);
  outside = record { kept = omega arith; before = omega arith };
}
  where
    index : (x : Snapshot (Progress S)) → (begun_unit M width seat).shelf.base ≡ Some x → 0 ≡ x.index
    index x e = cc e

replicated : {X : Type 0} (n i : ℕ) (x : X) → i < n → slice_get (replicate n x) i ≡ Some x
replicated zero i x h = absurd (omega (arith, h))
replicated (suc n) zero x h = refl
replicated (suc n) (suc i) x h = replicated n i x (omega (arith, h))

module _ {S : Type 0} (M : Meaning S) (width : ℕ) (quota : Quota) (optimism : ℕ) where
  -- both at their beginning
  record Begins (u : ℕ) (m : Member S) (x : CompactUnit S) : Type 0 where
    pub seat : Seat
    pub own : seat.unit ≡ u
    pub member : m ≡ begun_member M width seat 0
    pub unit : x ≡ first_unit M width seat 0

  -- so far all units are at their beginning
  record AllBegin (ms : List (Member S)) (k : Compact S) : Type 0 where
    pub same : length ms ≡ length k.units
    pub each : (u : ℕ) (m : Member S) (x : CompactUnit S)
        → slice_get ms u ≡ Some m → slice_get k.units u ≡ Some x → Begins u m x
    pub table : k.table ≡ []
    pub letters : k.letters ≡ []
    pub quotas : k.quota ≡ quota
    pub optimisms : k.optimism ≡ optimism

  one_more : (kind : ℕ) (ms : List (Member S)) (k : Compact S)
      → AllBegin ms k → AllBegin (with_begun M width ms kind) (with_first M width k kind)
  one_more kind ms k b = record {
    same = let a = length-append ms (new ∷ []) in
        let c = length-append k.units (one ∷ []) in let d = b.same in omega (arith, a, c, d);
    each = λ u m x e f. elim (get_append ms new m u e) [
      | inl a ↦ elim (get_append k.units one x u f) [
        | inl c ↦ b.each u m x a c
        | inr c ↦ let within = slice_get_within ms u m a in
            let d = b.same in let g = c.0 in absurd (omega (arith, within, d, g))
      ]
      | inr a ↦ elim (get_append k.units one x u f) [
        | inl c ↦ let within = slice_get_within k.units u x c in
            let d = b.same in let g = a.0 in absurd (omega (arith, within, d, g))
        | inr c ↦ record {
          seat = record { unit = length ms; kind = kind; home = width };
          own = sym (a.0);
          member = a.1;
          unit = c.1 ∙ (λ i. first_unit
              M width (record { unit = sym (b.same) i; kind = kind; home = width }) (length (b.table i)));
        }
      ]
    ];
    table = b.table;
    letters = b.letters;
    quotas = b.quotas;
    optimisms = b.optimisms;
  }
    where
      new : Member S
      new = begun_member M width (record { unit = length ms; kind = kind; home = width }) 0

      one : CompactUnit S
      one = first_unit M width (record { unit = length k.units; kind = kind; home = width }) (length k.table)

  all_begin : (names : List (List ℕ)) (ms : List (Member S)) (k : Compact S) → AllBegin ms k
      → AllBegin (fold (λ ms n. with_begun M width ms (kind_or_0 (M.kind n))) ms names)
      (fold (λ k n. with_first M width k (kind_or_0 (M.kind n))) k names)
  all_begin [] ms k b = b
  all_begin (n ∷ names) ms k b = all_begin names (with_begun M width ms (kind_or_0 (M.kind n)))
      (with_first M width k (kind_or_0 (M.kind n))) (one_more (kind_or_0 (M.kind n)) ms k b)

  count_all : (names : List (List ℕ)) (ms : List (Member S))
      → length (fold (λ ms n. with_begun M width ms (kind_or_0 (M.kind n))) ms names) ≡ length ms + length names
  count_all [] ms = omega arith
  count_all (n ∷ names) ms =
      let a = count_all names (with_begun M width ms (kind_or_0 (M.kind n))) in
      let b = length-append ms
      (begun_member M width (record { unit = length ms; kind = kind_or_0 (M.kind n); home = width }) 0 ∷ []) in
      omega (arith, a, b)

-- one name more
pub more_begun : {S : Type 0} (M : Meaning S) (width : ℕ) (names : List (List ℕ)) (i : ℕ)
    (ms new : List (Member S)) (n : List ℕ) (kind home : ℕ) → i < length names → n ≡ get_or names i n → length ms ≡ i
    → ms ≡ fold (λ ms n. with_begun M width ms (kind_or_0 (M.kind n))) [] (take i names)
    → home ≡ width → kind ≡ kind_or_0 (M.kind n) → new ≡ with_begun M home ms kind
    → (length new ≡ i + 1) × (new ≡ fold (λ ms n. with_begun M width ms (kind_or_0 (M.kind n))) [] (take (i + 1) names))
more_begun {S} M width names i ms new n kind home within at long so_far wide is made =
    let a = ap length made in
    let b = length-append ms (begun_member M home (record { unit = length ms; kind = kind; home = home }) 0 ∷ []) in
    let f : List (Member S) → List ℕ → List (Member S) = λ ms n. with_begun M width ms (kind_or_0 (M.kind n)) in (
      omega (arith, a, b, long),
      made ∙ (λ j. with_begun M (wide j) (so_far j) ((is ∙ ap (λ n. kind_or_0 (M.kind n)) at) j))
          ∙ sym (fold_more f [] names i n within),
    )

module _ {S : Type 0} (M : Meaning S) (kinds : List (List ℕ)) (quota : Quota) (optimism : ℕ) where
  abbrev width : ℕ
  width = length kinds

  abbrev t : TenantState S
  t = opened_kept M kinds quota optimism

  abbrev k : Compact S
  k = (opened_of M kinds quota optimism).state

  all_begun : AllBegin M width quota optimism t.members k
  all_begun = all_begin M width
      quota optimism kinds [] (record { quota = quota; optimism = optimism; table = []; units = []; letters = [] })
      (record {
        same = refl;
        each = λ u m x e f. absurd (cc e);
        table = refl;
        letters = refl;
        quotas = refl;
        optimisms = refl;
      })

  count : length k.units ≡ width
  count = sym (all_begun.same)
      ∙ count_all M width quota optimism kinds [] ∙ (let e : 0 + length kinds ≡ length kinds = omega arith in e)

  opened_is : (live : ℕ → List ℕ) → IsCompact t live k
  opened_is live = record {
    quota = all_begun.quotas;
    optimism = all_begun.optimisms;
    table = all_begun.table;
    width = all_begun.same;
    stables = length-replicate width 1 ∙ sym count;
    fronts = length-replicate width 1 ∙ sym count;
    counts = length-replicate width 0 ∙ sym count;
    lines = length-replicate width [] ∙ sym count;
    members = λ u m x e f.
        let b = all_begun.each u m x e f in
        let within : u < width = (let a = slice_get_within k.units u x f in omega (arith, a, count)) in
        subst (λ (m : Member S). IsMember t live u m x) (sym b.member)
        (subst (λ (x : CompactUnit S). IsMember t live u (begun_member M width b.seat 0) x) (sym b.unit) (record {
          kept = kept_begun M width b.seat;
          seen = beginnings_are_seen M width 0 b.seat;
          own = b.own;
          outputs = refl;
          known = refl;
          stable = replicated width u 1 within;
          frontier = replicated width u 1 within;
          released = ([], [], replicated width u 0 within, replicated width u [] within, refl);
          places = last_none (live u);
        }));
    letters = all_begun.letters;
  }

  pub open_done : can_open M kinds quota optimism ≡ true → (name : List ℕ) (live : ℕ → List ℕ) (log : List Record)
      → Leaves M name live (open_new M kinds quota optimism) (Opened (length kinds)) t log
  open_done can name live log = leaves M name live log (open_new M kinds quota optimism)
      (λ z f. opened (record { step = Open kinds quota optimism; said = record { appended = 0; end = Whole } }) f)
      _ (opened_of M kinds quota optimism)
      (opens_follow M name log kinds quota optimism can) refl t (opened_is live)

  pub open_refused : can_open M kinds quota optimism ≡ false
      → open_new M kinds quota optimism ≡ record { reply = Refused BadOpen; world = None }
  open_refused can =
      ap (λ b. cond b (opened_with M kinds quota optimism) (record { reply = Refused BadOpen; world = None })) can

  -- the same, by what the calls give
  pub open_is : (names : List (List ℕ)) → names ≡ kinds → (b : Bool)
      → b ≡ can_open M names quota optimism → b ≡ true → (v : TenantState S) → v ≡ opened_kept M names quota optimism
      → (name : List ℕ) (live : ℕ → List ℕ) (log : List Record)
      → Leaves M name live (open_new M kinds quota optimism) (Opened (length names)) v log
  open_is names same b is e v made name live log =
      let can : can_open M kinds quota optimism ≡ true =
      ap (λ ns. can_open M ns quota optimism) (sym same) ∙ sym is ∙ e in
      let tenant : v ≡ t = made ∙ ap (λ ns. opened_kept M ns quota optimism) same in
      subst (λ (n : ℕ). Leaves M name live (open_new M kinds quota optimism) (Opened n) v log) (ap length (sym same))
      (subst (λ (q : TenantState S). Leaves M name live (open_new M kinds quota optimism) (Opened (length kinds)) q log)
      (sym tenant) (open_done can name live log))
