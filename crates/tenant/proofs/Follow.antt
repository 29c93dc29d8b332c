-- What a tenant answers and leaves follows the compact state that it keeps.
use Rattle.std.proofs.Common.{◌≡◌, inl, inr, refl, sym, ◌∙◌, ap, subst, ℕ, Bool, true, false, cond, not, List, [], ◌∷◌}
use Rattle.std.proofs.Common.{length, arith}
use Rattle.std.specs.Prelude.{Some, None, slice_get, slice_set}
use Rattle.std.specs.Option.{is_some}
use Rattle.std.proofs.lemmas.List.{length-set}
use Rattle.std.proofs.lemmas.Option.{slice_get_past, slice_get_within, same_Some}
use native.Mathlib.Decide.{dec_lt}
use Rattle.model.specs.declared.records.Record.{Record}
use Rattle.model.specs.declared.refusals.Refusal.{Refusal}
use Rattle.model.specs.declared.refusals.Refusal.TheVariants.{Down, NoUnit}
use Rattle.model.specs.declared.replies.Reply.TheVariants.{Refused}
use Rattle.model.specs.Handler.{Meaning}
use Rattle.model.specs.World.{World}
use Rattle.model.specs.Steps.{Outcome, first_refusal}
use Rattle.model.specs.Alone.{Reachable}
use Rattle.model.proofs.Places.{get_below}
use Rattle.theory.proofs.ListLaws.{get_set, set_get_other}
use Rattle.compact.specs.Compact.{Compact, Represents, CompactUnit}
use Rattle.compact.specs.Steps.{StepResult, at_unit_of, at_up_of, or_refused, with_unit_at}
use Rattle.compact.specs.StepLaws.{Answers, StandsCompact}
use Rattle.tenant.specs.Kept.{TenantState, Member, up_refusal}
use Rattle.tenant.specs.Represents.{IsCompact, IsMember, Leaves}

-- What the compact state answers, a tenant does, and it keeps a compact state that stands for the same world as the one
-- left.
pub leaves_on : {S : Type 0} (M : Meaning S) (name : List ℕ) (live : ℕ → List ℕ) (log : List Record) (outcome : Outcome)
    → ((z : World) → outcome.world ≡ Some z → Reachable M z) → (done given : StepResult S)
    → Answers M name outcome done log → done ≡ given
    → (k : Compact S) → ((z : World) → StandsCompact M name given.state z log → Represents M name k z log)
    → (t : TenantState S) → IsCompact t live k → Leaves M name live outcome given.reply t log
leaves_on {S} M name live log outcome reach done given a same k goes t is =
    let z = a.after.0 in
    let there : outcome.world ≡ Some z = a.after.1 in
    let reply : outcome.reply ≡ given.reply = a.reply ∙ ap (λ (d : StepResult S). d.reply) same in
    let represents : Represents M name given.state z log =
    subst (λ (d : StepResult S). Represents M name d.state z log) same a.after.2 in (
      z,
      (λ i. record { reply = reply i; world = there i }),
      (
        k,
        is,
        record {
          reached = reach z there;
          represents = goes z (record { reached = reach z there; represents = represents });
        },
      ),
    )

-- or the very one
pub leaves : {S : Type 0} (M : Meaning S) (name : List ℕ) (live : ℕ → List ℕ) (log : List Record) (outcome : Outcome)
    → ((z : World) → outcome.world ≡ Some z → Reachable M z) → (done given : StepResult S)
    → Answers M name outcome done log
    → done ≡ given → (t : TenantState S) → IsCompact t live given.state → Leaves M name live outcome given.reply t log
leaves M name live log outcome reach done given a same t is =
    leaves_on M name live log outcome reach done given a same given.state (λ z stands. stands.represents) t is

-- ---- one unit

-- the unit of the compact state that a member keeps
pub record KeepsUnit {S : Type 0}
    (t : TenantState S) (live : ℕ → List ℕ) (k : Compact S) (u : ℕ) (m : Member S) : Type 0 where
  pub unit : CompactUnit S
  pub at : slice_get k.units u ≡ Some unit
  pub is : IsMember t live u m unit

module _ {S : Type 0} (t : TenantState S) (live : ℕ → List ℕ) (k : Compact S) (is : IsCompact t live k) (u : ℕ) where
  -- Each member of a tenant keeps a unit of the compact state.
  pub keeps : (m : Member S) → slice_get t.members u ≡ Some m → KeepsUnit t live k u m
  keeps m e =
      let within = slice_get_within t.members u m e in
      let width = is.width in
      let x = get_below k.units u (omega (arith, within, width)) in
      record { unit = x.0; at = x.1; is = is.members u m x.0 e x.1 }

  -- Where a tenant has no member, its compact state has no unit.
  pub none_kept : slice_get t.members u ≡ None → slice_get k.units u ≡ None
  none_kept e = elim (dec_lt u (length t.members)) [
    | yes q ↦ let m = get_below t.members u q in absurd (different m.0 (sym m.1 ∙ e))
    | no q ↦ slice_get_past k.units u (let width = is.width in omega (arith, q, width))
  ]
    where
      different : (m : Member S) → Some m ≡ None → ⊥
      different m e = cc e

  -- a unit that is not there
  pub no_unit : (h : CompactUnit S → StepResult S) → slice_get t.members u ≡ None
      → at_unit_of k h (slice_get k.units u) ≡ record { reply = Refused NoUnit; state = k }
  no_unit h e = ap (at_unit_of k h) (none_kept e)

  down : (done : StepResult S) (r : Refusal) (up b : Bool) → up ≡ b → cond b None (Some Down) ≡ Some r
      → or_refused k done (first_refusal ((not up, Down) ∷ [])) ≡ record { reply = Refused r; state = k }
  unfolding first_refusal
  down done r true true e f = absurd (cc f)
  down done r true false e f = absurd (cc e)
  down done r false true e f = absurd (cc e)
  down done r false false e f = let q : Down ≡ r = same_Some Down r f in
      ap (λ (r : Refusal). record { reply = Refused r; state = k }) q

  -- or not up
  pub not_up : (h : CompactUnit S → StepResult S) (r : Refusal) → up_refusal (slice_get t.members u) ≡ Some r
      → at_up_of k h (slice_get k.units u) ≡ record { reply = Refused r; state = k }
  not_up h r e = elim (dec_lt u (length t.members)) [
    | yes q ↦
        let m = get_below t.members u q in
        let x = keeps m.0 m.1 in
        ap (at_up_of k h) x.at
        ∙ down (h x.unit) r x.unit.up (is_some m.0.unit_state.progress) x.is.seen.up (ap up_refusal (sym m.1) ∙ e)
    | no q ↦
        let none = slice_get_past t.members u (omega (arith, q)) in
        let f : Some NoUnit ≡ Some r = ap up_refusal (sym none) ∙ e in
        let same : NoUnit ≡ r = same_Some NoUnit r f in
        ap (at_up_of k h) (none_kept none) ∙ ap (λ (r : Refusal). record { reply = Refused r; state = k }) same
  ]

  up : (done : StepResult S) (b : Bool) → b ≡ true → or_refused k done (first_refusal ((not b, Down) ∷ [])) ≡ done
  unfolding first_refusal
  up done true e = refl
  up done false e = absurd (cc e)

  -- and one that is
  pub is_up : (h : CompactUnit S → StepResult S) (m : Member S) (x : KeepsUnit t live k u m)
      → is_some m.unit_state.progress ≡ true → at_up_of k h (slice_get k.units u) ≡ h x.unit
  is_up h m x e = ap (at_up_of k h) x.at ∙ up (h x.unit) x.unit.up (x.is.seen.up ∙ e)

  -- what a unit keeps is the same beside other units and where as much is released of it
  beside : (members : List (Member S)) (released : List (List (List ℕ))) (v : ℕ) (m : Member S) (x : CompactUnit S)
      → slice_get released v ≡ slice_get t.released v
      → IsMember t live v m x → IsMember (record t { members = members; released = released }) live v m x
  beside members released v m x same i = record {
    kept = i.kept;
    seen = i.seen;
    own = i.own;
    outputs = i.outputs;
    known = i.known;
    stable = i.stable;
    frontier = i.frontier;
    released = (i.released.0, i.released.1, i.released.2, same ∙ i.released.3, i.released.4);
    places = i.places;
  }

  -- one unit changes, and what it released
  pub with_one_out : (m : Member S) (x : CompactUnit S) (texts : List (List ℕ))
      → IsMember (record t { members = slice_set t.members u m; released = slice_set t.released u texts }) live u m x
      → IsCompact (record t { members = slice_set t.members u m; released = slice_set t.released u texts })
      live (with_unit_at k u x)
  with_one_out m x texts i = record {
    quota = is.quota;
    optimism = is.optimism;
    table = is.table;
    width = length-set t.members u m ∙ is.width ∙ sym (length-set k.units u x);
    stables = is.stables ∙ sym (length-set k.units u x);
    fronts = is.fronts ∙ sym (length-set k.units u x);
    counts = is.counts ∙ sym (length-set k.units u x);
    lines = length-set t.released u texts ∙ is.lines ∙ sym (length-set k.units u x);
    members = λ v n y atn aty. elim (get_set t.members u v m n atn) [
      | inl a ↦ elim (get_set k.units u v x y aty) [
        | inl b ↦ rw (a.0, a.1, b.1) i
        | inr b ↦ absurd (b.0 a.0)
      ]
      | inr a ↦ elim (get_set k.units u v x y aty) [
        | inl b ↦ absurd (a.0 b.0)
        | inr b ↦ beside (slice_set t.members u m)
            (slice_set t.released u texts) v n y (set_get_other t.released u v texts a.0) (is.members v n y a.1 b.1)
      ]
    ];
    letters = is.letters;
  }

  -- one unit changes
  pub with_one : (m : Member S) (x : CompactUnit S)
      → IsMember t live u m x → IsCompact (record t { members = slice_set t.members u m }) live (with_unit_at k u x)
  with_one m x i = record {
    quota = is.quota;
    optimism = is.optimism;
    table = is.table;
    width = length-set t.members u m ∙ is.width ∙ sym (length-set k.units u x);
    stables = is.stables ∙ sym (length-set k.units u x);
    fronts = is.fronts ∙ sym (length-set k.units u x);
    counts = is.counts ∙ sym (length-set k.units u x);
    lines = is.lines ∙ sym (length-set k.units u x);
    members =
        λ v n y atn aty. beside (slice_set t.members u m) t.released v n y refl (elim (get_set t.members u v m n atn) [
          | inl a ↦ elim (get_set k.units u v x y aty) [
            | inl b ↦ rw (a.0, a.1, b.1) i
            | inr b ↦ absurd (b.0 a.0)
          ]
          | inr a ↦ elim (get_set k.units u v x y aty) [
            | inl b ↦ absurd (a.0 b.0)
            | inr b ↦ is.members v n y a.1 b.1
          ]
        ]);
    letters = is.letters;
  }
