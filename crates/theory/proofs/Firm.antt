-- A firm node stays firm.
use Rattle.std.proofs.Common.{◌≡◌, refl, sym, ◌∙◌, ℕ, zero, suc, ◌+◌, ◌<◌, ◌≤◌, true, false, List, [], ◌∷◌, length}
use Rattle.std.proofs.Common.{arith, map}
use Rattle.std.specs.Prelude.{Some, slice_get, slice_set}
use Rattle.std.proofs.lemmas.Option.{slice_get_within, same_Some}
use native.Mathlib.Decide.{ℕ_discrete}
use Rattle.model.specs.declared.names.Row.{Row}
use Rattle.model.specs.Handler.{Meaning}
use Rattle.model.specs.Lists.{has}
use Rattle.model.specs.Nodes.{Node, node_at, past, DependsOn, sender_of}
use Rattle.model.specs.World.{World, Member, is_orphan, is_stable, is_firm, stable_path, releasable}
use Rattle.model.specs.Steps.{with_member, with_receipt, with_unit, gone_back, path_kept, next_node, flushed, killed}
use Rattle.model.specs.Steps.{with_known, with_released}
use Rattle.model.specs.Nodes.DependsOn.{itself}
use Rattle.model.proofs.Places.{get_below}
use Rattle.theory.proofs.ListLaws.{get_take, kept_if_all_pass, has_at, at_has, any_at, at_any, all_has, has_all}
use Rattle.theory.proofs.ListLaws.{set_get_same, set_get_other, append_get, take_get, has_before}
use Rattle.theory.proofs.Pasts.{Placed, depends_less, depends_trans, depends_le, past_depends, depends_past}
use Rattle.theory.proofs.Pasts.{from_parent}
use Rattle.theory.proofs.Changes.{Change}
use Rattle.theory.proofs.Changes.Change.{unchanged, receives, flushes, dies, goes_back, learns, releases, joins}
use Rattle.theory.proofs.Invariants.{Sound, SoundMember, not_orphan, sound_change}

-- the node stands on a path within its stable length
pub record StandsStable (members : List Member) (y : ℕ) : Type 0 where
  pub unit : ℕ
  pub member : Member
  pub place : ℕ
  pub found : slice_get members unit ≡ Some member
  pub on_path : slice_get member.path place ≡ Some y
  pub logged : place < member.stable

-- a stable node stands on a path within its stable length
pub stable_stands : (members : List Member) (y : ℕ) → is_stable members y ≡ true → StandsStable members y
stable_stands members y e =
    let r = any_at (λ m. has (stable_path m) y) members e in
    let m = r.1.0 in
    let k = has_at (stable_path m) y r.1.2 in
    let t = get_take m.path m.stable k.0 y k.1 in
    record { unit = r.0; member = m; place = k.0; found = r.1.1; on_path = t.0; logged = t.1 }

-- and a node that stands so is stable
pub stands_stable : (members : List Member) (y : ℕ) → StandsStable members y → is_stable members y ≡ true
stands_stable members y s =
    at_any (λ m. has (stable_path m) y) members s.unit s.member s.found
    (at_has (stable_path s.member) s.place y (take_get s.member.path s.member.stable s.place y s.logged s.on_path))

-- what a firm node depends on stands so
pub firm_stands : (w : World) (x y : ℕ)
    → Placed w.nodes → x < length w.nodes → is_firm w x ≡ true → DependsOn w.nodes x y → StandsStable w.members y
firm_stands w x y placed within firm d =
    let le = depends_le placed d in
    stable_stands w.members
    y (all_has (is_stable w.members) (past w.nodes x) firm y (depends_past w.nodes placed x y d (omega arith)))

-- and a node is firm where all of that does
pub stands_firm : (w : World) (x : ℕ)
    → ((y : ℕ) → DependsOn w.nodes x y → StandsStable w.members y) → is_firm w x ≡ true
stands_firm w x h =
    has_all (is_stable w.members) (past w.nodes x) (λ y e. stands_stable w.members y (h y (past_depends w.nodes x y e)))

-- what stands goes on standing where its unit's new path has it too
stands_set : (members : List Member) (y u : ℕ) (m n : Member) → slice_get members u ≡ Some m
    → ((i : ℕ) → slice_get m.path i ≡ Some y → i < m.stable → (slice_get n.path i ≡ Some y) × (i < n.stable))
    → StandsStable members y → StandsStable (slice_set members u n) y
stands_set members y u m n found goes s = elim (ℕ_discrete s.unit u) [
  | yes e ↦
      let is : s.member ≡ m = same_Some s.member m (sym s.found ∙ rw e found) in
      let r = goes s.place (rw is at s.on_path) (rw is at s.logged) in
      record {
        unit = u;
        member = n;
        place = s.place;
        found = set_get_same members u n m found;
        on_path = r.0;
        logged = r.1;
      }
  | no e ↦ record {
    unit = s.unit;
    member = s.member;
    place = s.place;
    found = set_get_other members u s.unit n e ∙ s.found;
    on_path = s.on_path;
    logged = s.logged;
  }
]

-- a node of a path depends on those before it
pub path_depends : {nodes : List Node} {table : List Row} {u : ℕ} {m : Member} → SoundMember nodes table u m
    → (i j y z : ℕ) → slice_get m.path i ≡ Some y → slice_get m.path j ≡ Some z → j ≤ i → DependsOn nodes y z
path_depends s zero j y z e f le =
    let is : j ≡ 0 = omega arith in
    let same : y ≡ z = same_Some y z (sym e ∙ rw is at f) in rw same itself
path_depends {nodes} {m = m} s (suc i) j y z e f le = elim (ℕ_discrete j (suc i)) [
  | yes q ↦ let same : y ≡ z = same_Some y z (sym e ∙ rw q at f) in rw same itself
  | no q ↦
      let within = slice_get_within m.path (suc i) y e in
      let r = get_below m.path i (omega arith) in
      from_parent (has_before (node_at nodes y).before (sender_of (node_at nodes y).cause)
      r.0 (s.chained i r.0 y r.1 e)) (path_depends s i j r.0 z r.1 f (omega arith))
]

module _ {S : Type 0} (M : Meaning S) where
  -- going back cuts no firm node
  back_stands : (v : World) → Sound v → (x : ℕ) → ((y : ℕ) → DependsOn v.nodes x y → StandsStable v.members y)
      → (u : ℕ) (m : Member) → slice_get v.members u ≡ Some m
      → (y i : ℕ) → DependsOn v.nodes x y → slice_get m.path i ≡ Some y → slice_get (path_kept v m) i ≡ Some y
  back_stands v s x firm u m found y i d e = kept_if_all_pass _ m.path i y e (λ j z le f.
      let safe : is_orphan v.nodes v.table z ≡ false = not_orphan v.nodes v.table z (λ q g.
      let st = firm q (depends_trans d (depends_trans (path_depends (s.units u m found) i j y z e f le) g)) in
      (s.units st.unit st.member st.found).kept st.place q st.on_path) in
      rw safe refl)

  -- a change keeps firm nodes firm
  pub firm_change : {v w : World}
      → Sound v → Change M v w → (x : ℕ) → x < length v.nodes → is_firm v x ≡ true → is_firm w x ≡ true
  firm_change s unchanged x within e = e
  firm_change {v} s (receives u m cause found up may) x within e =
      let next = next_node v u m cause in
      let after = sound_change M s (receives u m cause found up may) in
      stands_firm (with_receipt v u m cause) x (λ y d. stands_set v.members y u m _ found
      (λ i h l. (append_get m.path (length v.nodes ∷ []) i y h, l))
      (firm_stands v x y s.placed within e (depends_less next after.placed within d)))
  firm_change {v} s (flushes u k m found h) x within e =
      stands_firm (with_member v u (flushed m k)) x (λ y d.
      stands_set v.members y u m _ found (λ i q l. (q, omega arith)) (firm_stands v x y s.placed within e d))
  firm_change {v} s (dies u m found) x within e =
      stands_firm (with_member v u (killed m)) x (λ y d. stands_set v.members
      y u m _ found (λ i q l. (take_get m.path m.stable i y l q, l)) (firm_stands v x y s.placed within e d))
  firm_change {v} s (goes_back u m found room) x within e =
      stands_firm (gone_back v u m (path_kept v m)) x (λ y d. stands_set v.members y u m _ found
      (λ i q l.
      let k = back_stands v s x (λ z g. firm_stands v x z s.placed within e g) u m found y i d q in
      (k, omega (arith, slice_get_within (path_kept v m) i y k)))
      (firm_stands v x y s.placed within e d))
  firm_change {v} s (learns u m found h) x within e =
      stands_firm (with_member v u (with_known m (length v.table)))
      x (λ y d. stands_set v.members y u m _ found (λ i q l. (q, l)) (firm_stands v x y s.placed within e d))
  firm_change {v} s (releases u m found) x within e =
      stands_firm (with_member v u (with_released m (map (λ o. o.1) (releasable M v m))))
      x (λ y d. stands_set v.members y u m _ found (λ i q l. (q, l)) (firm_stands v x y s.placed within e d))
  firm_change {v} s (joins kind room) x within e =
      let after = sound_change M s (joins kind room) in
      stands_firm (with_unit (length v.members + 1) v kind) x (λ y d.
      let st = firm_stands v x y s.placed within e (depends_less _ after.placed within d) in
      record {
        unit = st.unit;
        member = st.member;
        place = st.place;
        found = append_get v.members _ st.unit st.member st.found;
        on_path = st.on_path;
        logged = st.logged;
      })
