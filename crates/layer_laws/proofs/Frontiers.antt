-- A unit's frontier tells which nodes of its path are firm, and so which held outputs can go.
use Rattle.std.proofs.Common.{◌≡◌, refl, sym, ◌∙◌, ap, ℕ, ◌+◌, true, List, [], ◌∷◌, length, map}
use Rattle.std.specs.Prelude.{Some, slice_get, nat_lt}
use Rattle.std.specs.List.{take_while}
use Rattle.std.proofs.lemmas.Option.{slice_get_within, same_Some}
use Rattle.model.specs.Handler.{Meaning}
use Rattle.model.specs.Lists.{from_end}
use Rattle.model.specs.Nodes.{node_at, begun}
use Rattle.model.specs.World.{World, Member, executed, is_firm, mark_of, held, path_outputs}
use Rattle.model.proofs.Places.{get_below}
use Rattle.theory.proofs.ListLaws.{get_drop, get_take_while, index_map, kept_if_all_pass, take_while_passes, lt_true}
use Rattle.theory.proofs.ListLaws.{true_lt}
use Rattle.theory.proofs.Invariants.{Sound}
use Rattle.theory.proofs.Firm.{path_depends}
use Rattle.theory.proofs.Fronts.{firm_past}
use Rattle.theory.proofs.VectorLaw.{same_bools}
use Rattle.theory.proofs.Certificate.{reachable_invariant}
use Rattle.output_commit.specs.declared.held.Held.{Held}
use Rattle.output_commit.specs.Holds.{first_is_firm}
use Rattle.layer_laws.specs.Laws.{frontier, is_first_firm, FrontiersTell}
use Rattle.layer_laws.proofs.Fronts.{same_front, pair_on_path}

-- a node of the path is firm just where it is before the frontier
pub frontier_tells : (w : World) → Sound w → (u i x : ℕ) (m : Member)
    → slice_get w.members u ≡ Some m → slice_get m.path i ≡ Some x → nat_lt i (frontier w m) ≡ is_firm w x
frontier_tells w s u i x m found e = same_bools (nat_lt i (frontier w m)) (is_firm w x) there back
  where
    there : nat_lt i (frontier w m) ≡ true → is_firm w x ≡ true
    there h =
        let g = get_below (take_while (is_firm w) m.path) i (lt_true i (frontier w m) h) in
        let is : g.0 ≡ x = same_Some g.0 x (sym (get_take_while (is_firm w) m.path i g.0 g.1).0 ∙ e) in
        ap (is_firm w) (sym is) ∙ take_while_passes (is_firm w) m.path i g.0 g.1

    back : is_firm w x ≡ true → nat_lt i (frontier w m) ≡ true
    back firm =
        let o = s.units u m found in
        let kept = kept_if_all_pass (is_firm w)
        m.path i x e (λ j y le f. firm_past w x y s.placed (o.made i x e) firm (path_depends o i j x y e f le)) in
        true_lt i (frontier w m) (slice_get_within (take_while (is_firm w) m.path) i x kept)

-- an output with the mark of its node
abbrev pub marked : World → (ℕ × List ℕ) → Held
marked w o = record { mark = mark_of (node_at w.nodes o.0); text = o.1 }

texts_marked : (w : World) (os : List (ℕ × List ℕ)) → map (λ (h : Held). h.text) (map (marked w) os) ≡ map (λ o. o.1) os
texts_marked w [] = refl
texts_marked w (o ∷ os) = ap (λ r. o.1 ∷ r) (texts_marked w os)

first_tells : (w : World) (n : ℕ) (os : List (ℕ × List ℕ)) → ((i : ℕ) (o : ℕ × List ℕ)
    → slice_get os i ≡ Some o → nat_lt (mark_of (node_at w.nodes o.0)).index n ≡ is_firm w o.0)
    → first_is_firm n (map (marked w) os) ≡ is_first_firm w os
first_tells w n [] h = refl
first_tells w n (o ∷ os) h = h 0 o refl

module _ {S : Type 0} (M : Meaning S) where
  -- A unit's frontier tells which of its held outputs can be released.
  pub frontiers_tell : FrontiersTell M
  frontiers_tell w r u m found =
      let s = (reachable_invariant M r).chain.sound in
      let tells : (i : ℕ) (o : ℕ × List ℕ) → slice_get (held M w m) i ≡ Some o
      → nat_lt (mark_of (node_at w.nodes o.0)).index (frontier w m) ≡ is_firm w o.0 = (λ i o e.
      let p = pair_on_path (λ x. (from_end (executed M w).turns x (begun M m.seat)).outputs)
      m.path (length m.released + i) o (get_drop (path_outputs M w m) (length m.released) i o e) in
      ap (λ k. nat_lt k (frontier w m)) ((s.units u m found).indexed p.0 o.0 p.1)
      ∙ frontier_tells w s u p.0 o.0 m found p.1) in
      record {
        lent = index_map (frontier w) w.members u m found;
        front = first_tells w (frontier w m) (held M w m) tells;
        all = ap (map (λ (h : Held). h.text)) (same_front (λ o. is_firm w o.0)
            (λ (h : Held). nat_lt h.mark.index (frontier w m)) (marked w) (held M w m) tells)
            ∙ texts_marked w (take_while (λ o. is_firm w o.0) (held M w m));
      }
