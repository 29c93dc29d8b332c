-- What a tenant keeps is what the certificate of its world is made of.
use Rattle.std.proofs.Common.{◌≡◌, sym, ◌∙◌, ap, ℕ, List}
use Rattle.std.proofs.lemmas.List.{map-id}
use Rattle.std.proofs.lemmas.Option.{same_Some}
use Rattle.model.specs.declared.records.Record.{Record}
use Rattle.model.specs.Handler.{Meaning}
use Rattle.model.specs.Nodes.{Message}
use Rattle.model.specs.World.{World, executed}
use Rattle.layer_laws.specs.Laws.{frontier, frontiers}
use Rattle.certificate.specs.Laws.{IsKeptOf}
use Rattle.certificate.specs.Moves.{route_of, routes_of}
use Rattle.compact.specs.Compact.{CompactLetter}
use Rattle.compact.proofs.Words.{maps_same}
use Rattle.tenant.specs.Kept.{TenantState}
use Rattle.tenant.specs.Reads.{routes_by}
use Rattle.tenant.specs.Represents.{StandsFor}
use Rattle.tenant.proofs.Reading.{stands_at, table_same}

module _ {S : Type 0} (M : Meaning S) (name : List ℕ)
    (live : ℕ → List ℕ) (t : TenantState S) (w : World) (log : List Record) (s : StandsFor M name live t w log) where
  frontiers_same : t.frontiers ≡ frontiers w
  frontiers_same = sym (map-id t.frontiers)
      ∙ maps_same (λ (f : ℕ). f) (frontier w) t.frontiers w.members (s.1.fronts ∙ s.2.represents.width) (λ u f m a b.
      let x = stands_at M name live t w log s u m b in
      same_Some f x.unit.frontier (sym a ∙ x.kept.frontier) ∙ x.stands.front)

  route_same : (x : CompactLetter) (m : Message)
      → x.source ≡ m.source → x.receiver ≡ m.receiver → record { source = x.source; receiver = x.receiver } ≡ route_of m
  route_same x m a b = λ i. record { source = a i; receiver = b i }

  routes_same : routes_by t.letters ≡ routes_of M w
  routes_same = ap routes_by (sym s.1.letters) ∙ maps_same (λ (l : CompactLetter). record {
    source = l.source;
    receiver = l.receiver;
  }) route_of s.0.letters (executed M w).letters s.2.represents.sent (λ l x m a b.
      let is = s.2.represents.letters l m x b a in
      route_same x m is.source is.receiver)

  -- The table, the frontiers and the letters' routes of a tenant are those of its world.
  pub is_kept_of : IsKeptOf M w t.table t.frontiers (routes_by t.letters)
  is_kept_of =
      record { table_is = table_same M name live t w log s; frontiers_are = frontiers_same; routes_are = routes_same }
