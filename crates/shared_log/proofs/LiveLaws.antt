-- Laws of the live records of a log, as they are written out.
use Rattle.std.proofs.Common.{◌≡◌, refl, sym, ◌∙◌, ap, subst, ℕ, zero, suc, List, [], ◌∷◌, ◌++◌, length, arith}
use Rattle.std.proofs.Common.{append_assoc, slice_get}
use Rattle.std.specs.Prelude.{◌<◌, All, Contains, Option, None, Some, slice_index_or}
use Rattle.std.proofs.lemmas.List.Elements.{All-append, All-nil, All-cons, All-contains}
use Rattle.std.proofs.lemmas.List.Elements.{Contains-append_left, Contains-append_right, Contains-push}
use Rattle.model.specs.declared.records.Record.{Record}
use Rattle.shared_log.specs.Filled.{filled, pair_at, pairs_at, AreLiveIn, HaveAllLivePlaces, NamesAllTenants}
use Rattle.shared_log.specs.Logged.{Logged, places_of}
use Rattle.shared_log.proofs.FilledLaws.{live_listed, refilled}

-- some places and then others
pub pairs_append : (records : List (Option Record)) (first more : List ℕ)
    → pairs_at records (first ++ more) ≡ pairs_at records first ++ pairs_at records more
pairs_append records [] more = refl
pairs_append records (place ∷ first) more =
    ap (λ (ps : List (ℕ × Record)). pair_at place (slice_get records place) ++ ps) (pairs_append records first more)
    ∙ sym (append_assoc (pair_at place (slice_get records place)) (pairs_at records first) (pairs_at records more))

-- one place more, which has this record
pub pairs_push : (records : List (Option Record)) (first : List ℕ) (place : ℕ) (r : Record)
    → slice_get records place ≡ Some (Some r)
    → pairs_at records (first ++ place ∷ []) ≡ pairs_at records first ++ (place, r) ∷ []
pairs_push records first place r e =
    pairs_append records first (place ∷ [])
    ∙ ap (λ (o : Option (Option Record)). pairs_at records first ++ (pair_at place o ++ [])) e

one_live : (records : List (Option Record)) (place : ℕ) (o : Option (Option Record)) → slice_get records place ≡ o
    → AreLiveIn records (pair_at place o)
one_live records place None e = All-nil (λ (pair : ℕ × Record). slice_get records pair.0 ≡ Some (Some pair.1))
one_live records place (Some None) e = All-nil (λ (pair : ℕ × Record). slice_get records pair.0 ≡ Some (Some pair.1))
one_live records place (Some (Some r)) e =
    let P : ℕ × Record → Type 0 = λ pair. slice_get records pair.0 ≡ Some (Some pair.1) in
    All-cons P (place, r) [] e (All-nil P)

-- Each of the pairs is a live record of the list, with its place.
pub pairs_live : (records : List (Option Record)) (places : List ℕ) → AreLiveIn records (pairs_at records places)
pairs_live records [] = All-nil (λ (pair : ℕ × Record). slice_get records pair.0 ≡ Some (Some pair.1))
pairs_live records (place ∷ places) =
    All-append (λ (pair : ℕ × Record). slice_get records pair.0 ≡ Some (Some pair.1))
    (pair_at place (slice_get records place)) (pairs_at records places)
    (one_live records place (slice_get records place) refl) (pairs_live records places)

pairs_have_at : (records : List (Option Record)) (places : List ℕ) (place : ℕ) (r : Record) (k : ℕ)
    → k < length places → slice_index_or places k place ≡ place → slice_get records place ≡ Some (Some r)
    → Contains (pairs_at records places) (place, r)
pairs_have_at records [] place r zero h e live = absurd (omega arith)
pairs_have_at records [] place r (suc k) h e live = absurd (omega arith)
pairs_have_at records (q ∷ places) place r zero h e live =
    Contains-append_left (pair_at q (slice_get records q)) (pairs_at records places) (place, r)
    (subst (λ (p : ℕ). Contains (pair_at p (slice_get records p)) (place, r)) (sym e)
    (subst (λ (o : Option (Option Record)). Contains (pair_at place o) (place, r)) (sym live)
    (Contains-push [] (place, r))))
pairs_have_at records (q ∷ places) place r (suc k) h e live =
    Contains-append_right (pair_at q (slice_get records q)) (pairs_at records places) (place, r)
    (pairs_have_at records places place r k (omega arith) e live)

-- A live record is among the pairs where its place is among the places.
pub pairs_have : (records : List (Option Record)) (places : List ℕ) (place : ℕ) (r : Record)
    → Contains places place → slice_get records place ≡ Some (Some r) → Contains (pairs_at records places) (place, r)
pairs_have records places place r h live = pairs_have_at records places place r h.0 h.1 h.2 live

-- Writing out each live place of a log and putting its record into as many empty places gives the records of the log.
pub rewritten : (records : List (Option Record)) (places : List ℕ) → HaveAllLivePlaces records places
    → filled (length records) (pairs_at records places) ≡ records
rewritten records places all =
    refilled records (pairs_at records places) (pairs_live records places)
    (λ place r live. pairs_have records places place r (all place r live) live)

-- Where the places of each unit of each tenant that is named are among these, each live place is.
pub all_met : (log : Logged) (names : List (List ℕ)) (places : List ℕ) → NamesAllTenants log.records names
    → All (λ (tenant : List ℕ). (unit place : ℕ) → Contains (places_of tenant unit log) place
    → Contains places place) names
    → HaveAllLivePlaces log.records places
all_met log names places named all = λ place r live.
    All-contains (λ (tenant : List ℕ). (unit place : ℕ) → Contains (places_of tenant unit log) place
    → Contains places place) names r.tenant all (named place r live) r.unit place (live_listed log place r live)
