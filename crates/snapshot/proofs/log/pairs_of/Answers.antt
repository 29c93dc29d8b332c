use Rattle.std.proofs.Common.{◌≡◌, ◌∙◌, sym, ap, subst, List, ℕ, ◌∷◌, [], ◌++◌, take, slice_get, get_or}
use Rattle.std.proofs.lemmas.List.{take_more}
use Rattle.std.specs.Prelude.{Option, Some}
use Rattle.model.specs.declared.records.Record.{Record}
use Rattle.shared_log.specs.Filled.{pairs_at}
use Rattle.shared_log.specs.Logged.{IsHeld}
use Rattle.shared_log.proofs.LiveLaws.{pairs_push}
use Rattle.snapshot.proofs.log.pairs_of.Goals as goal

pub copy_of-requires : goal.copy_of-requires
copy_of-requires c =
    subst (λ (rs : List (Option Record)). IsHeld rs (get_or c.args.places.now c.loop-place.place-index 0))
    (sym c.store-store.ensures.records) (c.requires c.loop-place.place-index 0 c.loop-place-test.true)

pub loop-place-preserved : goal.loop-place-preserved
loop-place-preserved c =
    let rs = c.args.log.now.records in
    let place = get_or c.args.places.now c.loop-place.place-index 0 in
    let first = take c.loop-place.place-index c.args.places.now in
    let held : slice_get c.args.log.now.records (get_or c.args.places.now c.loop-place.place-index 0)
    ≡ Some (Some c.in_ok-logged.logged) =
    ap (λ (rs : List (Option Record)). slice_get rs (get_or c.args.places.now c.loop-place.place-index 0))
    (sym c.store-store.ensures.records) ∙ c.in_ok-logged.ensures in
    c.in_ok-push.ensures.items
    ∙ (ap (λ (ps : List (ℕ × Record)). ps ++ (place, c.in_ok-logged.logged) ∷ []) c.loop-place.invariant
    ∙ (sym (pairs_push rs first place c.in_ok-logged.logged held)
    ∙ ap (pairs_at rs) (sym (take_more c.args.places.now c.loop-place.place-index 0 c.loop-place-test.true))))
