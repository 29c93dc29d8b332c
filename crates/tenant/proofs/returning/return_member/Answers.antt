use Rattle.std.proofs.Common.{◌≡◌, refl, ◌∙◌, ap, length}
use Rattle.std.specs.Prelude.{slice_set}
use Rattle.std.proofs.lemmas.Option.{get_or_from_slice_get, slice_get_read}
use Rattle.rollback.specs.Units.{stable_places}
use Rattle.tenant.specs.Kept.{Member, returned_member}
use Rattle.tenant.proofs.returning.return_member.Goals as goal

pub return_to-requires-after_bounds : goal.return_to-requires-after_bounds
return_to-requires-after_bounds g c κs within =
    let q : Member g.row.H-State.Denot = c.index_mut-member.result.now in
    let items = c.args.members.now.items in
    c.requires.target
    q (slice_get_read items (length items) c.args.at q refl c.requires.within c.index_mut-member.ensures.value)

pub returns-then-at-len-clause-members : goal.returns-then-at-len-clause-members
returns-then-at-len-clause-members g c = λ m found.
    let q : Member g.row.H-State.Denot = c.index_mut-member.result.now in
    let items = c.args.members.now.items in
    let same : q ≡ m = c.index_mut-member.ensures.value ∙ get_or_from_slice_get items c.args.at m q found in
    ap (slice_set items c.args.at) (c.return_to.ensures
    ∙ ap (λ (z : Member g.row.H-State.Denot). returned_member z c.args.target c.args.progress c.args.known) same)

pub returns-then-at-len-clause-lengths : goal.returns-then-at-len-clause-lengths
returns-then-at-len-clause-lengths g c = λ m found.
    let q : Member g.row.H-State.Denot = c.index_mut-member.result.now in
    let items = c.args.members.now.items in
    let same : q ≡ m = c.index_mut-member.ensures.value ∙ get_or_from_slice_get items c.args.at m q found in
    ap (slice_set c.args.stable_lengths.now.items c.args.at) (c.stable_count-stable.ensures
    ∙ ap (λ (z : Member g.row.H-State.Denot). stable_places z.unit_state) (c.return_to.ensures ∙ ap
    (λ (z : Member g.row.H-State.Denot). returned_member z c.args.target c.args.progress c.args.known) same))

pub returns-else-at-len-clause-members : goal.returns-else-at-len-clause-members
returns-else-at-len-clause-members g c = λ m found.
    let q : Member g.row.H-State.Denot = c.index_mut-member.result.now in
    let items = c.args.members.now.items in
    let same : q ≡ m = c.index_mut-member.ensures.value ∙ get_or_from_slice_get items c.args.at m q found in
    ap (slice_set items c.args.at) (c.return_to.ensures
    ∙ ap (λ (z : Member g.row.H-State.Denot). returned_member z c.args.target c.args.progress c.args.known) same)
