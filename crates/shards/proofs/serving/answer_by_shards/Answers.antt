use Rattle.std.proofs.Common.{◌≡◌, ◌<◌, ◌++◌, ◌∙◌, ap, drop, length, map, sym, subst, take}
use Rattle.std.specs.Prelude.{IfOk, OnErr}
use Rattle.std.proofs.lemmas.List.{length-map}
use Rattle.dealing.specs.Dealing.{OneDoes, dealt}
use Rattle.shards.specs.Blocks.{AreIdle, Tells}
use Rattle.shards.specs.Underway.{AnsweredAll, AnsweredSome}
use Rattle.shards.proofs.Answered.{lent_back}
use Rattle.shards.proofs.serving.answer_by_shards.Goals as goal

pub answer_on-requires-clause-some : goal.answer_on-requires-clause-some
answer_on-requires-clause-some g c κs within =
    subst (λ l. 0 < length l) (sym c.as_mut_slice.ensures.value) c.shards.invariant.0

pub answer_on-requires-clause-idle : goal.answer_on-requires-clause-idle
answer_on-requires-clause-idle g c κs within =
    subst (λ l. AreIdle (map (λ x. x.steps.items) l)) (sym c.as_mut_slice.ensures.value) c.shards.invariant.1

pub returns-clause-all : goal.returns-clause-all
returns-clause-all g c =
    let back = lent_back c.shards.inside.shards.len c.shards.inside.shards.items
    c.answer_on.new.shards (sym c.as_mut_slice.ensures.len ∙ sym c.answer_on.auto.shards) in
    let seen : c.args.shards.now ≡ map (λ s. s.host) c.shards.inside.shards.items = sym c.shards.view_is in
    let many : length c.as_mut_slice.result.now ≡ length c.args.shards.now =
    ap length c.as_mut_slice.ensures.value
    ∙ sym (length-map c.shards.inside.shards.items (λ s. s.host)) ∙ ap length (sym seen) in
    subst (λ n. IfOk c.answer_on.result
    (λ count. AnsweredAll (OneDoes (Tells g.H.Handler.meaning c.args.drives) (dealt n))
    (g.R.Read.remaining c.args.reader.now.inner)
    (g.W.Write.contents c.args.writer.now.inner) (g.W.Write.contents c.answer_on.new.writer.inner)
    c.args.shards.now (map (λ s. s.host) (take c.shards.inside.shards.len (c.answer_on.new.shards
    ++ drop (length c.answer_on.new.shards) c.shards.inside.shards.items))) count)) many
    (subst (λ l. IfOk c.answer_on.result
    (λ count. AnsweredAll (OneDoes (Tells g.H.Handler.meaning c.args.drives)
    (dealt (length c.as_mut_slice.result.now)))
    (g.R.Read.remaining c.args.reader.now.inner)
    (g.W.Write.contents c.args.writer.now.inner) (g.W.Write.contents c.answer_on.new.writer.inner)
    l (map (λ s. s.host) (take c.shards.inside.shards.len (c.answer_on.new.shards
    ++ drop (length c.answer_on.new.shards) c.shards.inside.shards.items))) count)) (sym seen)
    (subst (λ l. IfOk c.answer_on.result
    (λ count. AnsweredAll (OneDoes (Tells g.H.Handler.meaning c.args.drives)
    (dealt (length c.as_mut_slice.result.now)))
    (g.R.Read.remaining c.args.reader.now.inner)
    (g.W.Write.contents c.args.writer.now.inner) (g.W.Write.contents c.answer_on.new.writer.inner)
    (map (λ s. s.host) c.shards.inside.shards.items) (map (λ s. s.host) l) count)) (sym back)
    (subst (λ l. IfOk c.answer_on.result
    (λ count. AnsweredAll (OneDoes (Tells g.H.Handler.meaning c.args.drives)
    (dealt (length c.as_mut_slice.result.now)))
    (g.R.Read.remaining c.args.reader.now.inner)
    (g.W.Write.contents c.args.writer.now.inner) (g.W.Write.contents c.answer_on.new.writer.inner)
    (map (λ s. s.host) l) (map (λ s. s.host) c.answer_on.new.shards) count)) c.as_mut_slice.ensures.value
    c.answer_on.ensures.all)))

pub returns-clause-some : goal.returns-clause-some
returns-clause-some g c =
    let back = lent_back c.shards.inside.shards.len c.shards.inside.shards.items
    c.answer_on.new.shards (sym c.as_mut_slice.ensures.len ∙ sym c.answer_on.auto.shards) in
    let seen : c.args.shards.now ≡ map (λ s. s.host) c.shards.inside.shards.items = sym c.shards.view_is in
    let many : length c.as_mut_slice.result.now ≡ length c.args.shards.now =
    ap length c.as_mut_slice.ensures.value
    ∙ sym (length-map c.shards.inside.shards.items (λ s. s.host)) ∙ ap length (sym seen) in
    subst (λ n. OnErr c.answer_on.result (AnsweredSome (OneDoes (Tells g.H.Handler.meaning c.args.drives) (dealt n))
    (g.R.Read.remaining c.args.reader.now.inner) (g.R.Read.remaining c.answer_on.new.reader.inner)
    (g.W.Write.contents c.args.writer.now.inner) (g.W.Write.contents c.answer_on.new.writer.inner)
    c.args.shards.now (map (λ s. s.host) (take c.shards.inside.shards.len (c.answer_on.new.shards
    ++ drop (length c.answer_on.new.shards) c.shards.inside.shards.items))))) many
    (subst (λ l. OnErr c.answer_on.result
    (AnsweredSome (OneDoes (Tells g.H.Handler.meaning c.args.drives) (dealt (length c.as_mut_slice.result.now)))
    (g.R.Read.remaining c.args.reader.now.inner) (g.R.Read.remaining c.answer_on.new.reader.inner)
    (g.W.Write.contents c.args.writer.now.inner) (g.W.Write.contents c.answer_on.new.writer.inner)
    l (map (λ s. s.host) (take c.shards.inside.shards.len (c.answer_on.new.shards
    ++ drop (length c.answer_on.new.shards) c.shards.inside.shards.items))))) (sym seen)
    (subst (λ l. OnErr c.answer_on.result
    (AnsweredSome (OneDoes (Tells g.H.Handler.meaning c.args.drives) (dealt (length c.as_mut_slice.result.now)))
    (g.R.Read.remaining c.args.reader.now.inner) (g.R.Read.remaining c.answer_on.new.reader.inner)
    (g.W.Write.contents c.args.writer.now.inner) (g.W.Write.contents c.answer_on.new.writer.inner)
    (map (λ s. s.host) c.shards.inside.shards.items) (map (λ s. s.host) l))) (sym back)
    (subst (λ l. OnErr c.answer_on.result
    (AnsweredSome (OneDoes (Tells g.H.Handler.meaning c.args.drives) (dealt (length c.as_mut_slice.result.now)))
    (g.R.Read.remaining c.args.reader.now.inner) (g.R.Read.remaining c.answer_on.new.reader.inner)
    (g.W.Write.contents c.args.writer.now.inner) (g.W.Write.contents c.answer_on.new.writer.inner)
    (map (λ s. s.host) l) (map (λ s. s.host) c.answer_on.new.shards))) c.as_mut_slice.ensures.value
    c.answer_on.ensures.some)))

pub returns-clause-many : goal.returns-clause-many
returns-clause-many g c =
    let back = lent_back c.shards.inside.shards.len c.shards.inside.shards.items
    c.answer_on.new.shards (sym c.as_mut_slice.ensures.len ∙ sym c.answer_on.auto.shards) in
    let seen : c.args.shards.now ≡ map (λ s. s.host) c.shards.inside.shards.items = sym c.shards.view_is in
    length-map (take c.shards.inside.shards.len (c.answer_on.new.shards
    ++ drop (length c.answer_on.new.shards) c.shards.inside.shards.items)) (λ s. s.host)
    ∙ ap length back ∙ c.answer_on.auto.shards ∙ ap length c.as_mut_slice.ensures.value
    ∙ sym (length-map c.shards.inside.shards.items (λ s. s.host)) ∙ ap length (sym seen)

pub invariant_of-shards : goal.invariant_of-shards
invariant_of-shards g c =
    let back = lent_back c.shards.inside.shards.len c.shards.inside.shards.items
    c.answer_on.new.shards (sym c.as_mut_slice.ensures.len ∙ sym c.answer_on.auto.shards) in
    let some : 0 < length c.answer_on.new.shards = subst
    (λ n. 0 < n) (sym (c.answer_on.auto.shards ∙ ap length c.as_mut_slice.ensures.value)) c.shards.invariant.0 in
    let idle : AreIdle (map (λ x. x.steps.items) c.answer_on.new.shards) = c.answer_on.ensures.idle in
    subst (λ l. (0 < length l) × AreIdle (map (λ x. x.steps.items) l)) (sym back) (some, idle)
