use Rattle.book.specs.Standing.{held_by}
use Rattle.std.proofs.Common.{inl, refl}
use Rattle.model.specs.Addresses.{addressed}
use Rattle.book.specs.History.{world_of}
use Rattle.book.proofs.Replays.{entered, is_added, said_honestly}
use Rattle.book.proofs.book.Book.step_with.Goals as goal

pub invariant_of-self-in-Ok-Some : goal.invariant_of-self-in-Ok-Some
invariant_of-self-in-Ok-Some g c =
    let now = c.self.inside in
    let next = c.answer_with-done.new in
    let a = c.in-Ok-Some.answer in
    let is = c.in-Ok-Some.field-0-is in
    rw (c.enter.ensures.entered, c.reserve_place.ensures.same) (record {
      replay = entered g.H.Handler.meaning (held_by now.host) (held_by next.self) now.history.items
          (record { who = c.args.who; step = c.args.step; said = a.said; reply = a.reply })
          c.self.invariant.replay (rw is at c.in-Ok-Some.ensures.answered);
      texts = c.answer_with-done.ensures.texts c.self.invariant.texts;
    })

pub returns-in-Ok-Some-clause-honest : goal.returns-in-Ok-Some-clause-honest
returns-in-Ok-Some-clause-honest g c =
    let now = c.self.inside in
    let next = c.answer_with-done.new in
    let a = c.in-Ok-Some.answer in
    let is = c.in-Ok-Some.field-0-is in
    rw (
      ← c.self.view_is,
      c.enter.ensures.entered,
      c.reserve_place.ensures.same,
    ) (
    said_honestly g.H.Handler.meaning (held_by now.host) (held_by next.self) now.history.items
    (record { who = c.args.who; step = c.args.step; said = a.said; reply = a.reply })
    c.self.invariant.replay (rw is at c.in-Ok-Some.ensures.answered))

pub returns-in-Ok-Some-clause-commits : goal.returns-in-Ok-Some-clause-commits
returns-in-Ok-Some-clause-commits g c =
    let now = c.self.inside in
    let next = c.answer_with-done.new in
    let a = c.in-Ok-Some.answer in
    let is = c.in-Ok-Some.field-0-is in
    let name = (addressed c.args.step).0 in
    rw (
      ← c.self.view_is,
      c.enter.ensures.entered,
      c.enter.ensures.reply,
      c.reserve_place.ensures.same,
    ) (inl (
      is_added g.H.Handler.meaning (held_by now.host) (held_by next.self) now.history.items
          (record { who = c.args.who; step = c.args.step; said = a.said; reply = a.reply })
          c.self.invariant.replay (rw is at c.in-Ok-Some.ensures.answered),
      (rw is at c.in-Ok-Some.ensures.fresh)
          (world_of g.H.Handler.meaning name now.history.items) (c.self.invariant.replay.stands name),
    ))

pub returns-in-Ok-None-clause-commits : goal.returns-in-Ok-None-clause-commits
returns-in-Ok-None-clause-commits g c =
    let is = c.in-Ok-None.field-0-is in
    let name = (addressed c.args.step).0 in
    rw (← c.self.view_is) (
      refl,
      record { history = c.reserve_place.ensures.same; log = rw is at c.in-Ok-None.ensures.stale_log },
      (rw is at c.in-Ok-None.ensures.fresh)
          (world_of g.H.Handler.meaning name c.self.inside.history.items) (c.self.invariant.replay.stands name),
    )
