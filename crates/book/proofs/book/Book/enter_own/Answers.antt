use Rattle.book.specs.Standing.{held_by}
use Rattle.std.proofs.Common.{inl}
use Rattle.book.proofs.Replays.{entered, is_added, said_honestly}
use Rattle.book.proofs.book.Book.enter_own.Goals as goal

pub invariant_of-self-in-Ok : goal.invariant_of-self-in-Ok
invariant_of-self-in-Ok g c =
    let now = c.self.inside in
    let next = c.answer_own.new in
    let a = c.in-Ok.answer in
    let answered = rw (c.tenant.ensures, ← c.requires) at c.in-Ok.ensures.answered in
    rw (c.enter.ensures.entered, c.reserve_place.ensures.same) (record {
      replay = entered g.H.Handler.meaning (held_by now.host) (held_by next.self) now.history.items
          (record { who = c.args.who; step = c.args.step; said = a.said; reply = a.reply })
          c.self.invariant.replay answered;
      texts = c.answer_own.ensures.texts c.self.invariant.texts;
    })

pub returns-in-Ok-clause-honest : goal.returns-in-Ok-clause-honest
returns-in-Ok-clause-honest g c =
    let now = c.self.inside in
    let next = c.answer_own.new in
    let a = c.in-Ok.answer in
    let answered = rw (c.tenant.ensures, ← c.requires) at c.in-Ok.ensures.answered in
    rw (← c.self.view_is, c.enter.ensures.entered, c.reserve_place.ensures.same) (
    said_honestly g.H.Handler.meaning (held_by now.host) (held_by next.self) now.history.items
    (record { who = c.args.who; step = c.args.step; said = a.said; reply = a.reply })
    c.self.invariant.replay answered)

pub returns-in-Ok-clause-entered : goal.returns-in-Ok-clause-entered
returns-in-Ok-clause-entered g c =
    let now = c.self.inside in
    let next = c.answer_own.new in
    let a = c.in-Ok.answer in
    let answered = rw (c.tenant.ensures, ← c.requires) at c.in-Ok.ensures.answered in
    rw (
      ← c.self.view_is,
      c.enter.ensures.entered,
      c.enter.ensures.reply,
      c.reserve_place.ensures.same,
    ) (inl (
    is_added g.H.Handler.meaning (held_by now.host) (held_by next.self) now.history.items
    (record { who = c.args.who; step = c.args.step; said = a.said; reply = a.reply })
    c.self.invariant.replay answered))
