use Rattle.std.proofs.Common.{ℕ, ◌+◌, ◌<◌, ◌^◌, IsTrue}
use Rattle.session.specs.Counts.{sent_to}
use Rattle.session.proofs.sessions.Sessions.has_room.Goals as goal

pub returns-then-not-have_room : goal.returns-then-not-have_room
returns-then-not-have_room c =
    let can : (IsTrue c.have_room.result → (unit : ℕ) → sent_to c.args.self.now unit + c.args.letters < 2 ^ 64)
    × (((unit : ℕ) → sent_to c.args.self.now unit + c.args.letters < 2 ^ 64) → IsTrue c.have_room.result) =
    rw (← c.self.view_is, ← c.as_slice.ensures.value) c.have_room.ensures in
    (λ none. absurd (cc none), λ room. rw c.if-not-have_room.true at can.1 room.sent)
