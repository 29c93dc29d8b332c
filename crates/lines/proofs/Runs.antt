-- Serving one line after the other.
use Rattle.std.proofs.Common.{◌≡◌, ◌<◌, ◌≤◌, ◌+◌, ℕ, List, [], ◌∷◌, ◌++◌, length, map, All, cond, Option, Some, None}
use Rattle.std.proofs.Common.{Result, refl, sym, ap, subst, ◌∙◌, append_assoc, append-nil, length-append, arith, inl}
use Rattle.std.proofs.Common.{inr}
use Rattle.std.specs.Prelude.{IfOk, OnErr, Ok, Err, flat_map}
use denote.Ref.{MutBor}
use denote.Param.Members.{Shared}
use Rattle.lines.specs.Doing.{DoesBy}
use Rattle.std.proofs.lemmas.List.Elements.{All-head, All-tail}
use Rattle.std.proofs.lemmas.Bool.{le-leb, lt-leb}
use Rattle.std.proofs.lemmas.Grind.{flat_map-append}
use Rattle.std.proofs.lemmas.List.Concat.{flat_map-cons}
use Rattle.std.specs.Io.KnownBytes.{Appends, Keeps}
use Rattle.std.proofs.KnownBytes.{Appends-trans, Appends-kept, Keeps-refl}
use Rattle.model.specs.declared.limits.TheConstants.{MAX_LINE_BYTES}
use Rattle.model.specs.declared.refusals.Refusal.TheVariants.{BadLine, Memory}
use Rattle.model.specs.declared.replies.Entry.{Entry}
use Rattle.model.specs.declared.replies.Reply.{Reply}
use Rattle.model.specs.declared.replies.Reply.TheVariants.{Refused}
use Rattle.model.specs.declared.replies.Who.TheVariants.{Caller}
use Rattle.model.specs.declared.steps.Step.{Step}
use Rattle.model.specs.declared.steps.Step.TheVariants.{Open, Join, Post, Deliver, Flush, Checkpoint, Kill, Restart}
use Rattle.model.specs.declared.steps.Step.TheVariants.{Notice, Release, Status}
use Rattle.book.specs.Entries.{Ledger, memory_reply}
use Rattle.forms.specs.declared.fault.LineFault.{LineFault}
use Rattle.forms.specs.declared.fault.LineFault.TheVariants.{Bad, NoMemory}
use Rattle.forms.specs.Reading.{Gives, step_of_line}
use Rattle.lines.specs.Lines.{LinesRead}
use Rattle.lines.specs.Parts.{IsLineRead}
use Rattle.lines.specs.declared.input.LineRead.TheVariants.{Line, Long}
use Rattle.written.specs.Beginnings.{AppendsBeginning}
use Rattle.model.specs.Handler.{Meaning}
use Rattle.book.specs.Standing.{Carries, HostState, IsHostOf}
use Rattle.lines.specs.Serving.{line_step, AnsweredLineBy, AnsweredStep, AnsweredStepBy}
use Rattle.lines.specs.Serving.{HostDoes, HostServes, Serves, ServedAllBy, ServedSomeBy, ServesBy, IsRemembered, told}
use Rattle.lines.specs.Serving.{entered_before, IsBadOr, EntersEach, reply_line, reply_upon, TookLine, Broken}
use Rattle.lines.proofs.Parts.{LinesRead-more, TakesPart-none}

-- a line that is too long is no step
pub line_step-long : (line : List ℕ) → MAX_LINE_BYTES < length line → line_step line ≡ None
unfolding line_step
line_step-long line long = ap (λ b. cond b (step_of_line line) None) (lt-leb (length line) MAX_LINE_BYTES long)

-- and one that is held is what it says
pub line_step-held : (line : List ℕ) → length line ≤ MAX_LINE_BYTES → line_step line ≡ step_of_line line
unfolding line_step
line_step-held line fits = ap (λ b. cond b (step_of_line line) None) (le-leb (length line) MAX_LINE_BYTES fits)

-- a line that is too long, answered
pub long_answered : {B : Type 0} (Does : B → Step → Reply → B → Type 0) (line : List ℕ) (old : B)
    → MAX_LINE_BYTES < length line → AnsweredLineBy Does line old (Refused BadLine) old
long_answered Does line old long = (
  subst (λ s. AnsweredStepBy Does s old (Refused BadLine) old)
      (sym (line_step-long line long)) (inr (refl, refl)),
  λ _. refl,
)

-- a line that is held, and was not read for want of memory
unread_answered : {B : Type 0} (Does : B → Step → Reply → B → Type 0) (line : List ℕ) (old : B)
    → length line ≤ MAX_LINE_BYTES → AnsweredLineBy Does line old (Refused Memory) old
unread_answered Does line old fits = (unread (line_step line), λ long. absurd (omega (arith, long, fits)))
  where
    unread : (read : Option Step) → AnsweredStepBy Does read old (Refused Memory) old
    unread None = inl (refl, refl)
    unread (Some step) = inl (refl, refl)

-- one that gave no step, answered
fault_answered : {B : Type 0} (Does : B → Step → Reply → B → Type 0) (line : List ℕ) (old : B) (fault : LineFault)
    → length line ≤ MAX_LINE_BYTES → Gives (λ (step : Step). step) (Err fault) (step_of_line line)
    → AnsweredLineBy Does line old (reply_upon fault) old
fault_answered Does line old Bad fits is = (
  subst (λ s. AnsweredStepBy Does s old (Refused BadLine) old)
      (sym (line_step-held line fits ∙ is)) (inr (refl, refl)),
  λ _. refl,
)
fault_answered Does line old NoMemory fits is = unread_answered Does line old fits

-- one that is a step, answered
step_answered : {B : Type 0} (Does : B → Step → Reply → B → Type 0) (line : List ℕ) (step : Step)
    (old : B) (reply : Reply) (new : B)
    → length line ≤ MAX_LINE_BYTES → step_of_line line ≡ Some step → Does old step reply new
    → AnsweredLineBy Does line old reply new
step_answered Does line step old reply new fits is does = (
  subst (λ s. AnsweredStepBy Does s old reply new) (sym (line_step-held line fits ∙ is)) (inr does),
  λ long. absurd (omega (arith, long, fits)),
)

module _ {B : Type 0} (Does : B → Step → Reply → B → Type 0) (held : List ℕ) (input input' : Option (List ℕ)) where
  -- a line that was taken, and its answer
  abbrev pub IsTaken : B → Reply → B → Type 0
  IsTaken old reply new =
      (line : List ℕ) × LinesRead input input' (line ∷ []) × AnsweredLineBy Does line old reply new

  pub long_taken : (old : B) → IsLineRead Long held input input' → IsTaken old (Refused BadLine) old
  long_taken old read = (read.0, read.2, long_answered Does read.0 old read.1)

  pub fault_taken : (old : B) (fault : LineFault) → IsLineRead Line held input input'
      → Gives (λ (step : Step). step) (Err fault) (step_of_line held) → IsTaken old (reply_upon fault) old
  fault_taken old fault read is = (held, read.1, fault_answered Does held old fault read.0 is)

  pub step_taken : (step : Step) (old : B) (reply : Reply) (new : B) → IsLineRead Line held input input'
      → step_of_line held ≡ Some step → Does old step reply new → IsTaken old reply new
  step_taken step old reply new read is does =
      (held, read.1, step_answered Does held step old reply new read.0 is does)

-- what stays and then grows
pub Keeps-then : (a b c : Option (List ℕ)) (bs : List ℕ) → Keeps a b → Appends b c bs → Appends a c bs
Keeps-then None b c bs p q = tt
Keeps-then (Some x) None c bs p q = absurd p
Keeps-then (Some x) (Some y) None bs p q = absurd q
Keeps-then (Some x) (Some y) (Some z) bs p q = q ∙ ap (λ l. l ++ bs) p

-- what stays and then grows by a beginning
pub Keeps-then_beginning : (a b c : Option (List ℕ)) (all : List ℕ)
    → Keeps a b → AppendsBeginning b c all → AppendsBeginning a c all
Keeps-then_beginning a b c all p q = (q.0, Keeps-then a b c q.0 p q.1, q.2)

-- one line more
pub Serves-more : {B : Type 0} (Does : B → Step → Reply → B → Type 0)
    (lines : List (List ℕ)) (old mid new : B) (replies : List Reply) (line : List ℕ) (reply : Reply)
    → ServesBy Does lines old replies mid
    → AnsweredLineBy Does line mid reply new → ServesBy Does (lines ++ line ∷ []) old (replies ++ reply ∷ []) new
Serves-more Does [] old mid new replies line reply p q = (
  reply,
  [],
  new,
  ap (λ rs. rs ++ reply ∷ []) p.0,
  subst (λ s. AnsweredLineBy Does line s reply new) p.1 q,
  (refl, refl),
)
Serves-more Does (l ∷ ls) old mid new replies line reply p q = (
  p.0,
  p.1 ++ reply ∷ [],
  p.2,
  ap (λ rs. rs ++ reply ∷ []) p.3,
  p.4,
  Serves-more Does ls p.2 mid new p.1 line reply p.5 q,
)

-- ---- a step that is done so, seen otherwise

step_as : {B : Type 0} (One Other : B → Step → Reply → B → Type 0)
    → ((x : B) (s : Step) (r : Reply) (y : B) → One x s r y → Other x s r y)
    → (read : Option Step) (old : B) (reply : Reply) (new : B)
    → AnsweredStepBy One read old reply new → AnsweredStepBy Other read old reply new
step_as One Other f None old reply new p = p
step_as One Other f (Some step) old reply new (inl p) = inl p
step_as One Other f (Some step) old reply new (inr p) = inr (f old step reply new p)

pub serves_as : {B : Type 0} (One Other : B → Step → Reply → B → Type 0)
    → ((x : B) (s : Step) (r : Reply) (y : B) → One x s r y → Other x s r y)
    → (lines : List (List ℕ)) (old : B) (replies : List Reply) (new : B)
    → ServesBy One lines old replies new → ServesBy Other lines old replies new
serves_as One Other f [] old replies new p = p
serves_as One Other f (l ∷ ls) old replies new p = (
  p.0,
  p.1,
  p.2,
  p.3,
  (step_as One Other f (line_step l) old p.0 p.2 p.4.0, p.4.1),
  serves_as One Other f ls p.2 p.1 new p.5,
)

-- ---- by a host

module _ {S : Type 0} (M : Meaning S) where
  step_each : (read : Option Step) (old : HostState S) (reply : Reply) (new : HostState S)
      → AnsweredStepBy (HostDoes M) read old reply new
      → Carries (IsHostOf M) (λ before after. AnsweredStep read before reply after) old new
  step_each None old reply new (inl p) before is =
      (before, subst (λ h. IsHostOf M h before) (sym p.1) is, inl (p.0, refl))
  step_each None old reply new (inr p) before is =
      (before, subst (λ h. IsHostOf M h before) (sym p.1) is, inr (p.0, refl))
  step_each (Some step) old reply new (inl p) before is =
      (before, subst (λ h. IsHostOf M h before) (sym p.1) is, inl (p.0, refl))
  step_each (Some step) old reply new (inr p) before is = let one = p Caller before is in (one.0, one.1, inr one.2.0)

  -- A host that does each line's step serves the lines for each book that it stands for.
  pub host_serves : (lines : List (List ℕ)) (old : HostState S) (replies : List Reply) (new : HostState S)
      → ServesBy (HostDoes M) lines old replies new → HostServes M lines old replies new
  host_serves [] old replies new p before is = (before, subst (λ h. IsHostOf M h before) (sym p.1) is, (p.0, refl))
  host_serves (l ∷ ls) old replies new p before is =
      let one = step_each (line_step l) old p.0 p.2 p.4.0 before is in
      let rest = host_serves ls p.2 p.1 new p.5 one.0 one.1 in
      (rest.0, rest.1, (p.0, p.1, one.0, p.3, (one.2, p.4.1), rest.2))

-- ---- what was served, seen otherwise

module _ {F B : Type 0} (g : Shared F (MutBor B × (Step × Unit {0})) (Reply × (MutBor B × Unit {0})))
    (f : F) (Other : B → Step → Reply → B → Type 0) where
  -- what a call of the function leaves is done so
  abbrev pub CallsDo : Type 0
  CallsDo = (p q : MutBor B) (step : Step) (reply : Reply)
      → g.post f (p, (step, tt)) (reply, (q, tt)) → Other p.now step reply q.now

  calls_do : CallsDo → (old : B) (step : Step) (reply : Reply) (new : B)
      → DoesBy g f old step reply new → Other old step reply new
  calls_do fact old step reply new d =
      subst (λ z. Other z step reply new) d.argument_is
      (subst (Other d.argument.now step reply) d.left (fact d.argument d.after_call step reply d.call))

  module _ (Serving : List (List ℕ) → B → List Reply → B → Type 0) (old new : B)
      (serves : (lines : List (List ℕ)) (replies : List Reply)
      → ServesBy Other lines old replies new → Serving lines old replies new) (fact : CallsDo) where
    as_calls : (lines : List (List ℕ)) (replies : List Reply)
        → ServesBy (DoesBy g f) lines old replies new → Serving lines old replies new
    as_calls lines replies p =
        serves lines replies (serves_as (DoesBy g f) Other (calls_do fact) lines old replies new p)

    -- What was served to the end by calls of a function was served so by what the calls do.
    pub served_all : {E : Type 0} (r : Result ℕ E) (input out out' : Option (List ℕ))
        → IfOk r (λ count. ServedAllBy (ServesBy (DoesBy g f)) input out out' old new count)
        → IfOk r (λ count. ServedAllBy Serving input out out' old new count)
    served_all (Ok count) input out out' p = (p.0, p.1, p.2, as_calls p.0 p.1 p.3, p.4, p.5)
    served_all (Err e) input out out' p = tt

    -- What was served up to a fault by calls of a function was served so by what the calls do.
    pub served_some : {A E : Type 0} (r : Result A E) (input input' out out' : Option (List ℕ))
        → OnErr r (ServedSomeBy (ServesBy (DoesBy g f)) input input' out out' old new)
        → OnErr r (ServedSomeBy Serving input input' out out' old new)
    served_some (Ok a) input input' out out' p = tt
    served_some (Err e) input input' out out' p = (p.0, p.1, p.2, p.3, p.4, as_calls p.0 p.1 p.5, p.6)

-- the lines of one reply more
flat_map_more : (rs : List Reply) (r : Reply)
    → flat_map reply_line (rs ++ r ∷ []) ≡ flat_map reply_line rs ++ reply_line r
flat_map_more rs r = flat_map-append reply_line rs (r ∷ [])
    ∙ ap (λ x. flat_map reply_line rs ++ x) (flat_map-cons reply_line r [] ∙ append-nil (reply_line r))

module _ {B : Type 0} (Does : B → Step → Reply → B → Type 0) (input mid input' out omid out' : Option (List ℕ))
    (old bmid new : B) (lines : List (List ℕ)) (replies : List Reply) (read : LinesRead input mid lines)
    (run : ServesBy Does lines old replies bmid) (written : Appends out omid (flat_map reply_line replies)) where
  -- one line more
  pub goes_on : (count : ℕ) → length lines ≡ count → TookLine Does mid input' omid out' bmid new
      → (lines' : List (List ℕ)) × (replies' : List Reply) × LinesRead input input' lines' × ServesBy
      Does lines' old replies' new × Appends out out' (flat_map reply_line replies') × (length lines' ≡ count + 1)
  goes_on count is (line, reply, one, answered, grown) = (
    lines ++ line ∷ [],
    replies ++ reply ∷ [],
    LinesRead-more _ _ _ lines line read one,
    Serves-more Does lines old bmid new replies line reply run answered,
    subst (Appends out out') (sym (flat_map_more replies reply)) (Appends-trans _ _ _ _ _ written grown),
    omega (arith, is, length-append lines (line ∷ [])),
  )

  -- it ended early
  pub stops : Broken Does mid input' omid out' bmid new → ServedSomeBy (ServesBy Does) input input' out out' old new
  stops (inl (part, same, kept)) = (
    lines,
    replies,
    mid,
    read,
    part,
    subst (ServesBy Does lines old replies) (sym same) run,
    (flat_map reply_line replies, Appends-kept _ _ _ _ written kept, ([], sym (append-nil _))),
  )
  stops (inr (line, reply, one, answered, begun)) = (
    lines ++ line ∷ [],
    replies ++ reply ∷ [],
    input',
    LinesRead-more _ _ _ lines line read one,
    TakesPart-none _ _ (Keeps-refl _),
    Serves-more Does lines old bmid new replies line reply run answered,
    (
      flat_map reply_line replies ++ begun.0,
      Appends-trans _ _ _ _ _ written begun.1,
      (
        begun.2.0,
        flat_map_more replies reply
            ∙ ap (λ x. flat_map reply_line replies ++ x) begun.2.1 ∙ sym (append_assoc _ begun.0 begun.2.0),
      ),
    ),
  )

-- ---- where no reply is for want of memory

-- the reply that tells want of memory for a step is one of the two
memory_reply_is : {A : Type 0} (step : Step) (reply : Reply) → IsRemembered reply → reply ≡ memory_reply step → A
memory_reply_is (Open tenant kinds quota optimism) reply kept is = absurd (kept.0 is)
memory_reply_is (Join tenant kind) reply kept is = absurd (kept.0 is)
memory_reply_is (Post unit number tenant text) reply kept is = absurd (kept.0 is)
memory_reply_is (Deliver tenant letter) reply kept is = absurd (kept.0 is)
memory_reply_is (Flush tenant unit) reply kept is = absurd (kept.1 is)
memory_reply_is (Checkpoint tenant unit) reply kept is = absurd (kept.0 is)
memory_reply_is (Kill tenant unit) reply kept is = absurd (kept.0 is)
memory_reply_is (Restart tenant unit) reply kept is = absurd (kept.0 is)
memory_reply_is (Notice tenant unit) reply kept is = absurd (kept.0 is)
memory_reply_is (Release tenant unit) reply kept is = absurd (kept.0 is)
memory_reply_is (Status tenant unit) reply kept is = absurd (kept.0 is)

-- what one line adds to the history, before what later lines add
one_line : (read : Option Step) (old mid : Ledger) (reply : Reply)
    → IsRemembered reply → AnsweredStep read old reply mid
    → IsBadOr read reply × (entries : List Entry) × (mid.history ≡ old.history ++ entries)
    × ((others : List Entry) → map told (entries ++ others) ≡ entered_before read reply (map told others))
one_line None old mid reply kept (inl (is, same)) = absurd (kept.0 is)
one_line None old mid reply kept (inr (is, same)) =
    (is, [], ap (λ l. l.history) same ∙ sym (append-nil old.history), λ others. refl)
one_line (Some step) old mid reply kept (inl (is, same)) = absurd (kept.0 is)
one_line (Some step) old mid reply kept (inr (inl (said, grown, device, up, other, steady, once))) =
    (tt, record { who = Caller; step = step; said = said; reply = reply } ∷ [], grown, λ others. refl)
one_line (Some step) old mid reply kept (inr (inr (is, same, log, up, still))) = memory_reply_is step reply kept is

-- the law, one line after the other
pub enters_each : (lines : List (List ℕ)) (old new : Ledger) (replies : List Reply)
    → Serves lines old replies new → All IsRemembered replies → EntersEach lines old replies new
enters_each [] old new replies p all = (p.0, [], ap (λ l. l.history) p.1 ∙ sym (append-nil old.history), refl)
enters_each (l ∷ ls) old new replies p all =
    let every = subst (All IsRemembered) p.3 all in
    let one = one_line (line_step l) old p.2 p.0 (All-head IsRemembered p.0 p.1 every) p.4.0 in
    let rest = enters_each ls p.2 new p.1 p.5 (All-tail IsRemembered p.0 p.1 every) in
    subst (λ rs. EntersEach (l ∷ ls) old rs new) (sym p.3) (
      (one.0, rest.0),
      one.1 ++ rest.1,
      rest.2 ∙ ap (λ h. h ++ rest.1) one.2 ∙ append_assoc old.history one.1 rest.1,
      one.3 rest.1 ∙ ap (entered_before (line_step l) p.0) rest.3,
    )
