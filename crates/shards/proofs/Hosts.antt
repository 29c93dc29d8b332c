-- Answering by hosts is serving.
use Rattle.std.proofs.Common.{◌≡◌, List, [], ◌∷◌, ◌++◌, ℕ, length, false, refl, sym, ap, subst, ◌∙◌, inl, inr}
use Rattle.std.proofs.Common.{Bool, append-nil}
use Rattle.std.specs.Prelude.{Option, Some, None, Result, Ok, Err, IfOk, OnErr, flat_map}
use Rattle.std.specs.Io.KnownBytes.{Appends}
use Rattle.std.proofs.lemmas.List.Concat.{flat_map-cons}
use Rattle.model.specs.Addresses.{addressed}
use Rattle.model.specs.Handler.{Meaning}
use Rattle.model.specs.declared.replies.Reply.{Reply}
use Rattle.model.specs.declared.steps.Step.{Step}
use Rattle.book.specs.Standing.{HostState}
use Rattle.forms.specs.declared.fault.LineFault.{LineFault}
use Rattle.forms.specs.declared.fault.LineFault.TheVariants.{Bad, NoMemory}
use Rattle.lines.specs.Feeds.{AreReadings, ReadingOf}
use Rattle.lines.specs.Serving.{AnsweredLineBy, AnsweredStepBy, HostDoes, IsUnread, ServedAllBy, ServedSomeBy}
use Rattle.lines.specs.Serving.{ServesBy, line_step, reply_line, reply_upon}
use Rattle.lines.specs.declared.fault.ServeFault.{ServeFault}
use Rattle.written.specs.Beginnings.{AppendsBeginning}
use Rattle.dealing.specs.Dealing.{HostsDo, OneDoes, ShardsServe, dealt}
use Rattle.dealing.proofs.Serving.{dealt_lines_serve}
use Rattle.driver.specs.Driving.{Drives, IsStepRound, Round, lines_told, round_text}
use Rattle.shards.specs.Blocks.{AnswersBy, AnswersEachBy, Tells, whole}
use Rattle.shards.specs.Underway.{AnsweredAll, AnsweredSome}

-- ---- one line, by what was read of it

module _ {B : Type 0} (Does : B → Step → Reply → B → Type 0) where
  unread : (s : Option Step) (old : B) (reply : Reply) (new : B)
      → IsUnread old reply new → AnsweredStepBy Does s old reply new
  unread None old reply new p = inl p
  unread (Some step) old reply new p = inl p

  -- What was done of a line that was read as a step answers that line.
  pub step_answered : (line : List ℕ) (step : Step) (old : B) (reply : Reply) (new : B)
      → ReadingOf line (Ok step) → Does old step reply new → AnsweredLineBy Does line old reply new
  step_answered line step old reply new is p =
      (subst (λ s. AnsweredStepBy Does s old reply new) (sym is.0) (inr p), λ long. let no = is.1 long in absurd cc)

  -- What is told of a line that gave no step answers that line.
  pub fault_answered : (line : List ℕ) (fault : LineFault) (old new : B)
      → ReadingOf line (Err fault) → new ≡ old → AnsweredLineBy Does line old (reply_upon fault) new
  fault_answered line Bad old new is same =
      (subst (λ s. AnsweredStepBy Does s old (reply_upon Bad) new) (sym is.0) (inr (refl, same)), λ long. refl)
  fault_answered line NoMemory old new is same = (
    unread (line_step line) old (reply_upon NoMemory) new (refl, same),
    λ long. let no = is.1 long in absurd cc,
  )

-- ---- one step

-- A host's step with its reply alone is a round without steps of a driver.
pub told_alone : {S : Type 0} (M : Meaning S) (drives : Bool) (old : HostState S) (step : Step) (reply : Reply)
    (new : HostState S) → HostDoes M old step reply new → Tells M drives old step (reply_line reply) new
told_alone M drives old step reply new does = (
  record { reply = reply; steps = [] },
  record { mid = new; done = does; driven = refl },
  sym (append-nil (reply_line reply)),
  λ e. refl,
)

-- ---- all lines

module _ {S : Type 0} (M : Meaning S) (deal : List ℕ → ℕ) where
  abbrev Answers : Result Step LineFault → List (HostState S) → List ℕ → List (HostState S) → Type 0
  Answers read old answer new = AnswersBy (OneDoes (Tells M false) deal) read old answer new

  -- A round of which no step was driven is a reply.
  one_reply : (step : Step) (h v : HostState S) (round : Round) → IsStepRound (HostDoes M) step h round v
      → round.steps ≡ [] → HostDoes M h step round.reply v × (round_text round ≡ reply_line round.reply)
  one_reply step h v round is none =
      let driven : Drives (HostDoes M) (addressed step).0 is.mid [] v =
      subst (λ (l : List (Step × Reply)). Drives (HostDoes M) (addressed step).0 is.mid l v) none is.driven in (
        subst (λ (x : HostState S). HostDoes M h step round.reply x) (sym driven) is.done,
        ap (λ (l : List (Step × Reply)). reply_line round.reply ++ flat_map lines_told l) none
            ∙ append-nil (reply_line round.reply),
      )

  line_served : (line : List ℕ) (read : Result Step LineFault) (old : List (HostState S)) (answer : List ℕ)
      (new : List (HostState S)) → ReadingOf line read → Answers read old answer new
      → (reply : Reply) × AnsweredLineBy (HostsDo M deal) line old reply new × (answer ≡ reply_line reply)
  line_served line (Ok step) old answer new is p =
      let one = one_reply step p.before p.after p.does.0 p.does.1 (p.does.3 refl) in (
        p.does.0.reply,
        step_answered (HostsDo M deal) line step old p.does.0.reply new is
            (record { before = p.before; after = p.after; at = p.at; does = one.0; others = p.others }),
        p.does.2 ∙ one.1,
      )
  line_served line (Err fault) old answer new is p =
      (reply_upon fault, fault_answered (HostsDo M deal) line fault old new is p.1, p.0)

  -- what the hosts answered are the replies that serve the lines
  abbrev Served : List (List ℕ) → List (HostState S) → List (List ℕ) → List (HostState S) → Type 0
  Served lines old answers new = (replies : List Reply) × ServesBy (HostsDo M deal) lines old replies new
      × (flat_map whole answers ≡ flat_map reply_line replies)

  lines_served : (lines : List (List ℕ)) (readings : List (Result Step LineFault)) (old : List (HostState S))
      (answers : List (List ℕ)) (new : List (HostState S)) → AreReadings lines readings
      → AnswersEachBy (OneDoes (Tells M false) deal) readings old answers new → Served lines old answers new
  lines_served [] [] old answers new are p = ([], (refl, p.1), ap (flat_map whole) p.0)
  lines_served [] (r ∷ readings) old answers new are p = absurd cc
  lines_served (l ∷ lines) [] old answers new are p = absurd are
  lines_served (l ∷ lines) (r ∷ readings) old answers new are p =
      let one = line_served l r old p.0 p.2 are.0 p.4 in
      let rest = lines_served lines readings p.2 p.1 new are.1 p.5 in (
        one.0 ∷ rest.0,
        (one.0, rest.0, p.2, refl, one.1, rest.1),
        ap (flat_map whole) p.3
            ∙ flat_map-cons whole p.0 p.1
            ∙ ap (λ l. l ++ flat_map whole p.1) one.2
            ∙ ap (λ l. reply_line one.0 ++ l) rest.2
            ∙ sym (flat_map-cons reply_line one.0 rest.0),
      )

-- ---- of the book that is stood for

module _ {S : Type 0} (M : Meaning S) (old new : List (HostState S)) (same : length new ≡ length old) where
  abbrev Does : List (HostState S) → Step → List ℕ → List (HostState S) → Type 0
  Does = OneDoes (Tells M false) (dealt (length old))

  -- Where answering ended well, all lines were served for each book that the hosts stood for.
  pub all_of : (r : Result ℕ ServeFault) (input out out' : Option (List ℕ))
      → IfOk r (λ count. AnsweredAll Does input out out' old new count)
      → IfOk r (λ count. ServedAllBy (ShardsServe M) input out out' old new count)
  all_of (Ok count) input out out' p =
      let s = lines_served M (dealt (length old)) p.0 p.3.0 old p.1 new p.3.1 p.3.2 in (
        p.0,
        s.0,
        p.2,
        dealt_lines_serve M p.0 s.0 old new same s.1,
        subst (Appends out out') s.2 p.4,
        p.5,
      )
  all_of (Err fault) input out out' p = tt

  -- Where it failed, the lines so far were.
  pub some_of : (r : Result ℕ ServeFault) (input input' out out' : Option (List ℕ))
      → OnErr r (AnsweredSome Does input input' out out' old new)
      → OnErr r (ServedSomeBy (ShardsServe M) input input' out out' old new)
  some_of (Ok count) input input' out out' p = tt
  some_of (Err fault) input input' out out' p =
      let s = lines_served M (dealt (length old)) p.0 p.5.0 old p.1 new p.5.1 p.5.2 in (
        p.0,
        s.0,
        p.2,
        p.3,
        p.4,
        dealt_lines_serve M p.0 s.0 old new same s.1,
        subst (AppendsBeginning out out') s.2 p.6,
      )
