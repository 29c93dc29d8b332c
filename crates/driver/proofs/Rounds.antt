-- Steps of the driver one after the other, and what is written of them.
use Rattle.std.proofs.Common.{◌≡◌, refl, sym, ◌∙◌, ap, subst, ℕ, ◌<◌, ◌≤◌, ◌+◌, true, List, [], ◌∷◌, ◌++◌, length, take}
use Rattle.std.proofs.Common.{drop, get_or, add-one, arith, append_assoc, append-nil, length-append, inl, inr}
use Rattle.std.proofs.lemmas.Grind.{flat_map-append}
use Rattle.std.proofs.Math.Seq.{drop-cons}
use Rattle.std.proofs.lemmas.List.{take-append-drop}
use Rattle.std.proofs.lemmas.List.Concat.{flat_map-cons}
use Rattle.std.proofs.KnownBytes.{Appends-trans, Appends-kept, Appends-nil, Keeps-refl}
use Rattle.std.specs.Io.KnownBytes.{Appends, Keeps}
use Rattle.std.specs.Prelude.{Option, Some, None, Result, Ok, Err, IfErr, IfOk, OnOk, OnErr, flat_map}
use denote.Ref.{MutBor}
use denote.Param.Members.{Shared}
use Rattle.model.specs.Addresses.{addressed}
use Rattle.model.specs.Failures.{HasRisen}
use Rattle.model.specs.Handler.{Meaning}
use Rattle.model.specs.declared.limits.TheConstants.{MAX_LINE_BYTES}
use Rattle.model.specs.declared.refusals.Refusal.TheVariants.{BadLine}
use Rattle.model.specs.declared.replies.Reply.{Reply}
use Rattle.model.specs.declared.replies.Reply.TheVariants.{Refused}
use Rattle.model.specs.declared.replies.Who.TheVariants.{Caller}
use Rattle.model.specs.declared.steps.Step.{Step}
use Rattle.book.specs.Entries.{Ledger}
use Rattle.book.specs.Standing.{Carries, HostState, IsHostOf}
use Rattle.written.specs.Beginnings.{AppendsBeginning}
use Rattle.forms.specs.Reading.{Gives, step_of_line}
use Rattle.forms.specs.declared.fault.LineFault.{LineFault}
use Rattle.forms.specs.declared.fault.LineFault.TheVariants.{Bad, NoMemory as NoLineMemory}
use Rattle.lines.specs.Doing.{DoesBy}
use Rattle.lines.specs.Lines.{LinesRead}
use Rattle.lines.specs.Parts.{TakesPart}
use Rattle.lines.specs.Serving.{AnsweredLineBy, AnsweredStepBy, EntersStep, HostDoes, line_step, reply_line, reply_upon}
use Rattle.lines.specs.declared.fault.ServeFault.{ServeFault}
use Rattle.lines.specs.declared.fault.ServeFault.TheVariants.{Read, Write, NoMemory}
use Rattle.lines.proofs.Parts.{LinesRead-more, LinesRead-nil, TakesPart-none}
use Rattle.lines.proofs.Runs.{line_step-held, long_answered}
use Rattle.driver.specs.Driving.{AreRounds, BookDrives, Broken, CarriesOn, Drives, Drove, DroveAllBy, DroveOn}
use Rattle.driver.specs.Driving.{DroveSomeBy, DroveUntil, HostDrives, IsDriven, IsFault, IsRound, IsStepRound, Round}
use Rattle.driver.specs.Driving.{Took, Wrote, WroteUntil, lines_told, round_text}

-- ---- bytes

beginning_after : (a b c : Option (List ℕ)) (one two : List ℕ)
    → Appends a b one → AppendsBeginning b c two → AppendsBeginning a c (one ++ two)
beginning_after a b c one two p q = (
  one ++ q.0,
  Appends-trans a b c one q.0 p q.1,
  (q.2.0, ap (λ x. one ++ x) q.2.1 ∙ sym (append_assoc one q.0 q.2.0)),
)

pub all_begun : (a b : Option (List ℕ)) (bytes : List ℕ) → Appends a b bytes → AppendsBeginning a b bytes
all_begun a b bytes p = (bytes, p, ([], sym (append-nil bytes)))

-- some bytes were written before
pub wrote_then : {A : Type 0} (r : Result A ServeFault) (one two : List ℕ) (a b c : Option (List ℕ)) (f g h : ℕ)
    → Appends a b one → g ≡ f → Wrote r two b c g h → Wrote r (one ++ two) a c f h
wrote_then (Ok x) one two a b c f g h p same q = (Appends-trans a b c one two p q.0, q.1 ∙ same)
wrote_then (Err fault) one two a b c f g h p same q =
    (beginning_after a b c one two p q.0, subst (λ z. IsFault fault z h) same q.1)

-- and then there was no memory
pub wrote_stopped : (A : Type 0) (e : ServeFault) (bytes : List ℕ) (a b : Option (List ℕ)) (f g : ℕ)
    → e ≡ NoMemory → Appends a b bytes → g ≡ f → Wrote {A = A} (Err e) bytes a b f g
wrote_stopped A e bytes a b f g is p same =
    subst (λ x. Wrote {A = A} (Err x) bytes a b f g) (sym is) (all_begun a b bytes p, same)

-- a reply or an output, by what the writing of it promises
pub wrote_by : {A : Type 0} (r : Result A ServeFault) (bytes : List ℕ) (a b : Option (List ℕ)) (f g : ℕ)
    → (OnOk r (Appends a b bytes)) → OnErr r (AppendsBeginning a b bytes)
    → (r ≡ Err Write → HasRisen f g) → ¬ (r ≡ Err Read) → (¬ (r ≡ Err Write) → g ≡ f) → Wrote r bytes a b f g
wrote_by (Ok x) bytes a b f g ok err write read same = (ok, same (λ e. cc))
wrote_by (Err Read) bytes a b f g ok err write read same = absurd (read refl)
wrote_by (Err Write) bytes a b f g ok err write read same = (err, write refl)
wrote_by (Err NoMemory) bytes a b f g ok err write read same = (err, same (λ e. cc))

-- ---- steps of the driver

module _ {B : Type 0} (Does : B → Step → Reply → B → Type 0) (tenant : List ℕ) where
  drives_on : (old : B) (steps : List (Step × Reply)) (mid : B) (more : List (Step × Reply)) (new : B)
      → Drives Does tenant old steps mid → Drives Does tenant mid more new → Drives Does tenant old (steps ++ more) new
  drives_on old [] mid more new p q = subst (λ z. Drives Does tenant z more new) p q
  drives_on old (s ∷ steps) mid more new p q = (p.0, p.1, p.2, drives_on p.1 steps mid more new p.3 q)

  -- none
  pub drove_none : (x : B) (out : Option (List ℕ)) (f : ℕ) → DroveOn Does tenant x x out out f f
  drove_none x out f = ([], refl, (Appends-nil out, refl))

  -- more
  pub drove_then : {A : Type 0}
      (r : Result A ServeFault) (old mid new : B) (out omid out' : Option (List ℕ)) (f g h : ℕ)
      → DroveOn Does tenant old mid out omid f g
      → Drove Does tenant r mid new omid out' g h → Drove Does tenant r old new out out' f h
  drove_then r old mid new out omid out' f g h p q = (
    p.0 ++ q.0,
    drives_on old p.0 mid q.0 new p.1 q.1,
    subst (λ bytes. Wrote r bytes out out' f h) (sym (flat_map-append lines_told p.0 q.0))
        (wrote_then r (flat_map lines_told p.0) (flat_map lines_told q.0) out omid out' f g h p.2.0 p.2.1 q.2),
  )

  -- more, and then a fault
  pub drove_cut : (e : ServeFault) (old mid new : B) (out omid out' : Option (List ℕ)) (f g h : ℕ)
      → DroveOn Does tenant old mid out omid f g
      → DroveUntil Does tenant e mid new omid out' g h → DroveUntil Does tenant e old new out out' f h
  drove_cut e old mid new out omid out' f g h p q = drove_then {A = ℕ} (Err e) old mid new out omid out' f g h p q

  -- one step, whose texts were written so
  pub drove_one : {A : Type 0}
      (r : Result A ServeFault) (step : Step) (reply : Reply) (old new : B) (out out' : Option (List ℕ)) (f g : ℕ)
      → IsDriven tenant (step, reply) → Does old step reply new
      → Wrote r (lines_told (step, reply)) out out' f g → Drove Does tenant r old new out out' f g
  drove_one r step reply old new out out' f g driven does wrote = (
    (step, reply) ∷ [],
    (driven, new, does, refl),
    subst (λ bytes. Wrote r bytes out out' f g)
        (sym (flat_map-cons lines_told (step, reply) [] ∙ append-nil (lines_told (step, reply)))) wrote,
  )

  -- One step of the driver that was done, and whose lines were written, is driving without a fault.
  pub drove_one_on : (step : Step) (reply : Reply) (old new : B) (out out' : Option (List ℕ)) (f g : ℕ)
      → IsDriven tenant (step, reply) → Does old step reply new
      → Appends out out' (lines_told (step, reply)) → g ≡ f → DroveOn Does tenant old new out out' f g
  drove_one_on step reply old new out out' f g driven does wrote same =
      drove_one {A = ℕ} (Ok 0) step reply old new out out' f g driven does (wrote, same)

  -- and then there was no memory
  pub drove_out : (old new : B) (out out' : Option (List ℕ)) (f g : ℕ)
      → DroveOn Does tenant old new out out' f g → DroveUntil Does tenant NoMemory old new out out' f g
  drove_out old new out out' f g p = (p.0, p.1, (all_begun out out' (flat_map lines_told p.0) p.2.0, p.2.1))

  -- what was answered was taken in, or there was no memory for it
  pub drove_heard : {A : Type 0} (r : Result A ServeFault) (old new : B) (out out' : Option (List ℕ)) (f g : ℕ)
      → IfErr r (λ e. e ≡ NoMemory)
      → DroveOn Does tenant old new out out' f g → Drove Does tenant r old new out out' f g
  drove_heard (Ok x) old new out out' f g none p = p
  drove_heard {A} (Err e) old new out out' f g is p =
      (p.0, p.1, wrote_stopped A e (flat_map lines_told p.0) out out' f g is p.2.0 p.2.1)

  -- a fault is passed on
  pub drove_fails : {A : Type 0} (r : Result A ServeFault)
      (e e' : ServeFault) (old new : B) (out out' : Option (List ℕ)) (f g : ℕ) → r ≡ Err e → e ≡ e'
      → DroveUntil Does tenant e' old new out out' f g → Drove Does tenant r old new out out' f g
  drove_fails {A} r e e' old new out out' f g is same p =
      subst (λ (z : Result A ServeFault). Drove Does tenant z old new out out' f g) (sym (is ∙ ap Err same)) p

-- ---- the texts of a release

-- some lines, and then a beginning of the next one
pub wrote_part : {A : Type 0} (r : Result A ServeFault) (e e' : ServeFault)
    (line : List ℕ → List ℕ) (texts : List (List ℕ)) (i : ℕ) (x : List ℕ) (a b c : Option (List ℕ)) (f g h : ℕ)
    → r ≡ Err e → e ≡ e' → i < length texts → x ≡ get_or texts i x
    → Appends a b (flat_map line (take i texts))
    → g ≡ f → WroteUntil e' (line x) b c g h → Wrote r (flat_map line texts) a c f h
wrote_part {A} r e e' line texts i x a b c f g h is fault within at so_far same (begun, failed) =
    let before : List ℕ = flat_map line (take i texts) in
    let rest : List ℕ = flat_map line (drop (i + 1) texts) in
    let next : drop i texts ≡ get_or texts i x ∷ drop (i + 1) texts = rw add-one (drop-cons texts i x within) in
    let all : flat_map line texts ≡ before ++ (line x ++ rest) =
    ap (flat_map line) (sym (take-append-drop i texts))
    ∙ flat_map-append line (take i texts) (drop i texts)
    ∙ ap (λ ts. before ++ flat_map line ts) next
    ∙ ap (λ (l : List ℕ). before ++ l) (flat_map-cons line (get_or texts i x) (drop (i + 1) texts))
    ∙ ap (λ z. before ++ (line z ++ rest)) (sym at) in
    let cut : flat_map line texts ≡ (before ++ begun.0) ++ (begun.2.0 ++ rest) =
    all
    ∙ ap (λ l. before ++ (l ++ rest)) begun.2.1
    ∙ ap (λ (l : List ℕ). before ++ l) (append_assoc begun.0 begun.2.0 rest)
    ∙ sym (append_assoc before begun.0 (begun.2.0 ++ rest)) in
    subst (λ (z : Result A ServeFault). Wrote z (flat_map line texts) a c f h) (sym (is ∙ ap Err fault)) (
      (before ++ begun.0, Appends-trans a b c before begun.0 so_far begun.1, (begun.2.0 ++ rest, cut)),
      subst (λ z. IsFault e' z h) same failed,
    )

-- ---- a line's round

module _ {B : Type 0} (Does : B → Step → Reply → B → Type 0) where
  -- a step that was answered, and what the driver did behind it
  pub step_round : {A : Type 0} (r : Result A ServeFault)
      (step : Step) (reply : Reply) (old mid new : B) (out omid out' : Option (List ℕ)) (f g h : ℕ)
      → Does old step reply mid
      → Appends out omid (reply_line reply) → g ≡ f → Drove Does (addressed step).0 r mid new omid out' g h
      → (round : Round) × IsStepRound Does step old round new × Wrote r (round_text round) out out' f h
  step_round r step reply old mid new out omid out' f g h does wrote same p = (
    record { reply = reply; steps = p.0 },
    record { mid = mid; done = does; driven = p.1 },
    wrote_then r (reply_line reply) (flat_map lines_told p.0) out omid out' f g h wrote same p.2,
  )

  -- a step whose reply could not be written
  pub step_cut : {A : Type 0} (r : Result A ServeFault)
      (step : Step) (reply : Reply) (old new : B) (out out' : Option (List ℕ)) (f g : ℕ)
      → Does old step reply new → Wrote r (reply_line reply) out out' f g
      → (round : Round) × IsStepRound Does step old round new × Wrote r (round_text round) out out' f g
  step_cut r step reply old new out out' f g does wrote = (
    record { reply = reply; steps = [] },
    record { mid = new; done = does; driven = refl },
    subst (λ bytes. Wrote r bytes out out' f g) (sym (append-nil (reply_line reply))) wrote,
  )

  -- a fault is passed on
  pub round_fails : {A : Type 0} (r : Result A ServeFault)
      (e e' : ServeFault) (step : Step) (old new : B) (out out' : Option (List ℕ)) (f g : ℕ) → r ≡ Err e → e ≡ e'
      → ((round : Round) × IsStepRound Does step old round new × WroteUntil e' (round_text round) out out' f g)
      → (round : Round) × IsStepRound Does step old round new × Wrote r (round_text round) out out' f g
  round_fails {A} r e e' step old new out out' f g is same p = (
    p.0,
    p.1,
    subst (λ (z : Result A ServeFault). Wrote z (round_text p.0) out out' f g) (sym (is ∙ ap Err same)) p.2,
  )

  -- the round of a line that is this step
  pub line_round : (line : List ℕ) (step : Step) (old new : B) (round : Round)
      → length line ≤ MAX_LINE_BYTES → line_step line ≡ Some step
      → IsStepRound Does step old round new → IsRound Does line old round new
  line_round line step old new round short is p = (
    p.mid,
    (
      subst (λ s. AnsweredStepBy Does s old round.reply p.mid) (sym is) (inr p.done),
      λ long. absurd (omega (arith, long, short)),
    ),
    subst (λ s. CarriesOn Does s p.mid round.steps new) (sym is) p.driven,
  )

  is_none : (step : Step) → Some step ≡ None → ⊥
  is_none step e = cc

  fault_answered : (read : Option Step) (fault : LineFault) (x : B)
      → Gives (λ s. s) (Err fault) read → AnsweredStepBy Does read x (reply_upon fault) x
  fault_answered None Bad x gives = inr (refl, refl)
  fault_answered (Some step) Bad x gives = absurd (is_none step gives)
  fault_answered None NoLineMemory x gives = inl (refl, refl)
  fault_answered (Some step) NoLineMemory x gives = inl (refl, refl)

  -- a line that gave no step, answered
  pub line_answered : (line : List ℕ) (fault : LineFault) (reply : Reply) (x : B)
      → length line ≤ MAX_LINE_BYTES → Gives (λ s. s) (Err fault) (step_of_line line)
      → reply ≡ reply_upon fault → AnsweredLineBy Does line x reply x
  line_answered line fault reply x short gives is =
      subst (λ r. AnsweredLineBy Does line x r x) (sym is) (
        subst (λ s. AnsweredStepBy Does s x (reply_upon fault) x) (sym (line_step-held line short))
            (fault_answered (step_of_line line) fault x gives),
        λ long. absurd (omega (arith, long, short)),
      )

  none_carried : (read : Option Step) (x : B) → CarriesOn Does read x [] x
  none_carried None x = (refl, refl)
  none_carried (Some step) x = refl

  -- the round of a line that was only answered
  pub answered_round : {A : Type 0}
      (r : Result A ServeFault) (line : List ℕ) (reply : Reply) (x : B) (out out' : Option (List ℕ)) (f g : ℕ)
      → AnsweredLineBy Does line x reply x → Wrote r (reply_line reply) out out' f g
      → (round : Round) × IsRound Does line x round x × Wrote r (round_text round) out out' f g
  answered_round r line reply x out out' f g answered wrote = (
    record { reply = reply; steps = [] },
    (x, answered, none_carried (line_step line) x),
    subst (λ bytes. Wrote r bytes out out' f g) (sym (append-nil (reply_line reply))) wrote,
  )

  -- the round of a line that is too long, and what is written of it
  pub long_round : (line : List ℕ) (reply : Reply) (x : B) → MAX_LINE_BYTES < length line → reply ≡ Refused BadLine
      → (round : Round) × IsRound Does line x round x
      × (((a b : Option (List ℕ)) → Appends a b (reply_line reply) → Appends a b (round_text round))
      × ((a b : Option (List ℕ)) → AppendsBeginning a b (reply_line reply) → AppendsBeginning a b (round_text round)))
  long_round line reply x long is = (
    record { reply = reply; steps = [] },
    (
      x,
      subst (λ r. AnsweredLineBy Does line x r x) (sym is) (long_answered Does line x long),
      none_carried (line_step line) x,
    ),
    (
      λ a b p. subst (Appends a b) (sym (append-nil (reply_line reply))) p,
      λ a b p. subst (AppendsBeginning a b) (sym (append-nil (reply_line reply))) p,
    ),
  )

  -- one round more
  rounds_more : (lines : List (List ℕ)) (old mid new : B) (rounds : List Round) (line : List ℕ) (round : Round)
      → AreRounds Does lines old rounds mid
      → IsRound Does line mid round new → AreRounds Does (lines ++ line ∷ []) old (rounds ++ round ∷ []) new
  rounds_more [] old mid new rounds line round p q =
      (round, [], new, ap (λ rs. rs ++ round ∷ []) p.0, subst (λ s. IsRound Does line s round new) p.1 q, (refl, refl))
  rounds_more (l ∷ ls) old mid new rounds line round p q = (
    p.0,
    p.1 ++ round ∷ [],
    p.2,
    ap (λ rs. rs ++ round ∷ []) p.3,
    p.4,
    rounds_more ls p.2 mid new p.1 line round p.5 q,
  )

text_more : (rounds : List Round) (round : Round)
    → flat_map round_text (rounds ++ round ∷ []) ≡ flat_map round_text rounds ++ round_text round
text_more rounds round = flat_map-append round_text rounds (round ∷ [])
    ∙ ap (λ x. flat_map round_text rounds ++ x) (flat_map-cons round_text round [] ∙ append-nil (round_text round))

-- what was driven so far
pub record SoFar {B : Type 0} (Does : B → Step → Reply → B → Type 0)
    (input input' out out' : Option (List ℕ)) (old new : B) (count : ℕ) : Type 0 where
  pub lines : List (List ℕ)
  pub rounds : List Round
  pub read : LinesRead input input' lines
  pub run : AreRounds Does lines old rounds new
  pub written : Appends out out' (flat_map round_text rounds)
  pub counted : length lines ≡ count

module _ {B : Type 0} (Does : B → Step → Reply → B → Type 0) where
  -- Before a line is read nothing was driven.
  pub so_far_none : (input out : Option (List ℕ)) (x : B) → SoFar Does input input out out x x 0
  so_far_none input out x = record {
    lines = [];
    rounds = [];
    read = LinesRead-nil input;
    run = (refl, refl);
    written = Appends-nil out;
    counted = refl;
  }

  module _ (input mid input' out omid out' : Option (List ℕ))
      (old bmid new : B) (count : ℕ) (p : SoFar Does input mid out omid old bmid count) where
    -- a line more
    pub so_far_more : (line : List ℕ) (round : Round)
        → LinesRead mid input' (line ∷ []) → IsRound Does line bmid round new → Appends omid out' (round_text round)
        → SoFar Does input input' out out' old new (count + 1)
    so_far_more line round one is grown = record {
      lines = p.lines ++ line ∷ [];
      rounds = p.rounds ++ round ∷ [];
      read = LinesRead-more _ _ _ p.lines line p.read one;
      run = rounds_more Does p.lines old bmid new p.rounds line round p.run is;
      written = subst (Appends out out') (sym (text_more p.rounds round)) (Appends-trans _ _ _ _ _ p.written grown);
      counted = omega (arith, p.counted, length-append p.lines (line ∷ []));
    }

    -- a line's round that is not all written
    pub so_far_cut : (line : List ℕ) (round : Round) → LinesRead mid input' (line ∷ [])
        → IsRound Does line bmid round new → AppendsBeginning omid out' (round_text round)
        → DroveSomeBy (AreRounds Does) input input' out out' old new
    so_far_cut line round one is begun = (
      p.lines ++ line ∷ [],
      p.rounds ++ round ∷ [],
      input',
      LinesRead-more _ _ _ p.lines line p.read one,
      TakesPart-none _ _ (Keeps-refl _),
      rounds_more Does p.lines old bmid new p.rounds line round p.run is,
      subst (AppendsBeginning out out') (sym (text_more p.rounds round))
          (beginning_after out omid out' (flat_map round_text p.rounds) (round_text round) p.written begun),
    )

  -- no line was read, but at most a part of one
  pub so_far_part : (input mid input' out omid out' : Option (List ℕ)) (old new : B) (count : ℕ)
      → SoFar Does input mid out omid old new count
      → TakesPart mid input' → Keeps omid out' → DroveSomeBy (AreRounds Does) input input' out out' old new
  so_far_part input mid input' out omid out' old new count p part kept = (
    p.lines,
    p.rounds,
    mid,
    p.read,
    part,
    p.run,
    all_begun out out' (flat_map round_text p.rounds) (Appends-kept _ _ _ _ p.written kept),
  )

  module _ (input mid input' out omid out' : Option (List ℕ))
      (old bmid new : B) (count : ℕ) (p : SoFar Does input mid out omid old bmid count) where
    -- A turn that took a line adds one to the lines that were driven so far.
    pub so_far_took : Took Does true mid input' omid out' bmid new
        → SoFar Does input input' out out' old new (count + 1)
    so_far_took (line, round, one, is, grown) =
        so_far_more input mid input' out omid out' old bmid new count p line round one is grown

    -- Driving that broke off in a turn ended early, with what was driven so far.
    pub so_far_broken : Broken Does mid input' omid out' bmid new
        → DroveSomeBy (AreRounds Does) input input' out out' old new
    so_far_broken (inl (part, same, kept)) =
        subst (λ z. DroveSomeBy (AreRounds Does) input input' out out' old z)
        (sym same) (so_far_part input mid input' out omid out' old bmid count p part kept)
    so_far_broken (inr (line, round, one, is, begun)) =
        so_far_cut input mid input' out omid out' old bmid new count p line round one is begun

-- ---- a step that is done so, seen otherwise

module _ {B : Type 0} (One Other : B → Step → Reply → B → Type 0)
    (f : (x : B) (s : Step) (r : Reply) (y : B) → One x s r y → Other x s r y) where
  answered_as : (read : Option Step) (old : B) (reply : Reply) (new : B)
      → AnsweredStepBy One read old reply new → AnsweredStepBy Other read old reply new
  answered_as None old reply new p = p
  answered_as (Some step) old reply new (inl p) = inl p
  answered_as (Some step) old reply new (inr p) = inr (f old step reply new p)

  drives_as : (tenant : List ℕ) (old : B) (steps : List (Step × Reply)) (new : B)
      → Drives One tenant old steps new → Drives Other tenant old steps new
  drives_as tenant old [] new p = p
  drives_as tenant old (s ∷ steps) new p = (p.0, p.1, f old s.0 s.1 p.1 p.2, drives_as tenant p.1 steps new p.3)

  carried_as : (read : Option Step) (old : B) (steps : List (Step × Reply)) (new : B)
      → CarriesOn One read old steps new → CarriesOn Other read old steps new
  carried_as None old steps new p = p
  carried_as (Some step) old steps new p = drives_as (addressed step).0 old steps new p

  -- The round of a step is one by whatever its steps are too.
  pub step_round_as : (step : Step) (old : B) (round : Round) (new : B)
      → IsStepRound One step old round new → IsStepRound Other step old round new
  step_round_as step old round new p = record {
    mid = p.mid;
    done = f old step round.reply p.mid p.done;
    driven = drives_as (addressed step).0 p.mid round.steps new p.driven;
  }

  pub rounds_as : (lines : List (List ℕ)) (old : B) (rounds : List Round) (new : B)
      → AreRounds One lines old rounds new → AreRounds Other lines old rounds new
  rounds_as [] old rounds new p = p
  rounds_as (l ∷ ls) old rounds new p = (
    p.0,
    p.1,
    p.2,
    p.3,
    (
      p.4.0,
      (answered_as (line_step l) old p.0.reply p.4.0 p.4.1.0, p.4.1.1),
      carried_as (line_step l) p.4.0 p.0.steps p.2 p.4.2,
    ),
    rounds_as ls p.2 p.1 new p.5,
  )

-- ---- of the books that are stood for

module _ {B : Type 0} (Does : B → Step → Reply → B → Type 0) (Stands : B → Ledger → Type 0)
    (carries : (old : B) (step : Step) (reply : Reply) (new : B) → Does old step reply new
    → Carries Stands (λ before after. EntersStep before step reply after) old new) where
  stays : (old new : B) (book : Ledger) → new ≡ old → Stands old book → Stands new book
  stays old new book same is = subst (λ h. Stands h book) (sym same) is

  each_answered : (read : Option Step) (old : B) (reply : Reply) (new : B) → AnsweredStepBy Does read old reply new
      → Carries Stands (λ before after. AnsweredStepBy EntersStep read before reply after) old new
  each_answered None old reply new (inl p) before is = (before, stays old new before p.1 is, inl (p.0, refl))
  each_answered None old reply new (inr p) before is = (before, stays old new before p.1 is, inr (p.0, refl))
  each_answered (Some step) old reply new (inl p) before is = (before, stays old new before p.1 is, inl (p.0, refl))
  each_answered (Some step) old reply new (inr p) before is = let one = carries old step reply new p before is in
      (one.0, one.1, inr one.2)

  each_steps : (tenant : List ℕ) (old : B) (steps : List (Step × Reply)) (new : B)
      → Drives Does tenant old steps new
      → Carries Stands (λ before after. Drives EntersStep tenant before steps after) old new
  each_steps tenant old [] new p before is = (before, stays old new before p is, refl)
  each_steps tenant old (s ∷ steps) new p before is =
      let one = carries old s.0 s.1 p.1 p.2 before is in
      let rest = each_steps tenant p.1 steps new p.3 one.0 one.1 in
      (rest.0, rest.1, (p.0, one.0, one.2, rest.2))

  each_carried : (read : Option Step) (old : B) (steps : List (Step × Reply)) (new : B)
      → CarriesOn Does read old steps new
      → Carries Stands (λ before after. CarriesOn EntersStep read before steps after) old new
  each_carried None old steps new p before is = (before, stays old new before p.1 is, (p.0, refl))
  each_carried (Some step) old steps new p before is = each_steps (addressed step).0 old steps new p before is

  -- Where each line's round was done, the lines were driven for each book that is stood for.
  pub drives_each : (lines : List (List ℕ)) (old : B) (rounds : List Round) (new : B)
      → AreRounds Does lines old rounds new
      → Carries Stands (λ before after. BookDrives lines before rounds after) old new
  drives_each [] old rounds new p before is = (before, stays old new before p.1 is, (p.0, refl))
  drives_each (l ∷ ls) old rounds new p before is =
      let one = each_answered (line_step l) old p.0.reply p.4.0 p.4.1.0 before is in
      let two = each_carried (line_step l) p.4.0 p.0.steps p.2 p.4.2 one.0 one.1 in
      let rest = drives_each ls p.2 p.1 new p.5 two.0 two.1 in
      (rest.0, rest.1, (p.0, p.1, two.0, p.3, (one.0, (one.2, p.4.1.1), two.2), rest.2))

-- A host that does each line's round drives the lines for each book that it stands for.
pub host_drives : {S : Type 0} (M : Meaning S) (lines : List (List ℕ)) (old : HostState S) (rounds : List Round)
    (new : HostState S) → AreRounds (HostDoes M) lines old rounds new → HostDrives M lines old rounds new
host_drives M lines old rounds new =
    drives_each (HostDoes M) (IsHostOf M) (λ before step reply after does book is.
    let one = does Caller book is in (one.0, one.1, one.2.0)) lines old rounds new

-- ---- what was driven, seen otherwise

module _ {F B : Type 0} (g : Shared F (MutBor B × (Step × Unit {0})) (Reply × (MutBor B × Unit {0})))
    (f : F) (Other : B → Step → Reply → B → Type 0)
    (fact : (p q : MutBor B) (step : Step) (reply : Reply)
    → g.post f (p, (step, tt)) (reply, (q, tt)) → Other p.now step reply q.now) where
  -- What a call of the function left is what its calls do.
  pub calls_do : (old : B) (step : Step) (reply : Reply) (new : B)
      → DoesBy g f old step reply new → Other old step reply new
  calls_do old step reply new d =
      subst (λ z. Other z step reply new) d.argument_is
      (subst (Other d.argument.now step reply) d.left (fact d.argument d.after_call step reply d.call))

  module _ (Driving : List (List ℕ) → B → List Round → B → Type 0) (old new : B) (drives : (lines : List (List ℕ))
      (rounds : List Round) → AreRounds Other lines old rounds new → Driving lines old rounds new) where
    -- What was driven to the end by calls of a function was driven so by what the calls do.
    pub drove_all : {E : Type 0} (r : Result ℕ E) (input out out' : Option (List ℕ))
        → IfOk r (λ count. DroveAllBy (AreRounds (DoesBy g f)) input out out' old new count)
        → IfOk r (λ count. DroveAllBy Driving input out out' old new count)
    drove_all (Ok count) input out out' p =
        (p.0, p.1, p.2, drives p.0 p.1 (rounds_as (DoesBy g f) Other calls_do p.0 old p.1 new p.3), p.4, p.5)
    drove_all (Err e) input out out' p = tt

    -- What was driven up to a fault by calls of a function was driven so by what the calls do.
    pub drove_some : {A E : Type 0} (r : Result A E) (input input' out out' : Option (List ℕ))
        → OnErr r (DroveSomeBy (AreRounds (DoesBy g f)) input input' out out' old new)
        → OnErr r (DroveSomeBy Driving input input' out out' old new)
    drove_some (Ok a) input input' out out' p = tt
    drove_some (Err e) input input' out out' p =
        (p.0, p.1, p.2, p.3, p.4, drives p.0 p.1 (rounds_as (DoesBy g f) Other calls_do p.0 old p.1 new p.5), p.6)
