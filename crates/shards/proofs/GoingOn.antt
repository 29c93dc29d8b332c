-- Answering goes on, a block after the other.
use Rattle.std.proofs.Common.{◌≡◌, ◌≢◌, ◌+◌, ℕ, List, [], ◌∷◌, ◌++◌, length, cond, eqb, Bool, true}
use Rattle.std.proofs.Common.{false, refl, sym, ap, subst, ◌∙◌, arith, append_assoc, append-nil}
use Rattle.std.proofs.Common.{length-append}
use Rattle.std.specs.Prelude.{Option, Some, None, Result, Ok, Err, OnOk, OnErr, IfErr, flat_map, IfSome}
use Rattle.std.specs.Io.KnownBytes.{Appends, Consumes, IsAtEnd, Keeps}
use Rattle.std.proofs.KnownBytes.{Appends-kept, Appends-nil, Appends-trans, Consumes-kept, Consumes-nil, Consumes-trans}
use Rattle.std.proofs.lemmas.List.Concat.{flat_map-append}
use Rattle.model.specs.Failures.{HasRisen}
use Rattle.model.specs.declared.steps.Step.{Step}
use Rattle.forms.specs.declared.fault.LineFault.{LineFault}
use Rattle.lines.specs.Feeds.{AreReadings}
use Rattle.lines.specs.Lines.{Holds, IsPart, LinesRead, lines_of}
use Rattle.lines.specs.Parts.{IsLineRead, LineGoesOn, Takes}
use Rattle.lines.specs.declared.fault.ServeFault.{ServeFault}
use Rattle.lines.specs.declared.fault.ServeFault.TheVariants.{Write}
use Rattle.lines.specs.declared.input.LineRead.{LineRead}
use Rattle.lines.specs.declared.input.LineRead.TheVariants.{Line, Long, End}
use Rattle.lines.specs.declared.part.Part.TheVariants.{Ended, AtEnd}
use Rattle.lines.proofs.Parts.{IsAtEnd-unread, IsPart-append, IsPart-nil, LinesRead-all, LinesRead-ended}
use Rattle.lines.proofs.Parts.{LinesRead-more, LinesRead-nil, heard_last, heard_line}
use Rattle.written.specs.Beginnings.{AppendsBeginning}
use Rattle.shards.specs.Blocks.{AnswersEachBy, AnswersLines, whole}
use Rattle.shards.specs.Kept.{AreKept, IsKept}
use Rattle.shards.specs.Underway.{AnsweredAll, AnsweredEach, Ends, ReadSoFar, Stopped, Turns, Underway, Waiting}
use Rattle.shards.proofs.Readings.{AreKept-more, heard_kept, readings_are}

-- ---- lines, one block of them behind another

readings-append : (lines more : List (List ℕ)) (xs ys : List (Result Step LineFault))
    → AreReadings lines xs → AreReadings more ys → AreReadings (lines ++ more) (xs ++ ys)
readings-append [] more xs ys p q = subst (λ (l : List (Result Step LineFault)). AreReadings more (l ++ ys)) (sym p) q
readings-append (l ∷ lines) more [] ys p q = absurd p
readings-append (l ∷ lines) more (x ∷ xs) ys p q = (p.0, readings-append lines more xs ys p.1 q)

module _ {B : Type 0} (Does : B → Step → List ℕ → B → Type 0) where
  answers-append : (xs ys : List (Result Step LineFault)) (old mid new : B) (answers others : List (List ℕ))
      → AnswersEachBy Does xs old answers mid → AnswersEachBy Does ys mid others new
      → AnswersEachBy Does (xs ++ ys) old (answers ++ others) new
  answers-append [] ys old mid new answers others p q =
      subst (λ (l : List (List ℕ)). AnswersEachBy Does ys old (l ++ others) new)
      (sym p.0) (subst (λ b. AnswersEachBy Does ys b others new) p.1 q)
  answers-append (x ∷ xs) ys old mid new answers others p q =
      (p.0, p.1 ++ others, p.2, ap (λ l. l ++ others) p.3, p.4, answers-append xs ys p.2 mid new p.1 others p.5 q)

-- ---- the end of the input

ended_from : (a b c d : Option (List ℕ)) (ls : List (List ℕ)) (text : List ℕ)
    → LinesRead a b ls → Consumes b c text → IsAtEnd c → Keeps c d → IfSome a (λ _. IsAtEnd d)
ended_from None b c d ls text p q e k = tt
ended_from (Some x) None c d ls text p q e k = absurd p
ended_from (Some x) (Some y) None d ls text p q e k = absurd q
ended_from (Some x) (Some y) (Some z) None ls text p q e k = absurd k
ended_from (Some x) (Some y) (Some z) (Some w) ls text p q e k = k ∙ e

read_all : (a b c : Option (List ℕ)) (ls : List (List ℕ))
    → LinesRead a b ls → Consumes b c [] → IfSome a (λ _. IsAtEnd c) → IfSome a (λ all. lines_of all ≡ ls)
read_all None b c ls p q e = tt
read_all (Some x) b c ls p q e = LinesRead-all (Some x) b ls p (IsAtEnd-unread b c q e)

-- no lines are kept of none
none_queued : (queued : List (List ℕ)) (kept : List (Result (List ℕ) LineFault))
    → AreKept queued kept → kept ≡ [] → queued ≡ []
none_queued [] kept are none = refl
none_queued (l ∷ queued) kept are none = absurd (subst (AreKept (l ∷ queued)) none are)

-- What stands before the end of the input and isn't nothing is heard as a line that ended.
pub last_kind : (is_long empty : Bool) (kind : LineRead)
    → kind ≡ cond is_long Long (cond empty End Line) → kind ≢ End → kind ≡ cond is_long Long Line
last_kind true empty kind is some = is
last_kind false true kind is some = absurd (some is)
last_kind false false kind is some = is

-- ---- what is heard

module _ (begin now : Option (List ℕ)) (answered : List (List ℕ))
    (waiting : Waiting) (heard : ReadSoFar begin now answered waiting) where
  -- the input is as it was
  pub kept_so : (input : Option (List ℕ)) → Keeps now input → ReadSoFar begin input answered waiting
  kept_so input same = record {
    queued = heard.queued;
    rest = heard.rest;
    text = heard.text;
    read = heard.read;
    are_kept = heard.are_kept;
    part = heard.part;
    taken = Consumes-kept _ _ _ _ heard.taken same;
    holds = heard.holds;
    counted = heard.counted;
  }

  -- the input is at its end, where it is known
  pub ended : (input : Option (List ℕ)) → IsAtEnd now → Keeps now input → IfSome begin (λ _. IsAtEnd input)
  ended input e k =
      ended_from begin heard.rest now input (answered ++ heard.queued) heard.text heard.read heard.taken e k

  -- a part of a line
  pub part_more : (input : Option (List ℕ)) (bytes held : List ℕ) (is_long : Bool)
      → IsPart bytes → Consumes now input bytes → LineGoesOn waiting.held waiting.is_long held is_long bytes
      → ReadSoFar begin input answered
      (record { held = held; is_long = is_long; lines = waiting.lines; count = waiting.count })
  part_more input bytes held is_long part took goes = record {
    queued = heard.queued;
    rest = heard.rest;
    text = heard.text ++ bytes;
    read = heard.read;
    are_kept = heard.are_kept;
    part = IsPart-append heard.text bytes heard.part part;
    taken = Consumes-trans _ _ _ _ _ heard.taken took;
    holds = goes heard.text heard.holds;
    counted = heard.counted;
  }

  -- a line
  line_more : (input : Option (List ℕ)) (held : List ℕ) (is_long : Bool) (kept : Result (List ℕ) LineFault)
      (lines : List (Result (List ℕ) LineFault))
      → IsLineRead (cond is_long Long Line) held heard.rest input → IsKept is_long held kept
      → lines ≡ waiting.lines ++ kept ∷ []
      → ReadSoFar begin input answered (record { held = []; is_long = false; lines = lines; count = waiting.count + 1 })
  line_more input held is_long kept lines is so grown =
      let line = heard_kept is_long held kept heard.rest input is so in
      record {
        queued = heard.queued ++ line.0 ∷ [];
        rest = input;
        text = [];
        read = subst (LinesRead begin input) (append_assoc answered heard.queued (line.0 ∷ []))
            (LinesRead-more _ _ _ (answered ++ heard.queued) line.0 heard.read line.1);
        are_kept = subst (AreKept (heard.queued ++ line.0 ∷ [])) (sym grown)
            (AreKept-more heard.queued waiting.lines line.0 kept heard.are_kept line.2);
        part = IsPart-nil;
        taken = Consumes-nil input;
        holds = (refl, omega arith);
        counted =
            ap length (sym (append_assoc answered heard.queued (line.0 ∷ [])))
            ∙ length-append (answered ++ heard.queued) (line.0 ∷ [])
            ∙ ap (λ n. n + 1) heard.counted;
      }

  -- a line that ended
  pub line_ended : (input : Option (List ℕ)) (more : Bool) (held : List ℕ) (is_long : Bool)
      (kept : Result (List ℕ) LineFault) (lines : List (Result (List ℕ) LineFault))
      → Takes (Ended more) now input waiting.held waiting.is_long held is_long → IsKept is_long held kept
      → lines ≡ waiting.lines ++ kept ∷ []
      → ReadSoFar begin input answered (record { held = []; is_long = false; lines = lines; count = waiting.count + 1 })
  line_ended input more held is_long kept lines took so grown =
      let part = IsPart-append heard.text took.0 heard.part took.1 in
      let taken = subst (Consumes heard.rest input)
      (sym (append_assoc heard.text took.0 (10 ∷ []))) (Consumes-trans _ _ _ _ _ heard.taken took.2) in
      let is = heard_line is_long held (heard.text ++ took.0) heard.rest
      input (took.3 heard.text heard.holds) (LinesRead-ended heard.rest input (heard.text ++ took.0) part taken) in
      line_more input held is_long kept lines is so grown

  -- a line without a line feed
  pub line_last : (input : Option (List ℕ)) (held : List ℕ) (is_long : Bool) (kind : LineRead)
      (kept : Result (List ℕ) LineFault) (lines : List (Result (List ℕ) LineFault))
      → Takes AtEnd now input waiting.held waiting.is_long held is_long
      → kind ≡ cond is_long Long (cond (eqb (length held) 0) End Line) → kind ≢ End → IsKept is_long held kept
      → lines ≡ waiting.lines ++ kept ∷ []
      → ReadSoFar begin input answered (record { held = []; is_long = false; lines = lines; count = waiting.count + 1 })
  line_last input held is_long kind kept lines took is some so grown =
      let held_so : Holds held is_long heard.text =
      subst (λ h. Holds h is_long heard.text)
      (sym took.2) (subst (λ b. Holds waiting.held b heard.text) (sym took.3) heard.holds) in
      let last =
      heard_last is_long held heard.text heard.rest now input held_so heard.part heard.taken took.0 took.1 in
      line_more input held is_long kept lines
      (subst (λ k. IsLineRead k held heard.rest input) (sym is ∙ last_kind is_long _ kind is some) last) so grown

  -- no line
  pub line_none : (input : Option (List ℕ)) (held : List ℕ) (is_long : Bool)
      → Takes AtEnd now input waiting.held waiting.is_long held is_long
      → ReadSoFar begin input answered
      (record { held = held; is_long = is_long; lines = waiting.lines; count = waiting.count })
  line_none input held is_long took = record {
    queued = heard.queued;
    rest = heard.rest;
    text = heard.text;
    read = heard.read;
    are_kept = heard.are_kept;
    part = heard.part;
    taken = Consumes-kept _ _ _ _ heard.taken took.1;
    holds = subst (λ h. Holds h is_long heard.text)
        (sym took.2) (subst (λ b. Holds waiting.held b heard.text) (sym took.3) heard.holds);
    counted = heard.counted;
  }

-- What is heard is as told.
pub line_so : (begin input : Option (List ℕ)) (answered : List (List ℕ)) (held : List ℕ) (is_long : Bool)
    (lines : List (Result (List ℕ) LineFault)) (n count : ℕ) → held ≡ [] → is_long ≡ false → count ≡ n
    → ReadSoFar begin input answered (record { held = []; is_long = false; lines = lines; count = n })
    → ReadSoFar begin input answered (record { held = held; is_long = is_long; lines = lines; count = count })
line_so begin input answered held is_long lines n count empty short counted heard =
    subst (λ l. ReadSoFar begin input answered
    (record { held = l; is_long = is_long; lines = lines; count = count })) (sym empty)
    (subst (λ b. ReadSoFar begin input answered
    (record { held = []; is_long = b; lines = lines; count = count })) (sym short)
    (subst (λ m. ReadSoFar begin input answered
    (record { held = []; is_long = false; lines = lines; count = m })) (sym counted) heard))

-- ---- a block

module _ {B : Type 0} (Does : B → Step → List ℕ → B → Type 0) (start : Ends B) (input out : Option (List ℕ))
    (hosts : B) (waiting : Waiting)
    (under : Underway Does start (record { input = input; out = out; hosts = hosts }) waiting) where
  -- Where more is heard, serving goes on.
  pub hears : (input' : Option (List ℕ)) (waiting' : Waiting)
      → ((begin : Option (List ℕ)) (answered : List (List ℕ))
      → ReadSoFar begin input answered waiting → ReadSoFar begin input' answered waiting')
      → Underway Does start (record { input = input'; out = out; hosts = hosts }) waiting'
  hears input' waiting' more = record {
    answered = under.answered;
    answers = under.answers;
    served = under.served;
    written = under.written;
    heard = more start.input under.answered under.heard;
  }

  -- its lines are answered
  module _ (hosts' : B) (IsWritten : List ℕ → Type 0)
      (done : AnswersLines Does waiting.lines hosts hosts' IsWritten) where
    all_answered : AnsweredEach Does
        (under.answered ++ under.heard.queued) start.hosts (under.answers ++ done.1) hosts'
    all_answered = (
      under.served.0 ++ done.0,
      readings-append under.answered under.heard.queued under.served.0 done.0 under.served.1
          (readings_are under.heard.queued waiting.lines done.0 under.heard.are_kept done.2 done.3),
      answers-append Does under.served.0 done.0 start.hosts hosts hosts' under.answers done.1
          under.served.2 done.4,
    )

    lines_are : flat_map whole (under.answers ++ done.1) ≡ flat_map whole under.answers
        ++ flat_map whole done.1
    lines_are = flat_map-append whole under.answers done.1

  -- Behind a block whose lines are answered and whose answers are all written serving goes on.
  pub goes_on : (mid out' : Option (List ℕ)) (hosts' : B) (lines : List (Result (List ℕ) LineFault))
      → AnswersLines Does waiting.lines hosts hosts' (Appends out mid) → Keeps mid out' → lines ≡ []
      → Underway Does start (record { input = input; out = out'; hosts = hosts' })
      (record { held = waiting.held; is_long = waiting.is_long; lines = lines; count = waiting.count })
  goes_on mid out' hosts' lines done same none = record {
    answered = under.answered ++ under.heard.queued;
    answers = under.answers ++ done.1;
    served = all_answered hosts' (Appends out mid) done;
    written = subst (Appends start.out out') (sym (lines_are hosts' (Appends out mid) done))
        (Appends-kept _ _ _ _ (Appends-trans _ _ _ _ _ under.written done.5) same);
    heard = record {
      queued = [];
      rest = under.heard.rest;
      text = under.heard.text;
      read = subst (λ (l : List (List ℕ)). LinesRead start.input under.heard.rest l)
          (sym (append-nil (under.answered ++ under.heard.queued))) under.heard.read;
      are_kept = none;
      part = under.heard.part;
      taken = under.heard.taken;
      holds = under.heard.holds;
      counted = ap length (append-nil (under.answered ++ under.heard.queued)) ∙ under.heard.counted;
    };
  }

  -- Serving stopped where a block is answered and a beginning of its answers is written.
  pub stops : (out' : Option (List ℕ)) (hosts' : B)
      → AnswersLines Does waiting.lines hosts hosts' (AppendsBeginning out out')
      → Stopped Does start (record { input = input; out = out'; hosts = hosts' })
  stops out' hosts' done = (
    under.answered ++ under.heard.queued,
    under.answers ++ done.1,
    under.heard.rest,
    under.heard.read,
    (under.heard.text, under.heard.part, under.heard.taken),
    all_answered hosts' (AppendsBeginning out out') done,
    (
      flat_map whole under.answers ++ done.5.0,
      Appends-trans _ _ _ _ _ under.written done.5.1,
      (
        done.5.2.0,
        lines_are hosts' (AppendsBeginning out out') done
            ∙ ap (λ l. flat_map whole under.answers ++ l) done.5.2.1
            ∙ sym (append_assoc (flat_map whole under.answers) done.5.0 done.5.2.0),
      ),
    ),
  )

  -- Serving may stop behind a block whose lines are answered and whose answers are all written.
  pub stops_after : (mid out' : Option (List ℕ)) (hosts' : B)
      → AnswersLines Does waiting.lines hosts hosts' (Appends out mid) → Keeps mid out'
      → Stopped Does start (record { input = input; out = out'; hosts = hosts' })
  stops_after mid out' hosts' done same =
      stops out' hosts' (
        done.0,
        done.1,
        done.2,
        done.3,
        done.4,
        (flat_map whole done.1, Appends-kept _ _ _ _ done.5 same, ([], sym (append-nil _))),
      )

  -- ---- where none waits

  lines_alone : waiting.lines ≡ [] → under.answered ++ under.heard.queued ≡ under.answered
  lines_alone none = ap (λ l. under.answered ++ l) (none_queued under.heard.queued waiting.lines
      under.heard.are_kept none) ∙ append-nil under.answered

  -- At the end of the input, where no line waits, all lines are served.
  pub ends_well : waiting.lines ≡ []
      → IfSome start.input (λ _. IsAtEnd input) → waiting.held ≡ [] → waiting.is_long ≡ false
      → AnsweredAll Does start.input start.out out start.hosts hosts waiting.count
  ends_well none at_end empty short =
      let holds = subst (λ b. Holds waiting.held b under.heard.text) short under.heard.holds in
      let no_text : under.heard.text ≡ [] = sym holds.0 ∙ empty in (
        under.answered,
        under.answers,
        read_all start.input under.heard.rest
            input under.answered (subst (LinesRead start.input under.heard.rest) (lines_alone none) under.heard.read)
            (subst (Consumes under.heard.rest input) no_text under.heard.taken) at_end,
        under.served,
        under.written,
        sym (ap length (lines_alone none)) ∙ under.heard.counted,
      )

-- ---- a turn

module _ {B : Type 0} (Does : B → Step → List ℕ → B → Type 0) (start now : Ends B) (waiting : Waiting) where
  -- Behind a turn that isn't the end serving is under way.
  pub turned_on : (is_end : Bool)
      → is_end ≡ false → Turns Does (Ok is_end) start now waiting → Underway Does start now waiting
  turned_on false e turned = turned
  turned_on true e turned = absurd cc

  -- Behind a turn that is the end all lines are served.
  pub turned_end : (is_end : Bool) → is_end ≡ true → Turns Does (Ok is_end) start now waiting
      → AnsweredAll Does start.input start.out now.out start.hosts now.hosts waiting.count
  turned_end false e turned = absurd cc
  turned_end true e turned = turned

-- ---- the same number of shards

module _ {B : Type 0} (Does : ℕ → B → Step → List ℕ → B → Type 0) (n m : ℕ) (same : m ≡ n) (start now : Ends B)
    (waiting : Waiting) where
  -- Serving that is under way among some shards is so among as many.
  pub under_same : Underway (Does n) start now waiting → Underway (Does m) start now waiting
  under_same under = subst (λ k. Underway (Does k) start now waiting) (sym same) under

  -- What a turn comes to among some shards it comes to among as many.
  pub turns_same : (result : Result Bool ServeFault)
      → Turns (Does m) result start now waiting → Turns (Does n) result start now waiting
  turns_same result turned = subst (λ k. Turns (Does k) result start now waiting) same turned

-- ---- faults

-- Where a call failed whose only fault is a failed write, the count of failures has risen.
pub risen_err : {T : Type 0} (r : Result T ServeFault) (fault : ServeFault) (old mid new : ℕ)
    → mid ≡ old → r ≡ Err fault → IfErr r (λ e. (e ≡ Write) × HasRisen mid new) → HasRisen old new
risen_err (Ok x) fault old mid new same e p = absurd cc
risen_err (Err f) fault old mid new same e p = subst (λ n. HasRisen n new) same p.1

-- Where no write failed, the count of failures is as it was.
pub same_unless : {T : Type 0} (r : Result T ServeFault) (old mid new : ℕ)
    → mid ≡ old → IfErr r (λ e. (e ≡ Write) × HasRisen mid new) → OnOk r (new ≡ mid) → r ≢ Err Write → new ≡ old
same_unless (Ok x) old mid new same p q apart = q ∙ same
same_unless (Err f) old mid new same p q apart = absurd (apart (ap Err p.0))

-- what holds whatever a call's result is
pub any_ok : {T E : Type 0} (r : Result T E) (P : Type 0) → P → OnOk r P
any_ok (Ok x) P p = p
any_ok (Err e) P p = tt

-- What holds anyway holds where a call failed.
pub any_err : {T E : Type 0} (r : Result T E) (P : Type 0) → P → OnErr r P
any_err (Ok x) P p = tt
any_err (Err e) P p = p

-- Serving begins with no line heard.
pub begins : {B : Type 0} (Does : B → Step → List ℕ → B → Type 0)
    (start : Ends B) (held : List ℕ) (is_long : Bool) (lines : List (Result (List ℕ) LineFault)) (count : ℕ)
    → lines ≡ [] → held ≡ [] → is_long ≡ false → count ≡ 0
    → Underway Does start start (record { held = held; is_long = is_long; lines = lines; count = count })
begins Does start held is_long lines count none empty short zero = record {
  answered = [];
  answers = [];
  served = ([], refl, (refl, refl));
  written = Appends-nil start.out;
  heard = record {
    queued = [];
    rest = start.input;
    text = [];
    read = LinesRead-nil start.input;
    are_kept = none;
    part = IsPart-nil;
    taken = Consumes-nil start.input;
    holds = subst (λ b. Holds held b []) (sym short) (empty, omega arith);
    counted = sym zero;
  };
}
