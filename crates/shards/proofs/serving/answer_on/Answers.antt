use Rattle.std.proofs.Common.{◌≡◌, ◌∙◌, [], length, map, refl, ap, subst, rules}
use Rattle.std.specs.Prelude.{Ok, Err}
use Rattle.std.proofs.KnownBytes.{Appends-nil, Keeps-refl}
use Rattle.model.specs.Failures.{HasRisen}
use Rattle.lines.specs.declared.fault.ServeFault.TheVariants.{Read, Write}
use Rattle.shards.specs.Underway.{AnsweredSome}
use Rattle.lines.proofs.Parts.{LinesRead-nil, TakesPart-none}
use Rattle.dealing.specs.Dealing.{OneDoes, dealt}
use Rattle.shards.specs.Blocks.{Tells}
use Rattle.shards.proofs.GoingOn.{begins, turned_end, turned_on, turns_same, under_same}
use Rattle.shards.proofs.serving.answer_on.Goals as goal

pub returns-in_default-clause-some : goal.returns-in_default-clause-some
returns-in_default-clause-some g c = (
  [],
  [],
  g.R.Read.remaining c.args.reader.now.inner,
  LinesRead-nil _,
  TakesPart-none _ _ (Keeps-refl _),
  ([], refl, (refl, refl)),
  ([], Appends-nil _, ([], refl)),
)

pub returns-in_default-new-clause-some : goal.returns-in_default-new-clause-some
returns-in_default-new-clause-some g c = (
  [],
  [],
  g.R.Read.remaining c.args.reader.now.inner,
  LinesRead-nil _,
  TakesPart-none _ _ (Keeps-refl _),
  ([], refl, (refl, refl)),
  ([], Appends-nil _, ([], refl)),
)

pub loop-is_end-init : goal.loop-is_end-init
loop-is_end-init g c = record {
  held = c.in-Ok.ensures.room;
  idle = c.requires.idle;
  read_same = refl;
  write_same = refl;
  within = search rules;
  underway = begins (OneDoes (Tells g.H.Handler.meaning c.args.drives) (dealt (length c.args.shards.now))) (record {
    input = g.R.Read.remaining c.args.reader.now.inner;
    out = g.W.Write.contents c.args.writer.now.inner;
    hosts = map (λ s. s.host) c.args.shards.now;
  })
      c.in-Ok.block.held.items c.in-Ok.block.is_long c.in-Ok.block.lines c.in-Ok.block.count
      c.in-Ok.ensures.lines c.in-Ok.ensures.held c.in-Ok.ensures.short c.in-Ok.ensures.count;
}

pub loop-is_end-preserved : goal.loop-is_end-preserved
loop-is_end-preserved g c =
    let goes = c.in-Ok-turn.ensures.goes (ap Ok c.if-is_end.false) in
    record {
      held = goes.0;
      idle = c.turn.ensures.idle;
      read_same = c.in-Ok-turn.ensures.read_same (λ e. cc) ∙ c.loop-is_end.invariant.read_same;
      write_same = c.in-Ok-turn.ensures.write_same (λ e. cc) ∙ c.loop-is_end.invariant.write_same;
      within = goes.1;
      underway = turned_on (OneDoes (Tells g.H.Handler.meaning c.args.drives) (dealt (length c.args.shards.now))) _
          _ _ c.in-Ok-turn.is_end
          c.if-is_end.false
          (turns_same (λ n. OneDoes (Tells g.H.Handler.meaning c.args.drives) (dealt n)) (length c.args.shards.now)
          (length c.loop-is_end.shards)
          c.loop-is_end.auto.shards _ _ _ (Ok c.in-Ok-turn.is_end)
          (c.in-Ok-turn.ensures.turns _ (under_same (λ n. OneDoes (Tells g.H.Handler.meaning c.args.drives)
          (dealt n)) (length c.args.shards.now)
          (length c.loop-is_end.shards) c.loop-is_end.auto.shards _ _ _ c.loop-is_end.invariant.underway)));
    }

pub loop-is_end-smaller : goal.loop-is_end-smaller
loop-is_end-smaller g c = (c.in-Ok-turn.ensures.goes (ap Ok c.if-is_end.false)).2

pub returns-then-is_end-clause-all : goal.returns-then-is_end-clause-all
returns-then-is_end-clause-all g c =
    turned_end (OneDoes (Tells g.H.Handler.meaning c.args.drives) (dealt (length c.args.shards.now))) (record {
      input = g.R.Read.remaining c.args.reader.now.inner;
      out = g.W.Write.contents c.args.writer.now.inner;
      hosts = map (λ s. s.host) c.args.shards.now;
    }) (record {
      input = g.R.Read.remaining c.turn.new.reader.inner;
      out = g.W.Write.contents c.turn.new.writer.inner;
      hosts = map (λ s. s.host) c.turn.new.shards;
    })
    (record {
      held = c.turn.new.block.held.items;
      is_long = c.turn.new.block.is_long;
      lines = c.turn.new.block.lines;
      count = c.turn.new.block.count;
    }) c.in-Ok-turn.is_end c.if-is_end.true
    (turns_same (λ n. OneDoes (Tells g.H.Handler.meaning c.args.drives) (dealt n)) (length c.args.shards.now)
    (length c.loop-is_end.shards)
    c.loop-is_end.auto.shards _ _ _ (Ok c.in-Ok-turn.is_end)
    (c.in-Ok-turn.ensures.turns _ (under_same (λ n. OneDoes (Tells g.H.Handler.meaning c.args.drives) (dealt n))
    (length c.args.shards.now)
    (length c.loop-is_end.shards) c.loop-is_end.auto.shards _ _ _ c.loop-is_end.invariant.underway)))

pub returns-in-Err-clause-some : goal.returns-in-Err-clause-some
returns-in-Err-clause-some g c =
    subst (λ n. AnsweredSome (OneDoes (Tells g.H.Handler.meaning c.args.drives) (dealt n))
    (g.R.Read.remaining c.args.reader.now.inner) (g.R.Read.remaining c.turn.new.reader.inner)
    (g.W.Write.contents c.args.writer.now.inner) (g.W.Write.contents c.turn.new.writer.inner)
    (map (λ s. s.host) c.args.shards.now) (map (λ s. s.host) c.turn.new.shards)) c.loop-is_end.auto.shards
    (c.in-Err.ensures.turns _ (under_same (λ n. OneDoes (Tells g.H.Handler.meaning c.args.drives) (dealt n))
    (length c.args.shards.now)
    (length c.loop-is_end.shards) c.loop-is_end.auto.shards _ _ _ c.loop-is_end.invariant.underway))

pub returns-then-is_end-clause-read_same : goal.returns-then-is_end-clause-read_same
returns-then-is_end-clause-read_same g c apart =
    c.in-Ok-turn.ensures.read_same (λ q. cc) ∙ c.loop-is_end.invariant.read_same

pub returns-then-is_end-clause-write_same : goal.returns-then-is_end-clause-write_same
returns-then-is_end-clause-write_same g c apart =
    c.in-Ok-turn.ensures.write_same (λ q. cc) ∙ c.loop-is_end.invariant.write_same

pub returns-in-Err-clause-read : goal.returns-in-Err-clause-read
returns-in-Err-clause-read g c e =
    let f : c.in-Err.fault ≡ Read = cc in
    subst (λ n. HasRisen n c.turn.new.reader.failed)
    c.loop-is_end.invariant.read_same (c.in-Err.ensures.read (ap Err f))

pub returns-in-Err-clause-read_same : goal.returns-in-Err-clause-read_same
returns-in-Err-clause-read_same g c apart =
    c.in-Err.ensures.read_same (λ q.
    let f : c.in-Err.fault ≡ Read = cc in
    apart (ap Err f))
    ∙ c.loop-is_end.invariant.read_same

pub returns-in-Err-clause-write : goal.returns-in-Err-clause-write
returns-in-Err-clause-write g c e =
    let f : c.in-Err.fault ≡ Write = cc in
    subst (λ n. HasRisen n c.turn.new.writer.failed)
    c.loop-is_end.invariant.write_same (c.in-Err.ensures.write (ap Err f))

pub returns-in-Err-clause-write_same : goal.returns-in-Err-clause-write_same
returns-in-Err-clause-write_same g c apart =
    c.in-Err.ensures.write_same (λ q.
    let f : c.in-Err.fault ≡ Write = cc in
    apart (ap Err f))
    ∙ c.loop-is_end.invariant.write_same
