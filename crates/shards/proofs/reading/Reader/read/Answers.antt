use Rattle.std.proofs.Common.{◌≡◌, ◌+◌, ◌++◌, ◌∷◌, [], ◌∙◌, length, arith, sym, ap, length-append}
use Rattle.shards.proofs.Readings.{added, read_more}
use Rattle.shards.proofs.reading.Reader.read.Goals as goal

pub loop-at-preserved : goal.loop-at-preserved
loop-at-preserved c =
    let grown : c.push_back.new.self.items ≡ c.loop-at.self.found.items ++ c.read-read.result ∷ [] =
    added c.push_back.result c.loop-at.self.found.items c.push_back.new.self.items c.read-read.result
    c.push_back.ensures.items (sym c.is_err.ensures.value ∙ c.if-is_err.false) in
    record {
      so_far = read_more c.args.lines.now c.args.from c.loop-at.at c.loop-at.self.found.items
          c.push_back.new.self.items c.read-read.result c.loop-at.invariant.so_far c.loop-at.invariant.count
          c.read-read.ensures grown;
      count =
          let longer : length c.push_back.new.self.items ≡ length c.loop-at.self.found.items + 1 =
          ap length grown ∙ length-append c.loop-at.self.found.items (c.read-read.result ∷ []) in
          omega (arith, c.loop-at.invariant.count);
    }
