use Rattle.diagram.proofs.Pieces.{escaped-char, escaped-more}
use Rattle.diagram.proofs.escape.escape.Goals as goal

pub loop-character-preserved-in-Continue-1 : goal.loop-character-preserved-in-Continue-1
loop-character-preserved-in-Continue-1 c = rw c.in_ok-push_str-in-Some-reference.ensures.bytes
    (escaped-more _ _ c.loop-character.invariant c.in-Some-reference.ensures)

pub loop-character-preserved : goal.loop-character-preserved
loop-character-preserved c = rw c.in_ok-push-in-None-reference.ensures.bytes
    (escaped-char _ _ c.loop-character.invariant c.in-None-reference.ensures)
