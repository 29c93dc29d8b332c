use Rattle.diagram.proofs.Pieces.{IsPiece-ampersand, IsPiece-quote, IsPiece-replacement}
use Rattle.diagram.proofs.escape.reference.Goals as goal

pub returns-in-38 : goal.returns-in-38
returns-in-38 c = IsPiece-ampersand

pub returns-in-39 : goal.returns-in-39
returns-in-39 c = IsPiece-quote

pub returns-in-0-to-31 : goal.returns-in-0-to-31
returns-in-0-to-31 c = IsPiece-replacement
