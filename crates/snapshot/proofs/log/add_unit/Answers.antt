use Rattle.std.proofs.Common.{subst, List, ℕ}
use Rattle.std.specs.Prelude.{All}
use Rattle.shared_log.specs.Logged.{IsHeld}
use Rattle.snapshot.proofs.log.add_unit.Goals as goal

pub returns-in_err-extend_from_slice-clause-held : goal.returns-in_err-extend_from_slice-clause-held
returns-in_err-extend_from_slice-clause-held c =
    subst (λ (ps : List ℕ). All (IsHeld c.args.log.now.records) ps) c.of.ensures.places c.of.ensures.held

pub returns-clause-held : goal.returns-clause-held
returns-clause-held c =
    subst (λ (ps : List ℕ). All (IsHeld c.args.log.now.records) ps) c.of.ensures.places c.of.ensures.held
