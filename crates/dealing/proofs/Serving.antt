-- Lines are served by hosts together where each step is done by the host that its tenant is dealt to.
use Rattle.std.proofs.Common.{ℕ, List, [], ◌∷◌, length, refl, sym, subst, inl, inr}
use Rattle.std.specs.Prelude.{Option, Some, None}
use Rattle.model.specs.Handler.{Meaning}
use Rattle.model.specs.declared.replies.Reply.{Reply}
use Rattle.model.specs.declared.replies.Who.TheVariants.{Caller}
use Rattle.model.specs.declared.steps.Step.{Step}
use Rattle.book.specs.Entries.{IsEntered, Ledger}
use Rattle.book.specs.Standing.{Carries}
use Rattle.lines.specs.Serving.{AnsweredStep, AnsweredStepBy, Serves, ServesBy, line_step}
use Rattle.dealing.specs.Dealing.{AreHostsOf, DealtLinesServe, HostsDo, dealt}
use Rattle.dealing.proofs.Standing.{hosts_do}

module _ {B : Type 0} (Does : B → Step → Reply → B → Type 0) where
  -- ---- of the books that are stood for

  module _ (Stands : B → Ledger → Type 0) (carries : (old : B) (step : Step) (reply : Reply) (new : B) → Does
      old step reply new → Carries Stands (λ before after. IsEntered before Caller step reply after) old new) where
    step_each : (read : Option Step) (old : B) (reply : Reply) (new : B) → AnsweredStepBy Does read old reply new
        → Carries Stands (λ before after. AnsweredStep read before reply after) old new
    step_each None old reply new (inl p) before is =
        (before, subst (λ h. Stands h before) (sym p.1) is, inl (p.0, refl))
    step_each None old reply new (inr p) before is =
        (before, subst (λ h. Stands h before) (sym p.1) is, inr (p.0, refl))
    step_each (Some step) old reply new (inl p) before is =
        (before, subst (λ h. Stands h before) (sym p.1) is, inl (p.0, refl))
    step_each (Some step) old reply new (inr p) before is = let one = carries old step reply new p before is in
        (one.0, one.1, inr one.2)

    serves_each : (lines : List (List ℕ)) (old : B) (replies : List Reply) (new : B)
        → ServesBy Does lines old replies new
        → Carries Stands (λ before after. Serves lines before replies after) old new
    serves_each [] old replies new p before is = (before, subst (λ h. Stands h before) (sym p.1) is, (p.0, refl))
    serves_each (l ∷ ls) old replies new p before is =
        let one = step_each (line_step l) old p.0 p.2 p.4.0 before is in
        let rest = serves_each ls p.2 p.1 new p.5 one.0 one.1 in
        (rest.0, rest.1, (p.0, p.1, one.0, p.3, (one.2, p.4.1), rest.2))

module _ {S : Type 0} (M : Meaning S) where
  -- Hosts that do each step where its tenant is dealt serve the lines for the book that they stand for.
  pub dealt_lines_serve : DealtLinesServe M
  dealt_lines_serve lines replies old new same p before is =
      let ran = serves_each (HostsDo M (dealt (length old)))
      (AreHostsOf M (dealt (length old))) (hosts_do M (dealt (length old))) lines old replies new p before is in
      (ran.0, subst (λ n. AreHostsOf M (dealt n) new ran.0) (sym same) ran.1, ran.2)
