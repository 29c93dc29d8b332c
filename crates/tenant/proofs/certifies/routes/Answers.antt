use Rattle.std.proofs.Common.{◌≡◌, ◌∙◌, sym, ap, suc, ◌+◌, ◌++◌, [], ◌∷◌, take, arith}
use Rattle.std.proofs.lemmas.List.{map-append}
use Rattle.theory.proofs.LettersExact.{take_more}
use Rattle.certificate.specs.declared.route.Route.{Route}
use Rattle.compact.specs.Compact.{CompactLetter}
use Rattle.tenant.specs.Reads.{routes_by}
use Rattle.tenant.proofs.certifies.routes.Goals as goal

pub loop-number-preserved : goal.loop-number-preserved
loop-number-preserved c =
    let letters = c.args.letters.now.items in
    let n = c.loop-number.number in
    let next : suc n ≡ n + 1 = omega (arith) in
    let route : CompactLetter → Route = λ l. record { source = l.source; receiver = l.receiver } in
    c.in_ok-push.ensures.items
    ∙ (λ i. c.loop-number.invariant i ++ c.route_of.ensures i ∷ [])
    ∙ sym (map-append route (take n letters) (c.at.result ∷ []))
    ∙ ap routes_by (sym (take_more letters n c.at.result c.at.ensures) ∙ ap (λ m. take m letters) next)
