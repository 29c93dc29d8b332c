use Rattle.std.proofs.Common.{◌≡◌, ◌++◌, ◌∷◌, [], ℕ, List, false, bytes_eq, ap, sym, subst, ◌∙◌}
use Rattle.std.proofs.lemmas.List.{append-nil}
use Rattle.std.specs.Prelude.{IfSome, None, Some}
use Rattle.std.specs.Map.{keys_of, lookup}
use Rattle.indexmap.specs.IndexMap.{get, keys}
use Rattle.tenant.specs.Past.{OpensPast}
use Rattle.tenant.specs.Stands.{IsOpened, KeepsNoText, KeepsTexts}
use Rattle.book.proofs.Standing.{none_more, texts_more}
use Rattle.model.specs.declared.steps.TenantStep.TheVariants.{Open}
use Rattle.book.specs.Past.{KeepsOnAt}
use Rattle.book.proofs.Answers.{opened-none, opened-some}
use Rattle.book.proofs.PastKept.{keeps_opened}
use Rattle.book.proofs.answer.open_new.Goals as goal

pub returns-in-None-clause-names : goal.returns-in-None-clause-names
returns-in-None-clause-names g c =
    let M = g.H.Handler.meaning in
    let a = c.args in
    let is = subst (IsOpened M a.kinds.now a.quota a.optimism c.in_ok-answer.answer.reply)
    c.in-None.is c.in_ok-answer.ensures.opened in
    ap keys_of c.reserve.ensures.entries
    ∙ sym (append-nil (keys a.tenants.now))
    ∙ ap (λ (l : List (List ℕ)). keys a.tenants.now ++ l)
    (sym (opened-none M a.kinds.now a.quota a.optimism a.name.now c.in_ok-answer.answer.reply is))

pub returns-in_ok-put-in-Some-clause-opened : goal.returns-in_ok-put-in-Some-clause-opened
returns-in_ok-put-in-Some-clause-opened g c =
    let a = c.args in
    let here : get bytes_eq c.put.new.tenants a.name.now ≡ Some c.in-Some.tenant =
    rw c.copy-own_name.ensures at c.in_ok-put-in-Some.ensures.here in
    subst (IsOpened g.H.Handler.meaning a.kinds.now a.quota a.optimism c.in_ok-answer.answer.reply) (c.in-Some.is
    ∙ sym here) c.in_ok-answer.ensures.opened

pub returns-in_ok-put-in-Some-clause-names : goal.returns-in_ok-put-in-Some-clause-names
returns-in_ok-put-in-Some-clause-names g c =
    let M = g.H.Handler.meaning in
    let a = c.args in
    let is = subst (IsOpened M a.kinds.now a.quota a.optimism c.in_ok-answer.answer.reply)
    c.in-Some.is c.in_ok-answer.ensures.opened in
    let says =
    opened-some M a.kinds.now a.quota a.optimism a.name.now c.in_ok-answer.answer.reply c.in-Some.tenant is in
    c.in_ok-put-in-Some.ensures.names
    ∙ ap (λ (l : List (List ℕ)). l ++ c.copy-own_name.result ∷ []) (ap keys_of c.reserve.ensures.entries)
    ∙ ap (λ (n : List ℕ). keys a.tenants.now ++ n ∷ []) c.copy-own_name.ensures
    ∙ ap (λ (l : List (List ℕ)). keys a.tenants.now ++ l) (sym says)

pub returns-in_ok-put-in-Some-clause-others : goal.returns-in_ok-put-in-Some-clause-others
returns-in_ok-put-in-Some-clause-others g c t apart =
    c.put.ensures.others t (subst (λ n. bytes_eq t n ≡ false) (sym c.copy-own_name.ensures) apart)
    ∙ ap (lookup (bytes_eq t)) c.reserve.ensures.entries

pub returns-in_ok-put-in-Some-clause-keeps : goal.returns-in_ok-put-in-Some-clause-keeps
returns-in_ok-put-in-Some-clause-keeps g c =
    let M = g.H.Handler.meaning in
    let a = c.args in
    let answer = c.in_ok-answer.answer in
    let is =
    subst (IsOpened M a.kinds.now a.quota a.optimism answer.reply) c.in-Some.is c.in_ok-answer.ensures.opened in
    let past = subst (λ t. IfSome t (OpensPast answer.reply)) c.in-Some.is c.in_ok-answer.ensures.past in
    let here : get bytes_eq c.put.new.tenants a.name.now ≡ Some c.in-Some.tenant =
    rw c.copy-own_name.ensures at c.in_ok-put-in-Some.ensures.here in
    subst (KeepsOnAt M None None (record { step = Open a.kinds.now a.quota a.optimism; said = answer.said })) (sym here)
    (keeps_opened M a.kinds.now a.quota a.optimism answer.reply (Some c.in-Some.tenant) answer.said is past)

pub returns-in_ok-put-in-Some-clause-texts : goal.returns-in_ok-put-in-Some-clause-texts
returns-in_ok-put-in-Some-clause-texts g c =
    let a = c.args in
    let here : get bytes_eq c.put.new.tenants a.name.now ≡ Some c.in-Some.tenant =
    rw c.copy-own_name.ensures at c.in_ok-put-in-Some.ensures.here in
    let whole = subst (λ t. IfSome t KeepsTexts) c.in-Some.is c.in_ok-answer.ensures.texts in
    texts_more (get bytes_eq a.tenants.now)
    (get bytes_eq c.put.new.tenants) a.name.now (Some c.in-Some.tenant) here whole
    (λ t apart. c.put.ensures.others t (subst (λ n. bytes_eq t n ≡ false) (sym c.copy-own_name.ensures) apart)
    ∙ ap (lookup (bytes_eq t)) c.reserve.ensures.entries)

pub returns-in_err-put-in-Some-clause-texts : goal.returns-in_err-put-in-Some-clause-texts
returns-in_err-put-in-Some-clause-texts g c = λ kept name k there.
    kept name k (sym (ap (lookup (bytes_eq name)) (c.in_err-put-in-Some.ensures.err ∙ c.reserve.ensures.entries))
    ∙ there)

pub returns-in_ok-put-in-Some-clause-none : goal.returns-in_ok-put-in-Some-clause-none
returns-in_ok-put-in-Some-clause-none g c =
    let a = c.args in
    let here : get bytes_eq c.put.new.tenants a.name.now ≡ Some c.in-Some.tenant =
    rw c.copy-own_name.ensures at c.in_ok-put-in-Some.ensures.here in
    let without = subst (λ t. IfSome t KeepsNoText) c.in-Some.is c.in_ok-answer.ensures.none in
    none_more (get bytes_eq a.tenants.now)
    (get bytes_eq c.put.new.tenants) a.name.now (Some c.in-Some.tenant) here without
    (λ t apart. c.put.ensures.others t (subst (λ n. bytes_eq t n ≡ false) (sym c.copy-own_name.ensures) apart)
    ∙ ap (lookup (bytes_eq t)) c.reserve.ensures.entries)

pub returns-in_err-put-in-Some-clause-none : goal.returns-in_err-put-in-Some-clause-none
returns-in_err-put-in-Some-clause-none g c = λ none name k there.
    none name k (sym (ap (lookup (bytes_eq name)) (c.in_err-put-in-Some.ensures.err ∙ c.reserve.ensures.entries))
    ∙ there)
