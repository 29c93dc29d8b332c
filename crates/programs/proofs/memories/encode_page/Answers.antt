use Rattle.std.proofs.Common.{◌∙◌, sym, ap, [], ◌∷◌, ◌++◌, append_assoc}
use Rattle.std.proofs.lemmas.Result.{IfOk-weaker}
use Rattle.codec.specs.Codes.{each_code}
use Rattle.programs.specs.Coding.{page_code, word_code}
use Rattle.programs.proofs.Coded.{words_code, zeros_code}
use Rattle.programs.proofs.memories.encode_page.Goals as goal

pub returns-in_ok-push-in-None-clause-code : goal.returns-in_ok-push-in-None-clause-code
returns-in_ok-push-in-None-clause-code c = λ rest.
    let out = c.args.out.now.items in
    ap (λ xs. xs ++ rest) c.in_ok-push-in-None.ensures.items ∙ append_assoc out (0 ∷ []) rest
    ∙ ap (λ xs. out ++ xs) (sym (zeros_code _ rest c.in-None.ensures.none))

pub returns-in_ok-push-in-Some-clause-code : goal.returns-in_ok-push-in-Some-clause-code
returns-in_ok-push-in-Some-clause-code c =
    let out = c.args.out.now.items in
    let words = c.in-Some.words.now in
    IfOk-weaker c.encode_words.result _ _
    (λ x appended. λ rest.
    appended rest ∙ ap (λ xs. xs ++ each_code word_code words rest) c.in_ok-push-in-Some.ensures.items
    ∙ append_assoc out (1 ∷ []) (each_code word_code words rest)
    ∙ ap (λ xs. out ++ xs) (sym (words_code words rest c.in-Some.ensures.written))
    ∙ ap (λ page. out ++ page_code page rest) c.in-Some.ensures.some)
    c.encode_words.ensures.code
