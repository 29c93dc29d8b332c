use Rattle.std.proofs.Common.{◌≡◌, ◌∙◌, rules, tests}
use Rattle.std.specs.Str.{bytes_eq}
use Rattle.std.specs.List.{list_all}
use Rattle.std.proofs.lemmas.Iterator.{YieldsList-from_slice}
use Rattle.std.proofs.lemmas.Iterator.Search.{all_from_yields_List}
use Rattle.riscv.specs.Memories.{zero_page}
use Rattle.riscv.proofs.Pages.{are_zeros}
use Rattle.riscv.proofs.memory.are_zero.Goals as goal

pub returns : goal.returns
returns c =
    let walked : c.all.result ≡ list_all (λ p. bytes_eq p zero_page) c.args.pages.now =
    all_from_yields_List (λ p. bytes_eq p zero_page) _ _ c.all.result c.all.ensures.ran
    (YieldsList-from_slice c.args.pages.now cc) (λ x b q k. search (rules, tests)) in
    walked ∙ are_zeros c.args.pages.now c.requires
