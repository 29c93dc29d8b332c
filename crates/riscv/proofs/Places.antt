-- Pages of a memory by their places.
use Rattle.std.proofs.Common.{◌≡◌, ◌∙◌, ◌<◌, ℕ, List, [], length, get_or, sym, arith}
use Rattle.std.proofs.lemmas.List.{get_or_default}
use Rattle.riscv.specs.Memories.{Words, zero_page, zeros}
use Rattle.riscv.proofs.Pages.{zero_pages_at}

-- The page at a place is found there, whatever is said of places where there is none.
pub page_in : (memory : Words) (i : ℕ) (page : List ℕ) → page ≡ get_or memory i page → length memory ≡ 64 → i < 64
    → get_or memory i [] ≡ page
page_in memory i page e l h =
    let within : i < length memory = omega arith in
    get_or_default memory i [] page within ∙ sym e

-- Each page of a memory of zeros is one of zeros.
pub zero_page_in : (i : ℕ) → i < 64 → get_or zeros i [] ≡ zero_page
unfolding zeros
zero_page_in i h = zero_pages_at 64 1024 i h
