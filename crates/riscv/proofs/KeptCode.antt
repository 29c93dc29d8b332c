-- The instructions that are kept beside the words of a page.
use Rattle.std.proofs.Common.{◌≡◌, ◌≢◌, ◌∙◌, ◌<◌, ◌==◌, ℕ, zero, suc, true, false, List, length, get_or, set, refl, sym}
use Rattle.std.proofs.Common.{ap, subst, arith, Option, Some, None}
use Rattle.std.specs.Prelude.{IfSome, unwrap_or, replicate}
use Rattle.std.specs.Option.{option_map}
use Rattle.std.proofs.lemmas.List.{get_or_default, get_or-set_other, length-set, length-replicate}
use Rattle.std.proofs.lemmas.Grind.{get_or-set_at}
use Rattle.std.proofs.lemmas.Bool.Decides.{Decides-eqb}
use Rattle.riscv.specs.declared.predecoded.Predecoded.{Predecoded}
use Rattle.riscv.specs.declared.predecoded.Predecoded.TheVariants.{Unread}
use Rattle.riscv.specs.Decoding.{instruction_of}
use Rattle.riscv.specs.Memories.{zero_page}
use Rattle.riscv.specs.Predecoding.{meaning, unread_words, unread_page, Reads, KeepsCode, Decodes}

-- A place within a page is within the instructions kept beside it, where any are kept.
pub code_within : (code : Option (List Predecoded)) (words : List ℕ) (at : ℕ) → Decodes code words
    → length words ≡ 1024 → at < 1024 → IfSome code (λ xs. at < length xs)
code_within None words at h long within = tt
code_within (Some code) words at h long within = omega (arith, h.size)

-- the one at a place is what the word there says, where it was read
pub read_at : (code : List Predecoded) (words : List ℕ) (at : ℕ) (p : Predecoded) → KeepsCode code words
    → length words ≡ 1024 → at < 1024 → p ≡ get_or code at p → Reads p (get_or words at 0)
read_at code words at p h long within e =
    let kept : at < length code = omega (arith, h.size) in
    let there : at < length words = omega arith in
    let same : p ≡ get_or code at Unread = e ∙ get_or_default code at p Unread kept in
    subst (λ q. Reads q (get_or words at 0)) (sym same) (h.reads at there)

unread_at : (n i : ℕ) → get_or (unread_words n) i Unread ≡ Unread
unfolding unread_words
unread_at zero i = refl
unread_at (suc n) zero = refl
unread_at (suc n) (suc i) = unread_at n i

length_unread : (n : ℕ) → length (unread_words n) ≡ n
unfolding unread_words
length_unread n = length-replicate n Unread

-- nothing was read
pub nothing_read : (words : List ℕ) → length words ≡ 1024 → KeepsCode unread_page words
nothing_read words long = record {
  size = length_unread 1024 ∙ sym long;
  reads = λ at h never. absurd (never (unread_at 1024 at));
}

-- As many unread instructions as a page has words are the unread page.
pub unread_are : (code : List Predecoded) (n : ℕ) → code ≡ replicate n Unread → n ≡ 1024 → code ≡ unread_page
unfolding unread_words
unread_are code n e f = e ∙ ap (λ k. replicate k Unread) f

by_place : (j at : ℕ) (P : Type 0) → (j ≡ at → P) → (j ≢ at → P) → P
by_place j at P same other = elim (j == at) as (λ b. (j == at) ≡ b → P) [
  | true ↦ λ e. same ((Decides-eqb j at).0 e)
  | false ↦ λ e. other (λ f. let t = (Decides-eqb j at).1 f in cc)
] refl

-- a word was written, and what it says is to be read again
pub keeps_set : (code : List Predecoded) (words : List ℕ) (at n : ℕ) → length words ≡ 1024 → at < 1024
    → KeepsCode code words → KeepsCode (set code at Unread) (set words at n)
keeps_set code words at n long within h = record {
  size = length-set code at Unread ∙ (h.size ∙ sym (length-set words at n));
  reads = λ j there never.
      by_place j at (meaning (get_or (set code at Unread) j Unread) ≡ instruction_of (get_or (set words at n) j 0))
      (λ e. absurd (never (get_or-set_at code at j Unread Unread e (omega (arith, h.size)))))
      (λ ne.
      let own : get_or (set code at Unread) j Unread ≡ get_or code j Unread =
      get_or-set_other code at j Unread Unread ne in
      let word : get_or (set words at n) j 0 ≡ get_or words j 0 = get_or-set_other words at j n 0 ne in
      let inside : j < length words = omega (arith, there, length-set words at n) in
      rw (own, word) (h.reads j inside (λ e. never (own ∙ e))));
}

-- what a word says was read
pub keeps_read : (code : List Predecoded) (words : List ℕ) (at : ℕ) (p : Predecoded) → length words ≡ 1024 → at < 1024
    → meaning p ≡ instruction_of (get_or words at 0) → KeepsCode code words → KeepsCode (set code at p) words
keeps_read code words at p long within said h = record {
  size = length-set code at p ∙ h.size;
  reads = λ j there never. by_place j at (meaning (get_or (set code at p) j Unread) ≡ instruction_of (get_or words j 0))
      (λ e.
      let own : get_or (set code at p) j Unread ≡ p = get_or-set_at code at j p Unread e (omega (arith, h.size)) in
      rw (own, e) said)
      (λ ne.
      let own : get_or (set code at p) j Unread ≡ get_or code j Unread = get_or-set_other code at j p Unread ne in
      rw own (h.reads j there (λ e. never (own ∙ e))));
}

-- A page's instructions still fit where a word is written and its own is set back to unread.
pub decodes_set : (code : Option (List Predecoded)) (words : List ℕ) (at n : ℕ) → length words ≡ 1024 → at < 1024
    → Decodes code words → Decodes (option_map (λ xs. set xs at Unread) code) (set words at n)
decodes_set None words at n long within h = tt
decodes_set (Some code) words at n long within h = keeps_set code words at n long within h

-- A page's instructions still fit where the one that a word says is kept beside it.
pub decodes_read : (code : Option (List Predecoded)) (words : List ℕ) (at : ℕ) (p : Predecoded)
    → length words ≡ 1024 → at < 1024 → meaning p ≡ instruction_of (get_or words at 0) → Decodes code words
    → Decodes (option_map (λ xs. set xs at p) code) words
decodes_read None words at p long within said h = tt
decodes_read (Some code) words at p long within said h = keeps_read code words at p long within said h

-- a word was written to a page
pub page_written : (words : List ℕ) (own after : Option (List ℕ)) (code part kept : Option (List Predecoded))
    (at n : ℕ) → length words ≡ 1024 → at < 1024 → Decodes code words → own ≡ Some words
    → after ≡ option_map (λ xs. set xs at n) own → part ≡ code → kept ≡ option_map (λ xs. set xs at Unread) part
    → (length (unwrap_or after zero_page) ≡ 1024) × Decodes kept (unwrap_or after zero_page)
page_written words own after code part kept at n long within h e f g i =
    let written : unwrap_or after zero_page ≡ set words at n =
    ap (λ o. unwrap_or o zero_page) (f ∙ ap (option_map (λ xs. set xs at n)) e) in
    let anew : kept ≡ option_map (λ xs. set xs at Unread) code = i ∙ ap (option_map (λ xs. set xs at Unread)) g in
    let decodes : Decodes kept (set words at n) =
    subst (λ k. Decodes k (set words at n)) (sym anew) (decodes_set code words at n long within h) in
    (ap length written ∙ (length-set words at n ∙ long), subst (Decodes kept) (sym written) decodes)
