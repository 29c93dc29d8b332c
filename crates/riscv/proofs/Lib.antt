-- What each module is about, and in brackets the lemma to look at first.
-- KeptCode: the instructions that are kept beside the words of a page (`decodes_read`).
-- Kept: what was stored is loaded (`words_are_kept`).
-- Operands: what a word says has the operands of the word (`operands_are_fields`).
-- Pages: pages and bytes of a memory (`page_read`).
-- Places: pages of a memory by their places (`page_in`).
-- Quotients: the signed quotient and its remainder (`signed_divides`).
-- Signs: numbers read by their signs (`product_bits`).
-- Steps: steps, one behind the other (`steps_add`).
-- WordBytes: the bytes of a word (`words_are_bytes`).
-- Zero: register 0 stays 0 (`zero_stays`).
pub mod KeptCode
pub mod Kept
pub mod Operands
pub mod Pages
pub mod Places
pub mod Quotients
pub mod Signs
pub mod Steps
pub mod WordBytes
pub mod Zero
