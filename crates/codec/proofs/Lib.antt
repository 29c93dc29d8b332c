-- What each module is about, and in brackets the lemma to look at first.
-- Each: values one behind the other, from one of them on (`at_drop`).
pub mod Each
-- Fits: lists of which each item fits (`fit_append`).
pub mod Fits
-- Stretched: letters in stretches that fit, and what can follow them (`letters_fit`, `follows_at`).
pub mod Stretched
-- Fronts: the letters at the front whose contents are forgotten (`all_fit`).
pub mod Fronts
