-- The entries that say that the device failed are counted among its failures.
use Rattle.std.proofs.Common.{◌≡◌, inl, inr, refl, ap, ◌∙◌, ℕ, ◌+◌, ◌≤◌, cond, List, [], ◌∷◌, ◌++◌, length, arith}
use Rattle.std.specs.List.{filter}
use Rattle.std.proofs.lemmas.List.Elements.{filter-append}
use Rattle.std.proofs.lemmas.List.{length-append}
use Rattle.model.specs.Failures.{HasRisen}
use Rattle.model.specs.Steps.{is_device}
use Rattle.model.specs.declared.replies.End.{End}
use Rattle.model.specs.declared.replies.End.TheVariants.{Whole, Device, Memory}
use Rattle.model.specs.declared.replies.Entry.{Entry}
use Rattle.book.specs.Entries.{CountsDevice, devices}

-- at first there are none
pub counts_first : (failures : ℕ) → CountsDevice [] failures
counts_first failures = inl (omega arith)

-- nothing was entered, and the count never fell
pub counts_still : (history : List Entry) (before after : ℕ)
    → before ≤ after → CountsDevice history before → CountsDevice history after
counts_still history before after up (inl h) = inl (omega (arith, up, h))
counts_still history before after up (inr h) = inr (omega (arith, up, h))

-- one more entry, which says so only where the count rose
pub counts_on : (history : List Entry) (e : Entry) (before after : ℕ) → (e.said.end ≡ Device → HasRisen before after)
    → before ≤ after → CountsDevice history before → CountsDevice (history ++ e ∷ []) after
counts_on history e before after risen up counted = go e.said.end refl counted
  where
    split : devices (history ++ e ∷ []) ≡ devices history + devices (e ∷ [])
    split = ap length (filter-append (λ (x : Entry). is_device x.said.end) history (e ∷ [])) ∙ length-append
        (filter (λ (x : Entry). is_device x.said.end) history) (filter (λ (x : Entry). is_device x.said.end) (e ∷ []))

    one : (d : End) → e.said.end ≡ d → devices (e ∷ []) ≡ length (cond (is_device d) (e ∷ []) [])
    one d is = ap (λ (x : End). length (cond (is_device x) (e ∷ []) [])) is

    still : devices (e ∷ []) ≡ 0 → CountsDevice history before → CountsDevice (history ++ e ∷ []) after
    still none (inl h) = let s = split in inl (omega (arith, none, s, up, h))
    still none (inr h) = inr (omega (arith, up, h))

    more : devices (e ∷ []) ≡ 1
        → HasRisen before after → CountsDevice history before → CountsDevice (history ++ e ∷ []) after
    more some (inl less) (inl h) = let s = split in inl (omega (arith, some, s, less, h))
    more some (inl less) (inr h) = inr (omega (arith, less, h))
    more some (inr most) h = inr (omega (arith, most))

    go : (d : End) → e.said.end ≡ d → CountsDevice history before → CountsDevice (history ++ e ∷ []) after
    go Whole is h = still (one Whole is) h
    go Memory is h = still (one Memory is) h
    go Device is h = more (one Device is) (risen is) h
