-- One byte more is measured.
use Rattle.std.proofs.Common.{◌≡◌, ◌≢◌, ◌<◌, ◌≤◌, ◌+◌, ℕ, ◌==◌, List, [], ◌∷◌, ◌++◌, length, min, cond, refl, sym, ap}
use Rattle.std.proofs.Common.{◌∙◌, arith, append_assoc, append-nil, length-append, inl, inr, All, Option, Some, None}
use Rattle.std.specs.Io.KnownBytes.{Consumes, Keeps}
use Rattle.std.proofs.lemmas.List.Elements.{All-nil, All-push}
use Rattle.std.proofs.lemmas.List.Sums.{count_by-le-length, sum_by_push}
use Rattle.std.proofs.lemmas.Bool.{ne_eqb}
use Rattle.durable.specs.Measuring.{IsEnded, IsMeasured, line_feeds}
use Rattle.durable.specs.declared.measuring.Extent.{Extent}

line_feeds-push : (xs : List ℕ) (x : ℕ) → line_feeds (xs ++ x ∷ []) ≡ line_feeds xs + cond (x == 10) 1 0
line_feeds-push xs x = sum_by_push (λ y. cond (y == 10) 1 0) xs x

-- fewer lines end than there are bytes
pub lines-below : (all : List ℕ) (from : ℕ) (m : Extent) → IsMeasured all from m → m.lines ≤ m.whole + m.torn
lines-below all from m is = omega (
  arith,
  is.lines,
  count_by-le-length (λ (x : ℕ). x == 10) all,
  ap length is.ends.2,
  length-append is.ends.0 is.ends.1,
  is.ends.3,
  is.ends.4,
)

module _ (all : List ℕ) (from : ℕ) (m n : Extent) (is : IsMeasured all from m) where
  -- a byte of a line
  pub within_line : (x : ℕ) → x ≢ 10 → n.lines ≡ m.lines → n.whole ≡ m.whole → n.torn ≡ m.torn + 1 → n.before ≡ m.before
      → IsMeasured (all ++ x ∷ []) from n
  within_line x other lines whole torn before = record {
    lines = lines ∙ is.lines
        ∙ sym (line_feeds-push all x ∙ ap (λ b. line_feeds all + cond b 1 0) (ne_eqb x 10 other) ∙ (omega arith));
    ends = (
      is.ends.0,
      is.ends.1 ++ x ∷ [],
      ap (λ l. l ++ x ∷ []) is.ends.2 ∙ append_assoc is.ends.0 is.ends.1 (x ∷ []),
      is.ends.3 ∙ sym whole,
      omega (arith, length-append is.ends.1 (x ∷ []), is.ends.4, torn),
      is.ends.5,
      All-push (λ y. y ≢ 10) is.ends.1 x is.ends.6 other,
    );
    first = (
      is.first.0,
      is.first.1 ++ x ∷ [],
      ap (λ l. l ++ x ∷ []) is.first.2 ∙ append_assoc is.first.0 is.first.1 (x ∷ []),
      is.first.3 ∙ sym before,
      is.first.4 ∙ ap (min from) (sym lines),
      is.first.5,
    );
  }

  -- the end of a line
  module _ (lines : n.lines ≡ m.lines + 1) (whole : n.whole ≡ m.whole + m.torn + 1) (torn : n.torn ≡ 0) where
    more_lines : n.lines ≡ line_feeds (all ++ 10 ∷ [])
    more_lines = omega (arith, lines, is.lines, line_feeds-push all 10)

    long : length (all ++ 10 ∷ []) ≡ n.whole
    long = omega (
      arith,
      length-append all (10 ∷ []),
      ap length is.ends.2,
      length-append is.ends.0 is.ends.1,
      is.ends.3,
      is.ends.4,
      whole,
    )

    ends_now : (w t : List ℕ) × (all ++ 10 ∷ [] ≡ w ++ t) × (length w ≡ n.whole) × (length t ≡ n.torn) × IsEnded w
        × All (λ x. x ≢ 10) t
    ends_now = (all ++ 10 ∷ [], [], sym (append-nil _), long, sym torn, inr (all, refl), All-nil (λ y. y ≢ 10))

    -- of a line before the one that is asked for
    pub line_before : m.lines < from → n.before ≡ n.whole → IsMeasured (all ++ 10 ∷ []) from n
    line_before few before = record {
      lines = more_lines;
      ends = ends_now;
      first = (
        all ++ 10 ∷ [],
        [],
        sym (append-nil _),
        long ∙ sym before,
        omega (arith, more_lines, lines),
        inr (all, refl),
      );
    }

    -- of a later one
    pub line_after : from ≤ m.lines → n.before ≡ m.before → IsMeasured (all ++ 10 ∷ []) from n
    line_after many before = record {
      lines = more_lines;
      ends = ends_now;
      first = (
        is.first.0,
        is.first.1 ++ 10 ∷ [],
        ap (λ l. l ++ 10 ∷ []) is.first.2 ∙ append_assoc is.first.0 is.first.1 (10 ∷ []),
        is.first.3 ∙ sym before,
        omega (arith, is.first.4, lines),
        is.first.5,
      );
    }

-- nothing is measured yet
pub measured_none : (from : ℕ) → IsMeasured [] from (record { lines = 0; whole = 0; torn = 0; before = 0 })
measured_none from = record {
  lines = refl;
  ends = ([], [], refl, refl, refl, inl refl, All-nil (λ y. y ≢ 10));
  first = ([], [], refl, refl, omega arith, inl refl);
}

-- what stays is consumed by none
pub consumes_none : (a b : Option (List ℕ)) → Keeps a b → Consumes a b []
consumes_none None b kept = tt
consumes_none (Some x) None kept = absurd kept
consumes_none (Some x) (Some y) kept = sym kept
