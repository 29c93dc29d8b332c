-- Laws of the lists of what units released.
use Rattle.std.proofs.Common.{◌≡◌, refl, ℕ, zero, suc, List, [], ◌∷◌, ◌++◌}
use Rattle.std.proofs.lemmas.List.{get_or-set_same, get_or-set_other}
use Rattle.std.specs.Prelude.{slice_set}
use Rattle.output_commit.specs.Holds.{Line, gone_of, line_texts}

pub line_texts-push : (lines : List Line) (x : Line) (unit : ℕ) → x.texts ≡ []
    → line_texts (lines ++ x ∷ []) unit ≡ line_texts lines unit
line_texts-push [] x zero e = e
line_texts-push [] x (suc unit) e = refl
line_texts-push (y ∷ lines) x zero e = refl
line_texts-push (y ∷ lines) x (suc unit) e = line_texts-push lines x unit e

-- a line with the same texts changes no text
pub line_texts-set_kept : (lines : List Line) (unit other : ℕ) (x : Line) → x.texts ≡ line_texts lines unit
    → line_texts (slice_set lines unit x) other ≡ line_texts lines other
line_texts-set_kept [] unit other x e = refl
line_texts-set_kept (y ∷ lines) zero zero x e = e
line_texts-set_kept (y ∷ lines) zero (suc other) x e = refl
line_texts-set_kept (y ∷ lines) (suc unit) zero x e = refl
line_texts-set_kept (y ∷ lines) (suc unit) (suc other) x e = line_texts-set_kept lines unit other x e

pub gone_of-push : (lines : List Line) (x : Line) (unit : ℕ) → x.gone ≡ 0
    → gone_of (lines ++ x ∷ []) unit ≡ gone_of lines unit
gone_of-push [] x zero e = e
gone_of-push [] x (suc unit) e = refl
gone_of-push (y ∷ lines) x zero e = refl
gone_of-push (y ∷ lines) x (suc unit) e = gone_of-push lines x unit e

-- a line with as many given up changes no count
pub gone_of-set_kept : (lines : List Line) (unit other : ℕ) (x : Line) → x.gone ≡ gone_of lines unit
    → gone_of (slice_set lines unit x) other ≡ gone_of lines other
gone_of-set_kept [] unit other x e = refl
gone_of-set_kept (y ∷ lines) zero zero x e = e
gone_of-set_kept (y ∷ lines) zero (suc other) x e = refl
gone_of-set_kept (y ∷ lines) (suc unit) zero x e = refl
gone_of-set_kept (y ∷ lines) (suc unit) (suc other) x e = gone_of-set_kept lines unit other x e

pub ruleset line_laws =
    (get_or-set_same, get_or-set_other, line_texts-push, line_texts-set_kept, gone_of-push, gone_of-set_kept)
