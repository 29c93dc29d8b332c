-- Laws of entries whose names each come once.
use Rattle.std.proofs.Common.{◌≡◌, refl, ◌∙◌, ap, subst, ℕ, zero, suc, Bool, false, cond, List, [], ◌∷◌}
use Rattle.std.proofs.Common.{bytes_eq, drop, take, None, Some}
use Rattle.std.specs.List.{AllByRecursion, IsDistinct}
use Rattle.std.specs.Map.{keys_of, lookup}
use Rattle.std.proofs.lemmas.Map.Keys.{IsDistinct-head, IsDistinct-tail}
use Rattle.book.proofs.Replays.{other_way}

abbrev Entries : Type 0 → Type 0
Entries X = List (List ℕ × X)

-- what is so of each name is so of one that is left
of_left : {X : Type 0} (P : List ℕ → Type 0) (entries rest : Entries X) (i : ℕ) (e : List ℕ × X)
    → drop i entries ≡ e ∷ rest → AllByRecursion P (keys_of entries) → P e.0
of_left P [] rest zero e left all = absurd (let t : [] ≡ e ∷ rest = left in cc)
of_left P [] rest (suc i) e left all = absurd (let t : [] ≡ e ∷ rest = left in cc)
of_left {X} P (d ∷ entries) rest zero e left all =
    let t : d ∷ entries ≡ e ∷ rest = left in
    let same : d ≡ e = cc in
    subst (λ (x : List ℕ × X). P x.0) same all.0
of_left P (d ∷ entries) rest (suc i) e left all = of_left P entries rest i e left all.1

none_first : {X : Type 0} (name : List ℕ) (d : List ℕ × X) (entries : Entries X) → bytes_eq name d.0 ≡ false
    → lookup (bytes_eq name) entries ≡ None → lookup (bytes_eq name) (d ∷ entries) ≡ None
none_first name d entries other none =
    ap (λ (b : Bool). cond b (Some d.1) (lookup (bytes_eq name) entries)) other ∙ none

-- The name of an entry is not among those before it.
pub new_name : {X : Type 0} (entries rest : Entries X) (i : ℕ) (e : List ℕ × X)
    → drop i entries ≡ e ∷ rest → IsDistinct bytes_eq (keys_of entries)
    → lookup (bytes_eq e.0) (take i entries) ≡ None
new_name [] rest zero e left once = refl
new_name [] rest (suc i) e left once = refl
new_name (d ∷ entries) rest zero e left once = refl
new_name (d ∷ entries) rest (suc i) e left once =
    none_first e.0 d (take i entries)
    (other_way d.0 e.0 (of_left (λ k. bytes_eq d.0 k ≡ false) entries rest i e left
    (IsDistinct-head bytes_eq d.0 (keys_of entries) once)))
    (new_name entries rest i e left (IsDistinct-tail bytes_eq d.0 (keys_of entries) once))
