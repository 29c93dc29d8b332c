-- Steps whose names and texts need no escape: what they are read from is the shortest text of what stands behind the
-- verb.
use Rattle.std.proofs.Common.{◌≡◌, ◌∙◌, sym, ap, ℕ, List, [], ◌∷◌, ◌++◌, codes, decimal}
use Rattle.std.proofs.lemmas.List.{append_assoc}
use Rattle.json.specs.Print.{escape, quoted}
use Rattle.quick_forms.specs.Tails.{post_tail, deliver_tail, place_tail}

quoted_plain : (t rest : List ℕ) → escape t ≡ t → quoted t ++ rest ≡ 34 ∷ (t ++ 34 ∷ rest)
quoted_plain t rest plain =
    ap (λ (l : List ℕ). 34 ∷ l) (append_assoc (escape t) (34 ∷ []) rest ∙ ap (λ (l : List ℕ). l ++ 34 ∷ rest) plain)

quoted_at : (r t rest : List ℕ) → r ≡ t ++ 34 ∷ rest → escape t ≡ t → 34 ∷ r ≡ quoted t ++ rest
quoted_at r t rest is plain = ap (λ (l : List ℕ). 34 ∷ l) is ∙ sym (quoted_plain t rest plain)

unit_at : (r last : List ℕ) (u : ℕ) → r ≡ decimal u ++ last → last ≡ codes "}" → r ≡ decimal u ++ codes "}"
unit_at r last u is end = is ∙ ap (λ (l : List ℕ). decimal u ++ l) end

-- A plain tenant and a unit, read part by part, are the tail of a step that names these alone.
pub place_is : (all r s last t : List ℕ) (u : ℕ) → all ≡ codes ",\"tenant\":\"" ++ r
    → r ≡ t ++ (codes "\",\"unit\":" ++ s) → escape t ≡ t → s ≡ decimal u ++ last → last ≡ codes "}"
    → all ≡ place_tail t u
place_is all r s last t u begun named plain unit end =
    let whole : s ≡ decimal u ++ codes "}" = unit_at s last u unit end in
    let tenant : 34 ∷ r ≡ quoted t ++ (codes ",\"unit\":" ++ (decimal u ++ codes "}")) =
    quoted_at r t _ (named ∙ ap (λ (l : List ℕ). t ++ (codes "\",\"unit\":" ++ l)) whole) plain in
    begun ∙ ap (λ (l : List ℕ). codes ",\"tenant\":" ++ l) tenant

-- A letter and a plain tenant, read part by part, are the tail of a delivery.
pub deliver_is : (all r s last t : List ℕ) (n : ℕ) → all ≡ codes ",\"letter\":" ++ (decimal n ++ r)
    → r ≡ codes ",\"tenant\":\"" ++ s → s ≡ t ++ (codes "\"}" ++ last) → escape t ≡ t → last ≡ []
    → all ≡ deliver_tail n t
deliver_is all r s last t n begun next named plain end =
    let tenant : 34 ∷ s ≡ quoted t ++ codes "}" =
    quoted_at s t _ (named ∙ ap (λ (l : List ℕ). t ++ (codes "\"}" ++ l)) end) plain in
    begun ∙ ap (λ (l : List ℕ). codes ",\"letter\":" ++ (decimal n ++ l))
    (next ∙ ap (λ (l : List ℕ). codes ",\"tenant\":" ++ l) tenant)

-- A number, a plain tenant, a plain text and a unit, read part by part, are the tail of a post.
pub post_is : (all r s v w last tenant text : List ℕ) (n u : ℕ) → all ≡ codes ",\"number\":" ++ (decimal n ++ r)
    → r ≡ codes ",\"tenant\":\"" ++ s
    → s ≡ tenant ++ (codes "\",\"text\":\"" ++ v) → escape tenant ≡ tenant → v ≡ text ++ (codes "\",\"unit\":" ++ w)
    → escape text ≡ text → w ≡ decimal u ++ last → last ≡ codes "}"
    → all ≡ post_tail n tenant text u
post_is all r s v w last tenant text n u begun next named plain told bare unit end =
    let whole : w ≡ decimal u ++ codes "}" = unit_at w last u unit end in
    let behind : 34 ∷ v ≡ quoted text ++ (codes ",\"unit\":" ++ (decimal u ++ codes "}")) =
    quoted_at v text _ (told ∙ ap (λ (l : List ℕ). text ++ (codes "\",\"unit\":" ++ l)) whole) bare in
    let name : 34 ∷ s ≡ quoted tenant
    ++ (codes ",\"text\":" ++ (quoted text ++ (codes ",\"unit\":" ++ (decimal u ++ codes "}")))) =
    quoted_at s tenant _ (named ∙ ap (λ (l : List ℕ). tenant ++ (34 ∷ (codes ",\"text\":" ++ l))) behind) plain in
    begun ∙ ap (λ (l : List ℕ). codes ",\"number\":" ++ (decimal n ++ l))
    (next ∙ ap (λ (l : List ℕ). codes ",\"tenant\":" ++ l) name)
