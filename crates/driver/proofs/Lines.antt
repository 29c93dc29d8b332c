-- The line of a text that left, part by part.
use Rattle.std.proofs.Common.{◌≡◌, ◌∙◌, ap, sym, ℕ, List, [], ◌∷◌, ◌++◌, append_assoc, codes, decimal}
use Rattle.json.specs.Print.{escape_byte, quoted}
use Rattle.forms.specs.Writing.{data_text}
use Rattle.quick_forms.proofs.Lists.{pieces_2}
use Rattle.driver.specs.Driving.{output_line}

-- a list that is written in seven pieces
pub seven_pieces : {X : Type 0} (o a b d e f g h x1 x2 x3 x4 x5 x6 x7 : List X)
    → x1 ≡ o ++ a → x2 ≡ x1 ++ b → x3 ≡ x2 ++ d → x4 ≡ x3 ++ e → x5 ≡ x4 ++ f → x6 ≡ x5 ++ g → x7 ≡ x6 ++ h
    → x7 ≡ o ++ (a ++ (b ++ (d ++ (e ++ (f ++ (g ++ h))))))
seven_pieces o a b d e f g h x1 x2 x3 x4 x5 x6 x7 p1 p2 p3 p4 p5 p6 p7 =
    pieces_2 o a _ x1 x7 p1
    (pieces_2 x1 b _ x2 x7 p2
    (pieces_2 x2 d _ x3 x7 p3
    (pieces_2 x3 e _ x4 x7 p4
    (pieces_2 x4 f _ x5 x7 p5
    (pieces_2 x5 g h x6 x7 p6 p7)))))

-- The line of an output is its text, its tenant and its unit under their keys, and a line feed.
pub output_line_parts : (tenant : List ℕ) (unit : ℕ) (text : List ℕ) → output_line tenant unit text
    ≡ codes "{\"output\":" ++ (quoted text
    ++ (codes ",\"tenant\":" ++ (quoted tenant ++ (codes ",\"unit\":" ++ (decimal unit ++ codes "}\n")))))
unfolding output_line data_text escape_byte
output_line_parts tenant unit text =
    ap (λ (xs : List ℕ). codes "{\"output\":" ++ xs) (append_assoc (quoted text)
    (codes ",\"tenant\":" ++ (quoted tenant ++ (codes ",\"unit\":" ++ (decimal unit ++ codes "}")))) (10 ∷ [])
    ∙ ap (λ (xs : List ℕ). quoted text ++ (codes ",\"tenant\":" ++ xs))
    (append_assoc (quoted tenant) (codes ",\"unit\":" ++ (decimal unit ++ codes "}")) (10 ∷ [])
    ∙ ap (λ (xs : List ℕ). quoted tenant ++ (codes ",\"unit\":" ++ xs))
    (append_assoc (decimal unit) (codes "}") (10 ∷ []))))

-- a line that was written piece by piece, in an empty buffer
pub line_written : (tenant : List ℕ) (unit : ℕ) (text room x1 x2 x3 x4 x5 x6 x7 : List ℕ) → room ≡ []
    → x1 ≡ room ++ codes "{\"output\":"
    → x2 ≡ x1 ++ quoted text → x3 ≡ x2 ++ codes ",\"tenant\":" → x4 ≡ x3 ++ quoted tenant
    → x5 ≡ x4 ++ codes ",\"unit\":" → x6 ≡ x5 ++ decimal unit → x7 ≡ x6 ++ codes "}\n"
    → x7 ≡ output_line tenant unit text
line_written tenant unit text room x1 x2 x3 x4 x5 x6 x7 empty p1 p2 p3 p4 p5 p6 p7 =
    seven_pieces room (codes "{\"output\":") (quoted text) (codes ",\"tenant\":")
    (quoted tenant) (codes ",\"unit\":") (decimal unit) (codes "}\n") x1 x2 x3 x4 x5 x6 x7 p1 p2 p3 p4 p5 p6 p7
    ∙ ap (λ t. t ++ (codes "{\"output\":" ++ (quoted text ++ (codes ",\"tenant\":"
    ++ (quoted tenant ++ (codes ",\"unit\":" ++ (decimal unit ++ codes "}\n"))))))) empty
    ∙ sym (output_line_parts tenant unit text)
