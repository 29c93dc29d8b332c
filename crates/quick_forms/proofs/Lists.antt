-- Lists that were written piece by piece.
use Rattle.std.proofs.Common.{◌≡◌, List, ◌++◌, append_assoc, ap, ◌∙◌}

-- Two pieces appended one after the other are appended as one.
pub pieces_2 : {X : Type 0} (o a b x y : List X) → x ≡ o ++ a → y ≡ x ++ b → y ≡ o ++ (a ++ b)
pieces_2 o a b x y p q = q ∙ ap (λ t. t ++ b) p ∙ append_assoc o a b

-- Three pieces appended one after the other are appended as one.
pub pieces_3 : {X : Type 0} (o a b d x y z : List X) → x ≡ o ++ a → y ≡ x ++ b → z ≡ y ++ d → z ≡ o ++ (a ++ (b ++ d))
pieces_3 o a b d x y z p q r = pieces_2 o a (b ++ d) x z p (pieces_2 x b d y z q r)

-- Four pieces appended one after the other are appended as one.
pub pieces_4 : {X : Type 0} (o a b d e x y z w : List X) → x ≡ o ++ a → y ≡ x ++ b → z ≡ y ++ d → w ≡ z ++ e
    → w ≡ o ++ (a ++ (b ++ (d ++ e)))
pieces_4 o a b d e x y z w p q r s = pieces_2 o a (b ++ (d ++ e)) x w p (pieces_3 x b d e y z w q r s)

-- Five pieces appended one after the other are appended as one.
pub pieces_5 : {X : Type 0} (o a b d e f x y z w u : List X) → x ≡ o ++ a → y ≡ x ++ b → z ≡ y ++ d → w ≡ z ++ e
    → u ≡ w ++ f → u ≡ o ++ (a ++ (b ++ (d ++ (e ++ f))))
pieces_5 o a b d e f x y z w u p q r s t = pieces_3 o a b (d ++ (e ++ f)) x y u p q (pieces_3 y d e f z w u r s t)

-- Nine pieces appended one after the other are appended as one.
pub pieces_9 : {X : Type 0} (o a b d e f g h k l x y z w u r1 r2 r3 r4 : List X)
    → x ≡ o ++ a → y ≡ x ++ b → z ≡ y ++ d → w ≡ z ++ e → u ≡ w ++ f → r1 ≡ u ++ g → r2 ≡ r1 ++ h → r3 ≡ r2 ++ k
    → r4 ≡ r3 ++ l
    → r4 ≡ o ++ (a ++ (b ++ (d ++ (e ++ (f ++ (g ++ (h ++ (k ++ l))))))))
pieces_9 o a b d e f g h k l x y z w u r1 r2 r3 r4 p q r s t t1 t2 t3 t4 =
    pieces_5 o a b d e (f ++ (g ++ (h ++ (k ++ l)))) x y z w r4 p q r s
    (pieces_5 w f g h k l u r1 r2 r3 r4 t t1 t2 t3 t4)
