-- How the lines of replies for want of memory end.
use Rattle.std.proofs.Common.{◌≡◌, ◌-◌, ℕ, List, [], ◌∷◌, ◌++◌, length, drop, true, refl, sym, ap, ◌∙◌, append_assoc}
use Rattle.std.proofs.Common.{length-append, arith}
use Rattle.std.specs.Prelude.{decimal, ◌==◌}
use Rattle.std.specs.Cmp.Lexicographic.{pointwise}
use Rattle.std.proofs.Math.Seq.{drop-append_seam}
use Rattle.forms.specs.Writing.{data_text}
use Rattle.json.specs.Print.{escape_byte}
use Rattle.model.specs.declared.refusals.Refusal.TheVariants.{Memory}
use Rattle.model.specs.declared.replies.Reply.TheVariants.{Stopped, Refused}
use Rattle.lines.specs.Serving.{reply_line}
use Rattle.journal.specs.Promises.{tells_memory, memory_end, MemoryIsTold}

-- a text that ends so
ends_so : (front : List ℕ) → tells_memory (front ++ memory_end) ≡ true
ends_so front =
    let long : length (front ++ memory_end) - length memory_end ≡ length front =
    omega (arith, length-append front memory_end) in
    ap (λ n. pointwise (λ x y. x == y) memory_end (drop n (front ++ memory_end))) long
    ∙ ap (pointwise (λ x y. x == y) memory_end) (drop-append_seam front memory_end)

-- {"count":
abbrev count_begins : List ℕ
count_begins = 123 ∷ 34 ∷ 99 ∷ 111 ∷ 117 ∷ 110 ∷ 116 ∷ 34 ∷ 58 ∷ []

-- ,"no":"memory"}
abbrev no_memory : List ℕ
no_memory = 44 ∷ 34 ∷ 110 ∷ 111 ∷ 34 ∷ 58 ∷ 34 ∷ 109 ∷ 101 ∷ 109 ∷ 111 ∷ 114 ∷ 121 ∷ 34 ∷ 125 ∷ []

told_refused : reply_line (Refused Memory) ≡ (123 ∷ []) ++ memory_end
unfolding data_text escape_byte
told_refused = refl

told_stopped : (count : ℕ)
    → reply_line (Stopped count Memory) ≡ (count_begins ++ (decimal count ++ 44 ∷ [])) ++ memory_end
unfolding data_text escape_byte
told_stopped count =
    ap (λ l. count_begins ++ l) (append_assoc (decimal count) no_memory (10 ∷ [])
    ∙ sym (append_assoc (decimal count) (44 ∷ []) memory_end))

-- The line of each reply for want of memory ends by telling so.
pub memory_is_told : MemoryIsTold
memory_is_told count = (
  ap tells_memory told_refused ∙ ends_so (123 ∷ []),
  ap tells_memory (told_stopped count) ∙ ends_so (count_begins ++ (decimal count ++ 44 ∷ [])),
)
