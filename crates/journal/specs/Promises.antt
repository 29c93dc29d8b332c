-- Which replies a later run may not keep.
use Rattle.std.specs.Prelude.{◌≡◌, ◌==◌, ℕ, List, [], ◌∷◌, Bool, true}
use Rattle.std.specs.List.{ends_with}
use Rattle.model.specs.declared.refusals.Refusal.TheVariants.{Memory}
use Rattle.model.specs.declared.replies.Reply.TheVariants.{Stopped, Refused}
use Rattle.lines.specs.Serving.{reply_line}

-- how the line of a reply ends that tells want of memory: "no":"memory"} and a line feed
abbrev pub memory_end : List ℕ
memory_end = 34 ∷ 110 ∷ 111 ∷ 34 ∷ 58 ∷ 34 ∷ 109 ∷ 101 ∷ 109 ∷ 111 ∷ 114 ∷ 121 ∷ 34 ∷ 125 ∷ 10 ∷ []

-- whether these bytes end so
abbrev pub tells_memory : List ℕ → Bool
tells_memory bytes = ends_with (λ x y. x == y) bytes memory_end

-- each reply for want of memory has such a line
abbrev pub MemoryIsTold : Type 0
MemoryIsTold = (count : ℕ)
    → (tells_memory (reply_line (Refused Memory)) ≡ true)
    × (tells_memory (reply_line (Stopped count Memory)) ≡ true)
