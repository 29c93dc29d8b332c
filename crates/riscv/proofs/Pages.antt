-- Pages and bytes of a memory.
use Rattle.std.proofs.Common.{◌≡◌, ◌∙◌, ◌<◌, ℕ, zero, suc, true, ◌+◌, ◌-◌, ◌/◌, ◌%◌, List, [], ◌∷◌, ◌++◌, length}
use Rattle.std.proofs.Common.{get_or, drop, refl, sym, ap, append_assoc, add-one, drop-cons, arith}
use Rattle.std.proofs.lemmas.List.{get_or_default, length-replicate}
use Rattle.std.specs.Prelude.{replicate, ◌&&◌}
use Rattle.std.specs.List.{list_all}
use Rattle.std.specs.Str.{bytes_eq}
use Rattle.std.specs.Cmp.Lexicographic.{lists_equiv, nat_list_eq_equiv}
use Rattle.riscv.specs.Memories.{Words, pages_equal, zero_page, zero_words, zero_pages, zeros, page_of, word_at}
use Rattle.riscv.specs.Memories.{byte_at, bytes_from, put_byte, put_bytes}

-- a page that was read
pub page_read : (memory : Words) (address : ℕ) (page : List ℕ) → page ≡ get_or memory (address / 4096) page
    → length memory ≡ 64 → address < 262144 → page_of memory address ≡ page
page_read memory address page e l h =
    let within : address / 4096 < length memory = omega arith in
    get_or_default memory (address / 4096) [] page within ∙ sym e

bytes_from-pos : (memory : Words) (address k : ℕ) → 0 < k
    → bytes_from memory address k ≡ byte_at memory address ∷ bytes_from memory (address + 1) (k - 1)
bytes_from-pos memory address zero h = absurd (omega arith)
bytes_from-pos memory address (suc k) h =
    let e : k ≡ suc k - 1 = omega arith in
    ap (λ j. byte_at memory address ∷ bytes_from memory (address + 1) j) e

-- one more byte was read
pub bytes_from_step : (memory : Words) (address n i : ℕ) (front : List ℕ) → i < n
    → (front ++ byte_at memory (address + i) ∷ []) ++ bytes_from memory (address + (i + 1)) (n - (i + 1)) ≡ front
    ++ bytes_from memory (address + i) (n - i)
bytes_from_step memory address n i front h =
    let pos : 0 < n - i = omega arith in
    let places : address + i + 1 ≡ address + (i + 1) = omega arith in
    let counts : n - i - 1 ≡ n - (i + 1) = omega arith in
    let first : bytes_from memory (address + i) (n - i) ≡ byte_at memory (address + i)
    ∷ bytes_from memory (address + i + 1) (n - i - 1) = bytes_from-pos memory (address + i) (n - i) pos in
    let moved : byte_at memory (address + i) ∷ bytes_from memory (address + i + 1) (n - i - 1) ≡ byte_at memory
    (address + i) ∷ bytes_from memory (address + (i + 1)) (n - (i + 1)) = rw (places, counts) refl in
    append_assoc front (byte_at memory (address + i) ∷ []) (bytes_from memory (address + (i + 1)) (n - (i + 1)))
    ∙ ap (λ xs. front ++ xs) (sym (first ∙ moved))

-- one more byte was written
pub put_bytes_step : (memory : Words) (address : ℕ) (bytes : List ℕ) (i : ℕ) → i < length bytes
    → put_bytes (put_byte memory address (get_or bytes i 0)) (address + 1) (drop (i + 1) bytes)
    ≡ put_bytes memory address (drop i bytes)
put_bytes_step memory address bytes i h = rw (add-one i) (sym (ap (put_bytes memory address) (drop-cons bytes i 0 h)))

-- zeros are as many as they are, and each is 0
pub length_zero_words : (n : ℕ) → length (zero_words n) ≡ n
unfolding zero_words
length_zero_words n = length-replicate n 0

pub zero_word : (n i : ℕ) → get_or (zero_words n) i 0 ≡ 0
unfolding zero_words
zero_word zero i = refl
zero_word (suc n) zero = refl
zero_word (suc n) (suc i) = zero_word n i

-- A page of zeros has 1,024 words.
pub length_zero_page : length zero_page ≡ 1024
length_zero_page = length_zero_words 1024

-- Each word of a page of zeros is 0.
pub zero_page_read : (i : ℕ) → get_or zero_page i 0 ≡ 0
zero_page_read i = zero_word 1024 i

-- A list that repeats 0 so many times is that many words of zeros.
pub zero_words_are : (words : List ℕ) (n : ℕ) → words ≡ replicate n 0 → words ≡ zero_words n
unfolding zero_words
zero_words_are words n e = e

length_zero_pages : (n k : ℕ) → length (zero_pages n k) ≡ n
unfolding zero_pages
length_zero_pages n k = length-replicate n (replicate k 0)

-- A memory of zeros has 64 pages.
pub length_zeros : length zeros ≡ 64
unfolding zeros
length_zeros = length_zero_pages 64 1024

zero_pages_read : (n k i j : ℕ) → get_or (get_or (zero_pages n k) i []) j 0 ≡ 0
unfolding zero_pages zero_words
zero_pages_read zero k i zero = refl
zero_pages_read zero k i (suc j) = refl
zero_pages_read (suc n) k zero j = zero_word k j
zero_pages_read (suc n) k (suc i) j = zero_pages_read n k i j

-- a word of a memory of zeros
pub zero_read : (address : ℕ) → word_at zeros address ≡ 0
unfolding zeros
zero_read address = zero_pages_read 64 1024 (address / 4096) (address / 4 % 1024)

-- A page of a memory of so many is one of zeros.
pub zero_pages_at : (n k i : ℕ) → i < n → get_or (zero_pages n k) i [] ≡ zero_words k
unfolding zero_pages zero_words
zero_pages_at zero k i h = absurd (omega arith)
zero_pages_at (suc n) k zero h = refl
zero_pages_at (suc n) k (suc i) h = zero_pages_at n k i (omega arith)

-- a page of a memory of zeros
pub zero_page_at : (address : ℕ) → address < 262144 → page_of zeros address ≡ zero_page
unfolding zeros
zero_page_at address h = let within : address / 4096 < 64 = omega arith in zero_pages_at 64 1024 (address / 4096) within

-- 64 pages of zeros
pub zeros_are : (pages : Words) (n k : ℕ) → pages ≡ replicate n (zero_words k) → n ≡ 64 → k ≡ 1024 → pages ≡ zeros
unfolding zeros zero_pages zero_words
zeros_are pages n k e g h =
    let filled : pages ≡ zero_pages n k = e in
    let first : zero_pages n k ≡ zero_pages 64 k = ap (λ m. zero_pages m k) g in
    let second : zero_pages 64 k ≡ zero_pages 64 1024 = ap (zero_pages 64) h in
    filled ∙ first ∙ second

-- what a walk through the pages finds is what `==` says of them and of zeros
all_zeros : (pages : Words) (n k : ℕ) → length pages ≡ n
    → list_all (λ p. bytes_eq p (zero_words k)) pages ≡ pages_equal pages (zero_pages n k)
unfolding zero_pages zero_words
all_zeros [] zero k h = refl
all_zeros [] (suc n) k h = absurd (omega arith)
all_zeros (p ∷ ps) zero k h = absurd (omega arith)
all_zeros (p ∷ ps) (suc n) k h = ap (λ b. bytes_eq p (replicate k 0) && b) (all_zeros ps n k (omega arith))

-- The walk through 64 pages finds each of zeros just where they equal a memory of zeros.
pub are_zeros : (pages : Words) → length pages ≡ 64
    → list_all (λ p. bytes_eq p zero_page) pages ≡ pages_equal pages zeros
unfolding zeros
are_zeros pages h = all_zeros pages 64 1024 h

-- A memory of zeros is found equal to some pages just where they are found equal to it.
pub zeros_are_same : (pages : Words) → pages_equal zeros pages ≡ pages_equal pages zeros
zeros_are_same pages = (lists_equiv nat_list_eq_equiv).symm zeros pages

-- A memory of zeros is found equal to itself.
pub zeros_are_equal : pages_equal zeros zeros ≡ true
zeros_are_equal = (lists_equiv nat_list_eq_equiv).refl zeros
