-- What the units released, as lists.
use Rattle.std.proofs.Common.{◌≡◌, ◌≢◌, refl, sym, ◌∙◌, ap, ℕ, zero, suc, ◌+◌, ◌<◌, List, [], ◌∷◌, ◌++◌, length}
use Rattle.std.proofs.Common.{replicate, arith}
use Rattle.std.specs.Prelude.{Some, slice_get, slice_index, slice_index_or, slice_set}
use Rattle.std.proofs.lemmas.List.{nil_from_length}
use Rattle.std.proofs.lemmas.Option.{get_or_from_slice_get, same_Some}
use Rattle.output_commit.specs.Holds.{Line, gone_of as count_of, line_texts}
use Rattle.tenant.specs.Kept.{Member, NoTexts, NoneGone, firm_of, firm_texts, gone_of, released_member, released_of}
use Rattle.tenant.specs.Kept.{with_firm_out}

-- a unit that has a line has texts
pub texts_there : (lines : List Line) (u : ℕ)
    → u < length lines → slice_get (released_of lines) u ≡ Some (line_texts lines u)
texts_there [] u h = absurd (omega (arith, h))
texts_there (l ∷ lines) zero h = refl
texts_there (l ∷ lines) (suc u) h = texts_there lines u (omega (arith, h))

-- what is there is the unit's texts
pub texts_are : (lines : List Line) (u : ℕ) (texts : List (List ℕ))
    → slice_get (released_of lines) u ≡ Some texts → line_texts lines u ≡ texts
texts_are [] u texts e = absurd (cc e)
texts_are (l ∷ lines) zero texts e = same_Some l.texts texts e
texts_are (l ∷ lines) (suc u) texts e = texts_are lines u texts e

-- the same texts of each unit
pub same_texts : (lines others : List Line) → length lines ≡ length others
    → ((u : ℕ) → line_texts lines u ≡ line_texts others u) → released_of lines ≡ released_of others
same_texts [] [] h same = refl
same_texts [] (l ∷ others) h same = absurd (omega (arith, h))
same_texts (l ∷ lines) [] h same = absurd (omega (arith, h))
same_texts (l ∷ lines) (m ∷ others) h same =
    let head : l.texts ≡ m.texts = same 0 in
    let tail = same_texts lines others (omega (arith, h)) (λ u. same (suc u)) in
    λ i. head i ∷ tail i

-- other texts of one unit
pub one_text : (lines others : List Line) (u : ℕ) (texts : List (List ℕ)) → length lines ≡ length others
    → u < length others → line_texts lines u ≡ texts → ((v : ℕ) → v ≢ u → line_texts lines v ≡ line_texts others v)
    → released_of lines ≡ slice_set (released_of others) u texts
one_text lines [] u texts h within is same = absurd (omega (arith, within))
one_text [] (m ∷ others) u texts h within is same = absurd (omega (arith, h))
one_text (l ∷ lines) (m ∷ others) zero texts h within is same =
    let tail = same_texts lines others (omega (arith, h)) (λ v. same (suc v) (λ e. absurd (omega (arith, e)))) in
    λ i. is i ∷ tail i
one_text (l ∷ lines) (m ∷ others) (suc u) texts h within is same =
    let head : l.texts ≡ m.texts = same 0 (λ e. absurd (omega (arith, e))) in
    let tail = one_text lines others
    u texts (omega (arith, h)) (omega (arith, within)) is (λ v d. same (suc v) (λ e. d (omega (arith, e)))) in
    λ i. head i ∷ tail i

-- and one line more, of which nothing was released
pub one_line : (lines others : List Line) → length lines ≡ length others + 1
    → ((u : ℕ) → line_texts lines u ≡ line_texts others u) → released_of lines ≡ released_of others ++ [] ∷ []
one_line [] others h same = absurd (omega (arith, h))
one_line (l ∷ lines) [] h same =
    let head : l.texts ≡ [] = same 0 in
    let none = nil_from_length lines (omega (arith, h)) in
    λ i. head i ∷ released_of (none i)
one_line (l ∷ lines) (m ∷ others) h same =
    let head : l.texts ≡ m.texts = same 0 in
    let tail = one_line lines others (omega (arith, h)) (λ u. same (suc u)) in
    λ i. head i ∷ tail i

-- ---- the firm outputs of one unit left

pub front_is : (frontiers : List ℕ) (u v frontier : ℕ)
    → v ≡ u → slice_get frontiers u ≡ Some frontier → slice_index frontiers v ≡ frontier
front_is frontiers u v frontier e there =
    ap (slice_index frontiers) e ∙ get_or_from_slice_get frontiers u frontier 0 there

-- A unit that is written without its firm outputs leaves the units as a release does.
pub member_out : {S : Type 0} (members : List (Member S))
    (u : ℕ) (m q p : Member S) (frontiers : List ℕ) (frontier at : ℕ) → at ≡ u
    → q ≡ m → m.unit ≡ u → slice_get frontiers u ≡ Some frontier → p ≡ released_member q (slice_index frontiers q.unit)
    → slice_set members at p ≡ with_firm_out members u m frontier
member_out members u m q p frontiers frontier at a same own there new =
    let front = front_is frontiers u q.unit frontier (ap (λ (n : Member _). n.unit) same ∙ own) there in
    (λ i. slice_set members (a i) (new i)) ∙ (λ i. slice_set members u (released_member (same i) (front i)))

-- Firm texts that are added to their unit's line leave the released texts as a release does.
pub texts_out : {S : Type 0} (before mid after : List Line)
    (u : ℕ) (m q : Member S) (frontiers : List ℕ) (frontier : ℕ) (texts : List (List ℕ))
    → q ≡ m → m.unit ≡ u → slice_get frontiers u ≡ Some frontier → slice_get (released_of before) u ≡ Some texts
    → u < length before → length mid ≡ length before
    → ((v : ℕ) → line_texts mid v ≡ line_texts before v) → length after ≡ length mid
    → line_texts after q.unit ≡ line_texts mid q.unit ++ firm_texts q.outputs (slice_index frontiers q.unit)
    → ((v : ℕ) → v ≢ q.unit → line_texts after v ≡ line_texts mid v)
    → released_of after ≡ firm_of (released_of before) u m frontier texts
texts_out before mid after u m q frontiers frontier texts same own there was within a b c new others =
    let unit : q.unit ≡ u = ap (λ (n : Member _). n.unit) same ∙ own in
    let front = front_is frontiers u q.unit frontier unit there in
    let had : line_texts mid q.unit ≡ texts = ap (line_texts mid) unit ∙ b u ∙ texts_are before u texts was in
    one_text after before u (texts ++ firm_texts m.outputs frontier) (c ∙ a) within
    (ap (line_texts after) (sym unit) ∙ new ∙ (λ i. had i ++ firm_texts (same i).outputs (front i)))
    (λ v d. others v (λ e. d (e ∙ unit)) ∙ b v)

-- nothing was released
pub none_out : (lines : List Line) (n : ℕ)
    → length lines ≡ n → ((u : ℕ) → line_texts lines u ≡ []) → released_of lines ≡ replicate n []
none_out [] zero e none = refl
none_out [] (suc n) e none = absurd (omega (arith, e))
none_out (l ∷ lines) zero e none = absurd (omega (arith, e))
none_out (l ∷ lines) (suc n) e none =
    let head : l.texts ≡ [] = none 0 in
    let tail = none_out lines n (omega (arith, e)) (λ u. none (suc u)) in
    λ i. head i ∷ tail i

-- ---- that none is kept

no_text : (lines : List Line) (u : ℕ) → NoTexts (released_of lines) → line_texts lines u ≡ []
no_text [] u none = refl
no_text (l ∷ lines) zero none = none 0 l.texts refl
no_text (l ∷ lines) (suc u) none = no_text lines u (λ v texts e. none (suc v) texts e)

-- where each unit's texts are what they were
pub still_no_texts : (lines others : List Line)
    → ((u : ℕ) → line_texts lines u ≡ line_texts others u) → NoTexts (released_of others) → NoTexts (released_of lines)
still_no_texts lines others same none = λ u texts there.
    sym (texts_are lines u texts there) ∙ same u ∙ no_text others u none

-- at the beginning
pub no_texts_at_first : (n : ℕ) → NoTexts (replicate n [])
no_texts_at_first zero u texts e = absurd (cc e)
no_texts_at_first (suc n) zero texts e = sym (same_Some [] texts e)
no_texts_at_first (suc n) (suc u) texts e = no_texts_at_first n u texts e

-- where the texts of the other units are what they were
pub same_others : (lines others : List Line) (u : ℕ)
    → length lines ≡ length others → ((v : ℕ) → v ≢ u → line_texts lines v ≡ line_texts others v)
    → (v : ℕ) → v ≢ u → slice_get (released_of lines) v ≡ slice_get (released_of others) v
same_others [] [] u len same v apart = refl
same_others [] (m ∷ others) u len same v apart = absurd (omega (arith, len))
same_others (l ∷ lines) [] u len same v apart = absurd (omega (arith, len))
same_others (l ∷ lines) (m ∷ others) u len same zero apart = ap (λ (t : List (List ℕ)). Some t) (same 0 apart)
same_others (l ∷ lines) (m ∷ others) zero len same (suc v) apart =
    let tail = same_texts lines others (omega (arith, len)) (λ w. same (suc w) (λ e. absurd (omega (arith, e)))) in
    ap (λ ls. slice_get ls v) tail
same_others (l ∷ lines) (m ∷ others) (suc u) len same (suc v) apart =
    same_others lines others u (omega (arith, len)) (λ w d. same (suc w) (λ e. d (omega (arith, e)))) v
    (λ e. apart (ap suc e))

-- ---- how many texts were given up

-- The list of counts of given-up texts has each line's count at the line's place.
pub count_there : (lines : List Line) (u : ℕ) → u < length lines → slice_get (gone_of lines) u ≡ Some (count_of lines u)
count_there [] u h = absurd (omega (arith, h))
count_there (l ∷ lines) zero h = refl
count_there (l ∷ lines) (suc u) h = count_there lines u (omega (arith, h))

-- Lines of the same counts of given-up texts have the same list of counts.
pub same_counts : (lines others : List Line)
    → length lines ≡ length others → ((u : ℕ) → count_of lines u ≡ count_of others u) → gone_of lines ≡ gone_of others
same_counts [] [] h same = refl
same_counts [] (l ∷ others) h same = absurd (omega (arith, h))
same_counts (l ∷ lines) [] h same = absurd (omega (arith, h))
same_counts (l ∷ lines) (m ∷ others) h same =
    let head : l.gone ≡ m.gone = same 0 in
    let tail = same_counts lines others (omega (arith, h)) (λ u. same (suc u)) in
    λ i. head i ∷ tail i

-- Lines that gave up no text have a list of zeros as counts.
pub none_gone : (lines : List Line) (n : ℕ)
    → length lines ≡ n → ((u : ℕ) → count_of lines u ≡ 0) → gone_of lines ≡ replicate n 0
none_gone [] zero e none = refl
none_gone [] (suc n) e none = absurd (omega (arith, e))
none_gone (l ∷ lines) zero e none = absurd (omega (arith, e))
none_gone (l ∷ lines) (suc n) e none =
    let head : l.gone ≡ 0 = none 0 in
    let tail = none_gone lines n (omega (arith, e)) (λ u. none (suc u)) in
    λ i. head i ∷ tail i

-- Where a line that gave up nothing is added, the list of counts has a zero more.
pub one_gone_more : (lines others : List Line) → length lines ≡ length others + 1
    → ((u : ℕ) → count_of lines u ≡ count_of others u) → gone_of lines ≡ gone_of others ++ 0 ∷ []
one_gone_more [] others h same = absurd (omega (arith, h))
one_gone_more (l ∷ lines) [] h same =
    let head : l.gone ≡ 0 = same 0 in
    let none = nil_from_length lines (omega (arith, h)) in
    λ i. head i ∷ gone_of (none i)
one_gone_more (l ∷ lines) (m ∷ others) h same =
    let head : l.gone ≡ m.gone = same 0 in
    let tail = one_gone_more lines others (omega (arith, h)) (λ u. same (suc u)) in
    λ i. head i ∷ tail i

-- ---- that none was

read_count : (lines : List Line) (k d : ℕ)
    → k < length (gone_of lines) → slice_index_or (gone_of lines) k d ≡ count_of lines k
read_count [] k d h = absurd (omega (arith, h))
read_count (l ∷ lines) zero d h = refl
read_count (l ∷ lines) (suc k) d h = read_count lines k d (omega (arith, h))

zero_at : (lines : List Line) (u : ℕ) → NoneGone (gone_of lines) → count_of lines u ≡ 0
zero_at [] u none = refl
zero_at (l ∷ lines) zero none = none 0 0 (omega arith)
zero_at (l ∷ lines) (suc u) none = zero_at lines u (λ k d h. none (suc k) d (omega (arith, h)))

-- where each count is what it was
pub still_none : (lines others : List Line)
    → ((u : ℕ) → count_of lines u ≡ count_of others u) → NoneGone (gone_of others) → NoneGone (gone_of lines)
still_none lines others same none = λ k d h. read_count lines k d h ∙ same k ∙ zero_at others k none

read_zero : (n k d : ℕ) → k < length {A = ℕ} (replicate n 0) → slice_index_or (replicate n 0) k d ≡ 0
read_zero zero k d h = absurd (omega (arith, h))
read_zero (suc n) zero d h = refl
read_zero (suc n) (suc k) d h = read_zero n k d (omega (arith, h))

-- at the beginning
pub none_at_first : (n : ℕ) → NoneGone (replicate n 0)
none_at_first n = λ k d h. read_zero n k d h
