-- A shard's answers, behind one another, and all of them in the order of the lines.
use Rattle.std.proofs.Common.{◌≡◌, ◌<◌, ◌≤◌, ◌+◌, ◌-◌, ℕ, zero, suc, List, [], ◌∷◌, ◌++◌, length, map, drop, take}
use Rattle.std.proofs.Common.{get_or, set, replicate, cond, Bool, true, false, refl, sym, ap, subst, ◌∙◌, inl, inr}
use Rattle.std.proofs.Common.{arith, append_assoc, append-nil, length-append, length-drop}
use Rattle.std.specs.Prelude.{Option, flat_map}
use Rattle.std.specs.Io.KnownBytes.{Appends}
use Rattle.std.proofs.KnownBytes.{Appends-nil, Appends-trans}
use Rattle.std.proofs.Math.Seq.{drop-append_seam, take-append_seam}
use Rattle.std.proofs.lemmas.List.{drop-drop, drop_more, map-append, take-append-drop}
use Rattle.std.proofs.lemmas.List.Concat.{flat_map-append, flat_map-cons}
use Rattle.written.specs.Beginnings.{AppendsBeginning}
use Rattle.std.specs.Prelude.{Result, Ok, Err, OnOk, OnErr, is_err}
use Rattle.forms.specs.declared.fault.LineFault.{LineFault}
use Rattle.std.proofs.lemmas.Bool.{cases_eq, eq-eqb, ne_eqb}
use Rattle.std.proofs.lemmas.List.{get_or-replicate, get_or-set_other, get_or-set_same, get_or_default}
use Rattle.shards.specs.Blocks.{TellsMore, Told, ToldSo, WroteFirst, WroteOne, after_first, fault_answer, first_of}
use Rattle.shards.specs.Blocks.{merged, rest_of, whole}
use Rattle.shards.specs.declared.place.Place.{Place}
use Rattle.shards.specs.declared.place.Place.TheVariants.{Here, Dealt}

-- one answer's line more
told_more : (is_full : Bool) (answers : List (List ℕ)) (bytes lens bytes' lens' : List ℕ) (answer : List ℕ)
    → is_full ≡ false → ToldSo is_full answers bytes lens
    → bytes' ≡ bytes ++ answer
    → lens' ≡ lens ++ length answer ∷ [] → ToldSo false (answers ++ answer ∷ []) bytes' lens'
told_more is_full answers bytes lens bytes' lens' answer room so grown longer = record {
  told = so.told ++ answer ∷ [];
  lost = [];
  all =
      ap (λ l. l ++ answer ∷ []) (so.all ∙ ap (λ l. so.told ++ l) (so.none_lost room) ∙ append-nil so.told)
      ∙ sym (append-nil (so.told ++ answer ∷ []));
  text =
      grown
      ∙ ap (λ l. l ++ answer) so.text
      ∙ sym (flat_map-append whole so.told (answer ∷ []) ∙ ap (λ l. flat_map whole so.told ++ l)
      (flat_map-cons whole answer [] ∙ append-nil answer));
  lengths = longer ∙ ap (λ l. l ++ length answer ∷ []) so.lengths ∙ sym (map-append length so.told (answer ∷ []));
  none_lost = λ e. refl;
}

-- one answer more whose line is lost
told_lost : (is_full : Bool) (answers : List (List ℕ)) (bytes lens bytes' lens' : List ℕ) (answer : List ℕ)
    → ToldSo is_full answers bytes lens
    → bytes' ≡ bytes → lens' ≡ lens → ToldSo true (answers ++ answer ∷ []) bytes' lens'
told_lost is_full answers bytes lens bytes' lens' answer so same same' = record {
  told = so.told;
  lost = so.lost ++ answer ∷ [];
  all = ap (λ l. l ++ answer ∷ []) so.all ∙ append_assoc so.told so.lost (answer ∷ []);
  text = same ∙ so.text;
  lengths = same' ∙ so.lengths;
  none_lost = λ e. absurd cc;
}

pub tells_line : (is_full : Bool) (answer : List ℕ) (bytes lens bytes' lens' : List ℕ) → is_full ≡ false
    → bytes' ≡ bytes ++ answer
    → lens' ≡ lens ++ length answer ∷ [] → TellsMore is_full false answer bytes lens bytes' lens'
tells_line is_full answer bytes lens bytes' lens' room grown longer answers so =
    told_more is_full answers bytes lens bytes' lens' answer room so grown longer

pub loses_line : (is_full : Bool) (answer : List ℕ) (bytes lens bytes' lens' : List ℕ)
    → bytes' ≡ bytes → lens' ≡ lens → TellsMore is_full true answer bytes lens bytes' lens'
loses_line is_full answer bytes lens bytes' lens' same same' answers so =
    told_lost is_full answers bytes lens bytes' lens' answer so same same'

-- One more answer has its line behind the others where appending went well, and is lost where it failed.
pub tells_result : {A E : Type 0} (r : Result A E)
    (is_full full' : Bool) (answer : List ℕ) (bytes lens bytes' lens' : List ℕ) → is_full ≡ false → full' ≡ is_err r
    → OnOk r ((bytes' ≡ bytes ++ answer) × (lens' ≡ lens ++ length answer ∷ []))
    → OnErr r ((bytes' ≡ bytes) × (lens' ≡ lens)) → TellsMore is_full full' answer bytes lens bytes' lens'
tells_result (Ok x) is_full full' answer bytes lens bytes' lens' room e p q =
    subst (λ f. TellsMore is_full f answer bytes lens bytes' lens')
    (sym e) (tells_line is_full answer bytes lens bytes' lens' room p.0 p.1)
tells_result (Err x) is_full full' answer bytes lens bytes' lens' room e p q =
    subst (λ f. TellsMore is_full f answer bytes lens bytes' lens')
    (sym e) (loses_line is_full answer bytes lens bytes' lens' q.0 q.1)

-- Where memory ran out before, one more answer is lost and the lines are as they were.
pub still_lost : (is_full : Bool) (answer : List ℕ) (bytes lens : List ℕ)
    → is_full ≡ true → TellsMore is_full is_full answer bytes lens bytes lens
still_lost is_full answer bytes lens full answers so =
    subst (λ f. ToldSo f (answers ++ answer ∷ []) bytes lens)
    (sym full) (told_lost is_full answers bytes lens bytes lens answer so refl refl)

-- no answer yet
pub told_none : ToldSo false [] [] []
told_none = record { told = []; lost = []; all = refl; text = refl; lengths = refl; none_lost = λ e. refl }

-- all that was told stands behind the beginning
pub told_from : (is_full : Bool) (answers : List (List ℕ)) (bytes lens : List ℕ)
    → ToldSo is_full answers bytes lens → Told answers bytes lens 0 0
told_from is_full answers bytes lens so = record {
  told = so.told;
  lost = so.lost;
  all = so.all;
  text = so.text;
  lengths = so.lengths;
  within = omega arith;
}

-- nothing is taken of no bytes
none_taken : (n : ℕ) (none : List ℕ) → none ≡ [] → take n none ≡ []
none_taken zero none is = refl
none_taken (suc n) none is = ap (take (suc n)) is

-- a beginning is one that is shorter, and what stands between
take_split : (at end : ℕ) (bytes : List ℕ) → at ≤ end
    → take end bytes ≡ take at bytes ++ take (end - at) (drop at bytes)
take_split zero end bytes order = let all : end ≡ end - 0 = omega arith in ap (λ n. take n bytes) all
take_split (suc at) zero bytes order = absurd (omega arith)
take_split (suc at) (suc end) [] order = sym (none_taken (suc end - suc at) [] refl)
take_split (suc at) (suc end) (x ∷ bytes) order =
    let less : end - at ≡ suc end - suc at = omega arith in
    ap (λ l. x ∷ l) (take_split at end bytes (omega arith) ∙ ap (λ n. take at bytes ++ take n (drop at bytes)) less)

-- ---- the next line

-- the next line of a shard, and what stands behind it
pub record Next (answers : List (List ℕ)) (bytes lens : List ℕ) (at next len : ℕ) : Type 0 where
  pub first : List ℕ
  pub others : List (List ℕ)
  pub all : answers ≡ first ∷ others
  pub line : take len (drop at bytes) ≡ first
  pub within : at + len ≤ length bytes
  pub left : Told others bytes lens (at + len) (next + 1)

module _ (answers : List (List ℕ))
    (bytes lens : List ℕ) (at next : ℕ) (is : Told answers bytes lens at next) (more : next < length lens) where
  abbrev len : ℕ
  len = get_or lens next 0

  lengths_are : len ∷ drop (next + 1) lens ≡ map length is.told
  lengths_are = sym (drop_more lens next 0 more) ∙ is.lengths

  next_of : (told : List (List ℕ)) → answers ≡ told ++ is.lost → drop at bytes ≡ flat_map whole told
      → len ∷ drop (next + 1) lens ≡ map length told → Next answers bytes lens at next len
  next_of [] all text lengths = absurd cc
  next_of (first ∷ told) all text lengths =
      let long : len ≡ length first = cc in
      let rest : drop (next + 1) lens ≡ map length told = cc in
      let split : drop at bytes ≡ first ++ flat_map whole told =
      text ∙ flat_map-cons whole first told in
      let size = ap length split ∙ length-append first (flat_map whole told) in
      let within : at + len ≤ length bytes = omega (arith, size, long, is.within, length-drop at bytes) in
      record {
        first = first;
        others = told ++ is.lost;
        all = all;
        line = ap (λ l. take len l) split ∙ ap (λ n. take n (first ++ flat_map whole told)) long
            ∙ take-append_seam first (flat_map whole told);
        within = within;
        left = record {
          told = told;
          lost = is.lost;
          all = refl;
          text =
              sym (drop-drop len at bytes)
              ∙ ap (drop len) split
              ∙ ap (λ n. drop n (first ++ flat_map whole told)) long
              ∙ drop-append_seam first (flat_map whole told);
          lengths = rest;
          within = within;
        };
      }

  -- The next line that a shard has is that of the first answer that is left of it.
  pub next_line : Next answers bytes lens at next len
  next_line = next_of is.told is.all is.text lengths_are

-- a beginning of the first line is one of all
pub first_begins : (out out' : Option (List ℕ)) (answers : List (List ℕ)) (first : List ℕ) (others : List (List ℕ))
    → answers ≡ first ∷ others
    → AppendsBeginning out out' first → AppendsBeginning out out' (flat_map whole answers)
first_begins out out' answers first others all begun = (
  begun.0,
  begun.1,
  (
    begun.2.0 ++ flat_map whole others,
    ap (flat_map whole) all
        ∙ flat_map-cons whole first others
        ∙ ap (λ l. l ++ flat_map whole others) begun.2.1
        ∙ append_assoc begun.0 begun.2.0 (flat_map whole others),
  ),
)

-- nothing is a beginning of whatever was to be written
pub none_begins : (out : Option (List ℕ)) (all : List ℕ) → AppendsBeginning out out all
none_begins out all = ([], Appends-nil out, (all, refl))

-- ---- line by line

-- one piece more of some bytes is written
pub wrote_piece : (out mid out' : Option (List ℕ)) (bytes : List ℕ) (at end : ℕ) → at ≤ end
    → Appends out mid (take at bytes) → Appends mid out' (take (end - at) (drop at bytes))
    → Appends out out' (take end bytes)
wrote_piece out mid out' bytes at end order p q =
    subst (Appends out out') (sym (take_split at end bytes order)) (Appends-trans _ _ _ _ _ p q)

-- a beginning of the next piece begins them all
pub wrote_beginning : (out mid out' : Option (List ℕ)) (bytes : List ℕ) (at end : ℕ) → at ≤ end
    → Appends out mid (take at bytes) → AppendsBeginning mid out' (take (end - at) (drop at bytes))
    → AppendsBeginning out out' bytes
wrote_beginning out mid out' bytes at end order p q = (
  take at bytes ++ q.0,
  Appends-trans _ _ _ _ _ p q.1,
  (
    q.2.0 ++ drop end bytes,
    sym (take-append-drop end bytes)
        ∙ ap (λ l. l ++ drop end bytes) (take_split at end bytes order ∙ ap (λ l. take at bytes ++ l) q.2.1)
        ∙ ap (λ l. l ++ drop end bytes) (sym (append_assoc (take at bytes) q.0 q.2.0))
        ∙ append_assoc (take at bytes ++ q.0) q.2.0 (drop end bytes),
  ),
)

-- ---- in the order of the lines

-- one line more is written
pub writes_more : (out mid out' : Option (List ℕ)) (done : List (List ℕ)) (answer : List ℕ)
    → Appends out mid (flat_map whole done) → Appends mid out' answer
    → Appends out out' (flat_map whole (done ++ answer ∷ []))
writes_more out mid out' done answer p q =
    subst (Appends out out') (sym (flat_map-append whole done (answer ∷ []) ∙ ap
    (λ l. flat_map whole done ++ l) (flat_map-cons whole answer [] ∙ append-nil answer)))
    (Appends-trans _ _ _ _ _ p q)

-- a beginning of what is left is written
pub writes_some : (out mid out' : Option (List ℕ)) (done left all : List (List ℕ))
    → done ++ left ≡ all → Appends out mid (flat_map whole done)
    → AppendsBeginning mid out' (flat_map whole left) → AppendsBeginning out out' (flat_map whole all)
writes_some out mid out' done left all is p q = (
  flat_map whole done ++ q.0,
  Appends-trans _ _ _ _ _ p q.1,
  (
    q.2.0,
    ap (flat_map whole) (sym is)
        ∙ flat_map-append whole done left
        ∙ ap (λ l. flat_map whole done ++ l) q.2.1
        ∙ sym (append_assoc (flat_map whole done) q.0 q.2.0),
  ),
)

-- ---- what a call's result says, seen otherwise

-- What follows from what holds where a call went well holds there too.
pub on_ok : {T E : Type 0} (r : Result T E) (P Q : Type 0) → OnOk r P → (P → Q) → OnOk r Q
on_ok (Ok x) P Q p f = f p
on_ok (Err e) P Q p f = tt

-- What follows from what holds where a call failed holds there too.
pub on_err : {T E : Type 0} (r : Result T E) (P Q : Type 0) → OnErr r P → (P → Q) → OnErr r Q
on_err (Ok x) P Q p f = tt
on_err (Err e) P Q p f = f p

-- the next line of a shard is written
pub wrote_next : (out out' : Option (List ℕ)) (bytes lens : List ℕ) (at next len : ℕ) (line : List ℕ)
    → next < length lens → len ≡ get_or lens next 0 → line ≡ take len (drop at bytes) → Appends out out' line
    → (answers : List (List ℕ)) → Told answers bytes lens at next
    → WroteFirst out out' answers bytes lens (at + len) (next + 1)
wrote_next out out' bytes lens at next len line more is part grown answers told =
    let one = next_line answers bytes lens at next told more in
    let same : line ≡ one.first = part ∙ ap (λ n. take n (drop at bytes)) is ∙ one.line in
    record {
      first = one.first;
      others = one.others;
      all = one.all;
      written = subst (Appends out out') same grown;
      left = subst (λ n. Told one.others bytes lens (at + n) (next + 1)) (sym is) one.left;
    }

-- A beginning of a shard's next line is one of its first answer's line.
pub wrote_some : (out out' : Option (List ℕ)) (bytes lens : List ℕ) (at next len : ℕ) (line : List ℕ)
    → next < length lens → len ≡ get_or lens next 0 → line ≡ take len (drop at bytes) → AppendsBeginning out out' line
    → (answers : List (List ℕ)) → Told answers bytes lens at next
    → AppendsBeginning out out' (first_of answers)
wrote_some out out' bytes lens at next len line more is part begun answers told =
    let one = next_line answers bytes lens at next told more in
    let same : line ≡ one.first = part ∙ ap (λ n. take n (drop at bytes)) is ∙ one.line in
    subst (λ (rs : List (List ℕ)). AppendsBeginning out out' (first_of rs))
    (sym one.all) (subst (AppendsBeginning out out') same begun)

-- ---- one place

-- Writing the answer to a line that gave no step leaves the answers of the shards as they are.
pub wrote_here : (out out' : Option (List ℕ))
    (place : Place) (fault : LineFault) (answer : List ℕ) (left : ℕ → List (List ℕ))
    (Holds : (ℕ → List (List ℕ)) → Type 0)
    → place ≡ Here fault → answer ≡ fault_answer fault
    → Appends out out' answer → Holds left → WroteOne out out' place left Holds
wrote_here out out' place fault answer left Holds is told grown holds =
    subst (λ p. WroteOne out out' p left Holds) (sym is)
    (record {
      answer = fault_answer fault;
      others = left;
      goes_on = λ places. refl;
      written = subst (λ r. Appends out out' r) told grown;
      holds = holds;
    })

-- A beginning of the first line's answer, where that gave no step, begins what is to be written.
pub begins_here : (out out' : Option (List ℕ))
    (place : Place) (fault : LineFault) (answer : List ℕ) (left : ℕ → List (List ℕ)) (places : List Place)
    → place ≡ Here fault → answer ≡ fault_answer fault → AppendsBeginning out out' answer
    → AppendsBeginning out out' (flat_map whole (merged (place ∷ places) left))
begins_here out out' place fault answer left places is told begun =
    subst (λ p. AppendsBeginning out out' (flat_map whole (merged (p ∷ places) left))) (sym is)
    (first_begins out out' (merged (Here fault ∷ places) left) (fault_answer fault)
    (merged places left) refl (subst (λ r. AppendsBeginning out out' r) told begun))

module _ {X C : Type 0} (bytes lens : X → List ℕ) (at next : C → ℕ) (shards : List X) where
  abbrev pub AllTold : (ℕ → List (List ℕ)) → List C → Type 0
  AllTold left cursors = (i : ℕ) (d : X) (e : C) → i < length shards → Told (left i)
      (bytes (get_or shards i d)) (lens (get_or shards i d)) (at (get_or cursors i e)) (next (get_or cursors i e))

  module _ (cursors : List C) (left : ℕ → List (List ℕ))
      (all : AllTold left cursors) (i : ℕ) (x : X) (v : C) (first : List ℕ) (others : List (List ℕ))
      (within : i < length shards) (long : length cursors ≡ length shards) (is : x ≡ get_or shards i x)
      (split : left i ≡ first ∷ others) (told : Told others (bytes x) (lens x) (at v) (next v)) where
    told_here : (d : X) (e : C) → Told (after_first i left i) (bytes (get_or shards i d))
        (lens (get_or shards i d)) (at (get_or (set cursors i v) i e)) (next (get_or (set cursors i v) i e))
    told_here d e =
        let rest : after_first i left i ≡ others =
        ap (λ b. cond b (rest_of (left i)) (left i)) (eq-eqb i i refl) ∙ ap rest_of split in
        let shard : get_or shards i d ≡ x = get_or_default shards i d x within ∙ sym is in
        let cursor : get_or (set cursors i v) i e ≡ v =
        get_or-set_same cursors i v e (subst (λ n. i < n) (sym long) within) in
        subst (λ (rs : List (List ℕ)). Told rs (bytes (get_or shards i d)) (lens (get_or shards i d))
        (at (get_or (set cursors i v) i e)) (next (get_or (set cursors i v) i e))) (sym rest)
        (subst (λ (y : X). Told others (bytes y)
        (lens y) (at (get_or (set cursors i v) i e)) (next (get_or (set cursors i v) i e))) (sym shard)
        (subst (λ (w : C). Told others (bytes x) (lens x) (at w) (next w)) (sym cursor) told))

    told_apart : (j : ℕ) (d : X) (e : C)
        → j < length shards → (i ≡ j → ⊥) → Told (after_first i left j) (bytes (get_or shards j d))
        (lens (get_or shards j d)) (at (get_or (set cursors i v) j e)) (next (get_or (set cursors i v) j e))
    told_apart j d e h ne =
        let rest : after_first i left j ≡ left j = ap (λ b. cond b (rest_of (left j)) (left j)) (ne_eqb i j ne) in
        let cursor : get_or (set cursors i v) j e ≡ get_or cursors j e =
        get_or-set_other cursors i j v e (λ q. ne (sym q)) in
        subst (λ (rs : List (List ℕ)). Told rs (bytes (get_or shards j d)) (lens (get_or shards j d))
        (at (get_or (set cursors i v) j e)) (next (get_or (set cursors i v) j e))) (sym rest)
        (subst (λ (w : C). Told (left j) (bytes (get_or shards j d)) (lens (get_or shards j d)) (at w) (next w))
        (sym cursor) (all j d e h))

    told_others : AllTold (after_first i left) (set cursors i v)
    told_others j d e h =
        elim (cases_eq i j) [
          | inl eq ↦ subst (λ n. Told (after_first i left n) (bytes (get_or shards n d)) (lens (get_or shards n d))
              (at (get_or (set cursors i v) n e)) (next (get_or (set cursors i v) n e))) eq (told_here d e)
          | inr ne ↦ told_apart j d e h ne
        ]

    pub wrote_dealt : (out out' : Option (List ℕ)) → Appends out out' first
        → WroteOne out out' (Dealt i) left (λ rest. AllTold rest (set cursors i v))
    wrote_dealt out out' grown = record {
      answer = first;
      others = after_first i left;
      goes_on = λ places. ap (λ (rs : List (List ℕ)). first_of rs ∷ merged places (after_first i left)) split;
      written = grown;
      holds = told_others;
    }

  -- ---- by what was written of a shard

  module _ (cursors : List C) (i : ℕ) (x : X) (w v e : C)
      (bs ls : List ℕ) (within : i < length shards) (long : length cursors ≡ length shards) (is : x ≡ get_or shards i x)
      (from : w ≡ get_or cursors i e) (bs_are : bs ≡ bytes x)
      (ls_are : ls ≡ lens x) (place : Place) (at_i : place ≡ Dealt i) (out out' : Option (List ℕ)) where
    -- At a shard's cursor stand the lines of the answers that are left of it.
    pub told_first : (left : ℕ → List (List ℕ)) → AllTold left cursors → Told (left i) bs ls (at w) (next w)
    told_first left all =
        subst (λ (b : List ℕ). Told (left i) b ls (at w) (next w)) (sym bs_are)
        (subst (λ (l : List ℕ). Told (left i) (bytes x) l (at w) (next w)) (sym ls_are)
        (subst (λ (y : X). Told (left i) (bytes y) (lens y) (at w) (next w)) (sym is)
        (subst (λ (u : C). Told (left i) (bytes (get_or shards i x)) (lens (get_or shards i x)) (at u) (next u))
        (sym from) (all i x e within))))

    -- Where a shard's next line is written, its place is, and the cursor behind it fits what is left.
    pub dealt_ok : ((answers : List (List ℕ))
        → Told answers bs ls (at w) (next w) → WroteFirst out out' answers bs ls (at v) (next v))
        → (left : ℕ → List (List ℕ))
        → AllTold left cursors → WroteOne out out' place left (λ rest. AllTold rest (set cursors i v))
    dealt_ok wrote left all =
        let one = wrote (left i) (told_first left all) in
        let others : Told one.others (bytes x) (lens x) (at v) (next v) =
        subst (λ (b : List ℕ). Told one.others b (lens x) (at v) (next v)) bs_are
        (subst (λ (l : List ℕ). Told one.others bs l (at v) (next v)) ls_are one.left) in
        subst (λ p. WroteOne out out' p left (λ rest. AllTold rest (set cursors i v))) (sym at_i)
        (wrote_dealt cursors left all i x v one.first one.others within long is one.all others out out' one.written)

    -- A beginning of a shard's next line, where its place is first, begins what is to be written.
    pub dealt_err : ((answers : List (List ℕ))
        → Told answers bs ls (at w) (next w) → AppendsBeginning out out' (first_of answers))
        → (left : ℕ → List (List ℕ)) (places : List Place)
        → AllTold left cursors → AppendsBeginning out out' (flat_map whole (merged (place ∷ places) left))
    dealt_err begun left places all =
        subst (λ p. AppendsBeginning out out' (flat_map whole (merged (p ∷ places) left))) (sym at_i)
        (first_begins out out' (merged (Dealt i ∷ places) left)
        (first_of (left i)) (merged places (after_first i left)) refl (begun (left i) (told_first left all)))

  -- ---- all places

  -- whatever the answers are whose lines stand in the shards, those of the places before these are written
  abbrev pub Written : List Place → List Place → List C → Option (List ℕ) → Option (List ℕ) → Type 0
  Written places rest cursors out out' =
      (answers : ℕ → List (List ℕ)) → ((i : ℕ) (d : X)
      → i < length shards → Told (answers i) (bytes (get_or shards i d)) (lens (get_or shards i d)) 0 0)
      → (left : ℕ → List (List ℕ)) × (done : List (List ℕ)) × AllTold left cursors
      × (done ++ merged rest left ≡ merged places answers) × Appends out out' (flat_map whole done)

  -- With each cursor at the beginning, no place's answer is written yet.
  pub written_none : (places : List Place) (cursors : List C) (out : Option (List ℕ)) (n : ℕ) (z : C)
      → cursors ≡ replicate n z → n ≡ length shards → at z ≡ 0 → next z ≡ 0
      → Written places places cursors out out
  written_none places cursors out n z are few first begin answers all = (
    answers,
    [],
    λ i d e h.
        let here : get_or cursors i e ≡ z =
        ap (λ l. get_or l i e) are ∙ get_or-replicate n i z e (subst (λ m. i < m) (sym few) h) in
        subst (λ m. Told (answers i) (bytes (get_or shards i d))
        (lens (get_or shards i d)) m (next (get_or cursors i e))) (sym (ap at here ∙ first))
        (subst (λ m. Told (answers i) (bytes (get_or shards i d)) (lens (get_or shards i d)) 0 m)
        (sym (ap next here ∙ begin)) (all i d h)),
    refl,
    Appends-nil out,
  )

  module _ (places : List Place) (place : Place) (rest list : List Place) (cursors : List C)
      (out mid : Option (List ℕ)) (next_is : list ≡ place ∷ rest) (so_far' : Written places list cursors out mid) where
    so_far : Written places (place ∷ rest) cursors out mid
    so_far = subst (λ (l : List Place). Written places l cursors out mid) next_is so_far'

    -- Where the next place's answer is written too, so are those of all places up to it.
    pub written_more : (cursors' : List C) (out' : Option (List ℕ)) → ((left : ℕ → List (List ℕ))
        → AllTold left cursors → WroteOne mid out' place left (λ others. AllTold others cursors'))
        → Written places rest cursors' out out'
    written_more cursors' out' wrote answers all =
        let so = so_far answers all in
        let one = wrote so.0 so.2 in (
          one.others,
          so.1 ++ one.answer ∷ [],
          one.holds,
          append_assoc so.1 (one.answer ∷ []) (merged rest one.others)
              ∙ ap (λ l. so.1 ++ l) (sym (one.goes_on rest)) ∙ so.3,
          writes_more out mid out' so.1 one.answer so.4 one.written,
        )

    -- Where writing broke off at a place, a beginning of all the answers is written.
    pub written_some : (out' : Option (List ℕ))
        → ((left : ℕ → List (List ℕ)) (places : List Place)
        → AllTold left cursors → AppendsBeginning mid out' (flat_map whole (merged (place ∷ places) left)))
        → (answers : ℕ → List (List ℕ)) → ((i : ℕ) (d : X)
        → i < length shards → Told (answers i) (bytes (get_or shards i d)) (lens (get_or shards i d)) 0 0)
        → AppendsBeginning out out' (flat_map whole (merged places answers))
    written_some out' begun answers all =
        let so = so_far answers all in
        writes_some out mid out'
        so.1 (merged (place ∷ rest) so.0) (merged places answers) so.3 so.4 (begun so.0 rest so.2)

  -- Where no place is left, the answers of all places are written in their order.
  pub written_all : (places : List Place) (cursors : List C) (out out' : Option (List ℕ))
      → Written places [] cursors out out'
      → (answers : ℕ → List (List ℕ)) → ((i : ℕ) (d : X)
      → i < length shards → Told (answers i) (bytes (get_or shards i d)) (lens (get_or shards i d)) 0 0)
      → Appends out out' (flat_map whole (merged places answers))
  written_all places cursors out out' so_far answers all =
      let so = so_far answers all in
      subst (λ (l : List (List ℕ)). Appends out out' (flat_map whole l)) (sym (append-nil so.1) ∙ so.3) so.4
