-- The step that a line is, by `serde_json`'s reading.
use Rattle.std.specs.Prelude.{◌≡◌, ℕ, ◌+◌, List, [], ◌∷◌, Bool, false, ◌==◌, nat_le, if◌then◌else◌, bytes_eq, Option}
use Rattle.std.specs.Prelude.{Some, None, Result, Ok, Err, option_map, option_and_then, codes}
use Rattle.std.specs.Str.{is_utf8}
use Rattle.serde_json.specs.Data.{Data, Items, no_items, item, Members}
use Rattle.serde_json.specs.Events.{members_len}
use Rattle.serde_json.specs.Read.{read}
use Rattle.serde_json.specs.Find.{get, as_str, as_number, as_u64, as_array, as_object}
use Rattle.model.specs.declared.limits.TheConstants.{MAX_VOLATILE_QUOTA, MAX_HELD_QUOTA, MAX_INDEX, MAX_LETTERS_QUOTA}
use Rattle.model.specs.declared.limits.TheConstants.{MAX_OPTIMISM}
use Rattle.model.specs.Names.{is_tenant_name}
use Rattle.model.specs.declared.names.Quota.{Quota}
use Rattle.model.specs.declared.steps.Step.{Step}
use Rattle.model.specs.declared.steps.Step.TheVariants.{Open, Join, Post, Deliver, Flush, Checkpoint, Kill, Restart}
use Rattle.model.specs.declared.steps.Step.TheVariants.{Notice, Release, Status}
use Rattle.forms.specs.declared.fault.LineFault.{LineFault}
use Rattle.forms.specs.declared.fault.LineFault.TheVariants.{Bad, NoMemory}

-- the value, where there is one, goes on to f
infixl 10 ◌>>=◌
abbrev pub ◌>>=◌ : {A B : Type 0} → Option A → (A → Option B) → Option B
None >>= f = None
(Some x) >>= f = f x

-- What a reader returned, seen by view, is what the form gives, unless memory ran out.
abbrev pub Gives : {X Y : Type 0} → (X → Y) → Result X LineFault → Option Y → Type 0
Gives view (Ok x) form = form ≡ Some (view x)
Gives view (Err Bad) form = form ≡ None
Gives view (Err NoMemory) form = Unit {0}

-- a value that passes the test
abbrev pub only_if : {A : Type 0} → (A → Bool) → A → Option A
only_if test x = if test x then Some x else None

-- ---- the values behind keys

-- a text
abbrev pub text_at : List ℕ → Data → Option (List ℕ)
text_at key d = option_and_then as_str (get key d)

-- the name of the tenant
abbrev pub name_at : Data → Option (List ℕ)
name_at d = text_at (codes "tenant") d >>= only_if is_tenant_name

-- a whole number up to the greatest
abbrev pub whole_at : ℕ → List ℕ → Data → Option ℕ
whole_at greatest key d =
    option_and_then as_u64 (option_and_then as_number (get key d)) >>= only_if (λ n. nat_le n greatest)

-- the greatest number of a unit
abbrev pub greatest_byte : ℕ
greatest_byte = 255

-- the greatest of all other numbers
abbrev pub greatest_word : ℕ
greatest_word = MAX_INDEX

-- the number of a unit
abbrev pub byte_at : List ℕ → Data → Option ℕ
byte_at key d = whole_at greatest_byte key d

-- any other number
abbrev pub word_at : List ℕ → Data → Option ℕ
word_at key d = whole_at greatest_word key d

-- the texts that some items are
abbrev pub texts_of : Items → Option (List (List ℕ))
texts_of no_items = Some []
texts_of (item d ds) = as_str d >>= λ text. option_map (λ texts. text ∷ texts) (texts_of ds)

-- an array of texts
abbrev pub texts_at : List ℕ → Data → Option (List (List ℕ))
texts_at key d = option_and_then as_array (get key d) >>= texts_of

-- ---- how many keys there are

-- whether there are members, n of them
abbrev pub count_is : ℕ → Option Members → Bool
count_is n None = false
count_is n (Some ms) = members_len ms == n

-- an object of n keys: it has each key once
abbrev pub has_keys : ℕ → Data → Bool
has_keys n d = count_is n (as_object d)

-- 1 for a value, 0 for none
abbrev pub one_if : Option Data → ℕ
one_if None = 0
one_if (Some d) = 1

-- 1 where the key is there, else 0
abbrev pub one_if_has : List ℕ → Data → ℕ
one_if_has key d = one_if (get key d)

-- ---- the forms, each with the keys that it looks up and no more

-- a quota
unfoldable pub quota_of : Data → Option Quota
quota_of d = do
  held ← word_at (codes "held") d
  letters ← word_at (codes "letters") d
  volatile ← word_at (codes "volatile") d
  if has_keys 3 d then Some (record { volatile = volatile; held = held; letters = letters }) else None

-- the quota of an opening that names none
abbrev pub default_quota : Quota
default_quota = record { volatile = MAX_VOLATILE_QUOTA; held = MAX_HELD_QUOTA; letters = MAX_LETTERS_QUOTA }

-- the quota that was found, or the default
abbrev pub quota_or : Option Data → Option Quota
quota_or None = Some default_quota
quota_or (Some d) = quota_of d

-- the quota of an opening
unfoldable pub quota_at : Data → Option Quota
quota_at d = quota_or (get (codes "quota") d)

-- the number behind the key where the key is there, else the default
abbrev pub optimism_or : Option Data → Data → Option ℕ
optimism_or None d = Some MAX_OPTIMISM
optimism_or (Some n) d = word_at (codes "optimism") d

-- the degree of optimism of an opening
unfoldable pub optimism_at : Data → Option ℕ
optimism_at d = optimism_or (get (codes "optimism") d) d

-- quota and optimism may be left out
unfoldable pub open_form : Data → Option Step
open_form d = do
  tenant ← name_at d
  kinds ← texts_at (codes "units") d
  quota ← quota_at d
  optimism ← optimism_at d
  if has_keys (3 + one_if_has (codes "quota") d + one_if_has (codes "optimism") d) d
      then Some (Open tenant kinds quota optimism)
      else None

-- one more unit of a kind
unfoldable pub join_form : Data → Option Step
join_form d = do
  tenant ← name_at d
  kind ← text_at (codes "kind") d
  if has_keys 3 d then Some (Join tenant kind) else None

-- a text from outside
unfoldable pub post_form : Data → Option Step
post_form d = do
  tenant ← name_at d
  unit ← byte_at (codes "unit") d
  number ← word_at (codes "number") d
  text ← text_at (codes "text") d
  if has_keys 5 d then Some (Post unit number tenant text) else None

-- a letter
unfoldable pub deliver_form : Data → Option Step
deliver_form d = do
  tenant ← name_at d
  letter ← word_at (codes "letter") d
  if has_keys 3 d then Some (Deliver tenant letter) else None

-- the tenant and the unit of a step that names these alone
unfoldable pub place_of : Data → Option (List ℕ × ℕ)
place_of d = do
  tenant ← name_at d
  unit ← byte_at (codes "unit") d
  if has_keys 3 d then Some (tenant, unit) else None

-- the unit's volatile records are logged
abbrev pub flush_form : Data → Option Step
flush_form d = option_map (λ p. Flush p.0 p.1) (place_of d)

-- a snapshot of the unit is shelved
abbrev pub checkpoint_form : Data → Option Step
checkpoint_form d = option_map (λ p. Checkpoint p.0 p.1) (place_of d)

-- the unit fails
abbrev pub kill_form : Data → Option Step
kill_form d = option_map (λ p. Kill p.0 p.1) (place_of d)

-- the unit that is down goes back
abbrev pub restart_form : Data → Option Step
restart_form d = option_map (λ p. Restart p.0 p.1) (place_of d)

-- the unit learns the rows of the table
abbrev pub notice_form : Data → Option Step
notice_form d = option_map (λ p. Notice p.0 p.1) (place_of d)

-- the unit's held outputs are released
abbrev pub release_form : Data → Option Step
release_form d = option_map (λ p. Release p.0 p.1) (place_of d)

-- what the unit is at
abbrev pub status_form : Data → Option Step
status_form d = option_map (λ p. Status p.0 p.1) (place_of d)

-- the form that the verb names
abbrev pub form_of : List ℕ → Data → Option Step
form_of verb d =
    if bytes_eq verb (codes "open") then open_form d
    else if bytes_eq verb (codes "join") then join_form d
    else if bytes_eq verb (codes "post") then post_form d
    else if bytes_eq verb (codes "deliver") then deliver_form d
    else if bytes_eq verb (codes "flush") then flush_form d
    else if bytes_eq verb (codes "checkpoint") then checkpoint_form d
    else if bytes_eq verb (codes "kill") then kill_form d
    else if bytes_eq verb (codes "restart") then restart_form d
    else if bytes_eq verb (codes "notice") then notice_form d
    else if bytes_eq verb (codes "release") then release_form d
    else if bytes_eq verb (codes "status") then status_form d
    else None

-- the step that a value is, or none
unfoldable pub step_of : Data → Option Step
step_of d = text_at (codes "do") d >>= λ verb. form_of verb d

-- the step that a line is, or none: it is UTF-8, and reads as a value of a form
unfoldable pub step_of_line : List ℕ → Option Step
step_of_line line = if is_utf8 line then read line >>= step_of else None
