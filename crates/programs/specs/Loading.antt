-- Texts that bring an image.
use Rattle.std.specs.Prelude.{ℕ, ◌+◌, ◌==◌, nat_eq, nat_lt, Bool, true, false, not, ◌&&◌, ◌||◌, if◌then◌else◌, List, []}
use Rattle.std.specs.Prelude.{◌∷◌, length, Option, Some, None, Result, Ok, Err, codes}
use Rattle.std.specs.List.{starts_with}
use Rattle.base64.specs.declared.decode.DecodeError.{DecodeError}
use Rattle.base64.specs.Engines.{standard}
use Rattle.base64.specs.GeneralPurpose.{decode_of}
use Rattle.model.specs.declared.names.Source.{Source}
use Rattle.model.specs.declared.names.Source.TheVariants.{Outside, Unit as FromUnit}
use Rattle.model.specs.Handler.{Turn}
use Rattle.riscv.specs.Memories.{zeros, word_at, bytes_from, put_bytes}
use Rattle.programs.specs.declared.process.Process.{Process}
use Rattle.programs.specs.Processes.{without_image}

-- the state becomes this one, and nothing is put out
abbrev pub becoming : Process → Turn Process
becoming process = record { state = process; sends = []; outputs = [] }

-- the state becomes this one, and one text is put out
abbrev pub saying : Process → List ℕ → Turn Process
saying process text = record { state = process; sends = []; outputs = text ∷ [] }

-- `+`, behind which more of an image stands, and `=`, behind which the last of it stands
abbrev pub is_mark : ℕ → Bool
is_mark first = (first == 43) || (first == 61)

-- what an image's header is in base64
abbrev pub begins_image : List ℕ → Bool
begins_image rest = starts_with nat_eq rest (codes "UlYxA")

-- whether a text is a part of an image: one from outside with a mark, where there is no program, where an image has
-- begun, or where one begins with it
abbrev pub is_part : Process → Source → List ℕ → Bool
is_part process Outside (first ∷ rest) =
    is_mark first && (not process.has_program || (nat_lt 0 process.loaded || begins_image rest))
is_part process Outside [] = false
is_part process (FromUnit unit) text = false

-- an image has 258,048 bytes at most
abbrev pub collected : Process → List ℕ → Option Process
collected process bytes =
    if nat_lt 0x3f000 (process.loaded + length bytes) then None else
    Some (record process {
      image = put_bytes process.image process.loaded bytes;
      loaded = process.loaded + length bytes;
    })

-- the image over the memory
abbrev pub over : Process → Process
over process = record {
  memory = put_bytes process.memory 0 (bytes_from process.image 0 process.loaded);
  has_program = true;
  image = zeros;
  loaded = 0;
}

-- the last part came: an image begins with the bytes RV1 and 1
abbrev pub installed : Process → Turn Process
installed process =
    if word_at process.image 0 == 0x01315652 then becoming (over process)
    else saying (without_image process) (codes "bad image")

abbrev pub with_image : Process → Bool → Option Process → Turn Process
with_image process is_last None = saying (without_image process) (codes "image too large")
with_image process is_last (Some collected) = if is_last then installed collected else becoming collected

abbrev pub with_bytes : Process → Bool → List ℕ → Turn Process
with_bytes process is_last bytes = with_image process is_last (collected process bytes)

abbrev pub with_part : Process → Bool → Result (List ℕ) DecodeError → Turn Process
with_part process is_last (Ok bytes) = with_bytes process is_last bytes
with_part process is_last (Err e) = saying (without_image process) (codes "bad base64")

-- the turn upon a part
unfoldable pub loading : Process → List ℕ → Turn Process
loading process [] = becoming process
loading process (first ∷ rest) = with_part process (first == 61) (decode_of standard rest)
