-- How it is written as bytes how much of a journal a snapshot stands behind.
use Rattle.std.specs.Prelude.{◌<◌, ◌^◌}
use Rattle.codec.specs.Codes.{Code, number_code}
use Rattle.files.specs.declared.snapshots.Stand.{Stand}

abbrev pub stand_code : Code Stand
stand_code s rest = number_code s.lines (number_code s.bytes (number_code s.written rest))

abbrev pub FitsStand : Stand → Type 0
FitsStand s = (s.lines < 2 ^ 64) × (s.bytes < 2 ^ 64) × (s.written < 2 ^ 64)
