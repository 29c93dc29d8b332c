-- What a slot has.
use Rattle.std.specs.Prelude.{ℕ, Option, None, Some}
use Rattle.std.specs.Arc.{arc_value}
use Rattle.model.specs.declared.records.Record.{Record}
use Rattle.shared_log.specs.declared.slot.Body.{Body}
use Rattle.shared_log.specs.declared.slot.Occupancy.{Occupancy}
use Rattle.shared_log.specs.declared.slot.Occupancy.TheVariants.{Vacant, Letterless, Lettered}
use Rattle.shared_log.specs.declared.slot.Route.{Route}

-- the record of these parts
abbrev pub record_with : Route → Option ℕ → Body → Record
record_with route letter body = record {
  tenant = arc_value body.tenant;
  unit = route.unit;
  mark = body.mark;
  source = route.source;
  letter = letter;
  number = body.number;
  text = body.text;
  vector = body.vector;
}

-- the record of a slot, if it has one
abbrev pub slot_record : Occupancy → Option Record
slot_record Vacant = None
slot_record (Letterless route body) = Some (record_with route None body)
slot_record (Lettered route letter body) = Some (record_with route (Some letter) body)
