use Rattle.json.proofs.Printed.Strings.{escape_byte_plain}
use Rattle.quick_forms.proofs.Parts.{differs}
use Rattle.quick_forms.proofs.shortest.is_plain.Goals as goal

pub returns-then-byte-ne34 : goal.returns-then-byte-ne34
returns-then-byte-ne34 c =
    λ plain. escape_byte_plain c.args.byte c.if-byte-ne34.true.1 (differs c.args.byte 92 plain) c.if-byte-ne34.true.0
