use Rattle.std.proofs.Common.{arith, ◌≡◌, ◌-◌, length, Some, sym, ap, ◌∙◌, refl}
use Rattle.quick_forms.specs.Seen.{seen_members}
use Rattle.json.specs.Json.{read_key, members, value}
use Rattle.json.proofs.Grammar.{read_key-shorter}
use Rattle.serde_json.specs.Read.{of_members, converted}
use Rattle.quick_forms.proofs.Turns.{member_read, members_over}
use Rattle.quick_forms.proofs.steps.members.Goals as goal

pub members-init : goal.members-init
members-init c = (length c.args.reader.now, omega arith, λ m. refl)

pub members-preserved : goal.members-preserved
members-preserved c =
    let l = c.members in
    let n = l.invariant.0 in
    let k = c.in-Some.key.now in
    let s = c.next_key.new.self in
    let r = c.member.new.reader in
    let named : read_key l.reader ≡ Some (Some k, s) = grind arith in
    let done = c.in_ok-seen.ensures in
    let less = read_key-shorter l.reader (Some k) s named in
    let lesser = done.shorter in (
      n - 1,
      omega (arith, l.invariant.1),
      λ m. l.invariant.2 m ∙ member_read (value m) (seen_members l.seen) n k l.reader s r done.ok.0
          (omega (arith, l.invariant.1)) named (done.ok.1 m)
          ∙ ap (λ found. converted (λ ms. of_members ms found) (members (value m) (n - 1) r)) (sym done.ok.2),
    )

pub returns : goal.returns
returns c =
    let l = c.members in
    λ m. l.invariant.2 m ∙ members_over (value m)
    (seen_members l.seen) l.invariant.0 l.reader c.next_key.new.self l.invariant.1 (grind arith)
