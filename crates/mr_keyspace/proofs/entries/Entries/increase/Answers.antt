use Rattle.std.proofs.Common.{rules, ◌≡◌, ℤ, None, Err, codes, subst, w64}
use Rattle.std.specs.Prelude.{◌↔◌}
use Rattle.std.proofs.lemmas.Int.{to_z-of_z}
use Rattle.mr_map.specs.Bytes.{Bytes}
use Rattle.mr_keyspace.specs.Texts.{increased}
use Rattle.mr_keyspace.specs.declared.value.Entry.{Entry}
use Rattle.mr_keyspace.specs.declared.fault.ApplyFault.{ApplyFault}
use Rattle.mr_keyspace.specs.declared.fault.ApplyFault.TheVariants.{Refused}
use Rattle.mr_keyspace.proofs.Stepping.{entry_at, is_there}
use Rattle.mr_keyspace.proofs.TextSteps.{refuses_other, fails}
use Rattle.mr_keyspace.proofs.entries.Entries.increase.Goals as goal

pub returns-in_default-value : goal.returns-in_default-value
returns-in_default-value c =
    refuses_other (codes "0") (increased c.args.by) c.self.view_is c.args.key c.as_slice.result.now c.as_slice.ensures (entry_at c.self.inside.by_key c.as_slice.result.now c.in-Some.value.now) (is_there c.self.inside.by_key c.as_slice.result.now c.in-Some.value.now c.in-Some.ensures.value) c.in_default-value.not-Text

pub returns-in_err-text-2 : goal.returns-in_err-text-2
returns-in_err-text-2 c =
    let e : Entry = (entry_at c.self.inside.by_key c.as_slice.result.now c.in-Some.value.now) in
    let fault : ApplyFault = c.in_err-text-2.field-0.0 in
    let told : c.from_residual-in_err-text-2.result ≡ Err fault = search rules in
    let refused : (c.increased-2.result ≡ Err Refused) ↔ (increased c.args.by c.in-Text.text ≡ None) = subst (λ (x : Bytes). (c.increased-2.result ≡ Err Refused) ↔ (increased c.args.by x ≡ None)) c.as_slice-2.ensures
    (subst (λ (z : ℤ). (c.increased-2.result ≡ Err Refused) ↔ (increased z c.as_slice-2.result.now ≡ None)) (to_z-of_z w64 c.args.by c.ranges.by) c.increased-2.ensures.refused) in
    fails (codes "0") (increased c.args.by) c.self.view_is c.args.key c.as_slice.result.now c.as_slice.ensures e.deadline e.value c.in-Text.text c.increased-2.result fault c.from_residual-in_err-text-2.result (is_there c.self.inside.by_key c.as_slice.result.now c.in-Some.value.now c.in-Some.ensures.value) c.in-Text.is c.in_err-text-2.was told refused
