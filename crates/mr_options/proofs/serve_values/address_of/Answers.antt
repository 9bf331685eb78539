use Rattle.std.proofs.Common.{Option, Some, None, [], ◌∷◌, refl, codes}
use Rattle.std.specs.declared.net.ipv4_addr.Ipv4Addr.{Ipv4Addr}
use Rattle.clap.specs.Words.{Text, found_of}
use Rattle.mr_options.specs.Values.{IsAddress}
use Rattle.mr_options.proofs.Firsts.{first_is, first_named}
use Rattle.mr_options.proofs.serve_values.address_of.Goals as goal

-- 127.0.0.1
abbrev local : Ipv4Addr
local = record { octets = 127 ∷ 0 ∷ 0 ∷ 1 ∷ [] }

pub returns-in-None-clause-ok : goal.returns-in-None-clause-ok
returns-in-None-clause-ok c =
    let P : Option Text → Type 0 = λ x. IsAddress x local in
    first_is P (found_of c.args.matches.now) (codes "bind") None c.in-None.ensures refl

pub returns-in-Ok-clause-ok : goal.returns-in-Ok-clause-ok
returns-in-Ok-clause-ok c =
    let P : Option Text → Type 0 = λ x. IsAddress x c.in-Ok.address in
    first_is P (found_of c.args.matches.now) (codes "bind") (Some c.in-Some.text.now) c.in-Some.ensures c.in-Ok.ensures.value

pub returns-in-Err-clause-err : goal.returns-in-Err-clause-err
returns-in-Err-clause-err c =
    (c.in-Some.text.now, (first_named (found_of c.args.matches.now) (codes "bind") c.in-Some.text.now c.in-Some.ensures, c.in-Err.ensures.value))
