use Rattle.std.proofs.Common.{Option, Some, None, refl, codes}
use Rattle.clap.specs.Words.{Text, found_of}
use Rattle.mr_options.specs.Values.{IsMaster}
use Rattle.mr_options.proofs.Firsts.{first_is, first_named}
use Rattle.mr_options.proofs.serve_values.master_of.Goals as goal

pub returns-in-None-clause-ok : goal.returns-in-None-clause-ok
returns-in-None-clause-ok c =
    let P : Option Text → Type 0 = λ x. IsMaster x None in
    first_is P (found_of c.args.matches.now) (codes "replicaof") None c.in-None.ensures refl

pub returns-in-Some-master_named-clause-ok : goal.returns-in-Some-master_named-clause-ok
returns-in-Some-master_named-clause-ok c =
    let P : Option Text → Type 0 = λ x. IsMaster x (Some c.in-Some-master_named.master) in
    first_is P (found_of c.args.matches.now) (codes "replicaof") (Some c.in-Some.text.now) c.in-Some.ensures c.in-Some-master_named.ensures.some

pub returns-in-None-master_named-clause-err : goal.returns-in-None-master_named-clause-err
returns-in-None-master_named-clause-err c =
    (c.in-Some.text.now, (first_named (found_of c.args.matches.now) (codes "replicaof") c.in-Some.text.now c.in-Some.ensures, c.in-None-master_named.ensures.none))
