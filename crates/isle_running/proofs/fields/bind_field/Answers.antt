use Rattle.std.proofs.Common.{rules, ◌≡◌, Some, None}
use Rattle.isle_running.specs.Named.{value_named}
use Rattle.isle_running.proofs.NamedValues.{binds_there, binds_none}
use Rattle.isle_running.proofs.fields.bind_field.Goals as goal

pub returns-in_ok-bind-in-Some-clause-binds : goal.returns-in_ok-bind-in-Some-clause-binds
returns-in_ok-bind-in-Some-clause-binds c =
    let there : Some c.in-Some.value.now ≡ value_named c.args.found.now c.args.bind.now.field = search rules in
    binds_there c.args.bind.now.local c.args.bind.now.field c.args.found.now c.in-Some.value.now c.in_ok-copied-in-Some.field-0 c.args.frame.now c.bind.new.self there c.in_ok-copied-in-Some.ensures c.in_ok-bind-in-Some.ensures.more

pub returns-in-None-clause-binds : goal.returns-in-None-clause-binds
returns-in-None-clause-binds c =
    let none : None ≡ value_named c.args.found.now c.args.bind.now.field = search rules in
    binds_none c.args.bind.now.local c.args.bind.now.field c.args.found.now c.args.frame.now none
