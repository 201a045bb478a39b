use Rattle.std.proofs.Common.{rules, ◌≡◌}
use Rattle.isle_meta.specs.Immediates.{type_of}
use Rattle.isle_prelude.proofs.FirstLaws.{first_again, first_more}
use Rattle.isle_prelude.proofs.first_fields.note_first.Goals as goal

pub returns-in-Some : goal.returns-in-Some
returns-in-Some c = λ earlier has.
    let n : c.short_name-name.result.now ≡ type_of c.args.field.now = search rules in
    first_again earlier c.args.types.now c.args.field.now c.short_name-name.result.now _ has n c.in-Some.ensures.value

pub returns : goal.returns
returns c = λ earlier has.
    let n : c.short_name-name.result.now ≡ type_of c.args.field.now = search rules in
    first_more earlier c.args.types.now c.insert.new.self c.args.field c.short_name-name.result has n c.in_default.ensures.value c.in_ok-insert.ensures.updates
