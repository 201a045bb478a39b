use Rattle.std.proofs.Common.{◌≡◌, ◌∙◌, ap, subst, IfOk}
use Rattle.isle_prelude.specs.Lent.{lent}
use Rattle.isle_prelude.proofs.FirstLaws.{values_there, values_missing}
use Rattle.isle_prelude.proofs.first_fields.type_values.Goals as goal

pub returns-in-Some : goal.returns-in-Some
returns-in-Some c = λ fields has.
    subst (λ names. IfOk c.field_values.result (λ values. lent values.keys ≡ names))
    (values_there fields c.args.types.now c.args.name.now _ has c.in-Some.ensures.value) c.field_values.ensures

pub returns-in-None : goal.returns-in-None
returns-in-None c = λ fields has. ap lent c.new.ensures.empty ∙ values_missing fields c.args.types.now c.args.name.now has c.in-None.ensures.value
