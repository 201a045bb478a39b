use Rattle.std.proofs.Common.{sym, ◌∙◌}
use Rattle.isle_operands.specs.Contexts.{env_of}
use Rattle.isle_operands.proofs.TypeSteps.{struct_type}
use Rattle.isle_operands.proofs.types.struct_field.Goals as goal

pub returns-in-Some : goal.returns-in-Some
returns-in-Some c = λ p e.
    let env = env_of c.args.context.now in
    struct_type env c.args.context.now.term.now p c.in-Some.ty c.args.field.0 c.index.result _ c.field_type.result (sym c.in-Some.is ∙ e) c.struct_form.ensures c.index.ensures (c.field_type.ensures env)
