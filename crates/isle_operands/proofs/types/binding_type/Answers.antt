use Rattle.std.proofs.Common.{sym, ap, ◌∙◌}
use Rattle.std.specs.Prelude.{slice_get}
use Rattle.isle_core.specs.Path.{path_over}
use Rattle.isle_simulation.specs.References.{type_at}
use Rattle.isle_operands.specs.Contexts.{env_of}
use Rattle.isle_operands.specs.ConstTypes.{type_in}
use Rattle.isle_core.proofs.Got.{got}
use Rattle.isle_operands.proofs.types.binding_type.Goals as goal

pub returns-in-ConstPrim : goal.returns-in-ConstPrim
returns-in-ConstPrim c = λ ps e f.
    c.of.ensures
    ∙ ap (λ cs. type_in cs c.in-ConstPrim.val.0) c.requires
    ∙ ap (λ b. type_at (env_of c.args.context.now) c.args.context.now.term.now (path_over ps b)) (sym c.in-ConstPrim.is)

pub returns-in-Argument : goal.returns-in-Argument
returns-in-Argument c = λ ps e f.
    let h = c.get.ensures.lookup in
    c.copied.ensures
    ∙ got c.as_slice.result.now c.in-Argument.index c.get.result h.1 h.3
    ∙ ap (λ xs. slice_get xs c.in-Argument.index) c.as_slice.ensures
    ∙ ap (λ b. type_at (env_of c.args.context.now) c.args.context.now.term.now (path_over ps b)) (sym c.in-Argument.is)
