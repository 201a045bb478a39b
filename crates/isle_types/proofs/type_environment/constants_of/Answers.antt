use Rattle.std.proofs.Common.{◌++◌, ap, sym, ◌∙◌, map, take}
use Rattle.std.specs.Prelude.{option_to_list}
use Rattle.isle_ast.specs.Views.{defs as seen}
use Rattle.isle_declarations.specs.DeclaredTypes.{constant_of, constants}
use Rattle.isle_types.specs.TypeEnvironment.{constant_in}
use Rattle.isle_types.proofs.TypeSteps.{made_more}
use Rattle.isle_types.proofs.type_environment.constants_of.Goals as goal

pub loop-given-preserved : goal.loop-given-preserved
loop-given-preserved c =
    let defs = seen c.args.names.now.declarations.now in
    c.in_ok-push_some.ensures ∙ ap (λ xs. xs ++ option_to_list c.constant_in.result) c.loop-given.invariant
    ∙ ap (λ o. map (constant_in defs) (constants (seen (take c.loop-given.given-index c.args.defs.now))) ++ option_to_list o) c.constant_in.ensures
    ∙ sym (made_more constant_of (constant_in defs) c.args.defs.now c.loop-given.given-index c.given-item.result _ c.loop-given-test.true c.given-item.is)
