use Rattle.std.proofs.Common.{◌++◌, ap, sym, ◌∙◌, take}
use Rattle.std.specs.Prelude.{filter_map, option_to_list}
use Rattle.std.proofs.lemmas.List.{append_assoc}
use Rattle.isle_ast.specs.Views.{def, defs as seen}
use Rattle.isle_types.specs.Builtins.{builtins}
use Rattle.isle_types.specs.TypeEnvironment.{type_def_in}
use Rattle.isle_types.proofs.TypeSteps.{some_more}
use Rattle.isle_types.proofs.type_environment.type_defs.Goals as goal

pub loop-given-preserved : goal.loop-given-preserved
loop-given-preserved c =
    let f = type_def_in (seen c.args.names.now.declarations.now) in
    let before = filter_map f (seen (take c.loop-given.given-index c.args.defs.now)) in
    c.in_ok-push_some.ensures ∙ ap (λ xs. xs ++ option_to_list c.in_ok-type_def_of.field-0) c.loop-given.invariant
    ∙ ap (λ o. (builtins ++ before) ++ option_to_list o) c.in_ok-type_def_of.ensures
    ∙ append_assoc builtins before (option_to_list (f (def c.given-item.result)))
    ∙ ap (λ xs. builtins ++ xs) (sym (some_more f c.args.defs.now c.loop-given.given-index c.given-item.result _ c.loop-given-test.true c.given-item.is))
