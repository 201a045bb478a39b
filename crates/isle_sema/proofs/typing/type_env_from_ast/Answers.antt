use Rattle.std.proofs.Common.{List, subst}
use Rattle.std.specs.Prelude.{IfOk, IfErr}
use Rattle.isle_ast.specs.declared.tree.Def.{Def}
use Rattle.isle_ast.specs.Views.{defs as seen}
use Rattle.isle_types.specs.Fault.{type_fault}
use Rattle.isle_sema.specs.Typing.{TypesFrom, IsUntyped}
use Rattle.isle_sema.proofs.typing.type_env_from_ast.Goals as goal

pub returns-clause-ok : goal.returns-clause-ok
returns-clause-ok c = subst (λ (ds : List Def). IfOk c.built_types.result (λ env. TypesFrom (seen ds) env)) c.in_ok-found.ensures.declarations c.built_types.ensures.ok

pub returns-clause-err : goal.returns-clause-err
returns-clause-err c = subst (λ (ds : List Def). IfErr c.built_types.result (λ e. IsUntyped (type_fault (seen ds)) e)) c.in_ok-found.ensures.declarations c.built_types.ensures.err
