use Rattle.std.proofs.Common.{List, subst}
use Rattle.std.specs.Prelude.{IfOk, IfErr}
use Rattle.isle_core.specs.RuleViews.{environment}
use Rattle.isle_ast.specs.declared.tree.Def.{Def}
use Rattle.isle_ast.specs.Views.{defs as seen}
use Rattle.isle_sema.specs.Typing.{TypedOnly, fault, IsUntyped}
use Rattle.isle_sema.proofs.typing.env_from_ast.Goals as goal

pub returns-clause-ok : goal.returns-clause-ok
returns-clause-ok c = subst (λ (ds : List Def). IfOk c.built_env.result (λ envs. TypedOnly (seen ds) (environment envs.0 envs.1))) c.in_ok-found.ensures.declarations c.built_env.ensures.ok

pub returns-clause-err : goal.returns-clause-err
returns-clause-err c = subst (λ (ds : List Def). IfErr c.built_env.result (λ e. IsUntyped (fault (seen ds)) e)) c.in_ok-found.ensures.declarations c.built_env.ensures.err
