use Rattle.std.proofs.Common.{List, subst, ap, sym, ◌∙◌}
use Rattle.std.specs.Prelude.{IfOk, IfErr}
use Rattle.isle_core.specs.RuleViews.{environment}
use Rattle.isle_ast.specs.declared.tree.Def.{Def}
use Rattle.isle_ast.specs.Views.{defs as seen}
use Rattle.isle_types.specs.TypeEnvironment.{type_env_of}
use Rattle.isle_sema.specs.Typing.{TypedOnly, fault, IsUntyped}
use Rattle.isle_sema.proofs.typing.term_env_from_ast.Goals as goal

pub returns-clause-ok : goal.returns-clause-ok
returns-clause-ok c = subst (λ (ds : List Def). IfOk c.term_env.result (λ terms. TypedOnly (seen ds) (environment c.args.env.now terms))) c.in_ok-found.ensures.declarations c.term_env.ensures.ok

pub returns-clause-err : goal.returns-clause-err
returns-clause-err c = subst (λ (ds : List Def). IfErr c.term_env.result (λ e. IsUntyped (fault (seen ds)) e)) c.in_ok-found.ensures.declarations c.term_env.ensures.err

pub term_env-requires-clause-types : goal.term_env-requires-clause-types
term_env-requires-clause-types c = c.requires.given ∙ ap (λ (ds : List Def). type_env_of (seen ds)) (sym c.in_ok-found.ensures.declarations)
