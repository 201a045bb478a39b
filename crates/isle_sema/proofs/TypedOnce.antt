-- Definitions give at most one environment.
use Rattle.std.proofs.Common.{◌≡◌, List, sym, ◌∙◌}
use Rattle.std.proofs.lemmas.Option.{same_Some}
use Rattle.isle_core.specs.Rule.{Environment}
use Rattle.isle_ast.specs.Tree.{Def}
use Rattle.isle_sema.specs.Typing.{Typed, TypedOnly}

-- two environments of one list are one
pub typed_once : {ds : List Def} {a b : Environment} → Typed ds a → Typed ds b → b ≡ a
typed_once {a = a} {b = b} s t = same_Some b a (sym t.given ∙ s.given)

-- the environment that is given is the only one
pub typed_only : {ds : List Def} {env : Environment} → Typed ds env → TypedOnly ds env
typed_only t = record { typed = t; only = λ other o. typed_once t o }
