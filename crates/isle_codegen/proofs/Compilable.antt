-- What emission asks of the names of an environment.
use Rattle.std.proofs.Common.{◌≡◌, Bool, true}
use Rattle.std.specs.Prelude.{List}
use Rattle.std.specs.List.{list_all}
use Rattle.isle_core.specs.declared.TermId.{TermId}
use Rattle.isle_core.specs.Rule.{Environment}
use Rattle.isle_core.specs.Terms.{with_rules, term_name}
use Rattle.isle_ast.specs.Tree.{Def}
use Rattle.isle_sema.specs.Typing.{Typed}
use Rattle.isle_lawful_names.specs.Claims.{is_ruled}
use Rattle.isle_lawful_names.specs.Words.{is_term_name}
use Rattle.isle_lawful_names.specs.LawfulNames.{AreLawful}
use Rattle.isle_simulation.specs.TraitFns.{HasFnNames}

-- the names of the terms with rules may be emitted
abbrev pub are_term_names : Environment → Bool
are_term_names env = list_all (λ (id : TermId). is_term_name (term_name env id)) (with_rules env)

-- the definitions have no fault, and the names of their terms, external functions, types and constants may be emitted
pub record IsCompilable (defs : List Def) (env : Environment) : Type 0 where
  pub typed : Typed defs env
  pub names : are_term_names env ≡ true
  pub fns : HasFnNames env
  pub lawful : AreLawful (is_ruled env.rules) env.types
