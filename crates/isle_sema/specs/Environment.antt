-- The environment that definitions give.
use Rattle.std.specs.Prelude.{List, Option, None, option_map, option_and_then, if◌then◌else◌}
use Rattle.isle_core.specs.declared.TermId.{TermId}
use Rattle.isle_core.specs.declared.TypeId.{TypeId}
use Rattle.isle_core.specs.declared.types.Term.{Term}
use Rattle.isle_core.specs.declared.types.TypeEnv.{TypeEnv}
use Rattle.isle_core.specs.Rule.{Rule as CoreRule, Environment}
use Rattle.isle_ast.specs.Tree.{Def}
use Rattle.isle_declarations.specs.Signatures.{rule_defs}
use Rattle.isle_declarations.specs.Terms.{terms}
use Rattle.isle_terms.specs.Converters.{converters, converters_pass}
use Rattle.isle_terms.specs.TermPass.{terms_pass}
use Rattle.isle_terms.specs.Whole.{Whole, whole_of}
use Rattle.isle_sema.specs.RulePass.{rules_pass}
use Rattle.isle_sema.specs.Templates.{are_treed}

-- types, terms, converters and rules
abbrev pub env_over : TypeEnv → List Term → List (TypeId × TypeId × TermId) → List CoreRule → Environment
env_over types terms converters rules = record { types = types; terms = terms; rules = rules; converters = converters }

-- the environment over these terms, if converters and rules are known
abbrev pub env_with : Whole → List Term → Option Environment
env_with w typed = option_and_then (λ (cs : List (TypeId × TypeId × TermId)). option_map (env_over w.types typed cs) (rules_pass w 0 (rule_defs w.defs))) (converters_pass w (converters w.defs))

-- the environment of definitions, if their types are known and their templates and rules have trees
abbrev pub env_of : List Def → Option Environment
env_of defs = if are_treed (whole_of defs) then option_and_then (env_with (whole_of defs)) (terms_pass (whole_of defs) (terms defs)) else None
