-- What is known of definitions whose types, constants and terms have no fault.
use Rattle.std.specs.Prelude.{◌≡◌, List, Some, None}
use Rattle.isle_core.specs.declared.types.Term.{Term}
use Rattle.isle_core.specs.declared.types.TypeEnv.{TypeEnv}
use Rattle.isle_ast.specs.declared.tree.Def.{Def as CodeDef}
use Rattle.isle_ast.specs.Views.{defs as seen}
use Rattle.isle_declarations.specs.declared.terms.Terms.{Terms}
use Rattle.isle_declarations.specs.Terms.{terms}
use Rattle.isle_declarations.specs.TermViews.{AreTerms}
use Rattle.isle_types.specs.declared.before.Before.{Before}
use Rattle.isle_types.specs.Fault.{type_fault}
use Rattle.isle_types.specs.Gathered.{IsBefore}
use Rattle.isle_types.specs.TypeEnvironment.{type_env_of}
use Rattle.isle_terms.specs.declared.converters.Converters.{Converters}
use Rattle.isle_terms.specs.Converters.{converters}
use Rattle.isle_terms.specs.ConverterViews.{AreFound}
use Rattle.isle_terms.specs.TermFault.{term_fault}
use Rattle.isle_terms.specs.TermPass.{terms_pass}
use Rattle.isle_terms.specs.Whole.{whole}

-- the names of types and constants, the types and constants, the terms of definitions, with their types, and their converters; no
-- type, no constant and no term is wrong
pub record AreKnown (ds : List CodeDef) (names : Before) (given : TypeEnv) (found : Terms) (typed_terms : List Term) (by : Converters) : Type 0 where
  pub before : IsBefore (seen ds) names
  pub types : given ≡ type_env_of (seen ds)
  pub termed : AreTerms (seen ds) found
  pub typed : terms_pass (whole ds) (terms (seen ds)) ≡ Some typed_terms
  pub converted : AreFound (seen ds) (converters (seen ds)) by
  pub sound : type_fault (seen ds) ≡ None
  pub declared : term_fault (whole ds) ≡ None
