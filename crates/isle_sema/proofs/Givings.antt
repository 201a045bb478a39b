-- The environment of definitions that no test refuses.
use Rattle.std.proofs.Common.{◌≡◌, true, cond, List, [], map, Option, Some, None, sym, ap, ◌∙◌, subst}
use Rattle.std.specs.Prelude.{option_map, option_and_then}
use Rattle.isle_core.specs.declared.TermId.{TermId}
use Rattle.isle_core.specs.declared.TypeId.{TypeId}
use Rattle.isle_core.specs.declared.types.TermEnv.{TermEnv}
use Rattle.isle_core.specs.RuleViews.{rule as elaborated_rule, environment}
use Rattle.isle_ast.specs.Tree.{Def}
use Rattle.isle_declarations.specs.Signatures.{rule_defs}
use Rattle.isle_declarations.specs.Terms.{terms}
use Rattle.isle_core.specs.declared.position.Pos.{Pos}
use Rattle.isle_types.specs.declared.row.Row.{Row}
use Rattle.isle_types.specs.Fault.{type_fault}
use Rattle.isle_types.specs.TypeEnvironment.{type_env_of}
use Rattle.isle_terms.specs.Converters.{converters}
use Rattle.isle_terms.specs.ConverterViews.{taken_converters}
use Rattle.isle_terms.proofs.ConverterLaws.{converters_are}
use Rattle.isle_sema.specs.RulePass.{rules_pass}
use Rattle.isle_sema.specs.Fault.{OfTypes, OfTerms, or_later, fault_in, later_fault}
use Rattle.isle_terms.specs.TermFault.{term_fault}
use Rattle.isle_terms.specs.Whole.{whole_of}
use Rattle.isle_sema.specs.Environment.{env_over, env_with}
use Rattle.isle_terms.specs.TermPass.{terms_pass}
use Rattle.isle_core.specs.declared.types.TypeEnv.{TypeEnv}
use Rattle.isle_core.specs.declared.errors.Error.{Error}
use Rattle.isle_types.specs.Gathered.{TellsFault, TellsTyping}
use Rattle.isle_sema.specs.Typing.{Typed, TypedOnly, fault}
use Rattle.isle_sema.proofs.TypedOnce.{typed_only}
use Rattle.isle_sema.specs.Templates.{are_treed}
use Rattle.isle_sema.proofs.Firsts.{none_stages}
use Rattle.isle_sema.proofs.DeclaredWell.{terms_made}

-- ---- faults

-- what is known of the last stages is told of all, after none of the first two
pub told_last : (ds : List Def) (e : Error) (f : Row × Pos) → type_fault ds ≡ None → term_fault (whole_of ds) ≡ None → later_fault (whole_of ds) ≡ Some f → TellsFault f e → TellsTyping (fault ds) (Some e)
told_last ds e f types declared later told =
    let w = whole_of ds in
    let is : fault ds ≡ Some f = ap (λ o. or_later o (or_later (term_fault w) (later_fault w))) types ∙ ap (λ o. or_later o (later_fault w)) declared ∙ later in
    subst (λ o. TellsTyping o (Some e)) (sym is) told

-- an error that reports the fault of the second, after none of the first
pub told_behind : (ds : List Def) (e : Error) → type_fault ds ≡ None → TellsTyping (term_fault (whole_of ds)) (Some e) → TellsTyping (fault ds) (Some e)
told_behind ds e types told = subst (λ o. TellsTyping (or_later o (or_later (term_fault (whole_of ds)) (later_fault (whole_of ds)))) (Some e)) (sym types) (before (term_fault (whole_of ds)) told)
  where
    before : (o : Option (Row × Pos)) → TellsTyping o (Some e) → TellsTyping (or_later o (later_fault (whole_of ds))) (Some e)
    before None k = absurd k
    before (Some f) k = k

-- definitions without faults of types and terms have all their terms
pub unmade : (ds : List Def) → type_fault ds ≡ None → term_fault (whole_of ds) ≡ None → None ≡ terms_pass (whole_of ds) (terms ds) → ⊥
unmade ds types declared none =
    let made = terms_made ds (record { types = types; terms = declared }) in
    let bad : None ≡ Some made.0 = none ∙ made.1 in
    cc

-- ---- the environment

-- definitions that no test refuses give what is made of them
pub given_typed : (ds : List Def) (t : TermEnv) → type_fault ds ≡ None → term_fault (whole_of ds) ≡ None → terms_pass (whole_of ds) (terms ds) ≡ Some t.terms
    → later_fault (whole_of ds) ≡ None → are_treed (whole_of ds) ≡ true → rules_pass (whole_of ds) 0 (rule_defs ds) ≡ Some (map elaborated_rule t.rules) → taken_converters (whole_of ds) [] (converters ds) ≡ Some t.converters → Typed ds (environment (type_env_of ds) t)
given_typed ds t types declared given sound treed rules converting =
    let w = whole_of ds in
    let c = converters_are w [] (converters ds) t.converters converting in
    record {
      sound = none_stages (fault_in OfTypes w) (or_later (fault_in OfTerms w) (later_fault w)) types (none_stages (fault_in OfTerms w) (later_fault w) declared sound);
      given =
          ap (λ b. cond b (option_and_then (env_with w) (terms_pass w (terms ds))) None) treed
          ∙ ap (option_and_then (env_with w)) given
          ∙ ap (λ o. option_and_then (λ (cs : List (TypeId × TypeId × TermId)). option_map (env_over (type_env_of ds) t.terms cs) (rules_pass w 0 (rule_defs ds))) o) c.1
          ∙ ap (option_map (env_over (type_env_of ds) t.terms t.converters)) rules;
    }

-- terms over the types of definitions
pub over_types : {ds : List Def} {types : TypeEnv} (t : TermEnv) → types ≡ type_env_of ds → Typed ds (environment (type_env_of ds) t) → TypedOnly ds (environment types t)
over_types {ds = ds} t is typed = typed_only (subst (λ (ts : TypeEnv). Typed ds (environment ts t)) (sym is) typed)
