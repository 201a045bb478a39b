-- The parts of what typed definitions are, and what their environment is.
use Rattle.std.proofs.Common.{◌≡◌, Bool, true, false, cond, List, Option, Some, None, refl, sym, ap, ◌∙◌}
use Rattle.std.specs.Prelude.{option_map, option_and_then}
use Rattle.std.proofs.lemmas.Option.{same_Some}
use Rattle.isle_core.specs.declared.TermId.{TermId}
use Rattle.isle_core.specs.declared.TypeId.{TypeId}
use Rattle.isle_core.specs.declared.types.Term.{Term}
use Rattle.isle_core.specs.Rule.{Rule, Environment}
use Rattle.isle_ast.specs.Tree.{Def}
use Rattle.isle_declarations.specs.Signatures.{rule_defs}
use Rattle.isle_declarations.specs.Terms.{terms}
use Rattle.isle_types.specs.TypeEnvironment.{type_env_of}
use Rattle.isle_types.specs.Fault.{type_fault}
use Rattle.isle_sema.specs.Templates.{are_treed}
use Rattle.isle_sema.specs.RulePass.{rules_pass}
use Rattle.isle_sema.specs.Fault.{OfTypes, OfTerms, OfExtractors, OfRules, or_later, fault_in}
use Rattle.isle_terms.specs.Converters.{converters, converters_pass}
use Rattle.isle_terms.specs.Whole.{Whole, whole_of}
use Rattle.isle_terms.specs.TermPass.{terms_pass}
use Rattle.isle_sema.specs.Environment.{env_over, env_with}
use Rattle.isle_sema.specs.Typing.{Typed}
use Rattle.isle_sema.proofs.Firsts.{stages_none}

-- what typed definitions keep, and what their environment has
pub record IsGivenIn (defs : List Def) (env : Environment) : Type 0 where
  pub types_kept : fault_in OfTypes (whole_of defs) ≡ None
  pub terms_kept : fault_in OfTerms (whole_of defs) ≡ None
  pub extractors_kept : fault_in OfExtractors (whole_of defs) ≡ None
  pub rules_kept : fault_in OfRules (whole_of defs) ≡ None
  pub treed : are_treed (whole_of defs) ≡ true
  pub types : env.types ≡ type_env_of defs
  pub terms : terms_pass (whole_of defs) (terms defs) ≡ Some env.terms
  pub converters : converters_pass (whole_of defs) (converters defs) ≡ Some env.converters
  pub rules : rules_pass (whole_of defs) 0 (rule_defs defs) ≡ Some env.rules

-- what an environment is made of
record AreParts (w : Whole) (ts : Option (List Term)) (env : Environment) : Type 0 where
  types : env.types ≡ w.types
  terms : ts ≡ Some env.terms
  converters : converters_pass w (converters w.defs) ≡ Some env.converters
  rules : rules_pass w 0 (rule_defs w.defs) ≡ Some env.rules

env_parts : (w : Whole) (ts : Option (List Term)) (env : Environment) → option_and_then (env_with w) ts ≡ Some env → AreParts w ts env
env_parts w None env h = absurd cc
env_parts w (Some ts) env h = by (converters_pass w (converters w.defs)) (rules_pass w 0 (rule_defs w.defs)) refl refl h
  where
    by : (cs : Option (List (TypeId × TypeId × TermId))) (rs : Option (List Rule)) → converters_pass w (converters w.defs) ≡ cs → rules_pass w 0 (rule_defs w.defs) ≡ rs
        → option_and_then (λ (found : List (TypeId × TypeId × TermId)). option_map (env_over w.types ts found) rs) cs ≡ Some env → AreParts w (Some ts) env
    by None rs c r k = absurd cc
    by (Some cs) None c r k = absurd cc
    by (Some cs) (Some rs) c r k =
        let is = same_Some (env_over w.types ts cs rs) env k in
        record { types = ap (λ (e : Environment). e.types) (sym is); terms = ap (λ (e : Environment). Some e.terms) is; converters = c ∙ ap (λ (e : Environment). Some e.converters) is; rules = r ∙ ap (λ (e : Environment). Some e.rules) is }

guarded : {X : Type 0} (b : Bool) (o : Option X) (x : X) → cond b o None ≡ Some x → (b ≡ true) × (o ≡ Some x)
guarded true o x h = (refl, h)
guarded false o x h = absurd cc

pub given_in : {defs : List Def} {env : Environment} → Typed defs env → IsGivenIn defs env
given_in {defs = defs} {env = env} t =
    let w = whole_of defs in
    let s = stages_none (fault_in OfTypes w) (or_later (fault_in OfTerms w) (or_later (fault_in OfExtractors w) (fault_in OfRules w))) t.sound in
    let u = stages_none (fault_in OfTerms w) (or_later (fault_in OfExtractors w) (fault_in OfRules w)) s.1 in
    let v = stages_none (fault_in OfExtractors w) (fault_in OfRules w) u.1 in
    let d = guarded (are_treed w) (option_and_then (env_with w) (terms_pass w (terms defs))) env t.given in
    let e = env_parts w (terms_pass w (terms defs)) env d.1 in
    record {
      types_kept = s.0;
      terms_kept = u.0;
      extractors_kept = v.0;
      rules_kept = v.1;
      treed = d.0;
      types = e.types;
      terms = e.terms;
      converters = e.converters;
      rules = e.rules;
    }

-- typed definitions have no fault of types and constants
pub typed_types_sound : {defs : List Def} {env : Environment} → Typed defs env → type_fault defs ≡ None
typed_types_sound t = (given_in t).types_kept
