-- The definitions of a sample have no fault, and give its environment.
use Rattle.std.proofs.Common.{◌≡◌, ℕ, true, cond, List, [], Some, None, refl, ap, ◌∙◌}
use Rattle.std.specs.Prelude.{option_map, option_and_then}
use Rattle.std.specs.List.{list_all}
use Rattle.isle_core.specs.declared.TermId.{TermId}
use Rattle.isle_core.specs.declared.TypeId.{TypeId}
use Rattle.isle_core.specs.Rule.{Environment}
use Rattle.isle_ast.specs.Tree.{Def}
use Rattle.isle_declarations.specs.Heads.{terms_of}
use Rattle.isle_declarations.specs.Signatures.{Signature, rule_defs}
use Rattle.isle_declarations.specs.Symbols.{index_of, symbols}
use Rattle.isle_declarations.specs.Terms.{terms}
use Rattle.isle_types.specs.TypeEnvironment.{type_env_of}
use Rattle.isle_terms.specs.Converters.{Conversion, converters_pass}
use Rattle.isle_terms.specs.TermPass.{terms_pass}
use Rattle.isle_terms.specs.Whole.{whole_of}
use Rattle.isle_sema.specs.Environment.{env_over, env_with, env_of}
use Rattle.isle_sema.specs.Fault.{OfTypes, OfTerms, OfExtractors, OfRules, or_later, fault_in, later_fault}
use Rattle.isle_sema.specs.RulePass.{rules_pass}
use Rattle.isle_sema.specs.Templates.{has_tree, are_treed}
use Rattle.isle_sema.specs.Typing.{fault, Typed, TypedOnly}
use Rattle.isle_sema.proofs.Firsts.{none_stages}
use Rattle.isle_sema.proofs.TypedOnce.{typed_only}
use Rattle.isle_sample.specs.Sample.{term_name}
use Rattle.isle_sample.proofs.SampleLines.{lines, defs_at}
use Rattle.isle_sample.proofs.SampleEnvironment.{terms_at, rules_at, IsSampleEnvironment}
use Rattle.isle_sample.proofs.TypedLines.{lines_typed}
use Rattle.isle_sample.proofs.TypedWhole.{sample_whole}
use Rattle.isle_sample.proofs.TypedTerms.{terms_made, declared_stands}
use Rattle.isle_sample.proofs.TypedRules.{rules_made}
use Rattle.isle_sample.proofs.TypedFaults.{types_sound, extractors_sound, terms_sound, rules_sound}

-- the definitions of the sample of so many terms
abbrev pub sample_defs : ℕ → List Def
sample_defs n = defs_at 0 (lines n)

-- they have no fault
pub sample_sound : (n : ℕ) → fault (defs_at 0 (lines n)) ≡ None
sample_sound n =
    let w = whole_of (sample_defs n) in
    let h = sample_whole n in
    let t = lines_typed n in
    none_stages (fault_in OfTypes w) (or_later (fault_in OfTerms w) (later_fault w)) (types_sound w [] 0 (lines n))
    (none_stages (fault_in OfTerms w) (later_fault w) (terms_sound n 0 w [] 0 (lines n) h t (λ j le. refl))
    (none_stages (fault_in OfExtractors w) (fault_in OfRules w) (extractors_sound w [] 0 (lines n)) (rules_sound n 0 w [] 0 (lines n) h t)))

-- the environment that they give
abbrev pub sample_env : ℕ → Environment
sample_env n = env_over (type_env_of (sample_defs n)) (terms_at (symbols (sample_defs n)) 0 (lines n)) [] (rules_at 0 0 (lines n))

-- they give it
pub sample_given : (n : ℕ) → env_of (defs_at 0 (lines n)) ≡ Some (sample_env n)
sample_given n =
    let defs = sample_defs n in
    let w = whole_of defs in
    let h = sample_whole n in
    let t = lines_typed n in
    let ts = terms_at (symbols defs) 0 (lines n) in
    let treed : are_treed w ≡ true = ap (list_all (has_tree w)) h.untaken in
    ap (λ b. cond b (option_and_then (env_with w) (terms_pass w (terms defs))) None) treed
    ∙ ap (option_and_then (env_with w)) (terms_made n 0 w 0 (lines n) h t)
    ∙ ap (λ (cs : List Conversion). option_and_then (λ (found : List (TypeId × TypeId × TermId)). option_map (env_over w.types ts found) (rules_pass w 0 (rule_defs defs))) (converters_pass w cs)) h.unconverted
    ∙ ap (option_map (env_over w.types ts [])) (rules_made n 0 w 0 0 (lines n) h t)

-- this is an environment of the sample
pub sample_is : (n : ℕ) → IsSampleEnvironment n (sample_env n)
sample_is n =
    let defs = sample_defs n in
    let h = sample_whole n in
    record {
      types = h.kinds;
      consts = h.unnamed;
      named = λ i lt. declared_stands defs (term_name i) i (ap (λ (sigs : List Signature). index_of (terms_of sigs) (term_name i)) h.alike ∙ h.numbered i lt);
      terms = refl;
      rules = refl;
      converters = refl;
    }

-- the definitions have no fault, and give the environment of the sample
pub sample_typed : (n : ℕ) → (env : Environment) × Typed (defs_at 0 (lines n)) env × IsSampleEnvironment n env
sample_typed n = (sample_env n, record { sound = sample_sound n; given = sample_given n }, sample_is n)

-- they give no other
pub sample_typed_only : (n : ℕ) → (env : Environment) × TypedOnly (defs_at 0 (lines n)) env × IsSampleEnvironment n env
sample_typed_only n = (sample_env n, typed_only (record { sound = sample_sound n; given = sample_given n }), sample_is n)
