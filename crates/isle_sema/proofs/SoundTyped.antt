-- Definitions without a fault give an environment.
use Rattle.std.proofs.Common.{◌≡◌, ℕ, ◌+◌, true, false, cond, List, [], ◌∷◌, Some, None, refl, ap, ◌∙◌}
use Rattle.std.specs.Prelude.{Contains, option_map, option_and_then}
use Rattle.std.specs.List.{list_any}
use Rattle.std.proofs.lemmas.Bool.{or_parts}
use Rattle.isle_core.specs.declared.TermId.{TermId}
use Rattle.isle_core.specs.declared.TypeId.{TypeId}
use Rattle.isle_core.specs.Rule.{Rule}
use Rattle.isle_core.proofs.Contained.{head_contained, tail_contained}
use Rattle.isle_ast.specs.Tree.{Def}
use Rattle.isle_declarations.specs.Signatures.{RuleDef, rule_defs}
use Rattle.isle_declarations.specs.Terms.{terms}
use Rattle.isle_templates.specs.Elaborated.{elaborated}
use Rattle.isle_terms.specs.TermPass.{terms_pass}
use Rattle.isle_terms.specs.Whole.{whole_of}
use Rattle.isle_terms.proofs.MadeTerms.{before_both}
use Rattle.isle_sema.specs.Environment.{env_over, env_with}
use Rattle.isle_sema.specs.Fault.{OfTypes, OfTerms, OfExtractors, OfRules, or_later, fault_in, later_fault}
use Rattle.isle_sema.specs.RulePass.{rule_pass, rules_pass}
use Rattle.isle_sema.specs.Taken.{row_of}
use Rattle.isle_sema.specs.Templates.{templates, are_treed}
use Rattle.isle_sema.specs.Typing.{fault, SomeTyped}
use Rattle.isle_sema.proofs.DeclaredWell.{AreDeclaredWell, terms_made}
use Rattle.isle_sema.proofs.ExtractorLaws.{kept_in}
use Rattle.isle_sema.proofs.Firsts.{stages_none}
use Rattle.isle_sema.proofs.MadeConverters.{converters_made}
use Rattle.isle_sema.proofs.RuleLaws.{is_broken, none_fault, none_is}
use Rattle.isle_sema.proofs.TreedRules.{rule_treed}
use Rattle.isle_sema.proofs.TreedTemplates.{all_treed}

-- rules among those of definitions, of which none breaks a row, have trees
rules_made : (defs : List Def) (i : ℕ) (rules : List RuleDef) → AreDeclaredWell defs → ((r : RuleDef) → Contains rules r → Contains (rule_defs defs) r) → list_any (is_broken (whole_of defs)) rules ≡ false
    → (xs : List Rule) × (rules_pass (whole_of defs) i rules ≡ Some xs)
rules_made defs i [] d among h = ([], refl)
rules_made defs i (r ∷ rules) d among h =
    let w = whole_of defs in
    let k = or_parts (is_broken w r) (list_any (is_broken w) rules) h in
    let written = rule_treed defs i r d (among r (head_contained r rules)) (none_is (row_of w r) k.0) in
    let first = elaborated (templates w) written.0 in
    let rest = rules_made defs (i + 1) rules d (λ x c. among x (tail_contained r rules x c)) k.1 in
    (first ∷ rest.0, before_both (rule_pass w i r) (rules_pass w (i + 1) rules) first rest.0 (ap (option_map (elaborated (templates w))) written.1) rest.1)

-- definitions without a fault give an environment
pub sound_typed : (defs : List Def) → fault defs ≡ None → SomeTyped defs
sound_typed defs sound =
    let w = whole_of defs in
    let types = stages_none (fault_in OfTypes w) (or_later (fault_in OfTerms w) (later_fault w)) sound in
    let declared = stages_none (fault_in OfTerms w) (later_fault w) types.1 in
    let later = stages_none (fault_in OfExtractors w) (fault_in OfRules w) declared.1 in
    let d : AreDeclaredWell defs = record { types = types.0; terms = declared.0 } in
    let ts = terms_made defs d in
    let cs = converters_made defs d in
    let rs = rules_made defs 0 (rule_defs defs) d (λ r c. c) (none_fault w [] defs later.1) in
    let treed : are_treed w ≡ true = all_treed defs d (kept_in w [] defs later.0).built in (
      env_over w.types ts.0 cs.0 rs.0,
      record {
        sound = sound;
        given =
            ap (λ b. cond b (option_and_then (env_with w) (terms_pass w (terms defs))) None) treed
            ∙ ap (option_and_then (env_with w)) ts.1
            ∙ ap (option_and_then (λ (found : List (TypeId × TypeId × TermId)). option_map (env_over w.types ts.0 found) (rules_pass w 0 (rule_defs defs)))) cs.1
            ∙ ap (option_map (env_over w.types ts.0 cs.0)) rs.1;
      },
    )
