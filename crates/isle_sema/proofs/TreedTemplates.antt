-- A template that breaks no row has a tree, if no definition breaks a row of types or of terms.
use Rattle.std.proofs.Common.{◌≡◌, ℕ, Bool, true, false, List, [], ◌∷◌, length, map, Some, refl, sym, ap, ◌∙◌, subst, arith}
use Rattle.std.specs.Prelude.{◌==◌, not, is_some, Contains}
use Rattle.std.specs.List.{list_all, list_any}
use Rattle.std.proofs.lemmas.Bool.{and_from, or_parts, eqb-true, not-false}
use Rattle.std.proofs.lemmas.List.{length-map}
use Rattle.isle_core.specs.declared.TypeId.{TypeId}
use Rattle.isle_core.proofs.Contained.{head_contained, tail_contained}
use Rattle.isle_ast.specs.Tree.{Def}
use Rattle.isle_declarations.specs.Repeats.{repeats}
use Rattle.isle_declarations.specs.Signatures.{Signature, Template, Extracting, ByFunction, ByTemplate, ExtractorDef, extractors}
use Rattle.isle_terms.specs.Scope.{Scope, no_variables, met}
use Rattle.isle_types.specs.TypeRows.{on}
use Rattle.isle_terms.specs.DeclarationRows.{parameters_unfit, template_misfit}
use Rattle.isle_terms.specs.TypeNames.{type_named}
use Rattle.isle_terms.specs.Whole.{Whole, whole_of, declared, termed, arg_types, ret_type}
use Rattle.isle_sema.specs.PatternPass.{pattern_pass}
use Rattle.isle_sema.specs.Taken.{is_misbuilt}
use Rattle.isle_sema.specs.Templates.{params_met, parameters, template_pass, is_treed, has_tree, are_treed}
use Rattle.isle_sema.proofs.ExtractorLaws.{IsWellBuilt, well_built}
use Rattle.isle_sema.proofs.NamedExtractors.{fails_at}
use Rattle.isle_sema.proofs.TermFaults.{TermParts}
use Rattle.isle_sema.proofs.TreedPatterns.{AreTypedIn, none_typed, met_typed, pattern_treed}
use Rattle.isle_sema.proofs.TypedPatterns.{AreTakenWell}
use Rattle.isle_sema.proofs.DeclaredWell.{AreDeclaredWell, declarations_kept, knows_types, declared_term}

-- each parameter has a type if there are as many
params_typed : (scope : Scope) (params : List (List ℕ)) (tys : List TypeId) → length params ≡ length tys → AreTypedIn scope → AreTypedIn (params_met scope params (map Some tys))
params_typed scope [] tys long h = h
params_typed scope (param ∷ params) [] long h = absurd (omega (arith, long))
params_typed scope (param ∷ params) (ty ∷ tys) long h = params_typed (met scope param (Some ty)) params tys (omega (arith, long)) (met_typed scope param ty h)

-- a template whose parts break no row has a tree
template_treed : (defs : List Def) (term : List ℕ) (t : Template) → AreDeclaredWell defs → not (is_some (declared (whole_of defs) term)) ≡ false → parameters_unfit (whole_of defs) term (ByTemplate t) ≡ false
    → AreTakenWell (whole_of defs) (template_pass (whole_of defs) term t).sites → is_some (template_pass (whole_of defs) term t).tree ≡ true
template_treed defs term t d known unfit well =
    let w = whole_of defs in
    let s = declared_term defs term d known in
    let is = (knows_types defs d).typed term s.signature s.there in
    let p = or_parts (on (declared w term) (λ (x : Signature). not (length t.params == length x.args))) (repeats t.params) unfit in
    let differs : not (length t.params == length s.signature.args) ≡ false = ap (λ o. on o (λ (x : Signature). not (length t.params == length x.args))) (sym s.by_name) ∙ p.0 in
    let many = eqb-true (length t.params) (length s.signature.args) (not-false (length t.params == length s.signature.args) differs) in
    let long : length t.params ≡ length is.args = many ∙ sym (length-map s.signature.args (type_named defs)) ∙ ap length is.args_are ∙ length-map is.args Some in
    let types : arg_types w (termed w term) ≡ map Some is.args = ap (arg_types w) s.there ∙ is.args_are in
    let ret : ret_type w (termed w term) ≡ Some is.ret = ap (ret_type w) s.there ∙ is.ret_is in
    let scope = parameters w term t.params in
    let typed : AreTypedIn scope = subst (λ tys. AreTypedIn (params_met no_variables t.params tys)) (sym types) (params_typed no_variables t.params is.args long none_typed) in
    let k = pattern_treed w is.ret scope t.pattern (knows_types defs d) typed (subst (λ o. AreTakenWell w (pattern_pass w o scope t.pattern).sites) ret well) in
    ap (λ o. is_some (pattern_pass w o scope t.pattern).tree) ret ∙ ap is_some k.is

-- an extractor that breaks no row has a tree, if it has a template
pub extractor_treed : (defs : List Def) (x : ExtractorDef) → AreDeclaredWell defs → Contains (extractors defs) x → is_misbuilt (whole_of defs) x ≡ false → has_tree (whole_of defs) x ≡ true
extractor_treed defs x d c h = by x.by refl
  where
    w : Whole
    w = whole_of defs

    kept : TermParts defs [] defs
    kept = declarations_kept defs d

    by : (how : Extracting) → x.by ≡ how → is_treed w x.term how ≡ true
    by (ByFunction func infallible) e = refl
    by (ByTemplate t) e =
        let known = fails_at (λ (y : ExtractorDef). not (is_some (declared w y.term))) (extractors defs) x kept.extracted c in
        let unfit = subst (λ how. parameters_unfit w x.term how ≡ false) e (fails_at (template_misfit w) (extractors defs) x kept.fitted c) in
        template_treed defs x.term t d known unfit (subst (λ how. IsWellBuilt w x.term how) e (well_built w x h)).well

-- what holds of each holds of all
hold_all : {X : Type 0} (test : X → Bool) (xs : List X) → ((x : X) → Contains xs x → test x ≡ true) → list_all test xs ≡ true
hold_all test [] h = refl
hold_all test (x ∷ xs) h = and_from (test x) (list_all test xs) (h x (head_contained x xs)) (hold_all test xs (λ y c. h y (tail_contained x xs y c)))

-- so have all, if none breaks a row
pub all_treed : (defs : List Def) → AreDeclaredWell defs → list_any (is_misbuilt (whole_of defs)) (extractors defs) ≡ false → are_treed (whole_of defs) ≡ true
all_treed defs d h = hold_all (has_tree (whole_of defs)) (extractors defs) (λ x c. extractor_treed defs x d c (fails_at (is_misbuilt (whole_of defs)) (extractors defs) x h c))
