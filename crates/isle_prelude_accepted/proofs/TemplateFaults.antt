-- The templates of simple definitions have no fault: each has a tree, and none uses another.
use Rattle.std.proofs.Common.{◌≡◌, inl, inr, ℕ, zero, suc, Bool, true, false, cond, List, [], ◌∷◌, ◌++◌, map, length, Option, Some, None, refl, sym, ap, ap₂}
use Rattle.std.proofs.Common.{◌∙◌, subst}
use Rattle.std.specs.Prelude.{is_some, not, ◌||◌, ◌&&◌, ◌==◌}
use Rattle.std.specs.List.{AllByRecursion, list_any, list_all, find}
use Rattle.std.specs.Str.{bytes_eq}
use Rattle.std.proofs.lemmas.Bool.{or_from}
use Rattle.std.proofs.lemmas.Option.{same_Some}
use Rattle.isle_core.specs.declared.TermId.{TermId}
use Rattle.isle_core.specs.declared.position.Pos.{Pos}
use Rattle.isle_ast.specs.Tree.{Def, TypeDecl, Decl, ExternConstructor, ExternExtractor, ExternConst, Extractor, Converter, Rule, Passed, Pattern}
use Rattle.isle_declarations.specs.Signatures.{Signature, ExtractorDef, extractor_of, extractors, extractor_named, term_named}
use Rattle.isle_declarations.specs.Symbols.{index_of}
use Rattle.isle_declarations.specs.Terms.{terms}
use Rattle.isle_types.specs.declared.row.Row.{Row}
use Rattle.isle_types.specs.TypeRows.{on}
use Rattle.isle_terms.specs.NewVariables.{variables_in}
use Rattle.isle_terms.specs.Scope.{Scope, no_variables}
use Rattle.isle_terms.specs.TypeNames.{type_named}
use Rattle.isle_terms.specs.Whole.{whole_of, termed, arg_types, ret_type}
use Rattle.isle_walks.specs.Walks.{next_of, reaches, on_closed_walk}
use Rattle.isle_sema.specs.Breaks.{breaks}
use Rattle.isle_sema.specs.Fault.{OfExtractors, rows_of, broken_in, fault_in}
use Rattle.isle_sema.specs.PatternPass.{pattern_pass}
use Rattle.isle_sema.specs.RuleRows.{is_untaken, is_mistaken, is_misplaced, is_undeclared, is_met_otherwise, sites_in}
use Rattle.isle_sema.specs.Site.{Site}
use Rattle.isle_sema.specs.TemplateRows.{is_unbound}
use Rattle.isle_sema.specs.Templates.{params_met, template_pass, is_treed, has_tree, are_treed}
use Rattle.isle_sema.specs.TemplateUses.{uses_in, used_through, used_of, template_uses}
use Rattle.isle_writing.specs.Erased.{all_erased}
use Rattle.isle_prelude_accepted.proofs.Has.{Has, has_source, same_bytes, place_found}
use Rattle.isle_prelude_accepted.proofs.Simple.{AreSimple, IsSoundTemplate}
use Rattle.isle_prelude_accepted.proofs.Callees.{sound_in, declared_callee, opened}
use Rattle.isle_prelude_accepted.proofs.Parameters.{params_bound}
use Rattle.isle_prelude_accepted.proofs.Splits.{none_broken, none_in, has_middle}
use Rattle.isle_prelude_accepted.proofs.TypedPatterns.{IsGoodPart, IsFit, pattern_fit, none_used}

-- ---- lists

-- what fails for each fails for all
pub any_none : {A : Type 0} (P : A → Type 0) (test : A → Bool) (xs : List A) → ((x : A) → P x → test x ≡ false) → AllByRecursion P xs → list_any test xs ≡ false
any_none P test [] each h = refl
any_none P test (x ∷ xs) each h = or_from (test x) (list_any test xs) (each x h.0) (any_none P test xs each h.1)

all_pass : {A : Type 0} (test : A → Bool) (xs : List A) → ((x : A) → Has xs x → test x ≡ true) → list_all test xs ≡ true
all_pass test [] each = refl
all_pass test (x ∷ xs) each = ap (λ b. b && list_all test xs) (each x (inl refl)) ∙ all_pass test xs (λ y i. each y (inr i))

-- what is found is there, and passes
pub find_is : {A : Type 0} (test : A → Bool) (xs : List A) (x : A) → find test xs ≡ Some x → Has xs x × (test x ≡ true)
find_is test [] x e = absurd cc
find_is {A} test (y ∷ ys) x e = by (test y) refl (find_is test ys x) e
  where
    by : (b : Bool) → test y ≡ b → (find test ys ≡ Some x → Has ys x × (test x ≡ true)) → cond b (Some y) (find test ys) ≡ Some x → Has (y ∷ ys) x × (test x ≡ true)
    by true t rest k = let same = same_Some y x k in (inl same, ap test (sym same) ∙ t)
    by false t rest k = let r = rest k in (inr r.0, r.1)

-- ---- graphs without edges

lead_nowhere : (graph : List (List ℕ)) (n : ℕ) → AllByRecursion (λ us. us ≡ []) graph → next_of graph n ≡ []
lead_nowhere [] zero h = refl
lead_nowhere [] (suc n) h = refl
lead_nowhere (us ∷ graph) zero h = h.0
lead_nowhere (us ∷ graph) (suc n) h = lead_nowhere graph n h.1

no_steps : (graph : List (List ℕ)) (steps from to : ℕ) → AllByRecursion (λ us. us ≡ []) graph → reaches graph steps from to ≡ false
no_steps graph zero from to h = refl
no_steps graph (suc steps) from to h = ap (list_any (λ (next : ℕ). (next == to) || reaches graph steps next to)) (lead_nowhere graph from h)

module _ (defs : List Def) (h : AreSimple (all_erased defs)) where
  -- a template of definitions is sound
  template_sound : (term : List ℕ) (params : List (List ℕ)) (template : Pattern) (at : Pos) → Has defs (Extractor term params template at)
      → IsSoundTemplate (all_erased defs) term params template
  template_sound term params template at i = sound_in defs h (Extractor term params template at) i

  -- a template at its term's type, over its parameters
  template_fit : (term : List ℕ) (params : List (List ℕ)) (template : Pattern) → IsSoundTemplate (all_erased defs) term params template
      → (scope : Scope) × IsFit (whole_of defs) scope (template_pass (whole_of defs) term (record { params = params; pattern = template }))
  template_fit term params template s =
      let w = whole_of defs in
      let c = declared_callee defs h term false false false false s.args s.ret s.declared in
      let scope = params_met no_variables params (map (type_named defs) s.args) in
      let bound = params_bound w no_variables params s.args s.many s.apart (λ name i. refl) in
      let fit = pattern_fit w (all_erased defs) (opened defs h) _ scope bound s.ret template c.1.ret_known s.whole in
      let form : template_pass w term (record { params = params; pattern = template }) ≡ pattern_pass w (type_named defs s.ret) scope template =
      ap (λ (x : Option Signature). pattern_pass w (ret_type w x) (params_met no_variables params (arg_types w x)) template) c.1.there
      ∙ ap₂ (λ (r : List ℕ) (ts : List (List ℕ)). pattern_pass w (type_named defs r) (params_met no_variables params (map (type_named defs) ts)) template) c.1.gives c.1.takes in
      (scope, subst (IsFit w scope) (sym form) fit)

  -- it uses none
  template_unused : (term : List ℕ) (params : List (List ℕ)) (template : Pattern) → IsSoundTemplate (all_erased defs) term params template
      → uses_in (whole_of defs) (ret_type (whole_of defs) (termed (whole_of defs) term)) template ≡ []
  template_unused term params template s =
      let w = whole_of defs in
      let c = declared_callee defs h term false false false false s.args s.ret s.declared in
      let scope = params_met no_variables params (map (type_named defs) s.args) in
      let bound = params_bound w no_variables params s.args s.many s.apart (λ name i. refl) in
      ap (λ (x : Option Signature). uses_in w (ret_type w x) template) c.1.there
      ∙ ap (λ (r : List ℕ). uses_in w (type_named defs r) template) c.1.gives
      ∙ none_used w (all_erased defs) (opened defs h) _ scope bound s.ret template s.whole

  -- ---- no template reaches itself

  used_none : (d : Def) (x : ExtractorDef) → Has defs d → extractor_of d ≡ Some x → used_through (whole_of defs) x.term x.by ≡ []
  used_none (Extractor term params template at) x i e =
      subst (λ (y : ExtractorDef). used_through (whole_of defs) y.term y.by ≡ []) (same_Some _ x e)
      (template_unused term params template (template_sound term params template at i))
  used_none (ExternExtractor term func infallible at) x i e = subst (λ (y : ExtractorDef). used_through (whole_of defs) y.term y.by ≡ []) (same_Some _ x e) refl
  used_none (TypeDecl name is_extern is_nodebug body at) x i e = absurd cc
  used_none (Decl term pure multi partial recursive args ret at) x i e = absurd cc
  used_none (ExternConstructor term func at) x i e = absurd cc
  used_none (ExternConst name ty at) x i e = absurd cc
  used_none (Converter from to term at) x i e = absurd cc
  used_none (Rule name prio term args iflets rhs at) x i e = absurd cc
  used_none (Passed head at) x i e = absurd cc

  each_unused : (s : Signature) (o : Option ExtractorDef) → extractor_named (extractors defs) s.term ≡ o → used_of (whole_of defs) s o ≡ []
  each_unused s None e = refl
  each_unused s (Some x) e =
      let found = find_is (λ (y : ExtractorDef). bytes_eq y.term s.term) (extractors defs) x e in
      let d = has_source extractor_of defs x found.0 in
      ap (λ name. used_through (whole_of defs) name x.by) (sym (same_bytes x.term s.term found.1)) ∙ used_none d.0 x d.1 d.2

  pub all_unused : (sigs : List Signature)
      → AllByRecursion (λ us. us ≡ []) (map (λ (s : Signature). used_of (whole_of defs) s (extractor_named (extractors defs) s.term)) sigs)
  all_unused [] = tt
  all_unused (s ∷ sigs) = (each_unused s (extractor_named (extractors defs) s.term) refl, all_unused sigs)

  pub reaches_none : (term : List ℕ) (o : Option TermId) → on o (λ (n : TermId). on_closed_walk (template_uses (whole_of defs)) n.0) ≡ false
  reaches_none term None = refl
  reaches_none term (Some n) = no_steps (template_uses (whole_of defs)) (length (template_uses (whole_of defs))) n.0 n.0 (all_unused (terms defs))

  -- ---- rows

  each_param : (template : Pattern) (params : List (List ℕ)) → AllByRecursion (Has (variables_in template)) params
      → list_any (λ (param : List ℕ). not (is_some (index_of (variables_in template) param))) params ≡ false
  each_param template params k = any_none (Has (variables_in template)) (λ (param : List ℕ). not (is_some (index_of (variables_in template) param))) params
      (λ param i. ap (λ o. not (is_some o)) (place_found (variables_in template) param i).1) k

  template_unbroken : (before : List Def) (term : List ℕ) (params : List (List ℕ)) (template : Pattern) (at : Pos) → Has defs (Extractor term params template at)
      → broken_in OfExtractors (record { whole = whole_of defs; before = before }) (Extractor term params template at) ≡ None
  template_unbroken before term params template at i =
      let w = whole_of defs in
      let d = Extractor term params template at in
      let s = template_sound term params template at i in
      let fit = (template_fit term params template s).1 in
      let sites = sites_in w d in
      let none = λ (test : Site → Bool) (each : (x : Site) → IsGoodPart w x → test x ≡ false). any_none (IsGoodPart w) test sites each fit.parts in
      none_broken (λ (r : Row). breaks r (record { whole = w; before = before }) d) (rows_of OfExtractors) (
        reaches_none term (term_named (terms defs) term),
        (
          or_from (list_any is_unbound sites) _ (none is_unbound (λ x k. k.bound))
              (or_from (list_any _ params) (list_any is_met_otherwise sites) (each_param template params s.used) (none is_met_otherwise (λ x k. k.met))),
          (
            none (is_untaken w) (λ x k. k.taken),
            (
              none (is_mistaken w) (λ x k. k.typed),
              (
                none (is_misplaced w) (λ x k. k.placed),
                (
                  none is_undeclared (λ x k. k.declared),
                  (none is_met_otherwise (λ x k. k.met), tt),
                ),
              ),
            ),
          ),
        ),
      )

  unbroken : (before : List Def) (d : Def) (after : List Def) → defs ≡ before ++ d ∷ after
      → broken_in OfExtractors (record { whole = whole_of defs; before = before }) d ≡ None
  unbroken before (Extractor term params template at) after e =
      template_unbroken before term params template at (subst (λ ds. Has ds (Extractor term params template at)) (sym e) (has_middle before _ after))
  unbroken before (TypeDecl name x n body at) after e = refl
  unbroken before (Decl term pure multi partial recursive args ret at) after e = refl
  unbroken before (ExternConstructor term func at) after e = refl
  unbroken before (ExternExtractor term func infallible at) after e = refl
  unbroken before (ExternConst name ty at) after e = refl
  unbroken before (Converter from to term at) after e = refl
  unbroken before (Rule name prio term args iflets rhs at) after e = refl
  unbroken before (Passed head at) after e = refl

  -- no extractor has a fault
  pub templates_unbroken : fault_in OfExtractors (whole_of defs) ≡ None
  templates_unbroken = none_in OfExtractors (whole_of defs) [] defs unbroken

  -- ---- trees

  has_its_tree : (d : Def) (x : ExtractorDef) → Has defs d → extractor_of d ≡ Some x → is_treed (whole_of defs) x.term x.by ≡ true
  has_its_tree (Extractor term params template at) x i e =
      subst (λ (y : ExtractorDef). is_treed (whole_of defs) y.term y.by ≡ true) (same_Some _ x e)
      (template_fit term params template (template_sound term params template at i)).1.treed
  has_its_tree (ExternExtractor term func infallible at) x i e = subst (λ (y : ExtractorDef). is_treed (whole_of defs) y.term y.by ≡ true) (same_Some _ x e) refl
  has_its_tree (TypeDecl name is_extern is_nodebug body at) x i e = absurd cc
  has_its_tree (Decl term pure multi partial recursive args ret at) x i e = absurd cc
  has_its_tree (ExternConstructor term func at) x i e = absurd cc
  has_its_tree (ExternConst name ty at) x i e = absurd cc
  has_its_tree (Converter from to term at) x i e = absurd cc
  has_its_tree (Rule name prio term args iflets rhs at) x i e = absurd cc
  has_its_tree (Passed head at) x i e = absurd cc

  -- each template has a tree
  pub all_treed : are_treed (whole_of defs) ≡ true
  all_treed = all_pass (has_tree (whole_of defs)) (extractors defs) (λ x i. let d = has_source extractor_of defs x i in has_its_tree d.0 x d.1 d.2)
