-- Simple definitions give one environment.
use Rattle.std.proofs.Common.{◌≡◌, inl, inr, ℕ, ◌+◌, pos, Bool, cond, List, [], ◌∷◌, Option, Some, None, refl, ap, ap₂, ◌∙◌}
use Rattle.std.specs.Prelude.{option_map, option_and_then}
use Rattle.std.specs.List.{AllByRecursion, cons_option}
use Rattle.isle_core.specs.declared.TermId.{TermId}
use Rattle.isle_core.specs.declared.TypeId.{TypeId}
use Rattle.isle_core.specs.declared.types.Term.{Term}
use Rattle.isle_core.specs.Rule.{Rule as CoreRule, Environment}
use Rattle.isle_ast.specs.Tree.{Def, TypeDecl, Decl, ExternConstructor, ExternExtractor, ExternConst, Extractor, Converter, Rule, Passed}
use Rattle.isle_ast.specs.declared.tree.AstBody.TheVariants.{Primitive, Enum, Struct}
use Rattle.isle_declarations.specs.Signatures.{Signature, RuleDef, rule_defs}
use Rattle.isle_ast.specs.declared.tree.AstBody.{AstBody}
use Rattle.isle_ast.specs.declared.tree.AstVariant.{AstVariant}
use Rattle.isle_core.proofs.AllLaws.{all_append}
use Rattle.isle_core.specs.declared.position.Pos.{Pos}
use Rattle.isle_declarations.specs.DeclaredTypes.{DeclaredType, type_of, types, field_types}
use Rattle.isle_declarations.specs.Terms.{terms, variant_signatures}
use Rattle.isle_types.specs.Builtins.{builtin_names}
use Rattle.isle_types.specs.TypeNames.{declared_names}
use Rattle.isle_types.specs.TypeEnvironment.{type_env_of}
use Rattle.isle_terms.specs.Converters.{Conversion, converter_of, converters, converters_pass}
use Rattle.isle_terms.specs.TermPass.{term_from, term_pass, terms_pass, types_named, tree_before}
use Rattle.isle_terms.specs.Whole.{Whole, whole_of}
use Rattle.isle_terms.proofs.MadeTerms.{before_both}
use Rattle.isle_sema.specs.Environment.{env_over, env_with, env_of}
use Rattle.isle_sema.specs.Fault.{OfTypes, OfTerms, OfExtractors, OfRules, or_later, fault_in, later_fault}
use Rattle.isle_sema.specs.RulePass.{rule_pass, rules_pass}
use Rattle.isle_sema.specs.Typing.{fault, TypedOnly}
use Rattle.isle_sema.proofs.Firsts.{none_stages}
use Rattle.isle_sema.proofs.TypedOnce.{typed_only}
use Rattle.isle_writing.specs.Erased.{erased, all_erased}
use Rattle.isle_prelude_accepted.proofs.Has.{Has, has_back, has_map, has_found}
use Rattle.isle_prelude_accepted.proofs.Simple.{AreSimple, IsSound, IsSoundVariant}
use Rattle.isle_prelude_accepted.proofs.Callees.{sound_in, IsKnown, known_type, known_types}
use Rattle.isle_prelude_accepted.proofs.RuleFaults.{rules_unbroken}
use Rattle.isle_prelude_accepted.proofs.RuleParts.{IsMadeRule, rule_on, rule_fit, rule_is_made}
use Rattle.isle_prelude_accepted.proofs.TemplateFaults.{templates_unbroken, all_treed}
use Rattle.isle_prelude_accepted.proofs.TermFaults.{terms_unbroken}
use Rattle.isle_prelude_accepted.proofs.TypeFaults.{types_unbroken}

-- each rule is made of a definition's, in order
abbrev pub AreMadeRules : Whole → List RuleDef → List CoreRule → Type 0
AreMadeRules w [] [] = Unit {0}
AreMadeRules w (r ∷ rs) (x ∷ xs) = IsMadeRule w r.term x × AreMadeRules w rs xs
AreMadeRules w [] (x ∷ xs) = ⊥
AreMadeRules w (r ∷ rs) [] = ⊥

-- the types of a term's signature are known
abbrev HasTypes : List Def → Signature → Type 0
HasTypes defs s = IsKnown defs s.ret × AllByRecursion (IsKnown defs) s.args

types_found : (defs : List Def) (names : List (List ℕ)) → AllByRecursion (IsKnown defs) names → (tys : List TypeId) × (types_named defs names ≡ Some tys)
types_found defs [] h = ([], refl)
types_found defs (name ∷ names) h =
    let rest = types_found defs names h.1 in
    (h.0.0 ∷ rest.0, ap₂ tree_before h.0.1 rest.1)

-- a term is that of its signature
pub record IsTermOf (w : Whole) (s : Signature) (t : Term) : Type 0 where
  pub args : List TypeId
  pub ret : TypeId
  pub is : t ≡ term_from w s args ret

-- each is that of its signature, in order
abbrev pub AreTermsOf : Whole → List Signature → List Term → Type 0
AreTermsOf w [] [] = Unit {0}
AreTermsOf w (s ∷ ss) (t ∷ ts) = IsTermOf w s t × AreTermsOf w ss ts
AreTermsOf w [] (t ∷ ts) = ⊥
AreTermsOf w (s ∷ ss) [] = ⊥

terms_found : (w : Whole) (sigs : List Signature) → AllByRecursion (HasTypes w.defs) sigs → (ts : List Term) × (terms_pass w sigs ≡ Some ts) × AreTermsOf w sigs ts
terms_found w [] h = ([], refl, tt)
terms_found w (s ∷ sigs) h =
    let args = types_found w.defs s.args h.0.1 in
    let ret = h.0.0 in
    let rest = terms_found w sigs h.1 in
    let t = term_from w s args.0 ret.0 in
    let one : term_pass w s ≡ Some t =
    ap₂ (λ (found : Option (List TypeId)) (r : Option TypeId). option_and_then (λ (tys : List TypeId). option_map (term_from w s tys) r) found) args.1 ret.1 in
    (t ∷ rest.0, before_both (term_pass w s) (terms_pass w sigs) t rest.0 one rest.1, (record { args = args.0; ret = ret.0; is = refl }, rest.2))

module _ (defs : List Def) (h : AreSimple (all_erased defs)) where
  -- ---- faults

  pub no_fault : fault defs ≡ None
  no_fault =
      let w = whole_of defs in
      none_stages (fault_in OfTypes w) (or_later (fault_in OfTerms w) (later_fault w)) (types_unbroken defs h)
      (none_stages (fault_in OfTerms w) (later_fault w) (terms_unbroken defs h)
      (none_stages (fault_in OfExtractors w) (fault_in OfRules w) (templates_unbroken defs h) (rules_unbroken defs h)))

  -- ---- converters

  no_conversions : (ds : List Def) → ((d : Def) → Has ds d → Has defs d) → converters ds ≡ []
  no_conversions [] all = refl
  no_conversions (d ∷ ds) all = ap₂ cons_option (none d (all d (inl refl))) (no_conversions ds (λ x i. all x (inr i)))
    where
      none : (x : Def) → Has defs x → converter_of x ≡ None
      none (Converter from to term at) i = absurd (sound_in defs h (Converter from to term at) i)
      none (TypeDecl name x n body at) i = refl
      none (Decl term pure multi partial recursive args ret at) i = refl
      none (ExternConstructor term func at) i = refl
      none (ExternExtractor term func infallible at) i = refl
      none (ExternConst name ty at) i = refl
      none (Extractor term params template at) i = refl
      none (Rule name prio term args iflets rhs at) i = refl
      none (Passed head at) i = refl

  -- ---- rules

  rules_from : (i : ℕ) (ds : List Def) → ((d : Def) → Has ds d → Has defs d)
      → (xs : List CoreRule) × (rules_pass (whole_of defs) i (rule_defs ds) ≡ Some xs) × AreMadeRules (whole_of defs) (rule_defs ds) xs
  rules_from i [] all = ([], refl, tt)
  rules_from i (Rule name prio term args iflets rhs at ∷ ds) all =
      let w = whole_of defs in
      let d = Rule name prio term args iflets rhs at in
      let s : IsSound (all_erased defs) d = sound_in defs h d (all d (inl refl)) in
      let r : RuleDef = record { name = name; prio = prio; term = term; args = args; iflets = iflets; rhs = rhs; pos = at } in
      let form : r ≡ rule_on name term s.2.params rhs at =
      ap (λ z. record { name = name; prio = z; term = term; args = args; iflets = iflets; rhs = rhs; pos = at }) s.0
      ∙ ap₂ (λ ps cs. record { name = name; prio = pos 0; term = term; args = ps; iflets = cs; rhs = rhs; pos = at }) s.2.are_variables s.1 in
      let one = rule_is_made w name term s.2.params rhs at (rule_fit defs h name term args rhs at s.2) i in
      let rest = rules_from (i + 1) ds (λ x j. all x (inr j)) in
      (one.0 ∷ rest.0, before_both (rule_pass w i r) (rules_pass w (i + 1) (rule_defs ds)) one.0 rest.0 (ap (rule_pass w i) form ∙ one.1) rest.1, (one.2, rest.2))
  rules_from i (TypeDecl name x n body at ∷ ds) all = rules_from i ds (λ x j. all x (inr j))
  rules_from i (Decl term pure multi partial recursive args ret at ∷ ds) all = rules_from i ds (λ x j. all x (inr j))
  rules_from i (ExternConstructor term func at ∷ ds) all = rules_from i ds (λ x j. all x (inr j))
  rules_from i (ExternExtractor term func infallible at ∷ ds) all = rules_from i ds (λ x j. all x (inr j))
  rules_from i (ExternConst name ty at ∷ ds) all = rules_from i ds (λ x j. all x (inr j))
  rules_from i (Extractor term params template at ∷ ds) all = rules_from i ds (λ x j. all x (inr j))
  rules_from i (Converter from to term at ∷ ds) all = rules_from i ds (λ x j. all x (inr j))
  rules_from i (Passed head at ∷ ds) all = rules_from i ds (λ x j. all x (inr j))

  -- ---- terms

  -- a type that is declared is known
  type_there : (name : List ℕ) (x n : Bool) (body : AstBody) (at : Pos) → Has defs (TypeDecl name x n body at) → IsKnown defs name
  type_there name x n body at i =
      let E = all_erased defs in
      let t : DeclaredType = record { name = name; body = body } in
      known_type defs h name
      (has_back builtin_names (declared_names E) name (has_map (λ (y : DeclaredType). y.name) (types E) t (has_found type_of E _ t (has_map erased defs (TypeDecl name x n body at) i) refl)))

  variants_typed : (ty : List ℕ) (at : Pos) (i : ℕ) (vs : List AstVariant) → IsKnown defs ty → AllByRecursion (IsSoundVariant (all_erased defs)) vs
      → AllByRecursion (HasTypes defs) (variant_signatures ty at i vs)
  variants_typed ty at i [] known s = tt
  variants_typed ty at i (v ∷ vs) known s = ((known, known_types defs h (field_types v.fields) s.0.known), variants_typed ty at (i + 1) vs known s.1)

  terms_typed : (ds : List Def) → ((d : Def) → Has ds d → Has defs d) → AllByRecursion (HasTypes defs) (terms ds)
  terms_typed [] all = tt
  terms_typed (TypeDecl name x n (Enum vs) at ∷ ds) all =
      let i = all (TypeDecl name x n (Enum vs) at) (inl refl) in
      let s : IsSound (all_erased defs) (TypeDecl name x n (Enum vs) at) = sound_in defs h (TypeDecl name x n (Enum vs) at) i in
      all_append (HasTypes defs) (variant_signatures name at 0 vs) (terms ds) (variants_typed name at 0 vs (type_there name x n (Enum vs) at i) s.1.0)
      (terms_typed ds (λ y j. all y (inr j)))
  terms_typed (TypeDecl name x n (Primitive rust) at ∷ ds) all = terms_typed ds (λ y j. all y (inr j))
  terms_typed (TypeDecl name x n (Struct fields) at ∷ ds) all =
      absurd (let s : IsSound (all_erased defs) (TypeDecl name x n (Struct fields) at) = sound_in defs h (TypeDecl name x n (Struct fields) at) (all _ (inl refl)) in s.1)
  terms_typed (Decl term pure multi partial recursive args ret at ∷ ds) all =
      let d = Decl term pure multi partial recursive args ret at in
      let s : IsSound (all_erased defs) d = sound_in defs h d (all d (inl refl)) in
      ((known_type defs h ret s.1.gives, known_types defs h args s.1.known), terms_typed ds (λ y j. all y (inr j)))
  terms_typed (ExternConstructor term func at ∷ ds) all = terms_typed ds (λ y j. all y (inr j))
  terms_typed (ExternExtractor term func infallible at ∷ ds) all = terms_typed ds (λ y j. all y (inr j))
  terms_typed (ExternConst name ty at ∷ ds) all = terms_typed ds (λ y j. all y (inr j))
  terms_typed (Extractor term params template at ∷ ds) all = terms_typed ds (λ y j. all y (inr j))
  terms_typed (Converter from to term at ∷ ds) all = terms_typed ds (λ y j. all y (inr j))
  terms_typed (Rule name prio term args iflets rhs at ∷ ds) all = terms_typed ds (λ y j. all y (inr j))
  terms_typed (Passed head at ∷ ds) all = terms_typed ds (λ y j. all y (inr j))

  -- ---- all

  -- the environment of these definitions: their types, their terms and their rules, in order
  pub record IsSimpleEnvironment (env : Environment) : Type 0 where
    pub typed : TypedOnly defs env
    pub types_are : env.types ≡ type_env_of defs
    pub terms_are : AreTermsOf (whole_of defs) (terms defs) env.terms
    pub rules_are : AreMadeRules (whole_of defs) (rule_defs defs) env.rules

  -- they give it, and no other
  pub simple_typed : (env : Environment) × IsSimpleEnvironment env
  simple_typed =
      let w = whole_of defs in
      let ts = terms_found w (terms defs) (terms_typed defs (λ d i. i)) in
      let rs = rules_from 0 defs (λ d i. i) in
      let env = env_over w.types ts.0 [] rs.0 in
      let given : env_of defs ≡ Some env =
      ap (λ b. cond b (option_and_then (env_with w) (terms_pass w (terms defs))) None) (all_treed defs h)
      ∙ ap (option_and_then (env_with w)) ts.1
      ∙ ap (λ (cs : List Conversion). option_and_then (λ (found : List (TypeId × TypeId × TermId)). option_map (env_over w.types ts.0 found) (rules_pass w 0 (rule_defs defs))) (converters_pass w cs)) (no_conversions defs (λ d i. i))
      ∙ ap (option_map (env_over w.types ts.0 [])) rs.1 in
      (env, record { typed = typed_only (record { sound = no_fault; given = given }); types_are = refl; terms_are = ts.2; rules_are = rs.2 })
