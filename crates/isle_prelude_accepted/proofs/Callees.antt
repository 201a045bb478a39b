-- What simple definitions know of the terms that patterns and expressions name.
use Rattle.std.proofs.Common.{◌≡◌, inl, inr, ℕ, Bool, true, false, List, [], ◌∷◌, map, Option, Some, None, refl, sym, ap, ◌∙◌, subst}
use Rattle.std.specs.Prelude.{option_map, is_some, ◌||◌}
use Rattle.std.specs.List.{AllByRecursion}
use Rattle.isle_core.specs.declared.TermId.{TermId}
use Rattle.isle_core.specs.declared.TypeId.{TypeId}
use Rattle.isle_core.specs.declared.position.Pos.{Pos}
use Rattle.isle_ast.specs.Tree.{Def, TypeDecl, Decl, ExternConstructor, ExternExtractor, ExternConst, Extractor, Converter, Rule, Passed}
use Rattle.isle_ast.specs.declared.tree.AstBody.TheVariants.{Enum}
use Rattle.isle_ast.specs.declared.tree.AstVariant.{AstVariant}
use Rattle.isle_declarations.specs.declared.terms.Origin.TheVariants as origin
use Rattle.isle_declarations.specs.DeclaredTypes.{DeclaredType, types, type_of, variant_term, made_of, made_terms, field_types}
use Rattle.isle_declarations.specs.Heads.{terms_of, extern_terms, extractor_terms, heads_of}
use Rattle.isle_declarations.specs.Signatures.{Signature, Extern, Extracting, ByFunction, ByTemplate, ExtractorDef, RuleDef, signature_of, extern_of}
use Rattle.isle_declarations.specs.Signatures.{extractor_of, rule_of, signatures, externs, extractors, rule_defs, term_named, func_named, extractor_named}
use Rattle.isle_declarations.specs.Signatures.{has_rule}
use Rattle.isle_declarations.specs.Terms.{made_signature, terms_by, terms, is_made}
use Rattle.isle_types.specs.Builtins.{builtin_names, type_id}
use Rattle.isle_types.specs.TypeNames.{declared_names, type_names}
use Rattle.isle_terms.specs.TypeNames.{type_named}
use Rattle.isle_terms.specs.Whole.{Whole, whole_of, termed, declared, has_constructor, has_extractor}
use Rattle.isle_writing.specs.Erased.{no_place, erased, all_erased}
use Rattle.isle_prelude_accepted.proofs.Has.{Has, AreApart, has_back, has_map, has_mapped, has_flat, has_found, has_source, all_has, found_by, found_none}
use Rattle.isle_prelude_accepted.proofs.Has.{place_found}
use Rattle.isle_prelude_accepted.proofs.AtPlaces.{at_some_place, type_names_same, externs_same, made_same, declared_same, taken_same, heads_same}
use Rattle.isle_prelude_accepted.proofs.Simple.{AreSimple, IsSound, IsSoundVariant, IsVariantTerm, Opens, Makes}
use Rattle.isle_prelude_accepted.proofs.Terms.{terms_apart, variant_there}

-- a type of the name is known
abbrev pub IsKnown : List Def → List ℕ → Type 0
IsKnown defs name = (ty : TypeId) × (type_named defs name ≡ Some ty)

-- a term of this name with these types is found
pub record IsCallee (w : Whole) (name : List ℕ) (args : List (List ℕ)) (ret : List ℕ) : Type 0 where
  pub signature : Signature
  pub there : termed w name ≡ Some signature
  pub named : signature.term ≡ name
  pub takes : signature.args ≡ args
  pub gives : signature.ret ≡ ret
  pub number : TermId
  pub numbered : term_named (terms w.defs) name ≡ Some number
  pub ret_known : IsKnown w.defs ret
  pub args_known : AllByRecursion (IsKnown w.defs) args

-- an extractor takes values apart by no template
abbrev pub NoTemplate : Extracting → Type 0
NoTemplate (ByFunction func infallible) = Unit {0}
NoTemplate (ByTemplate template) = ⊥

-- so, if there is one
abbrev pub HasNoTemplate : Option ExtractorDef → Type 0
HasNoTemplate None = Unit {0}
HasNoTemplate (Some x) = NoTemplate x.by

-- a term that may stand in a pattern
pub record IsOpened (w : Whole) (name : List ℕ) (args : List (List ℕ)) (ret : List ℕ) : Type 0 where
  pub callee : IsCallee w name args ret
  pub taken : has_extractor w callee.signature ≡ true
  pub plain : HasNoTemplate (extractor_named (extractors w.defs) callee.signature.term)

-- a term that may stand in an expression; no rule makes it
pub record IsMadeBy (w : Whole) (name : List ℕ) (args : List (List ℕ)) (ret : List ℕ) : Type 0 where
  pub callee : IsCallee w name args ret
  pub made : has_constructor w callee.signature ≡ true
  pub whole : callee.signature.partial ≡ false
  pub once : callee.signature.multi ≡ false
  pub unruled : Has (heads_of (rule_defs w.defs)) name → ⊥

-- ---- what definitions name

-- an extractor of sound definitions is of a declared term
taker_declared : (E : List Def) (d : Def) (x : ExtractorDef) → IsSound E d → extractor_of d ≡ Some x → Has (terms_of (signatures E)) x.term
taker_declared E (ExternExtractor term func infallible at) x s e =
    let sig : Signature =
    record { term = term; pure = s.pure; multi = s.multi; partial = false; recursive = false; args = s.args; ret = s.ret; pos = no_place; origin = origin.Declared } in
    let is : Some (record { term = term; by = ByFunction func infallible; pos = at }) ≡ Some x = e in
    let same : term ≡ x.term = ap term_or is in
    subst (Has (terms_of (signatures E))) same (has_map (λ (y : Signature). y.term) (signatures E) sig (has_found signature_of E _ sig s.declared refl))
  where
    term_or : Option ExtractorDef → List ℕ
    term_or None = []
    term_or (Some y) = y.term
taker_declared E (Extractor term params template at) x s e =
    let sig : Signature =
    record { term = term; pure = false; multi = false; partial = false; recursive = false; args = s.args; ret = s.ret; pos = no_place; origin = origin.Declared } in
    let same : term ≡ x.term = ap term_or e in
    subst (Has (terms_of (signatures E))) same (has_map (λ (y : Signature). y.term) (signatures E) sig (has_found signature_of E _ sig s.declared refl))
  where
    term_or : Option ExtractorDef → List ℕ
    term_or None = []
    term_or (Some y) = y.term
taker_declared E (TypeDecl name is_extern is_nodebug body at) x s e = absurd cc
taker_declared E (Decl term pure multi partial recursive args ret at) x s e = absurd cc
taker_declared E (ExternConstructor term func at) x s e = absurd cc
taker_declared E (ExternConst name ty at) x s e = absurd s
taker_declared E (Converter from to term at) x s e = absurd s
taker_declared E (Rule name prio term args iflets rhs at) x s e = absurd cc
taker_declared E (Passed head at) x s e = absurd cc

-- a rule of sound definitions is of a declared term that no function makes
head_sound : (E : List Def) (d : Def) (r : RuleDef) → IsSound E d → rule_of d ≡ Some r
    → Has (terms_of (signatures E)) r.term × (Has (extern_terms (externs E)) r.term → ⊥)
head_sound E (Rule name prio term args iflets rhs at) r s e =
    let sig : Signature =
    record { term = term; pure = false; multi = false; partial = false; recursive = false; args = s.2.args; ret = s.2.ret; pos = no_place; origin = origin.Declared } in
    let same : term ≡ r.term = ap term_or e in
    subst (λ name. Has (terms_of (signatures E)) name × (Has (extern_terms (externs E)) name → ⊥)) same
    (has_map (λ (y : Signature). y.term) (signatures E) sig (has_found signature_of E _ sig s.2.declared refl), s.2.free)
  where
    term_or : Option RuleDef → List ℕ
    term_or None = []
    term_or (Some y) = y.term
head_sound E (ExternExtractor term func infallible at) r s e = absurd cc
head_sound E (Extractor term params template at) r s e = absurd cc
head_sound E (TypeDecl name is_extern is_nodebug body at) r s e = absurd cc
head_sound E (Decl term pure multi partial recursive args ret at) r s e = absurd cc
head_sound E (ExternConstructor term func at) r s e = absurd cc
head_sound E (ExternConst name ty at) r s e = absurd s
head_sound E (Converter from to term at) r s e = absurd s
head_sound E (Passed head at) r s e = absurd cc

-- ---- over definitions whose places are forgotten

module _ (defs : List Def) (h : AreSimple (all_erased defs)) where
  -- each definition is sound
  pub sound_in : (d : Def) → Has defs d → IsSound (all_erased defs) (erased d)
  sound_in d i = all_has (IsSound (all_erased defs)) (all_erased defs) (erased d) h.sound (has_map erased defs d i)

  pub extractor_declared : (name : List ℕ) → Has (extractor_terms (extractors (all_erased defs))) name → Has (terms_of (signatures (all_erased defs))) name
  extractor_declared name i =
      let E = all_erased defs in
      let x = has_mapped (λ (y : ExtractorDef). y.term) (extractors E) name i in
      let d = has_source extractor_of E x.0 x.1 in
      subst (Has (terms_of (signatures E))) x.2 (taker_declared E d.0 x.0 (all_has (IsSound E) E d.0 h.sound d.1) d.2)

  pub head_declared : (name : List ℕ) → Has (heads_of (rule_defs (all_erased defs))) name
      → Has (terms_of (signatures (all_erased defs))) name × (Has (extern_terms (externs (all_erased defs))) name → ⊥)
  head_declared name i =
      let E = all_erased defs in
      let x = has_mapped (λ (y : RuleDef). y.term) (rule_defs E) name i in
      let d = has_source rule_of E x.0 x.1 in
      subst (λ n. Has (terms_of (signatures E)) n × (Has (extern_terms (externs E)) n → ⊥)) x.2 (head_sound E d.0 x.0 (all_has (IsSound E) E d.0 h.sound d.1) d.2)

  -- ---- types

  pub known_type : (name : List ℕ) → Has (type_names (all_erased defs)) name → IsKnown defs name
  known_type name i =
      let r = place_found (type_names defs) name (subst (λ names. Has names name) (type_names_same defs) i) in
      (type_id r.0, ap (option_map type_id) r.1)

  pub known_types : (names : List (List ℕ)) → AllByRecursion (Has (type_names (all_erased defs))) names → AllByRecursion (IsKnown defs) names
  known_types [] k = tt
  known_types (name ∷ names) k = (known_type name k.0, known_types names k.1)

  -- ---- terms

  pub terms_once : AreApart (terms_of (terms defs))
  terms_once = terms_apart defs (
    subst AreApart (made_same defs) h.made,
    subst AreApart (declared_same defs) h.declared,
    λ name i j. h.unmade name (subst (λ names. Has names name) (sym (made_same defs)) i) (subst (λ names. Has names name) (sym (declared_same defs)) j),
  )

  -- a term is found by its name
  pub term_found : (s : Signature) → Has (terms defs) s → termed (whole_of defs) s.term ≡ Some s
  term_found s i = found_by (λ (x : Signature). x.term) (terms defs) s terms_once i

  -- and has a number
  pub term_numbered : (s : Signature) → Has (terms defs) s → (n : TermId) × (term_named (terms defs) s.term ≡ Some n)
  term_numbered s i =
      let r = place_found (terms_of (terms defs)) s.term (has_map (λ (x : Signature). x.term) (terms defs) s i) in
      (record { 0 = r.0 }, ap (option_map (λ (n : ℕ). record { 0 = n })) r.1)

  -- ---- declared terms

  -- the declaration of a term, at its place
  abbrev pub signature_at : (term : List ℕ) (pure multi partial recursive : Bool) (args : List (List ℕ)) (ret : List ℕ) → Pos → Signature
  signature_at term pure multi partial recursive args ret at =
      record { term = term; pure = pure; multi = multi; partial = partial; recursive = recursive; args = args; ret = ret; pos = at; origin = origin.Declared }

  pub declaration_there : (term : List ℕ) (pure multi partial recursive : Bool) (args : List (List ℕ)) (ret : List ℕ)
      → Has (all_erased defs) (Decl term pure multi partial recursive args ret no_place)
      → (at : Pos) × Has (signatures defs) (signature_at term pure multi partial recursive args ret at) × Has (terms defs) (signature_at term pure multi partial recursive args ret at)
  declaration_there term pure multi partial recursive args ret i =
      let d = at_some_place defs (Decl term pure multi partial recursive args ret no_place) i in
      let s = signature_at term pure multi partial recursive args ret d.0 in (
        d.0,
        has_found signature_of defs (Decl term pure multi partial recursive args ret d.0) s d.1 refl,
        has_flat terms_by defs (Decl term pure multi partial recursive args ret d.0) s d.1 (inl refl),
      )

  pub declared_found : (s : Signature) → Has (signatures defs) s → declared (whole_of defs) s.term ≡ Some s
  declared_found s i = found_by (λ (x : Signature). x.term) (signatures defs) s (subst AreApart (declared_same defs) h.declared) i

  -- its types are known
  pub declaration_known : (term : List ℕ) (pure multi partial recursive : Bool) (args : List (List ℕ)) (ret : List ℕ)
      → Has (all_erased defs) (Decl term pure multi partial recursive args ret no_place) → IsKnown defs ret × AllByRecursion (IsKnown defs) args
  declaration_known term pure multi partial recursive args ret i =
      let s : IsSound (all_erased defs) (Decl term pure multi partial recursive args ret no_place) =
      all_has (IsSound (all_erased defs)) (all_erased defs) _ h.sound i in
      (known_type ret s.1.gives, known_types args s.1.known)

  pub declared_callee : (term : List ℕ) (pure multi partial recursive : Bool) (args : List (List ℕ)) (ret : List ℕ)
      → Has (all_erased defs) (Decl term pure multi partial recursive args ret no_place)
      → (at : Pos) × (c : IsCallee (whole_of defs) term args ret) × (c.signature ≡ signature_at term pure multi partial recursive args ret at)
  declared_callee term pure multi partial recursive args ret i =
      let d = declaration_there term pure multi partial recursive args ret i in
      let s = signature_at term pure multi partial recursive args ret d.0 in
      let n = term_numbered s d.2 in
      let k = declaration_known term pure multi partial recursive args ret i in
      (d.0, record { signature = s; there = term_found s d.2; named = refl; takes = refl; gives = refl; number = n.0; numbered = n.1; ret_known = k.0; args_known = k.1 }, refl)

  -- ---- variants

  -- a variant's term is made
  pub variant_made : (name : List ℕ) (args : List (List ℕ)) (ret : List ℕ) → IsVariantTerm (all_erased defs) name args ret → Has (made_terms (all_erased defs)) name
  variant_made name args ret v =
      has_flat made_of (all_erased defs) (TypeDecl ret v.is_extern v.is_nodebug (Enum v.variants) no_place) name v.declared
      (subst (Has (map (λ (a : AstVariant). variant_term ret a.name) v.variants)) v.named (has_map (λ (a : AstVariant). variant_term ret a.name) v.variants v.variant v.among))

  pub variant_callee : (name : List ℕ) (args : List (List ℕ)) (ret : List ℕ) → IsVariantTerm (all_erased defs) name args ret
      → (c : IsCallee (whole_of defs) name args ret) × (is_made c.signature.origin ≡ true) × (c.signature.partial ≡ false) × (c.signature.multi ≡ false)
  variant_callee name args ret v =
      let E = all_erased defs in
      let d = at_some_place defs (TypeDecl ret v.is_extern v.is_nodebug (Enum v.variants) no_place) v.declared in
      let k = variant_there ret d.0 0 v.variants v.variant v.among in
      let s : Signature = made_signature (variant_term ret v.variant.name) ret v.variant.fields (origin.Variant k.0) d.0 in
      let there : Has (terms defs) s = has_flat terms_by defs (TypeDecl ret v.is_extern v.is_nodebug (Enum v.variants) d.0) s d.1 k.1 in
      let n = term_numbered s there in
      let sound : IsSound E (TypeDecl ret v.is_extern v.is_nodebug (Enum v.variants) no_place) = all_has (IsSound E) E _ h.sound v.declared in
      let fields : IsSoundVariant E v.variant = all_has (IsSoundVariant E) v.variants v.variant sound.1.0 v.among in
      let t : DeclaredType = record { name = ret; body = Enum v.variants } in
      let own : Has (type_names E) ret =
      has_back builtin_names (declared_names E) ret (has_map (λ (x : DeclaredType). x.name) (types E) t (has_found type_of E _ t v.declared refl)) in (
        record {
          signature = s;
          there = ap (termed (whole_of defs)) (sym v.named) ∙ term_found s there;
          named = v.named;
          takes = v.fields;
          gives = refl;
          number = n.0;
          numbered = ap (term_named (terms defs)) (sym v.named) ∙ n.1;
          ret_known = known_type ret own;
          args_known = subst (AllByRecursion (IsKnown defs)) v.fields (known_types (field_types v.variant.fields) fields.known);
        },
        refl,
        refl,
        refl,
      )

  -- ---- both

  -- nothing takes the values of a made term apart
  unextracted : (name : List ℕ) → Has (made_terms (all_erased defs)) name → extractor_named (extractors defs) name ≡ None
  unextracted name made = found_none (λ (x : ExtractorDef). x.term) (extractors defs) name
      (λ i. h.unmade name made (extractor_declared name (subst (λ names. Has names name) (sym (taken_same defs)) i)))

  pub opened : (name : List ℕ) (args : List (List ℕ)) (ret : List ℕ) → Opens (all_erased defs) name args ret → IsOpened (whole_of defs) name args ret
  opened name args ret (inl v) =
      let c = variant_callee name args ret v in
      record {
        callee = c.0;
        taken = ap (λ b. b || is_some (extractor_named (extractors defs) c.0.signature.term)) c.1;
        plain = subst HasNoTemplate (sym (ap (extractor_named (extractors defs)) c.0.named ∙ unextracted name (variant_made name args ret v))) tt;
      }
  opened name args ret (inr t) =
      let c = declared_callee name t.pure t.multi false false args ret t.declared in
      let d = at_some_place defs (ExternExtractor name t.func t.infallible no_place) t.taken in
      let x : ExtractorDef = record { term = name; by = ByFunction t.func t.infallible; pos = d.0 } in
      let found : extractor_named (extractors defs) name ≡ Some x =
      found_by (λ (y : ExtractorDef). y.term) (extractors defs) x (subst AreApart (taken_same defs) h.extractors_apart) (has_found extractor_of defs _ x d.1 refl) in
      record {
        callee = c.1;
        taken = ap (λ (s : Signature). is_made s.origin || is_some (extractor_named (extractors defs) s.term)) c.2 ∙ ap is_some found;
        plain = subst HasNoTemplate (sym (ap (extractor_named (extractors defs)) c.1.named ∙ found)) tt;
      }

  pub made_by_function : (name : List ℕ) (args : List (List ℕ)) (ret : List ℕ) → Makes (all_erased defs) name args ret → IsMadeBy (whole_of defs) name args ret
  made_by_function name args ret (inl v) =
      let c = variant_callee name args ret v in
      record {
        callee = c.0;
        made = ap (λ b. b || is_some (func_named (externs defs) c.0.signature.term) || has_rule (rule_defs defs) c.0.signature.term) c.1;
        whole = c.2;
        once = c.3;
        unruled = λ i. h.unmade name (variant_made name args ret v) (head_declared name (subst (λ names. Has names name) (sym (heads_same defs)) i)).0;
      }
  made_by_function name args ret (inr t) =
      let c = declared_callee name t.pure false false false args ret t.declared in
      let x : Extern = record { term = name; func = t.func } in
      let among : Has (externs defs) x = subst (λ (xs : List Extern). Has xs x) (externs_same defs) (has_found extern_of (all_erased defs) _ x t.made refl) in
      let found : func_named (externs defs) name ≡ Some t.func =
      ap (option_map (λ (y : Extern). y.func))
      (found_by (λ (y : Extern). y.term) (externs defs) x (subst (λ (xs : List Extern). AreApart (extern_terms xs)) (externs_same defs) h.externs_apart) among) in
      record {
        callee = c.1;
        made = ap (λ (s : Signature). is_made s.origin || is_some (func_named (externs defs) s.term) || has_rule (rule_defs defs) s.term) c.2
            ∙ ap (λ o. is_some o || has_rule (rule_defs defs) name) found;
        whole = ap (λ (s : Signature). s.partial) c.2;
        once = ap (λ (s : Signature). s.multi) c.2;
        unruled = λ i. (head_declared name (subst (λ names. Has names name) (sym (heads_same defs)) i)).1
            (has_map (λ (y : Extern). y.term) (externs (all_erased defs)) x (has_found extern_of (all_erased defs) _ x t.made refl));
      }
