-- A constant that a rule tests for, or that stands in what one gives, stands in each program that conforms to the source.
use Rattle.std.proofs.Common.{◌≡◌, ◌⊎◌, inl, inr, ⊎_elim, ℕ, zero, suc, ◌+◌, List, [], ◌∷◌, ◌++◌, map, Bool, true, false, cond, Option, Some, None, option_map, refl, sym, ap, ◌∙◌, subst}
use Rattle.std.specs.Prelude.{◌==◌, ◌||◌, ◌&&◌, not, Contains, find, flat_map, slice_get}
use Rattle.std.proofs.lemmas.Bool.Decides.{Decides-eqb}
use Rattle.std.proofs.lemmas.Option.{slice_get-map}
use Rattle.std.specs.List.{AllByRecursion, list_any}
use Rattle.std.specs.Ordering.{int_cmp, is_lt}
use Rattle.std.specs.Str.{bytes_eq}
use Rattle.std.proofs.lemmas.List.Elements.{Contains-append_left, Contains-append_right}
use Rattle.std.proofs.lemmas.Slice.Eq.{bytes_eq-Decides}
use Rattle.isle_core.specs.declared.BindingId.{BindingId}
use Rattle.isle_core.specs.declared.Sym.{Sym}
use Rattle.isle_core.specs.declared.TermId.{TermId}
use Rattle.isle_core.specs.declared.TypeId.{TypeId}
use Rattle.isle_core.specs.declared.files.Files.{Files}
use Rattle.isle_core.specs.declared.options.CodegenOptions.{CodegenOptions}
use Rattle.isle_core.specs.declared.rule_sets.Constraint.{Constraint}
use Rattle.isle_core.specs.declared.rule_sets.Constraint.TheVariants as constraint
use Rattle.isle_core.specs.declared.rule_sets.FlatRule.{FlatRule}
use Rattle.isle_core.specs.declared.types.Term.{Term}
use Rattle.isle_core.specs.declared.types.TypeDef.{TypeDef}
use Rattle.isle_core.specs.Calling.{is_several, kind_of}
use Rattle.isle_core.specs.NamesApart.{IsNameOf}
use Rattle.isle_core.specs.Value.{Value}
use Rattle.isle_core.specs.Path.{Path, at, paths_of}
use Rattle.isle_core.specs.Rule.{Environment, Rule, rules_of}
use Rattle.isle_core.specs.RuleSet.{is_test, equal_test, flat_tests}
use Rattle.isle_core.specs.Setting.{setting}
use Rattle.isle_core.specs.StandsFor.{IsFlat, AreFlat, IsTrivial, EachOnce}
use Rattle.isle_core.specs.Serializable.{IsTest, AreTestable, IsSerializableRule}
use Rattle.isle_core.proofs.BindingPaths.{IsThere, place_once, path_there, option_there}
use Rattle.isle_core.proofs.RulePairs.{all_at}
use Rattle.isle_sema.proofs.SerializableRules.{set_serializable}
use Rattle.isle_core.specs.Terms.{sym_text, with_rules}
use Rattle.isle_core.specs.Tests.{Test, Is, is_constraint, rule_tests}
use Rattle.isle_core.proofs.AllLaws.{all_append}
use Rattle.isle_core.proofs.Contained.{head_contained, tail_contained, contained_cases, none_contained}
use Rattle.isle_blocks.specs.AllTests.{AreAmong, IsTried}
use Rattle.isle_lawful_names.specs.LawfulNames.{IsNoType, emitted_names}
use Rattle.isle_lawful_names.proofs.HasRustNames.{has_rust_names}
use Rattle.isle_spelling.specs.Identifier.{begins}
use Rattle.isle_simulation.specs.RustNames.{HasRustNames}
use Rattle.isle_operand_names.specs.Names.{body_names, function_names, is_among}
use Rattle.isle_operand_names.specs.Occurring.{item_types, trait_types, function_types, own_types, param_types, program_types, occurs}
use Rattle.isle_interpreter.specs.Entries.{has_constant}
use Rattle.isle_simulation.specs.TermFunction.{tail_in}
use Rattle.isle_simulation.specs.Manner.{manner_of}
use Rattle.isle_simulation.specs.Completed.{completed}
use Rattle.isle_simulation.specs.TypeTexts.{def_text, type_text, parameter}
use Rattle.isle_simulation.proofs.CompletedReady.{completed_ready}
use Rattle.isle_simulation.proofs.Made.{function_made}
use Rattle.isle_simulation.proofs.MadeStatements.{Anything, any_tested, block_holds}
use Rattle.isle_simulation.proofs.Written.{function_of}
use Rattle.isle_tree.specs.declared.tree.TraitFn.{TraitFn}
use Rattle.isle_tree.specs.declared.tree.TypeItem.{TypeItem}
use Rattle.isle_tree.specs.Program.{Function, Program}
use Rattle.isle_codegen.proofs.FromBlocks.{given_from}
use Rattle.isle_codegen.specs.Checked.{IsChecked}
use Rattle.isle_codegen.specs.FromBlock.{AreFromBlocks, IsFromBlock}
use Rattle.isle_run.specs.Conforming.{Conforms}
use Rattle.isle_run.specs.RuleWants.{is_below, TestsWithin, IsUsedFor}
use Rattle.isle_run.specs.Valid.{AreRightConstants}
use Rattle.isle_run.proofs.GivenConstants.{each_declared}
use Rattle.isle_run.proofs.LawfulNames.{HasLawfulNames}
use Rattle.isle_run.proofs.NamedTests.{function_names_it}
use Rattle.isle_run.proofs.ReturnedConstants.{given_in_function}
use Rattle.isle_run.proofs.TestsOfRules.{ConstraintOf, constraint_of, in_either, tests_within}
use Rattle.isle_run.proofs.OccurringTypes.{types_free, traits_free, types_made, tail_free, params_free}
use Rattle.isle_run.proofs.PlacedExprs.{IsConstantValue}
use Rattle.isle_run.proofs.SourceNames.{lawful_names}
use Rattle.isle_codegen.proofs.TypedNames.{typed_parts}

-- ---- the rules of a set

-- the flat rule of a rule
record FlatOf (env : Environment) (ps : List Path) (fs : List FlatRule) (r : Rule) : Type 0 where
  flat : FlatRule
  there : Contains fs flat
  at_place : ℕ
  is : IsFlat env ps r at_place flat

flat_of : (env : Environment) (ps : List Path) (rs : List Rule) (fs : List FlatRule) (n : ℕ) (r : Rule) → AreFlat env ps rs n fs → Contains rs r → FlatOf env ps fs r
flat_of env ps [] fs n r h c = absurd (none_contained r c)
flat_of env ps (x ∷ rs) [] n r h c = absurd h
flat_of env ps (x ∷ rs) (f ∷ fs) n r h c =
    ⊎_elim
    (λ (e : x ≡ r). subst (FlatOf env ps (f ∷ fs)) e (record { flat = f; there = head_contained f fs; at_place = n; is = h.0 }))
    (λ d. let k = flat_of env ps rs fs _ r h.1 d in record { flat = k.flat; there = tail_contained f fs k.flat k.there; at_place = k.at_place; is = k.is })
    (contained_cases x rs r c)

-- the rule of a flat rule
record RuleOf (env : Environment) (ps : List Path) (rs : List Rule) (f : FlatRule) : Type 0 where
  rule : Rule
  there : Contains rs rule
  at_place : ℕ
  is : IsFlat env ps rule at_place f

rule_of : (env : Environment) (ps : List Path) (rs : List Rule) (fs : List FlatRule) (n : ℕ) (f : FlatRule) → AreFlat env ps rs n fs → Contains fs f → RuleOf env ps rs f
rule_of env ps rs [] n f h c = absurd (none_contained f c)
rule_of env ps [] (g ∷ fs) n f h c = absurd h
rule_of env ps (r ∷ rs) (g ∷ fs) n f h c =
    ⊎_elim
    (λ (e : g ≡ f). subst (RuleOf env ps (r ∷ rs)) e (record { rule = r; there = head_contained r rs; at_place = n; is = h.0 }))
    (λ d. let k = rule_of env ps rs fs _ f h.1 d in record { rule = k.rule; there = tail_contained r rs k.rule k.there; at_place = k.at_place; is = k.is })
    (contained_cases g fs f c)

same_parts : (p q : Path) (c d : Constraint) → Is p c ≡ Is q d → (p ≡ q) × (c ≡ d)
same_parts p q c d e = (cc, cc)

-- the binding that a test of a constraint is on, and its path
record TestedAt (ps : List Path) (cs : List (BindingId × Constraint)) (p : Path) (c : Constraint) : Type 0 where
  source : BindingId
  in' : Contains cs (source, c)
  path : at ps source ≡ p

tested_at : (ps : List Path) (cs : List (BindingId × Constraint)) (p : Path) (c : Constraint) → Contains (map (is_test ps) cs) (Is p c) → TestedAt ps cs p c
tested_at ps cs p c h =
    let k = constraint_of ps cs (Is p c) h in
    let same = same_parts (at ps k.of.0) p k.of.1 c k.is in
    record { source = k.of.0; in' = subst (λ d. Contains cs (k.of.0, d)) same.1 k.in'; path = same.0 }

-- what a rule that is ready tests is somewhere
tested_there : (env : Environment) (t : Term) (p : Path) (c : Constraint) → IsTest env t p c → IsThere p
tested_there env t p constraint.Some h = option_there env t p h.0 h.1
tested_there env t p (constraint.ConstBool val) h = path_there env t p h.ty h.path
tested_there env t p (constraint.ConstInt val of) h = path_there env t p h.ty h.path
tested_there env t p (constraint.ConstPrim val) h = path_there env t p h.ty h.path
tested_there env t p (constraint.Variant of variant) h = path_there env t p h.ty h.path
tested_there env t p (constraint.Struct of) h = path_there env t p h.ty h.path

testable_there : (env : Environment) (t : Term) (ps : List Path) (before : List Test) (cs : List (BindingId × Constraint)) (c : BindingId × Constraint) → AreTestable env t ps before cs → Contains cs c → IsThere (at ps c.0)
testable_there env t ps before [] c h k = absurd (none_contained c k)
testable_there env t ps before (x ∷ cs) c h k = ⊎_elim
    (λ (e : x ≡ c). subst (λ (y : BindingId × Constraint). IsThere (at ps y.0)) e (tested_there env t (at ps x.0) x.1 h.0.test))
    (λ d. testable_there env t ps (is_test ps x ∷ before) cs c h.1 d) (contained_cases x cs c k)

not_equal : (ps : List Path) (es : List (BindingId × BindingId)) (p : Path) (c : Constraint) → Contains (map (equal_test ps) es) (Is p c) → ⊥
not_equal ps [] p c h = none_contained (Is p c) h
not_equal ps (x ∷ es) p c h = ⊎_elim (λ (e : equal_test ps x ≡ Is p c). cc) (λ d. not_equal ps es p c d) (contained_cases (equal_test ps x) (map (equal_test ps) es) (Is p c) h)

-- ---- names

among_names : (xs : List (List ℕ)) (name : List ℕ) → Contains xs name → is_among name xs ≡ true
among_names [] name c = absurd (none_contained name c)
among_names (x ∷ xs) name c = one (bytes_eq name x) refl (contained_cases x xs name c) (λ d. among_names xs name d)
  where
    one : (b : Bool) → bytes_eq name x ≡ b → (x ≡ name) ⊎ Contains xs name → (Contains xs name → is_among name xs ≡ true) → (b || is_among name xs) ≡ true
    one true is k later = refl
    one false is (inl e) later = let t : bytes_eq name x ≡ true = (bytes_eq-Decides name x).1 (sym e) in absurd cc
    one false is (inr d) later = later d

none_among : (xs : List (List ℕ)) (name : List ℕ) → AllByRecursion (λ (x : List ℕ). bytes_eq name x ≡ false) xs → is_among name xs ≡ false
none_among [] name h = refl
none_among (x ∷ xs) name h = ap (λ (b : Bool). b || is_among name xs) h.0 ∙ none_among xs name h.1

each_free : (xs : List (List ℕ)) (name : List ℕ) → list_any (bytes_eq name) xs ≡ false → (i : ℕ) (x : List ℕ) → slice_get xs i ≡ Some x → bytes_eq name x ≡ false
each_free [] name h i x e = absurd cc
each_free (y ∷ xs) name h i x e = one (bytes_eq name y) refl h i e (λ k j l. each_free xs name k j x l)
  where
    one : (b : Bool) → bytes_eq name y ≡ b → (b || list_any (bytes_eq name) xs) ≡ false → (j : ℕ) → slice_get (y ∷ xs) j ≡ Some x
        → (list_any (bytes_eq name) xs ≡ false → (k : ℕ) → slice_get xs k ≡ Some x → bytes_eq name x ≡ false) → bytes_eq name x ≡ false
    one true is k j l later = absurd cc
    one false is k zero l later = let same : y ≡ x = cc in subst (λ (z : List ℕ). bytes_eq name z ≡ false) same is
    one false is k (suc j) l later = later k j l

module _ (options : CodegenOptions) (files : Files) (env : Environment) (checked : IsChecked files env) (p : Program) (conforms : Conforms options files env p) where
  -- ---- the constant is in a function

  -- the rule that tests for the constant
  abbrev IsTriedIn : TermId → Term → Rule → Path → Sym → Type 0
  IsTriedIn id t r q c = is_several (kind_of t.kind) ≡ false → (g : Rule) → Contains (rules_of env id) g → TestsWithin env g r → Contains (rule_tests env g) (Is q (constraint.ConstPrim c)) ⊎ (is_below g r ≡ true)

  tried_of : (id : TermId) (t : Term) (r : Rule) (ps : List Path) (fs : List FlatRule) (n : ℕ) (f : FlatRule) (q : Path) (c : Sym) → AreFlat env ps (rules_of env id) 0 fs → IsFlat env ps r n f → (x : TestedAt ps f.constraints q (constraint.ConstPrim c)) → EachOnce ps → IsThere (at ps x.source)
      → IsTriedIn id t r q c → IsTried (is_several (kind_of t.kind)) fs f (x.source, constraint.ConstPrim c)
  tried_of id t r ps fs n f q c flat is x once there h = one (is_several (kind_of t.kind)) (λ e. h e)
    where
      one : (b : Bool) → (b ≡ false → (g : Rule) → Contains (rules_of env id) g → TestsWithin env g r → Contains (rule_tests env g) (Is q (constraint.ConstPrim c)) ⊎ (is_below g r ≡ true)) → IsTried b fs f (x.source, constraint.ConstPrim c)
      one true k = tt
      one false k = λ g i equals among.
          let of = rule_of env ps (rules_of env id) fs 0 g flat i in
          ⊎_elim
          (λ l. let stands = ⊎_elim (λ y. y) (λ y. absurd y) (of.is.tested (Is q (constraint.ConstPrim c)) l) in
          let there' = ⊎_elim (λ y. tested_at ps g.constraints q (constraint.ConstPrim c) y) (λ y. absurd (not_equal ps g.equals q (constraint.ConstPrim c) y)) (in_either (map (is_test ps) g.constraints) (map (equal_test ps) g.equals) (Is q (constraint.ConstPrim c)) stands) in
          let same : x.source.0 ≡ there'.source.0 = place_once ps x.source.0 there'.source.0 once there (x.path ∙ sym there'.path) in
          inl (subst (λ (m : ℕ). Contains g.constraints (record { 0 = m }, constraint.ConstPrim c)) (sym same) there'.in'))
          (λ l. inr (ap (λ (m : _). is_lt (int_cmp m f.prio)) of.is.prio ∙ ap (λ (m : _). is_lt (int_cmp of.rule.prio m)) is.prio ∙ l))
          (k refl of.rule of.there (tests_within env ps of.rule r of.at_place n g f of.is is equals among))

  in_function : (id : TermId) (f : Function) (r : Rule) (q : Path) (c : Sym) → IsFromBlock options files env id f → Contains (rules_of env id) r → Contains (rule_tests env r) (Is q (constraint.ConstPrim c))
      → ((t : Term) → slice_get env.terms id.0 ≡ Some t → IsTriedIn id t r q c) → Contains (body_names f.body) (sym_text env c)
  in_function id f r q c b there tests tried =
      let ps = paths_of b.set.bindings in
      let k = flat_of env ps (rules_of env id) b.set.rules 0 r b.stands.flat there in
      let found = ⊎_elim (λ l. l) (λ l. absurd l) (k.is.tested (Is q (constraint.ConstPrim c)) tests) in
      let x = ⊎_elim (λ l. tested_at ps k.flat.constraints q (constraint.ConstPrim c) l) (λ l. absurd (not_equal ps k.flat.equals q (constraint.ConstPrim c) l)) (in_either (map (is_test ps) k.flat.constraints) (map (equal_test ps) k.flat.equals) (Is q (constraint.ConstPrim c)) found) in
      let ready = set_serializable checked.defs env id b.term b.set checked.lawful.typed.typed b.found b.stands in
      let rule = all_at (IsSerializableRule env b.term ps) b.set.rules k.flat ready.rules k.there in
      let is_there = testable_there env b.term ps [] k.flat.constraints (x.source, constraint.ConstPrim c) rule.constraints x.in' in
      let is_tried = tried_of id b.term r ps b.set.rules k.at_place k.flat q c b.stands.flat k.is x b.stands.once is_there (tried b.term b.found) in
      function_names_it env b.term b.set.bindings x.source c options files b.block f b.lawful (b.makes k.flat x.source (constraint.ConstPrim c) k.there x.in' is_tried) (given_from options files env id f b)

  -- the function of each term with rules is among the functions
  with_function : (ids : List TermId) (fs : List Function) (id : TermId) (name : List ℕ) → AreFromBlocks options files env ids fs → Contains ids id → ((f : Function) → IsFromBlock options files env id f → Contains (body_names f.body) name) → Contains (function_names fs) name
  with_function [] fs id name b c h = absurd (none_contained id c)
  with_function (i ∷ ids) [] id name b c h = absurd b
  with_function (i ∷ ids) (f ∷ fs) id name b c h =
      ⊎_elim
      (λ (e : i ≡ id). Contains-append_left (body_names f.body) (function_names fs) name (h f (subst (λ (j : TermId). IsFromBlock options files env j f) e b.0)))
      (λ d. Contains-append_right (body_names f.body) (function_names fs) name (with_function ids fs id name b.1 d h))
      (contained_cases i ids id c)

  -- ---- no type that occurs has its name

  module _ (name : List ℕ) (apart : list_any (bytes_eq name) (emitted_names env.types env.types.types) ≡ false) (some : bytes_eq name [] ≡ false) where
    abbrev Free : List ℕ → Type 0
    Free x = bytes_eq name x ≡ false

    type_free : (ty : TypeId) → Free (type_text env ty)
    type_free ty = one (slice_get env.types.types ty.0) refl
      where
        one : (o : Option TypeDef) → slice_get env.types.types ty.0 ≡ o → Free (def_text env.types o)
        one None e = some
        one (Some d) e = each_free (emitted_names env.types env.types.types) name apart ty.0 (def_text env.types (Some d)) (slice_get-map (λ (x : TypeDef). def_text env.types (Some x)) env.types.types ty.0 ∙ ap (option_map (λ (x : TypeDef). def_text env.types (Some x))) e)

    both : (xs ys : List (List ℕ)) → AllByRecursion Free xs → AllByRecursion Free ys → AllByRecursion Free (xs ++ ys)
    both = all_append Free

    one_function : (a b : Function) → Some a ≡ Some b → a ≡ b
    one_function a b e = cc

    function_free : (id : TermId) (f : Function) → IsFromBlock options files env id f → AllByRecursion Free (function_types f)
    function_free id f b =
        let s = setting env b.term b.set.bindings in
        let same : function_of options files env b.term b.set.bindings b.block ≡ f = one_function _ f (sym (function_made options files env b.term b.set.bindings b.block b.lawful) ∙ given_from options files env id f b) in
        subst (λ (g : Function). AllByRecursion Free (function_types g)) same
        (both (param_types (map (parameter env) b.term.arg_tys)) _ (params_free env Free type_free b.term.arg_tys) (
          type_free b.term.ret_ty,
          block_holds own_types Free s Anything (types_made env Free type_free s refl) (manner_of options files s) (completed s [] b.block) [] [] (tail_in files env b.term b.block)
              (completed_ready s b.block b.lawful) (any_tested (completed s [] b.block)) (tail_free env Free type_free _ _ _ b.block),
        ))

    functions_free : (ids : List TermId) (fs : List Function) → AreFromBlocks options files env ids fs → AllByRecursion Free (flat_map function_types fs)
    functions_free [] [] b = tt
    functions_free (id ∷ ids) (f ∷ fs) b = both (function_types f) (flat_map function_types fs) (function_free id f b.0) (functions_free ids fs b.1)
    functions_free [] (f ∷ fs) b = absurd b
    functions_free (id ∷ ids) [] b = absurd b

    occurs_not : occurs p name ≡ false
    occurs_not = none_among (program_types p) name
        (both (flat_map item_types p.types) (flat_map trait_types p.trait_fns ++ flat_map function_types p.fns) (subst (λ (ts : List TypeItem). AllByRecursion Free (flat_map item_types ts)) (sym conforms.frame.types) (types_free env Free type_free))
        (both (flat_map trait_types p.trait_fns) (flat_map function_types p.fns) (subst (λ (fs : List TraitFn). AllByRecursion Free (flat_map trait_types fs)) (sym conforms.frame.trait_fns) (traits_free env Free type_free env.terms))
        (functions_free (with_rules env) p.fns conforms.functions.blocks)))

  -- ---- constants

  abbrev lawful : HasLawfulNames env
  lawful = lawful_names files env checked

  names : HasRustNames env
  names = has_rust_names _ env lawful.lawful (typed_parts checked.defs env checked.lawful.typed.typed)

  -- no type has the name of a declared constant
  no_type : (consts : List (Sym × TypeId)) (s : Sym) (ty : TypeId) → AllByRecursion (IsNoType env.types) consts → option_map (λ (c : Sym × TypeId). c.1) (find (λ (c : Sym × TypeId). c.0.0 == s.0) consts) ≡ Some ty
      → list_any (bytes_eq (sym_text env s)) (emitted_names env.types env.types.types) ≡ false
  no_type [] s ty h e = absurd cc
  no_type (c ∷ consts) s ty h e = one (c.0.0 == s.0) refl (λ k. no_type consts s ty h.1 k) e
    where
      one : (x : Bool) → (c.0.0 == s.0) ≡ x → (option_map (λ (d : Sym × TypeId). d.1) (find (λ (d : Sym × TypeId). d.0.0 == s.0) consts) ≡ Some ty → list_any (bytes_eq (sym_text env s)) (emitted_names env.types env.types.types) ≡ false)
          → option_map (λ (d : Sym × TypeId). d.1) (cond x (Some c) (find (λ (d : Sym × TypeId). d.0.0 == s.0) consts)) ≡ Some ty → list_any (bytes_eq (sym_text env s)) (emitted_names env.types env.types.types) ≡ false
      one true is later here = subst (λ (n : ℕ). list_any (bytes_eq (sym_text env (record { 0 = n }))) (emitted_names env.types env.types.types) ≡ false) ((Decides-eqb c.0.0 s.0).0 is) h.0
      one false is later here = later here

  nonempty : (w : List ℕ) → begins w ≡ true → bytes_eq w [] ≡ false
  nonempty [] h = absurd cc
  nonempty (b ∷ bs) h = refl

  both_true : (a b : Bool) → a ≡ true → b ≡ false → (a && not b) ≡ true
  both_true a b e k = rw (e, k) refl

  -- a declared constant that stands in a function stands in the program
  function_stands : (name : List ℕ) (ty : TypeId) → IsNameOf env ty name → Contains (function_names p.fns) name → has_constant p name ≡ true
  function_stands name ty named there =
      let s = named.0 in
      let text : sym_text env s ≡ name = named.2 in
      let free = subst (λ (n : List ℕ). list_any (bytes_eq n) (emitted_names env.types env.types.types) ≡ false) text (no_type env.types.consts s ty lawful.lawful.apart.constants named.1) in
      let some = subst (λ (n : List ℕ). bytes_eq n [] ≡ false) text (nonempty (sym_text env s) (names.constants s ty named.1).identifier.begins) in
      both_true (is_among name (function_names p.fns)) (occurs p name) (among_names (function_names p.fns) name there) (occurs_not name free some)

  -- one that a rule tests for, which is tried, or that stands in what a rule gives, which is reached, stands in a function
  in_some_function : (name : List ℕ) → IsUsedFor env name → Contains (function_names p.fns) name
  in_some_function name (inl tested) =
      with_function (with_rules env) p.fns tested.id name conforms.functions.blocks tested.ruled
      (λ f b. subst (Contains (body_names f.body)) tested.named (in_function tested.id f tested.rule tested.path tested.constant b tested.there tested.tests tested.tried))
  in_some_function name (inr given) =
      with_function (with_rules env) p.fns given.id name conforms.functions.blocks given.ruled
      (λ f b. subst (Contains (body_names f.body)) given.named (given_in_function options files env given.id f given.place given.rule given.constant b given.there given.stands given.reached))

  -- so do all that are right
  pub used_stand : (consts : List (List ℕ × Value)) → AreRightConstants env [] consts → AllByRecursion (λ (c : List ℕ × Value). IsUsedFor env c.0) consts → AllByRecursion (λ (c : List ℕ × Value). has_constant p c.0 ≡ true) consts
  used_stand consts right used = all_stand consts (each_declared env [] consts right) used
    where
      all_stand : (cs : List (List ℕ × Value)) → AllByRecursion (λ (c : List ℕ × Value). IsConstantValue env c.0 c.1) cs → AllByRecursion (λ (c : List ℕ × Value). IsUsedFor env c.0) cs → AllByRecursion (λ (c : List ℕ × Value). has_constant p c.0 ≡ true) cs
      all_stand [] h k = tt
      all_stand (c ∷ cs) h k = (function_stands c.0 h.0.0 h.0.1 (in_some_function c.0 k.0), all_stand cs h.1 k.1)
