-- The functions of an environment are well formed, and mean its rules.
use Rattle.std.proofs.Common.{◌≡◌, ℕ, suc, List, [], ◌∷◌, map, Some, refl, sym, ap, ◌∙◌, subst}
use Rattle.std.specs.Prelude.{All, Contains, slice_get}
use Rattle.std.specs.List.{AllByRecursion, IsDistinct}
use Rattle.std.specs.Str.{bytes_eq}
use Rattle.std.proofs.lemmas.List.Elements.{recursion_from_All}
use Rattle.isle_core.specs.declared.options.CodegenOptions.{CodegenOptions}
use Rattle.isle_core.specs.declared.TermId.{TermId}
use Rattle.isle_core.specs.declared.files.Files.{Files}
use Rattle.isle_core.specs.declared.rule_sets.RuleSet.{RuleSet}
use Rattle.isle_core.specs.declared.types.Term.{Term}
use Rattle.isle_core.specs.Served.{IsTested}
use Rattle.isle_core.specs.StandsFor.{StandsFor}
use Rattle.isle_core.specs.Terms.{term_name, with_rules}
use Rattle.isle_core.specs.Setting.{setting}
use Rattle.isle_core.specs.Rule.{Environment, Rule, rules_of}
use Rattle.isle_ast.specs.Tree.{Def}
use Rattle.isle_checks.specs.CheckList.{IsClean}
use Rattle.isle_rulesets.specs.Grouping.{AreRuleSets}
use Rattle.isle_sema.specs.Typing.{Typed}
use Rattle.isle_sema.proofs.SerializableRules.{set_serializable}
use Rattle.isle_sema.proofs.TypedTerms.{typed_names, typed_types}
use Rattle.isle_blocks.proofs.LawReturns.{tests_positions}
use Rattle.isle_blocks.proofs.OnceCalls.{set_orders_once}
use Rattle.isle_tree.specs.Program.{Function, Program}
use Rattle.isle_tree.specs.Run.{function_of}
use Rattle.isle_tree.specs.WellFormed.{IsTraitFn, fn_names, declared_names, callables, IsFunction, IsTypeItem, IsWellFormed}
use Rattle.isle_tree.specs.declared.tree.TraitFn.{TraitFn}
use Rattle.isle_tree.specs.declared.tree.TypeItem.{TypeItem}
use Rattle.isle_codegen.specs.Emits.{CanEmit, AreEmitted}
use Rattle.isle_simulation.specs.Emitted.{IsEmittable}
use Rattle.isle_simulation.specs.TermFns.{callables_of, HasTermFns}
use Rattle.isle_simulation.specs.TraitFns.{trait_fns_of, HasFnNames}
use Rattle.isle_simulation.proofs.StatementsAre.{function_is}
use Rattle.isle_simulation.proofs.EmittedHeads.{callables_are}
use Rattle.isle_simulation.proofs.TraitFnForms.{HasNamedTypes, fns_are}
use Rattle.isle_simulation.specs.OfTerm.{AreDeclared}
use Rattle.isle_core.specs.BuiltRule.{IsBuiltRule, CallsBuiltTerms}
use Rattle.isle_core.proofs.LawfulExists.{lawful_with}
use Rattle.isle_codegen.specs.FromBlock.{AreFromBlocks}
use Rattle.isle_codegen.specs.Asking.{AsksPaths}
use Rattle.isle_codegen.specs.Meant.{IsMeant}
use Rattle.isle_lawful_names.specs.Claims.{is_ruled}
use Rattle.isle_codegen.specs.Headline.{FunctionsMean}
use Rattle.isle_codegen.proofs.AskedPaths.{asks_paths}
use Rattle.isle_codegen.proofs.EmittedNames.{emitted_names, distinct_names}
use Rattle.isle_codegen.proofs.MeanRules.{HasFunction, has_function, means_rules, of_term}
use Rattle.isle_codegen.proofs.CalledTerms.{bound_called}
use Rattle.isle_codegen.proofs.InhabitedTypes.{inhabited_valued}
use Rattle.isle_codegen.proofs.TypedNames.{typed_parts}
use Rattle.isle_lawful_names.specs.LawfulNames.{AreLawful}
use Rattle.isle_lawful_names.specs.TypeItems.{type_items_of}
use Rattle.isle_lawful_names.proofs.HasRustNames.{has_rust_names}
use Rattle.isle_lawful_names.proofs.ItemLaws.{items_are, items_apart}
use Rattle.isle_lawful_names.proofs.TextLaws.{texts_are}
use Rattle.isle_sema.proofs.BuiltRules.{typed_built, typed_terms, typed_tests}
use Rattle.isle_codegen.proofs.Answerable.{values_of, answerable}
use Rattle.isle_simulation.proofs.GivenFunctions.{emitted_well_formed, has_shape, of_its_term, function_calls, its_lines}
use Rattle.isle_codegen.proofs.RulePositions.{returns_of_rules}
use Rattle.isle_core.specs.Path.{paths_of}
use Rattle.isle_core.specs.ReturnPositions.{return_positions}
use Rattle.isle_core.proofs.OptionLaws.{some_same}

-- each function is of its term
are_declared : (options : CodegenOptions) (files : Files) (env : Environment) (sets : List (TermId × RuleSet)) (fs : List Function) → AreEmitted options files env sets fs → AreDeclared files env (map (λ (s : TermId × RuleSet). s.0) sets) fs
are_declared options files env [] [] h = tt
are_declared options files env (s ∷ sets) (f ∷ fs) h = (
  record {
    term = h.0.term;
    found = h.0.found;
    of_term = of_its_term options files env h.0.term s.1.bindings h.0.block f h.0.lawful h.0.given;
  },
  are_declared options files env sets fs h.1,
)
are_declared options files env [] (f ∷ fs) h = absurd h
are_declared options files env (s ∷ sets) [] h = absurd h

-- each function is made from a block
are_from_blocks : (options : CodegenOptions) (files : Files) (env : Environment) (sets : List (TermId × RuleSet)) (fs : List Function) → AllByRecursion (λ (s : TermId × RuleSet). StandsFor env s.1 (rules_of env s.0)) sets → AreEmitted options files env sets fs
    → AreFromBlocks options files env (map (λ (s : TermId × RuleSet). s.0) sets) fs
are_from_blocks options files env [] [] stand h = tt
are_from_blocks options files env (s ∷ sets) (f ∷ fs) stand h = (
  record {
    term = h.0.term;
    found = h.0.found;
    set = s.1;
    stands = stand.0;
    block = h.0.block;
    lawful = h.0.lawful;
    merged = h.0.merged;
    loops = h.0.loops;
    means = h.0.means;
    shape = has_shape options files env h.0.term s.1.bindings h.0.block f h.0.lawful h.0.given;
    statements = function_is options files (setting env h.0.term s.1.bindings) h.0.block f h.0.lawful h.0.given;
    lines = its_lines options files env h.0.term s.1.bindings h.0.block f h.0.lawful h.0.given;
    tests = h.0.tests;
    makes = h.0.makes;
    gives = h.0.gives;
    returns = returns_of_rules env (paths_of s.1.bindings) (rules_of env s.0) s.1.rules 0 (return_positions h.0.block) stand.0.flat (tests_positions s.1 h.0.block h.0.tests);
    calls = λ callee c. bound_called env s.0 s.1 stand.0 callee (function_calls options files env h.0.term s.1.bindings h.0.block f h.0.lawful h.0.given callee c);
  },
  are_from_blocks options files env sets fs stand.1 h.1,
)
are_from_blocks options files env [] (f ∷ fs) stand h = absurd h
are_from_blocks options files env (s ∷ sets) [] stand h = absurd h

-- each is well formed
are_well_formed : (options : CodegenOptions) (files : Files) (env : Environment) (p : Program) (sets : List (TermId × RuleSet)) (fs : List Function) → callables p ≡ callables_of env → AllByRecursion (CanEmit files env) sets → AreEmitted options files env sets fs → AllByRecursion (IsFunction p) fs
are_well_formed options files env p [] [] same c h = tt
are_well_formed options files env p (s ∷ sets) (f ∷ fs) same c h =
    let e : IsEmittable env h.0.term = subst (IsEmittable env) (some_same c.0.term h.0.term (sym c.0.found ∙ h.0.found)) c.0.emittable in (
      emitted_well_formed options files env h.0.term s.1.bindings h.0.block f h.0.lawful h.0.given e c.0.names c.0.fns c.0.term_fns p same,
      are_well_formed options files env p sets fs same c.1 h.1,
    )
are_well_formed options files env p [] (f ∷ fs) same c h = absurd h
are_well_formed options files env p (s ∷ sets) [] same c h = absurd h

-- the types of all terms have names of Rust
named_types : (defs : List Def) (env : Environment) → Typed defs env → AreLawful (is_ruled env.rules) env.types → AllByRecursion (HasNamedTypes env) env.terms
named_types defs env typed lawful = each env.terms (λ i t e. texts_are (is_ruled env.rules) env (t.ret_ty ∷ t.arg_tys) lawful (typed_types defs env i t typed e))
  where
    each : (ts : List Term) → ((i : ℕ) (t : Term) → slice_get ts i ≡ Some t → HasNamedTypes env t) → AllByRecursion (HasNamedTypes env) ts
    each [] h = tt
    each (t ∷ ts) h = (h 0 t refl, each ts (λ i u e. h (suc i) u e))

module _ (defs : List Def) (options : CodegenOptions) (files : Files) (env : Environment) (typed : Typed defs env) (clean : IsClean env) (sets : List (TermId × RuleSet)) (stand : AreRuleSets env sets) (fs : List Function) (emitted : AreEmitted options files env sets fs) where
  names_of : map (λ (f : Function). f.term) fs ≡ map (term_name env) (with_rules env)
  names_of = emitted_names options files env sets fs emitted ∙ ap (map (term_name env)) stand.ids

  distinct : IsDistinct bytes_eq (map (λ (f : Function). f.term) fs)
  distinct = subst (IsDistinct bytes_eq) (sym names_of) (distinct_names env (typed_names defs env typed))

  -- the functions of a program that are these
  declared_in : (p : Program) → p.fns ≡ fs → AreDeclared files env (with_rules env) p.fns
  declared_in p e = subst (λ (xs : List Function). AreDeclared files env (with_rules env) xs) (sym e) (subst (λ (ids : List TermId). AreDeclared files env ids fs) stand.ids (are_declared options files env sets fs emitted))

  -- a program of these functions, those of the trait and the declared types is well formed
  pub program_well_formed : (p : Program) → HasFnNames env → AreLawful (is_ruled env.rules) env.types → p.trait_fns ≡ trait_fns_of env → p.types ≡ type_items_of env → p.fns ≡ fs → AllByRecursion (CanEmit files env) sets → IsWellFormed p
  program_well_formed p names lawful a b e c =
      record {
        trait_fns = subst (AllByRecursion IsTraitFn) (sym a) (fns_are env env.terms names.identifiers (named_types defs env typed lawful));
        types = subst (AllByRecursion IsTypeItem) (sym b) (items_are (is_ruled env.rules) env.types lawful (typed_parts defs env typed).types);
        fns = subst (AllByRecursion (IsFunction p)) (sym e) (are_well_formed options files env p sets fs (callables_are files env p a (declared_in p e)) c emitted);
        distinct = subst (λ (xs : List Function). IsDistinct bytes_eq (map (λ (f : Function). f.term) xs)) (sym e) distinct;
        trait_names = subst (λ (xs : List TraitFn). IsDistinct bytes_eq (fn_names xs)) (sym a) names.distinct;
        type_names = subst (λ (xs : List TypeItem). IsDistinct bytes_eq (declared_names xs)) (sym b) (items_apart (is_ruled env.rules) env.types lawful);
      }

  -- the function of each term with rules
  function_for : (id : TermId) → Contains (with_rules env) id → HasFunction options files env fs id
  function_for id c =
      has_function options files env sets fs id emitted (recursion_from_All (λ (s : TermId × RuleSet). StandsFor env s.1 (rules_of env s.0)) sets stand.stand) distinct
      (subst (λ (ids : List TermId). Contains ids id) (sym stand.ids) c)

  -- there is something to say of each term
  meant_of : HasFnNames env → (id : TermId) (t : Term) → slice_get env.terms id.0 ≡ Some t → IsMeant env id
  meant_of names id t there = record {
    term = t;
    found = there;
    arguments = values_of env t.arg_tys;
    meanings = λ none values h history. lawful_with env id h (answerable env (rules_of env id) names (typed_names defs env typed) (of_rules (IsBuiltRule env.terms) (typed_built defs env typed)) (of_rules (CallsBuiltTerms env.terms) (typed_terms defs env typed)) values) none history;
  }
    where
      of_rules : (P : Rule → Type 0) → All P env.rules → AllByRecursion P (rules_of env id)
      of_rules P k = recursion_from_All P (rules_of env id) (of_term P env id k)

  -- a run of the function of a term asks no more than its rules have paths
  asks_of : (p : Program) (id : TermId) → p.fns ≡ fs → HasFunction options files env fs id → AsksPaths env p id
  asks_of p id e h =
      let t = h.emitted.term in
      let there = h.emitted.found in
      asks_paths options files env p id t t.arg_tys h.set h.emitted.block h.function (ap (function_of (term_name env id)) e ∙ h.found) h.emitted.given h.stands (set_serializable defs env id t h.set typed there h.stands)
      (recursion_from_All (IsTested env t.arg_tys) (rules_of env id) (typed_tests defs env id t typed there)) (h.emitted.asks (set_orders_once env h.set (rules_of env id) h.stands))

  -- and its functions mean the rules
  pub program_means : (p : Program) → HasFnNames env → HasTermFns env → AreLawful (is_ruled env.rules) env.types → p.fns ≡ fs → FunctionsMean options files env p
  program_means p names term_fns lawful e =
      record {
        names = ap (map (λ (f : Function). f.term)) e ∙ names_of;
        declared = declared_in p e;
        blocks = subst (λ (xs : List Function). AreFromBlocks options files env (with_rules env) xs) (sym e) (subst (λ (ids : List TermId). AreFromBlocks options files env ids fs) stand.ids (are_from_blocks options files env sets fs (recursion_from_All (λ (s : TermId × RuleSet). StandsFor env s.1 (rules_of env s.0)) sets stand.stand) emitted));
        mean = λ id c. means_rules defs options files env p id typed clean (has_rust_names (is_ruled env.rules) env lawful (typed_parts defs env typed)) names term_fns c (subst (λ (xs : List Function). HasFunction options files env xs id) (sym e) (function_for id c));
        meant = λ id c. meant_of names id (function_for id c).emitted.term (function_for id c).emitted.found;
        values = inhabited_valued env (typed_parts defs env typed).variants;
        asks = λ id c. asks_of p id e (function_for id c);
      }
