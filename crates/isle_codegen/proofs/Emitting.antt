-- The terms with rules of an environment can be emitted.
use Rattle.std.proofs.Common.{◌≡◌, ℕ, zero, suc, List, [], ◌∷◌, map, true, Some, ap, ◌∙◌, subst}
use Rattle.std.specs.Prelude.{IsTrue, Contains, slice_get}
use Rattle.std.specs.List.{AllByRecursion, list_all}
use Rattle.std.proofs.lemmas.Bool.{and_parts}
use Rattle.std.proofs.lemmas.List.Elements.{recursion_from_All}
use Rattle.isle_core.specs.declared.TermId.{TermId}
use Rattle.isle_core.specs.declared.files.Files.{Files}
use Rattle.isle_core.specs.declared.rule_sets.RuleSet.{RuleSet}
use Rattle.isle_core.specs.declared.types.Term.{Term}
use Rattle.isle_core.specs.Places.{LiesIn}
use Rattle.isle_core.specs.StandsFor.{StandsFor}
use Rattle.isle_core.specs.Terms.{term_name, with_rules}
use Rattle.isle_core.specs.Rule.{Environment, rules_of}
use Rattle.isle_core.proofs.Contained.{head_contained, tail_contained}
use Rattle.isle_core.proofs.OptionLaws.{some_same}
use Rattle.isle_ast.specs.Tree.{Def}
use Rattle.isle_lawful_names.specs.LawfulNames.{AreLawful}
use Rattle.isle_lawful_names.proofs.HasRustNames.{has_rust_names}
use Rattle.isle_lawful_names.proofs.TextLaws.{texts_are}
use Rattle.isle_rulesets.specs.Grouping.{AreRuleSets}
use Rattle.isle_sema.specs.Typing.{Typed}
use Rattle.isle_sema.proofs.SerializableRules.{set_serializable}
use Rattle.isle_sema.proofs.TypedTerms.{typed_types, typed_there}
use Rattle.isle_lawful_names.specs.Words.{is_term_name}
use Rattle.isle_lawful_names.specs.Claims.{is_ruled}
use Rattle.isle_codegen.proofs.Compilable.{are_term_names}
use Rattle.isle_codegen.specs.Emission.{ArePlaced}
use Rattle.isle_simulation.specs.TermFns.{HasTermFns}
use Rattle.isle_simulation.specs.TraitFns.{HasFnNames}
use Rattle.isle_codegen.specs.Emits.{CanEmit}
use Rattle.isle_codegen.proofs.EmittedNames.{name_of_term}
use Rattle.isle_codegen.proofs.ReadLists.{set_lists}
use Rattle.isle_codegen.proofs.TypedNames.{typed_parts}

placed_at : (files : Files) (ts : List Term) (i : ℕ) (t : Term) → AllByRecursion (λ (u : Term). LiesIn files u.decl_pos) ts → slice_get ts i ≡ Some t → LiesIn files t.decl_pos
placed_at files [] i t h e = cc
placed_at files (u ∷ ts) zero t h e = subst (λ (x : Term). LiesIn files x.decl_pos) (some_same u t e) h.0
placed_at files (u ∷ ts) (suc i) t h e = placed_at files ts i t h.1 e

-- a term of those with rules, its name and its rule set
one : (defs : List Def) (files : Files) (env : Environment) (s : TermId × RuleSet) → Typed defs env → ArePlaced files env → Contains (with_rules env) s.0
    → is_term_name (term_name env s.0) ≡ true → HasFnNames env → HasTermFns env → AreLawful (is_ruled env.rules) env.types → StandsFor env s.1 (rules_of env s.0) → CanEmit files env s
one defs files env s h placed c name fns term_fns lawful stands =
    let t = typed_there defs env s.0 h c in
    record {
      term = t.0;
      found = t.1;
      placed = placed_at files env.terms s.0.0 t.0 placed t.1;
      emittable = record { name = subst (λ n. IsTrue (is_term_name n)) (name_of_term env s.0 t.0 t.1) name; types = texts_are (is_ruled env.rules) env (t.0.ret_ty ∷ t.0.arg_tys) lawful (typed_types defs env s.0.0 t.0 h t.1) };
      ready = set_serializable defs env s.0 t.0 s.1 h t.1 stands;
      lists = set_lists defs env s.0 t.0 s.1 h t.1 stands;
      fns = fns;
      term_fns = term_fns;
      names = has_rust_names (is_ruled env.rules) env lawful (typed_parts defs env h);
    }

module _ (defs : List Def) (files : Files) (env : Environment) (typed : Typed defs env) (placed : ArePlaced files env) (fns : HasFnNames env) (term_fns : HasTermFns env) (lawful : AreLawful (is_ruled env.rules) env.types) where
  each : (sets : List (TermId × RuleSet)) → ((id : TermId) → Contains (map (λ (s : TermId × RuleSet). s.0) sets) id → Contains (with_rules env) id)
      → list_all (λ (id : TermId). is_term_name (term_name env id)) (map (λ (s : TermId × RuleSet). s.0) sets) ≡ true
      → AllByRecursion (λ (s : TermId × RuleSet). StandsFor env s.1 (rules_of env s.0)) sets → AllByRecursion (CanEmit files env) sets
  each [] among names stand = tt
  each (s ∷ sets) among names stand =
      let both = and_parts (is_term_name (term_name env s.0)) (list_all (λ (id : TermId). is_term_name (term_name env id)) (map (λ (x : TermId × RuleSet). x.0) sets)) names in (
        one defs files env s typed placed (among s.0 (head_contained s.0 (map (λ (x : TermId × RuleSet). x.0) sets))) both.0 fns term_fns lawful stand.0,
        each sets (λ id c. among id (tail_contained s.0 (map (λ (x : TermId × RuleSet). x.0) sets) id c)) both.1 stand.1,
      )

  -- each term with rules can be emitted
  pub can_emit : (sets : List (TermId × RuleSet)) → are_term_names env ≡ true → AreRuleSets env sets → AllByRecursion (CanEmit files env) sets
  can_emit sets names h =
      each sets (λ id c. subst (λ (ids : List TermId). Contains ids id) h.ids c)
      (ap (list_all (λ (id : TermId). is_term_name (term_name env id))) h.ids ∙ names)
      (recursion_from_All (λ (s : TermId × RuleSet). StandsFor env s.1 (rules_of env s.0)) sets h.stand)
