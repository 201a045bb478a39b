-- The functions of an environment mean its rules.
use Rattle.std.proofs.Common.{◌≡◌, ℕ, List, [], ◌∷◌, map, Bool, true, false, cond, Option, Some, None, refl, sym, ap, ◌∙◌, subst, ⊎_elim, true≢false}
use Rattle.std.specs.Prelude.{Contains, All, IsSomeAnd, filter, option_map, ◌==◌}
use Rattle.std.proofs.lemmas.List.Elements.{All-from_recursion, recursion_from_All}
use Rattle.std.proofs.lemmas.Slice.Eq.{bytes_eq-Decides}
use Rattle.std.specs.List.{AllByRecursion, IsDistinct}
use Rattle.std.specs.Str.{bytes_eq}
use Rattle.isle_core.specs.declared.options.CodegenOptions.{CodegenOptions}
use Rattle.isle_core.specs.declared.TermId.{TermId}
use Rattle.isle_core.specs.declared.files.Files.{Files}
use Rattle.isle_core.specs.declared.rule_sets.RuleSet.{RuleSet}
use Rattle.isle_core.specs.declared.types.ReturnKind.{ReturnKind}
use Rattle.isle_core.specs.declared.types.ReturnKind.TheVariants as return_kind
use Rattle.isle_core.specs.declared.types.Term.{Term}
use Rattle.isle_core.specs.Value.{Value, End, Ran}
use Rattle.isle_core.specs.Meaning.{Meaning}
use Rattle.isle_core.specs.HasType.{HaveTypes}
use Rattle.isle_core.specs.Nameless.{nameless_end, nameless_ran}
use Rattle.isle_core.specs.Lawful.{IsLawful}
use Rattle.isle_core.specs.HighestMatch.{outcome_of}
use Rattle.isle_core.specs.Calling.{is_several, kind_of, AnswersOnce}
use Rattle.isle_core.specs.Outcome.{Prescription, Prescribed}
use Rattle.isle_core.specs.Path.{paths_of}
use Rattle.isle_core.specs.BlockRun.{block_outcome}
use Rattle.isle_core.specs.StandsFor.{StandsFor}
use Rattle.isle_core.specs.SeveralRun.{several_outcome}
use Rattle.isle_core.specs.Terms.{sym_text, term_name, with_rules}
use Rattle.isle_core.specs.Rule.{Environment, Rule, rules_of}
use Rattle.isle_core.specs.BuiltRule.{IsBuiltRule, CallsBuiltTerms}
use Rattle.isle_core.specs.Scope.{IsScopedRule}
use Rattle.isle_core.specs.Served.{IsTested, AreServedRules, IsServedSet}
use Rattle.isle_core.proofs.Contained.{head_contained, tail_contained, contained_cases, none_contained}
use Rattle.isle_core.proofs.OutcomeOf.{outcome_prescribed, highest_is_one}
use Rattle.isle_core.proofs.OutcomeOnce.{prescribed_once}
use Rattle.isle_core.proofs.SetMeans.{set_means}
use Rattle.isle_printer.specs.Bytes.{same_bytes}
use Rattle.isle_printer.proofs.Bytes.{same_bytes_refl, same_bytes_sound}
use Rattle.isle_ast.specs.Tree.{Def}
use Rattle.isle_sema.specs.Typing.{Typed}
use Rattle.isle_sema.proofs.OftenRules.{typed_single}
use Rattle.isle_sema.proofs.BuiltRules.{typed_built, typed_scoped, typed_terms, typed_tests}
use Rattle.isle_checks.specs.CheckList.{IsClean}
use Rattle.isle_codegen.proofs.RulesApart.{rules_apart, flat_apart, set_apart}
use Rattle.isle_tree.specs.Program.{Function, Program}
use Rattle.isle_tree.specs.Run.{run, function_of}
use Rattle.isle_codegen.specs.Emits.{IsEmitted, AreEmitted}
use Rattle.isle_simulation.specs.Emitted.{ran_of, ran_with, impure_ran, AreSameRuns}
use Rattle.isle_simulation.specs.Ends.{end_of}
use Rattle.isle_simulation.specs.RustNames.{HasRustNames}
use Rattle.isle_simulation.specs.TermFns.{HasTermFns}
use Rattle.isle_simulation.specs.TraitFns.{HasFnNames}
use Rattle.isle_codegen.specs.Headline.{GivesAs, GivesOutcome, GivesFirst, GivesRules, MeansRules}
use Rattle.isle_simulation.proofs.GivenFunctions.{runs_as_block, runs_as_several}
use Rattle.isle_simulation.proofs.Simulation.{ends_as}
use Rattle.isle_codegen.proofs.CalledTerms.{bindings_answered}
use Rattle.isle_codegen.proofs.EmittedNames.{name_of_term, emitted_name}

-- ---- the function of a term is found by its name

-- the function that is found by a term's name is emitted for a rule set that stands for the term's rules
pub record HasFunction (options : CodegenOptions) (files : Files) (env : Environment) (fs : List Function) (id : TermId) : Type 0 where
  pub set : RuleSet
  pub stands : StandsFor env set (rules_of env id)
  pub function : Function
  pub emitted : IsEmitted options files env id set function
  pub found : function_of (term_name env id) fs ≡ Some function
  pub among : Contains (map (λ (f : Function). f.term) fs) (term_name env id)

of_all : (P : List ℕ → Type 0) (xs : List (List ℕ)) (y : List ℕ) → AllByRecursion P xs → Contains xs y → P y
of_all P [] y h c = absurd (none_contained y c)
of_all P (x ∷ xs) y h c = ⊎_elim (λ e. subst P e h.0) (λ k. of_all P xs y h.1 k) (contained_cases x xs y c)

first_found : (name : List ℕ) (f : Function) (fs : List Function) → f.term ≡ name → function_of name (f ∷ fs) ≡ Some f
first_found name f fs e = rw (e, same_bytes_refl name) refl

later_found : (name : List ℕ) (f g : Function) (fs : List Function) (b : Bool) → same_bytes name f.term ≡ b → bytes_eq f.term name ≡ false → function_of name fs ≡ Some g → function_of name (f ∷ fs) ≡ Some g
later_found name f g fs false e differ h = rw e h
later_found name f g fs true e differ h =
    absurd (differs name (subst (λ (x : List ℕ). bytes_eq x name ≡ false) (sym (same_bytes_sound name f.term e)) differ))
  where
    differs : (x : List ℕ) → bytes_eq x x ≡ false → ⊥
    differs x k = let same : bytes_eq x x ≡ true = (bytes_eq-Decides x x).1 refl in cc

module _ (options : CodegenOptions) (files : Files) (env : Environment) (f : Function) (fs : List Function) (id : TermId) where
  here_found : (s : TermId × RuleSet) → IsEmitted options files env s.0 s.1 f → StandsFor env s.1 (rules_of env s.0) → s.0 ≡ id → HasFunction options files env (f ∷ fs) id
  here_found s e st same = subst (HasFunction options files env (f ∷ fs)) same (record {
    set = s.1;
    stands = st;
    function = f;
    emitted = e;
    found = first_found (term_name env s.0) f fs (emitted_name options files env s.0 s.1 f e);
    among = subst (Contains (map (λ (g : Function). g.term) (f ∷ fs))) (emitted_name options files env s.0 s.1 f e) (head_contained f.term (map (λ (g : Function). g.term) fs));
  })

  behind_found : AllByRecursion (λ y. bytes_eq f.term y ≡ false) (map (λ (g : Function). g.term) fs) → HasFunction options files env fs id → HasFunction options files env (f ∷ fs) id
  behind_found d h = record {
    set = h.set;
    stands = h.stands;
    function = h.function;
    emitted = h.emitted;
    found = later_found (term_name env id) f h.function fs (same_bytes (term_name env id) f.term) refl (of_all (λ y. bytes_eq f.term y ≡ false) (map (λ (g : Function). g.term) fs) (term_name env id) d h.among) h.found;
    among = tail_contained f.term (map (λ (g : Function). g.term) fs) (term_name env id) h.among;
  }

-- the function of each term that is listed is found
pub has_function : (options : CodegenOptions) (files : Files) (env : Environment) (sets : List (TermId × RuleSet)) (fs : List Function) (id : TermId) → AreEmitted options files env sets fs
    → AllByRecursion (λ (s : TermId × RuleSet). StandsFor env s.1 (rules_of env s.0)) sets → IsDistinct bytes_eq (map (λ (f : Function). f.term) fs)
    → Contains (map (λ (s : TermId × RuleSet). s.0) sets) id → HasFunction options files env fs id
unfolding IsDistinct
has_function options files env [] [] id e st d c = absurd (none_contained id c)
has_function options files env (s ∷ sets) (f ∷ fs) id e st d c =
    ⊎_elim (here_found options files env f fs id s e.0 st.0) (λ k. behind_found options files env f fs id d.0 (has_function options files env sets fs id e.1 st.1 d.1 k))
    (contained_cases s.0 (map (λ (x : TermId × RuleSet). x.0) sets) id c)
has_function options files env [] (f ∷ fs) id e st d c = absurd e
has_function options files env (s ∷ sets) [] id e st d c = absurd e

-- ---- it gives what the rules prescribe

one_run : (r q : Ran) → Some r ≡ Some q → r ≡ q
one_run r q e = cc

-- what a run gives that is one with the outcome, but for names
gives_as : (env : Environment) (t : Term) (o : Prescription) (r : Option Ran) → AnswersOnce (kind_of t.kind) → AreSameRuns env r (ran_of t o) → IsSomeAnd r (GivesAs env (kind_of t.kind) o)
gives_as env t o r once same = by r (end_of (kind_of t.kind) o.result) _ refl (ends_as (kind_of t.kind) once o.result) same
  where
    by : (r : Option Ran) (x : Option End) (e : End) → end_of (kind_of t.kind) o.result ≡ x → x ≡ Some e → AreSameRuns env r (option_map (ran_with o.calls) x) → IsSomeAnd r (GivesAs env (kind_of t.kind) o)
    by r None e is ends same = cc
    by None (Some x) e is ends same = cc
    by (Some q) (Some x) e is ends same =
        let one : nameless_ran (impure_ran env q) ≡ nameless_ran (ran_with o.calls x) = one_run (nameless_ran (impure_ran env q)) (nameless_ran (ran_with o.calls x)) same in
        record {
          end = ap (option_map nameless_end) is ∙ ap (λ (y : Ran). Some y.end) (sym one);
          calls = ap (λ (y : Ran). y.calls) one;
        }

pick_all : (P : Rule → Type 0) (r : Rule) (rs : List Rule) (b : Bool) → P r → AllByRecursion P rs → AllByRecursion P (cond b (r ∷ rs) rs)
pick_all P r rs true h k = (h, k)
pick_all P r rs false h k = k

keep_all : (P : Rule → Type 0) (keep : Rule → Bool) (rs : List Rule) → AllByRecursion P rs → AllByRecursion P (filter keep rs)
keep_all P keep [] h = tt
keep_all P keep (r ∷ rs) h = pick_all P r (filter keep rs) (keep r) h.0 (keep_all P keep rs h.1)

-- what is so of all rules is so of those of one term
pub of_term : (P : Rule → Type 0) (env : Environment) (id : TermId) → All P env.rules → All P (rules_of env id)
of_term P env id h = All-from_recursion P (rules_of env id) (keep_all P (λ (r : Rule). r.root_term.0 == id.0) env.rules (recursion_from_All P env.rules h))

-- what doesn't answer several times answers at most once
answers_once : (kind : ReturnKind) → is_several kind ≡ false → AnswersOnce kind
answers_once return_kind.Plain h = tt
answers_once return_kind.Option h = tt
answers_once return_kind.Iterator h = absurd (true≢false h)

module _ (defs : List Def) (options : CodegenOptions) (files : Files) (env : Environment) (p : Program) (id : TermId) (typed : Typed defs env) (clean : IsClean env) (names : HasRustNames env) (fns : HasFnNames env) (term_fns : HasTermFns env) (listed : Contains (with_rules env) id) (h : HasFunction options files env p.fns id) where
  abbrev the_term : Term
  the_term = h.emitted.term

  abbrev kind : ReturnKind
  kind = kind_of the_term.kind

  -- the rules are met by what a lawful meaning answers
  served : (m : Meaning) → IsLawful env id m → AreServedRules env m the_term.arg_tys (rules_of env id)
  served m lawful = record {
    built = all_of (IsBuiltRule env.terms) (typed_built defs env typed);
    scoped = all_of IsScopedRule (typed_scoped defs env typed);
    terms = all_of (CallsBuiltTerms env.terms) (typed_terms defs env typed);
    typed = recursion_from_All (IsTested env the_term.arg_tys) (rules_of env id) (typed_tests defs env id the_term typed h.emitted.found);
    served = record { answers = lawful.answers; named = lawful.named };
  }
    where
      all_of : (P : Rule → Type 0) → All P env.rules → AllByRecursion P (rules_of env id)
      all_of P k = recursion_from_All P (rules_of env id) (of_term P env id k)

  its_name : term_name env id ≡ sym_text env the_term.name
  its_name = name_of_term env id the_term h.emitted.found

  -- so its set stands for checked rules
  served_set : (m : Meaning) (args : List Value) → HaveTypes env args the_term.arg_tys → IsLawful env id m → IsServedSet env m args the_term.arg_tys h.set (rules_of env id)
  served_set m args types lawful = record {
    stands = h.stands;
    met = served m lawful;
    variants = names.apart.variants;
    types = types;
    apart = set_apart defs env id the_term h.set typed h.emitted.found h.stands m args lawful;
  }

  -- the function is found by the term's name
  by_name : function_of (sym_text env the_term.name) p.fns ≡ Some h.function
  by_name = ap (λ (n : List ℕ). function_of n p.fns) (sym its_name) ∙ h.found

  -- ---- a term that answers at most once

  module _ (single : is_several kind ≡ false) (args : List Value) (m : Meaning) (held : ℕ) (types : HaveTypes env args the_term.arg_tys) (lawful : IsLawful env id m) where
    abbrev once : AnswersOnce kind
    once = answers_once kind single

    -- what the block gives is what the rules give
    same_outcome : block_outcome env m args (paths_of h.set.bindings) h.emitted.block kind ≡ outcome_of env m args (rules_of env id) kind []
    same_outcome =
        let met = served m lawful in
        h.emitted.means.once single m args kind (served_set m args types lawful).apart
        (flat_apart defs env id the_term h.set typed clean listed h.emitted.found single (typed_single defs env id the_term typed h.emitted.found once) h.stands m args lawful types)
        ∙ set_means env m args the_term.arg_tys (paths_of h.set.bindings) (rules_of env id) h.set.rules kind names.apart.variants types
        (record { built = met.built; scoped = met.scoped; terms = met.terms; typed = met.typed; served = met.served; single = typed_single defs env id the_term typed h.emitted.found once }) h.stands.flat

    runs : AreSameRuns env (run p (term_name env id) args m held) (ran_of the_term (outcome_of env m args (rules_of env id) kind []))
    runs =
        ap (λ (n : List ℕ). option_map (λ (q : Ran). nameless_ran (impure_ran env q)) (run p n args m held)) its_name
        ∙ runs_as_block options files env the_term h.set.bindings h.emitted.block h.function h.emitted.lawful h.emitted.given once names fns term_fns p args m held
        by_name types (bindings_answered env id h.set h.stands m lawful) lawful.declared
        ∙ ap (λ (o : Prescription). option_map nameless_ran (ran_of the_term o)) same_outcome

    gives_outcome : GivesOutcome env p id the_term args m held
    gives_outcome =
        let outcome = outcome_of env m args (rules_of env id) kind [] in
        let apart = rules_apart defs env id the_term typed clean listed h.emitted.found single m args lawful types in
        let prescribed : Prescribed env m args (rules_of env id) kind [] outcome = outcome_prescribed env m args (rules_of env id) kind [] (highest_is_one env m args (rules_of env id) apart) in
        record {
          outcome = outcome;
          prescribed = prescribed;
          only = λ other k. prescribed_once k prescribed;
          given = gives_as env the_term outcome (run p (term_name env id) args m held) once runs;
        }

  -- ---- a term that answers several times

  gives_first : is_several kind ≡ true → (args : List Value) (m : Meaning) (held : ℕ) → HaveTypes env args the_term.arg_tys → IsLawful env id m → GivesFirst options env p id args m held
  gives_first several args m held types lawful = record {
    given = several_outcome env m args (paths_of h.set.bindings) h.emitted.block;
    prescribed = h.emitted.means.several several m args the_term.arg_tys (rules_of env id) (served_set m args types lawful);
    runs =
        ap (λ (n : List ℕ). option_map (λ (q : Ran). nameless_ran (impure_ran env q)) (run p n args m held)) its_name
        ∙ runs_as_several options files env the_term h.set.bindings h.emitted.block h.function h.emitted.lawful h.emitted.given several h.emitted.lawful.items names fns term_fns p args m held
        by_name types (bindings_answered env id h.set h.stands m lawful) lawful.declared;
  }

  gives_rules : (often : ReturnKind) → kind ≡ often → (args : List Value) (m : Meaning) (held : ℕ) → HaveTypes env args the_term.arg_tys → IsLawful env id m → GivesRules options often env p id the_term args m held
  gives_rules return_kind.Plain is args m held types lawful = gives_outcome (ap is_several is) args m held types lawful
  gives_rules return_kind.Option is args m held types lawful = gives_outcome (ap is_several is) args m held types lawful
  gives_rules return_kind.Iterator is args m held types lawful = gives_first (ap is_several is) args m held types lawful

  -- the function of the term means its rules
  pub means_rules : MeansRules options env p id
  means_rules =
      subst (λ (o : Option Term). IsSomeAnd o (λ (t : Term). (args : List Value) (m : Meaning) (held : ℕ) → HaveTypes env args t.arg_tys → IsLawful env id m → GivesRules options (kind_of t.kind) env p id t args m held)) (sym h.emitted.found)
      (gives_rules kind refl)
