-- The calls among the bindings of a rule set are of terms that its rules call.
use Rattle.std.proofs.Common.{◌≡◌, ⊎_elim, ℕ, zero, suc, List, [], ◌∷◌, Bool, true, false, cond, Some, refl, subst}
use Rattle.std.specs.Prelude.{Contains, IsSome, slice_get}
use Rattle.std.specs.List.{AllByRecursion}
use Rattle.isle_core.specs.declared.Sym.{Sym}
use Rattle.isle_core.specs.declared.TermId.{TermId}
use Rattle.isle_core.specs.declared.rule_sets.Binding.{Binding}
use Rattle.isle_core.specs.declared.rule_sets.Binding.TheVariants as binding
use Rattle.isle_core.specs.declared.rule_sets.RuleSet.{RuleSet}
use Rattle.isle_core.specs.Having.{const_of}
use Rattle.isle_core.specs.Meaning.{Meaning}
use Rattle.isle_core.specs.Calling.{Calling, ByTurns, ByCases, NoCall, calling, extracting, answers_often, is_fallible}
use Rattle.isle_core.specs.Making.{Making, MakesVariant, MakesStruct, MakesNothing, making}
use Rattle.isle_core.specs.OccurringConstants.{TypedConstant, rules_constants}
use Rattle.isle_core.specs.Opening.{Opening, AsVariant, AsStruct, ByExtractor, opening, answer_path, result_path, part_path}
use Rattle.isle_core.specs.CalledTerms.{CalledTerm, Extractor, is_made, called}
use Rattle.isle_core.specs.Lawful.{AnswersFit, RoleFits, IsLawful}
use Rattle.isle_core.specs.Path.{Path, Called, Chosen, Extracted, Inner, MadeVariant, MadeStruct, Paths, paths_of}
use Rattle.isle_core.specs.Rule.{Environment, Rule, rules_of}
use Rattle.isle_core.specs.StandsFor.{StandsFor}
use Rattle.isle_core.specs.RightSide.{term_path}
use Rattle.isle_core.specs.RulePaths.{opening_paths, with_inner, rules_paths}
use Rattle.isle_core.proofs.ExprPaths.{constructed}
use Rattle.isle_core.proofs.Contained.{head_contained, tail_contained, contained_cases, none_contained}
use Rattle.isle_core.proofs.BindingPaths.{path_before}
use Rattle.isle_core.specs.declared.values.Callee.{Callee}
use Rattle.isle_simulation.proofs.BlockCalls.{IsConstructorCall, IsExtractorCall, IsBoundCall}
use Rattle.isle_simulation.specs.Emitted.{AnswersBindings}
use Rattle.isle_simulation.specs.Statements.{callee_of}
use Rattle.isle_core.specs.Terms.{sym_text}
use Rattle.isle_codegen.specs.CalledBy.{GoesTo, IsCalledBy}
use Rattle.isle_codegen.proofs.EachPath.{extracted, HoldsOfEach, rules_each}
use Rattle.isle_codegen.proofs.ExtractedPaths.{not_made, extractors_called}
use Rattle.isle_codegen.proofs.NamedConstants.{rules_named, named_valued}

-- ---- the calls among paths

same_term : (a b : TermId) (ps qs : Paths) (j k : ℕ) → Called a ps j ≡ Called b qs k → a ≡ b
same_term a b ps qs j k e = cc

-- a path that calls one of these, if it calls a term
abbrev IsOf : List CalledTerm → Path → Type 0
IsOf terms p = (term : TermId) (qs : Paths) (k : ℕ) → p ≡ Called term qs k → Contains terms (constructed term)

-- a path and its item or its inner value, which is no call
inner_of : (often fallible : Bool) (terms : List CalledTerm) (p : Path) → IsOf terms p → AllByRecursion (IsOf terms) (cond often (p ∷ Chosen p ∷ []) (cond fallible (p ∷ Inner p ∷ []) (p ∷ [])))
inner_of true fallible terms p h = (h, (λ term qs k e. cc, tt))
inner_of false true terms p h = (h, (λ term qs k e. cc, tt))
inner_of false false terms p h = (h, tt)

term_of : (env : Environment) (mk : Making) (terms : List CalledTerm) (term : TermId) (ps : Paths) (j : ℕ) → making env term ≡ mk → (is_made env term ≡ false → Contains terms (constructed term)) → AllByRecursion (IsOf terms) (with_inner (calling env term) (term_path mk term ps j))
term_of env MakesNothing terms term ps j e h =
    inner_of (answers_often (calling env term)) (is_fallible (calling env term)) terms (Called term ps j) (λ other qs k d. subst (λ x. Contains terms (constructed x)) (same_term term other ps qs j k d) (h (not_made (slice_get env.terms term.0) e)))
term_of env (MakesVariant ty variant) terms term ps j e h = inner_of (answers_often (calling env term)) (is_fallible (calling env term)) terms (MadeVariant ty variant ps) (λ other qs k d. cc)
term_of env (MakesStruct ty) terms term ps j e h = inner_of (answers_often (calling env term)) (is_fallible (calling env term)) terms (MadeStruct ty ps) (λ other qs k d. cc)

-- what a term's pattern calls is no constructor's call
opening_of : (terms : List CalledTerm) (opened : Opening) (p : Path) → AllByRecursion (IsOf terms) (opening_paths opened p)
opening_of terms (AsVariant ty variant) p = tt
opening_of terms (AsStruct ty) p = tt
opening_of terms (ByExtractor term c count) p = inner_of (answers_often c) (is_fallible c) terms (Extracted term p) (λ other qs k e. cc)

-- nor is what it gives
answer_of : (terms : List CalledTerm) (often fallible : Bool) (term : TermId) (p : Path) → IsOf terms (cond often (Chosen (Extracted term p)) (cond fallible (Inner (Extracted term p)) (Extracted term p)))
answer_of terms true fallible term p other qs k e = cc
answer_of terms false true term p other qs k e = cc
answer_of terms false false term p other qs k e = cc

result_of : (terms : List CalledTerm) (count i : ℕ) (p : Path) → IsOf terms p → IsOf terms (result_path count i p)
result_of terms zero i p h = λ other qs k e. cc
result_of terms (suc zero) i p h = h
result_of terms (suc (suc count)) i p h = λ other qs k e. cc

part_of : (terms : List CalledTerm) (opened : Opening) (i : ℕ) (p : Path) → IsOf terms (part_path opened i p)
part_of terms (AsVariant ty variant) i p = λ other qs k e. cc
part_of terms (AsStruct ty) i p = λ other qs k e. cc
part_of terms (ByExtractor term c count) i p = result_of terms count i (answer_path c (Extracted term p)) (answer_of terms (answers_often c) (is_fallible c) term p)

-- what rules' parts make calls these
each_of : (env : Environment) (terms : List CalledTerm) (constants : List TypedConstant) → HoldsOfEach (IsOf terms) env terms constants
each_of env terms constants = record {
  arg = λ i term qs k e. cc;
  exprs = record {
    nowhere = λ term qs k e. cc;
    truth = λ b term qs k e. cc;
    number = λ ty v term qs k e. cc;
    named = λ ty name c term qs k e. cc;
    term = λ term ps j h. term_of env (making env term) terms term ps j refl h;
  };
  opened = λ term p h. opening_of terms (opening env term) p;
  part = λ term i p h. part_of terms (opening env term) i p;
}

one_of : (terms : List CalledTerm) (ps : List Path) (term : TermId) (qs : Paths) (k : ℕ) → AllByRecursion (IsOf terms) ps → Contains ps (Called term qs k) → Contains terms (constructed term)
one_of terms [] term qs k h c = absurd (none_contained (Called term qs k) c)
one_of terms (p ∷ ps) term qs k h c = ⊎_elim (h.0 term qs k) (one_of terms ps term qs k h.1) (contained_cases p ps (Called term qs k) c)

rules_of_called : (rules : List Rule) (env : Environment) (n : ℕ) (term : TermId) (qs : Paths) (k : ℕ) → Contains (rules_paths env rules n) (Called term qs k) → Contains (called env rules) (constructed term)
rules_of_called rules env n term qs k c =
    let terms = called env rules in
    one_of terms (rules_paths env rules n) term qs k (rules_each (IsOf terms) env terms (rules_constants rules) (each_of env terms (rules_constants rules)) rules n (λ o d. d) (λ o d. d)) c

-- ---- bindings

place_contained : (ps : List Path) (i : ℕ) (p : Path) → slice_get ps i ≡ Some p → Contains ps p
place_contained [] i p e = cc
place_contained (q ∷ ps) zero p e = let same : q ≡ p = cc in subst (Contains (q ∷ ps)) same (head_contained q ps)
place_contained (q ∷ ps) (suc i) p e = tail_contained q ps p (place_contained ps i p e)

answers_each : (env : Environment) (m : Meaning) (bs : List Binding) → ((i : ℕ) (term : TermId) (parameters : _) (k : ℕ) → slice_get bs i ≡ Some (binding.Constructor term parameters k) → AnswersFit env m term)
    → ((i : ℕ) (term : TermId) (parameter : _) → slice_get bs i ≡ Some (binding.Extractor term parameter) → RoleFits env m term Extractor) → ((i : ℕ) (name : Sym) → slice_get bs i ≡ Some (binding.ConstPrim name) → IsSome (const_of m (sym_text env name))) → AnswersBindings env m bs
answers_each env m [] h x k = tt
answers_each env m (binding.Constructor term parameters n ∷ bs) h x k = (h 0 term parameters n refl, answers_each env m bs (λ i t ps j e. h (suc i) t ps j e) (λ i t p e. x (suc i) t p e) (λ i name e. k (suc i) name e))
answers_each env m (binding.Extractor term parameter ∷ bs) h x k = (x 0 term parameter refl, answers_each env m bs (λ i t ps j e. h (suc i) t ps j e) (λ i t p e. x (suc i) t p e) (λ i name e. k (suc i) name e))
answers_each env m (binding.ConstPrim name ∷ bs) h x k = (k 0 name refl, answers_each env m bs (λ i t ps j e. h (suc i) t ps j e) (λ i t p e. x (suc i) t p e) (λ i other e. k (suc i) other e))
answers_each env m (b ∷ bs) h x k = answers_each env m bs (λ i t ps j e. h (suc i) t ps j e) (λ i t p e. x (suc i) t p e) (λ i name e. k (suc i) name e)

module _ (env : Environment) (id : TermId) (s : RuleSet) (stands : StandsFor env s (rules_of env id)) where
  -- a call among the bindings is of a term that the rules call
  constructor_called : (i : ℕ) (term : TermId) (parameters : _) (k : ℕ) → slice_get s.bindings i ≡ Some (binding.Constructor term parameters k) → Contains (called env (rules_of env id)) (constructed term)
  constructor_called i term parameters k e =
      let at_i = path_before s.bindings i (binding.Constructor term parameters k) e in
      rules_of_called (rules_of env id) env 0 term _ k ((stands.paths _).0 (place_contained (paths_of s.bindings) i _ at_i))

  -- so is that of an extractor
  extractor_called : (i : ℕ) (term : TermId) (parameter : _) → slice_get s.bindings i ≡ Some (binding.Extractor term parameter) → Contains (called env (rules_of env id)) (extracted term)
  extractor_called i term parameter e =
      let at_i = path_before s.bindings i (binding.Extractor term parameter) e in
      extractors_called env (rules_of env id) 0 term _ ((stands.paths _).0 (place_contained (paths_of s.bindings) i _ at_i))

  -- a meaning that is lawful for a term answers the calls of its rule set, and gives its constants values
  pub bindings_answered : (m : Meaning) → IsLawful env id m → AnswersBindings env m s.bindings
  bindings_answered m lawful = answers_each env m s.bindings
      (λ i term parameters k e. lawful.answers (constructed term) (constructor_called i term parameters k e))
      (λ i term parameter e. lawful.answers (extracted term) (extractor_called i term parameter e))
      (λ i name e.
      let at_i = path_before s.bindings i (binding.ConstPrim name) e in
      let c = rules_named (rules_of env id) env 0 name ((stands.paths _).0 (place_contained (paths_of s.bindings) i _ at_i)) in
      named_valued env id m c.0 name lawful c.1)

  -- ---- the calls of a function

  goes_there : (c : Calling) (callee : Callee) → callee_of c ≡ Some callee → GoesTo c callee
  goes_there (ByTurns to of) callee e = cc
  goes_there (ByCases to of) callee e = cc
  goes_there NoCall callee e = cc

  by_constructor : (callee : Callee) → IsConstructorCall env s.bindings callee → IsCalledBy env id callee
  by_constructor callee b = record { call = constructed b.term; among = constructor_called b.place b.term b.parameters b.instance b.bound; goes = goes_there (calling env b.term) callee b.is }

  by_extractor : (callee : Callee) → IsExtractorCall env s.bindings callee → IsCalledBy env id callee
  by_extractor callee b = record { call = extracted b.term; among = extractor_called b.place b.term b.parameter b.bound; goes = goes_there (extracting env b.term) callee b.is }

  -- a call among the bindings of a rule set that stands for a term's rules is called by one of them
  pub bound_called : (callee : Callee) → IsBoundCall env s.bindings callee → IsCalledBy env id callee
  bound_called callee b = ⊎_elim (by_constructor callee) (by_extractor callee) b
