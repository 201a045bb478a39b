-- Rules whose parts have the types of their term are ready for a block.
use Rattle.std.proofs.Common.{◌≡◌, ◌⊎◌, ⊎_elim, ℕ, ◌+◌, true, List, [], ◌∷◌, ◌++◌, map, Some, refl, sym, subst}
use Rattle.std.specs.Prelude.{All, Contains, filter, slice_get}
use Rattle.std.specs.List.{AllByRecursion}
use Rattle.std.proofs.lemmas.List.Elements.{recursion_from_All, Contains-append_left, Contains-append_right}
use Rattle.isle_core.specs.declared.BindingId.{BindingId}
use Rattle.isle_core.specs.declared.TermId.{TermId}
use Rattle.isle_core.specs.declared.rule_sets.Constraint.{Constraint}
use Rattle.isle_core.specs.declared.rule_sets.FlatRule.{FlatRule}
use Rattle.isle_core.specs.declared.rule_sets.RuleSet.{RuleSet}
use Rattle.isle_core.specs.declared.types.Term.{Term}
use Rattle.isle_core.specs.PathType.{IsPathOf}
use Rattle.isle_core.specs.CalledTerms.{extracted_in, called_by, called_in_iflets, called_in}
use Rattle.isle_core.specs.Calling.{kind_of, may_be_nothing, is_several, impure}
use Rattle.isle_core.specs.ExprType.{in_right_side}
use Rattle.isle_core.specs.Path.{Path, Chosen, at, paths_of}
use Rattle.isle_core.specs.Serializable.{StandsOn, IsTest, IsTestable, AreTestable, AreComparable, constraint_tests, IsSerializableList, IsSerializableRule, occurrences_of, IsSerializable}
use Rattle.isle_core.specs.Rule.{Rule, Environment, rules_of}
use Rattle.isle_core.specs.RuleSet.{is_test, equal_test}
use Rattle.isle_core.specs.StandsFor.{AreFirsts, no_more, again, first, IsFlat, AreFlat, StandsFor}
use Rattle.isle_core.specs.Iterators.{calls_multi}
use Rattle.isle_core.specs.Single.{AreOften}
use Rattle.isle_core.specs.OrderedCalls.{rule_calls}
use Rattle.isle_core.specs.RulePaths.{args_paths, iflets_paths, expr_paths, rule_paths, rules_paths}
use Rattle.isle_core.specs.Tests.{Test, Is, Equal, HasItem, is_constraint, no_places, args_after, rule_tests, rule_places}
use Rattle.isle_core.specs.TypedVariables.{rule_typed}
use Rattle.isle_core.proofs.Contained.{head_contained, tail_contained, contained_cases, none_contained}
use Rattle.isle_core.proofs.FirstItems.{firsts_hold, among_firsts, firsts_once}
use Rattle.isle_core.proofs.ListLaws.{filter_from, filter_keeps}
use Rattle.isle_ast.specs.Tree.{Def}
use Rattle.isle_templates.specs.TypedRule.{IsRuleOf}
use Rattle.isle_sema.specs.Typing.{Typed}
use Rattle.isle_sema.proofs.ItemPaths.{item_fits}
use Rattle.isle_sema.proofs.AnswerPaths.{FitAnswers, rules_fit}
use Rattle.isle_sema.proofs.ListPaths.{IsListAt, several_some, rule_lists}
use Rattle.isle_sema.proofs.OftenRules.{typed_often}
use Rattle.isle_sema.proofs.OftenTerms.{Often, often_rest}
use Rattle.isle_sema.proofs.TestablePatterns.{IsTestableAt, AreTestableAt, constraints_testable, HasConstraints, AreComparableAt}
use Rattle.isle_sema.proofs.PassedConditions.{rule_testable, rule_placed, rule_compares}
use Rattle.isle_sema.proofs.TypedFields.{rules_fields}
use Rattle.isle_sema.proofs.StandingPaths.{AreAlso, Among, AreLate, stands_still}
use Rattle.isle_sema.proofs.SerializableCalls.{typed_places, standing_places, path_typed, path_stands, calls_serializable, calls_late, firsts_ready}
use Rattle.isle_sema.proofs.OccurringCalls.{AreOnceBehind, expr_occurs, occur_once}
use Rattle.isle_sema.proofs.TypedRules.{typed_of}

-- what holds of each item
each : {A : Type 0} (P : A → Type 0) (xs : List A) → ((x : A) → Contains xs x → P x) → AllByRecursion P xs
each P [] h = tt
each P (x ∷ xs) h = (h x (head_contained x xs), each P xs (λ y c. h y (tail_contained x xs y c)))

-- a list of images has the image of each item
contained_map : {A B : Type 0} (f : A → B) (xs : List A) (x : A) → Contains xs x → Contains (map f xs) (f x)
contained_map f [] x c = absurd (none_contained x c)
contained_map f (y ∷ xs) x c = ⊎_elim (λ (s : y ≡ x). subst (λ z. Contains (map f (y ∷ xs)) (f z)) s (head_contained (f y) (map f xs))) (λ d. tail_contained (f y) (map f xs) (f x) (contained_map f xs x d)) (contained_cases y xs x c)

-- a constraint is the test of its binding's path
is_same : (p q : Path) (c d : Constraint) → Is p c ≡ Is q d → (p ≡ q) × (c ≡ d)
is_same p q c d e = (cc, cc)

-- a ready test of a binding's path
test_ready : (env : Environment) (t : Term) (ps : List Path) (before seen : List Test) (p : Path) (c : Constraint) (b : BindingId × Constraint) → Is p c ≡ is_test ps b → AreAlso before seen → IsTestableAt env t before p c → IsTestable env t ps seen b
test_ready env t ps before seen p c b e a h =
    let s = is_same p (at ps b.0) c b.1 e in
    record { test = subst (IsTest env t (at ps b.0)) s.1 (subst (λ q. IsTest env t q c) s.0 h.test); stands = subst (StandsOn env seen []) s.0 (stands_still env p before seen [] a h.stands) }

-- the head and the rest of equal lists
list_same : {A : Type 0} (x y : A) (xs ys : List A) → x ∷ xs ≡ y ∷ ys → (x ≡ y) × (xs ≡ ys)
list_same x y xs ys e = (cc, cc)

-- constraints of bindings are ready that are the firsts of tests which are: what is after others was seen after them
testable : {seen xs ys : List Test} (env : Environment) (t : Term) (ps : List Path) → AreFirsts seen xs ys → (before : List Test) (cs : List (BindingId × Constraint)) → AreTestableAt env t before xs → ys ≡ map (is_test ps) cs → AreAlso before seen → AreTestable env t ps seen cs
testable env t ps (no_more seen) before [] h e a = tt
testable env t ps (no_more seen) before (b ∷ cs) h e a = absurd cc
testable env t ps (again seen (Is p c) xs ys s more) before cs h e a = testable env t ps more (Is p c ∷ before) cs h.1 e (λ y d. ⊎_elim (λ (k : Is p c ≡ y). subst (Contains seen) k s) (a y) (contained_cases (Is p c) before y d))
testable env t ps (again seen (Equal p q) xs ys s more) before cs h e a = testable env t ps more before cs h e a
testable env t ps (again seen (HasItem p) xs ys s more) before cs h e a = testable env t ps more before cs h e a
testable env t ps (first seen (Is p c) xs ys new more) before [] h e a = absurd cc
testable env t ps (first seen (Is p c) xs ys new more) before (b ∷ cs) h e a =
    let k = list_same (Is p c) (is_test ps b) ys (map (is_test ps) cs) e in
    let still : AreAlso (Is p c ∷ before) (Is p c ∷ seen) = λ y d. ⊎_elim (λ (j : Is p c ≡ y). subst (Contains (Is p c ∷ seen)) j (head_contained (Is p c) seen)) (λ j. tail_contained (Is p c) seen y (a y j)) (contained_cases (Is p c) before y d) in
    (test_ready env t ps before seen p c b k.0 a h.0, subst (λ x. AreTestable env t ps (x ∷ seen) cs) k.0 (testable env t ps more (Is p c ∷ before) cs h.1 k.1 still))
testable env t ps (first seen (Equal p q) xs ys new more) before [] h e a = absurd cc
testable env t ps (first seen (Equal p q) xs ys new more) before (b ∷ cs) h e a = absurd cc
testable env t ps (first seen (HasItem p) xs ys new more) before [] h e a = absurd cc
testable env t ps (first seen (HasItem p) xs ys new more) before (b ∷ cs) h e a = absurd cc

module _ (env : Environment) (t : Term) (ps : List Path) (fit : FitAnswers env ps) where
  -- an equality of bindings whose paths may be compared is ready
  compared : (qs : List Path) (tests : List Test) (e : BindingId × BindingId) → AreComparableAt env t tests (at qs e.0) (at qs e.1) → AreComparable env t qs tests e
  compared qs tests e k = record { ty = k.ty; left = k.left; left_stands = k.left_stands; right = k.right; right_stands = k.right_stands }

  -- a list of a binding is ready
  listed : (tests : List Test) (ordered : List Path) (b : BindingId) → IsListAt env t tests ps ordered (at ps b) → IsSerializableList env t tests ps ordered b
  listed tests ordered b k = record { tys = k.tys; list = k.list; item = k.item; often = k.often; stands = k.stands }

  -- a flat rule that is a typed rule is ready
  flat_serializable : (r : Rule) (n : ℕ) (f : FlatRule) → IsFlat env ps r n f → IsRuleOf env t r → AreOften (Often t) env (called_in env r) → ((p : Path) → Contains (rule_paths env r n) p → Contains ps p) → IsSerializableRule env t ps f
  flat_serializable r n f flat h often among =
      let allowed = in_right_side (may_be_nothing (kind_of t.kind)) in
      let vars = rule_typed r in
      let places = rule_places env r in
      let tests = constraint_tests ps f in
      let put = rule_tests env r in
      let conditions = iflets_paths env r.iflets (args_after env r.args 0 no_places) in
      let ready : AreTestableAt env t [] (filter is_constraint put) = constraints_testable env t [] put (rule_testable env t r h.args h.iflets h.variables) in
      let tested : HasConstraints tests put = λ y e c. ⊎_elim (λ d. absurd (none_contained y d)) (λ d. d) (firsts_hold y flat.constraints (filter_keeps is_constraint put y c e)) in
      let placed = rule_placed env t r h.args h.iflets h.variables tests tested in
      let typed = typed_places env t tests vars places placed in
      let ordered = map (at ps) f.ordered in
      let made : Among (rule_calls env r n) ordered = λ p c. ⊎_elim (λ d. absurd (none_contained p d)) (λ d. d) (firsts_hold p flat.ordered c) in
      let right = often_rest (Often t) env (extracted_in env r.args ++ called_in_iflets env r.iflets) (called_by env r.rhs) often in
      let late : is_several (kind_of t.kind) ≡ true → AreLate env ordered = λ several p c. calls_late env allowed vars places r.rhs n t.ret_ty (several_some (kind_of t.kind) several) h.rhs p (among_firsts p flat.ordered c) in
      let lists = rule_lists env t tests ps ordered r n h tested often late made among in
      record {
        constraints = testable env t ps flat.constraints [] f.constraints ready refl (λ y c. c);
        equals = each _ f.equals (λ e c. compared ps tests e (rule_compares env t r h.args h.iflets h.variables tests tested (at ps e.0) (at ps e.1)
            (flat.no_other (equal_test ps e) (Contains-append_right (map (is_test ps) f.constraints) (map (equal_test ps) f.equals) (equal_test ps e) (contained_map (equal_test ps) f.equals e c))).0));
        lists = each _ f.iterators (λ b c. let k = filter_from (calls_multi env) (rule_paths env r n) (at ps b) (among_firsts (at ps b) flat.iterators (contained_map (at ps) f.iterators b c)) in listed tests ordered b (lists (at ps b) k.0 k.1));
        lists_once = firsts_once flat.iterators;
        calls = firsts_ready env t tests ps [] flat.ordered (λ p c. c) (calls_serializable env t allowed tests vars places ps [] typed (standing_places env t tests [] vars places placed) r.rhs n t.ret_ty h.rhs refl fit right (λ p c. among p (Contains-append_right (args_paths env r.args 0) (conditions ++ expr_paths env r.rhs places n) p (Contains-append_right conditions (expr_paths env r.rhs places n) p c))));
        result = subst (λ p. IsPathOf env t p t.ret_ty) (sym flat.result) (path_typed env t allowed tests vars places typed r.rhs n t.ret_ty h.rhs);
        stands = subst (StandsOn env tests ordered) (sym flat.result) (path_stands env t allowed tests vars places ordered (standing_places env t tests ordered vars places placed) r.rhs n t.ret_ty h.rhs made);
      }

  -- so of rules in order
  flats_serializable : (rs : List Rule) (n : ℕ) (fs : List FlatRule) → AreFlat env ps rs n fs → AllByRecursion (IsRuleOf env t) rs → AllByRecursion (λ (r : Rule). AreOften (Often t) env (called_in env r)) rs → ((p : Path) → Contains (rules_paths env rs n) p → Contains ps p)
      → AllByRecursion (IsSerializableRule env t ps) fs
  flats_serializable [] n [] flat h often among = tt
  flats_serializable [] n (f ∷ fs) flat h often among = absurd flat
  flats_serializable (r ∷ rs) n [] flat h often among = absurd flat
  flats_serializable (r ∷ rs) n (f ∷ fs) flat h often among = (
    flat_serializable r n f flat.0 h.0 often.0 (λ p c. among p (Contains-append_left (rule_paths env r n) (rules_paths env rs (n + impure env r.rhs)) p c)),
    flats_serializable rs (n + impure env r.rhs) fs flat.1 h.1 often.1 (λ p c. among p (Contains-append_right (rule_paths env r n) (rules_paths env rs (n + impure env r.rhs)) p c)),
  )

  -- their impure calls have occurrences one after the other
  flats_apart : (rs : List Rule) (n : ℕ) (fs : List FlatRule) → AreFlat env ps rs n fs → AllByRecursion (IsRuleOf env t) rs → AreOnceBehind n (occurrences_of env ps fs)
  flats_apart [] n [] flat h = ((λ k c. absurd (none_contained k c)), tt)
  flats_apart [] n (f ∷ fs) flat h = absurd flat
  flats_apart (r ∷ rs) n [] flat h = absurd flat
  flats_apart (r ∷ rs) n (f ∷ fs) flat h =
      occur_once env ps flat.0.ordered f.ordered refl n (n + impure env r.rhs) (occurrences_of env ps fs)
      (expr_occurs env (in_right_side (may_be_nothing (kind_of t.kind))) (rule_typed r) (rule_places env r) r.rhs n t.ret_ty h.0.rhs) (flats_apart rs (n + impure env r.rhs) fs flat.1 h.1)

-- a rule set that stands for typed rules of a term is ready, if what they call answers several times only if the term does
pub rules_serializable : (env : Environment) (id : TermId) (t : Term) (s : RuleSet) → All (IsRuleOf env t) (rules_of env id) → All (λ (r : Rule). AreOften (Often t) env (called_in env r)) (rules_of env id) → StandsFor env s (rules_of env id) → IsSerializable env t s
rules_serializable env id t s h often stands =
    let rules = rules_of env id in
    let typed = recursion_from_All (IsRuleOf env t) rules h in
    let fit : FitAnswers env (paths_of s.bindings) = λ p c. rules_fit rules env 0 p ((stands.paths p).0 c) in
    record {
      once = stands.once;
      fields = λ p c f. rules_fields env t rules 0 typed p ((stands.paths p).0 c) f;
      rules = flats_serializable env t (paths_of s.bindings) fit rules 0 s.rules stands.flat typed (recursion_from_All (λ (r : Rule). AreOften (Often t) env (called_in env r)) rules often) (λ p c. (stands.paths p).1 c);
      apart = (flats_apart env t (paths_of s.bindings) fit rules 0 s.rules stands.flat typed).1;
      items = λ p c. item_fits env t rules 0 p (recursion_from_All (λ (r : Rule). AreOften (Often t) env (called_in env r)) rules often) ((stands.paths (Chosen p)).0 c);
    }

-- a rule set that stands for the rules of a term is ready
pub set_serializable : (defs : List Def) (env : Environment) (id : TermId) (t : Term) (s : RuleSet) → Typed defs env → slice_get env.terms id.0 ≡ Some t → StandsFor env s (rules_of env id) → IsSerializable env t s
set_serializable defs env id t s h there stands = rules_serializable env id t s (typed_of defs env id t h there) (typed_often defs env id t h there) stands
