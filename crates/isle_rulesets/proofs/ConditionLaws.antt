-- The conditions of a rule are numbered one after another, and what is gathered has their tests.
use Rattle.std.proofs.Common.{◌≡◌, ⊎_elim, ◌⊎◌, ℕ, zero, suc, ◌<◌, ◌≤◌, ◌+◌, List, [], ◌∷◌, ◌++◌, length, map, take, drop, get_or, Bool, Option, Some, None, Result, Ok, Err, refl, sym, ap, ◌∙◌, subst, arith, append_assoc, append-nil}
use Rattle.std.specs.Prelude.{Contains, All, IsSome, OnOk, slice_get, filter}
use Rattle.std.specs.List.{AllByRecursion}
use Rattle.std.proofs.lemmas.List.{map_more, map-append, take_all, drop_more}
use Rattle.std.proofs.lemmas.List.Elements.{filter-append, recursion_from_All, Contains-append_left, Contains-append_right, Contains-append_cases}
use Rattle.isle_core.specs.declared.BindingId.{BindingId}
use Rattle.isle_core.specs.declared.rules.IfLet.{IfLet as CodeIfLet}
use Rattle.isle_core.specs.declared.types.Term.{Term}
use Rattle.isle_core.specs.BuiltRule.{IsBuiltPattern, IsBuiltIfLet, IsBuiltRule}
use Rattle.isle_core.specs.Calling.{impure}
use Rattle.isle_core.specs.Expr as expr
use Rattle.isle_core.specs.Expr.{Expr, Exprs, NoExpr, AnExpr, LetBindings, NoBinding, ABinding}
use Rattle.isle_core.specs.Path.{Path, Nowhere, at, paths_of}
use Rattle.isle_core.specs.RightSide.{path}
use Rattle.isle_core.specs.RulePaths.{pattern_paths, args_paths, expr_paths, iflets_paths}
use Rattle.isle_core.specs.RuleViews.{iflet}
use Rattle.isle_core.specs.Scope.{variables, all_variables, let_scope, iflets_scope, IsInScope, AreInScope, AreLetsInScope, AreIfLetsInScope, IsScopedRule}
use Rattle.isle_core.specs.Tests.{Test, is_constraint, Places, no_places, called_tests, tests, after, args_tests, args_after, iflets_tests, iflets_after, rule_tests, rule_places}
use Rattle.isle_core.specs.Rule.{Environment, IfLet, Rule}
use Rattle.isle_core.proofs.AnsweredTerms.{IsPlaced}
use Rattle.isle_core.proofs.PlacedVariables.{rule_placed}
use Rattle.isle_core.proofs.OptionLaws.{some_same}
use Rattle.isle_scope.specs.Table.{held}
use Rattle.isle_rulesets.specs.declared.pattern_tests.PatternTests.{PatternTests}
use Rattle.isle_rulesets.specs.Conditions.{is_something, found_at, FindsAll, condition_paths, TakesCondition, with_iflets, NumbersRule}
use Rattle.isle_rulesets.specs.Keys.{IsThere}
use Rattle.isle_rulesets.specs.Late.{HasNoTurns}
use Rattle.isle_rulesets.specs.Met.{expr_lists, pattern_lists, args_lists, condition_lists, iflets_lists}
use Rattle.isle_rulesets.specs.Numbering.{Numbered, Extends, Joins, MeetsLists}
use Rattle.isle_rulesets.specs.PatternTests.{is_equality, path_at, HasTests, Reads, NumbersPatterns}
use Rattle.isle_rulesets.specs.RightSides.{Variables, names, StandsAt, Stand, AreThere, NumbersExpr, Given}
use Rattle.isle_rulesets.proofs.ConditionCalls.{none_impure, path_same, all_same, lists_same, SkipsItems, path_turn, calls_asked}
use Rattle.isle_rulesets.proofs.ExprPlaces.{after_push, built_with, rule_lone}
use Rattle.isle_rulesets.proofs.FlatTests.{at_there}
use Rattle.isle_rulesets.proofs.LetLaws.{held_named}
use Rattle.isle_rulesets.proofs.PatternTestLaws.{TakesIn, joins_then, reads_then, env_of}
use Rattle.isle_rulesets.proofs.PlacedPaths.{extends_self, extends_more}
use Rattle.isle_rulesets.proofs.RightSideLaws.{stand_there, there_stand, places_of}
use Rattle.isle_rulesets.proofs.TurnLaws.{after_turn, first_turn}
use Rattle.isle_rulesets.proofs.VariablePlaces.{AreLone, place_lone}

-- ---- the calls of a condition

-- before the first
pub finds_none : (d : PatternTests) (bs : List BindingId) → FindsAll d d (take 0 bs)
finds_none d bs ps places ts h = subst (λ us. HasTests ps places us d) (sym (append-nil ts)) h

-- after the next one of the code's list
pub finds_next : (d e f : PatternTests) (bs : List BindingId) (i : ℕ) (b : BindingId) → i < length bs → b ≡ get_or bs i b → FindsAll d e (take i bs) → ((ps : List Path) (places : Places) (ts : List Test) → HasTests ps places ts e → HasTests ps places (ts ++ is_something (at ps b) ∷ []) f)
    → FindsAll d f (take (i + 1) bs)
finds_next d e f bs i b lt is h k ps places ts g =
    let one : map (at ps) (take (i + 1) bs) ≡ map (at ps) (take i bs) ++ at ps b ∷ [] = map_more (at ps) bs i b lt ∙ ap (λ y. map (at ps) (take i bs) ++ at ps y ∷ []) (sym is) in
    let more : found_at ps (take (i + 1) bs) ≡ found_at ps (take i bs) ++ is_something (at ps b) ∷ [] = ap (map is_something) one ∙ map-append is_something (map (at ps) (take i bs)) (at ps b ∷ []) in
    subst (λ us. HasTests ps places us f) (append_assoc ts (found_at ps (take i bs)) (is_something (at ps b) ∷ []) ∙ ap (λ us. ts ++ us) (sym more)) (k ps places (ts ++ found_at ps (take i bs)) (h ps places ts g))

-- after the last one
pub finds_all : (d e : PatternTests) (bs : List BindingId) (i : ℕ) → length bs ≤ i → FindsAll d e (take i bs) → FindsAll d e bs
finds_all d e bs i le h = subst (FindsAll d e) (take_all i bs le) h

-- ---- a condition

-- its expression and its pattern
condition_taken : (terms : List Term) (old mid new : Numbered) (d found e : PatternTests) (none calls : List BindingId) (c : IfLet) (value : BindingId) → IsBuiltIfLet terms c → none ≡ [] → Given terms d.variables old mid none calls c.rhs value → FindsAll d found calls → TakesIn terms mid new found e c.lhs value
    → (env : Environment) → env.terms ≡ terms → TakesCondition env old new d e c
condition_taken terms old mid new d found e none calls c value built start given finds takes env same places stand untimed =
    reads_then old mid new d found e (expr_paths env c.rhs places 0) (pattern_paths env c.lhs p) (expr_lists env c.rhs places 0) (pattern_lists env c.lhs p) (λ others. others) (after env c.lhs p) (λ others. called_tests env c.rhs places) (tests env c.lhs p) asked
    (takes env same p (subst (λ q. slice_get (paths_of mid.bindings) value.0 ≡ Some q) (path_same env terms same c.rhs places old.calls 0 built.calls) n.found))
  where
    p : Path
    p = path env c.rhs places 0

    n : NumbersExpr env places old mid [] calls c.rhs value
    n = subst (λ ms. NumbersExpr env places old mid ms calls c.rhs value) start (given env places same stand)

    here : expr_paths env c.rhs places old.calls ≡ expr_paths env c.rhs places 0
    here = all_same env terms same c.rhs places old.calls 0 built.calls

    uncounted : old.calls + impure env c.rhs ≡ old.calls
    uncounted = ap (λ k. old.calls + k) (none_impure env terms same c.rhs built.calls) ∙ more old.calls
      where
        more : (k : ℕ) → k + 0 ≡ k
        more k = omega arith

    lists_here : expr_lists env c.rhs places old.calls ≡ expr_lists env c.rhs places 0
    lists_here = lists_same env terms same c.rhs places old.calls 0 built.calls

    found_are : (keep : Test → Bool) (qs : List Path) → SkipsItems keep → Extends (paths_of mid.bindings) qs → filter keep (found_at qs calls) ≡ filter keep (called_tests env c.rhs places)
    found_are keep qs skips x = ap (λ ps. filter keep (map is_something ps)) (n.grows.ordered qs x) ∙ calls_asked env terms same keep c.rhs places old.calls skips untimed built.calls

    asked_alike : (keep : Test → Bool) (qs : List Path) (ts : List Test) → SkipsItems keep → Extends (paths_of mid.bindings) qs → filter keep (ts ++ found_at qs calls) ≡ filter keep (ts ++ called_tests env c.rhs places)
    asked_alike keep qs ts skips x = filter-append keep ts (found_at qs calls) ∙ ap (λ us. filter keep ts ++ us) (found_are keep qs skips x) ∙ sym (filter-append keep ts (called_tests env c.rhs places))

    asked : Reads old mid d found (expr_paths env c.rhs places 0) (expr_lists env c.rhs places 0) (λ others. others) (λ others. called_tests env c.rhs places)
    asked = record {
      joins = record {
        extends = n.grows.extends;
        only = λ q k. subst (λ ps. Contains (paths_of old.bindings) q ⊎ Contains ps q) here (n.grows.only q k);
        all = λ q k. n.grows.all q (subst (λ ps. Contains ps q) (sym here) k);
        calls = n.grows.calls ∙ uncounted;
        lists = subst (MeetsLists old mid) lists_here n.grows.lists;
      };
      gathers = λ qs x others ts h. let k = finds qs others ts h in
          record { knows = k.knows; constraints = k.constraints ∙ asked_alike is_constraint qs ts (λ p. refl) x; equals = k.equals ∙ asked_alike is_equality qs ts (λ p. refl) x };
    }

-- so if the pattern is read last
pub takes_condition : {T E : Type 0} (r : Result T E) (terms : List Term) (old mid new : Numbered) (d found e : PatternTests) (none calls : List BindingId) (c : IfLet) (value : BindingId) → IsBuiltIfLet terms c → none ≡ [] → Given terms d.variables old mid none calls c.rhs value
    → FindsAll d found calls → OnOk r (TakesIn terms mid new found e c.lhs value) → OnOk r ((env : Environment) → env.terms ≡ terms → TakesCondition env old new d e c)
takes_condition (Err x) terms old mid new d found e none calls c value built start given finds takes = tt
takes_condition (Ok x) terms old mid new d found e none calls c value built start given finds takes = condition_taken terms old mid new d found e none calls c value built start given finds takes

-- the number of its expression's value is there
pub value_there : (terms : List Term) (variables : Variables) (old new : Numbered) (before after : List BindingId) (e : Expr) (b : BindingId) → AreThere (paths_of old.bindings) variables → Given terms variables old new before after e b → IsThere (paths_of new.bindings) b
value_there terms variables old new before after e b h g = (_, (g (env_of terms) (places_of (paths_of old.bindings) variables) refl (there_stand (paths_of old.bindings) variables h)).found)

-- ---- a wider scope

is_there : (ps : List Path) (o : Option BindingId) (q : Option Path) → path_at ps o ≡ q → IsPlaced q → IsSome o
is_there ps o None e h = absurd h
is_there ps None (Some p) e h = cc
is_there ps (Some b) (Some p) e h = refl

one_wider : (old new : List ℕ) (y : ℕ) → ((x : ℕ) → Contains old x → Contains new x) → (x : ℕ) → Contains (old ++ y ∷ []) x → Contains (new ++ y ∷ []) x
one_wider old new y f x c = ⊎_elim (λ d. Contains-append_left new (y ∷ []) x (f x d)) (λ d. Contains-append_right new (y ∷ []) x d) (Contains-append_cases old (y ∷ []) x c)

-- what is in scope is so in a wider one
mutual
  scope_wider : (e : Expr) (old new : List ℕ) → ((x : ℕ) → Contains old x → Contains new x) → IsInScope old e → IsInScope new e
  scope_wider (expr.Var ty x) old new f h = f x.0 h
  scope_wider (expr.ConstBool v) old new f h = tt
  scope_wider (expr.ConstInt ty v) old new f h = tt
  scope_wider (expr.ConstPrim ty name) old new f h = tt
  scope_wider (expr.Term ty term es) old new f h = all_wider es old new f h
  scope_wider (expr.Let ty bs inner) old new f h = (lets_wider bs old new f h.0, scope_wider inner (let_scope old bs) (let_scope new bs) (let_wider bs old new f) h.1)

  all_wider : (es : Exprs) (old new : List ℕ) → ((x : ℕ) → Contains old x → Contains new x) → AreInScope old es → AreInScope new es
  all_wider NoExpr old new f h = tt
  all_wider (AnExpr e es) old new f h = (scope_wider e old new f h.0, all_wider es old new f h.1)

  lets_wider : (bs : LetBindings) (old new : List ℕ) → ((x : ℕ) → Contains old x → Contains new x) → AreLetsInScope old bs → AreLetsInScope new bs
  lets_wider NoBinding old new f h = tt
  lets_wider (ABinding x ty e bs) old new f h = (scope_wider e old new f h.0, lets_wider bs (old ++ x.0 ∷ []) (new ++ x.0 ∷ []) (one_wider old new x.0 f) h.1)

  let_wider : (bs : LetBindings) (old new : List ℕ) → ((x : ℕ) → Contains old x → Contains new x) → (x : ℕ) → Contains (let_scope old bs) x → Contains (let_scope new bs) x
  let_wider NoBinding old new f = f
  let_wider (ABinding x ty e bs) old new f = let_wider bs (old ++ x.0 ∷ []) (new ++ x.0 ∷ []) (one_wider old new x.0 f)

-- what is in scope after a rule's conditions has numbers for its variables
scope_named : (terms : List Term) (old now : Numbered) (r : Rule) (d : PatternTests) → IsBuiltRule terms r → NumbersRule (env_of terms) old now r d → (e : Expr) → IsInScope (iflets_scope (all_variables r.args) r.iflets) e → IsInScope (names d.variables) e
scope_named terms old now r d b h e k =
    scope_wider e (iflets_scope (all_variables r.args) r.iflets) (names d.variables)
    (λ x c. held_named d.variables x
    (is_there (paths_of now.bindings) (held d.variables x) (rule_places (env_of terms) r x) ((h.tests (paths_of now.bindings) (extends_self (paths_of now.bindings))).knows.by x) (rule_placed (env_of terms) terms r b x c))) k

-- ---- one condition more

tests_push : (env : Environment) (cs : List IfLet) (c : IfLet) (places : Places) → iflets_tests env (cs ++ c ∷ []) places ≡ iflets_tests env cs places ++ (called_tests env c.rhs (iflets_after env cs places) ++ tests env c.lhs (path env c.rhs (iflets_after env cs places) 0) (iflets_after env cs places))
tests_push env [] c places = append-nil (called_tests env c.rhs places ++ tests env c.lhs (path env c.rhs places 0) places)
tests_push env (d ∷ cs) c places =
    let q = path env d.rhs places 0 in
    let rest = after env d.lhs q places in
    let mid = iflets_after env cs rest in
    ap (λ ts. (called_tests env d.rhs places ++ tests env d.lhs q places) ++ ts) (tests_push env cs c rest)
    ∙ sym (append_assoc (called_tests env d.rhs places ++ tests env d.lhs q places) (iflets_tests env cs rest) (called_tests env c.rhs mid ++ tests env c.lhs (path env c.rhs mid 0) mid))

paths_push : (env : Environment) (cs : List IfLet) (c : IfLet) (places : Places) → iflets_paths env (cs ++ c ∷ []) places ≡ iflets_paths env cs places ++ condition_paths env c (iflets_after env cs places)
paths_push env [] c places = append-nil (condition_paths env c places)
paths_push env (d ∷ cs) c places =
    let rest = after env d.lhs (path env d.rhs places 0) places in
    ap (λ ps. condition_paths env d places ++ ps) (paths_push env cs c rest) ∙ sym (append_assoc (condition_paths env d places) (iflets_paths env cs rest) (condition_paths env c (iflets_after env cs rest)))

lists_push : (env : Environment) (cs : List IfLet) (c : IfLet) (places : Places) → iflets_lists env (cs ++ c ∷ []) places ≡ iflets_lists env cs places ++ condition_lists env c (iflets_after env cs places)
lists_push env [] c places = append-nil (condition_lists env c places)
lists_push env (d ∷ cs) c places =
    let rest = after env d.lhs (path env d.rhs places 0) places in
    ap (λ ls. condition_lists env d places ++ ls) (lists_push env cs c rest) ∙ sym (append_assoc (condition_lists env d places) (iflets_lists env cs rest) (condition_lists env c (iflets_after env cs rest)))

-- the variables in front of each condition hold no impure call
iflets_turn : (env : Environment) (cs : List IfLet) (places : Places) → AllByRecursion (IsBuiltIfLet env.terms) cs → HasNoTurns places → HasNoTurns (iflets_after env cs places)
iflets_turn env [] places b w = w
iflets_turn env (c ∷ cs) places b w =
    let p = path env c.rhs places 0 in
    iflets_turn env cs (after env c.lhs p places) b.1 (after_turn c.lhs env p places (path_turn env env.terms refl c.rhs places 0 w b.0.calls) w)

var_stands : (ps : List Path) (o : Option BindingId) (q : Option Path) → path_at ps o ≡ q → ((p : Path) → q ≡ Some p → p ≡ Nowhere → ⊥) → StandsAt ps o q
var_stands ps None None e h = tt
var_stands ps (Some b) (Some p) e h = at_there ps b.0 p (h p refl) (some_same (at ps b) p e)
var_stands ps None (Some p) e h = cc
var_stands ps (Some b) None e h = cc

-- variables that are known stand at their paths
known_stand : (env : Environment) (new : Numbered) (places : Places) (ts : List Test) (d : PatternTests) → HasTests (paths_of new.bindings) places ts d → AreLone env places → Stand (paths_of new.bindings) d.variables places
known_stand env new places ts d h w = record { by = λ x. var_stands (paths_of new.bindings) (held d.variables x) (places x) (h.knows.by x) (λ p e. (w x p e).0) }

rule_next : (env : Environment) (old now new : Numbered) (d e : PatternTests) (r : Rule) (cs : List IfLet) (c : IfLet) → AreLone env (rule_places env (with_iflets r (cs ++ c ∷ []))) → HasNoTurns (rule_places env (with_iflets r cs)) → NumbersRule env old now (with_iflets r cs) d → TakesCondition env now new d e c
    → NumbersRule env old new (with_iflets r (cs ++ c ∷ [])) e
rule_next env old now new d e r cs c w untimed n t = record {
  joins = subst (λ ps. Joins old new ps (args_lists env r.args 0 ++ iflets_lists env (cs ++ c ∷ []) start)) all_paths (subst (Joins old new ((args_paths env r.args 0 ++ iflets_paths env cs start) ++ condition_paths env c places)) all_lists
      (joins_then old now new (args_paths env r.args 0 ++ iflets_paths env cs start) (condition_paths env c places) (args_lists env r.args 0 ++ iflets_lists env cs start) (condition_lists env c places) n.joins k.joins));
  tests = λ ps x. has ps x;
  stand = known_stand env new (rule_places env (with_iflets r (cs ++ c ∷ []))) (rule_tests env (with_iflets r (cs ++ c ∷ []))) e (has (paths_of new.bindings) (extends_self (paths_of new.bindings))) w;
}
  where
    start : Places
    start = args_after env r.args 0 no_places

    places : Places
    places = iflets_after env cs (args_after env r.args 0 no_places)

    own : List Test
    own = called_tests env c.rhs places ++ tests env c.lhs (path env c.rhs places 0) places

    k : Reads now new d e (condition_paths env c places) (condition_lists env c places) (after env c.lhs (path env c.rhs places 0)) (λ others. called_tests env c.rhs places ++ tests env c.lhs (path env c.rhs places 0) others)
    k = t places n.stand untimed

    all_paths : (args_paths env r.args 0 ++ iflets_paths env cs start) ++ condition_paths env c places ≡ args_paths env r.args 0 ++ iflets_paths env (cs ++ c ∷ []) start
    all_paths = append_assoc (args_paths env r.args 0) (iflets_paths env cs start) (condition_paths env c places) ∙ ap (λ ps. args_paths env r.args 0 ++ ps) (sym (paths_push env cs c start))

    all_lists : (args_lists env r.args 0 ++ iflets_lists env cs start) ++ condition_lists env c places ≡ args_lists env r.args 0 ++ iflets_lists env (cs ++ c ∷ []) start
    all_lists = append_assoc (args_lists env r.args 0) (iflets_lists env cs start) (condition_lists env c places) ∙ ap (λ ls. args_lists env r.args 0 ++ ls) (sym (lists_push env cs c start))

    all_tests : (args_tests env r.args 0 no_places ++ iflets_tests env cs start) ++ own ≡ rule_tests env (with_iflets r (cs ++ c ∷ []))
    all_tests = append_assoc (args_tests env r.args 0 no_places) (iflets_tests env cs start) own ∙ ap (λ ts. args_tests env r.args 0 no_places ++ ts) (sym (tests_push env cs c start))

    has : (ps : List Path) → Extends (paths_of new.bindings) ps → HasTests ps (rule_places env (with_iflets r (cs ++ c ∷ []))) (rule_tests env (with_iflets r (cs ++ c ∷ []))) e
    has ps x =
        let first = n.tests ps (extends_more (paths_of now.bindings) (paths_of new.bindings) ps k.joins.extends x) in
        subst (λ (qs : Places). HasTests ps qs (rule_tests env (with_iflets r (cs ++ c ∷ []))) e) (sym (after_push env cs c start))
        (subst (λ ts. HasTests ps (after env c.lhs (path env c.rhs places 0) places) ts e) all_tests (k.gathers ps x places (args_tests env r.args 0 no_places ++ iflets_tests env cs start) first))

-- ---- the code's list

-- so for each environment of these terms
abbrev pub NumbersRuleIn : List Term → Numbered → Numbered → Rule → PatternTests → Type 0
NumbersRuleIn terms old new r d = (env : Environment) → env.terms ≡ terms → NumbersRule env old new r d

parts_built : {A : Type 0} (P : A → Type 0) (xs ys : List A) → AllByRecursion P (xs ++ ys) → AllByRecursion P xs × AllByRecursion P ys
parts_built P [] ys h = (tt, h)
parts_built P (x ∷ xs) ys h = let k = parts_built P xs ys h.1 in ((h.0, k.0), k.1)

parts_known : (scope : List ℕ) (xs ys : List IfLet) → AreIfLetsInScope scope (xs ++ ys) → AreIfLetsInScope scope xs × AreIfLetsInScope (iflets_scope scope xs) ys
parts_known scope [] ys h = (tt, h)
parts_known scope (x ∷ xs) ys h = let k = parts_known (scope ++ variables x.lhs) xs ys h.1 in ((h.0, k.0), k.1)

split_at : (cs : List CodeIfLet) (i : ℕ) → map iflet cs ≡ map iflet (take i cs) ++ map iflet (drop i cs)
split_at cs zero = refl
split_at [] (suc i) = refl
split_at (c ∷ cs) (suc i) = ap (λ xs. iflet c ∷ xs) (split_at cs i)

one_more : (cs : List CodeIfLet) (i : ℕ) (x : CodeIfLet) → i < length cs → x ≡ get_or cs i x → map iflet (take (i + 1) cs) ≡ map iflet (take i cs) ++ iflet x ∷ []
one_more cs i x lt is = map_more iflet cs i x lt ∙ ap (λ y. map iflet (take i cs) ++ iflet y ∷ []) (sym is)

-- the conditions in front of the next one, it, and those after it
split_here : (cs : List CodeIfLet) (i : ℕ) (x : CodeIfLet) → i < length cs → x ≡ get_or cs i x → map iflet cs ≡ map iflet (take i cs) ++ iflet x ∷ map iflet (drop (i + 1) cs)
split_here cs i x lt is = split_at cs i ∙ ap (λ ys. map iflet (take i cs) ++ map iflet ys) (drop_more cs i x lt ∙ ap (λ y. y ∷ drop (i + 1) cs) (sym is))

-- after so many conditions
abbrev pub SoFar : List Term → Numbered → Rule → List CodeIfLet → Numbered → PatternTests → ℕ → Type 0
SoFar terms old r cs now d i = NumbersRuleIn terms old now (with_iflets r (map iflet (take i cs))) d

module _ (terms : List Term) (old : Numbered) (r : Rule) (cs : List CodeIfLet) (own : r.iflets ≡ map iflet cs) (built : IsBuiltRule terms r) (bound : IsScopedRule r) where
  own_built : AllByRecursion (IsBuiltIfLet terms) (map iflet cs)
  own_built = subst (AllByRecursion (IsBuiltIfLet terms)) own (recursion_from_All (IsBuiltIfLet terms) r.iflets built.iflets)

  own_known : AreIfLetsInScope (all_variables r.args) (map iflet cs)
  own_known = subst (AreIfLetsInScope (all_variables r.args)) own bound.iflets

  front_built : (i : ℕ) → IsBuiltRule terms (with_iflets r (map iflet (take i cs)))
  front_built i = built_with terms r (map iflet (take i cs)) built (parts_built (IsBuiltIfLet terms) (map iflet (take i cs)) (map iflet (drop i cs)) (subst (AllByRecursion (IsBuiltIfLet terms)) (split_at cs i) own_built)).0

  front_known : (i : ℕ) → AreIfLetsInScope (all_variables r.args) (map iflet (take i cs))
  front_known i = (parts_known (all_variables r.args) (map iflet (take i cs)) (map iflet (drop i cs)) (subst (AreIfLetsInScope (all_variables r.args)) (split_at cs i) own_known)).0

  -- the next condition is built
  pub condition_built : (i : ℕ) (x : CodeIfLet) → i < length cs → x ≡ get_or cs i x → IsBuiltIfLet terms (iflet x)
  condition_built i x lt is = (parts_built (IsBuiltIfLet terms) (map iflet (take i cs)) (iflet x ∷ map iflet (drop (i + 1) cs)) (subst (AllByRecursion (IsBuiltIfLet terms)) (split_here cs i x lt is) own_built)).1.0

  -- its expression's variables have numbers
  pub condition_known : (now : Numbered) (d : PatternTests) (i : ℕ) (x : CodeIfLet) → i < length cs → x ≡ get_or cs i x → SoFar terms old r cs now d i → IsInScope (names d.variables) (iflet x).rhs
  condition_known now d i x lt is h =
      scope_named terms old now (with_iflets r (map iflet (take i cs))) d (front_built i) (h (env_of terms) refl) (iflet x).rhs
      (parts_known (all_variables r.args) (map iflet (take i cs)) (iflet x ∷ map iflet (drop (i + 1) cs)) (subst (AreIfLetsInScope (all_variables r.args)) (split_here cs i x lt is) own_known)).1.0

  -- paths stand at the numbers of variables
  pub behind_there : (now : Numbered) (d : PatternTests) (i : ℕ) → SoFar terms old r cs now d i → AreThere (paths_of now.bindings) d.variables
  behind_there now d i h = stand_there (paths_of now.bindings) d.variables (rule_places (env_of terms) (with_iflets r (map iflet (take i cs)))) (h (env_of terms) refl).stand

  -- after the arguments
  pub behind_first : (mid : Numbered) (d : PatternTests) → ((env : Environment) → env.terms ≡ terms → NumbersPatterns env old mid r.args d) → SoFar terms old r cs mid d 0
  behind_first mid d numbered env same = record {
    joins = subst (λ ps. Joins old mid ps (args_lists env r.args 0 ++ [])) (sym (append-nil (args_paths env r.args 0))) (subst (Joins old mid (args_paths env r.args 0)) (sym (append-nil (args_lists env r.args 0))) h.joins);
    tests = λ ps x. has ps x;
    stand = known_stand env mid start (args_tests env r.args 0 no_places ++ []) d (has (paths_of mid.bindings) (extends_self (paths_of mid.bindings))) (place_lone env r.args (recursion_from_All (IsBuiltPattern env.terms) r.args (subst (λ ts. All (IsBuiltPattern ts) r.args) (sym same) built.args)));
  }
    where
      start : Places
      start = args_after env r.args 0 no_places

      h : NumbersPatterns env old mid r.args d
      h = numbered env same

      has : (ps : List Path) → Extends (paths_of mid.bindings) ps → HasTests ps (args_after env r.args 0 no_places) (args_tests env r.args 0 no_places ++ []) d
      has ps x = subst (λ ts. HasTests ps (args_after env r.args 0 no_places) ts d) (sym (append-nil (args_tests env r.args 0 no_places))) (h.tests ps x)

  -- after the next condition
  pub behind_next : (now new : Numbered) (d e : PatternTests) (i : ℕ) (x : CodeIfLet) → i < length cs → x ≡ get_or cs i x → SoFar terms old r cs now d i → ((env : Environment) → env.terms ≡ terms → TakesCondition env now new d e (iflet x)) → SoFar terms old r cs new e (i + 1)
  behind_next now new d e i x lt is h t env same =
      let front = map iflet (take i cs) in
      let lone = rule_lone env (with_iflets r (map iflet (take (i + 1) cs))) (subst (λ ts. IsBuiltRule ts (with_iflets r (map iflet (take (i + 1) cs)))) (sym same) (front_built (i + 1))) (front_known (i + 1)) in
      let untimed = iflets_turn env front (args_after env r.args 0 no_places) (recursion_from_All (IsBuiltIfLet env.terms) front (subst (λ ts. All (IsBuiltIfLet ts) front) (sym same) (front_built i).iflets)) (first_turn env r.args) in
      subst (λ ys. NumbersRule env old new (with_iflets r ys) e) (sym (one_more cs i x lt is))
      (rule_next env old now new d e r front (iflet x) (subst (λ ys. AreLone env (rule_places env (with_iflets r ys))) (one_more cs i x lt is) lone) untimed (h env same) (t env same))

  -- after the last one
  pub behind_all : (now : Numbered) (d : PatternTests) (i : ℕ) → length cs ≤ i → SoFar terms old r cs now d i → NumbersRuleIn terms old now (with_iflets r (map iflet cs)) d
  behind_all now d i le h = subst (λ ys. NumbersRuleIn terms old now (with_iflets r (map iflet ys)) d) (take_all i cs le) h

  -- the variables of the right side have numbers
  pub result_known : (now : Numbered) (d : PatternTests) (i : ℕ) → length cs ≤ i → SoFar terms old r cs now d i → IsInScope (names d.variables) r.rhs
  result_known now d i le h =
      scope_named terms old now (with_iflets r (map iflet (take i cs))) d (front_built i) (h (env_of terms) refl) r.rhs
      (subst (λ ys. IsInScope (iflets_scope (all_variables r.args) ys) r.rhs) (own ∙ ap (map iflet) (sym (take_all i cs le))) bound.rhs)
