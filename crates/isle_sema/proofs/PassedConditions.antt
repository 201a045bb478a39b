-- The tests of a typed rule, with its conditions, are ready for a block, and its variables have paths of their types.
use Rattle.std.proofs.Common.{◌≡◌, ⊎_elim, ℕ, List, [], ◌∷◌, ◌++◌, Some}
use Rattle.std.specs.Prelude.{Contains}
use Rattle.std.proofs.lemmas.List.Elements.{Contains-append_left, Contains-append_right, Contains-append_cases}
use Rattle.isle_core.specs.declared.TypeId.{TypeId}
use Rattle.isle_core.specs.declared.types.Term.{Term}
use Rattle.isle_core.specs.ExprType.{in_condition, AreIfLetsOf}
use Rattle.isle_core.specs.Path.{Path}
use Rattle.isle_core.specs.PatternType.{ArePatternsOf}
use Rattle.isle_core.specs.RightSide.{path}
use Rattle.isle_core.specs.Rule.{IfLet, Rule, Environment}
use Rattle.isle_core.specs.Tests.{Test, Equal, Places, no_places, tests, after, called_tests, args_tests, args_after, iflets_tests, iflets_after, rule_tests, rule_places}
use Rattle.isle_core.specs.TypedVariables.{typed_variables, all_typed, iflets_typed, rule_typed, HaveOneType}
use Rattle.isle_core.proofs.Contained.{none_contained}
use Rattle.isle_core.proofs.EarlyPlaces.{AreEarly, after_early, args_early, expr_early}
use Rattle.isle_core.proofs.KeptPlaces.{after_keeps}
use Rattle.isle_sema.proofs.ConditionPaths.{called_no_equality, expr_stands, expr_testable, places_still}
use Rattle.isle_sema.proofs.StandingPaths.{AreAlso, stands_still}
use Rattle.isle_sema.proofs.SerializableCalls.{AreTypedPlaces, AreStandingPlaces, path_typed}
use Rattle.isle_sema.proofs.TestablePatterns.{args_are, HasConstraints, AreTestableAt, testable_more, pattern_testable, args_testable, IsStanding, ArePlacedAs, AreHeld, AreComparableAt, IsPassed, pattern_passed, args_passed}

-- those before conditions are among those after them
iflets_more : (cs : List IfLet) (vars : List (TypeId × ℕ)) (v : TypeId × ℕ) → Contains vars v → Contains (iflets_typed vars cs) v
iflets_more [] vars v c = c
iflets_more (d ∷ cs) vars v c = iflets_more cs (vars ++ typed_variables d.lhs) v (Contains-append_left vars (typed_variables d.lhs) v c)

-- each of these variables has a path
abbrev HavePaths : List (TypeId × ℕ) → Places → Type 0
HavePaths vars places = (v : TypeId × ℕ) → Contains vars v → (p : Path) × (places v.1 ≡ Some p)

module _ (env : Environment) (t : Term) (vars : List (TypeId × ℕ)) where
  -- so their paths have their types, and may be read after the tests
  held_typed : (all : List Test) (sofar : List (TypeId × ℕ)) (places : Places) → AreHeld env t all vars places → HavePaths sofar places → ((v : TypeId × ℕ) → Contains sofar v → Contains vars v) → AreTypedPlaces env t sofar places
  held_typed all sofar places held there within ty x c = let at = there (ty, x) c in record { path = at.0; is = at.1; typed = (held ty x at.0 (within (ty, x) c) at.1).0 }

  held_stand : (all : List Test) (sofar : List (TypeId × ℕ)) (places : Places) → AreHeld env t all vars places → HavePaths sofar places → ((v : TypeId × ℕ) → Contains sofar v → Contains vars v) → AreStandingPlaces env all [] sofar places
  held_stand all sofar places held there within ty x c = let at = there (ty, x) c in record { path = at.0; is = at.1; stands = λ later b. (held ty x at.0 (within (ty, x) c) at.1).1 later }

  held_later : (before later : List Test) (places : Places) → AreAlso before later → AreHeld env t before vars places → AreHeld env t later vars places
  held_later before later places a held ty x p c e = let h = held ty x p c e in (h.0, λ done. stands_still env p before later done a (h.1 done))

  -- the variables of a condition's pattern join those that have paths
  more_paths : (sofar xs : List (TypeId × ℕ)) (mid later : Places) → HavePaths sofar mid → ((x : ℕ) (p : Path) → mid x ≡ Some p → later x ≡ Some p) → ((v : TypeId × ℕ) → Contains xs v → (p : Path) × (later v.1 ≡ Some p)) → HavePaths (sofar ++ xs) later
  more_paths sofar xs mid later there keeps own v c = ⊎_elim (λ d. let s = there v d in (s.0, keeps v.1 s.0 s.1)) (λ d. own v d) (Contains-append_cases sofar xs v c)

-- the variables before each condition stand at paths of their types, which hold no impure call and may be read after these tests
abbrev pub HasTypedConditions : Environment → Term → (all : List Test) (sofar : List (TypeId × ℕ)) → List IfLet → Places → Type 0
HasTypedConditions env t all sofar [] places = Unit {0}
HasTypedConditions env t all sofar (c ∷ cs) places =
    AreTypedPlaces env t sofar places × AreStandingPlaces env all [] sofar places × AreEarly env places × HasTypedConditions env t all (sofar ++ typed_variables c.lhs) cs (after env c.lhs (path env c.rhs places 0) places)

module _ (env : Environment) (t : Term) (vars : List (TypeId × ℕ)) (one : HaveOneType vars) where
  -- after conditions
  pub iflets_passed : (all : List Test) (cs : List IfLet) (sofar : List (TypeId × ℕ)) (places : Places) → AreIfLetsOf env sofar cs → AreEarly env places → AreHeld env t all vars places → HavePaths sofar places → HasConstraints all (iflets_tests env cs places) → ((v : TypeId × ℕ) → Contains (iflets_typed sofar cs) v → Contains vars v)
      → IsPassed env t all vars (iflets_tests env cs places) (iflets_typed sofar cs) (iflets_after env cs places)
  iflets_passed all [] sofar places h clear held there among within = record { held = held; equals = λ p q c. absurd (none_contained (Equal p q) c); there = there }
  iflets_passed all (c ∷ cs) sofar places h clear held there among within =
      let q = path env c.rhs places 0 in
      let mid = after env c.lhs q places in
      let called = called_tests env c.rhs places in
      let own = tests env c.lhs q places in
      let others = iflets_tests env cs mid in
      let next = sofar ++ typed_variables c.lhs in
      let early : (v : TypeId × ℕ) → Contains sofar v → Contains vars v = λ v d. within v (iflets_more (c ∷ cs) sofar v d) in
      let bare = expr_early env sofar h.0.ty c.rhs places 0 h.0.rhs clear in
      let typed = path_typed env t in_condition all sofar places (held_typed env t vars all sofar places held there early) c.rhs 0 h.0.ty h.0.rhs in
      let stands : IsStanding env all q = expr_stands env all sofar places (held_stand env t vars all sofar places held there early) clear c.rhs h.0.ty h.0.rhs (λ y e d. among y e (Contains-append_left (called ++ own) others y (Contains-append_left called own y d))) in
      let m = pattern_passed env t all vars one c.lhs q h.0.ty places h.0.lhs typed stands bare held (λ y e d. among y e (Contains-append_left (called ++ own) others y (Contains-append_right called own y d)))
      (λ v d. within v (iflets_more cs next v (Contains-append_right sofar (typed_variables c.lhs) v d))) in
      let rest = iflets_passed all cs next mid h.1 (after_early c.lhs env q places bare clear) m.held (more_paths env t vars sofar (typed_variables c.lhs) places mid there (λ y r e. after_keeps c.lhs env q places y r e) m.there) (λ y e d. among y e (Contains-append_right (called ++ own) others y d)) within in
      record {
        held = rest.held;
        equals = λ a b d. ⊎_elim (λ k. ⊎_elim (λ j. absurd (called_no_equality env c.rhs places a b j)) (λ j. m.equals a b j) (Contains-append_cases called own (Equal a b) k)) (λ k. rest.equals a b k) (Contains-append_cases (called ++ own) others (Equal a b) d);
        there = rest.there;
      }

  -- what stands before each condition has types
  iflets_places : (all : List Test) (cs : List IfLet) (sofar : List (TypeId × ℕ)) (places : Places) → AreIfLetsOf env sofar cs → AreEarly env places → AreHeld env t all vars places → HavePaths sofar places → HasConstraints all (iflets_tests env cs places) → ((v : TypeId × ℕ) → Contains (iflets_typed sofar cs) v → Contains vars v)
      → HasTypedConditions env t all sofar cs places
  iflets_places all [] sofar places h clear held there among within = tt
  iflets_places all (c ∷ cs) sofar places h clear held there among within =
      let q = path env c.rhs places 0 in
      let mid = after env c.lhs q places in
      let called = called_tests env c.rhs places in
      let own = tests env c.lhs q places in
      let others = iflets_tests env cs mid in
      let next = sofar ++ typed_variables c.lhs in
      let early : (v : TypeId × ℕ) → Contains sofar v → Contains vars v = λ v d. within v (iflets_more (c ∷ cs) sofar v d) in
      let first = held_typed env t vars all sofar places held there early in
      let placed = held_stand env t vars all sofar places held there early in
      let bare = expr_early env sofar h.0.ty c.rhs places 0 h.0.rhs clear in
      let typed = path_typed env t in_condition all sofar places first c.rhs 0 h.0.ty h.0.rhs in
      let stands : IsStanding env all q = expr_stands env all sofar places (held_stand env t vars all sofar places held there early) clear c.rhs h.0.ty h.0.rhs (λ y e d. among y e (Contains-append_left (called ++ own) others y (Contains-append_left called own y d))) in
      let m = pattern_passed env t all vars one c.lhs q h.0.ty places h.0.lhs typed stands bare held (λ y e d. among y e (Contains-append_left (called ++ own) others y (Contains-append_right called own y d)))
      (λ v d. within v (iflets_more cs next v (Contains-append_right sofar (typed_variables c.lhs) v d))) in
      (first, placed, clear, iflets_places all cs next mid h.1 (after_early c.lhs env q places bare clear) m.held (more_paths env t vars sofar (typed_variables c.lhs) places mid there (λ y r e. after_keeps c.lhs env q places y r e) m.there) (λ y e d. among y e (Contains-append_right (called ++ own) others y d)) within)

  -- the tests of conditions
  iflets_testable : (cs : List IfLet) (sofar : List (TypeId × ℕ)) (places : Places) (before : List Test) → AreIfLetsOf env sofar cs → AreEarly env places → AreHeld env t before vars places → HavePaths sofar places → ((v : TypeId × ℕ) → Contains (iflets_typed sofar cs) v → Contains vars v)
      → AreTestableAt env t before (iflets_tests env cs places)
  iflets_testable [] sofar places before h clear held there within = tt
  iflets_testable (c ∷ cs) sofar places before h clear held there within =
      let q = path env c.rhs places 0 in
      let mid = after env c.lhs q places in
      let called = called_tests env c.rhs places in
      let own = tests env c.lhs q places in
      let next = sofar ++ typed_variables c.lhs in
      let early : (v : TypeId × ℕ) → Contains sofar v → Contains vars v = λ v d. within v (iflets_more (c ∷ cs) sofar v d) in
      let places_typed = held_typed env t vars before sofar places held there early in
      let placed = held_stand env t vars before sofar places held there early in
      let bare = expr_early env sofar h.0.ty c.rhs places 0 h.0.rhs clear in
      let typed = path_typed env t in_condition before sofar places places_typed c.rhs 0 h.0.ty h.0.rhs in
      testable_more env t before (called ++ own) (iflets_tests env cs mid)
      (testable_more env t before called own (expr_testable env t sofar places before places_typed placed clear c.rhs h.0.ty h.0.rhs)
      (λ later a among. pattern_testable env t c.lhs q h.0.ty places later h.0.lhs typed (expr_stands env later sofar places (places_still env before later sofar places a placed) clear c.rhs h.0.ty h.0.rhs among []) bare))
      (λ later a among.
      let stands : IsStanding env later q = expr_stands env later sofar places (places_still env before later sofar places a placed) clear c.rhs h.0.ty h.0.rhs (λ y e d. among y e (Contains-append_left called own y d)) in
      let m = pattern_passed env t later vars one c.lhs q h.0.ty places h.0.lhs typed stands bare (held_later env t vars before later places a held) (λ y e d. among y e (Contains-append_right called own y d))
      (λ v d. within v (iflets_more cs next v (Contains-append_right sofar (typed_variables c.lhs) v d))) in
      iflets_testable cs next mid later h.1 (after_early c.lhs env q places bare clear) m.held (more_paths env t vars sofar (typed_variables c.lhs) places mid there (λ y r e. after_keeps c.lhs env q places y r e) m.there) within)

-- ---- a rule

module _ (env : Environment) (t : Term) (r : Rule) (args : ArePatternsOf env t.arg_tys r.args) (iflets : AreIfLetsOf env (all_typed r.args) r.iflets) (one : HaveOneType (rule_typed r)) where
  -- after its patterns
  pub patterns_passed : (all : List Test) → HasConstraints all (args_tests env r.args 0 no_places) → IsPassed env t all (rule_typed r) (args_tests env r.args 0 no_places) (all_typed r.args) (args_after env r.args 0 no_places)
  patterns_passed all among = args_passed env t all (rule_typed r) one r.args 0 t.arg_tys no_places args (args_are env t) (λ ty x p c e. absurd cc) among (λ v c. iflets_more r.iflets (all_typed r.args) v c)

  -- its arguments' variables stand at no impure call
  args_clear : AreEarly env (args_after env r.args 0 no_places)
  args_clear = args_early env r.args 0 no_places (record { by = λ x. tt })

  -- after its conditions
  pub rule_passed : (all : List Test) → HasConstraints all (rule_tests env r) → IsPassed env t all (rule_typed r) (rule_tests env r) (rule_typed r) (rule_places env r)
  rule_passed all among =
      let first = args_tests env r.args 0 no_places in
      let mid = args_after env r.args 0 no_places in
      let rest = iflets_tests env r.iflets mid in
      let h = patterns_passed all (λ y e c. among y e (Contains-append_left first rest y c)) in
      let k = iflets_passed env t (rule_typed r) one all r.iflets (all_typed r.args) mid iflets args_clear h.held h.there (λ y e c. among y e (Contains-append_right first rest y c)) (λ v c. c) in
      record { held = k.held; equals = λ a b c. ⊎_elim (λ d. h.equals a b d) (λ d. k.equals a b d) (Contains-append_cases first rest (Equal a b) c); there = k.there }

  -- what stands before each of its conditions has types
  pub conditions_typed : (all : List Test) → HasConstraints all (rule_tests env r) → HasTypedConditions env t all (all_typed r.args) r.iflets (args_after env r.args 0 no_places)
  conditions_typed all among =
      let first = args_tests env r.args 0 no_places in
      let mid = args_after env r.args 0 no_places in
      let rest = iflets_tests env r.iflets mid in
      let h = patterns_passed all (λ y e c. among y e (Contains-append_left first rest y c)) in
      iflets_places env t (rule_typed r) one all r.iflets (all_typed r.args) mid iflets args_clear h.held h.there (λ y e c. among y e (Contains-append_right first rest y c)) (λ v c. c)

  -- its tests are ready
  pub rule_testable : AreTestableAt env t [] (rule_tests env r)
  rule_testable =
      let mid = args_after env r.args 0 no_places in
      testable_more env t [] (args_tests env r.args 0 no_places) (iflets_tests env r.iflets mid) (args_testable env t r.args 0 t.arg_tys no_places [] args (args_are env t))
      (λ later a among. let h = patterns_passed later among in iflets_testable env t (rule_typed r) one r.iflets (all_typed r.args) mid later iflets args_clear h.held h.there (λ v c. c))

  -- its variables stand at paths of their types
  pub rule_placed : (all : List Test) → HasConstraints all (rule_tests env r) → ArePlacedAs env t all (rule_typed r) (rule_places env r)
  rule_placed all among ty x c =
      let k = rule_passed all among in
      let at = k.there (ty, x) c in
      let held = k.held ty x at.0 c at.1 in
      record { path = at.0; is = at.1; typed = held.0; stands = held.1 }

  -- and what they equate may be compared
  pub rule_compares : (all : List Test) → HasConstraints all (rule_tests env r) → (p q : Path) → Contains (rule_tests env r) (Equal p q) → AreComparableAt env t all p q
  rule_compares all among p q c = (rule_passed all among).equals p q c
