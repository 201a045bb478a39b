-- A rule matches exactly if its tests hold, and then names are the values of places.
use Rattle.std.proofs.Common.{◌≡◌, ℕ, ◌+◌, ◌≤◌, List, [], ◌∷◌, ◌++◌, Bool, ◌&&◌, Option, Some, None, refl, sym, ap, subst, arith}
use Rattle.std.specs.Prelude.{option_and_then}
use Rattle.std.proofs.lemmas.List.Elements.{Contains-append_left, Contains-append_right}
use Rattle.std.proofs.lemmas.List.Folds.{list_all-append}
use Rattle.isle_base.specs.declared.ids.TypeId.{TypeId}
use Rattle.isle_core.specs.Calling.{impure}
use Rattle.isle_core.specs.CalledTerms.{extracted_by, extracted_in, called_by, called_in_iflets}
use Rattle.isle_core.specs.Eval.{Evaluated, Answered, Failed, evaluated, value_of, iflet_names, iflets_names}
use Rattle.isle_core.specs.ExprType.{AreIfLetsOf}
use Rattle.isle_core.specs.HasType.{HaveTypes}
use Rattle.isle_core.specs.Match.{Names, no_names, matches, matches_all}
use Rattle.isle_core.specs.Meaning.{Meaning}
use Rattle.isle_core.specs.OccurringConstants.{expr_constants, pattern_constants, iflets_constants}
use Rattle.isle_core.specs.Choice.{Choice}
use Rattle.isle_core.specs.Outcome.{chosen_names}
use Rattle.isle_core.specs.Path.{Path, Arg}
use Rattle.isle_core.specs.Pattern.{Pattern}
use Rattle.isle_core.specs.PatternType.{AreVariantsApart, IsPatternOf}
use Rattle.isle_core.specs.RightSide.{path}
use Rattle.isle_core.specs.Rule.{Environment, IfLet, Rule}
use Rattle.isle_core.specs.Tests.{Places, no_places, tests, after, called_tests, args_tests, args_after, iflets_tests, iflets_after, rule_tests, rule_places}
use Rattle.isle_core.specs.TypedVariables.{typed_variables, all_typed}
use Rattle.isle_core.specs.Value.{Value}
use Rattle.isle_core.specs.ValueAt.{Known, none_made, value_at, holds, all_hold}
use Rattle.isle_core.specs.Served.{AreServed, IsSupplied, IsTested}
use Rattle.isle_core.proofs.ConditionTests.{Gives, expr_gives, no_impure, supplied_less}
use Rattle.isle_core.proofs.Contained.{none_contained}
use Rattle.isle_core.proofs.KnownAnswers.{IsUpTo, PlacesUpTo, places_more, path_up_to, after_up_to, args_up_to, none_up_to}
use Rattle.isle_core.proofs.PatternTests.{Values, HoldsParts, Agree, Both, none_agrees, pattern_both, patterns_both}
use Rattle.isle_core.proofs.TypedNames.{AreNamed, HasNamed, pattern_named, patterns_named}

-- ---- conditions

-- one after the other, of names with types
then_both : (env : Environment) (vars : List (TypeId × ℕ)) (val : Values) (o : Option Names) (b c : Bool) (mid end : Places) (go : Names → Option Names) → Both val o b mid → HasNamed env vars o → ((names : Names) → Agree val names mid → AreNamed env vars names → Both val (go names) c end)
    → Both val (option_and_then go o) (b && c) end
then_both env vars val None b c mid end go h n k = ap (λ x. x && c) h
then_both env vars val (Some names) b c mid end go h n k = subst (λ x. Both val (go names) (x && c) end) (sym h.0) (k names h.1 n)

-- the values of paths hold fields
at_fields : (env : Environment) (m : Meaning) (args : List Value) (known : Known) → HoldsParts env m known.choice (value_at env m args known)
at_fields env m args known = record { variant = λ variant i p. refl; struct = λ i p. refl; extracted = λ term p. refl; inner = λ p. refl; chosen = λ p. refl; part = λ i p. refl }

module _ (env : Environment) (m : Meaning) (choice : Choice) (args : List Value) (apart : AreVariantsApart env) where
  abbrev val : Values
  val = value_at env m args (none_made choice)

  -- the value of an expression and its pattern
  value_both : (vars : List (TypeId × ℕ)) (q : Pattern) (p : Path) (ty : TypeId) (b : Bool) (names : Names) (places : Places) (r : Evaluated) → IsPatternOf env ty q → AreServed env m (extracted_by env q) → Agree val names places → Gives env m choice args apart ty b p [] r
      → Both val (option_and_then (λ v. matches env m choice q p v names) (value_of r)) (b && all_hold env m val (tests env q p places)) (after env q p places)
  value_both vars q p ty b names places (Failed made) h served a k = ap (λ x. x && all_hold env m val (tests env q p places)) k
  value_both vars q p ty b names places (Answered v made) h served a k =
      subst (λ x. Both val (matches env m choice q p v names) (x && all_hold env m val (tests env q p places)) (after env q p places)) (sym k.1) (pattern_both env m choice val apart (at_fields env m args (none_made choice)) q p v ty names places h k.3 k.2 served a)

  value_named : (vars : List (TypeId × ℕ)) (q : Pattern) (p : Path) (ty : TypeId) (b : Bool) (names : Names) (r : Evaluated) → IsPatternOf env ty q → AreServed env m (extracted_by env q) → AreNamed env vars names → Gives env m choice args apart ty b p [] r
      → HasNamed env (vars ++ typed_variables q) (option_and_then (λ v. matches env m choice q p v names) (value_of r))
  value_named vars q p ty b names (Failed made) h served n k = tt
  value_named vars q p ty b names (Answered v made) h served n k = pattern_named env m choice apart q p v ty vars names h k.3 served n

  -- conditions in order
  iflets_both : (cs : List IfLet) (vars : List (TypeId × ℕ)) (names : Names) (places : Places) → AreIfLetsOf env vars cs → Agree val names places → AreNamed env vars names → IsSupplied env m (called_in_iflets env cs) (iflets_constants cs)
      → Both val (iflets_names env m choice cs places names) (all_hold env m val (iflets_tests env cs places)) (iflets_after env cs places)
  iflets_both [] vars names places h a n s = (refl, a)
  iflets_both (c ∷ cs) vars names places h a n s =
      let q = path env c.rhs places 0 in
      let mid = after env c.lhs q places in
      let own = called_by env c.rhs ++ extracted_by env c.lhs in
      let named = expr_constants c.rhs ++ pattern_constants c.lhs in
      let terms = called_in_iflets env (c ∷ cs) in
      let constants = iflets_constants (c ∷ cs) in
      let served : AreServed env m (extracted_by env c.lhs) = λ o k. s.answers o (Contains-append_left own (called_in_iflets env cs) o (Contains-append_right (called_by env c.rhs) (extracted_by env c.lhs) o k)) in
      let supplied = supplied_less env m terms (called_by env c.rhs) constants (expr_constants c.rhs) (λ o k. Contains-append_left own (called_in_iflets env cs) o (Contains-append_left (called_by env c.rhs) (extracted_by env c.lhs) o k))
      (λ x k. Contains-append_left named (iflets_constants cs) x (Contains-append_left (expr_constants c.rhs) (pattern_constants c.lhs) x k)) s in
      let rest = supplied_less env m terms (called_in_iflets env cs) constants (iflets_constants cs) (λ o k. Contains-append_right own (called_in_iflets env cs) o k) (λ x k. Contains-append_right named (iflets_constants cs) x k) s in
      let given = expr_gives env m choice args apart vars h.0.ty c.rhs names places [] h.0.rhs a n supplied in
      let calls = all_hold env m val (called_tests env c.rhs places) in
      let own_tests = called_tests env c.rhs places ++ tests env c.lhs q places in
      let one : Both val (iflet_names env m choice c places names) (all_hold env m val own_tests) mid =
      subst (λ b. Both val (iflet_names env m choice c places names) b mid) (sym (list_all-append (holds env m val) (called_tests env c.rhs places) (tests env c.lhs q places))) (value_both vars c.lhs q h.0.ty calls names places (evaluated env m choice c.rhs names places 0 []) h.0.lhs served a given) in
      subst (λ b. Both val (iflets_names env m choice (c ∷ cs) places names) b (iflets_after env (c ∷ cs) places)) (sym (list_all-append (holds env m val) own_tests (iflets_tests env cs mid)))
      (then_both env (vars ++ typed_variables c.lhs) val (iflet_names env m choice c places names) (all_hold env m val own_tests) (all_hold env m val (iflets_tests env cs mid)) mid (iflets_after env cs mid) (iflets_names env m choice cs mid) one
      (value_named vars c.lhs q h.0.ty calls names (evaluated env m choice c.rhs names places 0 []) h.0.lhs served n given) (λ names' a' n'. iflets_both cs (vars ++ typed_variables c.lhs) names' mid h.1 a' n' rest))

-- ---- a rule

-- a rule matches with these items chosen exactly if its tests hold
pub rule_both : (env : Environment) (m : Meaning) (choice : Choice) (args : List Value) (tys : List TypeId) (r : Rule) → AreVariantsApart env → IsTested env tys r → HaveTypes env args tys → AreServed env m (extracted_in env r.args) → IsSupplied env m (called_in_iflets env r.iflets) (iflets_constants r.iflets)
    → Both (value_at env m args (none_made choice)) (chosen_names env m choice args r) (all_hold env m (value_at env m args (none_made choice)) (rule_tests env r)) (rule_places env r)
rule_both env m choice args tys r apart h t served supplied =
    let val = value_at env m args (none_made choice) in
    let first = args_tests env r.args 0 no_places in
    let mid = args_after env r.args 0 no_places in
    let rest = iflets_tests env r.iflets mid in
    subst (λ b. Both val (chosen_names env m choice args r) b (rule_places env r)) (sym (list_all-append (holds env m val) first rest))
    (then_both env (all_typed r.args) val (matches_all env m choice r.args 0 args no_names) (all_hold env m val first) (all_hold env m val rest) mid (iflets_after env r.iflets mid) (iflets_names env m choice r.iflets mid)
    (patterns_both env m choice val apart (at_fields env m args (none_made choice)) r.args args tys 0 no_names no_places h.args t (λ j. ap (λ n. val (Arg n)) (from_zero j)) served (none_agrees val))
    (patterns_named env m choice apart r.args 0 args tys [] no_names h.args t served (λ ty x c. absurd (none_contained (ty, x) c)))
    (λ names a n. iflets_both env m choice args apart r.iflets (all_typed r.args) names mid h.iflets a n supplied))
  where
    from_zero : (j : ℕ) → j + 0 ≡ j
    from_zero j = omega arith

-- ---- no impure call

-- where the variables of conditions stand
iflets_up_to : (env : Environment) (cs : List IfLet) (vars : List (TypeId × ℕ)) (places : Places) → AreIfLetsOf env vars cs → PlacesUpTo 0 places → PlacesUpTo 0 (iflets_after env cs places)
iflets_up_to env [] vars places h b = b
iflets_up_to env (c ∷ cs) vars places h b =
    let q = path env c.rhs places 0 in
    let count = no_impure env vars h.0.ty c.rhs h.0.rhs in
    let none : 0 + impure env c.rhs ≡ 0 = omega (arith, count) in
    let stands : IsUpTo 0 q = subst (λ n. IsUpTo n q) none (path_up_to c.rhs env places 0 b) in
    iflets_up_to env cs (vars ++ typed_variables c.lhs) (after env c.lhs q places) h.1 (after_up_to c.lhs env 0 q places stands b)

-- those of a rule stand on no impure call
pub rule_up_to : (env : Environment) (tys : List TypeId) (r : Rule) (n : ℕ) → IsTested env tys r → PlacesUpTo n (rule_places env r)
rule_up_to env tys r n h =
    let least : 0 ≤ n = omega arith in
    places_more (rule_places env r) 0 n least (iflets_up_to env r.iflets (all_typed r.args) (args_after env r.args 0 no_places) h.iflets (args_up_to env r.args 0 0 no_places (none_up_to 0)))
