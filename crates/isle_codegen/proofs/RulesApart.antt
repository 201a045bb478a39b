-- No two rules of a typed term that match have one priority, if nothing is wrong with the rules, and tests of its rules exclude each other.
use Rattle.std.proofs.Common.{◌≡◌, ◌⊎◌, ⊎_elim, ℕ, zero, suc, ◌+◌, ◌<◌, List, [], ◌∷◌, length, true, false, Option, Some, refl, sym, ap, ◌∙◌, subst}
use Rattle.std.specs.Prelude.{All, Contains, slice_get}
use Rattle.std.specs.List.{AllByRecursion}
use Rattle.std.specs.Option.{option_map_or}
use Rattle.std.proofs.lemmas.List.Elements.{Contains-append_left, Contains-append_right}
use Rattle.std.proofs.lemmas.Option.{slice_get_within, slice_get-get_or, get_or_from_slice_get}
use Rattle.isle_core.specs.declared.TermId.{TermId}
use Rattle.isle_core.specs.declared.rule_sets.FlatRule.{FlatRule}
use Rattle.isle_core.specs.declared.types.Term.{Term}
use Rattle.isle_core.specs.declared.rule_sets.RuleSet.{RuleSet}
use Rattle.isle_core.specs.ApartTests.{AreTestsApart}
use Rattle.isle_core.specs.CalledTerms.{CalledTerm, called_in, called}
use Rattle.isle_core.specs.Calling.{kind_of, is_several, impure}
use Rattle.isle_core.specs.HighestMatch.{AreApart}
use Rattle.isle_core.specs.Match.{Names}
use Rattle.isle_core.specs.Meaning.{Meaning}
use Rattle.isle_core.specs.Outcome.{rule_names}
use Rattle.isle_core.specs.Path.{Path, paths_of}
use Rattle.isle_core.specs.RuleSet.{flat_holds}
use Rattle.isle_core.specs.Single.{AreSingle}
use Rattle.isle_core.specs.StandsFor.{StandsFor, IsFlat, AreFlat, IsTrivial}
use Rattle.isle_core.specs.Terms.{with_rules}
use Rattle.isle_core.specs.Tests.{Test, Is, Equal, HasItem, rule_tests}
use Rattle.isle_core.specs.Value.{Value}
use Rattle.isle_core.specs.ValueAt.{nothing_known, value_at, equal_held, holds}
use Rattle.isle_core.specs.Rule.{Environment, Rule, rules_of}
use Rattle.isle_ast.specs.Tree.{Def}
use Rattle.isle_core.specs.HasType.{HaveTypes}
use Rattle.isle_core.specs.Lawful.{IsLawful}
use Rattle.isle_core.proofs.Contained.{contained_cases, none_contained}
use Rattle.isle_core.proofs.SetMeans.{equal_held-self, flat_same_at}
use Rattle.isle_core.proofs.SingleTests.{IsPlainTest, rule_plain}
use Rattle.isle_blocks.specs.ApartRules.{AreRulesApart}
use Rattle.isle_sema.specs.Typing.{Typed}
use Rattle.isle_sema.proofs.BuiltRules.{typed_tests, typed_variables_once}
use Rattle.isle_sema.proofs.TypedRules.{typed_rules}
use Rattle.isle_checks.specs.CheckList.{is_multi, IsClean}
use Rattle.isle_checks.proofs.OneHighest.{one_highest, rule_matches, one_place}
use Rattle.isle_checks.proofs.TestsApart.{tests_apart}
use Rattle.isle_codegen.proofs.TypedNames.{typed_parts}

-- if nothing is wrong with the rules of typed definitions, those of a term that match differ by priority
pub rules_apart : (defs : List Def) (env : Environment) (id : TermId) (t : Term) → Typed defs env → IsClean env → Contains (with_rules env) id → slice_get env.terms id.0 ≡ Some t → is_several (kind_of t.kind) ≡ false
    → (m : Meaning) (args : List Value) → IsLawful env id m → HaveTypes env args t.arg_tys → AreApart env m args (rules_of env id)
rules_apart defs env id t typed clean listed at once m args lawful types =
    let names = typed_parts defs env typed in
    let single : is_multi env id ≡ false = ap (λ (o : Option Term). option_map_or (λ (u : Term). is_several (kind_of u.kind)) o false) at ∙ once in
    one_highest env id t listed single (typed_tests defs env id t typed at) (typed_variables_once defs env id t typed at) clean names.variants names.constants m args lawful types

-- ---- flat rules

-- a flat rule at the place of its rule
record IsFlatAt (env : Environment) (ps : List Path) (rules : List Rule) (i : ℕ) (f : FlatRule) : Type 0 where
  rule : Rule
  at_place : slice_get rules i ≡ Some rule
  before : ℕ
  flat : IsFlat env ps rule before f

flat_at : (env : Environment) (ps : List Path) (rules : List Rule) (n : ℕ) (fs : List FlatRule) (i : ℕ) (f : FlatRule) → AreFlat env ps rules n fs → slice_get fs i ≡ Some f → IsFlatAt env ps rules i f
flat_at env ps (r ∷ rules) n (g ∷ fs) zero f h e = record { rule = r; at_place = refl; before = n; flat = subst (IsFlat env ps r n) (one_flat g f e) h.0 }
  where
    one_flat : (x y : FlatRule) → Some x ≡ Some y → x ≡ y
    one_flat x y k = cc
flat_at env ps (r ∷ rules) n (g ∷ fs) (suc i) f h e = let k = flat_at env ps rules (n + impure env r.rhs) fs i f h.1 e in record { rule = k.rule; at_place = k.at_place; before = k.before; flat = k.flat }
flat_at env ps [] n [] i f h e = cc
flat_at env ps [] n (g ∷ fs) i f h e = absurd h
flat_at env ps (r ∷ rules) n [] i f h e = absurd h

-- of a term that answers once what is trivial holds
trivial_holds : (env : Environment) (m : Meaning) (args : List Value) (t : Test) → IsPlainTest t → IsTrivial t → holds env m (value_at env m args nothing_known) t ≡ true
trivial_holds env m args (Is p c) plain e = absurd e
trivial_holds env m args (Equal p q) plain e = subst (λ x. equal_held (value_at env m args nothing_known p) (value_at env m args nothing_known x) ≡ true) e (equal_held-self (value_at env m args nothing_known p))
trivial_holds env m args (HasItem p) plain e = absurd plain

-- what a rule calls is among what the rules call
called_among : (env : Environment) (rules : List Rule) (r : Rule) (o : CalledTerm) → Contains rules r → Contains (called_in env r) o → Contains (called env rules) o
called_among env [] r o c k = absurd (none_contained r c)
called_among env (x ∷ rules) r o c k = ⊎_elim
    (λ (e : x ≡ r). Contains-append_left (called_in env x) (called env rules) o (subst (λ y. Contains (called_in env y) o) (sym e) k))
    (λ d. Contains-append_right (called_in env x) (called env rules) o (called_among env rules r o d k))
    (contained_cases x rules r c)

plain_in : (ts : List Test) (t : Test) → AllByRecursion IsPlainTest ts → Contains ts t → IsPlainTest t
plain_in [] t h c = absurd (none_contained t c)
plain_in (x ∷ ts) t h c = ⊎_elim (λ (e : x ≡ t). subst IsPlainTest e h.0) (λ d. plain_in ts t h.1 d) (contained_cases x ts t c)

-- no two flat rules of a set that stands for a term's rules hold and have one priority
pub flat_apart : (defs : List Def) (env : Environment) (id : TermId) (t : Term) (s : RuleSet) → Typed defs env → IsClean env → Contains (with_rules env) id → slice_get env.terms id.0 ≡ Some t → is_several (kind_of t.kind) ≡ false → AreSingle env (called env (rules_of env id))
    → StandsFor env s (rules_of env id) → (m : Meaning) (args : List Value) → IsLawful env id m → HaveTypes env args t.arg_tys → AreRulesApart env m args s
flat_apart defs env id t s typed clean listed at once single stands m args lawful types f g c d holds_f holds_g same =
    let rules = rules_of env id in
    let names = typed_parts defs env typed in
    let fit = typed_tests defs env id t typed at in
    let variables = typed_variables_once defs env id t typed at in
    let alone : is_multi env id ≡ false = ap (λ (o : Option Term). option_map_or (λ (u : Term). is_several (kind_of u.kind)) o false) at ∙ once in
    let at_f = place_in s.rules f c in
    let at_g = place_in s.rules g d in
    let x = flat_at env (paths_of s.bindings) rules 0 s.rules c.0 f stands.flat at_f in
    let y = flat_at env (paths_of s.bindings) rules 0 s.rules d.0 g stands.flat at_g in
    let n = matches c.0 f x holds_f in
    let k = matches d.0 g y holds_g in
    let one = one_place env id t fit variables names.variants names.constants m args lawful types listed alone clean c.0 d.0 x.rule y.rule n.0 k.0 x.at_place y.at_place n.1 k.1 (sym x.flat.prio ∙ same ∙ y.flat.prio) in
    one_flat f g (sym at_f ∙ ap (slice_get s.rules) one ∙ at_g)
  where
    one_flat : (a b : FlatRule) → Some a ≡ Some b → a ≡ b
    one_flat a b e = cc

    place_in : (fs : List FlatRule) (a : FlatRule) (i : Contains fs a) → slice_get fs i.0 ≡ Some a
    place_in fs a i = slice_get-get_or fs i.0 a i.1 ∙ ap Some i.2

    matches : (i : ℕ) (a : FlatRule) (x : IsFlatAt env (paths_of s.bindings) (rules_of env id) i a) → flat_holds env m args (paths_of s.bindings) a ≡ true → (found : Names) × (rule_names env m args x.rule ≡ Some found)
    matches i a x h =
        let rules = rules_of env id in
        let names = typed_parts defs env typed in
        let val = value_at env m args nothing_known in
        let there = rule_at rules i x.rule x.at_place in
        let plain = rule_plain env x.rule (λ o k. single o (called_among env rules x.rule o there k)) in
        let tests = flat_same_at env m val (paths_of s.bindings) x.rule x.before a (λ u k trivial. trivial_holds env m args u (plain_in (rule_tests env x.rule) u plain k) trivial) x.flat in
        rule_matches env id t (typed_tests defs env id t typed at) (typed_variables_once defs env id t typed at) names.variants names.constants m args lawful types x.rule there (sym tests ∙ h)
      where
        rule_at : (rs : List Rule) (j : ℕ) (r : Rule) → slice_get rs j ≡ Some r → Contains rs r
        rule_at rs j r e = (j, slice_get_within rs j r e, get_or_from_slice_get rs j r r e)

-- of the constraints that a set which stands for a term's typed rules puts on one path at most one holds
pub set_apart : (defs : List Def) (env : Environment) (id : TermId) (t : Term) (s : RuleSet) → Typed defs env → slice_get env.terms id.0 ≡ Some t → StandsFor env s (rules_of env id) → (m : Meaning) (args : List Value) → IsLawful env id m → AreTestsApart env m args s
set_apart defs env id t s typed at stands m args lawful =
    let names = typed_parts defs env typed in
    tests_apart env id t.arg_tys s stands (typed_tests defs env id t typed at) (typed_variables_once defs env id t typed at) names.constants names.variants m args lawful

-- each rule is of a term that is there
pub typed_roots : (defs : List Def) (env : Environment) → Typed defs env → All (λ (r : Rule). r.root_term.0 < length env.terms) env.rules
typed_roots defs env h k d lt = let t = typed_rules defs env h k d lt in slice_get_within env.terms _ t.term t.root
