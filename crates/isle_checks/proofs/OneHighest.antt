-- Where no rule of a term is in error, no two that match have one priority.
use Rattle.std.proofs.Common.{◌≡◌, ℕ, zero, suc, ◌<◌, List, [], ◌∷◌, ◌++◌, length, map, Bool, true, false, Option, Some, None, refl, sym, ap, ◌∙◌, subst, arith, ◌⊎◌, ⊎_elim}
use Rattle.std.specs.Prelude.{All, Contains, slice_get}
use Rattle.std.proofs.lemmas.List.Elements.{All-contains, Contains-append_left, Contains-append_right}
use Rattle.std.proofs.lemmas.List.Sums.{AllPass-from_list_all}
use Rattle.std.proofs.lemmas.Option.{slice_get-get_or, get_or_from_slice_get}
use Rattle.isle_core.specs.declared.TermId.{TermId}
use Rattle.isle_core.specs.declared.TypeId.{TypeId}
use Rattle.isle_core.specs.declared.rule_sets.Constraint.{Constraint}
use Rattle.isle_core.specs.declared.types.Term.{Term}
use Rattle.isle_core.specs.Value.{Value}
use Rattle.isle_core.specs.Meaning.{Meaning}
use Rattle.isle_core.specs.Match.{Names}
use Rattle.isle_core.specs.Outcome.{rule_names}
use Rattle.isle_core.specs.HighestMatch.{AreApart}
use Rattle.isle_core.specs.Path.{Path}
use Rattle.isle_core.specs.Tests.{Is, Places, rule_places, rule_tests}
use Rattle.isle_core.specs.Terms.{with_rules}
use Rattle.isle_core.specs.ValueAt.{nothing_known, value_at, meets, holds, all_hold}
use Rattle.isle_core.specs.HasType.{HaveTypes}
use Rattle.isle_core.specs.Lawful.{IsLawful}
use Rattle.isle_core.specs.OccurringConstants.{TypedConstant, Named, expr_constants, args_constants, iflets_constants, rule_constants, rules_constants}
use Rattle.isle_core.specs.NamesApart.{AreConstantsPlain}
use Rattle.isle_core.specs.PatternType.{AreVariantsApart}
use Rattle.isle_core.specs.Rule.{Environment, Rule, rules_of}
use Rattle.isle_core.proofs.Contained.{contained_cases, none_contained}
use Rattle.isle_core.specs.CalledTerms.{extracted_in, called_in_iflets, called_by, called_in, called}
use Rattle.isle_core.proofs.PatternTests.{Values, Both}
use Rattle.isle_core.proofs.RuleMatches.{rule_both}
use Rattle.isle_core.specs.TypedVariables.{rule_typed, HaveOneType}
use Rattle.isle_checks.specs.CheckList.{RuleError, unreachable_of, overlap_of, shadow_of, positions, is_multi, AreErrorsAt, AreErrorsBelow, AreErrorsOf, AreErrorsOfTerm, AreErrorsOfTerms, IsClean}
use Rattle.isle_core.specs.Choice.{first_items}
use Rattle.isle_core.specs.Served.{AreServed, IsSupplied, IsTested}
use Rattle.isle_checks.specs.Firsts.{IsFirst}
use Rattle.isle_checks.specs.RuleChecks.{Overlaps, OverlapsAt}
use Rattle.isle_checks.proofs.ListChecks.{of_two}
use Rattle.isle_checks.proofs.ConditionTypes.{rule_tests_typed}
use Rattle.isle_checks.proofs.TestedTypes.{IsOn, IsTyped}
use Rattle.isle_checks.proofs.MetOnce.{AreConstantsApart, one_constraint}

-- ---- two rules that match overlap, where they have one priority

matched_holds : (val : Values) (o : Option Names) (b : Bool) (places : Places) (names : Names) → o ≡ Some names → Both val o b places → b ≡ true
matched_holds val None b places names e h = cc
matched_holds val (Some found) b places names e h = h.0

pub some_type : (a b : TypeId) → Some a ≡ Some b → a ≡ b
some_type a b e = cc

module _ (env : Environment) (m : Meaning) (args : List Value) (tys : List TypeId) (known : List TypedConstant) (variants : AreVariantsApart env) (plain : AreConstantsPlain env) (constants : AreConstantsApart env m known) (typed : HaveTypes env args tys) where
  -- a rule of the types, whose constants are known
  record IsOf (r : Rule) : Type 0 where
    tested : IsTested env tys r
    variables : HaveOneType (rule_typed r)
    among : (c : TypedConstant) → Contains (rule_constants r) c → Contains known c
    served : AreServed env m (extracted_in env r.args)
    supplied : IsSupplied env m (called_in_iflets env r.iflets) (iflets_constants r.iflets)

  -- a rule that matches tests paths that have types, by constraints on values of these that what stands there meets
  meets_test : (r : Rule) (names : Names) → IsOf r → rule_names env m args r ≡ Some names → (p : Path) (c : Constraint) → Contains (rule_tests env r) (Is p c)
      → IsTyped env plain known tys p c × (meets env m c (value_at env m args nothing_known p) ≡ true)
  meets_test r names h e p c k =
      let val = value_at env m args nothing_known in
      let all = matched_holds val (rule_names env m args r) (all_hold env m val (rule_tests env r)) (rule_places env r) names e (rule_both env m first_items args tys r variants h.tested typed h.served h.supplied) in
      (rule_tests_typed env plain known tys r p c h.tested h.variables h.among k, All-contains (λ t. holds env m val t ≡ true) (rule_tests env r) (Is p c) (AllPass-from_list_all (holds env m val) (rule_tests env r) all) k)

  matched_overlap : (q r : Rule) (names others : Names) → IsOf q → IsOf r → rule_names env m args q ≡ Some names → rule_names env m args r ≡ Some others → q.prio ≡ r.prio → Overlaps env q r
  matched_overlap q r names others h h' e e' same = record {
    prio = same;
    agree = λ p c d k l differ.
        let x = meets_test q names h e p c k in
        let y = meets_test r others h' e' p d l in
        let of_type : y.0.ty ≡ x.0.ty = some_type y.0.ty x.0.ty (sym y.0.is ∙ x.0.is) in
        differ (one_constraint env m known variants constants x.0.ty (value_at env m args nothing_known p) c d x.0.on (subst (λ ty. IsOn env known ty d) of_type y.0.on) x.1 y.1);
  }

-- ---- no errors

nil_of_told : (es : List RuleError) → [] ≡ map Some es → es ≡ []
nil_of_told [] e = refl
nil_of_told (x ∷ es) e = cc

nil_parts : (es fs : List RuleError) → [] ≡ es ++ fs → (es ≡ []) × (fs ≡ [])
nil_parts [] fs e = (refl, sym e)
nil_parts (x ∷ es) fs e = cc

-- of each term there are none
term_clean : (env : Environment) (ids : List TermId) (id : TermId) → AreErrorsOfTerms env ids [] → Contains ids id → AreErrorsOfTerm env id []
term_clean env [] id h c = absurd (none_contained id c)
term_clean env (x ∷ ids) id h c =
    let parts = nil_parts h.0 h.1 h.4 in
    ⊎_elim (λ e. subst (λ i. AreErrorsOfTerm env i []) e (subst (AreErrorsOfTerm env x) parts.0 h.2)) (λ d. term_clean env ids id (subst (AreErrorsOfTerms env ids) parts.1 h.3) d) (contained_cases x ids id c)

none_overlaps : (env : Environment) (rules : List Rule) (i j : ℕ) (o : Option ℕ) → overlap_of (positions rules) j o ≡ [] → IsFirst (λ k. (false ≡ false) × OverlapsAt env rules k j) o → OverlapsAt env rules i j → ⊥
none_overlaps env rules i j None e h o = h i (refl, o)
none_overlaps env rules i j (Some k) e h o = cc

below_cases : (j n : ℕ) → j < suc n → (j < n) ⊎ (j ≡ n)
below_cases j n lt = grind (arith)

-- of a term that answers at most once none overlaps another one
none_below : (env : Environment) (rules : List Rule) (n i j : ℕ) → AreErrorsBelow env false rules n [] → j < n → OverlapsAt env rules i j → ⊥
none_below env rules zero i j h lt o = absurd (omega (arith, lt))
none_below env rules (suc n) i j h lt o =
    let parts = nil_parts h.0 h.1 h.4 in
    ⊎_elim (λ d. none_below env rules n i j (subst (AreErrorsBelow env false rules n) parts.0 h.2) d o)
    (λ (e : j ≡ n). none_at n (h.3) (sym parts.1) (subst (OverlapsAt env rules i) e o))
    (below_cases j n lt)
  where
    none_at : (n : ℕ) → AreErrorsAt env false rules n h.1 → [] ≡ h.1 → OverlapsAt env rules i n → ⊥
    none_at n a e o = none_overlaps env rules i n a.overlap (nil_parts (unreachable_of (positions rules) n a.unreachable) (overlap_of (positions rules) n a.overlap) (sym (nil_parts (unreachable_of (positions rules) n a.unreachable ++ overlap_of (positions rules) n a.overlap) (shadow_of (positions rules) n a.shadow) (e ∙ a.are)).0)).1 a.first_overlap o

-- ---- the law

place_of : (rules : List Rule) (r : Rule) (c : Contains rules r) → slice_get rules c.0 ≡ Some r
place_of rules r c = slice_get-get_or rules c.0 r c.1 ∙ ap Some c.2

place_within : (rules : List Rule) (i : ℕ) (r : Rule) → slice_get rules i ≡ Some r → i < length rules
place_within [] i r e = cc
place_within (x ∷ rules) zero r e = omega arith
place_within (x ∷ rules) (suc i) r e = let k = place_within rules i r e in omega (arith, k)

contains_from : (rules : List Rule) (i : ℕ) (r : Rule) → slice_get rules i ≡ Some r → Contains rules r
contains_from rules i r e = (i, place_within rules i r e, get_or_from_slice_get rules i r r e)

two_places : (i j : ℕ) → (i < j) ⊎ ((j < i) ⊎ (i ≡ j))
two_places i j = grind (arith)

some_rule : (a b : Rule) → Some a ≡ Some b → a ≡ b
some_rule a b e = cc

pub constants_among : (rules : List Rule) (r : Rule) (c : TypedConstant) → Contains rules r → Contains (rule_constants r) c → Contains (rules_constants rules) c
constants_among [] r c k h = absurd (none_contained r k)
constants_among (x ∷ rules) r c k h = ⊎_elim
    (λ (e : x ≡ r). Contains-append_left (rule_constants x) (rules_constants rules) c (subst (λ (y : Rule). Contains (rule_constants y) c) (sym e) h))
    (λ d. Contains-append_right (rule_constants x) (rules_constants rules) c (constants_among rules r c d h))
    (contained_cases x rules r k)

-- what a rule calls is among what the rules call
served_among : (env : Environment) (m : Meaning) (rules : List Rule) (r : Rule) → AreServed env m (called env rules) → Contains rules r → AreServed env m (called_in env r)
served_among env m [] r h c o k = absurd (none_contained r c)
served_among env m (x ∷ rules) r h c o k = ⊎_elim
    (λ (e : x ≡ r). h o (Contains-append_left (called_in env x) (called env rules) o (subst (λ (y : Rule). Contains (called_in env y) o) (sym e) k)))
    (λ d. served_among env m rules r (λ y i. h y (Contains-append_right (called_in env x) (called env rules) y i)) d o k)
    (contained_cases x rules r c)

-- so are what its patterns call
patterns_served : (env : Environment) (m : Meaning) (r : Rule) → AreServed env m (called_in env r) → AreServed env m (extracted_in env r.args)
patterns_served env m r h o k = h o (Contains-append_left (extracted_in env r.args ++ called_in_iflets env r.iflets) (called_by env r.rhs) o (Contains-append_left (extracted_in env r.args) (called_in_iflets env r.iflets) o k))

-- and what its conditions call and name
conditions_supplied : (env : Environment) (id : TermId) (m : Meaning) (r : Rule) → IsLawful env id m → Contains (rules_of env id) r → AreServed env m (called_in env r) → IsSupplied env m (called_in_iflets env r.iflets) (iflets_constants r.iflets)
conditions_supplied env id m r lawful c h = record {
  answers = λ o k. h o (Contains-append_left (extracted_in env r.args ++ called_in_iflets env r.iflets) (called_by env r.rhs) o (Contains-append_right (extracted_in env r.args) (called_in_iflets env r.iflets) o k));
  named = λ ty name k. lawful.named ty name (constants_among (rules_of env id) r (ty, Named name) c (Contains-append_left (args_constants r.args ++ iflets_constants r.iflets) (expr_constants r.rhs) (ty, Named name) (Contains-append_right (args_constants r.args) (iflets_constants r.iflets) (ty, Named name) k)));
}

-- of a term whose rules are built and have its types, if the meaning is lawful and the values have the arguments' types
module _ (env : Environment) (id : TermId) (t : Term) (fit : All (IsTested env t.arg_tys) (rules_of env id)) (once : All (λ (r : Rule). HaveOneType (rule_typed r)) (rules_of env id)) (variants : AreVariantsApart env) (plain : AreConstantsPlain env)
    (m : Meaning) (args : List Value) (lawful : IsLawful env id m) (typed : HaveTypes env args t.arg_tys) where
  abbrev its_rules : List Rule
  its_rules = rules_of env id

  abbrev its_constants : List TypedConstant
  its_constants = rules_constants its_rules

  is_of : (x : Rule) → Contains its_rules x → IsOf env m args t.arg_tys its_constants variants plain lawful.apart typed x
  is_of x h = record {
    tested = All-contains (IsTested env t.arg_tys) its_rules x fit h;
    variables = All-contains (λ (r : Rule). HaveOneType (rule_typed r)) its_rules x once h;
    among = λ y i. constants_among its_rules x y h i;
    served = patterns_served env m x (served_among env m its_rules x lawful.answers h);
    supplied = conditions_supplied env id m x lawful h (served_among env m its_rules x lawful.answers h);
  }

  -- a rule whose tests hold matches
  pub rule_matches : (x : Rule) → Contains its_rules x → all_hold env m (value_at env m args nothing_known) (rule_tests env x) ≡ true → (names : Names) × (rule_names env m args x ≡ Some names)
  rule_matches x h holds =
      let k = is_of x h in
      by (rule_names env m args x) (all_hold env m (value_at env m args nothing_known) (rule_tests env x)) refl holds (rule_both env m first_items args t.arg_tys x variants k.tested typed k.served k.supplied)
    where
      by : (o : Option Names) (b : Bool) → rule_names env m args x ≡ o → b ≡ true → Both (value_at env m args nothing_known) o b (rule_places env x) → (names : Names) × (rule_names env m args x ≡ Some names)
      by None b is e both = absurd cc
      by (Some names) b is e both = (names, is)

  -- of a term that answers at most once no two of one priority match
  pub one_place : Contains (with_rules env) id → is_multi env id ≡ false → IsClean env → (i j : ℕ) (q r : Rule) (names others : Names) → slice_get its_rules i ≡ Some q → slice_get its_rules j ≡ Some r
      → rule_names env m args q ≡ Some names → rule_names env m args r ≡ Some others → q.prio ≡ r.prio → i ≡ j
  one_place listed single clean i j q r names others first second e k same =
      let none = term_clean env (with_rules env) id (subst (AreErrorsOfTerms env (with_rules env)) (nil_of_told clean.0 clean.2) clean.1) listed in
      let of_rules : AreErrorsOf env false its_rules [] = rw single at none in
      let c = contains_from its_rules i q first in
      let d = contains_from its_rules j r second in
      ⊎_elim
      (λ (lt : i < j). absurd (none_below env its_rules (length its_rules) i j of_rules (place_within its_rules j r second) (lt, of_two (Overlaps env) _ _ q r first second (matched_overlap env m args t.arg_tys its_constants variants plain lawful.apart typed q r names others (is_of q c) (is_of r d) e k same))))
      (λ (h : (j < i) ⊎ (i ≡ j)). ⊎_elim
      (λ (lt : j < i). absurd (none_below env its_rules (length its_rules) j i of_rules (place_within its_rules i q first) (lt, of_two (Overlaps env) _ _ r q second first (matched_overlap env m args t.arg_tys its_constants variants plain lawful.apart typed r q others names (is_of r d) (is_of q c) k e (sym same)))))
      (λ at. at)
      h)
      (two_places i j)

-- so two that match and have one priority are one
pub one_highest : (env : Environment) (id : TermId) (t : Term) → Contains (with_rules env) id → is_multi env id ≡ false → All (IsTested env t.arg_tys) (rules_of env id) → All (λ (r : Rule). HaveOneType (rule_typed r)) (rules_of env id) → IsClean env → AreVariantsApart env → AreConstantsPlain env
    → (m : Meaning) (args : List Value) → IsLawful env id m → HaveTypes env args t.arg_tys → AreApart env m args (rules_of env id)
one_highest env id t listed single fit once clean variants plain m args lawful typed q r names others c d e k same =
    let rules = rules_of env id in
    let first = place_of rules q c in
    let second = place_of rules r d in
    let at = one_place env id t fit once variants plain m args lawful typed listed single clean c.0 d.0 q r names others first second e k same in
    some_rule q r (sym first ∙ ap (slice_get rules) at ∙ second)
