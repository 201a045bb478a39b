-- The errors of the rules of a term are those of its flat rules.
use Rattle.std.proofs.Common.{◌≡◌, ℕ, zero, suc, ◌+◌, ◌<◌, ◌≤◌, List, [], ◌∷◌, length, map, Bool, false, Option, Some, None, refl, sym, ap, ◌∙◌, subst, arith}
use Rattle.std.specs.Prelude.{◌↔◌, IsTrue, IsSomeAnd, slice_get, slice_index_or}
use Rattle.std.specs.List.{AllByRecursion}
use Rattle.isle_core.specs.declared.rule_sets.FlatRule.{FlatRule}
use Rattle.isle_core.specs.Path.{Path}
use Rattle.isle_core.specs.Calling.{impure}
use Rattle.isle_core.specs.StandsFor.{EachOnce, IsFlat, AreFlat}
use Rattle.isle_checks.proofs.FlatTests.{IsReady}
use Rattle.isle_core.specs.Rule.{Environment, Rule}
use Rattle.isle_core.proofs.OptionLaws.{some_same}
use Rattle.isle_checks.specs.declared.placed.Check.{Check}
use Rattle.isle_checks.specs.declared.placed.Check.TheVariants as check
use Rattle.isle_checks.specs.Makes.{MakesAt}
use Rattle.isle_checks.specs.Firsts.{Found, IsFirst, AreFirstsOfTerm}
use Rattle.isle_checks.specs.RuleChecks.{UnreachableAt, OverlapsAt, ShadowsAt}
use Rattle.isle_checks.specs.CheckList.{errors_of, positions, AreErrorsBelow}
use Rattle.isle_checks.specs.Errors.{AreUnreachable, errors_below}
use Rattle.isle_checks.proofs.FirstLaws.{made_of, at_of}
use Rattle.isle_checks.proofs.UnreachableLaws.{rule_unreachable, flat_unreachable}
use Rattle.isle_checks.proofs.CheckLaws.{rules_overlap, flats_overlap, rules_shadow, flats_shadow}

-- ---- the flat rule at a place

-- a rule and its flat rule at one place
pub record BothAt (env : Environment) (ps : List Path) (rules : List Rule) (fs : List FlatRule) (i : ℕ) : Type 0 where
  pub rule : Rule
  pub flat : FlatRule
  pub n : ℕ
  pub rule_at : slice_get rules i ≡ Some rule
  pub flat_at : slice_get fs i ≡ Some flat
  pub is : IsFlat env ps rule n flat
  pub built : IsReady env rule

both_of_rule : (env : Environment) (ps : List Path) (rules : List Rule) (fs : List FlatRule) (n i : ℕ) (r : Rule) → AllByRecursion (IsReady env) rules → AreFlat env ps rules n fs → slice_get rules i ≡ Some r → BothAt env ps rules fs i
both_of_rule env ps [] fs n i r b h e = cc
both_of_rule env ps (q ∷ rules) [] n i r b h e = absurd h
both_of_rule env ps (q ∷ rules) (f ∷ fs) n zero r b h e = record { rule = q; flat = f; n = n; rule_at = refl; flat_at = refl; is = h.0; built = b.0 }
both_of_rule env ps (q ∷ rules) (f ∷ fs) n (suc i) r b h e =
    let x = both_of_rule env ps rules fs (n + impure env q.rhs) i r b.1 h.1 e in
    record { rule = x.rule; flat = x.flat; n = x.n; rule_at = x.rule_at; flat_at = x.flat_at; is = x.is; built = x.built }

both_of_flat : (env : Environment) (ps : List Path) (rules : List Rule) (fs : List FlatRule) (n i : ℕ) (f : FlatRule) → AllByRecursion (IsReady env) rules → AreFlat env ps rules n fs → slice_get fs i ≡ Some f → BothAt env ps rules fs i
both_of_flat env ps [] [] n i f b h e = cc
both_of_flat env ps [] (g ∷ fs) n i f b h e = absurd h
both_of_flat env ps (q ∷ rules) [] n i f b h e = cc
both_of_flat env ps (q ∷ rules) (g ∷ fs) n zero f b h e = record { rule = q; flat = g; n = n; rule_at = refl; flat_at = refl; is = h.0; built = b.0 }
both_of_flat env ps (q ∷ rules) (g ∷ fs) n (suc i) f b h e =
    let x = both_of_flat env ps rules fs (n + impure env q.rhs) i f b.1 h.1 e in
    record { rule = x.rule; flat = x.flat; n = x.n; rule_at = x.rule_at; flat_at = x.flat_at; is = x.is; built = x.built }

pub same_length : (env : Environment) (ps : List Path) (rules : List Rule) (fs : List FlatRule) (n : ℕ) → AreFlat env ps rules n fs → length fs ≡ length rules
same_length env ps [] [] n h = refl
same_length env ps [] (f ∷ fs) n h = absurd h
same_length env ps (r ∷ rules) [] n h = absurd h
same_length env ps (r ∷ rules) (f ∷ fs) n h = ap suc (same_length env ps rules fs (n + impure env r.rhs) h.1)

pub same_positions : (env : Environment) (ps : List Path) (rules : List Rule) (fs : List FlatRule) (n : ℕ) → AreFlat env ps rules n fs → map (λ (f : FlatRule). f.pos) fs ≡ positions rules
same_positions env ps [] [] n h = refl
same_positions env ps [] (f ∷ fs) n h = absurd h
same_positions env ps (r ∷ rules) [] n h = absurd h
same_positions env ps (r ∷ rules) (f ∷ fs) n h = ap (λ xs. f.pos ∷ xs) (same_positions env ps rules fs (n + impure env r.rhs) h.1) ∙ ap (λ x. x ∷ positions rules) h.0.pos

-- what holds of two items that are there
two_of : {X : Type 0} (P : X → X → Type 0) (o p : Option X) → IsSomeAnd o (λ (x : X). IsSomeAnd p (λ (y : X). P x y)) → (x : X) × (y : X) × (o ≡ Some x) × (p ≡ Some y) × P x y
two_of P None p h = absurd h
two_of P (Some x) None h = absurd h
two_of P (Some x) (Some y) h = (x, y, refl, refl, h)

pub of_two : {X : Type 0} (P : X → X → Type 0) (o p : Option X) (x y : X) → o ≡ Some x → p ≡ Some y → P x y → IsSomeAnd o (λ (x : X). IsSomeAnd p (λ (y : X). P x y))
of_two P o p x y e k h = subst (λ a. IsSomeAnd a (λ (x : _). IsSomeAnd p (λ (y : _). P x y))) (sym e) (subst (λ b. IsSomeAnd b (λ (y : _). P x y)) (sym k) h)

-- ---- errors at places

-- the relation on rules that a check is about
abbrev pub RulesMake : Check → Environment → List Rule → ℕ → ℕ → Type 0
RulesMake check.Overlaps env rules i j = OverlapsAt env rules i j
RulesMake check.Shadows env rules i j = ShadowsAt env rules i j

-- what was told of flat rules holds of rules
unreachable_too : (env : Environment) (ps : List Path) → EachOnce ps → (rules : List Rule) (fs : List FlatRule) (n : ℕ) (us : List Bool) → AllByRecursion (IsReady env) rules → AreFlat env ps rules n fs → AreUnreachable fs us → (j : ℕ) → IsTrue (slice_index_or us j false) ↔ UnreachableAt env rules j
unreachable_too env ps once [] [] n [] b h k zero = (λ e. cc, λ e. absurd e)
unreachable_too env ps once [] [] n [] b h k (suc j) = (λ e. cc, λ e. absurd e)
unreachable_too env ps once (r ∷ rules) (f ∷ fs) n (u ∷ us) b h k zero = (λ e. rule_unreachable env ps once r n f h.0 b.0 (k.0.0 e), λ e. k.0.1 (flat_unreachable env ps once r n f h.0 b.0 e))
unreachable_too env ps once (r ∷ rules) (f ∷ fs) n (u ∷ us) b h k (suc j) = unreachable_too env ps once rules fs (n + impure env r.rhs) us b.1 h.1 k.1 j
unreachable_too env ps once [] (f ∷ fs) n us b h k j = absurd h
unreachable_too env ps once (r ∷ rules) [] n us b h k j = absurd h
unreachable_too env ps once [] [] n (u ∷ us) b h k j = absurd k
unreachable_too env ps once (r ∷ rules) (f ∷ fs) n [] b h k j = absurd k

module _ (env : Environment) (ps : List Path) (once : EachOnce ps) (rules : List Rule) (fs : List FlatRule) (n : ℕ) (built : AllByRecursion (IsReady env) rules) (flat : AreFlat env ps rules n fs) where
  to_rules : (c : Check) (i j : ℕ) → MakesAt c fs i j → RulesMake c env rules i j
  to_rules check.Overlaps i j h =
      let m = made_of check.Overlaps i j (slice_get fs i) (slice_get fs j) h in
      let x = both_of_flat env ps rules fs n i m.0 built flat m.2 in
      let y = both_of_flat env ps rules fs n j m.1 built flat m.3 in
      let made = rw (some_same m.0 x.flat (sym m.2 ∙ x.flat_at), some_same m.1 y.flat (sym m.3 ∙ y.flat_at)) at m.4 in
      let o = rules_overlap env ps once x.rule y.rule x.n y.n x.flat y.flat x.is y.is x.built y.built i j made in
      (o.0, of_two _ _ _ x.rule y.rule x.rule_at y.rule_at o.1)
  to_rules check.Shadows i j h =
      let m = made_of check.Shadows i j (slice_get fs i) (slice_get fs j) h in
      let x = both_of_flat env ps rules fs n i m.0 built flat m.2 in
      let y = both_of_flat env ps rules fs n j m.1 built flat m.3 in
      let made = rw (some_same m.0 x.flat (sym m.2 ∙ x.flat_at), some_same m.1 y.flat (sym m.3 ∙ y.flat_at)) at m.4 in
      of_two _ _ _ x.rule y.rule x.rule_at y.rule_at (rules_shadow env ps once x.rule y.rule x.n y.n x.flat y.flat x.is y.is x.built y.built made)

  to_flats : (c : Check) (i j : ℕ) → RulesMake c env rules i j → MakesAt c fs i j
  to_flats check.Overlaps i j h =
      let m = two_of _ (slice_get rules i) (slice_get rules j) h.1 in
      let x = both_of_rule env ps rules fs n i m.0 built flat m.2 in
      let y = both_of_rule env ps rules fs n j m.1 built flat m.3 in
      let made = rw (some_same m.0 x.rule (sym m.2 ∙ x.rule_at), some_same m.1 y.rule (sym m.3 ∙ y.rule_at)) at m.4 in
      at_of check.Overlaps fs i j x.flat y.flat x.flat_at y.flat_at (flats_overlap env ps once x.rule y.rule x.n y.n x.flat y.flat x.is y.is x.built y.built i j h.0 made)
  to_flats check.Shadows i j h =
      let m = two_of _ (slice_get rules i) (slice_get rules j) h in
      let x = both_of_rule env ps rules fs n i m.0 built flat m.2 in
      let y = both_of_rule env ps rules fs n j m.1 built flat m.3 in
      let made = rw (some_same m.0 x.rule (sym m.2 ∙ x.rule_at), some_same m.1 y.rule (sym m.3 ∙ y.rule_at)) at m.4 in
      at_of check.Shadows fs i j x.flat y.flat x.flat_at y.flat_at (flats_shadow env ps once x.rule y.rule x.n y.n x.flat y.flat x.is y.is x.built y.built made)

  first_too : (c : Check) (multi : Bool) (j : ℕ) (o : Option ℕ) → IsFirst (λ i. (multi ≡ false) × MakesAt c fs i j) o → IsFirst (λ i. (multi ≡ false) × RulesMake c env rules i j) o
  first_too c multi j None h = λ i m. h i (m.0, to_flats c i j m.1)
  first_too c multi j (Some i) h = ((h.0.0, to_rules c i j h.0.1), λ k m. h.1 k (m.0, to_flats c k j m.1))

  item_there : (os : Found) (j : ℕ) → j < length os → slice_get os j ≡ Some (slice_index_or os j None)
  item_there [] j lt = absurd (omega (arith, lt))
  item_there (o ∷ os) zero lt = refl
  item_there (o ∷ os) (suc j) lt = item_there os j (omega (arith, lt))

  -- what was found for flat rules tells the errors of rules
  pub are_errors : (multi : Bool) (us : List Bool) (os ss : Found) → AreUnreachable fs us → AreFirstsOfTerm check.Overlaps multi fs os → AreFirstsOfTerm check.Shadows multi fs ss → (k : ℕ) → k ≤ length rules
      → AreErrorsBelow env multi rules k (errors_below (positions rules) us os ss k)
  are_errors multi us os ss u o s zero le = refl
  are_errors multi us os ss u o s (suc k) le = (
    errors_below (positions rules) us os ss k,
    errors_of (positions rules) k (slice_index_or us k false) (slice_index_or os k None) (slice_index_or ss k None),
    are_errors multi us os ss u o s k (omega (arith, le)),
    record {
      unreachable = slice_index_or us k false;
      is_unreachable = unreachable_too env ps once rules fs n us built flat u k;
      overlap = slice_index_or os k None;
      first_overlap = first_too check.Overlaps multi k _ (o.each k _ (item_there os k (let a = o.long in let b = same_length env ps rules fs n flat in omega (arith, a, b, le))));
      shadow = slice_index_or ss k None;
      first_shadow = first_too check.Shadows multi k _ (s.each k _ (item_there ss k (let a = s.long in let b = same_length env ps rules fs n flat in omega (arith, a, b, le))));
      are = refl;
    },
    refl,
  )
