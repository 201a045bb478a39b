-- A flat rule is unreachable by itself exactly if its rule is.
use Rattle.std.proofs.Common.{◌≡◌, inl, inr, ⊎_elim, ℕ, List, [], ◌∷◌, map, refl, sym, ◌∙◌, subst}
use Rattle.std.specs.Prelude.{Contains}
use Rattle.std.proofs.lemmas.List.Elements.{Contains-append_right, Contains-append_cases}
use Rattle.isle_core.specs.declared.BindingId.{BindingId}
use Rattle.isle_core.specs.declared.rule_sets.FlatRule.{FlatRule}
use Rattle.isle_core.specs.Path.{Path, Nowhere, at}
use Rattle.isle_core.specs.Tests.{Equal, rule_tests}
use Rattle.isle_core.specs.RuleSet.{is_test, equal_test}
use Rattle.isle_core.specs.StandsFor.{EachOnce, IsFlat}
use Rattle.isle_core.specs.Rule.{Environment, Rule}
use Rattle.isle_core.proofs.Contained.{head_contained, tail_contained, contained_cases, none_contained}
use Rattle.isle_rulesets.proofs.RuleTests.{rule_stands}
use Rattle.isle_checks.specs.Joined.{Equalities, IsWay, AreJoined, IsUnreachable}
use Rattle.isle_checks.specs.RuleChecks.{IsChain, Unreachable}
use Rattle.isle_checks.proofs.CheckLaws.{no_is}
use Rattle.isle_checks.proofs.FlatTests.{IsReady, somewhere, same_binding, bears, tested_by}
use Rattle.isle_checks.proofs.JoinedLaws.{no_step, one_step, then_joined}

-- ---- equalities of bindings are equalities of paths

equal_there : (ps : List Path) (es : Equalities) (e : BindingId × BindingId) → Contains es e → Contains (map (equal_test ps) es) (equal_test ps e)
equal_there ps [] e c = absurd (none_contained e c)
equal_there ps (x ∷ es) e c = ⊎_elim
    (λ (k : x ≡ e). subst (λ (y : BindingId × BindingId). Contains (map (equal_test ps) (x ∷ es)) (equal_test ps y)) k (head_contained (equal_test ps x) (map (equal_test ps) es)))
    (λ d. tail_contained (equal_test ps x) (map (equal_test ps) es) (equal_test ps e) (equal_there ps es e d))
    (contained_cases x es e c)

-- an equality of bindings of these paths
record EqualsOn (ps : List Path) (es : Equalities) (p q : Path) : Type 0 where
  equality : BindingId × BindingId
  among : Contains es equality
  first : at ps equality.0 ≡ p
  second : at ps equality.1 ≡ q

first_same : (p q r s : Path) → Equal p q ≡ Equal r s → p ≡ r
first_same p q r s e = cc

second_same : (p q r s : Path) → Equal p q ≡ Equal r s → q ≡ s
second_same p q r s e = cc

equals_of : (ps : List Path) (es : Equalities) (p q : Path) → Contains (map (equal_test ps) es) (Equal p q) → EqualsOn ps es p q
equals_of ps [] p q h = absurd (none_contained (Equal p q) h)
equals_of ps (x ∷ es) p q h = ⊎_elim
    (λ (e : Equal (at ps x.0) (at ps x.1) ≡ Equal p q). record { equality = x; among = head_contained x es; first = first_same _ _ _ _ e; second = second_same _ _ _ _ e })
    (λ k. let g = equals_of ps es p q k in record { equality = g.equality; among = tail_contained x es g.equality g.among; first = g.first; second = g.second })
    (contained_cases (equal_test ps x) (map (equal_test ps) es) (Equal p q) h)

module _ (env : Environment) (ps : List Path) (once : EachOnce ps) (r : Rule) (n : ℕ) (f : FlatRule) (flat : IsFlat env ps r n f) (built : IsReady env r) where
  -- ---- the rule is where its flat rule is

  equated_by : (b c : BindingId) → Contains f.equals (b, c) → Contains (rule_tests env r) (Equal (at ps b) (at ps c))
  equated_by b c k = (flat.no_other (Equal (at ps b) (at ps c)) (Contains-append_right (map (is_test ps) f.constraints) (map (equal_test ps) f.equals) (Equal (at ps b) (at ps c)) (equal_there ps f.equals (b, c) k))).0

  chain_of : (b : BindingId) (between : List BindingId) (c : BindingId) → IsWay f.equals b between c → IsChain (rule_tests env r) (at ps b) (map (at ps) between) (at ps c)
  chain_of b [] c w = subst (λ x. at ps b ≡ at ps x) w refl
  chain_of b (x ∷ between) c w = (⊎_elim (λ d. inl (equated_by b x d)) (λ d. inr (equated_by x b d)) w.0, chain_of x between c w.1)

  pub rule_unreachable : IsUnreachable f → Unreachable env r
  rule_unreachable h = record {
    from = at ps h.from;
    one = h.one;
    to = at ps h.to;
    other = h.other;
    tested = tested_by env ps r n f flat (h.from, h.one) h.among;
    also_tested = tested_by env ps r n f flat (h.to, h.other) h.also_among;
    differ = h.differ;
    between = map (at ps) h.joined.between;
    chain = chain_of h.from h.joined.between h.to h.joined.way;
  }

  -- ---- and the other way round

  -- a binding of a path that is joined with this one
  record LeadsTo (b : BindingId) (p : Path) : Type 0 where
    binding : BindingId
    path : at ps binding ≡ p
    joined : AreJoined f.equals b binding

  -- an equality of different paths is one of bindings, and one of a path with itself leads nowhere else
  forth : (b : BindingId) (p next : Path) → at ps b ≡ p → (p ≡ Nowhere → ⊥) → Contains (rule_tests env r) (Equal p next) → LeadsTo b next
  forth b p next e away h = ⊎_elim
      (λ k. ⊎_elim (λ d. absurd (no_is ps f.constraints p next d)) (λ d.
      let x = equals_of ps f.equals p next d in
      let same : x.equality.0 ≡ b = same_binding ps x.equality.0 b p once x.first e away in
      record { binding = x.equality.1; path = x.second; joined = one_step f.equals b x.equality.1 (inl (subst (λ c. Contains f.equals (c, x.equality.1)) same x.among)) }) (Contains-append_cases (map (is_test ps) f.constraints) (map (equal_test ps) f.equals) (Equal p next) k))
      (λ (k : p ≡ next). record { binding = b; path = e ∙ k; joined = no_step f.equals b })
      (flat.tested (Equal p next) h)

  back : (b : BindingId) (p next : Path) → at ps b ≡ p → (p ≡ Nowhere → ⊥) → Contains (rule_tests env r) (Equal next p) → LeadsTo b next
  back b p next e away h = ⊎_elim
      (λ k. ⊎_elim (λ d. absurd (no_is ps f.constraints next p d)) (λ d.
      let x = equals_of ps f.equals next p d in
      let same : x.equality.1 ≡ b = same_binding ps x.equality.1 b p once x.second e away in
      record { binding = x.equality.0; path = x.first; joined = one_step f.equals b x.equality.0 (inr (subst (λ c. Contains f.equals (x.equality.0, c)) same x.among)) }) (Contains-append_cases (map (is_test ps) f.constraints) (map (equal_test ps) f.equals) (Equal next p) k))
      (λ (k : next ≡ p). record { binding = b; path = e ∙ sym k; joined = no_step f.equals b })
      (flat.tested (Equal next p) h)

  joined_of : (p : Path) (between : List Path) (q : Path) (b d : BindingId) → at ps b ≡ p → at ps d ≡ q → (p ≡ Nowhere → ⊥) → IsChain (rule_tests env r) p between q → AreJoined f.equals b d
  joined_of p [] q b d e k away h = subst (AreJoined f.equals b) (same_binding ps b d p once e (k ∙ sym h) away) (no_step f.equals b)
  joined_of p (next ∷ between) q b d e k away h =
      let x : LeadsTo b next = ⊎_elim (λ c. forth b p next e away c) (λ c. back b p next e away c) h.0 in
      let there : next ≡ Nowhere → ⊥ = ⊎_elim (λ c. (rule_stands env r (Equal p next) built.built built.scoped c).1) (λ c. (rule_stands env r (Equal next p) built.built built.scoped c).0) h.0 in
      then_joined f.equals b x.binding d x.joined (joined_of next between q x.binding d x.path k there h.1)

  pub flat_unreachable : Unreachable env r → IsUnreachable f
  flat_unreachable h =
      let x = bears env ps r n f flat h.from h.one h.tested in
      let y = bears env ps r n f flat h.to h.other h.also_tested in
      record {
        from = x.binding;
        one = h.one;
        to = y.binding;
        other = h.other;
        among = x.among;
        also_among = y.among;
        differ = h.differ;
        joined = joined_of h.from h.between h.to x.binding y.binding x.path y.path (somewhere env r h.from h.one built h.tested) h.chain;
      }
