-- What the highest rule gives is prescribed.
use Rattle.std.proofs.Common.{◌≡◌, ◌⊎◌, inl, inr, ⊎_elim, ℤ, List, [], ◌∷◌, cond, Option, Some, None, refl, sym, ap, ◌∙◌, subst, arith, Ordering}
use Rattle.std.specs.Prelude.{◌<ℤ◌, ◌≤ℤ◌, Contains}
use Rattle.std.specs.declared.cmp.Ordering.TheVariants.{Less, Equal, Greater}
use Rattle.std.specs.Ordering.{int_cmp, is_lt, MatchOrdering}
use Rattle.std.specs.Cmp.{int_ranks}
use Rattle.std.proofs.lemmas.Int.{ints}
use Rattle.isle_core.specs.declared.types.ReturnKind.{ReturnKind}
use Rattle.isle_core.specs.Value.{Value, Made}
use Rattle.isle_core.specs.Meaning.{Meaning}
use Rattle.isle_core.specs.Match.{Names}
use Rattle.isle_core.specs.Outcome.{Prescribed, no_rule, one_rule, IsHighest, NoneMatches, rule_names}
use Rattle.isle_core.specs.HighestMatch.{or_later, highest_match, given_by, outcome_of, AreApart, HighestIsOne}
use Rattle.isle_core.specs.Rule.{Environment, Rule}
use Rattle.isle_core.proofs.Contained.{head_contained, tail_contained, contained_cases, none_contained}

some_pair : (a b : Rule × Names) → Some a ≡ Some b → a ≡ b
some_pair a b e = cc

-- ---- the highest of a list

-- it is a rule of the list that matches with these names, and none that matches is higher
record Tops (env : Environment) (m : Meaning) (args : List Value) (rules : List Rule) (o : Rule × Names) : Type 0 where
  among : Contains rules o.0
  matched : rule_names env m args o.0 ≡ Some o.1
  above : (q : Rule) (others : Names) → Contains rules q → rule_names env m args q ≡ Some others → q.prio ≤ℤ o.0.prio

-- either none matches, or the highest is there
abbrev Found : Environment → Meaning → List Value → List Rule → Option (Rule × Names) → Type 0
Found env m args rules None = NoneMatches env m args rules
Found env m args rules (Some o) = Tops env m args rules o

none_of_cons : (env : Environment) (m : Meaning) (args : List Value) (r : Rule) (rs : List Rule) → rule_names env m args r ≡ None → NoneMatches env m args rs → NoneMatches env m args (r ∷ rs)
none_of_cons env m args r rs e h q c = ⊎_elim (λ (s : r ≡ q). ap (rule_names env m args) (sym s) ∙ e) (λ d. h q d) (contained_cases r rs q c)

none_some : (a : Names) → None ≡ Some a → ⊥
none_some a e = cc

tops_behind : (env : Environment) (m : Meaning) (args : List Value) (r : Rule) (rs : List Rule) (o : Rule × Names) → ((names : Names) → rule_names env m args r ≡ Some names → r.prio ≤ℤ o.0.prio) → Tops env m args rs o → Tops env m args (r ∷ rs) o
tops_behind env m args r rs o low t = record {
  among = tail_contained r rs o.0 t.among;
  matched = t.matched;
  above = λ q others c e. ⊎_elim (λ (s : r ≡ q). subst (λ (x : Rule). x.prio ≤ℤ o.0.prio) s (low others (ap (rule_names env m args) s ∙ e))) (λ d. t.above q others d e) (contained_cases r rs q c);
}

tops_first : (env : Environment) (m : Meaning) (args : List Value) (r : Rule) (names : Names) (rs : List Rule) → rule_names env m args r ≡ Some names
    → ((q : Rule) (others : Names) → Contains rs q → rule_names env m args q ≡ Some others → q.prio ≤ℤ r.prio) → Tops env m args (r ∷ rs) (r, names)
tops_first env m args r names rs e low = record {
  among = head_contained r rs;
  matched = e;
  above = λ q others c k. ⊎_elim (λ (s : r ≡ q). subst (λ (x : Rule). x.prio ≤ℤ r.prio) s (le_self r.prio)) (λ d. low q others d k) (contained_cases r rs q c);
}
  where
    le_self : (a : ℤ) → a ≤ℤ a
    le_self a = omega (arith, ints)

le_of_lt : (a b : ℤ) → a <ℤ b → a ≤ℤ b
le_of_lt a b h = omega (arith, ints)

le_trans : (a b c : ℤ) → a ≤ℤ b → b ≤ℤ c → a ≤ℤ c
le_trans a b c h k = omega (arith, ints)

-- the rule, or one after it that is higher
tops_better : (env : Environment) (m : Meaning) (args : List Value) (r : Rule) (names : Names) (rs : List Rule) (o : Rule × Names) (t : Ordering) → MatchOrdering t (r.prio <ℤ o.0.prio) (r.prio ≡ o.0.prio) (o.0.prio <ℤ r.prio)
    → rule_names env m args r ≡ Some names → Tops env m args rs o → Tops env m args (r ∷ rs) (cond (is_lt t) o (r, names))
tops_better env m args r names rs o Less h e k = tops_behind env m args r rs o (λ others q. le_of_lt r.prio o.0.prio h) k
tops_better env m args r names rs o Equal h e k = tops_first env m args r names rs e (λ q others c f. subst (λ x. q.prio ≤ℤ x) (sym h) (k.above q others c f))
tops_better env m args r names rs o Greater h e k = tops_first env m args r names rs e (λ q others c f. le_trans q.prio o.0.prio r.prio (k.above q others c f) (le_of_lt o.0.prio r.prio h))

found_later : (env : Environment) (m : Meaning) (args : List Value) (r : Rule) (rs : List Rule) (here : Option Names) (later : Option (Rule × Names)) → rule_names env m args r ≡ here → Found env m args rs later → Found env m args (r ∷ rs) (or_later r here later)
found_later env m args r rs None None e h = none_of_cons env m args r rs e h
found_later env m args r rs None (Some o) e h = tops_behind env m args r rs o (λ names f. absurd (none_some names (sym e ∙ f))) h
found_later env m args r rs (Some names) None e h = tops_first env m args r names rs e (λ q others c f. absurd (none_some others (sym (h q c) ∙ f)))
found_later env m args r rs (Some names) (Some o) e h = tops_better env m args r names rs o (int_cmp r.prio o.0.prio) (int_ranks r.prio o.0.prio) e h

found : (env : Environment) (m : Meaning) (args : List Value) (rules : List Rule) → Found env m args rules (highest_match env m args rules)
found env m args [] = λ r c. absurd (none_contained r c)
found env m args (r ∷ rs) = found_later env m args r rs (rule_names env m args r) (highest_match env m args rs) refl (found env m args rs)

-- ---- what it gives is prescribed

lower : (a b : ℤ) → a ≤ℤ b → (a ≡ b) ⊎ (a <ℤ b)
lower a b h = grind (arith, ints)

highest_of : (env : Environment) (m : Meaning) (args : List Value) (rules : List Rule) (o : Rule × Names) → highest_match env m args rules ≡ Some o → HighestIsOne env m args rules → Tops env m args rules o → IsHighest env m args rules o.0 o.1
highest_of env m args rules o e h t = record {
  among = t.among;
  matched = t.matched;
  above = λ q others c f. ⊎_elim (λ p. inl (h.one o.0 q o.1 others e c f p)) (λ p. inr p) (lower q.prio o.0.prio (t.above q others c f));
}

prescribed_by : (env : Environment) (m : Meaning) (args : List Value) (rules : List Rule) (kind : ReturnKind) (made : List Made) (o : Option (Rule × Names)) → highest_match env m args rules ≡ o → HighestIsOne env m args rules → Found env m args rules o
    → Prescribed env m args rules kind made (given_by env m kind o made)
prescribed_by env m args rules kind made None e h f = no_rule f
prescribed_by env m args rules kind made (Some o) e h f = one_rule o.0 o.1 (highest_of env m args rules o e h f)

-- what the highest rule gives is prescribed, if no other has its priority
pub outcome_prescribed : (env : Environment) (m : Meaning) (args : List Value) (rules : List Rule) (kind : ReturnKind) (made : List Made) → HighestIsOne env m args rules → Prescribed env m args rules kind made (outcome_of env m args rules kind made)
outcome_prescribed env m args rules kind made h = prescribed_by env m args rules kind made (highest_match env m args rules) refl h (found env m args rules)

top_of : (env : Environment) (m : Meaning) (args : List Value) (rules : List Rule) (o : Rule × Names) (h : Option (Rule × Names)) → h ≡ Some o → Found env m args rules h → Tops env m args rules o
top_of env m args rules o None e f = cc
top_of env m args rules o (Some p) e f = subst (Tops env m args rules) (some_pair p o e) f

-- if rules that match differ by priority, no other one has that of the highest
pub highest_is_one : (env : Environment) (m : Meaning) (args : List Value) (rules : List Rule) → AreApart env m args rules → HighestIsOne env m args rules
highest_is_one env m args rules h = record {
  one = λ r q names others e c f p.
      let t = top_of env m args rules (r, names) (highest_match env m args rules) e (found env m args rules) in
      h q r others names c t.among f t.matched p;
}
