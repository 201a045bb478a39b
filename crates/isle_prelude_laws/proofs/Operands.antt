-- A rule over variables alone: its names are its operands, by their places.
use Rattle.std.proofs.Common.{◌≡◌, ℕ, zero, suc, ◌+◌, ◌<◌, List, [], ◌∷◌, length, Bool, true, false, cond, Option, Some, None, refl, sym, ap, ◌∙◌, rules, arith}
use Rattle.std.specs.Prelude.{◌==◌, option_and_then, slice_get}
use Rattle.std.proofs.lemmas.Bool.{eqb-true}
use Rattle.isle_base.specs.declared.ids.TypeId.{TypeId}
use Rattle.isle_core.specs.declared.types.ReturnKind.TheVariants as return_kind
use Rattle.isle_core.specs.Choice.{Choice, first_items}
use Rattle.isle_core.specs.Eval.{Evaluated, Answered, Failed, iflets_names}
use Rattle.isle_core.specs.Match.{Names, no_names, with, met, matches_all}
use Rattle.isle_core.specs.Meaning.{Meaning}
use Rattle.isle_core.specs.Outcome.{Value', Prescription, rule_names, rule_value, IsHighest, prescription_of, Prescribed, no_rule, one_rule}
use Rattle.isle_core.specs.Pattern as pattern
use Rattle.isle_core.specs.Pattern.{Pattern}
use Rattle.isle_core.specs.Rule.{Environment, Rule}
use Rattle.isle_core.specs.Tests.{no_places, args_after}
use Rattle.isle_core.specs.Value.{Value, Made}

-- a variable of each type, numbered from there on
abbrev pub variables_from : ℕ → List TypeId → List Pattern
variables_from i [] = []
variables_from i (ty ∷ tys) = pattern.Var ty (record { 0 = i }) ∷ variables_from (suc i) tys

-- from that number on, the names are these values
pub record AreNames (i : ℕ) (vs : List Value) (before after : Names) : Type 0 where
  pub kept : (k : ℕ) → k < i → after k ≡ before k
  pub set : (k : ℕ) → after (i + k) ≡ slice_get vs k

unequal : (a b : ℕ) → a < b → b == a ≡ false
unequal a b h = by (b == a) refl
  where
    by : (t : Bool) → b == a ≡ t → t ≡ false
    by false e = refl
    by true e = let same : b ≡ a = eqb-true b a e in let bad : ⊥ = omega (arith, h, same) in absurd bad

-- a number isn't one after it
pub not_yet : (a b : ℕ) → a < b → a == b ≡ false
not_yet a b lt = pick (a == b) refl
  where
    pick : (t : Bool) → a == b ≡ t → t ≡ false
    pick false e = refl
    pick true e = let same : a ≡ b = eqb-true a b e in let bad : ⊥ = omega (arith, lt, same) in absurd bad

eqb_self : (x : ℕ) → x == x ≡ true
eqb_self x = search rules

some_names : (a b : Names) → Some a ≡ Some b → a ≡ b
some_names a b e = cc

-- how the names of variables stand after as many values
names_set : (env : Environment) (m : Meaning) (choice : Choice) (i : ℕ) (tys : List TypeId) (vs : List Value) (before after : Names)
    → ((k : ℕ) → before (i + k) ≡ None) → matches_all env m choice (variables_from i tys) i vs before ≡ Some after
    → AreNames i vs before after × (length vs ≡ length tys)
names_set env m choice i [] [] before after none h =
    let same : before ≡ after = some_names before after h in
    (record { kept = λ k lt. ap (λ (n : Names). n k) (sym same); set = λ k. ap (λ (n : Names). n (i + k)) (sym same) ∙ none k }, refl)
names_set env m choice i [] (v ∷ vs) before after none h = absurd cc
names_set env m choice i (ty ∷ tys) [] before after none h = absurd cc
names_set env m choice i (ty ∷ tys) (v ∷ vs) before after none h =
    let here : i + 0 ≡ i = omega arith in
    let new : before i ≡ None = ap before (sym here) ∙ none 0 in
    let first : met (before i) i v before ≡ Some (with before i v) = ap (λ o. met o i v before) new in
    let rest : matches_all env m choice (variables_from (suc i) tys) (suc i) vs (with before i v) ≡ Some after = sym (ap (option_and_then (λ (n : Names). matches_all env m choice (variables_from (suc i) tys) (suc i) vs n)) first) ∙ h in
    let unset : (k : ℕ) → with before i v (suc i + k) ≡ None = λ k.
    let past : i == (suc i + k) ≡ false = not_yet i (suc i + k) (omega arith) in
    let at : suc i + k ≡ i + suc k = omega arith in
    ap (λ b. cond b (Some v) (before (suc i + k))) past ∙ ap before at ∙ none (suc k) in
    let r = names_set env m choice (suc i) tys vs (with before i v) after unset rest in (
      record {
        kept = λ k lt. r.0.kept k (omega (arith, lt)) ∙ ap (λ b. cond b (Some v) (before k)) (unequal k i lt);
        set = by i v vs before after r.0;
      },
      ap suc r.1,
    )
  where
    by : (i : ℕ) (v : Value) (vs : List Value) (before after : Names) → AreNames (suc i) vs (with before i v) after → (k : ℕ)
        → after (i + k) ≡ slice_get (v ∷ vs) k
    by i v vs before after r zero =
        let here : i + 0 ≡ i = omega arith in
        ap after here ∙ r.kept i (omega arith) ∙ ap (λ b. cond b (Some v) (before i)) (eqb_self i)
    by i v vs before after r (suc k) = let at : i + suc k ≡ suc i + k = omega arith in ap after at ∙ r.set k

-- ---- a rule

-- over variables of these types alone, without conditions
pub record IsPlainRule (r : Rule) (tys : List TypeId) : Type 0 where
  pub args : r.args ≡ variables_from 0 tys
  pub iflets : r.iflets ≡ []

-- its names are its operands, and there are as many as types
pub rule_operands : (env : Environment) (m : Meaning) (r : Rule) (tys : List TypeId) (operands : List Value) (names : Names) → IsPlainRule r tys
    → rule_names env m operands r ≡ Some names
    → ((k : ℕ) → names k ≡ slice_get operands k) × (length operands ≡ length tys)
rule_operands env m r tys operands names plain h =
    let s = names_set env m first_items 0 tys operands no_names names (λ k. refl) (matched h) in
    ((λ k. let at : 0 + k ≡ k = omega arith in ap names (sym at) ∙ s.0.set k), s.1)
  where
    matched : rule_names env m operands r ≡ Some names → matches_all env m first_items (variables_from 0 tys) 0 operands no_names ≡ Some names
    matched h = by (matches_all env m first_items r.args 0 operands no_names) refl h
      where
        by : (o : Option Names) → matches_all env m first_items r.args 0 operands no_names ≡ o
            → option_and_then (iflets_names env m first_items r.iflets (args_after env r.args 0 no_places)) o ≡ Some names
            → matches_all env m first_items (variables_from 0 tys) 0 operands no_names ≡ Some names
        by None is k = absurd cc
        by (Some first) is k =
            let all : iflets_names env m first_items [] (args_after env r.args 0 no_places) first ≡ Some names = ap (λ cs. iflets_names env m first_items cs (args_after env r.args 0 no_places) first) (sym plain.iflets) ∙ k in
            ap (λ ps. matches_all env m first_items ps 0 operands no_names) (sym plain.args) ∙ is ∙ all

-- ---- what is prescribed

-- a value comes of the one rule
pub record IsGivenBy (env : Environment) (m : Meaning) (operands : List Value) (rules : List Rule) (made : List Made) (v : Value) : Type 0 where
  pub rule : Rule
  pub names : Names
  pub highest : IsHighest env m operands rules rule names
  pub calls : List Made
  pub gives : rule_value env m rule names made ≡ Answered v calls

value_given : (e : Evaluated) (v : Value) → (prescription_of e).result ≡ Value' v → (calls : List Made) × (e ≡ Answered v calls)
value_given (Answered w calls) v h = let same : w ≡ v = cc in (calls, ap (λ u. Answered u calls) same)
value_given (Failed calls) v h = absurd cc

pub given_by : {env : Environment} {m : Meaning} {operands : List Value} {rules : List Rule} {made : List Made} {p : Prescription} (v : Value)
    → Prescribed env m operands rules return_kind.Plain made p → p.result ≡ Value' v → IsGivenBy env m operands rules made v
given_by v (no_rule none) h = absurd cc
given_by {env = env} {m = m} {made = made} v (one_rule r names highest) h =
    let g = value_given (rule_value env m r names made) v h in
    record { rule = r; names = names; highest = highest; calls = g.0; gives = g.1 }
