-- What a pattern binds of a value whose parts are what its variables stand for.
use Rattle.std.proofs.Common.{◌≡◌, ℕ, suc, List, [], ◌∷◌, ◌++◌, Bool, true, false, cond, Option, Some, None, refl, sym, ap, ◌∙◌, subst, rules, ⊎_elim}
use Rattle.std.specs.Prelude.{◌==◌, Contains, option_and_then}
use Rattle.std.proofs.lemmas.Bool.{eqb-true}
use Rattle.std.proofs.lemmas.List.Elements.{Contains-append_cases}
use Rattle.isle_base.specs.declared.ids.TermId.{TermId}
use Rattle.isle_base.specs.declared.ids.TypeId.{TypeId}
use Rattle.isle_base.specs.declared.ids.VarId.{VarId}
use Rattle.isle_core.specs.Calling.{extracting}
use Rattle.isle_core.specs.Choice.{Choice, first_items}
use Rattle.isle_core.specs.Making.{making}
use Rattle.isle_core.specs.Match.{Names, with, if_holds, met, taken_apart, matches, matches_parts}
use Rattle.isle_core.specs.Meaning.{Meaning}
use Rattle.isle_core.specs.Opening.{Opening, opening, part_path}
use Rattle.isle_core.specs.Path.{Path, Extracted}
use Rattle.isle_core.specs.Pattern as pattern
use Rattle.isle_core.specs.Pattern.{Pattern, Patterns, NoPattern, APattern}
use Rattle.isle_core.specs.Rule.{Environment}
use Rattle.isle_core.specs.SameValue.{same_value}
use Rattle.isle_core.specs.TypedVariables.{typed_variables, typed_within}
use Rattle.isle_core.specs.Value.{Value}
use Rattle.isle_core.proofs.Contained.{contained_cases, none_contained}
use Rattle.isle_core.proofs.OptionLaws.{some_same}
use Rattle.isle_core.proofs.SameValueLaws.{same_value-self}

-- the value is taken apart by a term into exactly these, if it is taken apart at all, and into them at the first item
pub record Opens (env : Environment) (m : Meaning) (term : TermId) (v : Value) (vs : List Value) : Type 0 where
  pub first : taken_apart env m 0 (making env term) (extracting env term) v ≡ Some vs
  pub only : (place : ℕ) (ws : List Value) → taken_apart env m place (making env term) (extracting env term) v ≡ Some ws → vs ≡ ws

-- the pattern reads the value: each of its variables stands where its own value is
mutual
  pub data IsRead (env : Environment) (m : Meaning) (all : Names) : Pattern → Value → Type 0 where
    at_variable : (ty : TypeId) (x : VarId) (v : Value) → all x.0 ≡ Some v → IsRead env m all (pattern.Var ty x) v
    at_term : (ty : TypeId) (term : TermId) (ps : Patterns) (v : Value) (vs : List Value) → Opens env m term v vs → AreRead env m all ps vs
        → IsRead env m all (pattern.Term ty term ps) v

  -- part by part
  pub data AreRead (env : Environment) (m : Meaning) (all : Names) : Patterns → List Value → Type 0 where
    no_part : AreRead env m all NoPattern []
    a_part : (p : Pattern) (ps : Patterns) (v : Value) (vs : List Value) → IsRead env m all p v → AreRead env m all ps vs
        → AreRead env m all (APattern p ps) (v ∷ vs)

-- names with no other values than all of them have
abbrev pub IsWithin : Names → Names → Type 0
IsWithin some all = (k : ℕ) (v : Value) → some k ≡ Some v → all k ≡ Some v

-- the names after a pattern with these variables: each of these has its value, and none has another one
pub record AreBound (all before after : Names) (vars : List (TypeId × ℕ)) : Type 0 where
  pub within : IsWithin after all
  pub keeps : IsWithin before after
  pub bound : (ty : TypeId) (x : ℕ) → Contains {X = TypeId × ℕ} vars (ty, x) → after x ≡ all x

-- ---- variables

-- one name more
with_within : (all names : Names) (x : ℕ) (v : Value) → all x ≡ Some v → IsWithin names all → IsWithin (with names x v) all
with_within all names x v is within k w h = by (x == k) refl h
  where
    by : (b : Bool) → x == k ≡ b → cond b (Some v) (names k) ≡ Some w → all k ≡ Some w
    by true same e = ap all (sym (eqb-true x k same)) ∙ is ∙ e
    by false other e = within k w e

with_keeps : (names : Names) (x : ℕ) (v : Value) → names x ≡ None → IsWithin names (with names x v)
with_keeps names x v none k w h = by (x == k) refl
  where
    by : (b : Bool) → x == k ≡ b → cond b (Some v) (names k) ≡ Some w
    by true same = let bad : None ≡ Some w = sym none ∙ ap names (eqb-true x k same) ∙ h in absurd cc
    by false other = h

eqb_self : (x : ℕ) → x == x ≡ true
eqb_self x = search rules

with_there : (names : Names) (x : ℕ) (v : Value) → with names x v x ≡ Some v
with_there names x v = ap (λ b. cond b (Some v) (names x)) (eqb_self x)

one_variable : (all before after : Names) (of : TypeId) (x : ℕ) → after x ≡ all x → (ty : TypeId) (y : ℕ)
    → Contains {X = TypeId × ℕ} ((of, x) ∷ []) (ty, y) → after y ≡ all y
one_variable all before after of x h ty y c =
    ⊎_elim (λ (e : (of, x) ≡ (ty, y)). let same : x ≡ y = ap (λ (p : TypeId × ℕ). p.1) e in subst (λ z. after z ≡ all z) same h) (λ none. absurd (none_contained (ty, y) none)) (contained_cases (of, x) [] (ty, y) c)

-- what a variable binds
met_bound : (all names after : Names) (ty : TypeId) (x : ℕ) (v : Value) (o : Option Value) → names x ≡ o → all x ≡ Some v → IsWithin names all
    → met o x v names ≡ Some after → AreBound all names after ((ty, x) ∷ [])
met_bound all names after ty x v None none is within h =
    let same : with names x v ≡ after = some_same (with names x v) after h in
    subst (λ (a : Names). AreBound all names a ((ty, x) ∷ [])) same (record {
      within = with_within all names x v is within;
      keeps = with_keeps names x v none;
      bound = one_variable all names (with names x v) ty x (with_there names x v ∙ sym is);
    })
met_bound all names after ty x v (Some w) there is within h = by (same_value w v) h
  where
    by : (b : Bool) → if_holds b names ≡ Some after → AreBound all names after ((ty, x) ∷ [])
    by true e =
        subst (λ (a : Names). AreBound all names a ((ty, x) ∷ [])) (some_same names after e) (record {
          within = within;
          keeps = λ k u q. q;
          bound = one_variable all names names ty x (there ∙ sym (within x w there));
        })
    by false e = absurd cc

met_there : (all names : Names) (x : ℕ) (v : Value) (o : Option Value) → names x ≡ o → all x ≡ Some v → IsWithin names all
    → (after : Names) × (met o x v names ≡ Some after)
met_there all names x v None none is within = (with names x v, refl)
met_there all names x v (Some w) there is within =
    let same : w ≡ v = some_same w v (sym (within x w there) ∙ is) in
    (names, ap (λ b. if_holds b names) (subst (λ u. same_value w u ≡ true) same (same_value-self w)))

-- ---- patterns

no_variable : (all before after : Names) (ty : TypeId) (x : ℕ) → Contains {X = TypeId × ℕ} [] (ty, x) → after x ≡ all x
no_variable all before after ty x c = absurd (none_contained (ty, x) c)

both_bound : (all before mid after : Names) (xs ys : List (TypeId × ℕ)) → AreBound all before mid xs → AreBound all mid after ys
    → AreBound all before after (xs ++ ys)
both_bound all before mid after xs ys a b = record {
  within = b.within;
  keeps = λ k v h. b.keeps k v (a.keeps k v h);
  bound = λ ty x c. ⊎_elim (λ l. by ty x l (all x) refl) (λ r. b.bound ty x r) (Contains-append_cases xs ys (ty, x) c);
}
  where
    by : (ty : TypeId) (x : ℕ) → Contains {X = TypeId × ℕ} xs (ty, x) → (o : Option Value) → all x ≡ o → after x ≡ all x
    by ty x c None is = none (after x) refl
      where
        none : (o : Option Value) → after x ≡ o → after x ≡ all x
        none None e = e ∙ sym is
        none (Some v) e = let bad : Some v ≡ None = sym (b.within x v e) ∙ is in absurd cc
    by ty x c (Some v) is = b.keeps x v (a.bound ty x c ∙ is) ∙ sym is

-- the two steps of one after another
record Halves {A B : Type 0} (o : Option A) (f : A → Option B) (result : B) : Type 0 where
  first : A
  is : o ≡ Some first
  rest : f first ≡ Some result

halves : {A B : Type 0} (o : Option A) (f : A → Option B) (result : B) → option_and_then f o ≡ Some result → Halves o f result
halves None f result h = absurd cc
halves (Some a) f result h = record { first = a; is = refl; rest = h }

mutual
  -- whatever items are chosen, what the pattern binds is so
  pub read_bound : {env : Environment} {m : Meaning} {all : Names} {p : Pattern} {v : Value} → IsRead env m all p v
      → (choice : Choice) (at : Path) (names after : Names) → IsWithin names all → matches env m choice p at v names ≡ Some after
      → AreBound all names after (typed_variables p)
  read_bound {all = all} (at_variable ty x v is) choice at names after within h = met_bound all names after ty x.0 v (names x.0) refl is within h
  read_bound {env = env} {m = m} {all = all} (at_term ty term ps v vs opens parts) choice at names after within h =
      let s = halves (taken_apart env m (choice (Extracted term at)) (making env term) (extracting env term) v) (λ (ws : List Value). matches_parts env m choice (opening env term) ps 0 at ws names) after h in
      let same : vs ≡ s.first = opens.only (choice (Extracted term at)) s.first s.is in
      all_bound parts choice (opening env term) 0 at names after within (subst (λ (ws : List Value). matches_parts env m choice (opening env term) ps 0 at ws names ≡ Some after) (sym same) s.rest)

  pub all_bound : {env : Environment} {m : Meaning} {all : Names} {ps : Patterns} {vs : List Value} → AreRead env m all ps vs
      → (choice : Choice) (o : Opening) (i : ℕ) (at : Path) (names after : Names) → IsWithin names all
      → matches_parts env m choice o ps i at vs names ≡ Some after
      → AreBound all names after (typed_within ps)
  all_bound {all = all} no_part choice o i at names after within h =
      subst (λ (a : Names). AreBound all names a []) (some_same names after h) (record { within = within; keeps = λ k v q. q; bound = no_variable all names names })
  all_bound {env = env} {m = m} {all = all} (a_part p ps v vs one more) choice o i at names after within h =
      let s = halves (matches env m choice p (part_path o i at) v names) (λ (mid : Names). matches_parts env m choice o ps (suc i) at vs mid) after h in
      let here = read_bound one choice (part_path o i at) names s.first within s.is in
      let rest = all_bound more choice o (suc i) at s.first after here.within s.rest in
      both_bound all names s.first after (typed_variables p) (typed_within ps) here rest

mutual
  -- with the first items the pattern matches
  pub read_matches : {env : Environment} {m : Meaning} {all : Names} {p : Pattern} {v : Value} → IsRead env m all p v → (at : Path) (names : Names)
      → IsWithin names all → (after : Names) × (matches env m first_items p at v names ≡ Some after)
  read_matches {all = all} (at_variable ty x v is) at names within = met_there all names x.0 v (names x.0) refl is within
  read_matches {env = env} {m = m} (at_term ty term ps v vs opens parts) at names within =
      let rest = all_match parts (opening env term) 0 at names within in
      (rest.0, ap (option_and_then (λ (ws : List Value). matches_parts env m first_items (opening env term) ps 0 at ws names)) opens.first ∙ rest.1)

  pub all_match : {env : Environment} {m : Meaning} {all : Names} {ps : Patterns} {vs : List Value} → AreRead env m all ps vs
      → (o : Opening) (i : ℕ) (at : Path) (names : Names) → IsWithin names all
      → (after : Names) × (matches_parts env m first_items o ps i at vs names ≡ Some after)
  all_match no_part o i at names within = (names, refl)
  all_match {env = env} {m = m} (a_part p ps v vs one more) o i at names within =
      let here = read_matches one (part_path o i at) names within in
      let bound = read_bound one first_items (part_path o i at) names here.0 within here.1 in
      let rest = all_match more o (suc i) at here.0 bound.within in
      (rest.0, ap (option_and_then (λ (mid : Names). matches_parts env m first_items o ps (suc i) at vs mid)) here.1 ∙ rest.1)
