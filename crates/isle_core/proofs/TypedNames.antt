-- The variables that patterns of types bind to values of the types have values of their types.
use Rattle.std.proofs.Common.{◌≡◌, ⊎_elim, ℕ, suc, List, [], ◌∷◌, ◌++◌, Bool, true, false, cond, eqb, Option, Some, None, refl, sym, ap, ◌∙◌, subst}
use Rattle.std.specs.Prelude.{IsSomeAnd, Contains, option_and_then, slice_get}
use Rattle.std.proofs.lemmas.Bool.{eqb-true, eq-eqb}
use Rattle.std.proofs.lemmas.List.{append-nil, append_assoc}
use Rattle.std.proofs.lemmas.List.Elements.{Contains-append_left, Contains-append_right, Contains-append_cases}
use Rattle.isle_base.specs.declared.ids.TypeId.{TypeId}
use Rattle.isle_core.specs.declared.types.ReturnKind.{ReturnKind}
use Rattle.isle_core.specs.declared.types.ReturnKind.TheVariants as return_kind
use Rattle.isle_core.specs.declared.types.Term.{Term}
use Rattle.isle_core.specs.Calling.{Calling, ByTurns, ByCases, NoCall, extracting}
use Rattle.isle_core.specs.CalledTerms.{Extractor, unless_made, extracted_by, extracted_by_all, extracted_in}
use Rattle.isle_core.specs.Choice.{Choice}
use Rattle.isle_core.specs.Constants.{int_value}
use Rattle.isle_core.specs.Form.{is_made_by, parts}
use Rattle.isle_core.specs.HasType.{HasType, HaveTypes}
use Rattle.isle_core.specs.Having.{const_of}
use Rattle.isle_core.specs.Lawful.{Fits, CallingFits}
use Rattle.isle_core.specs.Making.{Making, MakesVariant, MakesStruct, MakesNothing, making}
use Rattle.isle_core.specs.Match.{Names, with, if_holds, met, equals_const, results, taken_apart, matches, matches_parts, matches_each, matches_all}
use Rattle.isle_core.specs.Meaning.{Meaning, cases_of, case}
use Rattle.isle_core.specs.Opening.{Opening, opening, part_path}
use Rattle.isle_core.specs.Path.{Path, Arg, Extracted}
use Rattle.isle_core.specs.Pattern as pattern
use Rattle.isle_core.specs.Pattern.{Pattern, Patterns, NoPattern, APattern, Var, ConstBool, ConstInt, ConstPrim, Wildcard, BindPattern, And}
use Rattle.isle_core.specs.PatternType.{AreVariantsApart, OpensType, part_types, IsPatternOf, ArePartsOf, AreEachOf, ArePatternsOf}
use Rattle.isle_core.specs.Rule.{Environment}
use Rattle.isle_core.specs.SameValue.{same_value}
use Rattle.isle_core.specs.Terms.{sym_text}
use Rattle.isle_core.specs.TypedVariables.{typed_variables, typed_within, all_typed}
use Rattle.isle_core.specs.Value.{Value, Truth, Answer, Plain, Found, Nothing, Several}
use Rattle.isle_core.specs.Served.{AreServed}
use Rattle.isle_core.proofs.Contained.{contained_cases, none_contained}
use Rattle.isle_core.proofs.MadeParts.{made_parts}
use Rattle.isle_core.proofs.PatternTests.{fit_there, served_first, served_rest, extractor_of, extracted_here, not_made, case_fits, parts_given}
use Rattle.isle_core.proofs.SameValueLaws.{same_value_decides}

-- each of these variables has a value of its type
abbrev pub AreNamed : Environment → List (TypeId × ℕ) → Names → Type 0
AreNamed env vars names = (ty : TypeId) (x : ℕ) → Contains vars (ty, x) → IsSomeAnd (names x) (λ v. HasType env v ty)

-- so if there are names
abbrev pub HasNamed : Environment → List (TypeId × ℕ) → Option Names → Type 0
HasNamed env vars None = Unit {0}
HasNamed env vars (Some names) = AreNamed env vars names

-- one after the other
then_named : (env : Environment) (vars more : List (TypeId × ℕ)) (o : Option Names) (go : Names → Option Names) → HasNamed env vars o → ((names : Names) → AreNamed env vars names → HasNamed env more (go names)) → HasNamed env more (option_and_then go o)
then_named env vars more None go h k = tt
then_named env vars more (Some names) go h k = k names h

-- if a test holds
if_named : (env : Environment) (vars : List (TypeId × ℕ)) (b : Bool) (names : Names) → AreNamed env vars names → HasNamed env vars (if_holds b names)
if_named env vars true names h = h
if_named env vars false names h = tt

-- with no variable more
none_more : (env : Environment) (vars : List (TypeId × ℕ)) (o : Option Names) → HasNamed env vars o → HasNamed env (vars ++ []) o
none_more env vars o h = subst (λ vs. HasNamed env vs o) (sym (append-nil vars)) h

const_named : (env : Environment) (vars : List (TypeId × ℕ)) (o : Option Value) (v : Value) (names : Names) → AreNamed env vars names → HasNamed env vars (equals_const o v names)
const_named env vars None v names h = tt
const_named env vars (Some w) v names h = if_named env vars (same_value v w) names h

-- with one variable more
one_more : (env : Environment) (vars : List (TypeId × ℕ)) (ty : TypeId) (x : ℕ) (names : Names) → AreNamed env vars names → IsSomeAnd (names x) (λ v. HasType env v ty) → AreNamed env (vars ++ (ty, x) ∷ []) names
one_more env vars ty x names h k of y c =
    ⊎_elim (λ d. h of y d) (λ d. ⊎_elim (λ (e : (ty, x) ≡ (of, y)). subst (λ (w : TypeId × ℕ). IsSomeAnd (names w.1) (λ v. HasType env v w.0)) e k) (λ n. absurd (none_contained (of, y) n)) (contained_cases {A = TypeId × ℕ} (ty, x) [] (of, y) d))
    (Contains-append_cases {X = TypeId × ℕ} vars ((ty, x) ∷ []) (of, y) c)

-- a name that is new hides none
kept_named : (env : Environment) (vars : List (TypeId × ℕ)) (x : ℕ) (v : Value) (names : Names) → names x ≡ None → AreNamed env vars names → AreNamed env vars (with names x v)
kept_named env vars x v names new h of y c = pick (eqb x y) refl (h of y c)
  where
    pick : (b : Bool) → eqb x y ≡ b → IsSomeAnd (names y) (λ w. HasType env w of) → IsSomeAnd (cond b (Some v) (names y)) (λ w. HasType env w of)
    pick false e k = k
    pick true e k = absurd (subst (λ o. IsSomeAnd o (λ w. HasType env w of)) (ap names (sym (eqb-true x y e)) ∙ new) k)

-- a variable that is met
met_named : (env : Environment) (vars : List (TypeId × ℕ)) (o : Option Value) (ty : TypeId) (x : ℕ) (v : Value) (names : Names) → names x ≡ o → HasType env v ty → AreNamed env vars names → HasNamed env (vars ++ (ty, x) ∷ []) (met o x v names)
met_named env vars None ty x v names e t h =
    one_more env vars ty x (with names x v) (kept_named env vars x v names e h) (subst (λ b. IsSomeAnd (cond b (Some v) (names x)) (λ w. HasType env w ty)) (sym (eq-eqb x x refl)) t)
met_named env vars (Some u) ty x v names e t h = pick (same_value u v) refl
  where
    pick : (b : Bool) → same_value u v ≡ b → HasNamed env (vars ++ (ty, x) ∷ []) (if_holds b names)
    pick false same = tt
    pick true same = one_more env vars ty x names h (subst (λ o. IsSomeAnd o (λ w. HasType env w ty)) (sym e) (subst (λ w. HasType env w ty) (sym ((same_value_decides u v).0 same)) t))

-- the results of an answer that fits
results_named : (env : Environment) (more : List (TypeId × ℕ)) (place : ℕ) (kind : ReturnKind) (tys : List TypeId) (a : Answer) (go : List Value → Option Names) → Fits env kind tys a → ((vs : List Value) → HaveTypes env vs tys → HasNamed env more (go vs)) → HasNamed env more (option_and_then go (results place a))
results_named env more place return_kind.Plain tys (Plain vs) go h k = k vs h
results_named env more place return_kind.Option tys (Found vs) go h k = k vs h
results_named env more place kind tys Nothing go h k = tt
results_named env more place return_kind.Iterator tys (Several items) go h k = one_of (slice_get items place) (λ vs e. fit_there (λ xs. HaveTypes env xs tys) items place vs h e)
  where
    one_of : (o : Option (List Value)) → ((vs : List Value) → o ≡ Some vs → HaveTypes env vs tys) → HasNamed env more (option_and_then go o)
    one_of None types = tt
    one_of (Some vs) types = k vs (types vs refl)
results_named env more place return_kind.Plain tys (Several items) go h k = absurd h
results_named env more place return_kind.Option tys (Several items) go h k = absurd h
results_named env more place return_kind.Plain tys (Found vs) go h k = absurd h
results_named env more place return_kind.Option tys (Plain vs) go h k = absurd h
results_named env more place return_kind.Iterator tys (Plain vs) go h k = absurd h
results_named env more place return_kind.Iterator tys (Found vs) go h k = absurd h

-- what a term takes apart has the types of its parts
module _ (env : Environment) (m : Meaning) (apart : AreVariantsApart env) (more : List (TypeId × ℕ)) where
  if_made : (ty : TypeId) (mk : Making) (v : Value) (go : List Value → Option Names) → ((made : is_made_by env mk v ≡ true) → HasNamed env more (go (parts v))) → HasNamed env more (option_and_then go (cond (is_made_by env mk v) (Some (parts v)) None))
  if_made ty mk v go k = pick (is_made_by env mk v) k
    where
      pick : (b : Bool) → (b ≡ true → HasNamed env more (go (parts v))) → HasNamed env more (option_and_then go (cond b (Some (parts v)) None))
      pick true h = h refl
      pick false h = tt

  by_extractor : (place : ℕ) (c : Calling) (tys : List TypeId) (v : Value) (go : List Value → Option Names) → CallingFits env m tys c → ((vs : List Value) → HaveTypes env vs tys → HasNamed env more (go vs)) → HasNamed env more (option_and_then go (taken_apart env m place MakesNothing c v))
  by_extractor place (ByCases callee kind) tys v go h k = results_named env more place kind tys (case m callee (v ∷ [])) go (case_fits env tys kind (cases_of m callee) (v ∷ []) h.0) k
  by_extractor place (ByTurns callee kind) tys v go h k = tt
  by_extractor place NoCall tys v go h k = tt

  taken_named : (place : ℕ) (ty : TypeId) (mk : Making) (c : Calling) (t : Option Term) (v : Value) (go : List Value → Option Names) → OpensType ty mk t → HasType env v ty → (mk ≡ MakesNothing → IsSomeAnd t (λ (x : Term). CallingFits env m x.arg_tys c))
      → ((vs : List Value) (tys : List TypeId) → part_types env mk t ≡ Some tys → HaveTypes env vs tys → HasNamed env more (go vs)) → HasNamed env more (option_and_then go (taken_apart env m place mk c v))
  taken_named place ty (MakesVariant of variant) c t v go opens typed served k = if_made ty (MakesVariant of variant) v go (λ made. let p = made_parts env ty (MakesVariant of variant) v apart opens typed made in k (parts v) p.tys p.is p.types)
  taken_named place ty (MakesStruct of) c t v go opens typed served k = if_made ty (MakesStruct of) v go (λ made. let p = made_parts env ty (MakesStruct of) v apart opens typed made in k (parts v) p.tys p.is p.types)
  taken_named place ty MakesNothing c None v go opens typed served k = absurd opens
  taken_named place ty MakesNothing c (Some x) v go opens typed served k = by_extractor place c x.arg_tys v go (served refl) (λ vs types. k vs x.arg_tys refl types)

module _ (env : Environment) (m : Meaning) (choice : Choice) (apart : AreVariantsApart env) where
  -- the variables of some, and then of others
  regrouped : (vars xs ys : List (TypeId × ℕ)) (o : Option Names) → HasNamed env ((vars ++ xs) ++ ys) o → HasNamed env (vars ++ (xs ++ ys)) o
  regrouped vars xs ys o h = subst (λ vs. HasNamed env vs o) (append_assoc vars xs ys) h

  mutual
    -- after a pattern
    pub pattern_named : (p : Pattern) (at : Path) (v : Value) (ty : TypeId) (vars : List (TypeId × ℕ)) (names : Names) → IsPatternOf env ty p → HasType env v ty → AreServed env m (extracted_by env p) → AreNamed env vars names → HasNamed env (vars ++ typed_variables p) (matches env m choice p at v names)
    pattern_named (Var of x) at v ty vars names h t served a = met_named env vars (names x.0) of x.0 v names refl (subst (HasType env v) (sym h) t) a
    pattern_named (ConstBool b) at v ty vars names h t served a = none_more env vars _ (if_named env vars (same_value v (Truth b)) names a)
    pattern_named (ConstInt of n) at v ty vars names h t served a = none_more env vars _ (if_named env vars (same_value v (int_value env of n)) names a)
    pattern_named (ConstPrim of name) at v ty vars names h t served a = none_more env vars _ (const_named env vars (const_of m (sym_text env name)) v names a)
    pattern_named (Wildcard of) at v ty vars names h t served a = none_more env vars (Some names) a
    pattern_named (pattern.Term of term ps) at v ty vars names h t served a =
        let mk = making env term in
        let there = slice_get env.terms term.0 in
        let own = unless_made env Extractor term in
        taken_named env m apart (vars ++ typed_within ps) (choice (Extracted term at)) ty mk (extracting env term) there v (λ vs. matches_parts env m choice (opening env term) ps 0 at vs names) h.1 t
        (λ none. served (extractor_of term) (Contains-append_left own (extracted_by_all env ps) (extractor_of term) (extracted_here env term (not_made there none))))
        (λ vs tys is types. parts_named ps (opening env term) 0 at vs tys vars names (parts_given env (part_types env mk there) ps tys is h.2) types (λ x c. served x (Contains-append_right own (extracted_by_all env ps) x c)) a)
    pattern_named (BindPattern of x p) at v ty vars names h t served a =
        regrouped vars ((of, x.0) ∷ []) (typed_variables p) (matches env m choice (BindPattern of x p) at v names)
        (then_named env (vars ++ (of, x.0) ∷ []) ((vars ++ (of, x.0) ∷ []) ++ typed_variables p) (met (names x.0) x.0 v names) (matches env m choice p at v) (met_named env vars (names x.0) of x.0 v names refl (subst (HasType env v) (sym h.0) t) a)
        (λ names' a'. pattern_named p at v ty (vars ++ (of, x.0) ∷ []) names' h.1 t served a'))
    pattern_named (And of ps) at v ty vars names h t served a = each_named ps at v ty vars names h.1 t served a

    -- each of several on one value
    pub each_named : (ps : Patterns) (at : Path) (v : Value) (ty : TypeId) (vars : List (TypeId × ℕ)) (names : Names) → AreEachOf env ty ps → HasType env v ty → AreServed env m (extracted_by_all env ps) → AreNamed env vars names → HasNamed env (vars ++ typed_within ps) (matches_each env m choice ps at v names)
    each_named NoPattern at v ty vars names h t served a = none_more env vars (Some names) a
    each_named (APattern p ps) at v ty vars names h t served a =
        regrouped vars (typed_variables p) (typed_within ps) (matches_each env m choice (APattern p ps) at v names)
        (then_named env (vars ++ typed_variables p) ((vars ++ typed_variables p) ++ typed_within ps) (matches env m choice p at v names) (matches_each env m choice ps at v) (pattern_named p at v ty vars names h.0 t (served_first env m (extracted_by env p) (extracted_by_all env ps) served) a)
        (λ names' a'. each_named ps at v ty (vars ++ typed_variables p) names' h.1 t (served_rest env m (extracted_by env p) (extracted_by_all env ps) served) a'))

    -- parts on as many values
    pub parts_named : (ps : Patterns) (o : Opening) (i : ℕ) (at : Path) (vs : List Value) (tys : List TypeId) (vars : List (TypeId × ℕ)) (names : Names) → ArePartsOf env (Some tys) ps → HaveTypes env vs tys → AreServed env m (extracted_by_all env ps) → AreNamed env vars names → HasNamed env (vars ++ typed_within ps) (matches_parts env m choice o ps i at vs names)
    parts_named NoPattern o i at [] tys vars names h t served a = none_more env vars (Some names) a
    parts_named NoPattern o i at (v ∷ vs) tys vars names h t served a = tt
    parts_named (APattern p ps) o i at (v ∷ vs) (ty ∷ tys) vars names h t served a =
        regrouped vars (typed_variables p) (typed_within ps) (matches_parts env m choice o (APattern p ps) i at (v ∷ vs) names)
        (then_named env (vars ++ typed_variables p) ((vars ++ typed_variables p) ++ typed_within ps) (matches env m choice p (part_path o i at) v names) (matches_parts env m choice o ps (suc i) at vs) (pattern_named p (part_path o i at) v ty vars names h.0 t.0 (served_first env m (extracted_by env p) (extracted_by_all env ps) served) a)
        (λ names' a'. parts_named ps o (suc i) at vs tys (vars ++ typed_variables p) names' h.1 t.1 (served_rest env m (extracted_by env p) (extracted_by_all env ps) served) a'))
    parts_named (APattern p ps) o i at [] tys vars names h t served a = tt
    parts_named (APattern p ps) o i at (v ∷ vs) [] vars names h t served a = absurd h

  -- patterns on as many arguments
  pub patterns_named : (ps : List Pattern) (i : ℕ) (vs : List Value) (tys : List TypeId) (vars : List (TypeId × ℕ)) (names : Names) → ArePatternsOf env tys ps → HaveTypes env vs tys → AreServed env m (extracted_in env ps) → AreNamed env vars names → HasNamed env (vars ++ all_typed ps) (matches_all env m choice ps i vs names)
  patterns_named [] i [] tys vars names h t served a = none_more env vars (Some names) a
  patterns_named [] i (v ∷ vs) tys vars names h t served a = tt
  patterns_named (p ∷ ps) i (v ∷ vs) (ty ∷ tys) vars names h t served a =
      regrouped vars (typed_variables p) (all_typed ps) (matches_all env m choice (p ∷ ps) i (v ∷ vs) names)
      (then_named env (vars ++ typed_variables p) ((vars ++ typed_variables p) ++ all_typed ps) (matches env m choice p (Arg i) v names) (matches_all env m choice ps (suc i) vs) (pattern_named p (Arg i) v ty vars names h.0 t.0 (served_first env m (extracted_by env p) (extracted_in env ps) served) a)
      (λ names' a'. patterns_named ps (suc i) vs tys (vars ++ typed_variables p) names' h.1 t.1 (served_rest env m (extracted_by env p) (extracted_in env ps) served) a'))
  patterns_named (p ∷ ps) i [] tys vars names h t served a = tt
  patterns_named (p ∷ ps) i (v ∷ vs) [] vars names h t served a = absurd h
