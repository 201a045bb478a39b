-- A pattern whose variables are all bound before binds none, and each variable that it names stands in its tree.
use Rattle.std.proofs.Common.{◌≡◌, ⊎_elim, ℕ, Bool, true, false, cond, List, [], ◌∷◌, ◌++◌, Option, Some, None, refl, sym, ap, ◌∙◌, subst}
use Rattle.std.specs.Prelude.{not, is_some, Contains}
use Rattle.std.specs.List.{list_any}
use Rattle.std.proofs.lemmas.Bool.{or_parts}
use Rattle.std.proofs.lemmas.List.Elements.{Contains-append_left, Contains-append_right, Contains-append_cases}
use Rattle.std.proofs.lemmas.Option.{same_Some}
use Rattle.isle_core.specs.declared.TypeId.{TypeId}
use Rattle.isle_core.specs.declared.VarId.{VarId}
use Rattle.isle_core.specs.Pattern as core_pattern
use Rattle.isle_core.specs.Pattern.{Pattern as CorePattern}
use Rattle.isle_core.specs.TypedVariables.{typed_variables, all_typed}
use Rattle.isle_core.proofs.Contained.{head_contained, tail_contained, contained_cases, none_contained}
use Rattle.isle_ast.specs.Tree as tree
use Rattle.isle_ast.specs.Tree.{Pattern, Patterns, NoPattern, APattern}
use Rattle.isle_declarations.specs.Signatures.{term_named}
use Rattle.isle_declarations.specs.Terms.{terms}
use Rattle.isle_terms.specs.NewVariables.{variables_in, all_variables_in}
use Rattle.isle_sema.specs.PatternPass.{first_expected, later_expected, of_each, taken_by, term_tree, count_of, pattern_pass, patterns_pass}
use Rattle.isle_terms.specs.Scope.{is_blank}
use Rattle.isle_terms.specs.Scope.{Scope, bound_at, met, variable}
use Rattle.isle_sema.specs.Site.{PartAt, MetAt, TakenAt}
use Rattle.isle_sema.specs.TemplateRows.{is_unbound}
use Rattle.isle_sema.proofs.Firsts.{any_parts}
use Rattle.isle_sema.proofs.RuleRoots.{mapped}
use Rattle.isle_terms.proofs.ScopeLaws.{met_again}
use Rattle.isle_sema.proofs.TypedPatterns.{within_is, bind_pass, bound_tree_is, term_tree_is, any_and_tree, typed_list}
use Rattle.isle_terms.proofs.MadeTerms.{first_there}
use Rattle.isle_terms.specs.Converters.{conversion, within}
use Rattle.isle_terms.specs.Whole.{Whole, termed, arg_types, ret_type}

-- ---- the scope stays

-- so if the variable is bound before
met_stays : (scope : Scope) (name : List ℕ) (ty : Option TypeId) → not (is_some (bound_at scope name)) ≡ false → met scope name ty ≡ scope
met_stays scope name ty h = by (bound_at scope name) refl h
  where
    by : (o : Option (Option TypeId)) → bound_at scope name ≡ o → not (is_some o) ≡ false → met scope name ty ≡ scope
    by None e k = absurd cc
    by (Some of) e k = met_again scope name ty of e

bind_stays : (w : Whole) (expected : Option TypeId) (scope : Scope) (x : List ℕ) (p : Pattern) (blank : Bool) → ((mid : Scope) → list_any is_unbound (pattern_pass w expected mid p).sites ≡ false → (pattern_pass w expected mid p).scope ≡ mid)
    → list_any is_unbound (bind_pass w expected scope x p blank).sites ≡ false → (bind_pass w expected scope x p blank).scope ≡ scope
bind_stays w expected scope x p true go h = go scope h
bind_stays w expected scope x p false go h =
    let mid = met scope x expected in
    let k = any_parts is_unbound (MetAt expected (bound_at scope x) ∷ []) (pattern_pass w expected mid p).sites h in
    go mid k.1 ∙ met_stays scope x expected (or_parts (not (is_some (bound_at scope x))) false k.0).0

mutual
  pub pattern_stays : (w : Whole) (expected : Option TypeId) (scope : Scope) (p : Pattern) → list_any is_unbound (pattern_pass w expected scope p).sites ≡ false → (pattern_pass w expected scope p).scope ≡ scope
  pattern_stays w expected scope (tree.Int n) h = refl
  pattern_stays w expected scope (tree.Truth b) h = refl
  pattern_stays w expected scope tree.Wildcard h = refl
  pattern_stays w expected scope (tree.Var name) h = met_stays scope name expected (or_parts (not (is_some (bound_at scope name))) false h).0
  pattern_stays w expected scope (tree.Const name) h = refl
  pattern_stays w expected scope (tree.Term name ps) h =
      let of = ret_type w (termed w name) in
      let by = conversion w of expected in
      let args = arg_types w (termed w name) in
      let k = any_parts is_unbound (taken_by by expected) (TakenAt (within by of expected) (termed w name) (count_of ps) ∷ (patterns_pass w args scope ps).sites) h in
      patterns_stay w args scope ps (any_parts is_unbound (TakenAt (within by of expected) (termed w name) (count_of ps) ∷ []) (patterns_pass w args scope ps).sites k.1).1
  pattern_stays w expected scope (tree.Bind x p) h = bind_stays w expected scope x p (is_blank x) (λ mid k. pattern_stays w expected mid p k) h
  pattern_stays w expected scope (tree.And ps) h = patterns_stay w (of_each expected ps) scope ps (any_parts is_unbound (PartAt ∷ []) (patterns_pass w (of_each expected ps) scope ps).sites h).1

  pub patterns_stay : (w : Whole) (expected : List (Option TypeId)) (scope : Scope) (ps : Patterns) → list_any is_unbound (patterns_pass w expected scope ps).sites ≡ false → (patterns_pass w expected scope ps).scope ≡ scope
  patterns_stay w expected scope NoPattern h = refl
  patterns_stay w expected scope (APattern p ps) h =
      let one = pattern_pass w (first_expected expected) scope p in
      let k = any_parts is_unbound one.sites (patterns_pass w (later_expected expected) one.scope ps).sites h in
      patterns_stay w (later_expected expected) one.scope ps k.1 ∙ pattern_stays w (first_expected expected) scope p k.0

-- ---- each variable stands in the tree

-- the variable that a name has stands among these
abbrev IsIn : Scope → List ℕ → List (TypeId × ℕ) → Type 0
IsIn scope name vars = (v : TypeId × VarId) → variable scope name ≡ Some v → Contains vars (v.0, v.1.0)

-- those that are bound first stay
variable_kept : (w : Whole) (expected : Option TypeId) (scope : Scope) (p : Pattern) (name : List ℕ) → list_any is_unbound (pattern_pass w expected scope p).sites ≡ false → (vars : List (TypeId × ℕ)) → IsIn (pattern_pass w expected scope p).scope name vars → IsIn scope name vars
variable_kept w expected scope p name h vars k = subst (λ (s : Scope). IsIn s name vars) (pattern_stays w expected scope p h) k

one_is : (x name : List ℕ) → Contains (x ∷ []) name → x ≡ name
one_is x name c = ⊎_elim (λ (e : x ≡ name). e) (λ d. absurd (none_contained name d)) (contained_cases x [] name c)

-- the name of `@` stands there
bind_in : (w : Whole) (expected : Option TypeId) (scope : Scope) (x : List ℕ) (p : Pattern) (q : CorePattern) (name : List ℕ) (blank : Bool) → blank ≡ is_blank x
    → ((mid : Scope) (y : CorePattern) → list_any is_unbound (pattern_pass w expected mid p).sites ≡ false → (pattern_pass w expected mid p).tree ≡ Some y → Contains (variables_in p) name → IsIn mid name (typed_variables y))
    → list_any is_unbound (bind_pass w expected scope x p blank).sites ≡ false → (bind_pass w expected scope x p blank).tree ≡ Some q → Contains (cond blank [] (x ∷ []) ++ variables_in p) name → IsIn scope name (typed_variables q)
bind_in w expected scope x p q name true is go h t c v at = go scope q h t c v at
bind_in w expected scope x p q name false is go h t c v at =
    let mid = met scope x expected in
    let inner = pattern_pass w expected mid p in
    let k = any_parts is_unbound (MetAt expected (bound_at scope x) ∷ []) inner.sites h in
    let stays = met_stays scope x expected (or_parts (not (is_some (bound_at scope x))) false k.0).0 in
    let b = bound_tree_is (variable mid x) inner.tree q t in
    let here : variable mid name ≡ Some v = ap (λ (s : Scope). variable s name) stays ∙ at in
    subst (λ (y : CorePattern). Contains (typed_variables y) (v.0, v.1.0)) b.is
    (⊎_elim
    (λ d.
    let same : x ≡ name = one_is x name d in
    let one : b.var ≡ v = same_Some {A = TypeId × VarId} b.var v (sym b.var_is ∙ ap (variable mid) same ∙ here) in
    subst (λ (y : TypeId × VarId). Contains {X = TypeId × ℕ} ((b.var.0, b.var.1.0) ∷ typed_variables b.inner) (y.0, y.1.0)) one (head_contained (b.var.0, b.var.1.0) (typed_variables b.inner)))
    (λ d. tail_contained (b.var.0, b.var.1.0) (typed_variables b.inner) (v.0, v.1.0) (go mid b.inner k.1 b.inner_is d v here))
    (Contains-append_cases (x ∷ []) (variables_in p) name c))

mutual
  -- a variable that a pattern names stands in its tree
  pub named_stands : (w : Whole) (expected : Option TypeId) (scope : Scope) (p : Pattern) (q : CorePattern) (name : List ℕ) → list_any is_unbound (pattern_pass w expected scope p).sites ≡ false → (pattern_pass w expected scope p).tree ≡ Some q → Contains (variables_in p) name → (v : TypeId × VarId) → variable scope name ≡ Some v → Contains (typed_variables q) (v.0, v.1.0)
  named_stands w expected scope (tree.Int n) q name h t c v at = absurd (none_contained name c)
  named_stands w expected scope (tree.Truth b) q name h t c v at = absurd (none_contained name c)
  named_stands w expected scope tree.Wildcard q name h t c v at = absurd (none_contained name c)
  named_stands w expected scope (tree.Const x) q name h t c v at = absurd (none_contained name c)
  named_stands w expected scope (tree.Var x) q name h t c v at =
      let stays = met_stays scope x expected (or_parts (not (is_some (bound_at scope x))) false h).0 in
      let same : x ≡ name = one_is x name c in
      let m = mapped (λ (y : TypeId × VarId). core_pattern.Var y.0 y.1) (variable (met scope x expected) x) q t in
      let one : m.from ≡ v = same_Some {A = TypeId × VarId} m.from v (sym m.there ∙ ap (λ (s : Scope). variable s x) stays ∙ ap (variable scope) same ∙ at) in
      subst (λ (y : CorePattern). Contains (typed_variables y) (v.0, v.1.0)) m.is (subst (λ (y : TypeId × VarId). Contains {X = TypeId × ℕ} ((m.from.0, m.from.1.0) ∷ []) (y.0, y.1.0)) one (head_contained (m.from.0, m.from.1.0) []))
  named_stands w expected scope (tree.Term x ps) q name h t c v at =
      let args = arg_types w (termed w x) in
      let of = ret_type w (termed w x) in
      let by = conversion w of expected in
      let a = any_parts is_unbound (taken_by by expected) (TakenAt (within by of expected) (termed w x) (count_of ps) ∷ (patterns_pass w args scope ps).sites) h in
      let b = any_parts is_unbound (TakenAt (within by of expected) (termed w x) (count_of ps) ∷ []) (patterns_pass w args scope ps).sites a.1 in
      let k = within_is w by (term_tree of (term_named (terms w.defs) x) (patterns_pass w args scope ps).trees) q t in
      let m = term_tree_is of (term_named (terms w.defs) x) (patterns_pass w args scope ps).trees k.inner k.inner_is in
      subst (λ vars. Contains vars (v.0, v.1.0)) (typed_list m.parts ∙ ap typed_variables m.is ∙ sym k.variables) (all_named_stand w args scope ps m.parts name b.1 m.parts_are c v at)
  named_stands w expected scope (tree.Bind x p) q name h t c v at = bind_in w expected scope x p q name (is_blank x) refl (λ mid y k u d. named_stands w expected mid p y name k u d) h t c v at
  named_stands w expected scope (tree.And ps) q name h t c v at =
      let parts = patterns_pass w (of_each expected ps) scope ps in
      let a = any_and_tree expected parts.trees q t in
      let b = any_parts is_unbound (PartAt ∷ []) parts.sites h in
      subst (λ (y : CorePattern). Contains (typed_variables y) (v.0, v.1.0)) a.1.is (subst (λ vars. Contains vars (v.0, v.1.0)) (typed_list a.1.parts) (all_named_stand w (of_each expected ps) scope ps a.1.parts name b.1 a.1.parts_are c v at))

  pub all_named_stand : (w : Whole) (expected : List (Option TypeId)) (scope : Scope) (ps : Patterns) (qs : List CorePattern) (name : List ℕ) → list_any is_unbound (patterns_pass w expected scope ps).sites ≡ false → (patterns_pass w expected scope ps).trees ≡ Some qs → Contains (all_variables_in ps) name → (v : TypeId × VarId) → variable scope name ≡ Some v → Contains (all_typed qs) (v.0, v.1.0)
  all_named_stand w expected scope NoPattern qs name h t c v at = absurd (none_contained name c)
  all_named_stand w expected scope (APattern p ps) qs name h t c v at =
      let one = pattern_pass w (first_expected expected) scope p in
      let rest = patterns_pass w (later_expected expected) one.scope ps in
      let f = first_there one.tree rest.trees qs t in
      let k = any_parts is_unbound one.sites rest.sites h in
      let stays = pattern_stays w (first_expected expected) scope p k.0 in
      subst (λ (xs : List CorePattern). Contains (all_typed xs) (v.0, v.1.0)) (sym f.all)
      (⊎_elim
      (λ d. Contains-append_left (typed_variables f.first) (all_typed f.others) (v.0, v.1.0) (named_stands w (first_expected expected) scope p f.first name k.0 f.here d v at))
      (λ d. Contains-append_right (typed_variables f.first) (all_typed f.others) (v.0, v.1.0) (all_named_stand w (later_expected expected) one.scope ps f.others name k.1 f.found d v (ap (λ (s : Scope). variable s name) stays ∙ at)))
      (Contains-append_cases (variables_in p) (all_variables_in ps) name c))
