-- Each variable of a rule's patterns stands with one type.
use Rattle.std.proofs.Common.{◌≡◌, ⊎_elim, ℕ, ◌<◌, Bool, true, false, List, [], ◌∷◌, ◌++◌, Option, Some, None, refl, sym, ap, ◌∙◌, subst}
use Rattle.std.specs.Prelude.{ℤ, Contains}
use Rattle.std.proofs.lemmas.List.{append_assoc, append-nil}
use Rattle.std.proofs.lemmas.List.Elements.{Contains-append_left, Contains-append_cases}
use Rattle.std.proofs.lemmas.Option.{same_Some}
use Rattle.isle_core.specs.declared.TypeId.{TypeId}
use Rattle.isle_core.specs.declared.VarId.{VarId}
use Rattle.isle_core.specs.Pattern as core_pattern
use Rattle.isle_core.specs.Pattern.{Pattern as CorePattern}
use Rattle.isle_core.proofs.Contained.{contained_cases, none_contained}
use Rattle.isle_ast.specs.Tree as tree
use Rattle.isle_ast.specs.Tree.{Pattern, Patterns, NoPattern, APattern}
use Rattle.isle_declarations.specs.Signatures.{term_named}
use Rattle.isle_declarations.specs.Symbols.{sym_of}
use Rattle.isle_declarations.specs.Terms.{terms}
use Rattle.isle_sema.specs.PatternPass.{first_expected, later_expected, of_each, term_tree, pattern_pass, patterns_pass}
use Rattle.isle_terms.specs.Scope.{is_blank}
use Rattle.isle_terms.specs.Reduced.{typed_integer}
use Rattle.isle_terms.specs.Scope.{Local, Scope, found_in, met_by, met, variable}
use Rattle.isle_core.specs.TypedVariables.{HaveOneType, typed_variables, all_typed}
use Rattle.isle_terms.specs.Converters.{conversion}
use Rattle.isle_terms.specs.Whole.{Whole, termed, arg_types, ret_type, constant_type}
use Rattle.isle_terms.proofs.MadeTerms.{first_there}
use Rattle.isle_sema.proofs.RuleRoots.{mapped}
use Rattle.isle_terms.proofs.ScopeLaws.{local_is, found_there, IsNumbered, met_numbered}
use Rattle.isle_sema.proofs.TypedPatterns.{within_is, bind_pass, bound_tree_is, term_tree_is, any_and_tree, typed_list}

-- ---- the scope grows

-- the variables that follow others, with numbers of their own
pub record Grows (old new : Scope) : Type 0 where
  pub more : List Local
  pub is : new.variables ≡ old.variables ++ more
  pub numbered : IsNumbered old → IsNumbered new

grows_self : (s : Scope) → Grows s s
grows_self s = record { more = []; is = sym (append-nil s.variables); numbered = λ h. h }

grows_on : (a b c : Scope) → Grows a b → Grows b c → Grows a c
grows_on a b c h k = record { more = h.more ++ k.more; is = k.is ∙ ap (λ (x : List Local). x ++ k.more) h.is ∙ append_assoc a.variables h.more k.more; numbered = λ n. k.numbered (h.numbered n) }

met_grows : (scope : Scope) (name : List ℕ) (ty : Option TypeId) → Grows scope (met scope name ty)
met_grows scope name ty = record { more = more (found_in scope.variables name); is = by (found_in scope.variables name); numbered = met_numbered scope name ty }
  where
    more : Option Local → List Local
    more None = record { name = name; ty = ty; number = scope.next } ∷ []
    more (Some l) = []

    by : (o : Option Local) → (met_by o scope name ty).variables ≡ scope.variables ++ more o
    by None = refl
    by (Some l) = sym (append-nil scope.variables)

bind_grows : (w : Whole) (expected : Option TypeId) (scope : Scope) (x : List ℕ) (p : Pattern) (blank : Bool) → ((mid : Scope) → Grows mid (pattern_pass w expected mid p).scope) → Grows scope (bind_pass w expected scope x p blank).scope
bind_grows w expected scope x p true go = go scope
bind_grows w expected scope x p false go = let mid = met scope x expected in grows_on scope mid (pattern_pass w expected mid p).scope (met_grows scope x expected) (go mid)

mutual
  pub pattern_grows : (w : Whole) (expected : Option TypeId) (scope : Scope) (p : Pattern) → Grows scope (pattern_pass w expected scope p).scope
  pattern_grows w expected scope (tree.Int n) = grows_self scope
  pattern_grows w expected scope (tree.Truth b) = grows_self scope
  pattern_grows w expected scope tree.Wildcard = grows_self scope
  pattern_grows w expected scope (tree.Var name) = met_grows scope name expected
  pattern_grows w expected scope (tree.Const name) = grows_self scope
  pattern_grows w expected scope (tree.Term name ps) = patterns_grow w (arg_types w (termed w name)) scope ps
  pattern_grows w expected scope (tree.Bind x p) = bind_grows w expected scope x p (is_blank x) (λ mid. pattern_grows w expected mid p)
  pattern_grows w expected scope (tree.And ps) = patterns_grow w (of_each expected ps) scope ps

  pub patterns_grow : (w : Whole) (expected : List (Option TypeId)) (scope : Scope) (ps : Patterns) → Grows scope (patterns_pass w expected scope ps).scope
  patterns_grow w expected scope NoPattern = grows_self scope
  patterns_grow w expected scope (APattern p ps) =
      let one = pattern_pass w (first_expected expected) scope p in
      grows_on scope one.scope (patterns_pass w (later_expected expected) one.scope ps).scope (pattern_grows w (first_expected expected) scope p) (patterns_grow w (later_expected expected) one.scope ps)

-- ---- the type at a number

-- a variable of this number and this type is among these
pub record IsAt (ls : List Local) (x : ℕ) (ty : TypeId) : Type 0 where
  pub local : Local
  pub there : Contains ls local
  pub typed : local.ty ≡ Some ty
  pub numbered : local.number ≡ x

at_kept : (old new : Scope) (x : ℕ) (ty : TypeId) → Grows old new → IsAt old.variables x ty → IsAt new.variables x ty
at_kept old new x ty g h = record { local = h.local; there = subst (λ (ls : List Local). Contains ls h.local) (sym g.is) (Contains-append_left old.variables g.more h.local h.there); typed = h.typed; numbered = h.numbered }

variable_at : (scope : Scope) (name : List ℕ) (v : TypeId × VarId) → variable scope name ≡ Some v → IsAt scope.variables v.1.0 v.0
variable_at scope name v h =
    let l = local_is (found_in scope.variables name) v h in
    record { local = l.local; there = found_there scope.variables name l.local l.found; typed = l.typed; numbered = l.numbered }

-- ---- each occurrence

-- each of these variables has its type in the scope
pub record StandIn (scope : List Local) (vars : List (TypeId × ℕ)) : Type 0 where
  pub by : (ty : TypeId) (x : ℕ) → Contains vars (ty, x) → IsAt scope x ty

none_stand : (scope : List Local) → StandIn scope []
none_stand scope = record { by = λ ty x c. absurd (none_contained (ty, x) c) }

one_stands : (scope : List Local) (of : TypeId) (y : ℕ) (vars : List (TypeId × ℕ)) → IsAt scope y of → StandIn scope vars → StandIn scope ((of, y) ∷ vars)
one_stands scope of y vars h s = record { by = λ ty x c. ⊎_elim (λ (e : (of, y) ≡ (ty, x)). subst (λ (v : TypeId × ℕ). IsAt scope v.1 v.0) e h) (λ d. s.by ty x d) (contained_cases (of, y) vars (ty, x) c) }

pub both_stand : (scope : List Local) (xs ys : List (TypeId × ℕ)) → StandIn scope xs → StandIn scope ys → StandIn scope (xs ++ ys)
both_stand scope xs ys h k = record { by = λ ty x c. ⊎_elim (λ d. h.by ty x d) (λ d. k.by ty x d) (Contains-append_cases xs ys (ty, x) c) }

pub stand_on : (old new : Scope) (vars : List (TypeId × ℕ)) → Grows old new → StandIn old.variables vars → StandIn new.variables vars
stand_on old new vars g h = record { by = λ ty x c. at_kept old new x ty g (h.by ty x c) }

bind_stand : (w : Whole) (expected : Option TypeId) (scope : Scope) (x : List ℕ) (p : Pattern) (q : CorePattern) (blank : Bool) → ((mid : Scope) (y : CorePattern) → (pattern_pass w expected mid p).tree ≡ Some y → StandIn (pattern_pass w expected mid p).scope.variables (typed_variables y))
    → (bind_pass w expected scope x p blank).tree ≡ Some q → StandIn (bind_pass w expected scope x p blank).scope.variables (typed_variables q)
bind_stand w expected scope x p q true go h = go scope q h
bind_stand w expected scope x p q false go h =
    let mid = met scope x expected in
    let last = (pattern_pass w expected mid p).scope in
    let b = bound_tree_is (variable mid x) (pattern_pass w expected mid p).tree q h in
    subst (λ (y : CorePattern). StandIn last.variables (typed_variables y)) b.is
    (one_stands last.variables b.var.0 b.var.1.0 (typed_variables b.inner) (at_kept mid last b.var.1.0 b.var.0 (pattern_grows w expected mid p) (variable_at mid x b.var b.var_is)) (go mid b.inner b.inner_is))

mutual
  -- so of the variables of a pattern's tree
  pub pattern_stand : (w : Whole) (expected : Option TypeId) (scope : Scope) (p : Pattern) (q : CorePattern) → (pattern_pass w expected scope p).tree ≡ Some q → StandIn (pattern_pass w expected scope p).scope.variables (typed_variables q)
  pattern_stand w expected scope (tree.Int n) q h =
      let m = mapped (λ (v : TypeId × ℤ). core_pattern.ConstInt v.0 v.1) (typed_integer w.types expected n) q h in
      subst (λ (y : CorePattern). StandIn scope.variables (typed_variables y)) m.is (none_stand scope.variables)
  pattern_stand w expected scope (tree.Truth b) q h = subst (λ (y : CorePattern). StandIn scope.variables (typed_variables y)) (same_Some (core_pattern.ConstBool b) q h) (none_stand scope.variables)
  pattern_stand w expected scope tree.Wildcard q h =
      let m = mapped core_pattern.Wildcard expected q h in
      subst (λ (y : CorePattern). StandIn scope.variables (typed_variables y)) m.is (none_stand scope.variables)
  pattern_stand w expected scope (tree.Var name) q h =
      let after = met scope name expected in
      let m = mapped (λ (v : TypeId × VarId). core_pattern.Var v.0 v.1) (variable after name) q h in
      subst (λ (y : CorePattern). StandIn after.variables (typed_variables y)) m.is (one_stands after.variables m.from.0 m.from.1.0 [] (variable_at after name m.from m.there) (none_stand after.variables))
  pattern_stand w expected scope (tree.Const name) q h =
      let m = mapped (λ (t : TypeId). core_pattern.ConstPrim t (sym_of w.types.syms name)) (constant_type w name) q h in
      subst (λ (y : CorePattern). StandIn scope.variables (typed_variables y)) m.is (none_stand scope.variables)
  pattern_stand w expected scope (tree.Term name ps) q h =
      let args = arg_types w (termed w name) in
      let parts = patterns_pass w args scope ps in
      let of = ret_type w (termed w name) in
      let k = within_is w (conversion w of expected) (term_tree of (term_named (terms w.defs) name) parts.trees) q h in
      let t = term_tree_is of (term_named (terms w.defs) name) parts.trees k.inner k.inner_is in
      subst (StandIn parts.scope.variables) (typed_list t.parts ∙ ap typed_variables t.is ∙ sym k.variables) (patterns_stand w args scope ps t.parts t.parts_are)
  pattern_stand w expected scope (tree.Bind x p) q h = bind_stand w expected scope x p q (is_blank x) (λ mid y t. pattern_stand w expected mid p y t) h
  pattern_stand w expected scope (tree.And ps) q h =
      let parts = patterns_pass w (of_each expected ps) scope ps in
      let a = any_and_tree expected parts.trees q h in
      subst (λ (y : CorePattern). StandIn parts.scope.variables (typed_variables y)) a.1.is (subst (StandIn parts.scope.variables) (typed_list a.1.parts) (patterns_stand w (of_each expected ps) scope ps a.1.parts a.1.parts_are))

  -- of those of patterns
  pub patterns_stand : (w : Whole) (expected : List (Option TypeId)) (scope : Scope) (ps : Patterns) (qs : List CorePattern) → (patterns_pass w expected scope ps).trees ≡ Some qs → StandIn (patterns_pass w expected scope ps).scope.variables (all_typed qs)
  patterns_stand w expected scope NoPattern qs h = subst (λ (xs : List CorePattern). StandIn scope.variables (all_typed xs)) (same_Some [] qs h) (none_stand scope.variables)
  patterns_stand w expected scope (APattern p ps) qs h =
      let one = pattern_pass w (first_expected expected) scope p in
      let rest = patterns_pass w (later_expected expected) one.scope ps in
      let f = first_there one.tree rest.trees qs h in
      subst (λ (xs : List CorePattern). StandIn rest.scope.variables (all_typed xs)) (sym f.all)
      (both_stand rest.scope.variables (typed_variables f.first) (all_typed f.others)
      (stand_on one.scope rest.scope (typed_variables f.first) (patterns_grow w (later_expected expected) one.scope ps) (pattern_stand w (first_expected expected) scope p f.first f.here))
      (patterns_stand w (later_expected expected) one.scope ps f.others f.found))

-- variables of a scope have one type each
pub have_one_type : (scope : Scope) (vars : List (TypeId × ℕ)) → IsNumbered scope → StandIn scope.variables vars → HaveOneType vars
have_one_type scope vars n s ty of x c d =
    let h = s.by ty x c in
    let k = s.by of x d in
    let same : h.local ≡ k.local = n.once h.local k.local h.there k.there (h.numbered ∙ sym k.numbered) in
    same_Some ty of (sym h.typed ∙ ap (λ (l : Local). l.ty) same ∙ k.typed)

-- and their numbers are below the next one
pub below_next : (scope : Scope) (vars : List (TypeId × ℕ)) → IsNumbered scope → StandIn scope.variables vars → (ty : TypeId) (x : ℕ) → Contains vars (ty, x) → x < scope.next
below_next scope vars n s ty x c = let h = s.by ty x c in subst (λ k. k < scope.next) h.numbered (n.below h.local h.there)
