-- What holds of each path that an expression's parts make, and of its variables' places, holds of all its paths.
use Rattle.std.proofs.Common.{◌≡◌, ℕ, ◌+◌, List, [], ◌∷◌, ◌++◌, Bool, true, false, cond, eqb, Option, Some, None}
use Rattle.std.specs.Prelude.{Contains}
use Rattle.std.specs.List.{AllByRecursion}
use Rattle.std.proofs.lemmas.List.Elements.{Contains-append_left, Contains-append_right}
use Rattle.isle_base.specs.declared.ids.Sym.{Sym}
use Rattle.isle_base.specs.declared.ids.TermId.{TermId}
use Rattle.isle_base.specs.declared.ids.TypeId.{TypeId}
use Rattle.isle_core.specs.CalledTerms.{Constructor, CalledTerm, is_made, unless_made, called_by, called_by_all, called_by_bindings}
use Rattle.isle_core.specs.Calling.{calling, answers_often, is_fallible, instance_of, impure, impure_all, impure_bindings}
use Rattle.isle_core.specs.Expr as expr
use Rattle.isle_core.specs.Expr.{Expr, Exprs, NoExpr, AnExpr, LetBindings, NoBinding, ABinding}
use Rattle.isle_core.specs.Making.{making}
use Rattle.isle_core.specs.Match.{with}
use Rattle.isle_core.specs.OccurringConstants.{TypedConstant, Named, expr_constants, exprs_constants, bindings_constants}
use Rattle.isle_core.specs.Path.{Path, Nowhere, ConstBool, ConstInt, ConstPrim, Chosen, Inner, Paths}
use Rattle.isle_core.specs.RightSide.{bool_type, path_or, term_path, call_path, path, paths, let_places}
use Rattle.isle_core.specs.RulePaths.{with_inner, expr_paths, exprs_paths, bindings_paths}
use Rattle.isle_core.specs.Rule.{Environment}
use Rattle.isle_core.specs.Tests.{Places}
use Rattle.isle_core.proofs.Contained.{head_contained}
use Rattle.isle_core.proofs.AnsweredTerms.{called_here}

-- a term that an expression calls
abbrev pub constructed : TermId → CalledTerm
constructed term = record { term = term; role = Constructor }

-- so of the path of a variable, if it has one
abbrev pub IsPlaceSo : (Path → Type 0) → Option Path → Type 0
IsPlaceSo P None = Unit {0}
IsPlaceSo P (Some p) = P p

-- so of each variable
pub record ArePlacedSo (P : Path → Type 0) (places : Places) : Type 0 where
  pub by : (x : ℕ) → IsPlaceSo P (places x)

-- so of constants, of the named ones among these, and of what terms make and of calls of those among these
pub record HoldsOfParts (P : Path → Type 0) (env : Environment) (terms : List CalledTerm) (constants : List TypedConstant) : Type 0 where
  pub nowhere : P Nowhere
  pub truth : (b : Bool) → P (ConstBool bool_type b)
  pub number : (ty : TypeId) (k : _) → P (ConstInt ty k)
  pub named : (ty : TypeId) (name : Sym) → Contains constants (ty, Named name) → P (ConstPrim name)
  pub term : (term : TermId) (ps : Paths) (k : ℕ) → (is_made env term ≡ false → Contains terms (constructed term)) → AllByRecursion P (with_inner (calling env term) (term_path (making env term) term ps k))

pub all_append : (P : Path → Type 0) (xs ys : List Path) → AllByRecursion P xs → AllByRecursion P ys → AllByRecursion P (xs ++ ys)
all_append P [] ys h k = k
all_append P (x ∷ xs) ys h k = (h.0, all_append P xs ys h.1 k)

all_behind : (P : Path → Type 0) (xs ys : List Path) → AllByRecursion P (xs ++ ys) → AllByRecursion P ys
all_behind P [] ys h = h
all_behind P (x ∷ xs) ys h = all_behind P xs ys h.1

pub picked : (P : Path → Type 0) (b : Bool) (p : Path) (o : Option Path) → P p → IsPlaceSo P o → IsPlaceSo P (cond b (Some p) o)
picked P true p o h k = h
picked P false p o h k = k

pub with_placed : (P : Path → Type 0) (places : Places) (x : ℕ) (p : Path) → P p → ArePlacedSo P places → ArePlacedSo P (with places x p)
with_placed P places x p h a = record { by = λ y. picked P (eqb x y) p (places y) h (a.by y) }

module _ (P : Path → Type 0) (env : Environment) where
  place_so : (o : Option Path) → P Nowhere → IsPlaceSo P o → P (path_or o)
  place_so None n h = n
  place_so (Some p) n h = h

  answer_so : (a b : Bool) (p : Path) → AllByRecursion P (cond a (p ∷ Chosen p ∷ []) (cond b (p ∷ Inner p ∷ []) (p ∷ []))) → P (cond a (Chosen p) (cond b (Inner p) p))
  answer_so true b p h = h.1.0
  answer_so false true p h = h.1.0
  answer_so false false p h = h.0

  -- an expression's path is one of its paths
  pub path_so : (e : Expr) (places : Places) (n : ℕ) → AllByRecursion P (expr_paths env e places n) → P (path env e places n)
  path_so (expr.Var ty x) places n h = h.0
  path_so (expr.ConstBool b) places n h = h.0
  path_so (expr.ConstInt ty k) places n h = h.0
  path_so (expr.ConstPrim ty name) places n h = h.0
  path_so (expr.Term ty term es) places n h =
      let p = call_path env term (paths env es places n) (n + impure_all env es) in
      answer_so (answers_often (calling env term)) (is_fallible (calling env term)) p (all_behind P (exprs_paths env es places n) (with_inner (calling env term) p) h)
  path_so (expr.Let ty bs inner) places n h =
      path_so inner (let_places env bs places n) (n + impure_bindings env bs) (all_behind P (bindings_paths env bs places n) (expr_paths env inner (let_places env bs places n) (n + impure_bindings env bs)) h)

  all_front : (xs ys : List Path) → AllByRecursion P (xs ++ ys) → AllByRecursion P xs
  all_front [] ys h = tt
  all_front (x ∷ xs) ys h = (h.0, all_front xs ys h.1)

  -- so after the variables of a `let`
  let_so : (bs : LetBindings) (places : Places) (n : ℕ) → ArePlacedSo P places → AllByRecursion P (bindings_paths env bs places n) → ArePlacedSo P (let_places env bs places n)
  let_so NoBinding places n a h = a
  let_so (ABinding x ty e more) places n a h =
      let p = path env e places n in
      let rest = bindings_paths env more (with places x.0 p) (n + impure env e) in
      let_so more (with places x.0 p) (n + impure env e) (with_placed P places x.0 p (path_so e places n (all_front (expr_paths env e places n) rest h)) a) (all_behind P (expr_paths env e places n) rest h)

  module _ (terms : List CalledTerm) (constants : List TypedConstant) (holds : HoldsOfParts P env terms constants) where
    mutual
      -- all paths of an expression
      pub expr_each : (e : Expr) (places : Places) (n : ℕ) → ArePlacedSo P places → ((t : CalledTerm) → Contains (called_by env e) t → Contains terms t) → ((c : TypedConstant) → Contains (expr_constants e) c → Contains constants c) → AllByRecursion P (expr_paths env e places n)
      expr_each (expr.Var ty x) places n a t c = (place_so (places x.0) holds.nowhere (a.by x.0), tt)
      expr_each (expr.ConstBool b) places n a t c = (holds.truth b, tt)
      expr_each (expr.ConstInt ty k) places n a t c = (holds.number ty k, tt)
      expr_each (expr.ConstPrim ty name) places n a t c = (holds.named ty name (c (ty, Named name) (head_contained (ty, Named name) [])), tt)
      expr_each (expr.Term ty term es) places n a t c =
          let own = unless_made env Constructor term in
          all_append P (exprs_paths env es places n) (with_inner (calling env term) (call_path env term (paths env es places n) (n + impure_all env es)))
          (exprs_each es places n a (λ o d. t o (Contains-append_left (called_by_all env es) own o d)) c)
          (holds.term term (paths env es places n) (instance_of (calling env term) (n + impure_all env es)) (λ e. t (constructed term) (Contains-append_right (called_by_all env es) own (constructed term) (called_here env term e))))
      expr_each (expr.Let ty bs inner) places n a t c =
          let mid = let_places env bs places n in
          let values = bindings_each bs places n a (λ o d. t o (Contains-append_left (called_by_bindings env bs) (called_by env inner) o d)) (λ o d. c o (Contains-append_left (bindings_constants bs) (expr_constants inner) o d)) in
          all_append P (bindings_paths env bs places n) (expr_paths env inner mid (n + impure_bindings env bs)) values
          (expr_each inner mid (n + impure_bindings env bs) (let_so bs places n a values) (λ o d. t o (Contains-append_right (called_by_bindings env bs) (called_by env inner) o d)) (λ o d. c o (Contains-append_right (bindings_constants bs) (expr_constants inner) o d)))

      exprs_each : (es : Exprs) (places : Places) (n : ℕ) → ArePlacedSo P places → ((t : CalledTerm) → Contains (called_by_all env es) t → Contains terms t) → ((c : TypedConstant) → Contains (exprs_constants es) c → Contains constants c) → AllByRecursion P (exprs_paths env es places n)
      exprs_each NoExpr places n a t c = tt
      exprs_each (AnExpr e es) places n a t c =
          all_append P (expr_paths env e places n) (exprs_paths env es places (n + impure env e))
          (expr_each e places n a (λ o d. t o (Contains-append_left (called_by env e) (called_by_all env es) o d)) (λ o d. c o (Contains-append_left (expr_constants e) (exprs_constants es) o d)))
          (exprs_each es places (n + impure env e) a (λ o d. t o (Contains-append_right (called_by env e) (called_by_all env es) o d)) (λ o d. c o (Contains-append_right (expr_constants e) (exprs_constants es) o d)))

      bindings_each : (bs : LetBindings) (places : Places) (n : ℕ) → ArePlacedSo P places → ((t : CalledTerm) → Contains (called_by_bindings env bs) t → Contains terms t) → ((c : TypedConstant) → Contains (bindings_constants bs) c → Contains constants c)
          → AllByRecursion P (bindings_paths env bs places n)
      bindings_each NoBinding places n a t c = tt
      bindings_each (ABinding x ty e more) places n a t c =
          let p = path env e places n in
          let here = expr_each e places n a (λ o d. t o (Contains-append_left (called_by env e) (called_by_bindings env more) o d)) (λ o d. c o (Contains-append_left (expr_constants e) (bindings_constants more) o d)) in
          all_append P (expr_paths env e places n) (bindings_paths env more (with places x.0 p) (n + impure env e)) here
          (bindings_each more (with places x.0 p) (n + impure env e) (with_placed P places x.0 p (path_so e places n here) a) (λ o d. t o (Contains-append_right (called_by env e) (called_by_bindings env more) o d)) (λ o d. c o (Contains-append_right (expr_constants e) (bindings_constants more) o d)))
