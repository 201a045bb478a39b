-- Expressions at no type whose parts break no row are of the types that they have by themselves.
use Rattle.std.proofs.Common.{◌≡◌, ℕ, Bool, true, false, cond, List, [], ◌∷◌, ◌++◌, Option, Some, None, refl, sym, ap, ◌∙◌, subst}
use Rattle.std.specs.Prelude.{◌==◌, ◌||◌, not}
use Rattle.std.specs.List.{list_any}
use Rattle.std.proofs.lemmas.Bool.{or_parts, or_from, eq-eqb}
use Rattle.std.proofs.lemmas.Option.{same_Some}
use Rattle.isle_core.specs.declared.TypeId.{TypeId}
use Rattle.isle_core.specs.declared.VarId.{VarId}
use Rattle.isle_core.specs.Expr as core_expr
use Rattle.isle_core.specs.Expr.{Expr as CoreExpr}
use Rattle.isle_core.specs.ExprType.{Allowed, IsExprOf}
use Rattle.isle_core.specs.Rule.{Environment}
use Rattle.isle_ast.specs.Tree as tree
use Rattle.isle_ast.specs.Tree.{Expr, Def}
use Rattle.isle_declarations.specs.Signatures.{Signature, term_named}
use Rattle.isle_declarations.specs.Symbols.{sym_of}
use Rattle.isle_declarations.specs.Terms.{terms}
use Rattle.isle_terms.specs.Converters.{conversion, within}
use Rattle.isle_terms.specs.TypeNames.{type_named}
use Rattle.isle_terms.specs.Whole.{Whole, whole_of, termed, arg_types, ret_type, constant_type}
use Rattle.isle_sema.specs.ExprPass.{known_type, local_tree, constant_tree, call_tree, expr_within, called_by, expr_type, let_tree, count_of, expr_pass, exprs_pass, lets_pass}
use Rattle.isle_terms.specs.Locals.{local_named}
use Rattle.isle_sema.specs.RuleRows.{differ, is_other_type, is_mistyped}
use Rattle.isle_terms.specs.Scope.{Local, local_type, typed_local}
use Rattle.isle_sema.specs.Site.{Site, UsedAt, CalledAt, ConstantAt, PartAt}
use Rattle.isle_sema.proofs.KeptParts.{AreKept, kept_parts, kept_joined}
use Rattle.isle_sema.proofs.RuleRoots.{mapped}
use Rattle.isle_terms.proofs.ScopeLaws.{local_bound}
use Rattle.isle_sema.proofs.TypedExprs.{call_is, let_is, IsOver, expr_typed}

-- ---- no converter

same_differs : (ty : TypeId) → differ (Some ty) (Some ty) ≡ false
same_differs ty = ap not (eq-eqb ty.0 ty.0 refl)

no_conversion : (w : Whole) (of : Option TypeId) → conversion w of None ≡ None
no_conversion w None = refl
no_conversion w (Some of) = refl

-- between a type and itself none is inserted
own_conversion : (w : Whole) (ty : TypeId) → conversion w (Some ty) (Some ty) ≡ None
own_conversion w ty = by _ (ty.0 == ty.0) (eq-eqb ty.0 ty.0 refl)
  where
    by : (o : Option Signature) (b : Bool) → b ≡ true → cond b None o ≡ None
    by o true h = refl
    by o false h = absurd cc

-- a part of its own type
own_part : (w : Whole) (allowed : Allowed) (ty : TypeId) (of : Option TypeId) (e : Option CoreExpr) (x : CoreExpr) (first : Option TypeId → Site) (rest : List Site) → of ≡ Some ty → (AreKept w allowed (first None ∷ rest) → AreKept w allowed (first (Some ty) ∷ rest)) → expr_within w (conversion w of None) e ≡ Some x
    → AreKept w allowed (called_by (conversion w of None) None ++ first (within (conversion w of None) of None) ∷ rest)
    → (expr_within w (conversion w of (Some ty)) e ≡ Some x) × AreKept w allowed (called_by (conversion w of (Some ty)) (Some ty) ++ first (within (conversion w of (Some ty)) of (Some ty)) ∷ rest)
own_part w allowed ty None e x first rest is k h kept = absurd cc
own_part w allowed ty (Some of) e x first rest is k h kept =
    let same : of ≡ ty = same_Some of ty is in
    let none : conversion w (Some of) (Some ty) ≡ None = ap (λ (t : TypeId). conversion w (Some of) (Some t)) (sym same) ∙ own_conversion w of in
    (ap (λ by. expr_within w by e) none ∙ h, subst (λ by. AreKept w allowed (called_by by (Some ty) ++ first (within by (Some of) (Some ty)) ∷ rest)) (sym none) (k kept))

-- what stands within no converter
pub unconverted : (w : Whole) (of : Option TypeId) (e : Option CoreExpr) (x : CoreExpr) → expr_within w (conversion w of None) e ≡ Some x → e ≡ Some x
unconverted w of e x h = sym (ap (λ by. expr_within w by e) (no_conversion w of)) ∙ h

-- ---- parts at their own types

used_own : (w : Whole) (allowed : Allowed) (ty : TypeId) (bound : Option (Option TypeId)) → bound ≡ Some (Some ty) → AreKept w allowed (UsedAt None bound ∷ []) → AreKept w allowed (UsedAt (Some ty) bound ∷ [])
used_own w allowed ty bound is k = record { placed = k.placed; known = k.known; typed = ap (λ o. is_other_type o (Some ty) || false) is ∙ ap (λ b. b || false) (same_differs ty); partial = k.partial; impure = k.impure }

constant_own : (w : Whole) (allowed : Allowed) (ty : TypeId) (of : Option TypeId) → of ≡ Some ty → AreKept w allowed (ConstantAt false None of ∷ []) → AreKept w allowed (ConstantAt false (Some ty) of ∷ [])
constant_own w allowed ty of is k = record { placed = k.placed; known = k.known; typed = ap (λ o. differ o (Some ty) || false) is ∙ ap (λ b. b || false) (same_differs ty); partial = k.partial; impure = k.impure }

call_own : (w : Whole) (allowed : Allowed) (ty : TypeId) (o : Option Signature) (count : ℕ) (rest : List Site) → ret_type w o ≡ Some ty → AreKept w allowed (CalledAt None o count ∷ rest) → AreKept w allowed (CalledAt (Some ty) o count ∷ rest)
call_own w allowed ty None count rest is k = absurd cc
call_own w allowed ty (Some s) count rest is k = record {
  placed = k.placed;
  known = k.known;
  typed = or_from (differ (type_named w.defs s.ret) (Some ty)) (list_any (is_mistyped w) rest) (ap (λ t. differ t (Some ty)) is ∙ same_differs ty) (or_parts (differ (type_named w.defs s.ret) None) (list_any (is_mistyped w) rest) k.typed).1;
  partial = k.partial;
  impure = k.impure;
}

-- the types of trees
local_own : (found : Option Local) (x : CoreExpr) → local_tree found ≡ Some x → local_type found ≡ Some (Some (expr_type x))
local_own found x h =
    let m = mapped (λ (v : TypeId × VarId). core_expr.Var v.0 v.1) (typed_local found) x h in
    local_bound found m.from m.there ∙ ap (λ (y : CoreExpr). Some (Some (expr_type y))) m.is

known_of : (found : Option Local) (ty : TypeId) → local_type found ≡ Some (Some ty) → known_type found ≡ Some ty
known_of None ty h = absurd cc
known_of (Some l) ty h = same_Some l.ty (Some ty) h

-- ---- expressions

-- what an expression at no type is at its own
record IsAtOwn (w : Whole) (allowed : Allowed) (locals : List Local) (next : ℕ) (e : Expr) (x : CoreExpr) : Type 0 where
  tree : (expr_pass w locals next (Some (expr_type x)) e).tree ≡ Some x
  kept : AreKept w allowed (expr_pass w locals next (Some (expr_type x)) e).sites

at_own : (defs : List Def) (allowed : Allowed) (locals : List Local) (next : ℕ) (e : Expr) (x : CoreExpr) → (expr_pass (whole_of defs) locals next None e).tree ≡ Some x → AreKept (whole_of defs) allowed (expr_pass (whole_of defs) locals next None e).sites
    → IsAtOwn (whole_of defs) allowed locals next e x
at_own defs allowed locals next (tree.Number n) x h kept = absurd cc
at_own defs allowed locals next (tree.Fact b) x h kept =
    subst (IsAtOwn (whole_of defs) allowed locals next (tree.Fact b)) (same_Some (core_expr.ConstBool b) x h) (record { tree = refl; kept = record { placed = refl; known = kept.known; typed = kept.typed; partial = kept.partial; impure = kept.impure } })
at_own defs allowed locals next (tree.Name name) x h kept =
    let w = whole_of defs in
    let found = local_named locals name in
    let bound = local_own found x (unconverted w (known_type found) (local_tree found) x h) in
    let p = own_part w allowed (expr_type x) (known_type found) (local_tree found) x (λ o. UsedAt o (local_type found)) [] (known_of found (expr_type x) bound) (used_own w allowed (expr_type x) (local_type found) bound) h kept in
    record { tree = p.0; kept = p.1 }
at_own defs allowed locals next (tree.Constant name) x h kept =
    let w = whole_of defs in
    let of = constant_type w name in
    let m = mapped (λ (t : TypeId). core_expr.ConstPrim t (sym_of w.types.syms name)) of x (unconverted w of (constant_tree w.types of name) x h) in
    let is : of ≡ Some (expr_type x) = m.there ∙ ap (λ (y : CoreExpr). Some (expr_type y)) m.is in
    let p = own_part w allowed (expr_type x) of (constant_tree w.types of name) x (λ o. ConstantAt false o of) [] is (constant_own w allowed (expr_type x) of is) h kept in
    record { tree = p.0; kept = p.1 }
at_own defs allowed locals next (tree.Call name es) x h kept =
    let w = whole_of defs in
    let o = termed w name in
    let of = ret_type w o in
    let args = exprs_pass w locals next (arg_types w o) es in
    let made = call_tree of (term_named (terms defs) name) args.trees in
    let c = call_is of (term_named (terms defs) name) args.trees x (unconverted w of made x h) in
    let is : of ≡ Some (expr_type x) = c.of_is ∙ ap (λ (y : CoreExpr). Some (expr_type y)) c.is in
    let p = own_part w allowed (expr_type x) of made x (λ t. CalledAt t o (count_of es)) args.sites is (call_own w allowed (expr_type x) o (count_of es) args.sites is) h kept in
    record { tree = p.0; kept = p.1 }
at_own defs allowed locals next (tree.Let ls inner) x h kept =
    let w = whole_of defs in
    let bound = lets_pass w locals next ls in
    let result = expr_pass w bound.locals bound.next None inner in
    let m = let_is bound.trees result.tree x h in
    let k = kept_parts w allowed (PartAt ∷ bound.sites) result.sites kept in
    let own = at_own defs allowed bound.locals bound.next inner m.inner m.inner_is k.1 in
    subst (IsAtOwn w allowed locals next (tree.Let ls inner)) m.is (record {
      tree = ap (λ o. let_tree o (expr_pass w bound.locals bound.next (Some (expr_type m.inner)) inner).tree) m.bindings_are ∙ ap (let_tree (Some m.bindings)) own.tree;
      kept = kept_joined w allowed (PartAt ∷ bound.sites) (expr_pass w bound.locals bound.next (Some (expr_type m.inner)) inner).sites k.0 own.kept;
    })

-- it is of its own type
pub own_typed : (defs : List Def) (env : Environment) (allowed : Allowed) (locals : List Local) (vars : List (TypeId × ℕ)) (next : ℕ) (e : Expr) (x : CoreExpr) → IsOver defs env locals vars next → (expr_pass (whole_of defs) locals next None e).tree ≡ Some x
    → AreKept (whole_of defs) allowed (expr_pass (whole_of defs) locals next None e).sites → IsExprOf env allowed vars (expr_type x) x
own_typed defs env allowed locals vars next e x over h kept = let k = at_own defs allowed locals next e x h kept in expr_typed defs env allowed locals vars next (expr_type x) e x over k.tree k.kept
