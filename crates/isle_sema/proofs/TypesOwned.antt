-- The type of an expression that has a tree is that of the tree.
use Rattle.std.proofs.Common.{◌≡◌, ℕ, ◌+◌, ◌<◌, ◌≤◌, Bool, true, false, cond, List, [], ◌∷◌, ◌++◌, length, map, get_or, Option, Some, None, refl, sym, ap, ◌∙◌}
use Rattle.std.specs.Prelude.{drop, option_map}
use Rattle.std.proofs.lemmas.List.{drop_all, drop_more}
use Rattle.std.specs.Str.{bytes_eq}
use Rattle.std.proofs.lemmas.List.Sums.{fold-append}
use Rattle.std.proofs.lemmas.Option.{same_Some}
use Rattle.isle_core.specs.declared.TermId.{TermId}
use Rattle.isle_core.specs.declared.TypeId.{TypeId}
use Rattle.isle_core.specs.declared.VarId.{VarId}
use Rattle.isle_core.specs.declared.types.TypeEnv.{TypeEnv}
use Rattle.isle_core.specs.Expr as core_expr
use Rattle.isle_core.specs.Expr.{Expr as CoreExpr, Exprs as CoreExprs, LetBindings}
use Rattle.isle_ast.specs.Tree as tree
use Rattle.isle_ast.specs.Tree.{Expr, Lets, NoLet, ALet}
use Rattle.isle_ast.specs.declared.tree.AstLet.{AstLet}
use Rattle.isle_ast.specs.Views.{lets_of}
use Rattle.isle_ast.proofs.Sees.{let-parts}
use Rattle.isle_declarations.specs.Bindings.{binding}
use Rattle.isle_declarations.specs.Signatures.{term_named}
use Rattle.isle_declarations.specs.Symbols.{sym_of}
use Rattle.isle_declarations.specs.Terms.{terms}
use Rattle.isle_terms.specs.Locals.{Bound, newest, local_named, bound_local, locals_of}
use Rattle.isle_terms.specs.Scope.{Local, is_blank}
use Rattle.isle_terms.specs.TypeNames.{type_named}
use Rattle.isle_terms.specs.Whole.{Whole, termed, arg_types, ret_type, constant_type}
use Rattle.isle_sema.specs.ExprPass.{call_tree, constant_tree, expr_pass, expr_type, exprs_pass, known_type, let_tree, lets_pass, local_tree}
use Rattle.isle_sema.specs.ExprType.{own_type, typed_lets}
use Rattle.isle_terms.proofs.LocalLaws.{joined_locals}
use Rattle.isle_sema.proofs.OwnTypes.{unconverted}

-- ---- variables of the same types

-- each name has the same type in both
abbrev pub AreAlike : List Local → List Local → Type 0
AreAlike xs ys = (name : List ℕ) → known_type (local_named xs name) ≡ known_type (local_named ys name)

bound_alike : (xs ys : List Local) (name : List ℕ) (ty : Option TypeId) (m n : ℕ) → AreAlike xs ys → AreAlike (bound_local xs name ty m) (bound_local ys name ty n)
bound_alike xs ys name ty m n alike wanted = by (is_blank name)
  where
    one : ℕ → Local
    one number = record { name = name; ty = ty; number = number }

    pick : (b : Bool) → known_type (cond b (Some (one m)) (local_named xs wanted)) ≡ known_type (cond b (Some (one n)) (local_named ys wanted))
    pick true = refl
    pick false = alike wanted

    by : (b : Bool) → known_type (local_named (cond b xs (xs ++ one m ∷ [])) wanted) ≡ known_type (local_named (cond b ys (ys ++ one n ∷ [])) wanted)
    by true = alike wanted
    by false = ap known_type (fold-append (newest wanted) None xs (one m ∷ [])) ∙ pick (bytes_eq name wanted) ∙ sym (ap known_type (fold-append (newest wanted) None ys (one n ∷ [])))

lets_alike : (w : Whole) (xs ys : List Local) (next : ℕ) (ls : Lets) → AreAlike xs ys → AreAlike (lets_pass w xs next ls).locals (typed_lets w ys ls)
lets_alike w xs ys next NoLet alike = alike
lets_alike w xs ys next (ALet var ty e ls) alike =
    let of = type_named w.defs ty in
    lets_alike w (bound_local xs var of next) (bound_local ys var of 0) _ ls (bound_alike xs ys var of next 0 alike)

-- ---- trees

local_owned : (found : Option Local) (x : CoreExpr) → local_tree found ≡ Some x → known_type found ≡ Some (expr_type x)
local_owned None x h = absurd cc
local_owned (Some l) x h = by l.ty h
  where
    by : (o : Option TypeId) → option_map (λ (v : TypeId × VarId). core_expr.Var v.0 v.1) (option_map (λ (ty : TypeId). (ty, record { 0 = l.number })) o) ≡ Some x → o ≡ Some (expr_type x)
    by None k = absurd cc
    by (Some ty) k = ap (λ (e : CoreExpr). Some (expr_type e)) (same_Some (core_expr.Var ty (record { 0 = l.number })) x k)

call_owned : (of : Option TypeId) (term : Option TermId) (es : Option CoreExprs) (x : CoreExpr) → call_tree of term es ≡ Some x → of ≡ Some (expr_type x)
call_owned None term es x h = absurd cc
call_owned (Some ty) None es x h = absurd cc
call_owned (Some ty) (Some n) None x h = absurd cc
call_owned (Some ty) (Some n) (Some es) x h = ap (λ (e : CoreExpr). Some (expr_type e)) (same_Some (core_expr.Term ty n es) x h)

constant_owned : (types : TypeEnv) (of : Option TypeId) (name : List ℕ) (x : CoreExpr) → constant_tree types of name ≡ Some x → of ≡ Some (expr_type x)
constant_owned types None name x h = absurd cc
constant_owned types (Some ty) name x h = ap (λ (e : CoreExpr). Some (expr_type e)) (same_Some (core_expr.ConstPrim ty (sym_of types.syms name)) x h)

-- the inner expression of a `let`
record IsLet (inner : Option CoreExpr) (x : CoreExpr) : Type 0 where
  expr : CoreExpr
  there : inner ≡ Some expr
  same : expr_type expr ≡ expr_type x

let_owned : (bindings : Option LetBindings) (inner : Option CoreExpr) (x : CoreExpr) → let_tree bindings inner ≡ Some x → IsLet inner x
let_owned None inner x h = absurd cc
let_owned (Some bs) None x h = absurd cc
let_owned (Some bs) (Some e) x h = record { expr = e; there = refl; same = ap expr_type (same_Some (core_expr.Let (expr_type e) bs e) x h) }

-- ---- expressions

pub type_is : (w : Whole) (xs ys : List Local) (next : ℕ) (e : Expr) (x : CoreExpr) → AreAlike xs ys → (expr_pass w xs next None e).tree ≡ Some x → own_type w ys e ≡ Some (expr_type x)
type_is w xs ys next (tree.Number n) x alike h = absurd cc
type_is w xs ys next (tree.Fact b) x alike h = ap (λ (e : CoreExpr). Some (expr_type e)) (same_Some (core_expr.ConstBool b) x h)
type_is w xs ys next (tree.Name name) x alike h =
    let found = local_named xs name in
    sym (alike name) ∙ local_owned found x (unconverted w (known_type found) (local_tree found) x h)
type_is w xs ys next (tree.Call name es) x alike h =
    let of = ret_type w (termed w name) in
    let made = call_tree of (term_named (terms w.defs) name) (exprs_pass w xs next (arg_types w (termed w name)) es).trees in
    call_owned of (term_named (terms w.defs) name) (exprs_pass w xs next (arg_types w (termed w name)) es).trees x (unconverted w of made x h)
type_is w xs ys next (tree.Constant name) x alike h =
    let of = constant_type w name in
    constant_owned w.types of name x (unconverted w of (constant_tree w.types of name) x h)
type_is w xs ys next (tree.Let ls inner) x alike h =
    let bound = lets_pass w xs next ls in
    let l = let_owned bound.trees (expr_pass w bound.locals bound.next None inner).tree x h in
    type_is w bound.locals (typed_lets w ys ls) bound.next inner l.expr (lets_alike w xs ys next ls alike) l.there ∙ ap Some l.same

-- ---- variables one after the other

-- the variables from the i-th on after these
abbrev pub typed_left : Whole → List Local → List AstLet → ℕ → List Local
typed_left w locals ls i = typed_lets w locals (lets_of (map binding (drop i ls)))

-- one variable more
pub typed_more : (w : Whole) (all : List Local) (ls : List AstLet) (i : ℕ) (now new : Bound) (l d : AstLet) (ty : Option TypeId) → i < length ls → l ≡ get_or ls i d → ty ≡ type_named w.defs l.ty → new ≡ record { patterns = now.patterns; lets = bound_local now.lets l.var ty 0; next = now.next }
    → all ≡ typed_left w (locals_of now) ls i → all ≡ typed_left w (locals_of new) ls (i + 1)
typed_more w all ls i now new l d ty lt is of step h =
    let others = map binding (drop (i + 1) ls) in
    let bound : locals_of new ≡ bound_local (locals_of now) l.var ty 0 = joined_locals now new l.var ty 0 (ap (λ (b : Bound). b.patterns) step) (ap (λ (b : Bound). b.lets) step) in
    h ∙ ap (λ xs. typed_lets w (locals_of now) (lets_of (map binding xs))) (drop_more ls i d lt ∙ ap (λ y. y ∷ drop (i + 1) ls) (sym is))
    ∙ ap (λ b. typed_lets w (locals_of now) (lets_of (b ∷ others))) (let-parts l)
    ∙ ap (λ o. typed_lets w (bound_local (locals_of now) l.var o 0) (lets_of others)) (sym of)
    ∙ ap (λ xs. typed_lets w xs (lets_of others)) (sym bound)

-- after the last
pub typed_all : (w : Whole) (all : List Local) (ls : List AstLet) (i : ℕ) (now : Bound) → length ls ≤ i → all ≡ typed_left w (locals_of now) ls i → locals_of now ≡ all
typed_all w all ls i now le h = sym (h ∙ ap (λ xs. typed_lets w (locals_of now) (lets_of (map binding xs))) (drop_all i ls le))
