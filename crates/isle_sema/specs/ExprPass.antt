-- Expressions of rules: the expected type, the variables and the next number that is free go in; the tree with types in it, the
-- next number after it and the places that the typing table judges come out.
use Rattle.std.specs.Prelude.{ℕ, suc, ℤ, List, [], ◌∷◌, ◌++◌, false, Option, Some, None, option_map, option_and_then}
use Rattle.isle_core.specs.declared.TermId.{TermId}
use Rattle.isle_core.specs.declared.TypeId.{TypeId}
use Rattle.isle_core.specs.declared.VarId.{VarId}
use Rattle.isle_core.specs.declared.types.TypeEnv.{TypeEnv}
use Rattle.isle_core.specs.Expr as core_expr
use Rattle.isle_core.specs.Expr.{Expr as CoreExpr, Exprs as CoreExprs, NoExpr as CoreNoExpr, AnExpr as CoreAnExpr, LetBindings, NoBinding, ABinding}
use Rattle.isle_core.specs.RightSide.{bool_type}
use Rattle.isle_core.specs.RuleViews.{SeenBinding}
use Rattle.isle_ast.specs.Tree as tree
use Rattle.isle_ast.specs.Tree.{Expr, Exprs, NoExpr, AnExpr, Lets, NoLet, ALet}
use Rattle.isle_terms.specs.Reduced.{typed_integer}
use Rattle.isle_declarations.specs.Signatures.{Signature, term_named}
use Rattle.isle_declarations.specs.Symbols.{sym_of}
use Rattle.isle_declarations.specs.Terms.{terms}
use Rattle.isle_terms.specs.Locals.{local_named, bound_local}
use Rattle.isle_terms.specs.Scope.{Local, local_type, typed_local}
use Rattle.isle_sema.specs.Site.{Site, IntegerAt, TruthAt, PartAt, UsedAt, CalledAt, ConstantAt, BoundAt}
use Rattle.isle_terms.specs.Converters.{conversion, within}
use Rattle.isle_terms.specs.TypeNames.{type_named}
use Rattle.isle_terms.specs.Whole.{Whole, termed, arg_types, ret_type, number_of, constant_type}
use Rattle.isle_sema.specs.PatternPass.{first_expected, later_expected}

-- an expression's tree, if its types are known, the next number after it, and its parts
pub record ExprPass : Type 0 where
  pub tree : Option CoreExpr
  pub next : ℕ
  pub sites : List Site

-- expressions in order
pub record ExprsPass : Type 0 where
  pub trees : Option CoreExprs
  pub next : ℕ
  pub sites : List Site

-- the variables of a `let`, and those that are there after them
pub record LetsPass : Type 0 where
  pub trees : Option LetBindings
  pub locals : List Local
  pub next : ℕ
  pub sites : List Site

-- an integer's tree, where this type is expected
abbrev pub integer_tree : TypeEnv → Option TypeId → ℤ → Option CoreExpr
integer_tree types expected n = option_map (λ (v : TypeId × ℤ). core_expr.ConstInt v.0 v.1) (typed_integer types expected n)

-- a variable's tree, if it is bound at a type that is known
abbrev pub local_tree : Option Local → Option CoreExpr
local_tree found = option_map (λ (v : TypeId × VarId). core_expr.Var v.0 v.1) (typed_local found)

-- a constant's tree, if it is declared
abbrev pub constant_tree : TypeEnv → Option TypeId → List ℕ → Option CoreExpr
constant_tree types ty name = option_map (λ (t : TypeId). core_expr.ConstPrim t (sym_of types.syms name)) ty

-- a call of this type, of this term, on these
abbrev pub call_tree : Option TypeId → Option TermId → Option CoreExprs → Option CoreExpr
call_tree ty term es = option_and_then (λ (t : TypeId). option_and_then (λ (n : TermId). option_map (core_expr.Term t n) es) term) ty

-- the tree of an expression within a converter, if one is inserted
abbrev pub expr_within : Whole → Option Signature → Option CoreExpr → Option CoreExpr
expr_within w None e = e
expr_within w (Some s) e = call_tree (ret_type w (Some s)) (number_of w (Some s)) (option_map (λ (x : CoreExpr). CoreAnExpr x CoreNoExpr) e)

-- what is judged of the converter
abbrev pub called_by : Option Signature → Option TypeId → List Site
called_by None expected = []
called_by (Some s) expected = CalledAt expected (Some s) 1 ∷ []

-- the type that a variable was bound at, if it is known
abbrev pub known_type : Option Local → Option TypeId
known_type found = option_and_then (λ (l : Local). l.ty) found

-- a tree before others, if all are there
abbrev pub expr_before : Option CoreExpr → Option CoreExprs → Option CoreExprs
expr_before None es = None
expr_before (Some e) es = option_map (CoreAnExpr e) es

-- ---- `let`

-- the type of an expression
abbrev pub expr_type : CoreExpr → TypeId
expr_type (core_expr.Term ty term es) = ty
expr_type (core_expr.Var ty x) = ty
expr_type (core_expr.ConstBool b) = bool_type
expr_type (core_expr.ConstInt ty n) = ty
expr_type (core_expr.ConstPrim ty name) = ty
expr_type (core_expr.Let ty bindings inner) = ty

-- a variable of this number with its value, if its type is declared
abbrev pub binding_tree : ℕ → Option TypeId → Option CoreExpr → Option SeenBinding
binding_tree number ty e = option_and_then (λ (t : TypeId). option_map (λ (v : CoreExpr). (record { 0 = number }, t, v)) e) ty

-- a variable before others, if all are there
abbrev pub binding_before : Option SeenBinding → Option LetBindings → Option LetBindings
binding_before None bs = None
binding_before (Some b) bs = option_map (ABinding b.0 b.1 b.2) bs

-- the tree of a `let`, which has the type of its inner expression
abbrev pub let_tree : Option LetBindings → Option CoreExpr → Option CoreExpr
let_tree bindings inner = option_and_then (λ (bs : LetBindings). option_map (λ (e : CoreExpr). core_expr.Let (expr_type e) bs e) inner) bindings

-- ---- expressions

-- how many expressions there are
abbrev pub count_of : Exprs → ℕ
count_of NoExpr = 0
count_of (AnExpr e es) = suc (count_of es)

-- an expression where this is expected; a variable has the type that it was bound at, a constant its own, a call that of its term, each
-- within a converter if another one is expected and a converter fits, and a `let` hands its own on
abbrev mutual
  pub expr_pass : Whole → List Local → (next : ℕ) → Option TypeId → Expr → ExprPass
  expr_pass w locals next expected (tree.Number n) = record { tree = integer_tree w.types expected n; next = next; sites = IntegerAt expected ∷ [] }
  expr_pass w locals next expected (tree.Fact b) = record { tree = Some (core_expr.ConstBool b); next = next; sites = TruthAt expected ∷ [] }
  expr_pass w locals next expected (tree.Name name) =
      let found = local_named locals name in
      let by = conversion w (known_type found) expected in
      record { tree = expr_within w by (local_tree found); next = next; sites = called_by by expected ++ UsedAt (within by (known_type found) expected) (local_type found) ∷ [] }
  expr_pass w locals next expected (tree.Call name es) =
      let of = ret_type w (termed w name) in
      let by = conversion w of expected in
      let args = exprs_pass w locals next (arg_types w (termed w name)) es in
      record {
        tree = expr_within w by (call_tree of (term_named (terms w.defs) name) args.trees);
        next = args.next;
        sites = called_by by expected ++ CalledAt (within by of expected) (termed w name) (count_of es) ∷ args.sites;
      }
  expr_pass w locals next expected (tree.Constant name) =
      let of = constant_type w name in
      let by = conversion w of expected in
      record { tree = expr_within w by (constant_tree w.types of name); next = next; sites = called_by by expected ++ ConstantAt false (within by of expected) of ∷ [] }
  expr_pass w locals next expected (tree.Let ls inner) =
      let bound = lets_pass w locals next ls in
      let result = expr_pass w bound.locals bound.next expected inner in
      record { tree = let_tree bound.trees result.tree; next = result.next; sites = PartAt ∷ bound.sites ++ result.sites }

  -- expressions where these are expected, beyond them nothing
  pub exprs_pass : Whole → List Local → (next : ℕ) → List (Option TypeId) → Exprs → ExprsPass
  exprs_pass w locals next expected NoExpr = record { trees = Some CoreNoExpr; next = next; sites = [] }
  exprs_pass w locals next expected (AnExpr e es) =
      let first = expr_pass w locals next (first_expected expected) e in
      let rest = exprs_pass w locals first.next (later_expected expected) es in
      record { trees = expr_before first.tree rest.trees; next = rest.next; sites = first.sites ++ rest.sites }

  -- the variables of a `let`: each has the next number, before those within its value, and its value may name those before it
  pub lets_pass : Whole → List Local → (next : ℕ) → Lets → LetsPass
  lets_pass w locals next NoLet = record { trees = Some NoBinding; locals = locals; next = next; sites = [] }
  lets_pass w locals next (ALet var ty e ls) =
      let of = type_named w.defs ty in
      let value = expr_pass w locals (suc next) of e in
      let rest = lets_pass w (bound_local locals var of next) value.next ls in
      record { trees = binding_before (binding_tree next of value.tree) rest.trees; locals = rest.locals; next = rest.next; sites = BoundAt of ∷ value.sites ++ rest.sites }
