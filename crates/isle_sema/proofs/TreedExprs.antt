-- An expression whose parts break no row has a tree, over variables that have types.
use Rattle.std.proofs.Common.{◌≡◌, ℕ, suc, Bool, true, false, cond, List, [], ◌∷◌, ◌++◌, Option, Some, None, refl, sym, ap, ◌∙◌}
use Rattle.std.specs.Prelude.{ℤ, not, is_some, option_map}
use Rattle.std.specs.List.{list_any}
use Rattle.std.specs.Str.{bytes_eq}
use Rattle.std.proofs.lemmas.Bool.{or_parts, not-false}
use Rattle.std.proofs.lemmas.Option.{same_Some}
use Rattle.isle_core.specs.declared.TermId.{TermId}
use Rattle.isle_core.specs.declared.TypeId.{TypeId}
use Rattle.isle_core.specs.declared.VarId.{VarId}
use Rattle.isle_core.specs.Expr as core_expr
use Rattle.isle_core.specs.Expr.{Expr as CoreExpr, Exprs as CoreExprs, NoExpr as CoreNoExpr, AnExpr as CoreAnExpr, LetBindings, NoBinding, ABinding}
use Rattle.isle_ast.specs.Tree as tree
use Rattle.isle_ast.specs.Tree.{Expr, Exprs, NoExpr, AnExpr, Lets, NoLet, ALet}
use Rattle.isle_declarations.specs.Signatures.{Signature, term_named}
use Rattle.isle_declarations.specs.Symbols.{sym_of}
use Rattle.isle_declarations.specs.Terms.{terms}
use Rattle.isle_terms.specs.Locals.{local_named, of_patterns, bound_local}
use Rattle.isle_terms.specs.Scope.{Local, Scope, is_blank, local_type}
use Rattle.isle_terms.proofs.LocalLaws.{one_named, latest_found}
use Rattle.isle_terms.proofs.ScopeLaws.{known_local, found_there}
use Rattle.isle_terms.specs.Converters.{conversion, within}
use Rattle.isle_terms.specs.Expected.{takes_integers}
use Rattle.isle_terms.specs.TypeNames.{type_named}
use Rattle.isle_terms.specs.Whole.{Whole, termed, arg_types, ret_type, number_of, constant_type}
use Rattle.isle_sema.specs.ExprPass.{ExprPass, ExprsPass, LetsPass, known_type, local_tree, constant_tree, call_tree, expr_within, called_by, expr_before, binding_tree, binding_before, expr_type, let_tree, count_of, expr_pass, exprs_pass, lets_pass}
use Rattle.isle_sema.specs.PatternPass.{first_expected, later_expected}
use Rattle.isle_sema.specs.RuleRows.{is_misplaced, is_undeclared, is_unknown, is_mistyped}
use Rattle.isle_sema.specs.Site.{Site, IntegerAt, PartAt, UsedAt, CalledAt, ConstantAt, BoundAt}
use Rattle.isle_sema.proofs.Firsts.{any_parts}
use Rattle.isle_sema.proofs.TreedPatterns.{KnowsTypes, numbered, conversion_termed, integer_given, AreTypedIn}

-- ---- parts of expressions

-- parts of expressions that break no row
pub record AreUsedWell (w : Whole) (sites : List Site) : Type 0 where
  pub placed : list_any (is_misplaced w) sites ≡ false
  pub known : list_any (is_unknown w) sites ≡ false
  pub typed : list_any (is_mistyped w) sites ≡ false
  pub declared : list_any is_undeclared sites ≡ false

-- so of the first ones and of the others
pub used_parts : (w : Whole) (xs ys : List Site) → AreUsedWell w (xs ++ ys) → AreUsedWell w xs × AreUsedWell w ys
used_parts w xs ys h =
    let a = any_parts (is_misplaced w) xs ys h.placed in
    let b = any_parts (is_unknown w) xs ys h.known in
    let c = any_parts (is_mistyped w) xs ys h.typed in
    let d = any_parts is_undeclared xs ys h.declared in
    (record { placed = a.0; known = b.0; typed = c.0; declared = d.0 }, record { placed = a.1; known = b.1; typed = c.1; declared = d.1 })

-- ---- variables

-- each variable that a name finds has a type
pub record AreTypedLocals (locals : List Local) : Type 0 where
  pub by : (name : List ℕ) (l : Local) → local_named locals name ≡ Some l → (ty : TypeId) × (l.ty ≡ Some ty)

-- so of those of patterns
pub patterns_typed : (scope : Scope) → AreTypedIn scope → AreTypedLocals (of_patterns scope)
patterns_typed scope h = record { by = λ name l e. h.by l (found_there scope.variables name l (sym (latest_found scope.variables name) ∙ e)) }

-- and with one of a `let` more, at a type
bound_typed : (locals : List Local) (name : List ℕ) (of : Option TypeId) (ty : TypeId) (number : ℕ) → of ≡ Some ty → AreTypedLocals locals → AreTypedLocals (bound_local locals name of number)
bound_typed locals name of ty number is h = by (is_blank name)
  where
    new : Local
    new = record { name = name; ty = of; number = number }

    first : (b : Bool) (l : Local) (found : Option Local) → (found ≡ Some l → (t : TypeId) × (l.ty ≡ Some t)) → cond b (Some new) found ≡ Some l → (t : TypeId) × (l.ty ≡ Some t)
    first true l found rest e = (ty, ap (λ (x : Local). x.ty) (sym (same_Some new l e)) ∙ is)
    first false l found rest e = rest e

    by : (b : Bool) → AreTypedLocals (cond b locals (locals ++ new ∷ []))
    by true = h
    by false = record { by = λ other l e. first (bytes_eq name other) l (local_named locals other) (h.by other l) (sym (one_named locals new other) ∙ e) }

-- a variable that is bound has a tree
variable_treed : (locals : List Local) (name : List ℕ) (o : Option Local) → local_named locals name ≡ o → AreTypedLocals locals → not (is_some (local_type o)) ≡ false → (x : CoreExpr) × (local_tree o ≡ Some x)
variable_treed locals name None is typed h = absurd cc
variable_treed locals name (Some l) is typed h =
    let t = typed.by name l is in
    (core_expr.Var t.0 (record { 0 = l.number }), ap (option_map (λ (v : TypeId × VarId). core_expr.Var v.0 v.1)) (known_local (Some l) l t.0 refl t.1))

-- ---- trees of parts

call_there : (of : Option TypeId) (term : Option TermId) (es : Option CoreExprs) (ty : TypeId) (n : TermId) (xs : CoreExprs) → of ≡ Some ty → term ≡ Some n → es ≡ Some xs → call_tree of term es ≡ Some (core_expr.Term ty n xs)
call_there of term es ty n xs a b c = ap (λ o. call_tree o term es) a ∙ ap (λ o. call_tree (Some ty) o es) b ∙ ap (λ o. call_tree (Some ty) (Some n) o) c

-- an expression has a tree
pub record IsTreedExpr (p : ExprPass) : Type 0 where
  pub tree : CoreExpr
  pub is : p.tree ≡ Some tree

-- so have expressions in order
record AreTreedExprs (p : ExprsPass) : Type 0 where
  trees : CoreExprs
  are : p.trees ≡ Some trees

-- and those of a `let`, and each variable after them has a type
record AreTreedLets (p : LetsPass) : Type 0 where
  trees : LetBindings
  are : p.trees ≡ Some trees
  after : AreTypedLocals p.locals

-- a call has a tree if its arguments have
call_treed : (w : Whole) (expected : Option TypeId) (name : List ℕ) (count : ℕ) (o : Option Signature) (args : ExprsPass) → KnowsTypes w → termed w name ≡ o → AreUsedWell w (CalledAt expected o count ∷ []) → AreTreedExprs args
    → (x : CoreExpr) × (call_tree (ret_type w o) (term_named (terms w.defs) name) args.trees ≡ Some x)
call_treed w expected name count None args knows is well have = absurd cc
call_treed w expected name count (Some s) args knows is well have =
    let t = knows.typed name s is in
    let n = numbered (terms w.defs) name s is in
    (core_expr.Term t.ret n.0 have.trees, call_there (type_named w.defs s.ret) (term_named (terms w.defs) name) args.trees t.ret n.0 have.trees t.ret_is n.1 have.are)

-- an expression has a tree within a converter too
within_treed : (w : Whole) (of expected : Option TypeId) (by : Option Signature) (e : Option CoreExpr) (x : CoreExpr) → KnowsTypes w → conversion w of expected ≡ by → e ≡ Some x → (y : CoreExpr) × (expr_within w by e ≡ Some y)
within_treed w of expected None e x knows is h = (x, h)
within_treed w of expected (Some s) e x knows is h =
    let there = conversion_termed w of expected s is in
    let t = knows.typed s.term s there in
    let n = numbered (terms w.defs) s.term s there in
    let one : CoreExpr → CoreExprs = λ y. CoreAnExpr y CoreNoExpr in
    (core_expr.Term t.ret n.0 (one x), call_there (ret_type w (Some s)) (number_of w (Some s)) (option_map one e) t.ret n.0 (one x) t.ret_is n.1 (ap (option_map one) h))

-- a constant that is declared has a tree
constant_treed : (w : Whole) (name : List ℕ) (of : Option TypeId) → not (is_some of) ≡ false → (x : CoreExpr) × (constant_tree w.types of name ≡ Some x)
constant_treed w name None h = absurd cc
constant_treed w name (Some ty) h = (core_expr.ConstPrim ty (sym_of w.types.syms name), refl)

-- an integer has a tree where integers may stand
integer_treed : (w : Whole) (expected : Option TypeId) (n : ℤ) → takes_integers w.types expected ≡ true → IsTreedExpr (expr_pass w [] 0 expected (tree.Number n))
integer_treed w None n h = absurd cc
integer_treed w (Some ty) n h =
    let v = integer_given w.types ty n h in
    record { tree = core_expr.ConstInt v.0.0 v.0.1; is = ap (option_map (λ (x : TypeId × ℤ). core_expr.ConstInt x.0 x.1)) v.1 }

-- the type of a variable is declared
type_there : (w : Whole) (of : Option TypeId) → AreUsedWell w (BoundAt of ∷ []) → (ty : TypeId) × (of ≡ Some ty)
type_there w None well = absurd cc
type_there w (Some ty) well = (ty, refl)

exprs_there : (first : Option CoreExpr) (rest : Option CoreExprs) (x : CoreExpr) (xs : CoreExprs) → first ≡ Some x → rest ≡ Some xs → expr_before first rest ≡ Some (CoreAnExpr x xs)
exprs_there first rest x xs a b = ap (λ o. expr_before o rest) a ∙ ap (expr_before (Some x)) b

lets_there : (number : ℕ) (of : Option TypeId) (value : Option CoreExpr) (rest : Option LetBindings) (ty : TypeId) (x : CoreExpr) (bs : LetBindings) → of ≡ Some ty → value ≡ Some x → rest ≡ Some bs
    → binding_before (binding_tree number of value) rest ≡ Some (ABinding (record { 0 = number }) ty x bs)
lets_there number of value rest ty x bs a b c = ap (λ o. binding_before (binding_tree number o value) rest) a ∙ ap (λ o. binding_before (binding_tree number (Some ty) o) rest) b ∙ ap (binding_before (binding_tree number (Some ty) (Some x))) c

-- ---- expressions

mutual
  -- an expression has a tree, whatever is expected
  pub expr_treed : (w : Whole) (locals : List Local) (next : ℕ) (expected : Option TypeId) (e : Expr) → KnowsTypes w → AreTypedLocals locals → AreUsedWell w (expr_pass w locals next expected e).sites → IsTreedExpr (expr_pass w locals next expected e)
  expr_treed w locals next expected (tree.Number n) knows typed well =
      let takes = not-false (takes_integers w.types expected) (or_parts (is_misplaced w (IntegerAt expected)) false well.placed).0 in
      let k = integer_treed w expected n takes in
      record { tree = k.tree; is = k.is }
  expr_treed w locals next expected (tree.Fact b) knows typed well = record { tree = core_expr.ConstBool b; is = refl }
  expr_treed w locals next expected (tree.Name name) knows typed well =
      let found = local_named locals name in
      let of = known_type found in
      let by = conversion w of expected in
      let own = (used_parts w (called_by by expected) (UsedAt (within by of expected) (local_type found) ∷ []) well).1 in
      let v = variable_treed locals name found refl typed (or_parts (not (is_some (local_type found))) false own.known).0 in
      let x = within_treed w of expected by (local_tree found) v.0 knows refl v.1 in
      record { tree = x.0; is = x.1 }
  expr_treed w locals next expected (tree.Call name es) knows typed well =
      let o = termed w name in
      let of = ret_type w o in
      let by = conversion w of expected in
      let args = exprs_pass w locals next (arg_types w o) es in
      let own = (used_parts w (called_by by expected) (CalledAt (within by of expected) o (count_of es) ∷ args.sites) well).1 in
      let k = used_parts w (CalledAt (within by of expected) o (count_of es) ∷ []) args.sites own in
      let c = call_treed w (within by of expected) name (count_of es) o args knows refl k.0 (exprs_treed w locals next (arg_types w o) es knows typed k.1) in
      let x = within_treed w of expected by (call_tree of (term_named (terms w.defs) name) args.trees) c.0 knows refl c.1 in
      record { tree = x.0; is = x.1 }
  expr_treed w locals next expected (tree.Constant name) knows typed well =
      let of = constant_type w name in
      let by = conversion w of expected in
      let own = (used_parts w (called_by by expected) (ConstantAt false (within by of expected) of ∷ []) well).1 in
      let c = constant_treed w name of (or_parts (not (is_some of)) false own.declared).0 in
      let x = within_treed w of expected by (constant_tree w.types of name) c.0 knows refl c.1 in
      record { tree = x.0; is = x.1 }
  expr_treed w locals next expected (tree.Let ls inner) knows typed well =
      let bound = lets_pass w locals next ls in
      let result = expr_pass w bound.locals bound.next expected inner in
      let k = used_parts w (PartAt ∷ bound.sites) result.sites well in
      let bs = lets_treed w locals next ls knows typed (used_parts w (PartAt ∷ []) bound.sites k.0).1 in
      let e = expr_treed w bound.locals bound.next expected inner knows bs.after k.1 in
      record { tree = core_expr.Let (expr_type e.tree) bs.trees e.tree; is = ap (λ o. let_tree o result.tree) bs.are ∙ ap (let_tree (Some bs.trees)) e.is }

  -- so have expressions in order
  exprs_treed : (w : Whole) (locals : List Local) (next : ℕ) (expected : List (Option TypeId)) (es : Exprs) → KnowsTypes w → AreTypedLocals locals → AreUsedWell w (exprs_pass w locals next expected es).sites → AreTreedExprs (exprs_pass w locals next expected es)
  exprs_treed w locals next expected NoExpr knows typed well = record { trees = CoreNoExpr; are = refl }
  exprs_treed w locals next expected (AnExpr e es) knows typed well =
      let one = expr_pass w locals next (first_expected expected) e in
      let rest = exprs_pass w locals one.next (later_expected expected) es in
      let k = used_parts w one.sites rest.sites well in
      let first = expr_treed w locals next (first_expected expected) e knows typed k.0 in
      let others = exprs_treed w locals one.next (later_expected expected) es knows typed k.1 in
      record { trees = CoreAnExpr first.tree others.trees; are = exprs_there one.tree rest.trees first.tree others.trees first.is others.are }

  -- and the variables of a `let`
  lets_treed : (w : Whole) (locals : List Local) (next : ℕ) (ls : Lets) → KnowsTypes w → AreTypedLocals locals → AreUsedWell w (lets_pass w locals next ls).sites → AreTreedLets (lets_pass w locals next ls)
  lets_treed w locals next NoLet knows typed well = record { trees = NoBinding; are = refl; after = typed }
  lets_treed w locals next (ALet var ty e ls) knows typed well =
      let of = type_named w.defs ty in
      let value = expr_pass w locals (suc next) of e in
      let more = bound_local locals var of next in
      let rest = lets_pass w more value.next ls in
      let a = used_parts w (BoundAt of ∷ []) (value.sites ++ rest.sites) well in
      let b = used_parts w value.sites rest.sites a.1 in
      let t = type_there w of a.0 in
      let x = expr_treed w locals (suc next) of e knows typed b.0 in
      let others = lets_treed w more value.next ls knows (bound_typed locals var of t.0 next t.1 typed) b.1 in
      record { trees = ABinding (record { 0 = next }) t.0 x.tree others.trees; are = lets_there next of value.tree rest.trees t.0 x.tree others.trees t.1 x.is others.are; after = others.after }
