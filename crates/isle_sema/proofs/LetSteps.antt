-- The variables of a `let`, one after the other, and a `let` as a whole.
use Rattle.std.proofs.Common.{◌≡◌, ℕ, suc, ◌+◌, ◌<◌, ◌≤◌, Bool, true, false, cond, List, [], ◌∷◌, ◌++◌, length, map, take, get_or, Option, Some, None, Result, Ok, Err, refl, sym, ap, ◌∙◌, subst}
use Rattle.std.specs.Global.{Vec}
use Rattle.std.specs.Prelude.{drop, option_map, IfOk}
use Rattle.std.proofs.lemmas.List.{drop_all, drop_more, map-append}
use Rattle.std.proofs.lemmas.List.Sums.{fold-append}
use Rattle.isle_core.specs.declared.TypeId.{TypeId}
use Rattle.isle_core.specs.declared.rules.Expr.{Expr as CodeExpr}
use Rattle.isle_core.specs.declared.rules.LetBinding.{LetBinding}
use Rattle.isle_core.specs.Expr.{LetBindings, NoBinding, ABinding}
use Rattle.isle_core.specs.RuleViews.{expr as elaborated_expr, SeenBinding, bindings_of}
use Rattle.isle_ast.specs.declared.tree.AstLet.{AstLet}
use Rattle.isle_ast.specs.Tree as tree
use Rattle.isle_ast.specs.Tree.{Def, Lets}
use Rattle.isle_ast.specs.Views.{expr, lets_of}
use Rattle.isle_ast.proofs.Sees.{let-parts}
use Rattle.isle_declarations.specs.Bindings.{binding}
use Rattle.isle_terms.specs.declared.judged.Judged.{Judged}
use Rattle.isle_sema.specs.ElaboratedAt.{seen_binding, binding_trees, IsExprAt, IsBindingAt, AreBindingsAt}
use Rattle.isle_terms.specs.Whole.{whole_of}
use Rattle.isle_sema.specs.ExprPass.{ExprPass, LetsPass, binding_tree, binding_before, let_tree, expr_pass, lets_pass}
use Rattle.isle_sema.specs.Judging.{judge, judge_all}
use Rattle.isle_terms.specs.Locals.{Bound, bound_local, locals_of}
use Rattle.isle_terms.specs.Scope.{Local}
use Rattle.isle_sema.specs.Site.{Site, PartAt, BoundAt}
use Rattle.isle_terms.specs.TypeNames.{type_named}
use Rattle.isle_terms.specs.Whole.{Whole}
use Rattle.isle_terms.proofs.LocalLaws.{joined_locals, outer_stays}

-- ---- trees in order

-- a list of variables before others
abbrev all_before : List SeenBinding → LetBindings → LetBindings
all_before [] bs = bs
all_before (x ∷ xs) bs = ABinding x.0 x.1 x.2 (all_before xs bs)

-- variables before others
abbrev pub bindings_before : List SeenBinding → Option LetBindings → Option LetBindings
bindings_before xs o = option_map (all_before xs) o

all_more : (xs : List SeenBinding) (x : SeenBinding) (bs : LetBindings) → all_before xs (ABinding x.0 x.1 x.2 bs) ≡ all_before (xs ++ x ∷ []) bs
all_more [] x bs = refl
all_more (first ∷ xs) x bs = ap (ABinding first.0 first.1 first.2) (all_more xs x bs)

all_end : (xs : List SeenBinding) → all_before xs NoBinding ≡ bindings_of xs
all_end [] = refl
all_end (x ∷ xs) = ap (ABinding x.0 x.1 x.2) (all_end xs)

one_binding : (xs : List SeenBinding) (x : SeenBinding) (o : Option LetBindings) → bindings_before xs (binding_before (Some x) o) ≡ bindings_before (xs ++ x ∷ []) o
one_binding xs x None = refl
one_binding xs x (Some r) = ap Some (all_more xs x r)

nothing_there : {X : Type 0} (b : Bool) (o : Option X) → o ≡ None → cond b o None ≡ None
nothing_there true o h = h
nothing_there false o h = refl

-- a variable with a tree
pub binding_more : (typed more : List LetBinding) (x : LetBinding) (complete : Bool) (o : Option SeenBinding) → more ≡ typed ++ x ∷ [] → Some (seen_binding x) ≡ o → (rest : Option LetBindings)
    → cond complete (bindings_before (map seen_binding typed) (binding_before o rest)) None ≡ cond complete (bindings_before (map seen_binding more) rest) None
binding_more typed more x complete o added is rest =
    ap (λ y. cond complete (bindings_before (map seen_binding typed) (binding_before y rest)) None) (sym is)
    ∙ ap (λ y. cond complete y None) (one_binding (map seen_binding typed) (seen_binding x) rest ∙ ap (λ ys. bindings_before ys rest) (sym (map-append seen_binding typed (x ∷ [])) ∙ ap (map seen_binding) (sym added)))

-- a variable without one
pub binding_missing : (typed : List LetBinding) (complete : Bool) (o : Option SeenBinding) → None ≡ o → (rest : Option LetBindings)
    → cond complete (bindings_before (map seen_binding typed) (binding_before o rest)) None ≡ cond false (bindings_before (map seen_binding typed) rest) None
binding_missing typed complete o is rest = ap (λ y. cond complete (bindings_before (map seen_binding typed) (binding_before y rest)) None) (sym is) ∙ nothing_there complete (bindings_before (map seen_binding typed) (binding_before None rest)) refl

-- two tests of one value
pub same_bindings : (a b : Bool) (xs : List SeenBinding) (rest : Option LetBindings) → a ≡ b → cond a (bindings_before xs rest) None ≡ cond b (bindings_before xs rest) None
same_bindings a b xs rest h = ap (λ c. cond c (bindings_before xs rest) None) h

-- ---- variables in order

-- the variables from the i-th on
abbrev pub lets_left : List Def → List Local → ℕ → List AstLet → ℕ → LetsPass
lets_left defs locals next ls i = lets_pass (whole_of defs) locals next (lets_of (map binding (drop i ls)))

-- what all variables come to is what was made and what is left
pub record LetsMade (defs : List Def) (all left : LetsPass) (first now : Judged) (typed : List LetBinding) (complete : Bool) : Type 0 where
  pub trees : all.trees ≡ cond complete (bindings_before (map seen_binding typed) left.trees) None
  pub locals : all.locals ≡ left.locals
  pub next : all.next ≡ left.next
  pub sites : judge_all (whole_of defs) first all.sites ≡ judge_all (whole_of defs) now left.sites

-- a variable and the rest
abbrev lets_joined : Option SeenBinding → List Site → LetsPass → LetsPass
lets_joined first sites rest = record { trees = binding_before first rest.trees; locals = rest.locals; next = rest.next; sites = sites ++ rest.sites }

-- a variable's value
abbrev value_pass : List Def → List Local → ℕ → AstLet → ExprPass
value_pass defs locals next l = expr_pass (whole_of defs) locals (suc next) (type_named defs l.ty) (expr l.val)

lets_are : (defs : List Def) (locals : List Local) (next : ℕ) (ls : List AstLet) (i : ℕ) (l d : AstLet) → i < length ls → l ≡ get_or ls i d
    → lets_left defs locals next ls i
    ≡ lets_joined (binding_tree next (type_named defs l.ty) (value_pass defs locals next l).tree) (BoundAt (type_named defs l.ty) ∷ (value_pass defs locals next l).sites) (lets_left defs (bound_local locals l.var (type_named defs l.ty) next) (value_pass defs locals next l).next ls (i + 1))
lets_are defs locals next ls i l d lt is =
    let w = whole_of defs in
    let others = map binding (drop (i + 1) ls) in
    ap (λ xs. lets_pass w locals next (lets_of (map binding xs))) (drop_more ls i d lt ∙ ap (λ y. y ∷ drop (i + 1) ls) (sym is))
    ∙ ap (λ b. lets_pass w locals next (lets_of (b ∷ others))) (let-parts l)

-- the same at the variables that are in scope
pub record AreLetsMade (defs : List Def) (ls : List AstLet) (i : ℕ) (start now : Bound) (first judged : Judged) (typed : List LetBinding) (complete : Bool) : Type 0 where
  pub made : LetsMade defs (lets_pass (whole_of defs) (locals_of start) start.next (lets_of (map binding ls))) (lets_left defs (locals_of now) now.next ls i) first judged typed complete
  pub patterns : now.patterns ≡ start.patterns
  pub outer : take (length start.lets) now.lets ≡ start.lets

-- one variable more
pub lets_more : (defs : List Def) (ls : List AstLet) (i : ℕ) (start now new : Bound) (first judged after : Judged) (typed more : List LetBinding) (complete whole : Bool) (l d : AstLet) (found : Option LetBinding)
    → i < length ls → l ≡ get_or ls i d → IsBindingAt (whole_of defs) l.var l.ty (expr l.val) now new judged after found
    → ((rest : Option LetBindings) → cond complete (bindings_before (map seen_binding typed) (binding_before (option_map seen_binding found) rest)) None ≡ cond whole (bindings_before (map seen_binding more) rest) None)
    → AreLetsMade defs ls i start now first judged typed complete → AreLetsMade defs ls (i + 1) start new first after more whole
lets_more defs ls i start now new first judged after typed more complete whole l d found lt is k tree h =
    let w = whole_of defs in
    let of = type_named defs l.ty in
    let value = value_pass defs (locals_of now) now.next l in
    let one : List Site = BoundAt of ∷ value.sites in
    let all = lets_pass w (locals_of start) start.next (lets_of (map binding ls)) in
    let rest = lets_left defs (bound_local (locals_of now) l.var of now.next) value.next ls (i + 1) in
    let step = lets_are defs (locals_of now) now.next ls i l d lt is in
    let made : LetsMade defs all rest first after more whole = record {
      trees = h.made.trees ∙ ap (λ (x : LetsPass). cond complete (bindings_before (map seen_binding typed) x.trees) None) step ∙ ap (λ o. cond complete (bindings_before (map seen_binding typed) (binding_before o rest.trees)) None) (sym k.tree) ∙ tree rest.trees;
      locals = h.made.locals ∙ ap (λ (x : LetsPass). x.locals) step;
      next = h.made.next ∙ ap (λ (x : LetsPass). x.next) step;
      sites = h.made.sites ∙ ap (λ (x : LetsPass). judge_all w judged x.sites) step ∙ fold-append (judge w) judged one rest.sites ∙ ap (λ (j : Judged). judge_all w j rest.sites) (sym k.sites);
    } in
    let bound = joined_locals now new l.var of now.next k.patterns k.lets in
    record {
      made = subst (λ (ns : List Local × ℕ). LetsMade defs all (lets_left defs ns.0 ns.1 ls (i + 1)) first after more whole) (ap (λ (xs : List Local). (xs, value.next)) (sym bound) ∙ ap (λ (n : ℕ). (locals_of new, n)) (sym k.next)) made;
      patterns = k.patterns ∙ h.patterns;
      outer = ap (take (length start.lets)) k.lets ∙ outer_stays start.lets now.lets l.var of now.next h.outer;
    }

-- after the last
pub lets_all : (defs : List Def) (ls : List AstLet) (i : ℕ) (start now : Bound) (first judged : Judged) (typed : List LetBinding) (complete : Bool) (found : Option (Vec LetBinding)) → length ls ≤ i
    → binding_trees found ≡ cond complete (Some (bindings_of (map seen_binding typed))) None → AreLetsMade defs ls i start now first judged typed complete → AreBindingsAt (whole_of defs) (lets_of (map binding ls)) start now first judged found
lets_all defs ls i start now first judged typed complete found le is h =
    let none : lets_left defs (locals_of now) now.next ls i ≡ record { trees = Some NoBinding; locals = locals_of now; next = now.next; sites = [] } =
    ap (λ xs. lets_pass (whole_of defs) (locals_of now) now.next (lets_of (map binding xs))) (drop_all i ls le) in
    record {
      trees = is ∙ sym (h.made.trees ∙ ap (λ (x : LetsPass). cond complete (bindings_before (map seen_binding typed) x.trees) None) none ∙ ap (λ xs. cond complete (Some xs) None) (all_end (map seen_binding typed)));
      patterns = h.patterns;
      outer = h.outer;
      locals = sym (h.made.locals ∙ ap (λ (x : LetsPass). x.locals) none);
      next = sym (h.made.next ∙ ap (λ (x : LetsPass). x.next) none);
      sites = sym (h.made.sites ∙ ap (λ (x : LetsPass). judge_all (whole_of defs) judged x.sites) none);
    }

-- ---- one variable

-- a variable whose value is passed after its number, and which joins those in scope
pub binding_made : (w : Whole) (var ty : List ℕ) (e : tree.Expr) (of : Option TypeId) (old numbered valued new : Bound) (number : ℕ) (before bound after : Judged) (value : Option CodeExpr) (found : Option LetBinding)
    → of ≡ type_named w.defs ty → bound ≡ judge w before (BoundAt of) → number ≡ old.next → numbered ≡ record { patterns = old.patterns; lets = old.lets; next = suc old.next } → IsExprAt w of e numbered valued bound after value
    → new ≡ record { patterns = valued.patterns; lets = bound_local valued.lets var of number; next = valued.next } → option_map seen_binding found ≡ binding_tree number of (option_map elaborated_expr value) → IsBindingAt w var ty e old new before after found
binding_made w var ty e of old numbered valued new number before bound after value found of_is judged is step k joins tree =
    let pass : Option TypeId → ExprPass = λ o. expr_pass w (locals_of old) (suc old.next) o e in
    let same : expr_pass w (locals_of numbered) numbered.next of e ≡ pass (type_named w.defs ty) = ap (λ (b : Bound). expr_pass w (locals_of b) b.next of e) step ∙ ap pass of_is in
    record {
      tree = tree ∙ ap (λ n. binding_tree n of (option_map elaborated_expr value)) is ∙ ap (λ o. binding_tree old.next o (option_map elaborated_expr value)) of_is
          ∙ ap (binding_tree old.next (type_named w.defs ty)) (k.tree ∙ ap (λ (x : ExprPass). x.tree) same);
      patterns = ap (λ (b : Bound). b.patterns) joins ∙ k.patterns ∙ ap (λ (b : Bound). b.patterns) step;
      lets = ap (λ (b : Bound). b.lets) joins ∙ ap (λ (ls : List Local). bound_local ls var of number) (k.lets ∙ ap (λ (b : Bound). b.lets) step) ∙ ap (λ o. bound_local old.lets var o number) of_is ∙ ap (bound_local old.lets var (type_named w.defs ty)) is;
      next = ap (λ (b : Bound). b.next) joins ∙ k.next ∙ ap (λ (x : ExprPass). x.next) same;
      sites = k.sites ∙ ap (λ (x : ExprPass). judge_all w bound x.sites) same ∙ ap (λ (j : Judged). judge_all w j (pass (type_named w.defs ty)).sites) (judged ∙ ap (λ o. judge w before (BoundAt o)) of_is);
    }

-- ---- a `let`

let_made : (w : Whole) (expected : Option TypeId) (ls : Lets) (inner : tree.Expr) (old bound valued new : Bound) (before part mid after : Judged) (bindings : Option (Vec LetBinding)) (value found : Option CodeExpr)
    → part ≡ judge w before PartAt → AreBindingsAt w ls old bound part mid bindings → IsExprAt w expected inner bound valued mid after value
    → new ≡ record { patterns = valued.patterns; lets = take (length old.lets) valued.lets; next = valued.next } → option_map elaborated_expr found ≡ let_tree (binding_trees bindings) (option_map elaborated_expr value) → IsExprAt w expected (tree.Let ls inner) old new before after found
let_made w expected ls inner old bound valued new before part mid after bindings value found judged b k leaves tree =
    let pass = lets_pass w (locals_of old) old.next ls in
    let same : expr_pass w (locals_of bound) bound.next expected inner ≡ expr_pass w pass.locals pass.next expected inner =
    ap (λ (xs : List Local). expr_pass w xs bound.next expected inner) b.locals ∙ ap (λ n. expr_pass w pass.locals n expected inner) b.next in
    let result = expr_pass w pass.locals pass.next expected inner in
    record {
      tree = tree ∙ ap (λ o. let_tree o (option_map elaborated_expr value)) b.trees ∙ ap (let_tree pass.trees) (k.tree ∙ ap (λ (x : ExprPass). x.tree) same);
      patterns = ap (λ (x : Bound). x.patterns) leaves ∙ k.patterns ∙ b.patterns;
      lets = ap (λ (x : Bound). x.lets) leaves ∙ ap (take (length old.lets)) k.lets ∙ b.outer;
      next = ap (λ (x : Bound). x.next) leaves ∙ k.next ∙ ap (λ (x : ExprPass). x.next) same;
      sites = k.sites ∙ ap (λ (x : ExprPass). judge_all w mid x.sites) same ∙ ap (λ (j : Judged). judge_all w j result.sites) (b.sites ∙ ap (λ (j : Judged). judge_all w j pass.sites) judged)
          ∙ sym (fold-append (judge w) (judge w before PartAt) pass.sites result.sites);
    }

-- so of what the code gives
pub let_given : {E : Type 0} (w : Whole) (expected : Option TypeId) (ls : Lets) (inner e : tree.Expr) (old bound valued new : Bound) (before part mid after : Judged) (bindings : Option (Vec LetBinding)) (value : Option CodeExpr) (result : Result (Option CodeExpr) E)
    → tree.Let ls inner ≡ e → part ≡ judge w before PartAt → AreBindingsAt w ls old bound part mid bindings → IsExprAt w expected inner bound valued mid after value
    → new ≡ record { patterns = valued.patterns; lets = take (length old.lets) valued.lets; next = valued.next } → IfOk result (λ found. option_map elaborated_expr found ≡ let_tree (binding_trees bindings) (option_map elaborated_expr value)) → IfOk result (λ found. IsExprAt w expected e old new before after found)
let_given w expected ls inner e old bound valued new before part mid after bindings value (Ok found) is judged b k leaves made =
    subst (λ (x : tree.Expr). IsExprAt w expected x old new before after found) is (let_made w expected ls inner old bound valued new before part mid after bindings value found judged b k leaves made)
let_given w expected ls inner e old bound valued new before part mid after bindings value (Err x) is judged b k leaves made = made
