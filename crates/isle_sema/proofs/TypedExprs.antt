-- Right sides whose parts break no row have the types that are expected, and what typed ones are.
use Rattle.std.proofs.Common.{◌≡◌, ⊎_elim, ℕ, suc, ◌<◌, ◌≤◌, Bool, true, false, cond, List, [], ◌∷◌, ◌++◌, length, map, Option, Some, None, refl, sym, ap, ◌∙◌, subst, arith}
use Rattle.std.specs.Prelude.{ℤ, ◌==◌, ◌&&◌, ◌||◌, not, IsTrue, Contains, option_map, slice_get, IsSomeAnd, is_some}
use Rattle.std.specs.List.{list_any}
use Rattle.std.specs.Str.{bytes_eq}
use Rattle.std.proofs.lemmas.Bool.{or_parts, eqb-true, not-false}
use Rattle.std.proofs.lemmas.List.{length-map}
use Rattle.std.proofs.lemmas.Option.{same_Some}
use Rattle.isle_core.specs.declared.TermId.{TermId}
use Rattle.isle_core.specs.declared.TypeId.{TypeId}
use Rattle.isle_core.specs.declared.VarId.{VarId}
use Rattle.isle_core.specs.declared.types.Term.{Term}
use Rattle.isle_core.specs.declared.types.TermKind.TheVariants as kind
use Rattle.isle_core.specs.declared.types.TypeEnv.{TypeEnv}
use Rattle.isle_core.specs.declared.types.ExtractorKind.{ExtractorKind}
use Rattle.isle_core.specs.CalledTerms.{is_made_kind}
use Rattle.isle_core.specs.Constants.{const_type}
use Rattle.isle_core.specs.Expr as core_expr
use Rattle.isle_core.specs.Expr.{Expr as CoreExpr, Exprs as CoreExprs, LetBindings, NoBinding, ABinding}
use Rattle.isle_core.specs.Rule.{Environment}
use Rattle.isle_core.proofs.Contained.{head_contained, tail_contained, contained_cases}
use Rattle.isle_ast.specs.Tree as tree
use Rattle.isle_ast.specs.Tree.{Expr, Exprs, NoExpr, AnExpr, Lets, NoLet, ALet, Def}
use Rattle.isle_declarations.specs.declared.terms.Origin.{Origin}
use Rattle.isle_declarations.specs.declared.terms.Origin.TheVariants as origin
use Rattle.isle_declarations.specs.Symbols.{sym_of}
use Rattle.isle_declarations.specs.Signatures.{Signature, externs, rule_defs, func_named, has_rule, term_named}
use Rattle.isle_declarations.specs.Terms.{terms, is_made}
use Rattle.isle_types.specs.TypeEnvironment.{type_env_of}
use Rattle.isle_terms.specs.Reduced.{typed_integer}
use Rattle.isle_terms.specs.Locals.{local_named, bound_local}
use Rattle.isle_terms.specs.Scope.{Local, local_type, typed_local}
use Rattle.isle_sema.specs.Site.{Site, TruthAt, UsedAt, CalledAt, ConstantAt, BoundAt}
use Rattle.isle_sema.specs.PatternPass.{first_expected, later_expected}
use Rattle.isle_terms.specs.Scope.{is_blank}
use Rattle.isle_terms.specs.TypeNames.{type_named}
use Rattle.isle_terms.specs.Expected.{takes_truths}
use Rattle.isle_terms.specs.Whole.{Whole, termed, has_constructor, constant_type}
use Rattle.isle_terms.specs.Whole as whole
use Rattle.isle_sema.specs.ExprPass.{LetsPass, count_of, local_tree, known_type, constant_tree, call_tree, expr_within, called_by, expr_before, expr_type, binding_tree, binding_before, let_tree, expr_pass, exprs_pass, lets_pass}
use Rattle.isle_sema.specs.RuleRows.{differ, is_other_type, is_misplaced, is_call_misfit, is_mistyped}
use Rattle.isle_terms.specs.Whole.{whole_of}
use Rattle.isle_terms.specs.TermPass.{constructor_of, extracting_named, kind_from}
use Rattle.isle_terms.specs.Converters.{conversion, within}
use Rattle.isle_sema.proofs.Conversions.{conversion_is}
use Rattle.isle_core.specs.ExprType.{Allowed, IsTermKind, IsExprOf, AreExprsOf, AreBindingsOf}
use Rattle.isle_core.specs.TypedVariables.{let_variables, IsNew}
use Rattle.isle_sema.proofs.KeptParts.{AreKept, kept_parts}
use Rattle.isle_terms.proofs.LocalLaws.{one_named}
use Rattle.isle_terms.proofs.ScopeLaws.{local_is}
use Rattle.isle_sema.proofs.MadeForms.{made_term, constant_typed}
use Rattle.isle_terms.proofs.MadeTerms.{term_made, term_is, types_are}
use Rattle.isle_sema.proofs.RuleRoots.{mapped, signature_at}
use Rattle.isle_sema.proofs.TypedConstants.{integer_typed, truth_typed}
use Rattle.isle_sema.proofs.TypedParts.{IsGivenIn}
use Rattle.isle_sema.proofs.TypedPatterns.{same_type}

-- ---- the kind of a term that is called

allowed_where : (allowed partial : Bool) → not allowed && partial ≡ false → IsTrue partial → IsTrue allowed
allowed_where true partial h is = refl
allowed_where false true h is = cc
allowed_where false false h is = is

-- what calls of a term that may answer nothing, and of one that isn't pure, are allowed
abbrev Fits : Allowed → (pure partial : Bool) → Type 0
Fits allowed pure partial = (IsTrue partial → IsTrue allowed.nothing) × (IsTrue (not pure) → IsTrue allowed.impure)

-- a term that has an external constructor or a rule
declared_kind : (env : Environment) (t : Term) (allowed : Allowed) (pure multi recursive partial has : Bool) (syms : List (List ℕ)) (func : Option (List ℕ)) (how : ExtractorKind) → is_some func || has ≡ true → Fits allowed pure partial
    → IsTermKind env allowed t (kind.Decl pure multi partial recursive (constructor_of syms func has) how)
declared_kind env t allowed pure multi recursive partial has syms (Some func) how some h = h
declared_kind env t allowed pure multi recursive partial true syms None how some h = h
declared_kind env t allowed pure multi recursive partial false syms None how some h = absurd cc

-- a term that has a constructor is made, or has an external one or a rule
kind_typed : (defs : List Def) (env : Environment) (allowed : Allowed) (i : ℕ) (s : Signature) (t : Term) (from : Origin) → IsGivenIn defs env → slice_get env.terms i ≡ Some t → s.origin ≡ from → kind_from (whole_of defs) s t.ret_ty s.origin ≡ t.kind
    → has_constructor (whole_of defs) s ≡ true → not allowed.nothing && s.partial ≡ false → not allowed.impure && not s.pure ≡ false → IsTermKind env allowed t t.kind
kind_typed defs env allowed i s t origin.Declared g at is same has partial impure =
    let func = func_named (externs defs) s.term in
    let ruled = has_rule (rule_defs defs) s.term in
    let either : is_some func || ruled ≡ true = ap (λ o. is_made o || is_some func || ruled) (sym is) ∙ has in
    subst (IsTermKind env allowed t) (ap (kind_from (whole_of defs) s t.ret_ty) (sym is) ∙ same)
    (declared_kind env t allowed s.pure s.multi s.recursive s.partial ruled (type_env_of defs).syms func (extracting_named (whole_of defs) s.term) either (allowed_where allowed.nothing s.partial partial, allowed_where allowed.impure (not s.pure) impure))
kind_typed defs env allowed i s t (origin.Variant number) g at is same has partial impure = made_term defs env i t g g.types_kept at (ap is_made_kind (sym (ap (kind_from (whole_of defs) s t.ret_ty) (sym is) ∙ same))) allowed
kind_typed defs env allowed i s t origin.Struct g at is same has partial impure = made_term defs env i t g g.types_kept at (ap is_made_kind (sym (ap (kind_from (whole_of defs) s t.ret_ty) (sym is) ∙ same))) allowed

-- ---- a call

-- what a call keeps
record IsKeptCall (w : Whole) (allowed : Allowed) (ty : TypeId) (s : Signature) (count : ℕ) : Type 0 where
  many : count ≡ length s.args
  has : has_constructor w s ≡ true
  typed : differ (type_named w.defs s.ret) (Some ty) ≡ false
  partial : not allowed.nothing && s.partial ≡ false
  impure : not allowed.impure && not s.pure ≡ false

guarded_first : (allowed b c : Bool) → not allowed && (b || c) ≡ false → not allowed && b ≡ false
guarded_first true b c h = refl
guarded_first false b c h = (or_parts b c h).0

kept_call : (w : Whole) (allowed : Allowed) (ty : TypeId) (s : Signature) (count : ℕ) → AreKept w allowed (CalledAt (Some ty) (Some s) count ∷ []) → IsKeptCall w allowed ty s count
kept_call w allowed ty s count k =
    let u = or_parts (not (count == length s.args)) (not (has_constructor w s)) (or_parts (is_call_misfit w (Some s) count) false k.known).0 in
    record {
      many = eqb-true count (length s.args) (not-false (count == length s.args) u.0);
      has = not-false (has_constructor w s) u.1;
      typed = (or_parts (differ (type_named w.defs s.ret) (Some ty)) false k.typed).0;
      partial = guarded_first allowed.nothing s.partial false k.partial;
      impure = guarded_first allowed.impure (not s.pure) false k.impure;
    }

-- what a call's tree is made of
pub record IsCallTree (ty : Option TypeId) (term : Option TermId) (es : Option CoreExprs) (x : CoreExpr) : Type 0 where
  pub of : TypeId
  pub number : TermId
  pub args : CoreExprs
  pub of_is : ty ≡ Some of
  pub number_is : term ≡ Some number
  pub args_are : es ≡ Some args
  pub is : core_expr.Term of number args ≡ x

pub call_is : (ty : Option TypeId) (term : Option TermId) (es : Option CoreExprs) (x : CoreExpr) → call_tree ty term es ≡ Some x → IsCallTree ty term es x
call_is None term es x h = absurd cc
call_is (Some ty) None es x h = absurd cc
call_is (Some ty) (Some term) None x h = absurd cc
call_is (Some ty) (Some term) (Some es) x h = record { of = ty; number = term; args = es; of_is = refl; number_is = refl; args_are = refl; is = same_Some (core_expr.Term ty term es) x h }

-- what stands over a right side: the environment that definitions give, and variables in scope which are these, and whose numbers are
-- below the next one
pub record IsOver (defs : List Def) (env : Environment) (locals : List Local) (vars : List (TypeId × ℕ)) (next : ℕ) : Type 0 where
  pub given : IsGivenIn defs env
  pub bound : (name : List ℕ) (l : Local) (ty : TypeId) → local_named locals name ≡ Some l → l.ty ≡ Some ty → Contains vars (ty, l.number)
  pub below : (ty : TypeId) (x : ℕ) → Contains vars (ty, x) → x < next

-- so if the next number is a later one
over_later : (defs : List Def) (env : Environment) (locals : List Local) (vars : List (TypeId × ℕ)) (next later : ℕ) → next ≤ later → IsOver defs env locals vars next → IsOver defs env locals vars later
over_later defs env locals vars next later le over = record { given = over.given; bound = over.bound; below = λ ty x c. let lt = over.below ty x c in omega (arith, lt, le) }

-- the arguments of a call, if they are kept at its term's types
abbrev ArgsTyped : (defs : List Def) (env : Environment) (allowed : Allowed) (locals : List Local) (vars : List (TypeId × ℕ)) (next : ℕ) → Exprs → Type 0
ArgsTyped defs env allowed locals vars next es = (tys : List TypeId) (xs : CoreExprs) → count_of es ≡ length tys → (exprs_pass (whole_of defs) locals next (map Some tys) es).trees ≡ Some xs → AreKept (whole_of defs) allowed (exprs_pass (whole_of defs) locals next (map Some tys) es).sites
    → AreExprsOf env allowed vars tys xs

-- a call of a term of this signature, on arguments of its types
called_typed : (defs : List Def) (env : Environment) (allowed : Allowed) (vars : List (TypeId × ℕ)) (ty of : TypeId) (name : List ℕ) (s : Signature) (number : TermId) (args : CoreExprs) → IsGivenIn defs env → termed (whole_of defs) name ≡ Some s → term_named (terms defs) name ≡ Some number
    → has_constructor (whole_of defs) s ≡ true → not allowed.nothing && s.partial ≡ false → not allowed.impure && not s.pure ≡ false → type_named defs s.ret ≡ Some of → of ≡ ty
    → ((tys : List TypeId) → map (type_named defs) s.args ≡ map Some tys → AreExprsOf env allowed vars tys args) → IsExprOf env allowed vars ty (core_expr.Term of number args)
called_typed defs env allowed vars ty of name s number args g is numbered has partial impure ret gives typed =
    let w = whole_of defs in
    let at = signature_at w name s number is numbered in
    let m = term_made w (terms defs) env.terms number.0 s g.terms at in
    let t = term_is w s m.term m.made in
    let same : m.term.ret_ty ≡ ty = same_Some m.term.ret_ty of (sym t.ret ∙ ret) ∙ gives in
    let takes = typed m.term.arg_tys (types_are defs s.args m.term.arg_tys t.args) in
    let made = kind_typed defs env allowed number.0 s m.term s.origin g m.there refl (ap (λ (u : Term). u.kind) t.is) has partial impure in
    (gives, subst (λ (o : Option Term). IsSomeAnd o (λ (u : Term). IsTermKind env allowed u u.kind × (u.ret_ty ≡ ty) × AreExprsOf env allowed vars u.arg_tys args)) (sym m.there) (made, same, takes))

call_typed : (defs : List Def) (env : Environment) (allowed : Allowed) (locals : List Local) (vars : List (TypeId × ℕ)) (next : ℕ) (ty : TypeId) (name : List ℕ) (es : Exprs) (x : CoreExpr) (o : Option Signature) → IsOver defs env locals vars next → termed (whole_of defs) name ≡ o
    → AreKept (whole_of defs) allowed (CalledAt (Some ty) o (count_of es) ∷ (exprs_pass (whole_of defs) locals next (whole.arg_types (whole_of defs) o) es).sites)
    → call_tree (whole.ret_type (whole_of defs) o) (term_named (terms defs) name) (exprs_pass (whole_of defs) locals next (whole.arg_types (whole_of defs) o) es).trees ≡ Some x → ArgsTyped defs env allowed locals vars next es → IsExprOf env allowed vars ty x
call_typed defs env allowed locals vars next ty name es x None over is kept h args_typed = absurd cc
call_typed defs env allowed locals vars next ty name es x (Some s) over is kept h args_typed =
    let w = whole_of defs in
    let k = kept_parts w allowed (CalledAt (Some ty) (Some s) (count_of es) ∷ []) (exprs_pass w locals next (map (type_named defs) s.args) es).sites kept in
    let own = kept_call w allowed ty s (count_of es) k.0 in
    let c = call_is (type_named defs s.ret) (term_named (terms defs) name) (exprs_pass w locals next (map (type_named defs) s.args) es).trees x h in
    let gives : c.of ≡ ty = same_type c.of ty (ap (λ o. differ o (Some ty)) (sym c.of_is) ∙ own.typed) in
    subst (IsExprOf env allowed vars ty) c.is (called_typed defs env allowed vars ty c.of name s c.number c.args over.given is c.number_is own.has own.partial own.impure c.of_is gives
    (λ tys are.
    let count : count_of es ≡ length tys = own.many ∙ sym (length-map s.args (type_named defs)) ∙ ap length are ∙ length-map tys Some in
    args_typed tys c.args count (ap (λ os. (exprs_pass w locals next os es).trees) (sym are) ∙ c.args_are) (subst (λ (os : List (Option TypeId)). AreKept w allowed (exprs_pass w locals next os es).sites) are k.1)))

-- ---- converters

-- the call of a converter, on what is of the other type
converter_typed : (defs : List Def) (env : Environment) (allowed : Allowed) (vars : List (TypeId × ℕ)) (ty of : TypeId) (s : Signature) (e : Option CoreExpr) (x : CoreExpr) → IsGivenIn defs env → conversion (whole_of defs) (Some of) (Some ty) ≡ Some s
    → AreKept (whole_of defs) allowed (CalledAt (Some ty) (Some s) 1 ∷ []) → ((y : CoreExpr) → e ≡ Some y → IsExprOf env allowed vars of y) → expr_within (whole_of defs) (Some s) e ≡ Some x → IsExprOf env allowed vars ty x
converter_typed defs env allowed vars ty of s e x g is kept typed h =
    let w = whole_of defs in
    let c = conversion_is defs env of ty s g is in
    let own = kept_call w allowed ty s 1 kept in
    let t = call_is (type_named defs s.ret) (term_named (terms defs) s.term) (option_map (λ (y : CoreExpr). core_expr.AnExpr y core_expr.NoExpr) e) x h in
    let m = mapped (λ (y : CoreExpr). core_expr.AnExpr y core_expr.NoExpr) e t.args t.args_are in
    let gives : t.of ≡ ty = same_Some t.of ty (sym t.of_is ∙ c.ret) in
    subst (IsExprOf env allowed vars ty) t.is (called_typed defs env allowed vars ty t.of s.term s t.number t.args g c.there t.number_is own.has own.partial own.impure t.of_is gives
    (λ tys are. subst (AreExprsOf env allowed vars tys) m.is (one_typed m.from tys (sym c.args ∙ are) (typed m.from m.there))))
  where
    one_typed : (y : CoreExpr) (tys : List TypeId) → Some of ∷ [] ≡ map Some tys → IsExprOf env allowed vars of y → AreExprsOf env allowed vars tys (core_expr.AnExpr y core_expr.NoExpr)
    one_typed y [] e k = absurd cc
    one_typed y (t ∷ []) e k = let same : of ≡ t = cc in (subst (λ (u : TypeId). IsExprOf env allowed vars u y) same k, tt)
    one_typed y (t ∷ u ∷ tys) e k = absurd cc

-- what is of the type that is expected, or of another one within a converter
within_typed : (defs : List Def) (env : Environment) (allowed : Allowed) (vars : List (TypeId × ℕ)) (ty : TypeId) (of : Option TypeId) (by : Option Signature) (e : Option CoreExpr) (x : CoreExpr) (first : Option TypeId → Site) (rest : List Site) → IsGivenIn defs env
    → conversion (whole_of defs) of (Some ty) ≡ by → ((t : TypeId) (y : CoreExpr) → e ≡ Some y → AreKept (whole_of defs) allowed (first (Some t) ∷ rest) → IsExprOf env allowed vars t y) → expr_within (whole_of defs) by e ≡ Some x
    → AreKept (whole_of defs) allowed (called_by by (Some ty) ++ first (within by of (Some ty)) ∷ rest) → IsExprOf env allowed vars ty x
within_typed defs env allowed vars ty of None e x first rest g is typed h kept = typed ty x h kept
within_typed defs env allowed vars ty None (Some s) e x first rest g is typed h kept = absurd cc
within_typed defs env allowed vars ty (Some of) (Some s) e x first rest g is typed h kept =
    let k = kept_parts (whole_of defs) allowed (CalledAt (Some ty) (Some s) 1 ∷ []) (first (Some of) ∷ rest) kept in
    converter_typed defs env allowed vars ty of s e x g is k.0 (λ y f. typed of y f k.1) h

-- trees in order
pub record AreBefore (o : Option CoreExpr) (os : Option CoreExprs) (xs : CoreExprs) : Type 0 where
  pub first : CoreExpr
  pub others : CoreExprs
  pub here : o ≡ Some first
  pub found : os ≡ Some others
  pub all : core_expr.AnExpr first others ≡ xs

pub before_is : (o : Option CoreExpr) (os : Option CoreExprs) (xs : CoreExprs) → expr_before o os ≡ Some xs → AreBefore o os xs
before_is None os xs h = absurd cc
before_is (Some x) None xs h = absurd cc
before_is (Some x) (Some others) xs h = record { first = x; others = others; here = refl; found = refl; all = same_Some (core_expr.AnExpr x others) xs h }

-- ---- expressions

-- a number of a type
number_typed : (env : Environment) (allowed : Allowed) (vars : List (TypeId × ℕ)) (ty : TypeId) (types : TypeEnv) (n : ℤ) (x : CoreExpr) → env.types ≡ types → (m : TypeId × ℤ) → typed_integer types (Some ty) n ≡ Some m → core_expr.ConstInt m.0 m.1 ≡ x → IsExprOf env allowed vars ty x
number_typed env allowed vars ty types n x same m there is = subst (IsExprOf env allowed vars ty) is (integer_typed env ty n m (ap (λ (ts : TypeEnv). typed_integer ts (Some ty) n) same ∙ there))

-- ---- numbers

mutual
  -- the next number after an expression is no earlier one
  pub next_grows : (w : Whole) (locals : List Local) (next : ℕ) (expected : Option TypeId) (e : Expr) → next ≤ (expr_pass w locals next expected e).next
  next_grows w locals next expected (tree.Number n) = omega arith
  next_grows w locals next expected (tree.Fact b) = omega arith
  next_grows w locals next expected (tree.Name name) = omega arith
  next_grows w locals next expected (tree.Constant name) = omega arith
  next_grows w locals next expected (tree.Call name es) = nexts_grow w locals next (whole.arg_types w (termed w name)) es
  next_grows w locals next expected (tree.Let ls inner) =
      let bound = lets_pass w locals next ls in
      let first = lets_grow w locals next ls in
      let rest = next_grows w bound.locals bound.next expected inner in
      omega (arith, first, rest)

  nexts_grow : (w : Whole) (locals : List Local) (next : ℕ) (expected : List (Option TypeId)) (es : Exprs) → next ≤ (exprs_pass w locals next expected es).next
  nexts_grow w locals next expected NoExpr = omega arith
  nexts_grow w locals next expected (AnExpr e es) =
      let one = expr_pass w locals next (first_expected expected) e in
      let first = next_grows w locals next (first_expected expected) e in
      let rest = nexts_grow w locals one.next (later_expected expected) es in
      omega (arith, first, rest)

  lets_grow : (w : Whole) (locals : List Local) (next : ℕ) (ls : Lets) → next ≤ (lets_pass w locals next ls).next
  lets_grow w locals next NoLet = omega arith
  lets_grow w locals next (ALet var ty e ls) =
      let of = type_named w.defs ty in
      let value = expr_pass w locals (suc next) of e in
      let first = next_grows w locals (suc next) of e in
      let rest = lets_grow w (bound_local locals var of next) value.next ls in
      omega (arith, first, rest)

-- ---- `let`

-- the type of a typed expression
type_is : (env : Environment) (allowed : Allowed) (vars : List (TypeId × ℕ)) (ty : TypeId) (e : CoreExpr) → IsExprOf env allowed vars ty e → expr_type e ≡ ty
type_is env allowed vars ty (core_expr.Var of x) h = h.0
type_is env allowed vars ty (core_expr.ConstBool b) h = h.0
type_is env allowed vars ty (core_expr.ConstInt of n) h = h.0
type_is env allowed vars ty (core_expr.ConstPrim of name) h = h.0
type_is env allowed vars ty (core_expr.Term of term es) h = h.0
type_is env allowed vars ty (core_expr.Let of bs inner) h = h.0

-- what the tree of a `let` is made of
pub record IsLetTree (bs : Option LetBindings) (e : Option CoreExpr) (x : CoreExpr) : Type 0 where
  pub bindings : LetBindings
  pub inner : CoreExpr
  pub bindings_are : bs ≡ Some bindings
  pub inner_is : e ≡ Some inner
  pub is : core_expr.Let (expr_type inner) bindings inner ≡ x

pub let_is : (bs : Option LetBindings) (e : Option CoreExpr) (x : CoreExpr) → let_tree bs e ≡ Some x → IsLetTree bs e x
let_is None e x h = absurd cc
let_is (Some bs) None x h = absurd cc
let_is (Some bs) (Some e) x h = record { bindings = bs; inner = e; bindings_are = refl; inner_is = refl; is = same_Some (core_expr.Let (expr_type e) bs e) x h }

-- and what the trees of its variables are made of
pub record AreLetTrees (number : ℕ) (ty : Option TypeId) (e : Option CoreExpr) (rest : Option LetBindings) (bs : LetBindings) : Type 0 where
  pub of : TypeId
  pub value : CoreExpr
  pub others : LetBindings
  pub of_is : ty ≡ Some of
  pub value_is : e ≡ Some value
  pub others_are : rest ≡ Some others
  pub are : ABinding (record { 0 = number }) of value others ≡ bs

pub lets_are : (number : ℕ) (ty : Option TypeId) (e : Option CoreExpr) (rest : Option LetBindings) (bs : LetBindings) → binding_before (binding_tree number ty e) rest ≡ Some bs → AreLetTrees number ty e rest bs
lets_are number None e rest bs h = absurd cc
lets_are number (Some of) None rest bs h = absurd cc
lets_are number (Some of) (Some value) None bs h = absurd cc
lets_are number (Some of) (Some value) (Some others) bs h = record { of = of; value = value; others = others; of_is = refl; value_is = refl; others_are = refl; are = same_Some (ABinding (record { 0 = number }) of value others) bs h }

-- a new number is none of those below it
new_number : (defs : List Def) (env : Environment) (locals : List Local) (vars : List (TypeId × ℕ)) (next : ℕ) → IsOver defs env locals vars next → IsNew vars next
new_number defs env locals vars next over ty c = let lt = over.below ty next c in omega (arith, lt)

-- a variable more
over_more : (defs : List Def) (env : Environment) (locals : List Local) (vars : List (TypeId × ℕ)) (next later : ℕ) (var : List ℕ) (ty : Option TypeId) (of : TypeId) → ty ≡ Some of → suc next ≤ later → IsOver defs env locals vars next
    → IsOver defs env (bound_local locals var ty next) ((of, next) ∷ vars) later
over_more defs env locals vars next later var ty of is le over = record { given = over.given; bound = λ name l t found typed. by (is_blank var) name l t found typed; below = below }
  where
    one : Local
    one = record { name = var; ty = ty; number = next }

    new_or : (b : Bool) (name : List ℕ) (l : Local) (t : TypeId) → cond b (Some one) (local_named locals name) ≡ Some l → l.ty ≡ Some t → Contains ((of, next) ∷ vars) (t, l.number)
    new_or false name l t found typed = tail_contained (of, next) vars (t, l.number) (over.bound name l t found typed)
    new_or true name l t found typed =
        let same : one ≡ l = same_Some one l found in
        let type : of ≡ t = same_Some of t (sym is ∙ ap (λ (x : Local). x.ty) same ∙ typed) in
        let here : (of, next) ≡ (t, l.number) = ap (λ (x : TypeId). (x, next)) type ∙ ap (λ (x : Local). (t, x.number)) same in
        subst (Contains ((of, next) ∷ vars)) here (head_contained (of, next) vars)

    by : (blank : Bool) (name : List ℕ) (l : Local) (t : TypeId) → local_named (cond blank locals (locals ++ one ∷ [])) name ≡ Some l → l.ty ≡ Some t → Contains ((of, next) ∷ vars) (t, l.number)
    by true name l t found typed = tail_contained (of, next) vars (t, l.number) (over.bound name l t found typed)
    by false name l t found typed = new_or (bytes_eq var name) name l t (sym (one_named locals one name) ∙ found) typed

    below : (t : TypeId) (x : ℕ) → Contains ((of, next) ∷ vars) (t, x) → x < later
    below t x c =
        ⊎_elim (λ (e : (of, next) ≡ (t, x)). let same : next ≡ x = ap (λ (v : TypeId × ℕ). v.1) e in omega (arith, same, le)) (λ d. let lt = over.below t x d in omega (arith, lt, le)) (contained_cases (of, next) vars (t, x) c)

-- ---- typed expressions

-- the variables of a `let` have their types, and those after them are in scope
record AreTypedLets (defs : List Def) (env : Environment) (allowed : Allowed) (vars : List (TypeId × ℕ)) (bs : LetBindings) (pass : LetsPass) : Type 0 where
  typed : AreBindingsOf env allowed vars bs
  over : IsOver defs env pass.locals (let_variables vars bs) pass.next

-- what a variable of a `let` and what is after it keep
bound_kept : (w : Whole) (allowed : Allowed) (ty : Option TypeId) (sites : List Site) → AreKept w allowed (BoundAt ty ∷ sites) → AreKept w allowed sites
bound_kept w allowed ty sites k = record { placed = k.placed; known = k.known; typed = (or_parts (not (is_some ty)) (list_any (is_mistyped w) sites) k.typed).1; partial = k.partial; impure = k.impure }

-- a variable of the type that is expected
variable_typed : (defs : List Def) (env : Environment) (allowed : Allowed) (locals : List Local) (vars : List (TypeId × ℕ)) (next : ℕ) (ty : TypeId) (name : List ℕ) (x : CoreExpr) → IsOver defs env locals vars next → local_tree (local_named locals name) ≡ Some x
    → AreKept (whole_of defs) allowed (UsedAt (Some ty) (local_type (local_named locals name)) ∷ []) → IsExprOf env allowed vars ty x
variable_typed defs env allowed locals vars next ty name x over h kept =
    let m = mapped (λ (v : TypeId × VarId). core_expr.Var v.0 v.1) (typed_local (local_named locals name)) x h in
    let v = local_is (local_named locals name) m.from m.there in
    let typed = (or_parts (is_other_type (local_type (local_named locals name)) (Some ty)) false kept.typed).0 in
    let bound : local_type (local_named locals name) ≡ Some (Some m.from.0) = ap local_type v.found ∙ ap Some v.typed in
    let is : m.from.0 ≡ ty = same_type m.from.0 ty (ap (λ o. is_other_type o (Some ty)) (sym bound) ∙ typed) in
    let there : Contains vars (m.from.0, m.from.1.0) = subst (λ n. Contains vars (m.from.0, n)) v.numbered (over.bound name v.local m.from.0 v.found v.typed) in
    subst (IsExprOf env allowed vars ty) m.is (is, subst (λ (t : TypeId). Contains vars (t, m.from.1.0)) is there)

-- so a constant
named_typed : (defs : List Def) (env : Environment) (allowed : Allowed) (vars : List (TypeId × ℕ)) (ty : TypeId) (name : List ℕ) (x : CoreExpr) → IsGivenIn defs env → constant_tree (type_env_of defs) (constant_type (whole_of defs) name) name ≡ Some x
    → AreKept (whole_of defs) allowed (ConstantAt false (Some ty) (constant_type (whole_of defs) name) ∷ []) → IsExprOf env allowed vars ty x
named_typed defs env allowed vars ty name x g h kept =
    let w = whole_of defs in
    let m = mapped (λ (t : TypeId). core_expr.ConstPrim t (sym_of (type_env_of defs).syms name)) (constant_type w name) x h in
    let typed = (or_parts (is_mistyped w (ConstantAt false (Some ty) (constant_type w name))) false kept.typed).0 in
    let is : m.from ≡ ty = same_type m.from ty (ap (λ o. differ o (Some ty)) (sym m.there) ∙ typed) in
    let known = constant_typed defs env name m.from g.types m.there in
    let at : const_type env (sym_of (type_env_of defs).syms name) ≡ Some ty = ap (λ (ts : TypeEnv). const_type env (sym_of ts.syms name)) (sym g.types) ∙ known ∙ ap Some is in
    subst (IsExprOf env allowed vars ty) m.is (is, at)

mutual
  -- an expression whose parts break no row is of the type that is expected
  pub expr_typed : (defs : List Def) (env : Environment) (allowed : Allowed) (locals : List Local) (vars : List (TypeId × ℕ)) (next : ℕ) (ty : TypeId) (e : Expr) (x : CoreExpr) → IsOver defs env locals vars next → (expr_pass (whole_of defs) locals next (Some ty) e).tree ≡ Some x
      → AreKept (whole_of defs) allowed (expr_pass (whole_of defs) locals next (Some ty) e).sites → IsExprOf env allowed vars ty x
  expr_typed defs env allowed locals vars next ty (tree.Number n) x over h kept =
      let m = mapped (λ (v : TypeId × ℤ). core_expr.ConstInt v.0 v.1) (typed_integer (type_env_of defs) (Some ty) n) x h in
      number_typed env allowed vars ty (type_env_of defs) n x over.given.types m.from m.there m.is
  expr_typed defs env allowed locals vars next ty (tree.Fact b) x over h kept =
      let takes = not-false (takes_truths (type_env_of defs) (Some ty)) (or_parts (is_misplaced (whole_of defs) (TruthAt (Some ty))) false kept.placed).0 in
      subst (IsExprOf env allowed vars ty) (same_Some (core_expr.ConstBool b) x h) (truth_typed defs env b ty over.given.types (ap (λ (ts : TypeEnv). takes_truths ts (Some ty)) over.given.types ∙ takes))
  expr_typed defs env allowed locals vars next ty (tree.Name name) x over h kept =
      let found = local_named locals name in
      within_typed defs env allowed vars ty (known_type found) (conversion (whole_of defs) (known_type found) (Some ty)) (local_tree found) x (λ o. UsedAt o (local_type found)) [] over.given refl
      (λ t y e k. variable_typed defs env allowed locals vars next t name y over e k) h kept
  expr_typed defs env allowed locals vars next ty (tree.Constant name) x over h kept =
      let of = constant_type (whole_of defs) name in
      within_typed defs env allowed vars ty of (conversion (whole_of defs) of (Some ty)) (constant_tree (type_env_of defs) of name) x (λ o. ConstantAt false o of) [] over.given refl (λ t y e k. named_typed defs env allowed vars t name y over.given e k) h kept
  expr_typed defs env allowed locals vars next ty (tree.Let ls inner) x over h kept =
      let w = whole_of defs in
      let bound = lets_pass w locals next ls in
      let result = expr_pass w bound.locals bound.next (Some ty) inner in
      let m = let_is bound.trees result.tree x h in
      let k = kept_parts w allowed bound.sites result.sites (record { placed = kept.placed; known = kept.known; typed = kept.typed; partial = kept.partial; impure = kept.impure }) in
      let b = lets_typed defs env allowed locals vars next ls m.bindings over m.bindings_are k.0 in
      let typed = expr_typed defs env allowed bound.locals (let_variables vars m.bindings) bound.next ty inner m.inner b.over m.inner_is k.1 in
      subst (IsExprOf env allowed vars ty) m.is (type_is env allowed (let_variables vars m.bindings) ty m.inner typed, b.typed, typed)
  expr_typed defs env allowed locals vars next ty (tree.Call name es) x over h kept =
      let w = whole_of defs in
      let o = termed w name in
      let of = whole.ret_type w o in
      let args = exprs_pass w locals next (whole.arg_types w o) es in
      within_typed defs env allowed vars ty of (conversion w of (Some ty)) (call_tree of (term_named (terms defs) name) args.trees) x (λ t. CalledAt t o (count_of es)) args.sites over.given refl
      (λ t y e k. call_typed defs env allowed locals vars next t name es y o over refl k e (λ tys xs count found j. exprs_typed defs env allowed locals vars next tys es xs over count found j)) h kept

  -- so of expressions in order
  exprs_typed : (defs : List Def) (env : Environment) (allowed : Allowed) (locals : List Local) (vars : List (TypeId × ℕ)) (next : ℕ) (tys : List TypeId) (es : Exprs) (xs : CoreExprs) → IsOver defs env locals vars next → count_of es ≡ length tys
      → (exprs_pass (whole_of defs) locals next (map Some tys) es).trees ≡ Some xs → AreKept (whole_of defs) allowed (exprs_pass (whole_of defs) locals next (map Some tys) es).sites → AreExprsOf env allowed vars tys xs
  exprs_typed defs env allowed locals vars next [] NoExpr xs over count h kept = subst (AreExprsOf env allowed vars []) (same_Some core_expr.NoExpr xs h) tt
  exprs_typed defs env allowed locals vars next [] (AnExpr e es) xs over count h kept = absurd (omega arith)
  exprs_typed defs env allowed locals vars next (ty ∷ tys) NoExpr xs over count h kept = absurd (omega arith)
  exprs_typed defs env allowed locals vars next (ty ∷ tys) (AnExpr e es) xs over count h kept =
      let w = whole_of defs in
      let one = expr_pass w locals next (Some ty) e in
      let rest = exprs_pass w locals one.next (map Some tys) es in
      let b = before_is one.tree rest.trees xs h in
      let k = kept_parts w allowed one.sites rest.sites kept in
      let later = over_later defs env locals vars next one.next (next_grows w locals next (Some ty) e) over in
      subst (AreExprsOf env allowed vars (ty ∷ tys)) b.all (expr_typed defs env allowed locals vars next ty e b.first over b.here k.0, exprs_typed defs env allowed locals vars one.next tys es b.others later (omega arith) b.found k.1)

  -- and of the variables of a `let`
  lets_typed : (defs : List Def) (env : Environment) (allowed : Allowed) (locals : List Local) (vars : List (TypeId × ℕ)) (next : ℕ) (ls : Lets) (bs : LetBindings) → IsOver defs env locals vars next → (lets_pass (whole_of defs) locals next ls).trees ≡ Some bs
      → AreKept (whole_of defs) allowed (lets_pass (whole_of defs) locals next ls).sites → AreTypedLets defs env allowed vars bs (lets_pass (whole_of defs) locals next ls)
  lets_typed defs env allowed locals vars next NoLet bs over h kept =
      subst (λ (y : LetBindings). AreTypedLets defs env allowed vars y (lets_pass (whole_of defs) locals next NoLet)) (same_Some NoBinding bs h) (record { typed = tt; over = over })
  lets_typed defs env allowed locals vars next (ALet var name e ls) bs over h kept =
      let w = whole_of defs in
      let ty = type_named defs name in
      let value = expr_pass w locals (suc next) ty e in
      let more = bound_local locals var ty next in
      let rest = lets_pass w more value.next ls in
      let m = lets_are next ty value.tree rest.trees bs h in
      let k = kept_parts w allowed value.sites rest.sites (bound_kept w allowed ty (value.sites ++ rest.sites) kept) in
      let grown = next_grows w locals (suc next) ty e in
      let typed = expr_typed defs env allowed locals vars (suc next) m.of e m.value (over_later defs env locals vars next (suc next) (omega arith) over) (ap (λ o. (expr_pass w locals (suc next) o e).tree) (sym m.of_is) ∙ m.value_is)
      (subst (λ o. AreKept w allowed (expr_pass w locals (suc next) o e).sites) m.of_is k.0) in
      let others = lets_typed defs env allowed more ((m.of, next) ∷ vars) value.next ls m.others (over_more defs env locals vars next value.next var ty m.of m.of_is grown over) m.others_are k.1 in
      subst (λ (y : LetBindings). AreTypedLets defs env allowed vars y (lets_pass w locals next (ALet var name e ls))) m.are
      (record { typed = (new_number defs env locals vars next over, typed, others.typed); over = others.over })
