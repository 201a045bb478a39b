-- The trees that typing gives to names and terms, where nothing is converted, are of these names.
use Rattle.std.proofs.Common.{◌≡◌, ℕ, suc, ◌+◌, List, [], ◌∷◌, Bool, true, false, cond, Option, Some, None, refl, sym, ap, ◌∙◌, arith}
use Rattle.std.specs.Prelude.{◌==◌, option_and_then, option_map}
use Rattle.std.specs.Str.{bytes_eq}
use Rattle.isle_base.specs.declared.ids.TermId.{TermId}
use Rattle.isle_base.specs.declared.ids.TypeId.{TypeId}
use Rattle.isle_base.specs.declared.ids.VarId.{VarId}
use Rattle.isle_core.specs.Expr as expr
use Rattle.isle_core.specs.Expr.{Expr, Exprs, NoExpr, AnExpr}
use Rattle.isle_core.specs.Pattern as pattern
use Rattle.isle_core.specs.Pattern.{Pattern, Patterns, NoPattern, APattern}
use Rattle.isle_core.specs.RuleViews.{patterns_of as core_patterns}
use Rattle.isle_core.proofs.OptionLaws.{some_same}
use Rattle.isle_ast.specs.Tree as tree
use Rattle.isle_declarations.specs.Signatures.{term_named}
use Rattle.isle_declarations.specs.Symbols.{index_of}
use Rattle.isle_declarations.specs.Terms.{terms}
use Rattle.isle_sema.specs.ExprPass.{local_tree, call_tree, expr_within, expr_before, known_type, expr_pass, exprs_pass}
use Rattle.isle_sema.specs.PatternPass.{variable_tree, term_tree, pattern_within, first_expected, later_expected, pattern_pass, patterns_pass}
use Rattle.isle_sema.proofs.ParameterScopes.{listed}
use Rattle.isle_terms.specs.Converters.{Conversion, converters, converter_between, conversion}
use Rattle.isle_terms.specs.Locals.{local_named}
use Rattle.isle_terms.specs.Scope.{Local, Scope, found_in, met_by, met, typed_local}
use Rattle.isle_terms.specs.TermPass.{tree_before}
use Rattle.isle_terms.specs.Whole.{Whole, termed, arg_types, ret_type}
use Rattle.isle_prelude_laws.proofs.NamedTrees.{Numbers, ExprNamed, ExprsNamed, PatternNamed, PatternsNamed}

-- the numbers of terms
abbrev pub numbers : Whole → Numbers
numbers w name = term_named (terms w.defs) name

-- ---- options

-- what is made of two things and a third
record ThreeThere {A B C D : Type 0} (f : A → B → C → D) (a : Option A) (b : Option B) (c : Option C) (d : D) : Type 0 where
  one : A
  two : B
  three : C
  one_is : a ≡ Some one
  two_is : b ≡ Some two
  three_is : c ≡ Some three
  made : f one two three ≡ d

three_there : {A B C D : Type 0} (f : A → B → C → D) (a : Option A) (b : Option B) (c : Option C) (d : D)
    → option_and_then (λ (x : A). option_and_then (λ (y : B). option_map (f x y) c) b) a ≡ Some d → ThreeThere f a b c d
three_there f None b c d h = absurd cc
three_there f (Some x) None c d h = absurd cc
three_there f (Some x) (Some y) None d h = absurd cc
three_there f (Some x) (Some y) (Some z) d h = record { one = x; two = y; three = z; one_is = refl; two_is = refl; three_is = refl; made = some_same (f x y z) d h }

-- ---- nothing is converted

pub unconverted : (w : Whole) (of expected : Option TypeId) → converters w.defs ≡ [] → conversion w of expected ≡ None
unconverted w None expected none = refl
unconverted w (Some of) None none = refl
unconverted w (Some of) (Some expected) none = by (of.0 == expected.0)
  where
    by : (b : Bool) → cond b None (option_and_then (λ (c : Conversion). termed w c.term) (converter_between w.defs (converters w.defs) of expected)) ≡ None
    by true = refl
    by false = ap (λ cs. option_and_then (λ (c : Conversion). termed w c.term) (converter_between w.defs cs of expected)) none

-- ---- expressions

-- of names and calls alone
abbrev mutual
  pub IsSimple : tree.Expr → Type 0
  IsSimple (tree.Name name) = Unit {0}
  IsSimple (tree.Call name es) = AreSimple es
  IsSimple (tree.Number n) = ⊥
  IsSimple (tree.Fact b) = ⊥
  IsSimple (tree.Constant name) = ⊥
  IsSimple (tree.Let lets inner) = ⊥

  pub AreSimple : tree.Exprs → Type 0
  AreSimple tree.NoExpr = Unit {0}
  AreSimple (tree.AnExpr e es) = IsSimple e × AreSimple es

-- variables whose numbers are the places of their names
abbrev pub AtPlaces : List (List ℕ) → List Local → Type 0
AtPlaces params locals = (name : List ℕ) (l : Local) → local_named locals name ≡ Some l → index_of params name ≡ Some l.number

variable_named : (params : List (List ℕ)) (name : List ℕ) (found : Option Local) (x : Expr)
    → ((l : Local) → found ≡ Some l → index_of params name ≡ Some l.number) → local_tree found ≡ Some x
    → (ty : TypeId) × (v : VarId) × (x ≡ expr.Var ty v) × (index_of params name ≡ Some v.0)
variable_named params name None x at h = absurd cc
variable_named params name (Some l) x at h = by l.ty h
  where
    by : (o : Option TypeId)
        → option_map (λ (v : TypeId × VarId). expr.Var v.0 v.1) (option_map (λ (ty : TypeId). (ty, record { 0 = l.number })) o) ≡ Some x
        → (ty : TypeId) × (v : VarId) × (x ≡ expr.Var ty v) × (index_of params name ≡ Some v.0)
    by None k = absurd cc
    by (Some ty) k = (ty, record { 0 = l.number }, sym (some_same (expr.Var ty (record { 0 = l.number })) x k), at l refl)

-- the trees of an expression and of those after it
record BothThere (first : Option Expr) (rest : Option Exprs) (xs : Exprs) : Type 0 where
  one : Expr
  others : Exprs
  one_is : first ≡ Some one
  others_are : rest ≡ Some others
  whole : xs ≡ AnExpr one others

both_there : (first : Option Expr) (rest : Option Exprs) (xs : Exprs) → expr_before first rest ≡ Some xs → BothThere first rest xs
both_there None rest xs h = absurd cc
both_there (Some e) None xs h = absurd cc
both_there (Some e) (Some es) xs h = record { one = e; others = es; one_is = refl; others_are = refl; whole = sym (some_same (AnExpr e es) xs h) }

module _ (w : Whole) (none : converters w.defs ≡ []) (params : List (List ℕ)) (locals : List Local) (places : AtPlaces params locals) where
  mutual
    pub expr_named : (next : ℕ) (expected : Option TypeId) (e : tree.Expr) (x : Expr) → IsSimple e
        → (expr_pass w locals next expected e).tree ≡ Some x → ExprNamed (numbers w) params e x
    expr_named next expected (tree.Name name) x simple h =
        let found = local_named locals name in
        variable_named params name found x (places name) (ap (λ by. expr_within w by (local_tree found)) (sym (unconverted w (known_type found) expected none)) ∙ h)
    expr_named next expected (tree.Call name es) x simple h =
        let of = ret_type w (termed w name) in
        let args = exprs_pass w locals next (arg_types w (termed w name)) es in
        let plain : call_tree of (numbers w name) args.trees ≡ Some x = ap (λ by. expr_within w by (call_tree of (numbers w name) args.trees)) (sym (unconverted w of expected none)) ∙ h in
        let t = three_there expr.Term of (numbers w name) args.trees x plain in
        (t.one, t.two, t.three, sym t.made, t.two_is, exprs_named next (arg_types w (termed w name)) es t.three simple t.three_is)
    expr_named next expected (tree.Number n) x simple h = absurd simple
    expr_named next expected (tree.Fact b) x simple h = absurd simple
    expr_named next expected (tree.Constant name) x simple h = absurd simple
    expr_named next expected (tree.Let lets inner) x simple h = absurd simple

    exprs_named : (next : ℕ) (expected : List (Option TypeId)) (es : tree.Exprs) (xs : Exprs) → AreSimple es
        → (exprs_pass w locals next expected es).trees ≡ Some xs → ExprsNamed (numbers w) params es xs
    exprs_named next expected tree.NoExpr xs simple h = sym (some_same NoExpr xs h)
    exprs_named next expected (tree.AnExpr e es) xs simple h =
        let first = expr_pass w locals next (first_expected expected) e in
        let rest = exprs_pass w locals first.next (later_expected expected) es in
        let b = both_there first.tree rest.trees xs h in
        (b.one, b.others, b.whole, expr_named next (first_expected expected) e b.one simple.0 b.one_is, exprs_named first.next (later_expected expected) es b.others simple.1 b.others_are)

-- ---- patterns

-- of terms over these names alone
abbrev mutual
  pub IsOver : List (List ℕ) → tree.Pattern → Type 0
  IsOver params (tree.Var name) = (k : ℕ) × (index_of params name ≡ Some k)
  IsOver params (tree.Term name ps) = AreOver params ps
  IsOver params (tree.Int n) = ⊥
  IsOver params (tree.Truth b) = ⊥
  IsOver params (tree.Const name) = ⊥
  IsOver params tree.Wildcard = ⊥
  IsOver params (tree.Bind name inner) = ⊥
  IsOver params (tree.And parts) = ⊥

  pub AreOver : List (List ℕ) → tree.Patterns → Type 0
  AreOver params tree.NoPattern = Unit {0}
  AreOver params (tree.APattern p ps) = IsOver params p × AreOver params ps

-- the first of these parameters as a variable
abbrev first_listed : ℕ → List ℕ → List (Option TypeId) → Local
first_listed j param types = record { name = param; ty = first_expected types; number = j }

-- a variable that is found with this number
abbrev pub IsFoundAt : Option Local → ℕ → Type 0
IsFoundAt found n = (l : Local) × (found ≡ Some l) × (l.number ≡ n)

later_place : (j k : ℕ) (first : Local) (b : Bool) (o : Option ℕ) (rest : Option Local) → b ≡ false
    → ((n : ℕ) → o ≡ Some n → IsFoundAt rest (suc j + n)) → option_map (λ (n : ℕ). n + 1) o ≡ Some k → IsFoundAt (cond b (Some first) rest) (j + k)
later_place j k first b None rest other go e = absurd cc
later_place j k first b (Some n) rest other go e =
    let r = go n refl in
    let more : n + 1 ≡ k = some_same (n + 1) k e in
    let at = r.2 in
    (r.0, ap (λ t. cond t (Some first) rest) other ∙ r.1, omega (arith, more, at))

-- a parameter is found at its place
pub listed_at_place : (params : List (List ℕ)) (types : List (Option TypeId)) (j k : ℕ) (name : List ℕ) → index_of params name ≡ Some k
    → IsFoundAt (found_in (listed j params types) name) (j + k)
listed_at_place [] types j k name h = absurd cc
listed_at_place (param ∷ params) types j k name h = by (λ n e. listed_at_place params (later_expected types) (suc j) n name e) (bytes_eq param name) refl h
  where
    by : ((n : ℕ) → index_of params name ≡ Some n → IsFoundAt (found_in (listed (suc j) params (later_expected types)) name) (suc j + n)) → (b : Bool)
        → bytes_eq param name ≡ b → cond b (Some 0) (option_map (λ (n : ℕ). n + 1) (index_of params name)) ≡ Some k
        → IsFoundAt (cond (bytes_eq param name) (Some (first_listed j param types)) (found_in (listed (suc j) params (later_expected types)) name)) (j + k)
    by go true same e =
        let none : 0 ≡ k = some_same 0 k e in
        (first_listed j param types, ap (λ t. cond t (Some (first_listed j param types)) (found_in (listed (suc j) params (later_expected types)) name)) same, omega (arith, none))
    by go false other e = later_place j k (first_listed j param types) (bytes_eq param name) (index_of params name) (found_in (listed (suc j) params (later_expected types)) name) other go e

typed_there : (params : List (List ℕ)) (name : List ℕ) (k : ℕ) (l : Local) (o : Option Local) (q : Pattern) → index_of params name ≡ Some k
    → l.number ≡ k → o ≡ Some l → option_map (λ (v : TypeId × VarId). pattern.Var v.0 v.1) (typed_local o) ≡ Some q
    → (ty : TypeId) × (v : VarId) × (q ≡ pattern.Var ty v) × (index_of params name ≡ Some v.0)
typed_there params name k l o q is number found h = by l.ty (ap (λ x. option_map (λ (v : TypeId × VarId). pattern.Var v.0 v.1) (typed_local x)) (sym found) ∙ h)
  where
    by : (t : Option TypeId)
        → option_map (λ (v : TypeId × VarId). pattern.Var v.0 v.1) (option_map (λ (ty : TypeId). (ty, record { 0 = l.number })) t) ≡ Some q
        → (ty : TypeId) × (v : VarId) × (q ≡ pattern.Var ty v) × (index_of params name ≡ Some v.0)
    by None e = absurd cc
    by (Some ty) e = (ty, record { 0 = l.number }, sym (some_same (pattern.Var ty (record { 0 = l.number })) q e), is ∙ ap Some (sym number))

-- the trees of a pattern and of those after it
pub record TreesThere (first : Option Pattern) (rest : Option (List Pattern)) (qs : List Pattern) : Type 0 where
  pub one : Pattern
  pub others : List Pattern
  pub one_is : first ≡ Some one
  pub others_are : rest ≡ Some others
  pub whole : qs ≡ one ∷ others

pub trees_there : (first : Option Pattern) (rest : Option (List Pattern)) (qs : List Pattern) → tree_before first rest ≡ Some qs → TreesThere first rest qs
trees_there None rest qs h = absurd cc
trees_there (Some p) None qs h = absurd cc
trees_there (Some p) (Some ps) qs h = record { one = p; others = ps; one_is = refl; others_are = refl; whole = sym (some_same (p ∷ ps) qs h) }

module _ (w : Whole) (none : converters w.defs ≡ []) (params : List (List ℕ)) (types : List (Option TypeId)) (scope : Scope) (vars : scope.variables ≡ listed 0 params types) where
  found_there : (name : List ℕ) (k : ℕ) → index_of params name ≡ Some k → IsFoundAt (found_in scope.variables name) k
  found_there name k is =
      let f = listed_at_place params types 0 k name is in
      let at = f.2 in
      (f.0, ap (λ ls. found_in ls name) vars ∙ f.1, omega (arith, at))

  -- a parameter that is met changes nothing
  met_same : (name : List ℕ) (k : ℕ) (expected : Option TypeId) → index_of params name ≡ Some k → met scope name expected ≡ scope
  met_same name k expected is = let f = found_there name k is in ap (λ o. met_by o scope name expected) f.1

  mutual
    pattern_same : (expected : Option TypeId) (p : tree.Pattern) → IsOver params p → (pattern_pass w expected scope p).scope ≡ scope
    pattern_same expected (tree.Var name) over = met_same name over.0 expected over.1
    pattern_same expected (tree.Term name ps) over = patterns_same (arg_types w (termed w name)) ps over
    pattern_same expected (tree.Int n) over = absurd over
    pattern_same expected (tree.Truth b) over = absurd over
    pattern_same expected (tree.Const name) over = absurd over
    pattern_same expected tree.Wildcard over = absurd over
    pattern_same expected (tree.Bind name inner) over = absurd over
    pattern_same expected (tree.And parts) over = absurd over

    patterns_same : (expected : List (Option TypeId)) (ps : tree.Patterns) → AreOver params ps → (patterns_pass w expected scope ps).scope ≡ scope
    patterns_same expected tree.NoPattern over = refl
    patterns_same expected (tree.APattern p ps) over =
        ap (λ s. (patterns_pass w (later_expected expected) s ps).scope) (pattern_same (first_expected expected) p over.0) ∙ patterns_same (later_expected expected) ps over.1

  mutual
    pub pattern_named : (expected : Option TypeId) (p : tree.Pattern) (q : Pattern) → IsOver params p
        → (pattern_pass w expected scope p).tree ≡ Some q → PatternNamed (numbers w) params p q
    pattern_named expected (tree.Var name) q over h =
        let f = found_there name over.0 over.1 in
        typed_there params name over.0 f.0 (found_in scope.variables name) q over.1 f.2 f.1 (ap (λ s. variable_tree s name) (sym (met_same name over.0 expected over.1)) ∙ h)
    pattern_named expected (tree.Term name ps) q over h =
        let of = ret_type w (termed w name) in
        let parts = patterns_pass w (arg_types w (termed w name)) scope ps in
        let plain : term_tree of (numbers w name) parts.trees ≡ Some q = ap (λ by. pattern_within w by (term_tree of (numbers w name) parts.trees)) (sym (unconverted w of expected none)) ∙ h in
        let t = three_there (λ (ty : TypeId) (n : TermId) (qs : List Pattern). pattern.Term ty n (core_patterns qs)) of (numbers w name) parts.trees q plain in
        (t.one, t.two, core_patterns t.three, sym t.made, t.two_is, patterns_named (arg_types w (termed w name)) ps t.three over t.three_is)
    pattern_named expected (tree.Int n) q over h = absurd over
    pattern_named expected (tree.Truth b) q over h = absurd over
    pattern_named expected (tree.Const name) q over h = absurd over
    pattern_named expected tree.Wildcard q over h = absurd over
    pattern_named expected (tree.Bind name inner) q over h = absurd over
    pattern_named expected (tree.And parts) q over h = absurd over

    patterns_named : (expected : List (Option TypeId)) (ps : tree.Patterns) (qs : List Pattern) → AreOver params ps
        → (patterns_pass w expected scope ps).trees ≡ Some qs → PatternsNamed (numbers w) params ps (core_patterns qs)
    patterns_named expected tree.NoPattern qs over h = ap core_patterns (sym (some_same [] qs h))
    patterns_named expected (tree.APattern p ps) qs over h =
        let first = pattern_pass w (first_expected expected) scope p in
        let rest = patterns_pass w (later_expected expected) first.scope ps in
        let b = trees_there first.tree rest.trees qs h in
        let same : first.scope ≡ scope = pattern_same (first_expected expected) p over.0 in
        let others : (patterns_pass w (later_expected expected) scope ps).trees ≡ Some b.others = ap (λ s. (patterns_pass w (later_expected expected) s ps).trees) (sym same) ∙ b.others_are in
        (b.one, core_patterns b.others, ap core_patterns b.whole, pattern_named (first_expected expected) p b.one over.0 b.one_is, patterns_named (later_expected expected) ps b.others over.1 others)
