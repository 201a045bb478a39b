-- Patterns and expressions that are passed one after the other: what is left.
use Rattle.std.proofs.Common.{◌≡◌, ℕ, zero, suc, ◌+◌, ◌<◌, ◌≤◌, Bool, true, false, cond, List, [], ◌∷◌, ◌++◌, length, map, get_or, Option, Some, None, refl, sym, ap, ◌∙◌, subst, arith}
use Rattle.std.specs.Prelude.{drop, option_map, slice_get}
use Rattle.std.specs.Global.{Vec}
use Rattle.std.proofs.lemmas.List.{drop_all, drop_more, map-append, append-nil}
use Rattle.std.proofs.lemmas.List.Sums.{fold-append}
use Rattle.isle_core.specs.declared.TypeId.{TypeId}
use Rattle.isle_core.specs.declared.rules.Pattern.{Pattern as CodePattern}
use Rattle.isle_core.specs.declared.rules.Expr.{Expr as CodeExpr}
use Rattle.isle_core.specs.Pattern.{Pattern}
use Rattle.isle_core.specs.Expr.{Expr, Exprs, NoExpr, AnExpr}
use Rattle.isle_core.specs.RuleViews.{pattern as elaborated_pattern, expr as elaborated_expr, exprs_of}
use Rattle.isle_ast.specs.declared.tree.AstPattern.{AstPattern}
use Rattle.isle_ast.specs.declared.tree.AstExpr.{AstExpr}
use Rattle.isle_ast.specs.Tree.{Def}
use Rattle.isle_ast.specs.Views.{pattern, patterns_of as seen_patterns, expr, exprs_of as seen_exprs}
use Rattle.isle_terms.specs.declared.judged.Judged.{Judged}
use Rattle.isle_sema.specs.ElaboratedAt.{expr_trees, IsExprAt, AreExprsAt}
use Rattle.isle_terms.specs.Locals.{Bound, locals_of}
use Rattle.isle_terms.specs.Scope.{Local, Scope}
use Rattle.isle_terms.proofs.TermSteps.{before, one_before}
use Rattle.isle_terms.specs.Whole.{whole_of}
use Rattle.isle_sema.specs.PatternPass.{PatternPass, PatternsPass, pattern_pass, patterns_pass, first_expected, later_expected}
use Rattle.isle_terms.specs.TermPass.{tree_before}
use Rattle.isle_sema.specs.ExprPass.{ExprPass, ExprsPass, expr_pass, exprs_pass, expr_before}
use Rattle.isle_sema.specs.Judging.{judge, judge_all}
use Rattle.isle_terms.proofs.LocalLaws.{kept_locals}

-- ---- expected types

pub first_got : (tys : List TypeId) (i : ℕ) → first_expected (map Some (drop i tys)) ≡ slice_get tys i
first_got [] zero = refl
first_got [] (suc i) = refl
first_got (ty ∷ tys) zero = refl
first_got (ty ∷ tys) (suc i) = first_got tys i

later_by : (tys : List TypeId) (i : ℕ) → later_expected (map Some (drop i tys)) ≡ map Some (drop (suc i) tys)
later_by [] zero = refl
later_by [] (suc i) = refl
later_by (ty ∷ tys) zero = refl
later_by (ty ∷ tys) (suc i) = later_by tys i

pub later_got : (tys : List TypeId) (i : ℕ) → later_expected (map Some (drop i tys)) ≡ map Some (drop (i + 1) tys)
later_got tys i = let next : suc i ≡ i + 1 = omega arith in later_by tys i ∙ ap (λ n. map Some (drop n tys)) next

-- ---- trees in order

nothing_there : {X : Type 0} (b : Bool) (o : Option X) → o ≡ None → cond b o None ≡ None
nothing_there true o h = h
nothing_there false o h = refl

-- two tests of one value
pub same_cond : {X : Type 0} (o : Option X) (a b : Bool) → a ≡ b → cond a o None ≡ cond b o None
same_cond o a b h = ap (λ c. cond c o None) h

-- ---- patterns

-- the patterns from the i-th on
abbrev pub patterns_left : List Def → List TypeId → List AstPattern → ℕ → Scope → PatternsPass
patterns_left defs tys ps i vars = patterns_pass (whole_of defs) (map Some (drop i tys)) vars (seen_patterns (map pattern (drop i ps)))

-- what all patterns come to is what was made and what is left
pub record AreMade (defs : List Def) (all left : PatternsPass) (first now : Judged) (typed : List CodePattern) (complete : Bool) : Type 0 where
  pub trees : all.trees ≡ cond complete (before (map elaborated_pattern typed) left.trees) None
  pub scope : all.scope ≡ left.scope
  pub sites : judge_all (whole_of defs) first all.sites ≡ judge_all (whole_of defs) now left.sites

-- a pattern and the rest
abbrev patterns_joined : PatternPass → PatternsPass → PatternsPass
patterns_joined first rest = record { trees = tree_before first.tree rest.trees; scope = rest.scope; sites = first.sites ++ rest.sites }

patterns_are : (defs : List Def) (tys : List TypeId) (vars : Scope) (ps : List AstPattern) (i : ℕ) (p d : AstPattern) (expected : Option TypeId) → i < length ps → p ≡ get_or ps i d → expected ≡ slice_get tys i
    → patterns_left defs tys ps i vars ≡ patterns_joined (pattern_pass (whole_of defs) expected vars (pattern p)) (patterns_left defs tys ps (i + 1) (pattern_pass (whole_of defs) expected vars (pattern p)).scope)
patterns_are defs tys vars ps i p d expected lt is at =
    let w = whole_of defs in
    let others = seen_patterns (map pattern (drop (i + 1) ps)) in
    ap (λ xs. patterns_pass w (map Some (drop i tys)) vars (seen_patterns (map pattern xs))) (drop_more ps i d lt ∙ ap (λ y. y ∷ drop (i + 1) ps) (sym is))
    ∙ ap (λ ty. patterns_joined (pattern_pass w ty vars (pattern p)) (patterns_pass w (later_expected (map Some (drop i tys))) (pattern_pass w ty vars (pattern p)).scope others)) (first_got tys i ∙ sym at)
    ∙ ap (λ os. patterns_joined (pattern_pass w expected vars (pattern p)) (patterns_pass w os (pattern_pass w expected vars (pattern p)).scope others)) (later_got tys i)

-- one pattern more
pub patterns_more : (defs : List Def) (tys : List TypeId) (vars new : Scope) (ps : List AstPattern) (i : ℕ) (first now next : Judged) (typed more : List CodePattern) (complete after : Bool) (p d : AstPattern) (expected : Option TypeId) (all : PatternsPass)
    → i < length ps → p ≡ get_or ps i d → expected ≡ slice_get tys i → new ≡ (pattern_pass (whole_of defs) expected vars (pattern p)).scope → next ≡ judge_all (whole_of defs) now (pattern_pass (whole_of defs) expected vars (pattern p)).sites
    → ((rest : Option (List Pattern)) → cond complete (before (map elaborated_pattern typed) (tree_before (pattern_pass (whole_of defs) expected vars (pattern p)).tree rest)) None ≡ cond after (before (map elaborated_pattern more) rest) None)
    → AreMade defs all (patterns_left defs tys ps i vars) first now typed complete → AreMade defs all (patterns_left defs tys ps (i + 1) new) first next more after
patterns_more defs tys vars new ps i first now next typed more complete after p d expected all lt is at scope sites tree h =
    let w = whole_of defs in
    let one = pattern_pass w expected vars (pattern p) in
    let rest = patterns_left defs tys ps (i + 1) one.scope in
    let step = patterns_are defs tys vars ps i p d expected lt is at in
    rw scope (record {
      trees = h.trees ∙ ap (λ (x : PatternsPass). cond complete (before (map elaborated_pattern typed) x.trees) None) step ∙ tree rest.trees;
      scope = h.scope ∙ ap (λ (x : PatternsPass). x.scope) step;
      sites = h.sites ∙ ap (λ (x : PatternsPass). judge_all w now x.sites) step ∙ fold-append (judge w) now one.sites rest.sites ∙ ap (λ (j : Judged). judge_all w j rest.sites) (sym sites);
    })

-- a pattern with a tree
pub pattern_more : (typed more : List CodePattern) (x : CodePattern) (complete : Bool) (o : Option Pattern) → more ≡ typed ++ x ∷ [] → Some (elaborated_pattern x) ≡ o → (rest : Option (List Pattern))
    → cond complete (before (map elaborated_pattern typed) (tree_before o rest)) None ≡ cond complete (before (map elaborated_pattern more) rest) None
pattern_more typed more x complete o added is rest =
    ap (λ y. cond complete (before (map elaborated_pattern typed) (tree_before y rest)) None) (sym is)
    ∙ ap (λ y. cond complete y None) (one_before (map elaborated_pattern typed) (elaborated_pattern x) rest ∙ ap (λ ys. before ys rest) (sym (map-append elaborated_pattern typed (x ∷ [])) ∙ ap (map elaborated_pattern) (sym added)))

-- a pattern without one
pub pattern_missing : (typed : List CodePattern) (complete : Bool) (o : Option Pattern) → None ≡ o → (rest : Option (List Pattern))
    → cond complete (before (map elaborated_pattern typed) (tree_before o rest)) None ≡ cond false (before (map elaborated_pattern typed) rest) None
pattern_missing typed complete o is rest = ap (λ y. cond complete (before (map elaborated_pattern typed) (tree_before y rest)) None) (sym is) ∙ nothing_there complete (before (map elaborated_pattern typed) (tree_before None rest)) refl

-- after the last
pub patterns_all : (defs : List Def) (tys : List TypeId) (vars : Scope) (ps : List AstPattern) (i : ℕ) (first now : Judged) (typed : List CodePattern) (complete : Bool) (all : PatternsPass) → length ps ≤ i
    → AreMade defs all (patterns_left defs tys ps i vars) first now typed complete → (all.trees ≡ cond complete (Some (map elaborated_pattern typed)) None) × (all.scope ≡ vars) × (judge_all (whole_of defs) first all.sites ≡ now)
patterns_all defs tys vars ps i first now typed complete all le h =
    let none : patterns_left defs tys ps i vars ≡ record { trees = Some []; scope = vars; sites = [] } = ap (λ xs. patterns_pass (whole_of defs) (map Some (drop i tys)) vars (seen_patterns (map pattern xs))) (drop_all i ps le) in (
      h.trees ∙ ap (λ (x : PatternsPass). cond complete (before (map elaborated_pattern typed) x.trees) None) none ∙ ap (λ xs. cond complete (Some xs) None) (append-nil (map elaborated_pattern typed)),
      h.scope ∙ ap (λ (x : PatternsPass). x.scope) none,
      h.sites ∙ ap (λ (x : PatternsPass). judge_all (whole_of defs) now x.sites) none,
    )

-- ---- expressions

-- an expression list before others
abbrev pub all_before : List Expr → Exprs → Exprs
all_before [] es = es
all_before (x ∷ xs) es = AnExpr x (all_before xs es)

-- expressions before others
abbrev pub exprs_before : List Expr → Option Exprs → Option Exprs
exprs_before xs o = option_map (all_before xs) o

all_more : (xs : List Expr) (x : Expr) (es : Exprs) → all_before xs (AnExpr x es) ≡ all_before (xs ++ x ∷ []) es
all_more [] x es = refl
all_more (first ∷ xs) x es = ap (AnExpr first) (all_more xs x es)

all_end : (xs : List Expr) → all_before xs NoExpr ≡ exprs_of xs
all_end [] = refl
all_end (x ∷ xs) = ap (AnExpr x) (all_end xs)

one_expr : (xs : List Expr) (x : Expr) (o : Option Exprs) → exprs_before xs (expr_before (Some x) o) ≡ exprs_before (xs ++ x ∷ []) o
one_expr xs x None = refl
one_expr xs x (Some r) = ap Some (all_more xs x r)

-- the expressions from the i-th on
abbrev pub exprs_left : List Def → List TypeId → List Local → ℕ → List AstExpr → ℕ → ExprsPass
exprs_left defs tys locals next es i = exprs_pass (whole_of defs) locals next (map Some (drop i tys)) (seen_exprs (map expr (drop i es)))

-- what all expressions come to is what was made and what is left
pub record ExprsMade (defs : List Def) (all left : ExprsPass) (first now : Judged) (typed : List CodeExpr) (complete : Bool) : Type 0 where
  pub trees : all.trees ≡ cond complete (exprs_before (map elaborated_expr typed) left.trees) None
  pub next : all.next ≡ left.next
  pub sites : judge_all (whole_of defs) first all.sites ≡ judge_all (whole_of defs) now left.sites

-- an expression and the rest
abbrev exprs_joined : ExprPass → ExprsPass → ExprsPass
exprs_joined first rest = record { trees = expr_before first.tree rest.trees; next = rest.next; sites = first.sites ++ rest.sites }

exprs_are : (defs : List Def) (tys : List TypeId) (locals : List Local) (next : ℕ) (es : List AstExpr) (i : ℕ) (e d : AstExpr) (expected : Option TypeId) → i < length es → e ≡ get_or es i d → expected ≡ slice_get tys i
    → exprs_left defs tys locals next es i ≡ exprs_joined (expr_pass (whole_of defs) locals next expected (expr e)) (exprs_left defs tys locals (expr_pass (whole_of defs) locals next expected (expr e)).next es (i + 1))
exprs_are defs tys locals next es i e d expected lt is at =
    let w = whole_of defs in
    let others = seen_exprs (map expr (drop (i + 1) es)) in
    ap (λ xs. exprs_pass w locals next (map Some (drop i tys)) (seen_exprs (map expr xs))) (drop_more es i d lt ∙ ap (λ y. y ∷ drop (i + 1) es) (sym is))
    ∙ ap (λ ty. exprs_joined (expr_pass w locals next ty (expr e)) (exprs_pass w locals (expr_pass w locals next ty (expr e)).next (later_expected (map Some (drop i tys))) others)) (first_got tys i ∙ sym at)
    ∙ ap (λ os. exprs_joined (expr_pass w locals next expected (expr e)) (exprs_pass w locals (expr_pass w locals next expected (expr e)).next os others)) (later_got tys i)

-- the same at the variables that are in scope, which stay
pub record AreExprsMade (defs : List Def) (tys : List TypeId) (es : List AstExpr) (i : ℕ) (start now : Bound) (first judged : Judged) (typed : List CodeExpr) (complete : Bool) : Type 0 where
  pub made : ExprsMade defs (exprs_pass (whole_of defs) (locals_of start) start.next (map Some tys) (seen_exprs (map expr es))) (exprs_left defs tys (locals_of start) now.next es i) first judged typed complete
  pub patterns : now.patterns ≡ start.patterns
  pub lets : now.lets ≡ start.lets

-- one expression more
pub exprs_more : (defs : List Def) (tys : List TypeId) (es : List AstExpr) (i : ℕ) (start now new : Bound) (first judged after : Judged) (typed more : List CodeExpr) (complete whole : Bool) (e d : AstExpr) (expected : Option TypeId) (found : Option CodeExpr)
    → i < length es → e ≡ get_or es i d → expected ≡ slice_get tys i → IsExprAt (whole_of defs) expected (expr e) now new judged after found
    → ((rest : Option Exprs) → cond complete (exprs_before (map elaborated_expr typed) (expr_before (option_map elaborated_expr found) rest)) None ≡ cond whole (exprs_before (map elaborated_expr more) rest) None)
    → AreExprsMade defs tys es i start now first judged typed complete → AreExprsMade defs tys es (i + 1) start new first after more whole
exprs_more defs tys es i start now new first judged after typed more complete whole e d expected found lt is at k tree h =
    let w = whole_of defs in
    let same = kept_locals start now h.patterns h.lets in
    let one = expr_pass w (locals_of start) now.next expected (expr e) in
    let rest = exprs_left defs tys (locals_of start) one.next es (i + 1) in
    let step = exprs_are defs tys (locals_of start) now.next es i e d expected lt is at in
    let tree_is : one.tree ≡ option_map elaborated_expr found = sym (k.tree ∙ ap (λ (ls : List Local). (expr_pass w ls now.next expected (expr e)).tree) same) in
    let sites : after ≡ judge_all w judged one.sites = k.sites ∙ ap (λ (ls : List Local). judge_all w judged (expr_pass w ls now.next expected (expr e)).sites) same in
    let made : ExprsMade defs (exprs_pass w (locals_of start) start.next (map Some tys) (seen_exprs (map expr es))) rest first after more whole = record {
      trees = h.made.trees ∙ ap (λ (x : ExprsPass). cond complete (exprs_before (map elaborated_expr typed) x.trees) None) step ∙ ap (λ o. cond complete (exprs_before (map elaborated_expr typed) (expr_before o rest.trees)) None) tree_is ∙ tree rest.trees;
      next = h.made.next ∙ ap (λ (x : ExprsPass). x.next) step;
      sites = h.made.sites ∙ ap (λ (x : ExprsPass). judge_all w judged x.sites) step ∙ fold-append (judge w) judged one.sites rest.sites ∙ ap (λ (j : Judged). judge_all w j rest.sites) (sym sites);
    } in
    let moved : one.next ≡ new.next = sym (k.next ∙ ap (λ (ls : List Local). (expr_pass w ls now.next expected (expr e)).next) same) in
    record {
      made = subst (λ n. ExprsMade defs (exprs_pass w (locals_of start) start.next (map Some tys) (seen_exprs (map expr es))) (exprs_left defs tys (locals_of start) n es (i + 1)) first after more whole) moved made;
      patterns = k.patterns ∙ h.patterns;
      lets = k.lets ∙ h.lets;
    }

-- an expression with a tree
pub expr_more : (typed more : List CodeExpr) (x : CodeExpr) (complete : Bool) (o : Option Expr) → more ≡ typed ++ x ∷ [] → Some (elaborated_expr x) ≡ o → (rest : Option Exprs)
    → cond complete (exprs_before (map elaborated_expr typed) (expr_before o rest)) None ≡ cond complete (exprs_before (map elaborated_expr more) rest) None
expr_more typed more x complete o added is rest =
    ap (λ y. cond complete (exprs_before (map elaborated_expr typed) (expr_before y rest)) None) (sym is)
    ∙ ap (λ y. cond complete y None) (one_expr (map elaborated_expr typed) (elaborated_expr x) rest ∙ ap (λ ys. exprs_before ys rest) (sym (map-append elaborated_expr typed (x ∷ [])) ∙ ap (map elaborated_expr) (sym added)))

-- an expression without one
pub expr_missing : (typed : List CodeExpr) (complete : Bool) (o : Option Expr) → None ≡ o → (rest : Option Exprs)
    → cond complete (exprs_before (map elaborated_expr typed) (expr_before o rest)) None ≡ cond false (exprs_before (map elaborated_expr typed) rest) None
expr_missing typed complete o is rest = ap (λ y. cond complete (exprs_before (map elaborated_expr typed) (expr_before y rest)) None) (sym is) ∙ nothing_there complete (exprs_before (map elaborated_expr typed) (expr_before None rest)) refl

-- after the last
pub exprs_all : (defs : List Def) (tys : List TypeId) (es : List AstExpr) (i : ℕ) (start now : Bound) (first judged : Judged) (typed : List CodeExpr) (complete : Bool) (found : Option (Vec CodeExpr)) → length es ≤ i
    → expr_trees found ≡ cond complete (Some (exprs_of (map elaborated_expr typed))) None → AreExprsMade defs tys es i start now first judged typed complete → AreExprsAt (whole_of defs) tys (seen_exprs (map expr es)) start now first judged found
exprs_all defs tys es i start now first judged typed complete found le is h =
    let none : exprs_left defs tys (locals_of start) now.next es i ≡ record { trees = Some NoExpr; next = now.next; sites = [] } =
    ap (λ xs. exprs_pass (whole_of defs) (locals_of start) now.next (map Some (drop i tys)) (seen_exprs (map expr xs))) (drop_all i es le) in
    record {
      trees = is ∙ sym (h.made.trees ∙ ap (λ (x : ExprsPass). cond complete (exprs_before (map elaborated_expr typed) x.trees) None) none ∙ ap (λ xs. cond complete (Some xs) None) (all_end (map elaborated_expr typed)));
      patterns = h.patterns;
      lets = h.lets;
      next = sym (h.made.next ∙ ap (λ (x : ExprsPass). x.next) none);
      sites = sym (h.made.sites ∙ ap (λ (x : ExprsPass). judge_all (whole_of defs) judged x.sites) none);
    }
