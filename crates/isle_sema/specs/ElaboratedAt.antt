-- What the code gives of patterns and expressions: their trees, the variables and what the rows say are those of the pass.
use denote.Ref.{Bor}
use Rattle.std.specs.Prelude.{◌≡◌, ℕ, suc, Bool, List, [], ◌∷◌, length, take, map, Option, Some, None, option_map, replicate}
use Rattle.std.specs.Global.{Vec}
use Rattle.isle_core.specs.declared.TypeId.{TypeId}
use Rattle.isle_core.specs.declared.rules.Pattern.{Pattern as CodePattern}
use Rattle.isle_core.specs.declared.rules.Expr.{Expr as CodeExpr}
use Rattle.isle_core.specs.declared.rules.LetBinding.{LetBinding}
use Rattle.isle_core.specs.declared.rules.IfLet.{IfLet as CodeIfLet}
use Rattle.isle_core.specs.Pattern.{Pattern as CorePattern}
use Rattle.isle_core.specs.Expr.{Exprs as CoreExprs, LetBindings}
use Rattle.isle_core.specs.Rule.{IfLet as CoreIfLet}
use Rattle.isle_core.specs.RuleViews.{pattern as elaborated_pattern, expr as elaborated_expr, iflet as elaborated_iflet, exprs_of, SeenBinding, bindings_of}
use Rattle.isle_ast.specs.Tree.{Pattern, Patterns, Expr, Exprs, Lets, IfLet}
use Rattle.isle_terms.specs.declared.judged.Judged.{Judged}
use Rattle.isle_sema.specs.declared.sides.Sides.{Sides}
use Rattle.isle_declarations.specs.Signatures.{RuleDef}
use Rattle.isle_terms.specs.Locals.{Bound, of_patterns, locals_of, bound_local}
use Rattle.isle_terms.specs.Scope.{Scope}
use Rattle.isle_sema.specs.Site.{BoundAt}
use Rattle.isle_terms.specs.TypeNames.{type_named}
use Rattle.isle_terms.specs.Whole.{Whole}
use Rattle.isle_sema.specs.PatternPass.{pattern_pass, patterns_pass}
use Rattle.isle_sema.specs.ExprPass.{binding_tree, expr_pass, exprs_pass, lets_pass}
use Rattle.isle_sema.specs.RulePass.{patterns_of, condition_pass, conditions_pass, conditions_of, right_side_of, left_of}
use Rattle.isle_sema.specs.Judging.{unjudged, judge_all}

-- the trees of patterns, if they are there
abbrev pub pattern_trees : Option (Vec CodePattern) → Option (List CorePattern)
pattern_trees found = option_map (λ (ps : Vec CodePattern). map elaborated_pattern ps.items) found

-- the trees of expressions
abbrev pub expr_trees : Option (Vec CodeExpr) → Option CoreExprs
expr_trees found = option_map (λ (es : Vec CodeExpr). exprs_of (map elaborated_expr es.items)) found

-- a variable of a `let` with its type and its value
abbrev pub seen_binding : LetBinding → SeenBinding
seen_binding b = (b.var, b.ty, elaborated_expr b.val)

-- the trees of variables of a `let`
abbrev pub binding_trees : Option (Vec LetBinding) → Option LetBindings
binding_trees found = option_map (λ (bs : Vec LetBinding). bindings_of (map seen_binding bs.items)) found

-- a type so many times, or none if there is none
abbrev pub copies : Option TypeId → ℕ → List TypeId
copies None count = []
copies (Some ty) count = replicate count ty

-- a pattern where this type is expected, from these variables to those
pub record IsPatternAt (w : Whole) (expected : Option TypeId) (p : Pattern) (old new : Scope) (before after : Judged) (found : Option CodePattern) : Type 0 where
  pub tree : option_map elaborated_pattern found ≡ (pattern_pass w expected old p).tree
  pub scope : new ≡ (pattern_pass w expected old p).scope
  pub sites : after ≡ judge_all w before (pattern_pass w expected old p).sites

-- patterns where these types are expected
pub record ArePatternsAt (w : Whole) (types : List TypeId) (ps : Patterns) (old new : Scope) (before after : Judged) (found : Option (Vec CodePattern)) : Type 0 where
  pub trees : pattern_trees found ≡ (patterns_pass w (map Some types) old ps).trees
  pub scope : new ≡ (patterns_pass w (map Some types) old ps).scope
  pub sites : after ≡ judge_all w before (patterns_pass w (map Some types) old ps).sites

-- an expression where this type is expected, from these variables on; those that are in scope stay
pub record IsExprAt (w : Whole) (expected : Option TypeId) (e : Expr) (old new : Bound) (before after : Judged) (found : Option CodeExpr) : Type 0 where
  pub tree : option_map elaborated_expr found ≡ (expr_pass w (locals_of old) old.next expected e).tree
  pub patterns : new.patterns ≡ old.patterns
  pub lets : new.lets ≡ old.lets
  pub next : new.next ≡ (expr_pass w (locals_of old) old.next expected e).next
  pub sites : after ≡ judge_all w before (expr_pass w (locals_of old) old.next expected e).sites

-- expressions where these types are expected
pub record AreExprsAt (w : Whole) (types : List TypeId) (es : Exprs) (old new : Bound) (before after : Judged) (found : Option (Vec CodeExpr)) : Type 0 where
  pub trees : expr_trees found ≡ (exprs_pass w (locals_of old) old.next (map Some types) es).trees
  pub patterns : new.patterns ≡ old.patterns
  pub lets : new.lets ≡ old.lets
  pub next : new.next ≡ (exprs_pass w (locals_of old) old.next (map Some types) es).next
  pub sites : after ≡ judge_all w before (exprs_pass w (locals_of old) old.next (map Some types) es).sites

-- a variable of a `let`, which joins those in scope
pub record IsBindingAt (w : Whole) (var ty : List ℕ) (e : Expr) (old new : Bound) (before after : Judged) (found : Option LetBinding) : Type 0 where
  pub tree : option_map seen_binding found ≡ binding_tree old.next (type_named w.defs ty) (expr_pass w (locals_of old) (suc old.next) (type_named w.defs ty) e).tree
  pub patterns : new.patterns ≡ old.patterns
  pub lets : new.lets ≡ bound_local old.lets var (type_named w.defs ty) old.next
  pub next : new.next ≡ (expr_pass w (locals_of old) (suc old.next) (type_named w.defs ty) e).next
  pub sites : after ≡ judge_all w before (BoundAt (type_named w.defs ty) ∷ (expr_pass w (locals_of old) (suc old.next) (type_named w.defs ty) e).sites)

-- the variables of a `let`, which join those in scope
pub record AreBindingsAt (w : Whole) (ls : Lets) (old new : Bound) (before after : Judged) (found : Option (Vec LetBinding)) : Type 0 where
  pub trees : binding_trees found ≡ (lets_pass w (locals_of old) old.next ls).trees
  pub patterns : new.patterns ≡ old.patterns
  pub outer : take (length old.lets) new.lets ≡ old.lets
  pub locals : locals_of new ≡ (lets_pass w (locals_of old) old.next ls).locals
  pub next : new.next ≡ (lets_pass w (locals_of old) old.next ls).next
  pub sites : after ≡ judge_all w before (lets_pass w (locals_of old) old.next ls).sites

-- the tree of a condition
abbrev pub condition_tree : Option CodeIfLet → Option CoreIfLet
condition_tree found = option_map elaborated_iflet found

-- the trees of conditions
abbrev pub condition_trees : Option (Vec CodeIfLet) → Option (List CoreIfLet)
condition_trees found = option_map (λ (cs : Vec CodeIfLet). map elaborated_iflet cs.items) found

-- an expression over the variables of patterns, from this number on to that
pub record IsExprOver (w : Whole) (expected : Option TypeId) (e : Expr) (scope : Scope) (start : ℕ) (before after : Judged) (found : Option CodeExpr × ℕ) : Type 0 where
  pub tree : option_map elaborated_expr found.0 ≡ (expr_pass w (of_patterns scope) start expected e).tree
  pub next : found.1 ≡ (expr_pass w (of_patterns scope) start expected e).next
  pub sites : after ≡ judge_all w before (expr_pass w (of_patterns scope) start expected e).sites

-- a condition, from these variables to those
pub record IsConditionAt (w : Whole) (c : IfLet) (old new : Scope) (before after : Judged) (found : Option CodeIfLet) : Type 0 where
  pub tree : condition_tree found ≡ (condition_pass w old c).tree
  pub scope : new ≡ (condition_pass w old c).scope
  pub sites : after ≡ judge_all w before (condition_pass w old c).sites

-- conditions in order
pub record AreConditionsAt (w : Whole) (cs : List IfLet) (old new : Scope) (before after : Judged) (found : Option (Vec CodeIfLet)) : Type 0 where
  pub trees : condition_trees found ≡ (conditions_pass w old cs).trees
  pub scope : new ≡ (conditions_pass w old cs).scope
  pub sites : after ≡ judge_all w before (conditions_pass w old cs).sites

-- both sides of a rule, and its conditions, over these marks of terms
pub record AreSides (w : Whole) (r : RuleDef) (multis : Bor (List Bool)) (sides : Sides) : Type 0 where
  pub trees : pattern_trees sides.args ≡ (patterns_of w r).trees
  pub tree : option_map elaborated_expr sides.rhs ≡ (right_side_of w r).tree
  pub conditions : condition_trees sides.iflets ≡ (conditions_of w r).trees
  pub left : sides.left.rows ≡ judge_all w (unjudged multis) (left_of w r)
  pub right : sides.right.rows ≡ judge_all w (unjudged multis) (right_side_of w r).sites
