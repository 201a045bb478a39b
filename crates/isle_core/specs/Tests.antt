-- What a rule tests of paths, and where its variables stand.
use Rattle.std.specs.Prelude.{ℕ, suc, List, [], ◌∷◌, ◌++◌, Bool, true, false, Option, Some, None, if◌then◌else◌}
use Rattle.isle_core.specs.declared.rule_sets.Constraint.{Constraint}
use Rattle.isle_core.specs.declared.rule_sets.Constraint.TheVariants as constraint
use Rattle.isle_core.specs.Pattern as pattern
use Rattle.isle_core.specs.Pattern.{Pattern, Patterns, NoPattern, APattern}
use Rattle.isle_core.specs.Calling.{Calling, calling, is_fallible, answers_often}
use Rattle.isle_core.specs.Expr as expr
use Rattle.isle_core.specs.Expr.{Expr, Exprs, NoExpr, AnExpr, LetBindings, NoBinding, ABinding}
use Rattle.isle_core.specs.Opening.{Opening, AsVariant, AsStruct, ByExtractor, opening, part_path}
use Rattle.isle_core.specs.Match.{with}
use Rattle.isle_core.specs.Path.{Path, Arg, Extracted}
pub use Rattle.isle_core.specs.RightSide.{Places, no_places}
use Rattle.isle_core.specs.RightSide.{call_path, path, paths, let_places}
use Rattle.isle_core.specs.Rule.{Environment, IfLet, Rule}

-- a constraint on a path, that two paths hold equal values, or that the list at a path has the chosen item; what stands in a loop over the
-- list needs no such test, so no rule set has it
pub data Test : Type 0 where
  Is : Path → Constraint → Test
  Equal : Path → Path → Test
  HasItem : Path → Test

-- whether a test is a constraint
abbrev pub is_constraint : Test → Bool
is_constraint (Is p c) = true
is_constraint (Equal p q) = false
is_constraint (HasItem p) = false

-- a variable met again equates its path with this one
abbrev pub met_tests : Option Path → Path → List Test
met_tests None p = []
met_tests (Some q) p = Equal q p ∷ []

-- a variable met first stands at this path
abbrev pub met_after : Option Path → ℕ → Path → Places → Places
met_after None x p places = with places x p
met_after (Some q) x p places = places

-- what may be nothing is something, and what answers several times has the chosen item
abbrev pub found_tests : Calling → Path → List Test
found_tests c p = if answers_often c then HasItem p ∷ [] else if is_fallible c then Is p constraint.Some ∷ [] else []

-- what is asked of a path before a term's pattern takes it apart
abbrev pub opening_tests : Opening → Path → List Test
opening_tests (AsVariant ty variant) p = Is p (constraint.Variant ty variant) ∷ []
opening_tests (AsStruct ty) p = Is p (constraint.Struct ty) ∷ []
opening_tests (ByExtractor term c count) p = found_tests c (Extracted term p)

-- the paths of variables after a pattern on a path
abbrev mutual
  pub after : Environment → Pattern → Path → Places → Places
  after env (pattern.Var ty x) p places = met_after (places x.0) x.0 p places
  after env (pattern.ConstBool b) p places = places
  after env (pattern.ConstInt ty n) p places = places
  after env (pattern.ConstPrim ty name) p places = places
  after env (pattern.Wildcard ty) p places = places
  after env (pattern.Term ty term qs) p places = after_parts env (opening env term) qs 0 p places
  after env (pattern.BindPattern ty x q) p places = after env q p (met_after (places x.0) x.0 p places)
  after env (pattern.And ty qs) p places = after_each env qs p places

  -- after the parts of what is taken apart, from the i-th on
  pub after_parts : Environment → Opening → Patterns → ℕ → Path → Places → Places
  after_parts env opened NoPattern i p places = places
  after_parts env opened (APattern q qs) i p places = after_parts env opened qs (suc i) p (after env q (part_path opened i p) places)

  -- after several patterns on one path
  pub after_each : Environment → Patterns → Path → Places → Places
  after_each env NoPattern p places = places
  after_each env (APattern q qs) p places = after_each env qs p (after env q p places)

-- the tests that a pattern puts on the path that it is matched against
abbrev mutual
  pub tests : Environment → Pattern → Path → Places → List Test
  tests env (pattern.Var ty x) p places = met_tests (places x.0) p
  tests env (pattern.ConstBool b) p places = Is p (constraint.ConstBool b) ∷ []
  tests env (pattern.ConstInt ty n) p places = Is p (constraint.ConstInt n ty) ∷ []
  tests env (pattern.ConstPrim ty name) p places = Is p (constraint.ConstPrim name) ∷ []
  tests env (pattern.Wildcard ty) p places = []
  tests env (pattern.Term ty term qs) p places = opening_tests (opening env term) p ++ parts_tests env (opening env term) qs 0 p places
  tests env (pattern.BindPattern ty x q) p places = met_tests (places x.0) p ++ tests env q p (met_after (places x.0) x.0 p places)
  tests env (pattern.And ty qs) p places = each_tests env qs p places

  -- those of the parts of what is taken apart, from the i-th on
  pub parts_tests : Environment → Opening → Patterns → ℕ → Path → Places → List Test
  parts_tests env opened NoPattern i p places = []
  parts_tests env opened (APattern q qs) i p places = tests env q (part_path opened i p) places ++ parts_tests env opened qs (suc i) p (after env q (part_path opened i p) places)

  -- those of several patterns on one path
  pub each_tests : Environment → Patterns → Path → Places → List Test
  each_tests env NoPattern p places = []
  each_tests env (APattern q qs) p places = tests env q p places ++ each_tests env qs p (after env q p places)

-- the tests of patterns on the arguments from the i-th on
abbrev pub args_tests : Environment → List Pattern → ℕ → Places → List Test
args_tests env [] i places = []
args_tests env (q ∷ qs) i places = tests env q (Arg i) places ++ args_tests env qs (suc i) (after env q (Arg i) places)

-- the paths of variables after them
abbrev pub args_after : Environment → List Pattern → ℕ → Places → Places
args_after env [] i places = places
args_after env (q ∷ qs) i places = args_after env qs (suc i) (after env q (Arg i) places)

-- that each call of a condition's expression finds something, if it may be nothing
abbrev mutual
  pub called_tests : Environment → Expr → Places → List Test
  called_tests env (expr.Term ty term es) places = all_called_tests env es places ++ found_tests (calling env term) (call_path env term (paths env es places 0) 0)
  called_tests env (expr.Var ty x) places = []
  called_tests env (expr.ConstBool b) places = []
  called_tests env (expr.ConstInt ty n) places = []
  called_tests env (expr.ConstPrim ty name) places = []
  called_tests env (expr.Let ty bs inner) places = bindings_called_tests env bs places ++ called_tests env inner (let_places env bs places 0)

  -- so of expressions in order
  pub all_called_tests : Environment → Exprs → Places → List Test
  all_called_tests env NoExpr places = []
  all_called_tests env (AnExpr e es) places = called_tests env e places ++ all_called_tests env es places

  -- so of the values of a `let`
  pub bindings_called_tests : Environment → LetBindings → Places → List Test
  bindings_called_tests env NoBinding places = []
  bindings_called_tests env (ABinding x ty e more) places = called_tests env e places ++ bindings_called_tests env more (with places x.0 (path env e places 0))

-- the tests of conditions, whose expressions make no impure call: the calls of each, and then its pattern on the expression's path
abbrev pub iflets_tests : Environment → List IfLet → Places → List Test
iflets_tests env [] places = []
iflets_tests env (c ∷ cs) places = (called_tests env c.rhs places ++ tests env c.lhs (path env c.rhs places 0) places) ++ iflets_tests env cs (after env c.lhs (path env c.rhs places 0) places)

-- the paths of variables after them
abbrev pub iflets_after : Environment → List IfLet → Places → Places
iflets_after env [] places = places
iflets_after env (c ∷ cs) places = iflets_after env cs (after env c.lhs (path env c.rhs places 0) places)

-- the tests of a rule
abbrev pub rule_tests : Environment → Rule → List Test
rule_tests env r = args_tests env r.args 0 no_places ++ iflets_tests env r.iflets (args_after env r.args 0 no_places)

-- the paths of a rule's variables
abbrev pub rule_places : Environment → Rule → Places
rule_places env r = iflets_after env r.iflets (args_after env r.args 0 no_places)

-- the path of a rule's result
abbrev pub rule_result : Environment → Rule → ℕ → Path
rule_result env r n = path env r.rhs (rule_places env r) n
