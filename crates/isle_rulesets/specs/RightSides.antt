-- How the right side of a rule is numbered.
use Rattle.std.specs.Prelude.{◌≡◌, ◌⊎◌, ℕ, ◌+◌, List, [], ◌∷◌, ◌++◌, Bool, true, false, Option, Some, None, map, slice_get, Contains}
use Rattle.std.specs.List.{AllByRecursion}
use Rattle.isle_core.specs.declared.BindingId.{BindingId}
use Rattle.isle_core.specs.declared.types.Term.{Term}
use Rattle.isle_core.specs.declared.types.TermKind.{TermKind}
use Rattle.isle_core.specs.declared.types.TermKind.TheVariants as kind
use Rattle.isle_core.specs.declared.types.ReturnKind.{ReturnKind}
use Rattle.isle_core.specs.declared.types.ReturnKind.TheVariants as return_kind
use Rattle.isle_core.specs.declared.rules.LetBinding.{LetBinding}
use Rattle.isle_core.specs.Expr.{Expr, Exprs, LetBindings}
use Rattle.isle_core.specs.RuleViews.{SeenBinding, expr}
use Rattle.isle_core.specs.Path.{Path, Paths, NoPath, APath, at, paths_of}
use Rattle.isle_core.specs.Calling.{Calling, one_more, impure, impure_all, impure_bindings}
use Rattle.isle_core.specs.RightSide.{path, paths, answer_path, let_places}
use Rattle.isle_core.specs.RulePaths.{expr_paths, exprs_paths, bindings_paths, with_inner}
use Rattle.isle_core.specs.Scope.{let_scope}
use Rattle.isle_core.specs.Tests.{Places}
use Rattle.isle_core.specs.Rule.{Environment}
use Rattle.isle_scope.specs.Table.{held}
use Rattle.isle_rulesets.specs.Keys.{IsThere}
use Rattle.isle_rulesets.specs.Late.{has_turn}
use Rattle.isle_rulesets.specs.Met.{call_met, list_met, expr_calls, exprs_calls, bindings_calls, expr_lists, exprs_lists, bindings_lists}
use Rattle.isle_rulesets.specs.Numbering.{Numbered, Extends, MeetsLists}

-- whether a term of this kind is pure
abbrev pub is_pure : TermKind → Bool
is_pure (kind.Variant ty variant) = false
is_pure (kind.Struct ty) = false
is_pure (kind.Decl pure multi partial recursive constructor extractor) = pure

-- the place of a pure call counts: of one that may be nothing, and of a list that has an impure call within it
abbrev pub pure_counts : ReturnKind → Path → Bool
pure_counts return_kind.Plain p = false
pure_counts return_kind.Option p = true
pure_counts return_kind.Iterator p = has_turn p

-- variables with their numbers, in the order in which they were bound
abbrev pub Variables : Type 0
Variables = List (ℕ × BindingId)

-- the variables that have numbers
abbrev pub names : Variables → List ℕ
names variables = map (λ (b : ℕ × BindingId). b.0) variables

-- a variable of a `let` with its type and its value
abbrev pub bound : LetBinding → SeenBinding
bound b = (b.var, b.ty, expr b.val)

-- a variable's number stands for its path
abbrev pub StandsAt : List Path → Option BindingId → Option Path → Type 0
StandsAt ps None None = Unit {0}
StandsAt ps (Some b) (Some p) = slice_get ps b.0 ≡ Some p
StandsAt ps None (Some p) = ⊥
StandsAt ps (Some b) None = ⊥

-- so of each variable
pub record Stand (ps : List Path) (variables : Variables) (places : Places) : Type 0 where
  pub by : (x : ℕ) → StandsAt ps (held variables x) (places x)

-- a path stands at the number of each variable
pub record AreThere (ps : List Path) (variables : Variables) : Type 0 where
  pub by : (x : ℕ) (b : BindingId) → held variables x ≡ Some b → IsThere ps b

-- these paths are numbered and nothing else was, these calls, of which so many count, stand in order after those before, a
-- path stands at the number of each, and these lists were met
pub record Grows (old new : Numbered) (before after : List BindingId) (ps cs ls : List Path) (more : ℕ) : Type 0 where
  pub extends : Extends (paths_of old.bindings) (paths_of new.bindings)
  pub only : (p : Path) → Contains (paths_of new.bindings) p → Contains (paths_of old.bindings) p ⊎ Contains ps p
  pub all : (p : Path) → Contains ps p → Contains (paths_of new.bindings) p
  pub ordered : (qs : List Path) → Extends (paths_of new.bindings) qs → map (at qs) after ≡ map (at qs) before ++ cs
  pub there : AllByRecursion (IsThere (paths_of old.bindings)) before → AllByRecursion (IsThere (paths_of new.bindings)) after
  pub calls : new.calls ≡ old.calls + more
  pub lists : MeetsLists old new ls

-- what a term makes of numbers, or its call on them, was numbered, and its value has this number
pub record NumbersTerm (old new : Numbered) (before after : List BindingId) (c : Calling) (p : Path) (b : BindingId) : Type 0 where
  pub grows : Grows old new before after (with_inner c p) (call_met c p) (list_met c p) (one_more c 0)
  pub found : slice_get (paths_of new.bindings) b.0 ≡ Some (answer_path c p)

-- an expression was numbered, and its value has this number
pub record NumbersExpr (env : Environment) (places : Places) (old new : Numbered) (before after : List BindingId) (e : Expr) (b : BindingId) : Type 0 where
  pub grows : Grows old new before after (expr_paths env e places old.calls) (expr_calls env e places old.calls) (expr_lists env e places old.calls) (impure env e)
  pub found : slice_get (paths_of new.bindings) b.0 ≡ Some (path env e places old.calls)

-- paths stand at numbers, in order
abbrev pub AllAt : List Path → List BindingId → Paths → Type 0
AllAt ps [] NoPath = Unit {0}
AllAt ps (b ∷ bs) (APath q qs) = (slice_get ps b.0 ≡ Some q) × AllAt ps bs qs
AllAt ps [] (APath q qs) = ⊥
AllAt ps (b ∷ bs) NoPath = ⊥

-- expressions were numbered in order, and their values have these numbers
pub record NumbersExprs (env : Environment) (places : Places) (old new : Numbered) (before after : List BindingId) (es : Exprs) (bs : List BindingId) : Type 0 where
  pub grows : Grows old new before after (exprs_paths env es places old.calls) (exprs_calls env es places old.calls) (exprs_lists env es places old.calls) (impure_all env es)
  pub found : AllAt (paths_of new.bindings) bs (paths env es places old.calls)

-- the values of a `let` were numbered in order, and after them the variables have these numbers
pub record NumbersLets (env : Environment) (places : Places) (variables : Variables) (old new : Numbered) (before after : List BindingId) (bs : LetBindings) : Type 0 where
  pub grows : Grows old new before after (bindings_paths env bs places old.calls) (bindings_calls env bs places old.calls) (bindings_lists env bs places old.calls) (impure_bindings env bs)
  pub stand : Stand (paths_of new.bindings) variables (let_places env bs places old.calls)

-- ---- for each environment of these terms, and wherever the variables stand

-- an expression was numbered
abbrev pub Given : List Term → Variables → Numbered → Numbered → List BindingId → List BindingId → Expr → BindingId → Type 0
Given terms variables old new before after e b = (env : Environment) (places : Places) → env.terms ≡ terms → Stand (paths_of old.bindings) variables places → NumbersExpr env places old new before after e b

-- so of expressions in order
abbrev pub AllGiven : List Term → Variables → Numbered → Numbered → List BindingId → List BindingId → Exprs → List BindingId → Type 0
AllGiven terms variables old new before after es bs = (env : Environment) (places : Places) → env.terms ≡ terms → Stand (paths_of old.bindings) variables places → NumbersExprs env places old new before after es bs

-- the variables of a `let` joined those before, with the numbers of their values
pub record Binds (terms : List Term) (variables then : Variables) (old new : Numbered) (before after : List BindingId) (bs : LetBindings) : Type 0 where
  pub more : Variables
  pub longer : then ≡ variables ++ more
  pub known : names then ≡ let_scope (names variables) bs
  pub numbers : (env : Environment) (places : Places) → env.terms ≡ terms → Stand (paths_of old.bindings) variables places → NumbersLets env places then old new before after bs
