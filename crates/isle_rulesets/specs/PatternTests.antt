-- What a rule tests, as bindings tell it.
use Rattle.std.specs.Prelude.{◌≡◌, ℕ, List, ◌++◌, Bool, true, false, Option, Some, None, map, filter, slice_get}
use Rattle.isle_core.specs.declared.BindingId.{BindingId}
use Rattle.isle_core.specs.declared.TermId.{TermId}
use Rattle.isle_core.specs.Opening.{Opening, opening}
use Rattle.isle_core.specs.Pattern.{Pattern, Patterns}
use Rattle.isle_core.specs.Path.{Path, at, paths_of}
use Rattle.isle_core.specs.RulePaths.{opening_paths, pattern_paths, parts_paths, each_paths, args_paths}
use Rattle.isle_core.specs.Tests.{Test, Is, Equal, HasItem, is_constraint, Places, no_places, opening_tests, tests, parts_tests, each_tests, after, after_parts, after_each, args_tests, args_after}
use Rattle.isle_core.specs.RuleSet.{is_test, equal_test}
use Rattle.isle_core.specs.Rule.{Environment}
use Rattle.isle_scope.specs.Table.{held}
use Rattle.isle_rulesets.specs.declared.pattern_tests.PatternTests.{PatternTests}
use Rattle.isle_rulesets.specs.Met.{opening_lists, pattern_lists, parts_lists, each_lists, args_lists}
use Rattle.isle_rulesets.specs.Numbering.{Extends, Joins, Numbered}

-- whether a test is an equality
abbrev pub is_equality : Test → Bool
is_equality (Is p c) = false
is_equality (Equal p q) = true
is_equality (HasItem p) = false

-- the path of a number, if there is one
abbrev pub path_at : List Path → Option BindingId → Option Path
path_at ps None = None
path_at ps (Some b) = Some (at ps b)

-- each variable's number stands for its path
pub record Knows (ps : List Path) (places : Places) (variables : List (ℕ × BindingId)) : Type 0 where
  pub by : (x : ℕ) → path_at ps (held variables x) ≡ places x

-- what is gathered knows the variables, and has these tests, if bindings have these paths
pub record HasTests (ps : List Path) (places : Places) (ts : List Test) (d : PatternTests) : Type 0 where
  pub knows : Knows ps places d.variables
  pub constraints : map (is_test ps) d.constraints.items ≡ filter is_constraint ts
  pub equals : map (equal_test ps) d.equals.items ≡ filter is_equality ts

-- if bindings have at least these paths, the second has the tests that the first has and more, and knows the places after them
abbrev pub Gathers : List Path → PatternTests → PatternTests → (Places → Places) → (Places → List Test) → Type 0
Gathers ps d e behind more = (qs : List Path) → Extends ps qs → (places : Places) → (ts : List Test) → HasTests qs places ts d → HasTests qs (behind places) (ts ++ more places) e

-- these paths were numbered and nothing else was, these lists were met, and these tests were gathered
pub record Reads (old new : Numbered) (d e : PatternTests) (ps ls : List Path) (behind : Places → Places) (more : Places → List Test) : Type 0 where
  pub joins : Joins old new ps ls
  pub gathers : Gathers (paths_of new.bindings) d e behind more

-- what a pattern takes apart is numbered, and its tests on the path of a number were gathered
abbrev pub Takes : Environment → Numbered → Numbered → PatternTests → PatternTests → Pattern → BindingId → Type 0
Takes env old new d e q source = (p : Path) → slice_get (paths_of old.bindings) source.0 ≡ Some p → Reads old new d e (pattern_paths env q p) (pattern_lists env q p) (after env q p) (tests env q p)

-- so of several patterns on that path
abbrev pub TakesEach : Environment → Numbered → Numbered → PatternTests → PatternTests → Patterns → BindingId → Type 0
TakesEach env old new d e qs source = (p : Path) → slice_get (paths_of old.bindings) source.0 ≡ Some p → Reads old new d e (each_paths env qs p) (each_lists env qs p) (after_each env qs p) (each_tests env qs p)

-- so of the parts of what is taken apart, from the i-th on
abbrev pub TakesParts : Environment → Numbered → Numbered → PatternTests → PatternTests → Opening → Patterns → ℕ → Path → Type 0
TakesParts env old new d e opened qs i p = Reads old new d e (parts_paths env opened qs i p) (parts_lists env opened qs i p) (after_parts env opened qs i p) (parts_tests env opened qs i p)

-- so of what a term takes apart, which is called and tested first
abbrev pub TakesTerm : Environment → Numbered → Numbered → PatternTests → PatternTests → TermId → Patterns → BindingId → Type 0
TakesTerm env old new d e term qs source = (p : Path) → slice_get (paths_of old.bindings) source.0 ≡ Some p
    → Reads old new d e (opening_paths (opening env term) p ++ parts_paths env (opening env term) qs 0 p) (opening_lists (opening env term) p ++ parts_lists env (opening env term) qs 0 p) (after_parts env (opening env term) qs 0 p) (λ places. opening_tests (opening env term) p ++ parts_tests env (opening env term) qs 0 p places)

-- the arguments of the patterns from the i-th on are numbered with what these take apart, and the patterns' tests were gathered
abbrev pub TakesArguments : Environment → Numbered → Numbered → PatternTests → PatternTests → List Pattern → ℕ → Type 0
TakesArguments env old new d e qs i = Reads old new d e (args_paths env qs i) (args_lists env qs i) (args_after env qs i) (args_tests env qs i)

-- the arguments of the patterns are numbered, and what is gathered has the patterns' tests
pub record NumbersPatterns (env : Environment) (old new : Numbered) (patterns : List Pattern) (d : PatternTests) : Type 0 where
  pub joins : Joins old new (args_paths env patterns 0) (args_lists env patterns 0)
  pub tests : (ps : List Path) → Extends (paths_of new.bindings) ps → HasTests ps (args_after env patterns 0 no_places) (args_tests env patterns 0 no_places) d
