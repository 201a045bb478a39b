-- Which terms are `multi` where a pattern uses them, with templates replaced.
use Rattle.std.specs.Prelude.{◌≡◌, ℕ, zero, suc, List, length, Bool, false, ◌||◌, Option, Some, None, slice_get}
use Rattle.std.specs.Option.{unwrap_or}
use Rattle.isle_core.specs.Pattern as pattern
use Rattle.isle_core.specs.Pattern.{Pattern, Patterns, NoPattern, APattern}
use Rattle.isle_templates.specs.Substituted.{template_of}

-- the mark of a number; if there is none, it has no mark
abbrev pub marked : List Bool → ℕ → Bool
marked marks n = unwrap_or (slice_get marks n) false

-- a pattern uses a term of which this holds
abbrev mutual
  pub uses_one : (ℕ → Bool) → Pattern → Bool
  uses_one test (pattern.BindPattern ty x p) = uses_one test p
  uses_one test (pattern.Var ty x) = false
  uses_one test (pattern.ConstBool b) = false
  uses_one test (pattern.ConstInt ty n) = false
  uses_one test (pattern.ConstPrim ty name) = false
  uses_one test (pattern.Term ty term ps) = test term.0 || uses_any test ps
  uses_one test (pattern.Wildcard ty) = false
  uses_one test (pattern.And ty ps) = uses_any test ps

  -- one of several does
  pub uses_any : (ℕ → Bool) → Patterns → Bool
  uses_any test NoPattern = false
  uses_any test (APattern p ps) = uses_one test p || uses_any test ps

-- a term is `multi` where a pattern uses it: it has no template, and its declaration says so; or its template uses a term that is
abbrev pub multi_by : (declared : Bool) → (is_inner : ℕ → Bool) → Option Pattern → Bool
multi_by declared is_inner None = declared
multi_by declared is_inner (Some template) = uses_one is_inner template

-- so with templates replaced so many levels deep
abbrev pub multi_at : List (Option Pattern) → (declared : List Bool) → (depth : ℕ) → ℕ → Bool
multi_at templates declared zero n = multi_by (marked declared n) (λ (m : ℕ). false) (template_of templates (record { 0 = n }))
multi_at templates declared (suc depth) n = multi_by (marked declared n) (multi_at templates declared depth) (template_of templates (record { 0 = n }))

-- if no template reaches itself, none lies deeper than there are terms
abbrev pub is_multi : List (Option Pattern) → (declared : List Bool) → ℕ → Bool
is_multi templates declared n = multi_at templates declared (length templates) n

-- the marks say of each term whether it is
pub record AreMultisTold (templates : List (Option Pattern)) (declared marks : List Bool) : Type 0 where
  pub told : (n : ℕ) → marked marks n ≡ is_multi templates declared n
