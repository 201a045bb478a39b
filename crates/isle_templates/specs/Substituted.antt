-- Templates in place of the internal extractors that patterns use.
use Rattle.std.specs.Prelude.{ℕ, zero, suc, List, [], ◌∷◌, length, map, Option, Some, None, option_map, option_and_then, slice_get}
use Rattle.isle_base.specs.declared.ids.TypeId.{TypeId}
use Rattle.isle_base.specs.declared.ids.TermId.{TermId}
use Rattle.isle_base.specs.declared.ids.VarId.{VarId}
use Rattle.isle_core.specs.Pattern as pattern
use Rattle.isle_core.specs.Pattern.{Pattern, Patterns, NoPattern, APattern}
use Rattle.isle_core.specs.RightSide.{bool_type}
use Rattle.isle_core.specs.RuleViews.{patterns_of}

-- a pattern, or another if there is none
abbrev pub pattern_or : Pattern → Option Pattern → Pattern
pattern_or other None = other
pattern_or other (Some p) = p

-- the pattern that stands for a parameter, whose number is its place
abbrev pub argument : List Pattern → TypeId → VarId → Pattern
argument args ty x = pattern_or (pattern.Var ty x) (slice_get args x.0)

-- a template with patterns in place of its parameters; `x @ P` asks of one value what stands for x, and P
abbrev mutual
  pub substituted : List Pattern → Pattern → Pattern
  substituted args (pattern.BindPattern ty x p) = pattern.And ty (APattern (argument args ty x) (APattern (substituted args p) NoPattern))
  substituted args (pattern.Var ty x) = argument args ty x
  substituted args (pattern.ConstBool b) = pattern.ConstBool b
  substituted args (pattern.ConstInt ty n) = pattern.ConstInt ty n
  substituted args (pattern.ConstPrim ty name) = pattern.ConstPrim ty name
  substituted args (pattern.Term ty term ps) = pattern.Term ty term (all_substituted args ps)
  substituted args (pattern.Wildcard ty) = pattern.Wildcard ty
  substituted args (pattern.And ty ps) = pattern.And ty (all_substituted args ps)

  -- so of its parts
  pub all_substituted : List Pattern → Patterns → Patterns
  all_substituted args NoPattern = NoPattern
  all_substituted args (APattern p ps) = APattern (substituted args p) (all_substituted args ps)

-- the template of a term, if it has one
abbrev pub template_of : List (Option Pattern) → TermId → Option Pattern
template_of templates term = option_and_then (λ (t : Option Pattern). t) (slice_get templates term.0)

-- a term on these patterns, or its template with them
abbrev pub opened : Option Pattern → TypeId → TermId → List Pattern → Pattern
opened None ty term args = pattern.Term ty term (patterns_of args)
opened (Some template) ty term args = substituted args template

-- a pattern with each use of an internal extractor replaced by its template
abbrev mutual
  pub expanded : List (Option Pattern) → Pattern → Pattern
  expanded templates (pattern.BindPattern ty x p) = pattern.BindPattern ty x (expanded templates p)
  expanded templates (pattern.Var ty x) = pattern.Var ty x
  expanded templates (pattern.ConstBool b) = pattern.ConstBool b
  expanded templates (pattern.ConstInt ty n) = pattern.ConstInt ty n
  expanded templates (pattern.ConstPrim ty name) = pattern.ConstPrim ty name
  expanded templates (pattern.Term ty term ps) = opened (template_of templates term) ty term (all_expanded templates ps)
  expanded templates (pattern.Wildcard ty) = pattern.Wildcard ty
  expanded templates (pattern.And ty ps) = pattern.And ty (patterns_of (all_expanded templates ps))

  -- so of its parts
  pub all_expanded : List (Option Pattern) → Patterns → List Pattern
  all_expanded templates NoPattern = []
  all_expanded templates (APattern p ps) = expanded templates p ∷ all_expanded templates ps

-- the type of a pattern's values
abbrev pub type_of : Pattern → TypeId
type_of (pattern.BindPattern ty x p) = ty
type_of (pattern.Var ty x) = ty
type_of (pattern.ConstBool b) = bool_type
type_of (pattern.ConstInt ty n) = ty
type_of (pattern.ConstPrim ty name) = ty
type_of (pattern.Term ty term ps) = ty
type_of (pattern.Wildcard ty) = ty
type_of (pattern.And ty ps) = ty

-- what stands for a template that lies too deep
abbrev pub blank : Pattern → Pattern
blank template = pattern.Wildcard (type_of template)

-- templates by their terms' numbers, with those that they use replaced so many levels deep, and `_` for what lies deeper
abbrev pub templates_at : List (Option Pattern) → ℕ → List (Option Pattern)
templates_at written zero = map (option_map blank) written
templates_at written (suc depth) = map (option_map (expanded (templates_at written depth))) written

-- templates that use no other: if none reaches itself, none lies deeper than there are terms, so no `_` stands for one
abbrev pub whole_templates : List (Option Pattern) → List (Option Pattern)
whole_templates written = templates_at written (length written)
