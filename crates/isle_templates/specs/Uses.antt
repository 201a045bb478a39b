-- Which templates a template uses.
use Rattle.std.specs.Prelude.{ℕ, List, [], ◌∷◌, ◌++◌, map, Option, Some, None}
use Rattle.isle_base.specs.declared.ids.TermId.{TermId}
use Rattle.isle_core.specs.Pattern as pattern
use Rattle.isle_core.specs.Pattern.{Pattern, Patterns, NoPattern, APattern}
use Rattle.isle_templates.specs.Substituted.{template_of}

-- the number of a term that has a template
abbrev pub used_one : Option Pattern → TermId → List ℕ
used_one None term = []
used_one (Some template) term = term.0 ∷ []

-- the terms of a pattern that have templates, from left to right, each before those within it
abbrev mutual
  pub used_in : List (Option Pattern) → Pattern → List ℕ
  used_in templates (pattern.BindPattern ty x p) = used_in templates p
  used_in templates (pattern.Var ty x) = []
  used_in templates (pattern.ConstBool b) = []
  used_in templates (pattern.ConstInt ty n) = []
  used_in templates (pattern.ConstPrim ty name) = []
  used_in templates (pattern.Term ty term ps) = used_one (template_of templates term) term ++ all_used_in templates ps
  used_in templates (pattern.Wildcard ty) = []
  used_in templates (pattern.And ty ps) = all_used_in templates ps

  -- so of its parts
  pub all_used_in : List (Option Pattern) → Patterns → List ℕ
  all_used_in templates NoPattern = []
  all_used_in templates (APattern p ps) = used_in templates p ++ all_used_in templates ps

-- those of a template, if there is one
abbrev pub used_by : List (Option Pattern) → Option Pattern → List ℕ
used_by templates None = []
used_by templates (Some template) = used_in templates template

-- for each term those that its template uses
abbrev pub uses : List (Option Pattern) → List (List ℕ)
uses templates = map (used_by templates) templates
