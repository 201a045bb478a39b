-- What code keeps of templates.
use Rattle.std.specs.Prelude.{◌≡◌, ◌≤◌, ◌⊎◌, ℕ, suc, List, [], Option, Some, None, slice_get, nat_le, if◌then◌else◌}
use Rattle.isle_base.specs.declared.ids.TermId.{TermId}
use Rattle.isle_core.specs.Pattern.{Pattern}
use Rattle.isle_core.specs.RuleViews.{pattern as elaborated}
use Rattle.isle_templates.specs.declared.template.Kept.{Kept}
use Rattle.isle_templates.specs.declared.template.Template.{Template}
use Rattle.isle_templates.specs.declared.template.Template.TheVariants.{Absent, Present}
use Rattle.isle_templates.specs.NodeCount.{pattern_nodes}
use Rattle.isle_templates.specs.Occurrences.{CountsTimes}
use Rattle.isle_templates.specs.Renumbered.{pattern_variables}
use Rattle.isle_templates.specs.SameCount.{SameCount}
use Rattle.isle_templates.specs.Substituted.{substituted, expanded, template_of}

-- a template if its rank is below this
abbrev pub if_below : ℕ → Option Template → Option Kept
if_below below None = None
if_below below (Some Absent) = None
if_below below (Some (Present k)) = if nat_le (suc k.rank) below then Some k else None

-- what is kept of a term's template, if its rank is below this
abbrev pub kept_of : List Template → (below : ℕ) → TermId → Option Kept
kept_of table below term = if_below below (slice_get table term.0)

-- what is kept of a template with no other in it: one that gives it, once these stand for those that it uses; how many nodes it has with parameters of one node; and how often each parameter stands in it
pub record IsKept (inner : List (Option Pattern)) (t : Pattern) (k : Kept) : Type 0 where
  pub whole : t ≡ expanded inner (elaborated k.pattern)
  pub nodes : SameCount k.nodes (pattern_nodes (substituted [] t))
  pub times : CountsTimes (pattern_variables t) k.times.items

-- what is kept for a term that may have a template, where these stand for those of ranks below each number
abbrev pub Stands : (ℕ → List (Option Pattern)) → Option Pattern → Option Kept → Type 0
Stands inner None None = Unit {0}
Stands inner None (Some k) = ⊥
Stands inner (Some t) None = ⊥
Stands inner (Some t) (Some k) = IsKept (inner k.uses) t k

-- these templates with no other in them are those that are kept with ranks below this
pub record StandFor (whole : List (Option Pattern)) (table : List Template) (below : ℕ) : Type 0 where
  pub inner : ℕ → List (Option Pattern)
  pub last : (term : TermId) → template_of (inner below) term ≡ template_of whole term
  pub at : (n : ℕ) → n ≤ below → (term : TermId) → Stands inner (template_of (inner n) term) (kept_of table n term)

-- what is kept of a template with no other in it, by these that stand for those that it uses, or with no others to put in
abbrev pub IsKeptAt : List (Option Pattern) → (rank : ℕ) → Pattern → Kept → Type 0
IsKeptAt inner rank t k = (k.rank ≡ rank) × (((k.uses ≡ rank) × IsKept inner t k) ⊎ ((k.uses ≡ 0) × ((none : List (Option Pattern)) → ((term : TermId) → template_of none term ≡ None) → IsKept none t k)))

-- what is made for a term whose template is written so, where these stand for those that it uses
abbrev pub IsMade : List (Option Pattern) → (rank : ℕ) → Option Pattern → Template → Type 0
IsMade inner rank None Absent = Unit {0}
IsMade inner rank None (Present k) = ⊥
IsMade inner rank (Some w) Absent = ⊥
IsMade inner rank (Some w) (Present k) = IsKeptAt inner rank (expanded inner w) k
