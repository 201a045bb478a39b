-- The rows that are of templates alone.
use Rattle.std.specs.Prelude.{ℕ, List, Bool, false, ◌||◌, not, is_some}
use Rattle.std.specs.List.{list_any}
use Rattle.isle_core.specs.declared.TermId.{TermId}
use Rattle.isle_ast.specs.Tree.{Def}
use Rattle.isle_declarations.specs.Signatures.{Extracting, ByFunction, ByTemplate, ExtractorDef, extractor_of, term_named}
use Rattle.isle_declarations.specs.Symbols.{index_of}
use Rattle.isle_declarations.specs.Terms.{terms}
use Rattle.isle_terms.specs.NewVariables.{variables_in}
use Rattle.isle_sema.specs.RuleRows.{template_sites, is_met_otherwise}
use Rattle.isle_sema.specs.Site.{Site, IntegerAt, TruthAt, PartAt, MetAt, UsedAt, CalledAt, TakenAt, ConstantAt, BoundAt}
use Rattle.isle_sema.specs.TemplateUses.{template_uses}
use Rattle.isle_terms.specs.Context.{Context}
use Rattle.isle_terms.specs.Whole.{Whole}
use Rattle.isle_types.specs.TypeRows.{on}
use Rattle.isle_walks.specs.Walks.{on_closed_walk}

-- an extractor's term reaches itself through the templates that its template uses
abbrev pub is_on_walk : Whole → ExtractorDef → Bool
is_on_walk w x = on (term_named (terms w.defs) x.term) (λ (n : TermId). on_closed_walk (template_uses w) n.0)

-- an internal extractor does
abbrev pub reaches_itself : Context → Def → Bool
reaches_itself c d = on (extractor_of d) (is_on_walk c.whole)

-- a variable of a pattern that is not bound before
abbrev pub is_unbound : Site → Bool
is_unbound (IntegerAt expected) = false
is_unbound (TruthAt expected) = false
is_unbound PartAt = false
is_unbound (MetAt expected bound) = not (is_some bound)
is_unbound (UsedAt expected bound) = false
is_unbound (CalledAt expected callee count) = false
is_unbound (TakenAt expected callee count) = false
is_unbound (ConstantAt in_pattern expected found) = false
is_unbound (BoundAt ty) = false

-- a parameter does not stand in the pattern
abbrev pub misses_parameter : Extracting → Bool
misses_parameter (ByFunction func infallible) = false
misses_parameter (ByTemplate t) = list_any (λ (param : List ℕ). not (is_some (index_of (variables_in t.pattern) param))) t.params

-- a template names a variable that is no parameter, a parameter does not stand in it, or stands where another type than its argument's is
-- expected
abbrev pub is_misnaming : Whole → ExtractorDef → Bool
is_misnaming w x = list_any is_unbound (template_sites w x.term x.by) || (misses_parameter x.by || list_any is_met_otherwise (template_sites w x.term x.by))

-- an internal extractor does so
abbrev pub variables_misfit : Context → Def → Bool
variables_misfit c d = on (extractor_of d) (is_misnaming c.whole)
