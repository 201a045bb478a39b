-- Extractors that break a row beside that they reach themselves, and the row that a rule breaks.
use Rattle.std.specs.Prelude.{ℕ, ◌+◌, List, [], ◌∷◌, Bool, ◌||◌, Option, Some, None, is_some, if◌then◌else◌}
use Rattle.std.specs.List.{list_any}
use Rattle.isle_core.specs.Rule.{Rule as CoreRule}
use Rattle.isle_ast.specs.Tree.{Def, Rule}
use Rattle.isle_declarations.specs.Signatures.{ExtractorDef, RuleDef}
use Rattle.isle_types.specs.declared.row.Row.{Row}
use Rattle.isle_terms.specs.Whole.{Whole}
use Rattle.isle_terms.specs.TermPass.{tree_before}
use Rattle.isle_sema.specs.RulePass.{rule_pass}
use Rattle.isle_sema.specs.Fault.{OfRules, broken_in}
use Rattle.isle_sema.specs.RuleRows.{extractor_sites, is_untaken, is_mistaken, is_misplaced, is_undeclared}
use Rattle.isle_sema.specs.TemplateRows.{is_misnaming}

-- ---- templates

-- a template breaks a row, other than that it reaches itself
abbrev pub is_misbuilt : Whole → ExtractorDef → Bool
is_misbuilt w x =
    is_misnaming w x || (list_any (is_untaken w) (extractor_sites w x) || (list_any (is_mistaken w) (extractor_sites w x) || (list_any (is_misplaced w) (extractor_sites w x) || list_any is_undeclared (extractor_sites w x))))

-- ---- rules

-- the definition that a rule is
abbrev pub def_of : RuleDef → Def
def_of r = Rule r.name r.prio r.term r.args r.iflets r.rhs r.pos

-- the row that it breaks, the lowest first; none hangs on the definitions before it
abbrev pub row_of : Whole → RuleDef → Option Row
row_of w r = broken_in OfRules (record { whole = w; before = [] }) (def_of r)
