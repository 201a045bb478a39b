-- What the code tells of extractors: the first that breaks a row, or that none does, and their templates.
use Rattle.std.specs.Prelude.{◌≡◌, ℕ, List, [], ◌∷◌, map, true, false, Option, Some, None, Result, Ok, Err, option_map}
use Rattle.std.specs.Global.{Vec}
use Rattle.isle_core.specs.declared.position.Pos.{Pos}
use Rattle.isle_core.specs.declared.rules.Pattern.{Pattern as CodePattern}
use Rattle.isle_core.specs.Pattern.{Pattern as CorePattern}
use Rattle.isle_core.specs.RuleViews.{pattern as elaborated}
use Rattle.isle_ast.specs.Tree.{Def, ExternExtractor, Extractor}
use Rattle.isle_declarations.specs.Signatures.{Extracting, ByFunction, ByTemplate, ExtractorDef}
use Rattle.isle_types.specs.declared.row.Row.{Row}
use Rattle.isle_terms.specs.Whole.{Whole}
use Rattle.isle_terms.specs.declared.flaw.Breach.{Breach}
use Rattle.isle_sema.specs.declared.fault.Fault.{Fault}
use Rattle.isle_sema.specs.declared.templates.Extractors.{Extractors}
use Rattle.isle_templates.specs.Multi.{AreMultisTold}
use Rattle.isle_sema.specs.Fault.{OfExtractors, broken_in, or_later, fault_in}
use Rattle.isle_sema.specs.RuleRows.{declared_multis}
use Rattle.isle_sema.specs.Templates.{template_tree, templates, are_treed}
use Rattle.isle_templates.specs.Uses.{uses}
use Rattle.isle_templates.specs.Whole.{AreWhole}
use Rattle.isle_walks.specs.Walks.{on_closed_walk}

-- ---- rows

-- the definition that an extractor of a term is
abbrev pub extractor_def : (term : List ℕ) → Extracting → Pos → Def
extractor_def term (ByFunction func infallible) pos = ExternExtractor term func infallible pos
extractor_def term (ByTemplate t) pos = Extractor term t.params t.pattern pos

-- the row that an extractor breaks, the lowest first; none hangs on the definitions before it
abbrev pub extractor_row : Whole → ExtractorDef → Option Row
extractor_row w x = broken_in OfExtractors (record { whole = w; before = [] }) (extractor_def x.term x.by x.pos)

-- that of the first extractor that breaks one, with its place
abbrev pub extractors_fault : Whole → List ExtractorDef → Option (Row × Pos)
extractors_fault w [] = None
extractors_fault w (x ∷ xs) = or_later (option_map (λ (r : Row). (r, x.pos)) (extractor_row w x)) (extractors_fault w xs)

-- ---- trees

-- the tree of an extractor's template, if it has one
abbrev pub tree_of : Whole → ExtractorDef → Option CorePattern
tree_of w x = template_tree w x.term x.by

-- an extractor that breaks no row, with the tree of its template
pub record IsTreeAt (w : Whole) (x : ExtractorDef) (tree : Option CodePattern) : Type 0 where
  pub sound : extractor_row w x ≡ None
  pub tree_is : option_map elaborated tree ≡ tree_of w x

-- so, or the row that it breaks
abbrev pub IsTried : Whole → ExtractorDef → Result (Option CodePattern) Breach → Type 0
IsTried w x (Ok tree) = IsTreeAt w x tree
IsTried w x (Err breach) = extractor_row w x ≡ Some breach.row

-- extractors that break no row, with the trees of their templates
pub record AreTreesAt (w : Whole) (xs : List ExtractorDef) (trees : List (Option CodePattern)) : Type 0 where
  pub sound : extractors_fault w xs ≡ None
  pub trees_are : map (option_map elaborated) trees ≡ map (tree_of w) xs

-- so, or the first that breaks one
abbrev pub AreTried : Whole → List ExtractorDef → Result (Vec (Option CodePattern)) Fault → Type 0
AreTried w xs (Ok found) = AreTreesAt w xs found.items
AreTried w xs (Err fault) = extractors_fault w xs ≡ Some (fault.row, fault.pos)

-- ---- what is told

-- no extractor breaks a row, and these are the templates of definitions with those that they use replaced, each of which has a tree, and none
-- reaches itself, and the terms that are `multi` where a pattern uses them
pub record AreTaken (w : Whole) (taken : Extractors) : Type 0 where
  pub sound : fault_in OfExtractors w ≡ None
  pub treed : are_treed w ≡ true
  pub free : (term : ℕ) → on_closed_walk (uses (templates w)) term ≡ false
  pub whole : AreWhole (templates w) taken.templates
  pub multis : AreMultisTold (templates w) (declared_multis w) taken.multis.items

-- so, or the first extractor that breaks one
abbrev pub AreTemplatesChecked : Whole → Result Extractors Fault → Type 0
AreTemplatesChecked w (Ok taken) = AreTaken w taken
AreTemplatesChecked w (Err fault) = fault_in OfExtractors w ≡ Some (fault.row, fault.pos)
