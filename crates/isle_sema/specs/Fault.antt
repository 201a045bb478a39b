-- The fault of a list of definitions: of the first stage in which one breaks a row, the first definition that does, and
-- the lowest row that it breaks.
use Rattle.std.specs.Prelude.{List, [], ◌∷◌, Bool, true, false, Option, None, if◌then◌else◌}
use Rattle.isle_core.specs.declared.position.Pos.{Pos}
use Rattle.isle_ast.specs.Tree.{Def, TypeDecl, Decl, ExternConstructor, ExternExtractor, ExternConst, Extractor, Converter, Rule, Passed}
use Rattle.isle_types.specs.declared.row.Row.TheVariants as row
use Rattle.isle_types.specs.declared.row.Row.{Row}
use Rattle.isle_types.specs.Fault as found
use Rattle.isle_types.specs.Fault.{first_broken, type_rows}
pub use Rattle.isle_types.specs.Fault.{or_later}
use Rattle.isle_terms.specs.Whole.{Whole}
use Rattle.isle_terms.specs.Context.{Context}
use Rattle.isle_sema.specs.Breaks.{breaks}

-- types and constants; declarations, what names their terms, and heads; then what stands in extractors; then in rules
pub data Stage : Type 0 where
  OfTypes : Stage
  OfTerms : Stage
  OfExtractors : Stage
  OfRules : Stage

-- the rows of a stage, the lowest first
abbrev pub rows_of : Stage → List Row
rows_of OfTypes = type_rows
rows_of OfTerms =
    row.DeclarationRepeats ∷ row.TypeMissing ∷ row.ManyArguments ∷ row.MultiAndPartial ∷ row.TermUndeclared
    ∷ row.SecondOfTerm ∷ row.InfallibleMulti ∷ row.ParametersMisfit ∷ row.ConverterMisfit ∷ row.HeadMisfit ∷ []
rows_of OfExtractors =
    row.ExtractorReachesItself ∷ row.TemplateMisfit ∷ row.PatternTermMisfit ∷ row.PatternTypeMisfit
    ∷ row.LiteralMisfit ∷ row.ConstantUndeclared ∷ row.VariableTypeMisfit ∷ []
rows_of OfRules =
    row.PatternTermMisfit ∷ row.PatternTypeMisfit ∷ row.LiteralMisfit ∷ row.ConstantUndeclared ∷ row.VariableTypeMisfit
    ∷ row.MultiExtractor ∷ row.ExprNameMisfit ∷ row.ExprTypeMisfit ∷ row.ImpureCondition ∷ row.PartialCall
    ∷ row.ImpureCall ∷ row.MultiCall ∷ row.ManyNodes ∷ []

-- an extractor
abbrev pub is_extractor : Def → Bool
is_extractor (TypeDecl name is_extern is_nodebug body pos) = false
is_extractor (Decl term pure multi partial recursive args ret pos) = false
is_extractor (ExternConstructor term func pos) = false
is_extractor (ExternExtractor term func infallible pos) = false
is_extractor (ExternConst name ty pos) = false
is_extractor (Extractor term params template pos) = true
is_extractor (Converter from to term pos) = false
is_extractor (Rule name prio term args iflets rhs pos) = false
is_extractor (Passed head pos) = false

-- a rule
abbrev pub is_rule : Def → Bool
is_rule (TypeDecl name is_extern is_nodebug body pos) = false
is_rule (Decl term pure multi partial recursive args ret pos) = false
is_rule (ExternConstructor term func pos) = false
is_rule (ExternExtractor term func infallible pos) = false
is_rule (ExternConst name ty pos) = false
is_rule (Extractor term params template pos) = false
is_rule (Converter from to term pos) = false
is_rule (Rule name prio term args iflets rhs pos) = true
is_rule (Passed head pos) = false

-- the stage looks at the definition
abbrev pub looks_at : Stage → Def → Bool
looks_at OfTypes d = true
looks_at OfTerms d = true
looks_at OfExtractors d = is_extractor d
looks_at OfRules d = is_rule d

-- the row of a stage that a definition breaks
abbrev pub broken_in : Stage → Context → Def → Option Row
broken_in stage c d = if looks_at stage d then first_broken (λ (r : Row). breaks r c d) (rows_of stage) else None

-- the fault of a stage in these definitions, which follow those
abbrev pub fault_after : Stage → Whole → List Def → List Def → Option (Row × Pos)
fault_after stage w before ds = found.fault_after (λ bs d. broken_in stage (record { whole = w; before = bs }) d) before ds

-- the fault of a stage
abbrev pub fault_in : Stage → Whole → Option (Row × Pos)
fault_in stage w = fault_after stage w [] w.defs

-- the fault of extractors, and then of rules
abbrev pub later_fault : Whole → Option (Row × Pos)
later_fault w = or_later (fault_in OfExtractors w) (fault_in OfRules w)

-- the fault of definitions over the types that they give
abbrev pub fault_of : Whole → Option (Row × Pos)
fault_of w = or_later (fault_in OfTypes w) (or_later (fault_in OfTerms w) (later_fault w))
