-- The fault of definitions in their declarations, in what names their terms, in converters, and in heads.
use Rattle.std.specs.Prelude.{List, [], ◌∷◌, Bool, false, Option, Some, None}
use Rattle.isle_core.specs.declared.position.Pos.{Pos}
use Rattle.isle_ast.specs.Tree.{Def}
use Rattle.isle_types.specs.declared.row.Row.{Row}
use Rattle.isle_types.specs.declared.row.Row.TheVariants as row
use Rattle.isle_types.specs.Fault.{first_broken, fault_after}
use Rattle.isle_terms.specs.Context.{Context}
use Rattle.isle_terms.specs.DeclarationRows.{declaration_repeats, type_missing, many_arguments, multi_and_partial, term_undeclared, second_of_term, infallible_multi, parameters_misfit, converter_misfit, head_misfit}
use Rattle.isle_terms.specs.Whole.{Whole}

-- the rows of the stage, the lowest first
abbrev pub term_rows : List Row
term_rows =
    row.DeclarationRepeats ∷ row.TypeMissing ∷ row.ManyArguments ∷ row.MultiAndPartial ∷ row.TermUndeclared
    ∷ row.SecondOfTerm ∷ row.InfallibleMulti ∷ row.ParametersMisfit ∷ row.ConverterMisfit ∷ row.HeadMisfit ∷ []

-- what a row of the stage refuses; rows of other stages refuse nothing here
abbrev pub term_judge : Row → Option (Context → Def → Bool)
term_judge row.TypeRepeats = None
term_judge row.FieldRepeats = None
term_judge row.FieldTypeMissing = None
term_judge row.ManyFields = None
term_judge row.MadeTermRepeats = None
term_judge row.ConstantMisfit = None
term_judge row.DeclarationRepeats = Some declaration_repeats
term_judge row.TypeMissing = Some type_missing
term_judge row.ManyArguments = Some many_arguments
term_judge row.MultiAndPartial = Some multi_and_partial
term_judge row.TermUndeclared = Some term_undeclared
term_judge row.SecondOfTerm = Some second_of_term
term_judge row.InfallibleMulti = Some infallible_multi
term_judge row.ParametersMisfit = Some parameters_misfit
term_judge row.ConverterMisfit = Some converter_misfit
term_judge row.HeadMisfit = Some head_misfit
term_judge row.ExtractorReachesItself = None
term_judge row.TemplateMisfit = None
term_judge row.PatternTermMisfit = None
term_judge row.PatternTypeMisfit = None
term_judge row.LiteralMisfit = None
term_judge row.ConstantUndeclared = None
term_judge row.VariableTypeMisfit = None
term_judge row.MultiExtractor = None
term_judge row.ExprNameMisfit = None
term_judge row.ExprTypeMisfit = None
term_judge row.ImpureCondition = None
term_judge row.PartialCall = None
term_judge row.ImpureCall = None
term_judge row.MultiCall = None
term_judge row.ManyNodes = None

-- something is refused, and the definition is
abbrev pub is_refused : Option (Context → Def → Bool) → Context → Def → Bool
is_refused None c d = false
is_refused (Some refuses) c d = refuses c d

-- the lowest row of the stage that a definition breaks
abbrev pub term_row : Context → Def → Option Row
term_row c d = first_broken (λ (r : Row). is_refused (term_judge r) c d) term_rows

-- the fault of definitions over the types that they give
abbrev pub term_fault : Whole → Option (Row × Pos)
term_fault w = fault_after (λ bs d. term_row (record { whole = w; before = bs }) d) [] w.defs
