-- Whether a definition breaks a row of the typing table.
use Rattle.std.specs.Prelude.{Bool}
use Rattle.isle_ast.specs.Tree.{Def}
use Rattle.isle_types.specs.declared.row.Row.TheVariants as row
use Rattle.isle_types.specs.declared.row.Row.{Row}
use Rattle.isle_types.specs.TypeRows.{type_repeats, field_repeats, field_type_missing, many_fields, made_term_repeats, constant_misfit}
use Rattle.isle_terms.specs.Context.{Context}
use Rattle.isle_terms.specs.DeclarationRows.{declaration_repeats, type_missing, many_arguments, multi_and_partial, term_undeclared, second_of_term, infallible_multi, parameters_misfit, converter_misfit, head_misfit}
use Rattle.isle_sema.specs.TemplateRows.{reaches_itself, variables_misfit}
use Rattle.isle_sema.specs.RuleRows.{pattern_term_misfit, pattern_type_misfit, literal_misfit, constant_undeclared, variable_type_misfit, multi_use, expr_name_misfit, expr_type_misfit, impure_condition, partial_call, impure_call, multi_call, many_nodes}

-- a definition breaks a row
abbrev pub breaks : Row → Context → Def → Bool
breaks row.TypeRepeats c d = type_repeats c.before d
breaks row.FieldRepeats c d = field_repeats d
breaks row.FieldTypeMissing c d = field_type_missing c.whole.defs d
breaks row.ManyFields c d = many_fields d
breaks row.MadeTermRepeats c d = made_term_repeats c.before d
breaks row.ConstantMisfit c d = constant_misfit c.whole.defs c.before d
breaks row.DeclarationRepeats c d = declaration_repeats c d
breaks row.TypeMissing c d = type_missing c d
breaks row.ManyArguments c d = many_arguments c d
breaks row.MultiAndPartial c d = multi_and_partial c d
breaks row.TermUndeclared c d = term_undeclared c d
breaks row.SecondOfTerm c d = second_of_term c d
breaks row.InfallibleMulti c d = infallible_multi c d
breaks row.ParametersMisfit c d = parameters_misfit c d
breaks row.ConverterMisfit c d = converter_misfit c d
breaks row.HeadMisfit c d = head_misfit c d
breaks row.ExtractorReachesItself c d = reaches_itself c d
breaks row.TemplateMisfit c d = variables_misfit c d
breaks row.PatternTermMisfit c d = pattern_term_misfit c d
breaks row.PatternTypeMisfit c d = pattern_type_misfit c d
breaks row.LiteralMisfit c d = literal_misfit c d
breaks row.ConstantUndeclared c d = constant_undeclared c d
breaks row.VariableTypeMisfit c d = variable_type_misfit c d
breaks row.MultiExtractor c d = multi_use c d
breaks row.ExprNameMisfit c d = expr_name_misfit c d
breaks row.ExprTypeMisfit c d = expr_type_misfit c d
breaks row.ImpureCondition c d = impure_condition c d
breaks row.PartialCall c d = partial_call c d
breaks row.ImpureCall c d = impure_call c d
breaks row.MultiCall c d = multi_call c d
breaks row.ManyNodes c d = many_nodes c d
