-- The numbers of the rows of the typing table.
use Rattle.std.specs.Prelude.{ℕ}
use Rattle.isle_types.specs.declared.row.Row.{Row}
use Rattle.isle_types.specs.declared.row.Row.TheVariants as row

-- the number of a row, by which rows are in order
abbrev pub number : Row → ℕ
number row.TypeRepeats = 1
number row.FieldRepeats = 2
number row.FieldTypeMissing = 3
number row.ManyFields = 4
number row.MadeTermRepeats = 5
number row.ConstantMisfit = 6
number row.DeclarationRepeats = 7
number row.TypeMissing = 8
number row.ManyArguments = 9
number row.MultiAndPartial = 10
number row.TermUndeclared = 11
number row.SecondOfTerm = 12
number row.InfallibleMulti = 13
number row.ParametersMisfit = 14
number row.ConverterMisfit = 15
number row.HeadMisfit = 16
number row.ExtractorReachesItself = 17
number row.TemplateMisfit = 18
number row.PatternTermMisfit = 19
number row.PatternTypeMisfit = 20
number row.LiteralMisfit = 21
number row.ConstantUndeclared = 22
number row.VariableTypeMisfit = 23
number row.MultiExtractor = 24
number row.ExprNameMisfit = 25
number row.ExprTypeMisfit = 26
number row.ImpureCondition = 27
number row.PartialCall = 28
number row.ImpureCall = 29
number row.MultiCall = 30
number row.ManyNodes = 31
