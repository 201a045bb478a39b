-- The paths at which a rule calls a term that answers several times.
use Rattle.std.specs.Prelude.{ℕ, List, Bool, false, filter}
use Rattle.isle_core.specs.Calling.{calling, extracting, answers_often}
use Rattle.isle_core.specs.Path.{Path, Nowhere, Arg, ConstBool, ConstInt, ConstPrim, Extracted, Called, Chosen, MadeVariant, MadeStruct, VariantField, StructField, Wrapped, Inner, Part}
use Rattle.isle_core.specs.RulePaths.{rule_paths}
use Rattle.isle_core.specs.Rule.{Environment, Rule}

-- a path that calls such a term, as a constructor or as an extractor
abbrev pub calls_multi : Environment → Path → Bool
calls_multi env (Called term ps instance) = answers_often (calling env term)
calls_multi env (Extracted term q) = answers_often (extracting env term)
calls_multi env Nowhere = false
calls_multi env (Arg i) = false
calls_multi env (ConstBool of b) = false
calls_multi env (ConstInt of n) = false
calls_multi env (ConstPrim name) = false
calls_multi env (Chosen q) = false
calls_multi env (MadeVariant of variant ps) = false
calls_multi env (MadeStruct of ps) = false
calls_multi env (VariantField variant field q) = false
calls_multi env (StructField field q) = false
calls_multi env (Wrapped q) = false
calls_multi env (Inner q) = false
calls_multi env (Part part q) = false

-- those of a rule, after n impure calls of the rules before
abbrev pub rule_iterators : Environment → Rule → ℕ → List Path
rule_iterators env r n = filter (calls_multi env) (rule_paths env r n)
