-- The status of errors.
use Rattle.std.specs.Prelude.{ℕ, List, [], ◌∷◌, Option, Some, None}
use Rattle.isle_core.specs.declared.errors.Error.{Error}
use Rattle.isle_core.specs.declared.errors.Error.TheVariants as error

-- the status of an error, by its kind
abbrev pub error_status : Error → ℕ
error_status (error.ParseError msg span) = 6
error_status (error.TypeError row msg span) = 7
error_status (error.UnreachableError msg span) = 8
error_status (error.OverlapError msg rules) = 8
error_status (error.ShadowedError shadowed mask) = 8
error_status (error.RecursionError msg span) = 9

-- the status of errors is that of the first
abbrev pub errors_status : List Error → Option ℕ
errors_status [] = None
errors_status (e ∷ es) = Some (error_status e)
