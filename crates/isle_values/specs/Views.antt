-- What contracts see of the code's values.
use Rattle.std.specs.Prelude.{List, [], ◌∷◌, map}
use Rattle.isle_lexer.specs.SignedViews.{signed}
use Rattle.isle_values.specs.declared.written.Written.{Written as CodeWritten}
use Rattle.isle_values.specs.declared.written.Written.TheOpen.{Written-F}
use Rattle.isle_values.specs.declared.written.Written.TheOpen as code
use Rattle.isle_values.specs.declared.written.Written.TheFolds.{fold-Written}
use Rattle.isle_values.specs.Written.{Written, Writtens, Truth, Number, Made, NoValue, AValue}

-- values of a list
abbrev pub in_order : List Written → Writtens
in_order [] = NoValue
in_order (v ∷ vs) = AValue v (in_order vs)

-- one value, if those inside it are seen already
abbrev pub written_step : Written-F Written → Written
written_step (code.Bool b) = Truth b
written_step (code.Number n) = Number (signed n)
written_step (code.Made name parts) = Made name (in_order parts)

-- a value
abbrev pub written : CodeWritten → Written
written = fold-Written Written written_step

-- values in order
abbrev pub seen : List CodeWritten → Writtens
seen vs = in_order (map written vs)
