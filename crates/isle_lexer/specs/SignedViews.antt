-- What contracts see of the code's numbers.
use Rattle.std.specs.Prelude.{ℤ, pos, neg_ℤ, if◌then◌else◌}
use Rattle.isle_lexer.specs.declared.integer.Signed.{Signed}

-- the number of that sign and magnitude
abbrev pub signed : Signed → ℤ
signed n = if n.negative then neg_ℤ (pos n.magnitude) else pos n.magnitude
