-- The span of an error that is told at one place.
use Rattle.isle_core.specs.declared.position.Pos.{Pos}
use Rattle.isle_core.specs.declared.position.Span.{Span}

-- the span that begins and ends at a place
abbrev pub single : Pos → Span
single pos = record { from = pos; to = pos }
