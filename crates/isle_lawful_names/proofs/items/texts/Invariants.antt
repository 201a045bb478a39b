use Rattle.std.proofs.Common.{◌≡◌, map, take}
use Rattle.isle_lawful_names.specs.TypeItems.{text_at}
use Rattle.isle_lawful_names.proofs.items.texts.Given as goal

abbrev pub invariant-loop-ty : goal.invariant-loop-ty
invariant-loop-ty l = l.texts.items ≡ map (text_at l.types) (take l.ty-index l.given)
