-- What contracts see of what a type asks.
use Rattle.isle_places.specs.declared.asked.Asked.{Asked as CodeAsked}
use Rattle.isle_places.specs.declared.asked.Asked.TheVariants as code
use Rattle.isle_places.specs.DeclaredTypes.{Asked, These, Anything, Nowhere, field_types}

-- what is asked
abbrev pub asked : CodeAsked → Asked
asked (code.Fields fs) = These (field_types fs.now)
asked code.Anything = Anything
asked code.Nowhere = Nowhere
