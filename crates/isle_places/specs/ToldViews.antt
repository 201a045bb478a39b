-- What contracts see of what the code is told.
use Rattle.std.specs.Prelude.{ℕ, List, map}
use denote.Ref.{Bor}
use Rattle.isle_tree.specs.declared.tree.Operand.{Operand}
use Rattle.isle_places.specs.declared.told.Told.{Told as CodeTold}
use Rattle.isle_places.specs.declared.told.Told.TheVariants as code
use Rattle.isle_places.specs.Told.{Told, AValue, AnOption, ATuple, AnOptionalTuple, AList, AListOfTuples, Untold, Tells}
use Rattle.isle_places.specs.Places.{Place}

-- what is known of something
abbrev pub told : CodeTold → Told
told (code.AValue ty) = AValue ty.now
told (code.AnOption ty) = AnOption ty.now
told (code.ATuple tys) = ATuple tys.now
told (code.AnOptionalTuple tys) = AnOptionalTuple tys.now
told (code.AList ty) = AList ty.now
told (code.AListOfTuples tys) = AListOfTuples tys.now
told code.Untold = Untold

-- a local with what is known of it
abbrev pub local_told : ℕ × CodeTold → ℕ × Told
local_told b = (b.0, told b.1)

-- what is known of the locals in order
abbrev pub tells : List (ℕ × CodeTold) → Tells
tells = map local_told

-- what stands at places, with their types
abbrev pub placed : List (Bor Operand × Bor (List ℕ)) → List Place
placed = map (λ (x : Bor Operand × Bor (List ℕ)). (x.0.now, x.1.now))
