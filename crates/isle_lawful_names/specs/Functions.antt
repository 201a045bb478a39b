-- The names of a term's external functions.
use Rattle.std.specs.Prelude.{ℕ, List, [], ◌∷◌, Option, Some, None, option_map}
use Rattle.isle_core.specs.declared.Sym.{Sym}
use Rattle.isle_core.specs.declared.types.ReturnKind.{ReturnKind}
use Rattle.isle_core.specs.declared.types.TermKind.{TermKind}
use Rattle.isle_core.specs.declared.types.TypeEnv.{TypeEnv}
use Rattle.isle_core.specs.Terms.{symbol_text}
use Rattle.isle_simulation.specs.TraitFns.{extracted_of}

-- the text of a symbol, if there is one
abbrev pub texts_of : TypeEnv → Option Sym → List (List ℕ)
texts_of types None = []
texts_of types (Some s) = symbol_text types s ∷ []

-- the symbol of the external extractor of a term of this kind
abbrev pub taker_of : TermKind → Option Sym
taker_of k = option_map (λ (of : Sym × ReturnKind). of.0) (extracted_of k)
