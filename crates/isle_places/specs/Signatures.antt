-- What a program's functions take and answer.
use Rattle.std.specs.Prelude.{ℕ, List, [], ◌∷◌, map, Option, option_map}
use Rattle.isle_core.specs.declared.types.ReturnKind.{ReturnKind}
use Rattle.isle_core.specs.declared.values.Callee.{Callee}
use Rattle.isle_core.specs.declared.values.Callee.TheVariants as callee
use Rattle.isle_tree.specs.declared.tree.Ty.{Ty}
use Rattle.isle_tree.specs.declared.tree.TraitFn.{TraitFn}
use Rattle.isle_tree.specs.Program.{Function, Program}
use Rattle.isle_tree.specs.WellFormed.{trait_fn}
use Rattle.isle_tree.specs.Run.{function_of}

-- what a function takes, what its answers hold, and how it answers
pub record Signature : Type 0 where
  pub params : List (List ℕ)
  pub results : List (List ℕ)
  pub kind : ReturnKind

-- the names of parameters' types
abbrev pub type_names : List Ty → List (List ℕ)
type_names = map (λ (ty : Ty). ty.name)

-- that of a function of the trait
abbrev pub trait_signature : TraitFn → Signature
trait_signature f = record { params = type_names f.params; results = f.results; kind = f.kind }

-- that of a term's function
abbrev pub term_signature : Function → Signature
term_signature f = record { params = type_names f.params; results = f.result ∷ []; kind = f.kind }

-- that of what is called, if the program has it
abbrev pub signature_of : Program → Callee → Option Signature
signature_of p (callee.External name) = option_map trait_signature (trait_fn p.trait_fns name)
signature_of p (callee.Internal term) = option_map term_signature (function_of term p.fns)
