-- A misfit is of no type, and so an answer that is given if a form fits no function fits none.
use Rattle.std.proofs.Common.{◌≡◌, ℕ, List, [], ◌∷◌, true, false}
use Rattle.isle_tree.specs.declared.tree.TypeItem.{TypeItem}
use Rattle.isle_places.specs.Signatures.{Signature}
use Rattle.isle_interpreter.specs.Named.{IsNamed, AreNamed, AnswerFits}
use Rattle.isle_run_inputs.specs.AnswersAt.{unfit}
use Rattle.isle_run_inputs.specs.ValuesAt.{misfit}

-- a misfit is of no type
pub misfit_unnamed : (types : List TypeItem) (name : List ℕ) → IsNamed types name misfit → ⊥
misfit_unnamed types [] h = let never : false ≡ true = h.0 in cc
misfit_unnamed types (b ∷ bs) h = let never : false ≡ true = h.0 in cc

one_unnamed : (types : List TypeItem) (names : List (List ℕ)) → AreNamed types names (misfit ∷ []) → ⊥
one_unnamed types [] h = h
one_unnamed types (name ∷ names) h = misfit_unnamed types name h.0

-- such an answer fits no function
pub unfit_refused : (types : List TypeItem) (s : Signature) → AnswerFits types s unfit → ⊥
unfit_refused types s h = one_unnamed types s.results h.1
