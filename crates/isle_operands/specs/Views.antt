-- What contracts see of lists of functions.
use Rattle.std.specs.Prelude.{◌≡◌, List, ◌++◌, Option}
use Rattle.std.specs.List.{cons_option}
use Rattle.isle_tree.specs.declared.tree.TraitFn.{TraitFn}

-- a function was pushed, if there is one
abbrev pub IsPushed : (old new : List TraitFn) → Option TraitFn → Type 0
IsPushed old new f = (more : List TraitFn) → new ++ more ≡ old ++ cons_option f more
