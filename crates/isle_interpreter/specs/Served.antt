-- The callees that entries answer for, and the constants that they give, as the code keeps them.
use Rattle.std.specs.Prelude.{◌≡◌, ◌||◌, ℕ, List, Bool, true}
use Rattle.std.specs.List.{list_any}
use Rattle.isle_core.specs.declared.values.Callee.{Callee}
use Rattle.isle_core.specs.declared.values.Callee.TheVariants.{External, Internal}
use Rattle.isle_core.specs.Terms.{goes_to}
use Rattle.isle_operand_names.specs.Occurring.{occurs}
use Rattle.isle_operand_names.specs.Sets.{has_name}
use Rattle.isle_tree.specs.declared.tree.Operand.{Operand}
use Rattle.isle_tree.specs.declared.tree.Operand.TheVariants as operand
use Rattle.isle_tree.specs.Program.{Program}
use Rattle.isle_interpreter.specs.declared.served.Served.{Served}
use Rattle.isle_interpreter.specs.Entries.{Entry, answers_for, gives}

-- whether the sets have the callee
abbrev pub has : Served → Callee → Bool
has s (External name) = has_name s.externals name
has s (Internal term) = has_name s.internals term

-- whether an entry answers for the callee
abbrev pub is_answered : List Entry → Callee → Bool
is_answered fs callee = list_any (λ f. goes_to callee (answers_for f)) fs

-- whether an entry gives the constant of this name a value
abbrev pub is_given : List Entry → List ℕ → Bool
is_given fs name = list_any (gives name) fs

-- the sets have the callees that the entries answer for, and the constants that they give
pub record Serves (fs : List Entry) (s : Served) : Type 0 where
  pub serves : (callee : Callee) → has s callee ≡ is_answered fs callee
  pub given : (name : List ℕ) → has_name s.constants name ≡ is_given fs name

-- whether what stands at a place has a value if it is a constant with a name: it is given one, or is the name of a type that occurs
abbrev pub known_operand : Program → Served → Operand → Bool
known_operand p s (operand.Name name) = has_name s.constants name || occurs p name
known_operand p s (operand.Local n) = true
known_operand p s (operand.Arg n) = true
known_operand p s (operand.Bool b) = true
known_operand p s (operand.Int ty z) = true
known_operand p s (operand.Raw z) = true
