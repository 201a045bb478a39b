-- Answers as entries, which are counted, and when one is wrong.
use Rattle.std.specs.Prelude.{◌≡◌, ℕ, List, [], ◌∷◌, ◌++◌, map, Bool, true, false, ◌&&◌, not, IsTrue, Option, Some, None, IsSomeAnd, Contains}
use Rattle.std.specs.List.{AllByRecursion}
use Rattle.std.specs.Str.{bytes_eq}
use Rattle.isle_core.specs.declared.values.Callee.{Callee}
use Rattle.isle_core.specs.Value.{Value, Truth, Int, Opaque, Variant, Struct, Answer}
use Rattle.isle_core.specs.Meaning.{PureAnswers, TurnAnswers, Meaning}
use Rattle.isle_core.specs.Terms.{goes_to}
use Rattle.isle_printer.specs.Bytes.{same_bytes}
use Rattle.isle_tree.specs.declared.tree.TypeItem.{TypeItem}
use Rattle.isle_tree.specs.Program.{Function, Program}
use Rattle.isle_operand_names.specs.Names.{function_names, is_among}
use Rattle.isle_operand_names.specs.Occurring.{occurs}
use Rattle.isle_places.specs.Places.{StandsAt}
use Rattle.isle_places.specs.Signatures.{Signature, signature_of}
use Rattle.isle_interpreter.specs.Apart.{IsApart}
use Rattle.isle_interpreter.specs.Named.{IsNamed, AreNamed, AnswerFits}

-- a constant's value, the cases of a callee, or its turns
pub data Entry : Type 0 where
  Constant : (name : List ℕ) → Value → Entry
  Cases : PureAnswers → Entry
  Turns : TurnAnswers → Entry

-- the entries in the order in which they are counted
abbrev pub entries : Meaning → List Entry
entries m = map (λ c. Constant c.0 c.1) m.consts ++ (map Cases m.pure ++ map Turns m.turns)

-- the callee that an entry answers for
abbrev pub answers_for : Entry → Option Callee
answers_for (Constant name v) = None
answers_for (Cases a) = Some a.callee
answers_for (Turns a) = Some a.callee

-- no entry answers for the callee
abbrev pub IsUnanswered : Callee → List Entry → Type 0
IsUnanswered callee = AllByRecursion (λ f. goes_to callee (answers_for f) ≡ false)

-- whether an entry gives the constant of this name a value
abbrev pub gives : List ℕ → Entry → Bool
gives name (Constant other v) = bytes_eq name other
gives name (Cases a) = false
gives name (Turns a) = false

-- no entry gives it one
abbrev pub IsUngiven : List ℕ → List Entry → Type 0
IsUngiven name = AllByRecursion (λ f. gives name f ≡ false)

-- whether a value is of some type: an opaque number under no name is of none
abbrev pub is_typed : Value → Bool
is_typed (Opaque ty n) = not (same_bytes [] ty)
is_typed (Truth b) = true
is_typed (Int ty n) = true
is_typed (Variant ty variant fs) = true
is_typed (Struct ty fs) = true

-- whether the program has a constant of this name: it stands in a function, and no type that occurs has it
abbrev pub has_constant : Program → List ℕ → Bool
has_constant p name = is_among name (function_names p.fns) && not (occurs p name)

-- a value of each type that the program fixes for a place of the constant of this name
abbrev pub FitsPlaces : Program → List ℕ → Value → Type 0
FitsPlaces p name v = (g : Function) (ty : List ℕ) → Contains p.fns g → StandsAt p g name ty → IsNamed p.types ty v

-- a case takes what the function takes
abbrev pub CaseFits : List TypeItem → Signature → List Value × Answer → Type 0
CaseFits types s c = AreNamed types s.params c.0 × AnswerFits types s c.1

-- the answers of an entry fit the function that it answers for
abbrev pub EntryFits : List TypeItem → Entry → Signature → Type 0
EntryFits types (Constant name v) s = ⊥
EntryFits types (Cases a) s = AllByRecursion (CaseFits types s) a.cases × AnswerFits types s a.rest
EntryFits types (Turns a) s = AllByRecursion (AnswerFits types s) a.turns × AnswerFits types s a.rest

-- no entry answers for the callee, the program has it, and the answers fit it
abbrev pub IsRightFor : Program → List Entry → Entry → Callee → Type 0
IsRightFor p earlier f callee = IsUnanswered callee earlier × IsSomeAnd (signature_of p callee) (EntryFits p.types f)

-- a constant after these is right, for a run of the function under the meaning: the program has it, none of them gives it a value,
-- its own is of each type that its places have, and no other constant of its type in the function has that value
pub record IsRightConstant (p : Program) (f : Function) (m : Meaning) (earlier : List Entry) (name : List ℕ) (v : Value) : Type 0 where
  pub once : IsUngiven name earlier
  pub there : IsTrue (has_constant p name)
  pub typed : IsTrue (is_typed v)
  pub fits : FitsPlaces p name v
  pub apart : IsApart p f m name

-- an entry after these is right: so a constant, or the program has its callee, none of them answers for that, and its answers fit
abbrev pub IsRight : Program → Function → Meaning → List Entry → Entry → Type 0
IsRight p f m earlier (Constant name v) = IsRightConstant p f m earlier name v
IsRight p f m earlier (Cases a) = IsRightFor p earlier (Cases a) a.callee
IsRight p f m earlier (Turns a) = IsRightFor p earlier (Turns a) a.callee

-- each entry after these is right
abbrev pub AreRight : Program → Function → Meaning → (earlier later : List Entry) → Type 0
AreRight p f m earlier [] = Unit {0}
AreRight p f m earlier (e ∷ es) = IsRight p f m earlier e × AreRight p f m (earlier ++ e ∷ []) es
