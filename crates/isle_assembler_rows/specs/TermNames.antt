-- The names of an instruction's terms.
use Rattle.std.specs.Prelude.{ℕ, List, [], ◌∷◌, ◌++◌, Bool, ◌==◌, Option, Some, None, if◌then◌else◌, codes}
use Rattle.std.specs.List.{flat_map, starts_with}
use Rattle.isle_assembler_rows.specs.declared.constructor.Constructor.{Constructor}
use Rattle.isle_meta.specs.declared.machine.Alternate.{Alternate}
use Rattle.isle_meta.specs.declared.machine.Inst.{Inst}
use Rattle.isle_assembler_rows.specs.Constructors.{constructors, suffix}

-- the raw term of the instruction of this name
abbrev pub raw_term : List ℕ → List ℕ
raw_term name = codes "x64_" ++ (name ++ codes "_raw")

-- the term of a constructor
abbrev pub made_term : Constructor → List ℕ → List ℕ
made_term c name = codes "x64_" ++ (name ++ suffix c)

-- the term that takes an alternate instead, where the feature is there
abbrev pub choice_term : Constructor → (name feature : List ℕ) → List ℕ
choice_term c name feature = made_term c name ++ (codes "_or_" ++ feature)

-- that of an instruction that has an alternate
abbrev pub choice_terms : Constructor → List ℕ → Option Alternate → List (List ℕ)
choice_terms c name None = []
choice_terms c name (Some a) = choice_term c name a.feature ∷ []

-- the terms of a constructor
abbrev pub constructor_terms : Inst → Constructor → List (List ℕ)
constructor_terms i c = made_term c i.name ∷ choice_terms c i.name i.alternate

-- whether an instruction is left out: its mnemonic begins with `push`
abbrev pub is_left_out : Inst → Bool
is_left_out i = starts_with (λ a b. a == b) i.mnemonic (codes "push")

-- all terms of an instruction; one that is left out has none
abbrev pub row_terms : Inst → List (List ℕ)
row_terms i = if is_left_out i then [] else raw_term i.name ∷ flat_map (constructor_terms i) (constructors i)
