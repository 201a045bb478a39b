-- What contracts see of the converters that were gathered.
use Rattle.std.specs.Prelude.{◌≡◌, ℕ, List, [], ◌∷◌, ◌++◌, Option, Some, None, if◌then◌else◌}
use Rattle.std.specs.BTreeMap.{BTreeMap, Updates, get}
use Rattle.std.specs.declared.cmp.Ordering.{Ordering}
use Rattle.std.specs.Ordering.{nat_cmp, ordering_then}
use Rattle.isle_core.specs.declared.TermId.{TermId}
use Rattle.isle_core.specs.declared.TypeId.{TypeId}
use Rattle.isle_ast.specs.Tree.{Def}
use Rattle.isle_declarations.specs.Symbols.{index_of, symbols}
use Rattle.isle_terms.specs.declared.converters.Conversion.{Conversion as CodeConversion}
use Rattle.isle_terms.specs.declared.converters.Converter.{Converter}
use Rattle.isle_terms.specs.declared.converters.Converters.{Converters}
use Rattle.isle_terms.specs.Converters.{Conversion, converters, converter_between, converter_pass, types_of}
use Rattle.isle_terms.specs.TermPass.{tree_before}
use Rattle.isle_terms.specs.Tests.{is_misconverting}
use Rattle.isle_terms.specs.Whole.{Whole, whole_of}

-- a converter
abbrev pub seen : CodeConversion → Conversion
seen c = record { from = c.from.now; to = c.to.now; term = c.term.now }

-- the order of two types
abbrev pub pair_cmp : ℕ × ℕ → ℕ × ℕ → Ordering
pair_cmp x y = ordering_then (nat_cmp x.0 y.0) (nat_cmp x.1 y.1)

-- what the map has at two types
abbrev pub at_types : BTreeMap (ℕ × ℕ) ℕ → TypeId → TypeId → Option ℕ
at_types numbers from to = get pair_cmp numbers (from.0, to.0)

-- the number is that of the name of the converter's term
abbrev pub IsNumberOf : List Def → Option Conversion → Option ℕ → Type 0
IsNumberOf defs None None = Unit {0}
IsNumberOf defs (Some c) (Some n) = index_of (symbols defs) c.term ≡ Some n
IsNumberOf defs None (Some n) = ⊥
IsNumberOf defs (Some c) None = ⊥

-- the map has the first of these converters between each two types
pub record AreFound (defs : List Def) (cs : List Conversion) (found : Converters) : Type 0 where
  pub finds : (from to : TypeId) → IsNumberOf defs (converter_between defs cs from to) (at_types found.numbers from to)

-- a converter that follows these, if it is right and its term is there
abbrev pub taken_converter : Whole → List Conversion → Conversion → Option (TypeId × TypeId × TermId)
taken_converter w before c = if is_misconverting w.defs before c then None else converter_pass w c

-- those that follow these, if all are
abbrev pub taken_converters : Whole → (before : List Conversion) → List Conversion → Option (List (TypeId × TypeId × TermId))
taken_converters w before [] = Some []
taken_converters w before (c ∷ cs) = tree_before (taken_converter w before c) (taken_converters w (before ++ c ∷ []) cs)

-- what is known of a converter that is right
pub record IsRight (defs : List Def) (cs : List Conversion) (c : Conversion) (found : Converter) : Type 0 where
  pub types : types_of defs c ≡ Some (found.from, found.to)
  pub taken : taken_converter (whole_of defs) cs c ≡ Some (found.from, found.to, found.term)
  pub absent : converter_between defs cs found.from found.to ≡ None
  pub number : index_of (symbols defs) c.term ≡ Some found.number

-- so, or it is not taken
abbrev pub IsKnown : List Def → List Conversion → Conversion → Option Converter → Type 0
IsKnown defs cs c None = taken_converter (whole_of defs) cs c ≡ None
IsKnown defs cs c (Some found) = IsRight defs cs c found

-- one converter more
pub record IsJoined (old : Converters) (c : Converter) (new : Converters) : Type 0 where
  pub listed : new.listed.items ≡ old.listed.items ++ (c.from, c.to, c.term) ∷ []
  pub numbers : Updates pair_cmp old.numbers new.numbers (c.from.0, c.to.0) (Some c.number)

-- the converters of definitions are these, and are found by their types; or one is not taken
abbrev pub AreTaken : List Def → Option Converters → Type 0
AreTaken defs None = taken_converters (whole_of defs) [] (converters defs) ≡ None
AreTaken defs (Some found) = (taken_converters (whole_of defs) [] (converters defs) ≡ Some found.listed.items) × AreFound defs (converters defs) found

-- the converters among these definitions are taken, and are found by their types
pub record AreMet (all before : List Def) (found : Converters) : Type 0 where
  pub taken : taken_converters (whole_of all) [] (converters before) ≡ Some found.listed.items
  pub finds : AreFound all (converters before) found
