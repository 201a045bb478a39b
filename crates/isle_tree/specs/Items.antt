-- What the types and the functions of the trait of a program keep to.
use Rattle.std.specs.Prelude.{ℕ, ◌<◌, List, length}
use Rattle.std.specs.List.{AllByRecursion}
use Rattle.isle_spelling.specs.Identifier.{IsIdentifier}
use Rattle.isle_tree.specs.declared.tree.Ty.{Ty}
use Rattle.isle_tree.specs.declared.tree.TraitFn.{TraitFn}
use Rattle.isle_tree.specs.declared.tree.TFields.{TFields}
use Rattle.isle_tree.specs.declared.tree.TFields.TheVariants as shape
use Rattle.isle_tree.specs.declared.tree.TypeBody.{TypeBody}
use Rattle.isle_tree.specs.declared.tree.TypeBody.TheVariants as type_body
use Rattle.isle_tree.specs.declared.tree.TypeItem.{TypeItem}

-- the type of a parameter, behind a & or not
abbrev pub IsTy : Ty → Type 0
IsTy ty = IsIdentifier ty.name

-- the results of a function of the trait: one, several or none
abbrev pub AreResults : List (List ℕ) → Type 0
AreResults names = AllByRecursion IsIdentifier names

-- a function of the trait
pub record IsTraitFn (f : TraitFn) : Type 0 where
  pub name : IsIdentifier f.name
  pub params : AllByRecursion IsTy f.params
  pub results : AreResults f.results

-- a field with a name, and its type
abbrev pub IsField : List ℕ × List ℕ → Type 0
IsField f = IsIdentifier f.0 × IsIdentifier f.1

-- the fields of a variant or a struct: some, or Unit in place of none
abbrev pub AreFields : TFields → Type 0
AreFields shape.Unit = Unit {0}
AreFields (shape.Named fs) = (0 < length fs) × AllByRecursion IsField fs
AreFields (shape.Tuple tys) = (0 < length tys) × AllByRecursion IsIdentifier tys

-- a variant: its name and its fields
abbrev pub IsVariant : List ℕ × TFields → Type 0
IsVariant v = IsIdentifier v.0 × AreFields v.1

-- what a type is made of
abbrev pub IsTypeBody : TypeBody → Type 0
IsTypeBody (type_body.Enum vs) = AllByRecursion IsVariant vs
IsTypeBody (type_body.Struct fs) = AreFields fs

-- a declared type: all names in it are names of Rust
pub record IsTypeItem (t : TypeItem) : Type 0 where
  pub name : IsIdentifier t.name
  pub body : IsTypeBody t.body
