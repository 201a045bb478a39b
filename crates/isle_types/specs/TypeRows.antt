-- The rows of the typing table on types and constants: each tells whether a definition breaks it, among all of them, after
-- those before it.
use Rattle.std.specs.Prelude.{ℕ, List, Bool, false, ◌||◌, not, Option, Some, None, is_some, map}
use Rattle.std.specs.List.{list_any}
use Rattle.isle_ast.specs.Tree.{Def}
use Rattle.isle_ast.specs.declared.tree.AstFields.{AstFields}
use Rattle.isle_declarations.specs.Symbols.{index_of}
use Rattle.isle_declarations.specs.Repeats.{repeats_after}
use Rattle.isle_declarations.specs.DeclaredTypes.{DeclaredType, Constant, type_of, constant_of, constants, made_by, made_terms}
use Rattle.isle_types.specs.Bodies.{any_fields, fields_repeat, variants_repeat, field_types, are_many}
use Rattle.isle_types.specs.TypeNames.{type_names, is_type, is_scalar}

-- the test holds of what a definition is, if it is that
abbrev pub on : {X : Type 0} → Option X → (X → Bool) → Bool
on None test = false
on (Some x) test = test x

-- a type's name repeats an earlier type's or a builtin's
abbrev pub type_repeats : (before : List Def) → Def → Bool
type_repeats before d = on (type_of d) (λ (t : DeclaredType). is_some (index_of (type_names before) t.name))

-- a variant's name repeats in its enum, or a field's in its variant or struct
abbrev pub field_repeats : Def → Bool
field_repeats d = on (type_of d) (λ (t : DeclaredType). variants_repeat t.body || any_fields fields_repeat t.body)

-- a field's type is not declared
abbrev pub field_type_missing : (all : List Def) → Def → Bool
field_type_missing all d = on (type_of d) (λ (t : DeclaredType). any_fields (λ (fields : AstFields). list_any (λ (name : List ℕ). not (is_type all name)) (field_types fields)) t.body)

-- a variant or a struct has more than 256 fields
abbrev pub many_fields : Def → Bool
many_fields d = on (type_of d) (λ (t : DeclaredType). any_fields are_many t.body)

-- the term made by a variant or a struct repeats another made term
abbrev pub made_term_repeats : (before : List Def) → Def → Bool
made_term_repeats before d = on (type_of d) (λ (t : DeclaredType). repeats_after (made_terms before) (made_by t.name t.body))

-- a constant's name repeats, or its type is neither builtin nor primitive
abbrev pub constant_misfit : (all before : List Def) → Def → Bool
constant_misfit all before d = on (constant_of d) (λ (c : Constant). is_some (index_of (map (λ (e : Constant). e.name) (constants before)) c.name) || not (is_scalar all c.ty))
