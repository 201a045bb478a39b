-- The prelude that an optimizer writes by hand beside the file of its instructions: what this file names.
use Rattle.std.specs.Prelude.{ℕ, List, [], ◌∷◌, ◌++◌, map, replicate, filter_map, codes}
use Rattle.std.specs.List.{flat_map}
use Rattle.isle_ast.specs.Tree.{Def}
use Rattle.isle_meta.specs.declared.tables.Tables.{Tables}
use Rattle.isle_prelude.specs.Arrays.{value_array_sizes, above_one}
use Rattle.isle_prelude.specs.Declaring.{primitive, plain_decl, pure_decl, pure_multi_decl, made_by, taken_by}
use Rattle.isle_prelude.specs.NumberedNames.{value_array_ctor, value_array_type}

-- the types that rules of all machines share
abbrev pub shared_types : List Def
shared_types = map primitive (codes "Type" ∷ codes "Value" ∷ codes "Inst" ∷ codes "ValueList" ∷ codes "ValueSlice" ∷ codes "BlockCall" ∷ [])

-- a declared term that a function of its own name makes
abbrev pub making_term : Def → List ℕ → List Def
making_term decl term = decl ∷ made_by term term ∷ []

-- a declared term that a function of its own name takes apart
abbrev pub taking_term : Def → List ℕ → List Def
taking_term decl term = decl ∷ taken_by term term ∷ []

-- the term that makes an array of so many values
abbrev pub ctor_defs : ℕ → List Def
ctor_defs n = making_term (pure_decl (value_array_ctor n) (replicate n (codes "Value")) (value_array_type n)) (value_array_ctor n)

-- the terms that make and take apart instructions
abbrev pub opt_terms : List Def
opt_terms =
    making_term (plain_decl (codes "make_inst") (codes "Type" ∷ codes "InstructionData" ∷ []) (codes "Value")) (codes "make_inst")
    ++ (making_term (plain_decl (codes "make_skeleton_inst") (codes "InstructionData" ∷ []) (codes "Inst")) (codes "make_skeleton_inst")
    ++ (taking_term (pure_multi_decl (codes "inst_data_value") (codes "Type" ∷ codes "InstructionData" ∷ []) (codes "Value")) (codes "inst_data_value")
    ++ taking_term (pure_decl (codes "inst_data") (codes "InstructionData" ∷ []) (codes "Inst")) (codes "inst_data")))

-- the sizes above 1 of arrays of values
abbrev pub ctor_sizes : Tables → List ℕ
ctor_sizes t = filter_map above_one (value_array_sizes t.formats)

-- the written prelude of a table
abbrev pub written_defs : Tables → List Def
written_defs t = shared_types ++ (opt_terms ++ flat_map ctor_defs (ctor_sizes t))
