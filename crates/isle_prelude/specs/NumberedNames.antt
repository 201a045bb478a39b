-- Names that end in how many things are held.
use Rattle.std.specs.Prelude.{ℕ, List, ◌++◌, codes}
use Rattle.isle_printer.specs.Number.{numeral}

-- the term that packs so many values, and takes them out again
unfoldable pub value_array : ℕ → List ℕ
value_array n = codes "value_array_" ++ numeral 10 n

-- the type of so many values
unfoldable pub value_array_type : ℕ → List ℕ
value_array_type n = codes "ValueArray" ++ numeral 10 n

-- the term that packs so many values in rules of an optimizer
unfoldable pub value_array_ctor : ℕ → List ℕ
value_array_ctor n = value_array n ++ codes "_ctor"

-- the term that packs so many blocks with their arguments, and takes them out again
unfoldable pub block_array : ℕ → List ℕ
block_array n = codes "block_array_" ++ numeral 10 n

-- the type of so many blocks with their arguments
unfoldable pub block_array_type : ℕ → List ℕ
block_array_type n = codes "BlockArray" ++ numeral 10 n

-- the extractor that takes so many values off the front of a list
unfoldable pub unwrap_head : ℕ → List ℕ
unwrap_head n = codes "unwrap_head_value_list_" ++ numeral 10 n

-- the function that packs for this term
abbrev pub pack : List ℕ → List ℕ
pack term = codes "pack_" ++ term

-- the function that takes out for this term
abbrev pub unpack : List ℕ → List ℕ
unpack term = codes "unpack_" ++ term
