-- The Rust text of the numeric prelude: a macro that writes a method for each function that the rule text names.
use Rattle.std.specs.Prelude.{ℕ, List, [], ◌∷◌, ◌++◌, Bool, true, false, codes, if◌then◌else◌}
use Rattle.std.specs.List.{flat_map, filter}
use Rattle.isle_numerics.specs.declared.conversion.Conversion.{Conversion}
use Rattle.isle_numerics.specs.declared.conversion.Conversion.TheVariants.{Into, TryInto, UnwrapInto, TruncateInto, CastSigned, CastUnsigned}
use Rattle.isle_numerics.specs.declared.numeric_type.NumericType.{NumericType}
use Rattle.isle_numerics.specs.declared.operation.Operation.{Operation}
use Rattle.isle_numerics.specs.declared.operation.Takes.{Takes}
use Rattle.isle_numerics.specs.Conversions.{conversions, is_lossless}
use Rattle.isle_numerics.specs.Definitions.{prefixed, matcher, asked, conversion_name, is_trial, from_name, name_of, is_other}
use Rattle.isle_numerics.specs.NumericTypes.{numeric_types}
use Rattle.isle_numerics.specs.Operations.{row}
use Rattle.isle_numerics.specs.Table.{arguments, given, is_predicate, operations}

-- ---- methods

-- an argument and its type
unfoldable pub argument_text : List ℕ × List ℕ → List ℕ
argument_text arg = codes " " ++ (arg.0 ++ (codes ": " ++ arg.1))

-- an argument and its type, before a comma
abbrev pub listed_text : List ℕ × List ℕ → List ℕ
listed_text arg = argument_text arg ++ codes ","

-- a type, or an option of it
unfoldable pub optional : Bool → List ℕ → List ℕ
optional true ty = codes "Option<" ++ (ty ++ codes ">")
optional false ty = ty

-- what stands before a method's name
unfoldable pub opener : List ℕ
opener = codes "        #[inline]\n        fn "

-- how a method of this name begins
unfoldable pub head : List ℕ → List ℕ
head name = opener ++ (name ++ codes "(&mut self,")

-- what stands between a method's arguments and what it does, if it gives this type
unfoldable pub opening : List ℕ → List ℕ
opening ret = codes ") -> " ++ (ret ++ codes " {\n            ")

-- how a method ends
unfoldable pub closing : List ℕ
closing = codes "\n        }\n"

-- a method of this name whose arguments are written so, that gives this type and does this
abbrev pub method : (name args ret body : List ℕ) → List ℕ
method name args ret body = head name ++ (args ++ (opening ret ++ (body ++ closing)))

-- ---- operations

-- a value that is always there
unfoldable pub some_of : List ℕ → List ℕ
some_of body = codes "Some(" ++ (body ++ codes ")")

-- the arguments of an operation, each before a comma
abbrev pub operation_arguments : List ℕ → Takes → List ℕ
operation_arguments ty takes = flat_map listed_text (arguments ty takes)

-- the method of an operation, at the type of this name
abbrev pub operation_method : List ℕ → Operation → List ℕ
operation_method ty op =
    method (prefixed ty (row op).name) (operation_arguments ty (row op).takes) (optional (row op).is_partial (given ty (row op).gives)) (row op).body

-- the method that answers a predicate's flag
abbrev pub matching_method : List ℕ → Operation → List ℕ
matching_method ty op = method (matcher ty (asked op)) (argument_text (codes "a", ty)) (optional true (codes "bool")) (some_of (row op).body)

-- an operation's method, and after a predicate's that of its flag
abbrev pub operation_methods : List ℕ → Operation → List ℕ
operation_methods ty op = operation_method ty op ++ (if is_predicate op then matching_method ty op else [])

-- those of a type's operations
abbrev pub type_methods : NumericType → List ℕ
type_methods ty = flat_map (operation_methods (name_of ty)) (operations ty.signed)

-- ---- conversions

-- what a conversion to the type of this name does
abbrev pub conversion_body : List ℕ → Conversion → List ℕ
conversion_body to Into = to ++ codes "::from(x)"
conversion_body to TryInto = to ++ codes "::try_from(x).ok()"
conversion_body to UnwrapInto = to ++ codes "::try_from(x).unwrap()"
conversion_body to TruncateInto = codes "x as " ++ to
conversion_body to CastSigned = codes "x as " ++ to
conversion_body to CastUnsigned = codes "x as " ++ to

-- the method of a conversion between the types of these names
abbrev pub conversion_method : (from to : List ℕ) → Conversion → List ℕ
conversion_method from to c = method (conversion_name from to c) (argument_text (codes "x", from)) (optional (is_trial c) to) (conversion_body to c)

-- what the extractor of a pair does, by whether no number is lost
abbrev pub back_body : Bool → List ℕ
back_body true = codes "Some(x.into())"
back_body false = codes "x.try_into().ok()"

-- the method of a pair's extractor, whose term is named the other way round
abbrev pub back_method : (lossless : Bool) → (from to : List ℕ) → List ℕ
back_method lossless from to = method (from_name from to) (argument_text (codes "x", from)) (optional true to) (back_body lossless)

-- the methods of a pair of types
abbrev pub pair_methods : NumericType → NumericType → List ℕ
pair_methods from to =
    flat_map (conversion_method (name_of from) (name_of to)) (conversions from to) ++ back_method (is_lossless from to) (name_of from) (name_of to)

-- those of the pairs whose first type is this one, and whose second is another one of these
abbrev pub methods_from : List NumericType → NumericType → List ℕ
methods_from types from = flat_map (pair_methods from) (filter (is_other from) types)

-- ---- all of them

-- how the macro begins
unfoldable pub macro_head : List ℕ
macro_head = codes "#[macro_export]\n#[doc(hidden)]\nmacro_rules! isle_numerics_methods {\n    () => {\n"

-- how it ends
unfoldable pub macro_tail : List ℕ
macro_tail = codes "    }\n}\n"

-- the macro for these types: operations type by type, and then conversions
unfoldable pub methods_of : List NumericType → List ℕ
methods_of types = macro_head ++ (flat_map type_methods types ++ (flat_map (methods_from types) types ++ macro_tail))

-- the macro
unfoldable pub numeric_methods : List ℕ
numeric_methods = methods_of numeric_types
