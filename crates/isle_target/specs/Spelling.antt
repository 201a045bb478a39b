-- The tokens of functions, the trait, declared types and the program.
use Rattle.std.specs.Prelude.{ℕ, zero, suc, ◌+◌, List, [], ◌∷◌, ◌++◌, length, Bool, true, false, codes}
use Rattle.isle_core.specs.declared.types.ReturnKind.{ReturnKind}
use Rattle.isle_core.specs.declared.types.ReturnKind.TheVariants as kind
use Rattle.isle_printer.specs.Token.{Token, Word, Mark}
use Rattle.isle_tree.specs.declared.tree.Ty.{Ty}
use Rattle.isle_tree.specs.declared.tree.TraitFn.{TraitFn}
use Rattle.isle_tree.specs.declared.tree.TFields.{TFields}
use Rattle.isle_tree.specs.declared.tree.TFields.TheVariants as shape
use Rattle.isle_tree.specs.declared.tree.TypeBody.{TypeBody}
use Rattle.isle_tree.specs.declared.tree.TypeBody.TheVariants as type_body
use Rattle.isle_tree.specs.declared.tree.TypeItem.{TypeItem}
use Rattle.isle_spelling.specs.Fixed.{allow_tokens, uses_tokens, fixed_tokens}
use Rattle.isle_tree.specs.Plain.{is_plain}
use Rattle.isle_tree.specs.Program.{Function, Program}
use Rattle.isle_target.specs.StatementSpelling.{param_token, borrow_part, constructor_word, close, returns_word, body_tokens}

-- <C: Context>
abbrev pub generics : List Token
generics = Mark (codes "<") ∷ Word (codes "C") ∷ Mark (codes ":") ∷ Word (codes "Context") ∷ Mark (codes ">") ∷ []

-- (ctx: &mut C,
abbrev pub context_param : List Token
context_param =
    Mark (codes "(") ∷ Word (codes "ctx") ∷ Mark (codes ":") ∷ Mark (codes "&") ∷ Word (codes "mut") ∷ Word (codes "C") ∷ Mark (codes ",") ∷ []

-- pub fn, the function's name, and its context
abbrev pub function_head : List ℕ → List Token
function_head term = Word (codes "pub") ∷ Word (codes "fn") ∷ Word (constructor_word term) ∷ (generics ++ context_param)

-- argN: &TYPE
abbrev pub typed_tokens : ℕ → Ty → List Token
typed_tokens n ty = param_token n ∷ Mark (codes ":") ∷ (borrow_part ty.by_ref ++ Word ty.name ∷ [])

-- the n-th parameter with its type
abbrev pub param_tokens : ℕ → Ty → List Token
param_tokens n ty = typed_tokens n ty ++ Mark (codes ",") ∷ []

-- the parameters from number n on
abbrev pub params_tokens : ℕ → List Ty → List Token
params_tokens n [] = []
params_tokens n (ty ∷ tys) = param_tokens n ty ++ params_tokens (n + 1) tys

-- returns: &mut (impl Extend<
abbrev pub returns_head : List Token
returns_head =
    Word (codes "returns") ∷ Mark (codes ":") ∷ Mark (codes "&") ∷ Word (codes "mut") ∷ Mark (codes "(") ∷ Word (codes "impl") ∷ Word (codes "Extend") ∷ Mark (codes "<")
    ∷ []

-- > + Length),) -> ()
abbrev pub returns_end : List Token
returns_end =
    Mark (codes ">") ∷ Mark (codes "+") ∷ Word (codes "Length") ∷ Mark (codes ")") ∷ Mark (codes ",") ∷ Mark (codes ")")
    ∷ Mark (codes "->") ∷ Mark (codes "(") ∷ Mark (codes ")")
    ∷ []

-- what closes the parameters, and what a function gives; several results are appended to its last parameter
abbrev pub result_tokens : ReturnKind → List ℕ → List Token
result_tokens kind.Plain ty = Mark (codes ")") ∷ Mark (codes "->") ∷ Word ty ∷ []
result_tokens kind.Option ty = Mark (codes ")") ∷ Mark (codes "->") ∷ Word (codes "Option") ∷ Mark (codes "<") ∷ Word ty ∷ Mark (codes ">") ∷ []
result_tokens kind.Iterator ty = returns_head ++ Word ty ∷ returns_end

-- these, and a {
abbrev pub result_part : ReturnKind → List ℕ → List Token
result_part kind ty = result_tokens kind ty ++ Mark (codes "{") ∷ []

-- the function of a term
unfoldable pub function_tokens : Function → List Token
function_tokens f = function_head f.term ++ (params_tokens 0 f.params ++ (result_part f.kind f.result ++ (body_tokens f.body ++ close)))

-- the functions in order
abbrev pub functions_tokens : List Function → List Token
functions_tokens [] = []
functions_tokens (f ∷ fs) = function_tokens f ++ functions_tokens fs

-- the allow lines, if the program has them
abbrev pub allow_part : Bool → List Token
allow_part true = allow_tokens
allow_part false = []

-- what a trait begins with
abbrev pub trait_head : List Token
trait_head = Word (codes "pub") ∷ Word (codes "trait") ∷ Word (codes "Context") ∷ Mark (codes "{") ∷ []

-- (&mut self,
abbrev pub self_param : List Token
self_param = Mark (codes "(") ∷ Mark (codes "&") ∷ Word (codes "mut") ∷ Word (codes "self") ∷ Mark (codes ",") ∷ []

-- what a function of the trait begins with
abbrev pub trait_fn_head : List ℕ → List Token
trait_fn_head name = Word (codes "fn") ∷ Word name ∷ self_param

-- what stands before the n-th parameter
abbrev pub comma : ℕ → List Token
comma zero = []
comma (suc n) = Mark (codes ",") ∷ []

-- the parameters from number n on
abbrev pub joined_tokens : ℕ → List Ty → List Token
joined_tokens n [] = []
joined_tokens n (ty ∷ tys) = comma n ++ (typed_tokens n ty ++ joined_tokens (n + 1) tys)

-- returns: &mut Self::F_returns)
abbrev pub returns_param : List ℕ → List Token
returns_param name =
    Word (codes "returns") ∷ Mark (codes ":") ∷ Mark (codes "&") ∷ Word (codes "mut") ∷ Word (codes "Self") ∷ Mark (codes "::") ∷ Word (returns_word name) ∷ Mark (codes ")")
    ∷ []

-- what closes the parameters of a function of the trait, so many of them; the list that it fills is the last
abbrev pub joined_end : ReturnKind → List ℕ → ℕ → List Token
joined_end kind.Plain name n = Mark (codes ")") ∷ []
joined_end kind.Option name n = Mark (codes ")") ∷ []
joined_end kind.Iterator name n = comma n ++ returns_param name

-- the types of a tuple from number n on, and what closes them
abbrev pub joined_types : ℕ → List (List ℕ) → List Token
joined_types n [] = Mark (codes ")") ∷ []
joined_types n (ty ∷ tys) = comma n ++ Word ty ∷ joined_types (n + 1) tys

-- the type of an answer's results: the one, or a tuple of none or several
abbrev pub item_tokens : List (List ℕ) → List Token
item_tokens [] = Mark (codes "(") ∷ joined_types 0 []
item_tokens (ty ∷ []) = Word ty ∷ []
item_tokens (ty ∷ more ∷ tys) = Mark (codes "(") ∷ joined_types 0 (ty ∷ more ∷ tys)

-- what a function of the trait gives
abbrev pub results_tokens : ReturnKind → List (List ℕ) → List Token
results_tokens kind.Plain tys = item_tokens tys
results_tokens kind.Option tys = Word (codes "Option") ∷ Mark (codes "<") ∷ (item_tokens tys ++ Mark (codes ">") ∷ [])
results_tokens kind.Iterator tys = Mark (codes "(") ∷ Mark (codes ")") ∷ []

-- -> RESULT;
abbrev pub trait_result : ReturnKind → List (List ℕ) → List Token
trait_result kind tys = Mark (codes "->") ∷ (results_tokens kind tys ++ Mark (codes ";") ∷ [])

-- : Default + IntoContextIter<Context = Self, Output =
abbrev pub list_bound : List Token
list_bound =
    Mark (codes ":") ∷ Word (codes "Default") ∷ Mark (codes "+") ∷ Word (codes "IntoContextIter") ∷ Mark (codes "<") ∷ Word (codes "Context") ∷ Mark (codes "=") ∷ Word (codes "Self")
    ∷ Mark (codes ",") ∷ Word (codes "Output") ∷ Mark (codes "=")
    ∷ []

-- the type of the list that a function of the trait fills, if it answers several times
abbrev pub list_type : ReturnKind → List ℕ → List (List ℕ) → List Token
list_type kind.Plain name tys = []
list_type kind.Option name tys = []
list_type kind.Iterator name tys = Word (codes "type") ∷ Word (returns_word name) ∷ (list_bound ++ (item_tokens tys ++ Mark (codes ">") ∷ Mark (codes ";") ∷ []))

-- a function of the trait
unfoldable pub trait_fn_tokens : TraitFn → List Token
trait_fn_tokens f =
    list_type f.kind f.name f.results
    ++ (trait_fn_head f.name ++ (joined_tokens 0 f.params ++ (joined_end f.kind f.name (length f.params) ++ trait_result f.kind f.results)))

-- the functions of the trait in order
abbrev pub trait_fns_tokens : List TraitFn → List Token
trait_fns_tokens [] = []
trait_fns_tokens (f ∷ fs) = trait_fn_tokens f ++ trait_fns_tokens fs

-- the trait with its functions
abbrev pub trait_tokens : List TraitFn → List Token
trait_tokens fs = trait_head ++ (trait_fns_tokens fs ++ close)

-- ---- declared types

-- what stands before a field that others see
abbrev pub visible : Bool → List Token
visible true = Word (codes "pub") ∷ []
visible false = []

-- NAME: TYPE,
abbrev pub field_tokens : Bool → List ℕ × List ℕ → List Token
field_tokens public f = visible public ++ Word f.0 ∷ Mark (codes ":") ∷ Word f.1 ∷ Mark (codes ",") ∷ []

-- fields with names, and what closes them
abbrev pub named_tokens : Bool → List (List ℕ × List ℕ) → List Token
named_tokens public [] = Mark (codes "}") ∷ []
named_tokens public (f ∷ fs) = field_tokens public f ++ named_tokens public fs

-- fields without names, from number n on, and what closes them
abbrev pub places_tokens : Bool → ℕ → List (List ℕ) → List Token
places_tokens public n [] = Mark (codes ")") ∷ []
places_tokens public n (ty ∷ tys) = comma n ++ (visible public ++ Word ty ∷ places_tokens public (n + 1) tys)

-- the fields of a variant or a struct
abbrev pub fields_tokens : Bool → TFields → List Token
fields_tokens public shape.Unit = []
fields_tokens public (shape.Named fs) = Mark (codes "{") ∷ named_tokens public fs
fields_tokens public (shape.Tuple tys) = Mark (codes "(") ∷ places_tokens public 0 tys

-- a variant: its name and its fields
abbrev pub variant_tokens : List ℕ × TFields → List Token
variant_tokens v = Word v.0 ∷ (fields_tokens false v.1 ++ Mark (codes ",") ∷ [])

-- variants, and what closes them
abbrev pub variants_tokens : List (List ℕ × TFields) → List Token
variants_tokens [] = Mark (codes "}") ∷ []
variants_tokens (v ∷ vs) = variant_tokens v ++ variants_tokens vs

-- what stands after the fields of a struct
abbrev pub struct_end : TFields → List Token
struct_end shape.Unit = Mark (codes ";") ∷ []
struct_end (shape.Named fs) = []
struct_end (shape.Tuple tys) = Mark (codes ";") ∷ []

-- an enum or a struct
abbrev pub type_body_tokens : List ℕ → TypeBody → List Token
type_body_tokens name (type_body.Enum vs) = Word (codes "pub") ∷ Word (codes "enum") ∷ Word name ∷ Mark (codes "{") ∷ variants_tokens vs
type_body_tokens name (type_body.Struct fs) = Word (codes "pub") ∷ Word (codes "struct") ∷ Word name ∷ (fields_tokens true fs ++ struct_end fs)

-- what every type derives, and what one without fields does
abbrev pub derives : Bool → List Token
derives true =
    Word (codes "Copy") ∷ Mark (codes ",") ∷ Word (codes "Clone") ∷ Mark (codes ",") ∷ Word (codes "PartialEq") ∷ Mark (codes ",") ∷ Word (codes "Eq") ∷ []
derives false = Word (codes "Clone") ∷ []

-- whether its values can be shown
abbrev pub debug_part : Bool → List Token
debug_part true = Mark (codes ",") ∷ Word (codes "Debug") ∷ []
debug_part false = []

-- #[derive(
abbrev pub derive_head : List Token
derive_head = Mark (codes "#") ∷ Mark (codes "[") ∷ Word (codes "derive") ∷ Mark (codes "(") ∷ []

-- )]
abbrev pub derive_end : List Token
derive_end = Mark (codes ")") ∷ Mark (codes "]") ∷ []

-- #[derive(..)], of a type without fields or another one, shown or not
abbrev pub derive_tokens : Bool → Bool → List Token
derive_tokens plain debug = derive_head ++ (derives plain ++ (debug_part debug ++ derive_end))

-- a declared type
unfoldable pub type_tokens : TypeItem → List Token
type_tokens t = derive_tokens (is_plain t.body) t.debug ++ type_body_tokens t.name t.body

-- the declared types in order
abbrev pub types_tokens : List TypeItem → List Token
types_tokens [] = []
types_tokens (t ∷ ts) = type_tokens t ++ types_tokens ts

-- ---- the program

-- the allow lines, the uses, the trait, the fixed items, the types, the functions
abbrev pub program_tokens : Program → List Token
program_tokens p =
    allow_part p.allow ++ (uses_tokens ++ (trait_tokens p.trait_fns ++ (fixed_tokens ++ (types_tokens p.types ++ functions_tokens p.fns))))
