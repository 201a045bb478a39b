-- Where a value comes from.
use Rattle.std.specs.Prelude.{ℕ, ℤ, List, [], ◌∷◌, ◌++◌, Bool, slice_index_or, fold}
use Rattle.isle_base.specs.declared.ids.BindingId.{BindingId}
use Rattle.isle_base.specs.declared.ids.Sym.{Sym}
use Rattle.isle_base.specs.declared.ids.TermId.{TermId}
use Rattle.isle_base.specs.declared.ids.TypeId.{TypeId}
use Rattle.isle_base.specs.declared.ids.VariantId.{VariantId}
use Rattle.isle_core.specs.declared.rule_sets.Binding.{Binding}
use Rattle.isle_core.specs.declared.rule_sets.Binding.TheVariants as binding

-- an argument, a constant, the answer of an extractor or of a call (by its occurrence if it is impure), a chosen
-- item, a made value, a field, the inner value or a part of an answer, or nothing that there is
mutual
  pub data Path : Type 0 where
    Nowhere : Path
    Arg : ℕ → Path
    ConstBool : TypeId → Bool → Path
    ConstInt : TypeId → ℤ → Path
    ConstPrim : Sym → Path
    Extracted : TermId → Path → Path
    Called : TermId → Paths → (instance : ℕ) → Path
    Chosen : Path → Path
    MadeVariant : TypeId → VariantId → Paths → Path
    MadeStruct : TypeId → Paths → Path
    VariantField : VariantId → (field : ℕ) → Path → Path
    StructField : (field : ℕ) → Path → Path
    Wrapped : Path → Path
    Inner : Path → Path
    Part : (part : ℕ) → Path → Path

  -- paths in order
  pub data Paths : Type 0 where
    NoPath : Paths
    APath : Path → Paths → Paths

-- the path at a place
abbrev pub at : List Path → BindingId → Path
at ps b = slice_index_or ps b.0 Nowhere

-- the paths at places
abbrev pub at_all : List Path → List BindingId → Paths
at_all ps [] = NoPath
at_all ps (b ∷ bs) = APath (at ps b) (at_all ps bs)

-- the path of a binding over those of the bindings before it
abbrev pub path_over : List Path → Binding → Path
path_over ps (binding.ConstBool val ty) = ConstBool ty val
path_over ps (binding.ConstInt val ty) = ConstInt ty val
path_over ps (binding.ConstPrim val) = ConstPrim val
path_over ps (binding.Argument index) = Arg index
path_over ps (binding.Extractor term parameter) = Extracted term (at ps parameter)
path_over ps (binding.Constructor term parameters instance) = Called term (at_all ps parameters) instance
path_over ps (binding.Iterator source) = Chosen (at ps source)
path_over ps (binding.MakeVariant ty variant fields) = MadeVariant ty variant (at_all ps fields)
path_over ps (binding.MakeStruct ty fields) = MadeStruct ty (at_all ps fields)
path_over ps (binding.MatchVariant source variant field) = VariantField variant field.0 (at ps source)
path_over ps (binding.ExtractStruct source field) = StructField field.0 (at ps source)
path_over ps (binding.MakeSome inner) = Wrapped (at ps inner)
path_over ps (binding.MatchSome source) = Inner (at ps source)
path_over ps (binding.MatchTuple source field) = Part field.0 (at ps source)

-- one binding more
abbrev pub add_path : List Path → Binding → List Path
add_path ps b = ps ++ path_over ps b ∷ []

-- the paths of bindings, whose parts stand before them
abbrev pub paths_of : List Binding → List Path
paths_of bindings = fold add_path [] bindings
