-- What a program tells of what stands in its functions, going forward: what is fixed later is not asked.
use Rattle.std.specs.Prelude.{ℕ, ◌==◌, List, [], ◌∷◌, map, codes, Option, Some, None, slice_get, fold, if◌then◌else◌}
use Rattle.isle_core.specs.declared.types.ReturnKind.{ReturnKind}
use Rattle.isle_core.specs.declared.types.ReturnKind.TheVariants as kind
use Rattle.isle_core.specs.Int.{type_name}
use Rattle.isle_tree.specs.declared.tree.Operand.{Operand}
use Rattle.isle_tree.specs.declared.tree.Operand.TheVariants as operand
use Rattle.isle_tree.specs.declared.tree.Read.{Read}
use Rattle.isle_tree.specs.declared.tree.Read.TheVariants as read
use Rattle.isle_tree.specs.declared.tree.TBind.{TBind}
use Rattle.isle_tree.specs.declared.tree.TExpr.{TExpr}
use Rattle.isle_tree.specs.declared.tree.TExpr.TheVariants as expr
use Rattle.isle_tree.specs.declared.tree.TPat.{TPat}
use Rattle.isle_tree.specs.declared.tree.TPat.TheVariants as pattern
use Rattle.isle_tree.specs.declared.tree.Ty.{Ty}
use Rattle.isle_tree.specs.Program.{Program, Function}
use Rattle.isle_places.specs.DeclaredTypes.{Asked, These, Anything, Nowhere, second_named, variant_asked, struct_asked}
use Rattle.isle_places.specs.Signatures.{Signature, signature_of}

-- a value of the type of this name, or a tuple of values of these types, or an option of either, or a list of either, or something whose
-- type isn't fixed
pub data Told : Type 0 where
  AValue : (ty : List ℕ) → Told
  AnOption : (ty : List ℕ) → Told
  ATuple : (tys : List (List ℕ)) → Told
  AnOptionalTuple : (tys : List (List ℕ)) → Told
  AList : (ty : List ℕ) → Told
  AListOfTuples : (tys : List (List ℕ)) → Told
  Untold : Told

-- a value of a type, if there is one
abbrev pub typed_told : Option (List ℕ) → Told
typed_told None = Untold
typed_told (Some ty) = AValue ty

-- what is within an option
abbrev pub within : Told → Told
within (AnOption ty) = AValue ty
within (AnOptionalTuple tys) = ATuple tys
within (AValue ty) = Untold
within (ATuple tys) = Untold
within (AList ty) = Untold
within (AListOfTuples tys) = Untold
within Untold = Untold

-- an option of a value
abbrev pub option_of : Told → Told
option_of (AValue ty) = AnOption ty
option_of (AnOption ty) = Untold
option_of (ATuple tys) = Untold
option_of (AnOptionalTuple tys) = Untold
option_of (AList ty) = Untold
option_of (AListOfTuples tys) = Untold
option_of Untold = Untold

-- a part of a tuple
abbrev pub part_told : ℕ → Told → Told
part_told part (ATuple tys) = typed_told (slice_get tys part)
part_told part (AValue ty) = Untold
part_told part (AnOption ty) = Untold
part_told part (AnOptionalTuple tys) = Untold
part_told part (AList ty) = Untold
part_told part (AListOfTuples tys) = Untold
part_told part Untold = Untold

-- an item of a list
abbrev pub item_told : Told → Told
item_told (AList ty) = AValue ty
item_told (AListOfTuples tys) = ATuple tys
item_told (AValue ty) = Untold
item_told (AnOption ty) = Untold
item_told (ATuple tys) = Untold
item_told (AnOptionalTuple tys) = Untold
item_told Untold = Untold

-- an answer of a kind with these results, of which none and several are a tuple; of a function that answers several times none is one
abbrev pub answer_told : ReturnKind → List (List ℕ) → Told
answer_told kind.Plain (ty ∷ []) = AValue ty
answer_told kind.Option (ty ∷ []) = AnOption ty
answer_told kind.Plain [] = ATuple []
answer_told kind.Plain (ty ∷ other ∷ more) = ATuple (ty ∷ other ∷ more)
answer_told kind.Option [] = AnOptionalTuple []
answer_told kind.Option (ty ∷ other ∷ more) = AnOptionalTuple (ty ∷ other ∷ more)
answer_told kind.Iterator tys = Untold

-- what a call gives
abbrev pub call_told : Option Signature → Told
call_told None = Untold
call_told (Some s) = answer_told s.kind s.results

-- the list of the answers of a kind with these results: only a function that answers several times has one
abbrev pub answers_told : ReturnKind → List (List ℕ) → Told
answers_told kind.Iterator (ty ∷ []) = AList ty
answers_told kind.Iterator [] = AListOfTuples []
answers_told kind.Iterator (ty ∷ other ∷ more) = AListOfTuples (ty ∷ other ∷ more)
answers_told kind.Plain tys = Untold
answers_told kind.Option tys = Untold

-- the list that a call gives
abbrev pub list_told : Option Signature → Told
list_told None = Untold
list_told (Some s) = answers_told s.kind s.results

-- what each local holds, the newest last
abbrev pub Tells : Type 0
Tells = List (ℕ × Told)

-- what is bound last counts
abbrev pub newer_told : ℕ → Told → ℕ × Told → Told
newer_told n t bound = if bound.0 == n then bound.1 else t

-- what a local holds
abbrev pub look_told : Tells → ℕ → Told
look_told tells n = fold (newer_told n) Untold tells

-- what an argument holds
abbrev pub param_told : Option Ty → Told
param_told None = Untold
param_told (Some ty) = AValue ty.name

-- what an operand holds: a number of a primitive type and a name tell no type
abbrev pub operand_told : Function → Tells → Operand → Told
operand_told f tells (operand.Local n) = look_told tells n
operand_told f tells (operand.Arg n) = param_told (slice_get f.params n)
operand_told f tells (operand.Bool b) = AValue (codes "bool")
operand_told f tells (operand.Int ty z) = AValue (type_name ty)
operand_told f tells (operand.Raw z) = Untold
operand_told f tells (operand.Name name) = Untold

-- the operand of a read
abbrev pub operand_of : Read → Operand
operand_of (read.Plain o) = o
operand_of (read.Borrow o) = o
operand_of (read.Clone o) = o

-- what is read
abbrev pub read_told : Function → Tells → Read → Told
read_told f tells r = operand_told f tells (operand_of r)

-- what is computed
abbrev pub expr_told : Program → Function → Tells → TExpr → Told
expr_told p f tells (expr.Read r) = read_told f tells r
expr_told p f tells (expr.Call borrow call) = call_told (signature_of p call.callee)
expr_told p f tells (expr.Variant ty variant fields) = AValue ty
expr_told p f tells (expr.Struct ty fields) = AValue ty
expr_told p f tells (expr.Some r) = option_of (read_told f tells r)
expr_told p f tells (expr.Try source as_ref) = within (operand_told f tells source)
expr_told p f tells (expr.Tuple source part) = part_told part (operand_told f tells source)

-- so of the field of this name, of a type that asks so
abbrev pub field_told : Asked → List ℕ → Told
field_told (These fs) name = typed_told (second_named fs name)
field_told Anything name = Untold
field_told Nowhere name = Untold

-- what the locals hold that fields are bound to
abbrev pub binds_told : Asked → List TBind → Tells
binds_told asked binds = map (λ (b : TBind). (b.local, field_told asked b.field)) binds

-- so of the local that Some(..) binds
abbrev pub some_told : Option ℕ → Told → Tells
some_told None t = []
some_told (Some n) t = (n, within t) ∷ []

-- what the locals hold that a pattern binds, if it fits what holds this
abbrev pub pattern_told : Program → TPat → Told → Tells
pattern_told p (pattern.Const o) t = []
pattern_told p (pattern.Variant ty variant binds more) t = binds_told (variant_asked p.types ty ty variant) binds
pattern_told p (pattern.Struct ty binds more) t = binds_told (struct_asked p.types ty ty) binds
pattern_told p (pattern.Some local) t = some_told local t
