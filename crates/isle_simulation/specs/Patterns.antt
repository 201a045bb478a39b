-- The patterns that take variants, structs and options apart.
use Rattle.std.specs.Prelude.{ℕ, List, [], ◌∷◌, Bool, true, false, Option, Some, None, option_map}
use Rattle.isle_core.specs.declared.BindingId.{BindingId}
use Rattle.isle_core.specs.declared.Sym.{Sym}
use Rattle.isle_core.specs.declared.TypeId.{TypeId}
use Rattle.isle_core.specs.declared.rule_sets.Constraint.{Constraint}
use Rattle.isle_core.specs.declared.rule_sets.Constraint.TheVariants as constraint
use Rattle.isle_core.specs.Form.{Form, form}
use Rattle.isle_core.specs.Making.{MakesVariant, MakesStruct}
use Rattle.isle_core.specs.HasType.{typed_fields}
use Rattle.isle_core.specs.Rule.{Environment}
use Rattle.isle_core.specs.Terms.{sym_text}
use Rattle.isle_tree.specs.declared.tree.TBind.{TBind}
use Rattle.isle_tree.specs.declared.tree.TPat.{TPat}
use Rattle.isle_tree.specs.declared.tree.TPat.TheVariants as pattern
use Rattle.isle_simulation.specs.Operands.{tested}
use Rattle.isle_simulation.specs.References.{is_declared}

-- a field bound before others
abbrev pub bind_before : TBind → Option (List TBind) → Option (List TBind)
bind_before b None = None
bind_before b (Some bs) = Some (b ∷ bs)

-- the fields that places bind, under their names, by reference if they are enums or structs; there is a field for each place
abbrev pub field_binds : Environment → List (List ℕ × TypeId) → List (Option BindingId) → Option (List TBind)
field_binds env fields [] = Some []
field_binds env (f ∷ fields) (None ∷ places) = field_binds env fields places
field_binds env (f ∷ fields) (Some b ∷ places) = bind_before (record { field = f.0; by_ref = is_declared env f.1; local = b.0 }) (field_binds env fields places)
field_binds env [] (p ∷ places) = None

-- whether a field is left out
abbrev pub leaves_out : List (List ℕ × TypeId) → List (Option BindingId) → Bool
leaves_out [] places = false
leaves_out (f ∷ fields) [] = true
leaves_out (f ∷ fields) (None ∷ places) = true
leaves_out (f ∷ fields) (Some b ∷ places) = leaves_out fields places

-- the pattern of a variant or a struct of these names
abbrev pub pattern_named : Environment → Sym → Option Sym → (more : Bool) → List TBind → TPat
pattern_named env ty (Some variant) more binds = pattern.Variant (sym_text env ty) (sym_text env variant) binds more
pattern_named env ty None more binds = pattern.Struct (sym_text env ty) binds more

-- that of a form, if there is one
abbrev pub form_pattern : Environment → Option Form → List (Option BindingId) → Option TPat
form_pattern env None places = None
form_pattern env (Some f) places = option_map (pattern_named env f.ty f.variant (leaves_out (typed_fields env f.fields) places)) (field_binds env (typed_fields env f.fields) places)

-- the pattern of an option of something, which binds it in the one place, if there is one
abbrev pub some_pattern : List (Option BindingId) → Option TPat
some_pattern [] = Some (pattern.Some None)
some_pattern (p ∷ []) = Some (pattern.Some (option_map (λ (b : BindingId). b.0) p))
some_pattern (p ∷ q ∷ places) = None

-- that of a constraint on what a variant or a struct makes, or on an option; the others have none
abbrev pub pattern_of : Environment → Constraint → List (Option BindingId) → Option TPat
pattern_of env (constraint.Variant ty variant) places = form_pattern env (form env (MakesVariant ty variant)) places
pattern_of env (constraint.Struct ty) places = form_pattern env (form env (MakesStruct ty)) places
pattern_of env (constraint.ConstBool val) places = None
pattern_of env (constraint.ConstInt val ty) places = None
pattern_of env (constraint.ConstPrim val) places = None
pattern_of env constraint.Some places = some_pattern places

-- the pattern of one of several arms: also that of a constant
abbrev pub arm_pattern : Environment → Constraint → List (Option BindingId) → Option TPat
arm_pattern env (constraint.ConstBool val) places = option_map pattern.Const (tested env (constraint.ConstBool val))
arm_pattern env (constraint.ConstInt val ty) places = option_map pattern.Const (tested env (constraint.ConstInt val ty))
arm_pattern env (constraint.ConstPrim val) places = option_map pattern.Const (tested env (constraint.ConstPrim val))
arm_pattern env (constraint.Variant ty variant) places = pattern_of env (constraint.Variant ty variant) places
arm_pattern env (constraint.Struct ty) places = pattern_of env (constraint.Struct ty) places
arm_pattern env constraint.Some places = pattern_of env constraint.Some places
