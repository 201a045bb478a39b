-- The types of bindings, one by one.
use Rattle.std.proofs.Common.{◌≡◌, ℕ, Option, Some, ap, ◌∙◌}
use Rattle.std.specs.Prelude.{slice_get, option_and_then}
use Rattle.isle_core.specs.declared.TypeId.{TypeId}
use Rattle.isle_core.specs.declared.VariantId.{VariantId}
use Rattle.isle_core.specs.declared.types.Term.{Term}
use Rattle.isle_core.specs.Form.{Form, form, form_types}
use Rattle.isle_core.specs.Making.{MakesVariant, MakesStruct}
use Rattle.isle_core.specs.Path.{Path, VariantField, StructField}
use Rattle.isle_core.specs.Rule.{Environment}
use Rattle.isle_simulation.specs.References.{type_at, field_type}

-- ---- fields

pub variant_type : (env : Environment) (t : Term) (p : Path) (ty : TypeId) (variant : VariantId) (i j : ℕ) (o : Option Form) (r : Option TypeId)
    → Some ty ≡ type_at env t p → o ≡ form env (MakesVariant ty variant) → j ≡ i → r ≡ option_and_then (λ f. slice_get (form_types env f) j) o → r ≡ type_at env t (VariantField variant i p)
variant_type env t p ty variant i j o r source is_o same is =
    is
    ∙ ap (option_and_then (λ (f : Form). slice_get (form_types env f) j)) is_o
    ∙ ap (λ k. option_and_then (λ (f : Form). slice_get (form_types env f) k) (form env (MakesVariant ty variant))) same
    ∙ ap (option_and_then (λ (d : TypeId). field_type env (MakesVariant d variant) i)) source

pub struct_type : (env : Environment) (t : Term) (p : Path) (ty : TypeId) (i j : ℕ) (o : Option Form) (r : Option TypeId)
    → Some ty ≡ type_at env t p → o ≡ form env (MakesStruct ty) → j ≡ i → r ≡ option_and_then (λ f. slice_get (form_types env f) j) o → r ≡ type_at env t (StructField i p)
struct_type env t p ty i j o r source is_o same is =
    is
    ∙ ap (option_and_then (λ (f : Form). slice_get (form_types env f) j)) is_o
    ∙ ap (λ k. option_and_then (λ (f : Form). slice_get (form_types env f) k) (form env (MakesStruct ty))) same
    ∙ ap (option_and_then (λ (d : TypeId). field_type env (MakesStruct d) i)) source

-- ---- one binding more
