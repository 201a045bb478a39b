-- A let of a made value binds it as what a place holds.
use Rattle.std.proofs.Common.{◌≡◌, ℕ, List, Option, Some, None, refl}
use Rattle.isle_core.specs.Value.{FieldValues}
use Rattle.isle_tree.specs.Run.{Env, State, run_bind, run_variant, run_struct}
use Rattle.isle_running.specs.Steps.{variant_held, struct_held}

pub variant_bound : (n : ℕ) (ty variant : List ℕ) (o : Option FieldValues) (env : Env) (s : State) → run_variant n ty variant o env s ≡ run_bind n (variant_held ty variant o) env s
variant_bound n ty variant None env s = refl
variant_bound n ty variant (Some fs) env s = refl

pub struct_bound : (n : ℕ) (ty : List ℕ) (o : Option FieldValues) (env : Env) (s : State) → run_struct n ty o env s ≡ run_bind n (struct_held ty o) env s
struct_bound n ty None env s = refl
struct_bound n ty (Some fs) env s = refl
