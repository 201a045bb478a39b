-- Which bindings are references.
use Rattle.std.proofs.Common.{◌≡◌, List, true, false, Option, Some, None, refl, sym, ap, ◌∙◌}
use Rattle.std.specs.Prelude.{slice_get}
use Rattle.std.specs.Option.{option_map_or}
use Rattle.isle_core.specs.declared.BindingId.{BindingId}
use Rattle.isle_core.specs.declared.rule_sets.Binding.{Binding}
use Rattle.isle_core.specs.declared.rule_sets.Binding.TheVariants as binding
use Rattle.isle_core.specs.declared.types.Term.{Term}
use Rattle.isle_core.specs.Path.{Path, path_over, at}
use Rattle.isle_core.specs.Rule.{Environment}
use Rattle.isle_core.specs.Setting.{Setting, paths_in}
use Rattle.isle_simulation.specs.References.{type_at, is_declared, is_reference, is_reference_in}
use Rattle.isle_operands.specs.BindingTypes.{is_owned}
use Rattle.isle_operands.proofs.PathAt.{path_of, path_none}

-- what is owned is no reference
owned_no : (env : Environment) (t : Term) (ps : List Path) (b : Binding) → is_owned (Some b) ≡ true → false ≡ is_reference env t (path_over ps b)
owned_no env t ps (binding.MakeVariant ty variant fields) e = refl
owned_no env t ps (binding.MakeStruct ty fields) e = refl
owned_no env t ps (binding.Iterator source) e = refl
owned_no env t ps (binding.MatchTuple source field) e = refl
owned_no env t ps b e = absurd cc

-- of the others the type says it
typed_so : (env : Environment) (t : Term) (ps : List Path) (b : Binding) → is_owned (Some b) ≡ false → option_map_or (is_declared env) (type_at env t (path_over ps b)) false ≡ is_reference env t (path_over ps b)
typed_so env t ps (binding.MakeVariant ty variant fields) e = absurd cc
typed_so env t ps (binding.MakeStruct ty fields) e = absurd cc
typed_so env t ps (binding.Iterator source) e = absurd cc
typed_so env t ps (binding.MatchTuple source field) e = absurd cc
typed_so env t ps b e = refl

pub owned_is_none : (s : Setting) (b : BindingId) → is_owned (slice_get s.bindings b.0) ≡ true → false ≡ is_reference_in s b
owned_is_none s b e = one (slice_get s.bindings b.0) refl e
  where
    one : (o : Option Binding) → slice_get s.bindings b.0 ≡ o → is_owned o ≡ true → false ≡ is_reference_in s b
    one (Some d) at is = let h = path_of s.bindings b.0 d at in owned_no s.env s.term h.0 d is ∙ ap (is_reference s.env s.term) (sym h.1)
    one None at is = absurd cc

pub others_by_type : (s : Setting) (b : BindingId) → is_owned (slice_get s.bindings b.0) ≡ false → option_map_or (is_declared s.env) (type_at s.env s.term (at (paths_in s) b)) false ≡ is_reference_in s b
others_by_type s b e = one (slice_get s.bindings b.0) refl e
  where
    one : (o : Option Binding) → slice_get s.bindings b.0 ≡ o → is_owned o ≡ false → option_map_or (is_declared s.env) (type_at s.env s.term (at (paths_in s) b)) false ≡ is_reference_in s b
    one (Some d) at is = let h = path_of s.bindings b.0 d at in rw (h.1) (typed_so s.env s.term h.0 d is)
    one None at is = rw (path_none s.bindings b.0 at) refl
