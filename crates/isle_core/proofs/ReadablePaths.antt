-- What may be read is bound, made, or has a path that may be read in place; and the other way round.
use Rattle.std.proofs.Common.{◌≡◌, ◌⊎◌, inl, inr, ℕ, List, Some, sym, subst, take}
use Rattle.std.specs.Prelude.{Contains, slice_get}
use Rattle.isle_base.specs.declared.ids.BindingId.{BindingId}
use Rattle.isle_core.specs.declared.rule_sets.Binding.{Binding}
use Rattle.isle_core.specs.declared.rule_sets.Binding.TheVariants as binding
use Rattle.isle_core.specs.Path.{Path, Arg, ConstBool, ConstInt, ConstPrim, MadeVariant, MadeStruct, at, path_over, paths_of}
use Rattle.isle_core.specs.Readable.{IsInPlace, IsReadable, is_bound, argument, truth, number, named, made_variant, made_struct}
use Rattle.isle_core.specs.Setting.{Setting}
use Rattle.isle_core.proofs.BindingPaths.{IsThere, at_before, binding_at}

-- the path of a made value
abbrev pub IsMadePath : Path → Type 0
IsMadePath (MadeVariant ty variant ps) = Unit {0}
IsMadePath (MadeStruct ty ps) = Unit {0}
IsMadePath p = ⊥

-- what may be read is bound, stands in place, or is made
pub read_place : {b : BindingId} (s : Setting) (bound : List ℕ) → IsReadable s bound b → IsInPlace (at (paths_of s.bindings) b) ⊎ (Contains bound b.0 ⊎ IsMadePath (at (paths_of s.bindings) b))
read_place s bound (is_bound b c) = inr (inl c)
read_place s bound (argument b index e) = inl (subst IsInPlace (sym (at_before s.bindings b (binding.Argument index) e)) tt)
read_place s bound (truth b val ty e) = inl (subst IsInPlace (sym (at_before s.bindings b (binding.ConstBool val ty) e)) tt)
read_place s bound (number b val ty e) = inl (subst IsInPlace (sym (at_before s.bindings b (binding.ConstInt val ty) e)) tt)
read_place s bound (named b val e) = inl (subst IsInPlace (sym (at_before s.bindings b (binding.ConstPrim val) e)) tt)
read_place s bound (made_variant b ty variant fields e h) = inr (inr (subst IsMadePath (sym (at_before s.bindings b (binding.MakeVariant ty variant fields) e)) tt))
read_place s bound (made_struct b ty fields e h) = inr (inr (subst IsMadePath (sym (at_before s.bindings b (binding.MakeStruct ty fields) e)) tt))

in_place_there : (p : Path) → IsInPlace p → IsThere p
in_place_there (Arg i) h = tt
in_place_there (ConstBool ty b) h = tt
in_place_there (ConstInt ty n) h = tt
in_place_there (ConstPrim name) h = tt
in_place_there p h = absurd h

-- what stands in place may be read
pub place_read : (s : Setting) (bound : List ℕ) (b : BindingId) → IsInPlace (at (paths_of s.bindings) b) → IsReadable s bound b
place_read s bound b h =
    let x = binding_at s.bindings b (in_place_there (at (paths_of s.bindings) b) h) in
    of x.0 x.1 (subst IsInPlace (at_before s.bindings b x.0 x.1) h)
  where
    of : (x : Binding) → slice_get s.bindings b.0 ≡ Some x → IsInPlace (path_over (take b.0 (paths_of s.bindings)) x) → IsReadable s bound b
    of (binding.Argument index) e k = argument b index e
    of (binding.ConstBool val ty) e k = truth b val ty e
    of (binding.ConstInt val ty) e k = number b val ty e
    of (binding.ConstPrim val) e k = named b val e
    of x e k = absurd k
