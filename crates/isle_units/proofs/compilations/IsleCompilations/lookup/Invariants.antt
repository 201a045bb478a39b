use Rattle.std.proofs.Common.{◌≡◌, drop}
use Rattle.std.specs.Prelude.{find}
use Rattle.std.specs.Str.{bytes_eq}
use Rattle.isle_units.specs.declared.compilation.IsleCompilation.{IsleCompilation}
use Rattle.isle_units.proofs.compilations.IsleCompilations.lookup.Given as goal

abbrev pub invariant-loop-unit : goal.invariant-loop-unit
invariant-loop-unit l = find (λ (u : IsleCompilation). bytes_eq u.name l.name) (drop l.unit-index l.items) ≡ find (λ (u : IsleCompilation). bytes_eq u.name l.name) l.items
