-- Steps in which code puts patterns in place of parameters.
use Rattle.std.proofs.Common.{◌≡◌, List, [], ◌∷◌, map, None, refl, sym, ap, ◌∙◌}
use Rattle.std.specs.Prelude.{slice_get, option_map}
use Rattle.std.proofs.lemmas.Option.{slice_get-map}
use Rattle.isle_base.specs.declared.ids.TypeId.{TypeId}
use Rattle.isle_base.specs.declared.ids.VarId.{VarId}
use Rattle.isle_core.specs.declared.rules.Pattern.{Pattern as CodePattern}
use Rattle.isle_core.specs.Pattern as pattern
use Rattle.isle_core.specs.Pattern.{Pattern, APattern}
use Rattle.isle_core.specs.RuleViews.{pattern as elaborated, patterns_of}
use Rattle.isle_templates.specs.Substituted.{pattern_or, argument, substituted, all_substituted}

-- parts one by one
pub parts_each : (args ps : List Pattern) → all_substituted args (patterns_of ps) ≡ patterns_of (map (substituted args) ps)
parts_each args [] = refl
parts_each args (p ∷ ps) = ap (APattern (substituted args p)) (parts_each args ps)

-- nothing stands for a parameter
pub not_given : (args : List CodePattern) (ty : TypeId) (x : VarId) → slice_get args x.0 ≡ None → pattern.Var ty x ≡ argument (map elaborated args) ty x
not_given args ty x e = sym (ap (pattern_or (pattern.Var ty x)) (slice_get-map elaborated args x.0 ∙ ap (option_map elaborated) e))
