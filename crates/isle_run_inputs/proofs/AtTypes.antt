-- The type that stands at a number, and the types that it is one of.
use Rattle.std.proofs.Common.{◌≡◌, ℕ, ◌<◌, ◌≤◌, List, length, get_or, map, Option, Some, None, refl, sym, ap, ◌∙◌}
use Rattle.std.specs.Prelude.{option_map, slice_get, IfSome, MatchOption}
use Rattle.std.specs.List.{HoldsAt}
use Rattle.std.specs.Option.{option_copied}
use Rattle.std.proofs.lemmas.Option.{slice_get-map, same_Some, none-some}
use denote.Ref.{Bor}
use Rattle.isle_core.specs.declared.types.TypeDef.{TypeDef}
use Rattle.isle_core.specs.declared.types.TypeEnv.{TypeEnv}
use Rattle.isle_core.proofs.Got.{got}

-- what was found is a type of these, if there is one
abbrev IsFound : TypeEnv → Option (Bor (TypeEnv × TypeDef)) → Option TypeDef → Type 0
IsFound types r def = option_copied r ≡ option_map (λ (d : TypeDef). (types, d)) def

-- what stands at a place in a list of all of them
pub placed : (types known : TypeEnv) (all items : List (TypeEnv × TypeDef)) (i : ℕ) (r : Option (Bor (TypeEnv × TypeDef))) → all ≡ items → items ≡ map (λ (d : TypeDef). (known, d)) known.types → known ≡ types
    → IfSome r (λ x. x.now ≡ get_or all i x.now) → MatchOption r (length all ≤ i) (λ x. (i < length all) × HoldsAt (λ y. x.now ≡ y) all i) → IsFound types r (slice_get types.types i)
placed types known all items i r shown are same read within =
    got all i r read within ∙ ap (λ xs. slice_get xs i) (shown ∙ are ∙ ap (λ t. map (λ (d : TypeDef). (t, d)) t.types) same) ∙ slice_get-map (λ (d : TypeDef). (types, d)) types.types i

-- it is of these types
pub known_in : (types : TypeEnv) (r : Option (Bor (TypeEnv × TypeDef))) (def : Option TypeDef) → IsFound types r def → IfSome r (λ m. m.now.0 ≡ types)
known_in types None def e = tt
known_in types (Some m) None e = absurd (none-some _ (sym e))
known_in types (Some m) (Some def) e = ap (λ x. x.0) (same_Some _ _ e)

-- and is this type
pub type_in : (types : TypeEnv) (r : Option (Bor (TypeEnv × TypeDef))) (def : Option TypeDef) → IsFound types r def → option_map (λ (m : Bor (TypeEnv × TypeDef)). m.now.1) r ≡ def
type_in types None None e = refl
type_in types None (Some def) e = absurd (none-some _ e)
type_in types (Some m) None e = absurd (none-some _ (sym e))
type_in types (Some m) (Some def) e = ap (λ x. Some x.1) (same_Some _ _ e)
