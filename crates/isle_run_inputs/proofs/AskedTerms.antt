-- A function that is put among those that are asked by cases.
use Rattle.std.proofs.Common.{◌≡◌, ℕ, List, Bool, true, false, cond, Option, Some, refl, sym, ap, ◌∙◌}
use Rattle.std.specs.Prelude.{option_map}
use Rattle.std.specs.Str.{bytes_eq}
use Rattle.std.specs.Ordering.{nat_cmp}
use Rattle.std.specs.Cmp.Lexicographic.{slice_cmp, nat_list_eq_equiv}
use Rattle.std.specs.BTreeMap.{BTreeMap, get_by, UpdatesBy}
use Rattle.std.proofs.lemmas.Map.Text.{btree_map_updates_str}
use denote.Ref.{Bor}
use Rattle.isle_core.specs.declared.values.Callee.TheVariants.{External, Internal}
use Rattle.isle_core.specs.Terms.{goes_to}
use Rattle.isle_run_inputs.specs.declared.asked.Asked.{Asked as CodeAsked}
use Rattle.isle_run_inputs.specs.declared.callees.Called.{Called}
use Rattle.isle_run_inputs.specs.Called.{called}
use Rattle.isle_run_inputs.specs.AskedFunctions.{asked_seen, types_at, IsPut}

mapped : (here : Bool) (a : CodeAsked) (old : Option CodeAsked) → option_map asked_seen (cond here (Some a) old) ≡ cond here (Some (asked_seen a)) (option_map asked_seen old)
mapped true a old = refl
mapped false a old = refl

-- a map was updated at a name
abbrev Updated : Bor (List ℕ) → CodeAsked → (old new : BTreeMap (Bor (List ℕ)) CodeAsked) → Type 0
Updated key a old new = UpdatesBy (λ (x y : Bor (List ℕ)). slice_cmp nat_cmp x.now y.now) (λ (k : Bor (List ℕ)). slice_cmp nat_cmp key.now k.now) old new (Some a)

inserted : (key : Bor (List ℕ)) (a : CodeAsked) (old new : BTreeMap (Bor (List ℕ)) CodeAsked) (name : List ℕ) → Updated key a old new → types_at new name ≡ cond (bytes_eq name key.now) (Some (asked_seen a)) (types_at old name)
inserted key a old new name updates =
    ap (option_map asked_seen) (btree_map_updates_str key.now old new (Some a) updates name)
    ∙ mapped (bytes_eq key.now name) a (get_by (λ (k : Bor (List ℕ)). slice_cmp nat_cmp name k.now) old)
    ∙ ap (λ b. cond b (Some (asked_seen a)) (types_at old name)) (sym (nat_list_eq_equiv.symm name key.now))

-- an external one is put
pub put_external : (to : Called) (key : Bor (List ℕ)) (a : CodeAsked) (old new internal : BTreeMap (Bor (List ℕ)) CodeAsked) → called to ≡ Some (External key.now) → Updated key a old new
    → IsPut (called to) (asked_seen a) (record { external = old; internal = internal }) (record { external = new; internal = internal })
put_external to key a old new internal is updates (External name) = inserted key a old new name updates ∙ ap (λ c. cond (goes_to (External name) c) (Some (asked_seen a)) (types_at old name)) (sym is)
put_external to key a old new internal is updates (Internal name) = ap (λ c. cond (goes_to (Internal name) c) (Some (asked_seen a)) (types_at internal name)) (sym is)

-- that of a term with rules is put
pub put_internal : (to : Called) (key : Bor (List ℕ)) (a : CodeAsked) (external old new : BTreeMap (Bor (List ℕ)) CodeAsked) → called to ≡ Some (Internal key.now) → Updated key a old new
    → IsPut (called to) (asked_seen a) (record { external = external; internal = old }) (record { external = external; internal = new })
put_internal to key a external old new is updates (External name) = ap (λ c. cond (goes_to (External name) c) (Some (asked_seen a)) (types_at external name)) (sym is)
put_internal to key a external old new is updates (Internal name) = inserted key a old new name updates ∙ ap (λ c. cond (goes_to (Internal name) c) (Some (asked_seen a)) (types_at old name)) (sym is)
