-- The fields of a value that is being made, one by one.
use Rattle.std.proofs.Common.{◌≡◌, ℕ, zero, suc, ◌+◌, ◌<◌, ◌≤◌, List, [], ◌∷◌, ◌++◌, length, drop, get_or, Option, Some, None, refl, sym, ap, ◌∙◌, arith}
use Rattle.std.specs.Prelude.{option_map, option_and_then, slice_get}
use Rattle.std.proofs.lemmas.List.{drop_more}
use Rattle.std.proofs.Math.ListN.{drop_of_length-le}
use Rattle.isle_core.specs.declared.TypeId.{TypeId}
use Rattle.isle_core.specs.declared.values.Value.{Value as CodeValue}
use Rattle.isle_core.specs.Rule.{Environment}
use Rattle.isle_core.specs.Value.{Value, FieldValues, NoField, Field}
use Rattle.isle_core.specs.ValueViews.{value}
use Rattle.isle_outcomes.specs.Fields.{fields}
use Rattle.isle_values.specs.declared.written.Written.{Written as CodeWritten}
use Rattle.isle_values.specs.Written.{Written, Writtens, AValue}
use Rattle.isle_values.specs.Views.{written, seen}
use Rattle.isle_run_inputs.specs.ValuesAt.{put_field, field_in, fields_in}
use Rattle.isle_run_inputs.specs.MakerViews.{field_seen, fields_onto}

-- a field in front of fields that are not there
none_put : (f : Option (List ℕ × Value)) (r : Option FieldValues) → None ≡ r → None ≡ put_field f r
none_put None r e = refl
none_put (Some f) r e = ap (put_field (Some f)) e

-- more or fewer values than fields
pub differ : (env : Environment) (fs : List (List ℕ × TypeId)) (parts : List CodeWritten) → (length fs ≡ length parts → ⊥) → None ≡ fields_in env fs (seen parts)
differ env [] [] h = absurd (h refl)
differ env [] (p ∷ parts) h = refl
differ env (f ∷ fs) [] h = refl
differ env (f ∷ fs) (p ∷ parts) h = none_put (field_in env f (written p)) (fields_in env fs (seen parts)) (differ env fs parts (λ e. h (ap suc e)))

-- those from the i-th on
abbrev pub left : Environment → List (List ℕ × TypeId) → List CodeWritten → ℕ → Option FieldValues
left env fs parts i = fields_in env (drop i fs) (seen (drop i parts))

-- what stands first among them
abbrev pub in_place : Environment → List (List ℕ × TypeId) → ℕ → CodeWritten → Option (List ℕ × Value)
in_place env fs i part = option_and_then (λ f. field_in env f (written part)) (slice_get fs i)

-- the first of those that are left is at the field of its place
at_first : (env : Environment) (fs : List (List ℕ × TypeId)) (i : ℕ) (w : Written) (ws : Writtens)
    → fields_in env (drop i fs) (AValue w ws) ≡ put_field (option_and_then (λ f. field_in env f w) (slice_get fs i)) (fields_in env (drop (suc i) fs) ws)
at_first env [] zero w ws = refl
at_first env [] (suc i) w ws = refl
at_first env (f ∷ fs) zero w ws = refl
at_first env (f ∷ fs) (suc i) w ws = at_first env fs i w ws

-- and so of the code's values
left_first : (env : Environment) (fs : List (List ℕ × TypeId)) (parts : List CodeWritten) (i : ℕ) (part : CodeWritten) → i < length parts → part ≡ get_or parts i part
    → left env fs parts i ≡ put_field (in_place env fs i part) (left env fs parts (i + 1))
left_first env fs parts i part lt is =
    ap (λ ps. fields_in env (drop i fs) (seen ps)) (drop_more parts i part lt ∙ ap (λ p. p ∷ drop (i + 1) parts) (sym is))
    ∙ at_first env fs i (written part) (seen (drop (i + 1) parts))
    ∙ ap (λ k. put_field (in_place env fs i part) (fields_in env (drop k fs) (seen (drop (i + 1) parts)))) next
  where
    next : suc i ≡ i + 1
    next = omega arith

-- ---- fields in front

-- a field after those in front
onto_append : (xs : List (List ℕ × CodeValue)) (f : List ℕ × CodeValue) (more : FieldValues) → fields_onto xs (Field f.0 (value f.1) more) ≡ fields_onto (xs ++ f ∷ []) more
onto_append [] f more = refl
onto_append (x ∷ xs) f more = ap (Field x.0 (value x.1)) (onto_append xs f more)

-- nothing after them
onto_nothing : (xs : List (List ℕ × CodeValue)) → fields xs ≡ fields_onto xs NoField
onto_nothing [] = refl
onto_nothing (x ∷ xs) = ap (Field x.0 (value x.1)) (onto_nothing xs)

-- a field after those in front, if the others are there
onto_put : (xs : List (List ℕ × CodeValue)) (f : List ℕ × CodeValue) (r : Option FieldValues) → option_map (fields_onto xs) (put_field (Some (field_seen f)) r) ≡ option_map (fields_onto (xs ++ f ∷ [])) r
onto_put xs f None = refl
onto_put xs f (Some more) = ap Some (onto_append xs f more)

-- ---- the loop

-- a field more
pub fields_more : (env : Environment) (fs : List (List ℕ × TypeId)) (parts : List CodeWritten) (i : ℕ) (part : CodeWritten) (f : List ℕ × CodeValue) (old new : List (List ℕ × CodeValue)) (all : Option FieldValues)
    → i < length parts → part ≡ get_or parts i part → Some (field_seen f) ≡ in_place env fs i part → new ≡ old ++ f ∷ []
    → all ≡ option_map (fields_onto old) (left env fs parts i) → all ≡ option_map (fields_onto new) (left env fs parts (i + 1))
fields_more env fs parts i part f old new all lt is at pushed were =
    were
    ∙ ap (option_map (fields_onto old)) (left_first env fs parts i part lt is ∙ ap (λ x. put_field x (left env fs parts (i + 1))) (sym at))
    ∙ onto_put old f (left env fs parts (i + 1))
    ∙ ap (λ xs. option_map (fields_onto xs) (left env fs parts (i + 1))) (sym pushed)

-- a value that is none of its field
pub fields_stop : (env : Environment) (fs : List (List ℕ × TypeId)) (parts : List CodeWritten) (i : ℕ) (part : CodeWritten) (old : List (List ℕ × CodeValue)) (all : Option FieldValues)
    → i < length parts → part ≡ get_or parts i part → None ≡ in_place env fs i part → all ≡ option_map (fields_onto old) (left env fs parts i) → None ≡ all
fields_stop env fs parts i part old all lt is at were =
    sym (were ∙ ap (option_map (fields_onto old)) (left_first env fs parts i part lt is ∙ ap (λ x. put_field x (left env fs parts (i + 1))) (sym at)))

-- after all of them
pub fields_end : (env : Environment) (fs : List (List ℕ × TypeId)) (parts : List CodeWritten) (i : ℕ) (found : List (List ℕ × CodeValue)) (all : Option FieldValues)
    → length fs ≡ length parts → length parts ≤ i → all ≡ option_map (fields_onto found) (left env fs parts i) → Some (fields found) ≡ all
fields_end env fs parts i found all same le were =
    sym (were ∙ ap (λ xs. option_map (fields_onto found) (fields_in env xs (seen (drop i parts)))) (drop_of_length-le fs within) ∙ ap (λ ps. option_map (fields_onto found) (fields_in env [] (seen ps))) (drop_of_length-le parts le) ∙ ap Some (sym (onto_nothing found)))
  where
    within : length fs ≤ i
    within = omega (arith, same, le)
