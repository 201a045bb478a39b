-- Values by their names, as the definitions look for them.
use Rattle.std.proofs.Common.{◌≡◌, ℕ, List, [], ◌∷◌, ◌++◌, map, Bool, true, false, cond, Option, Some, None, refl, sym, ap, ◌∙◌, subst}
use Rattle.std.specs.Prelude.{option_map, find, if◌then◌else◌}
use Rattle.std.specs.Str.{bytes_eq}
use Rattle.std.proofs.lemmas.List.{map-append}
use Rattle.std.proofs.lemmas.Slice.Eq.{bytes_eq-Decides}
use denote.Ref.{Bor}
use Rattle.isle_core.specs.declared.values.Answers.{Answers}
use Rattle.isle_core.specs.declared.values.Value.{Value as CodeValue}
use Rattle.isle_core.specs.Answered.{a_value}
use Rattle.isle_core.specs.Having.{const_of}
use Rattle.isle_core.specs.Value.{Value}
use Rattle.isle_core.specs.ValueViews.{value, const, meaning}
use Rattle.isle_printer.specs.Bytes.{same_bytes}
use Rattle.isle_printer.proofs.Bytes.{same_bytes_refl, same_bytes_sound}
use Rattle.isle_outcomes.specs.Fields.{fields}
use Rattle.isle_tree.specs.Run.{field_of}
use Rattle.isle_running.specs.Named.{value_named}
use Rattle.isle_running.specs.RunViews.{local, locals}
use Rattle.isle_running.specs.Steps.{BindsSo}
use Rattle.isle_running.specs.declared.frame.Frame.{Frame}
use Rattle.isle_running.specs.declared.holding.Holding.{Holding}
use Rattle.isle_running.specs.declared.holding.Holding.TheVariants as holding
use Rattle.isle_running.specs.declared.holding.Item.TheVariants as item

-- the two tests of names agree
same_test : (v w : List ℕ) → bytes_eq v w ≡ same_bytes v w
same_test v w = by (bytes_eq v w) (same_bytes v w) refl refl
  where
    by : (b c : Bool) → bytes_eq v w ≡ b → same_bytes v w ≡ c → b ≡ c
    by true true e f = refl
    by false false e f = refl
    by true false e f =
        let same : v ≡ w = (bytes_eq-Decides v w).0 e in
        let again : same_bytes v w ≡ true = ap (same_bytes v) (sym same) ∙ same_bytes_refl v in
        absurd cc
    by false true e f =
        let same : bytes_eq v w ≡ true = (bytes_eq-Decides v w).1 (same_bytes_sound v w f) in
        absurd cc

-- ---- constants

abbrev seen : Option (List ℕ × CodeValue) → Option Value
seen o = option_map value (option_map (λ (v : List ℕ × CodeValue). v.1) o)

const_found : (name : List ℕ) (vs : List (List ℕ × CodeValue))
    → option_map (λ (c : List ℕ × Value). c.1) (find (λ (c : List ℕ × Value). bytes_eq name c.0) (map const vs)) ≡ option_map value (value_named vs name)
const_found name [] = refl
const_found name (v ∷ vs) = by (bytes_eq name v.0) (const_found name vs)
  where
    by : (b : Bool) → option_map (λ (c : List ℕ × Value). c.1) (find (λ (c : List ℕ × Value). bytes_eq name c.0) (map const vs)) ≡ option_map value (value_named vs name)
        → option_map (λ (c : List ℕ × Value). c.1) (cond b (Some (const v)) (find (λ (c : List ℕ × Value). bytes_eq name c.0) (map const vs))) ≡ seen (cond b (Some v) (find (λ (x : List ℕ × CodeValue). bytes_eq name x.0) vs))
    by true later = refl
    by false later = later

-- the value of a constant
pub const_named : (answers : Answers) (consts : List (List ℕ × CodeValue)) (name : List ℕ) (o : Option (Bor CodeValue)) → option_map (λ (v : Bor CodeValue). v.now) o ≡ value_named consts name → consts ≡ answers.consts
    → option_map (λ (v : Bor CodeValue). value v.now) o ≡ const_of (meaning answers) name
const_named answers consts name o e same = twice o ∙ ap (option_map value) (e ∙ ap (λ vs. value_named vs name) same) ∙ sym (const_found name answers.consts)
  where
    twice : (o : Option (Bor CodeValue)) → option_map (λ (v : Bor CodeValue). value v.now) o ≡ option_map value (option_map (λ (v : Bor CodeValue). v.now) o)
    twice None = refl
    twice (Some v) = refl

-- ---- fields

-- the value of a field
pub field_named : (name : List ℕ) (fs : List (List ℕ × CodeValue)) → field_of name (fields fs) ≡ option_map value (value_named fs name)
field_named name [] = refl
field_named name (f ∷ fs) = ap (λ b. if b then Some (value f.1) else field_of name (fields fs)) (sym (same_test name f.0)) ∙ by (bytes_eq name f.0) (field_named name fs)
  where
    by : (b : Bool) → field_of name (fields fs) ≡ option_map value (value_named fs name) → (if b then Some (value f.1) else field_of name (fields fs)) ≡ seen (cond b (Some f) (find (λ (x : List ℕ × CodeValue). bytes_eq name x.0) fs))
    by true later = refl
    by false later = later

-- ---- locals bound to fields

-- a local more that holds the field's value
pub binds_there : (n : ℕ) (name : List ℕ) (fs : List (List ℕ × CodeValue)) (v copy : CodeValue) (old : Frame) (ls : List (ℕ × Holding)) → Some v ≡ value_named fs name → copy ≡ v → ls ≡ old.locals ++ (n, holding.One (item.Value copy)) ∷ []
    → BindsSo n (field_of name (fields fs)) old (record { locals = ls; calls = old.calls; given = old.given }) true
binds_there n name fs v copy old ls e same is =
    subst (λ o. BindsSo n o old (record { locals = ls; calls = old.calls; given = old.given }) true) (sym (field_named name fs ∙ ap (option_map value) (sym e))) (
      refl,
      ap locals is ∙ map-append local old.locals ((n, holding.One (item.Value copy)) ∷ []) ∙ ap (λ x. locals old.locals ++ (n, a_value (value x)) ∷ []) same,
      record { more = (n, holding.One (item.Value copy)) ∷ []; grown = is; same = refl },
    )

-- or none, as it isn't there
pub binds_none : (n : ℕ) (name : List ℕ) (fs : List (List ℕ × CodeValue)) (old : Frame) → None ≡ value_named fs name → BindsSo n (field_of name (fields fs)) old old false
binds_none n name fs old e = subst (λ o. BindsSo n o old old false) (sym (field_named name fs ∙ ap (option_map value) (sym e))) (refl, refl)
