-- The loops over the fields of made values and of patterns, over plain variables.
use Rattle.std.proofs.Common.{◌≡◌, ℕ, zero, suc, ◌+◌, ◌<◌, List, [], ◌∷◌, ◌++◌, length, drop, get_or, true, false, Option, Some, None, refl, sym, subst, ap, ◌∙◌, append_assoc, arith}
use Rattle.std.specs.Prelude.{◌≤◌, IsSome, slice_get, option_map}
use Rattle.std.proofs.lemmas.List.{drop_more, drop_all, append-nil}
use Rattle.std.proofs.Math.Seq.{drop-nil}
use Rattle.isle_core.specs.declared.BindingId.{BindingId}
use Rattle.isle_core.specs.declared.TypeId.{TypeId}
use Rattle.isle_core.specs.Rule.{Environment}
use Rattle.isle_core.specs.Setting.{Setting}
use Rattle.isle_tree.specs.declared.tree.Read.{Read}
use Rattle.isle_tree.specs.declared.tree.TBind.{TBind}
use Rattle.isle_simulation.specs.Operands.{operand_of}
use Rattle.isle_simulation.specs.Patterns.{bind_before, field_binds, leaves_out}
use Rattle.isle_simulation.specs.References.{is_declared, is_reference_in, read_as}
use Rattle.isle_simulation.specs.Statements.{read_in, field_before, field_reads}
use Rattle.isle_emission.specs.Binds.{bind_of, field_bind, onto_binds, IsBoundAt, is_left_out}
use Rattle.isle_emission.specs.Built.{HasOperand}
use Rattle.isle_emission.specs.MadeValues.{reads_onto, IsReadAt}
use Rattle.isle_emission.proofs.BuiltLaws.{some_of}

next : (i : ℕ) → suc i ≡ i + 1
next i = omega arith

-- what stands at a place is the first of what is left there
at_suc : {A : Type 0} (xs : List A) (i : ℕ) (x : A) → slice_get xs i ≡ Some x → drop i xs ≡ x ∷ drop (suc i) xs
at_suc [] i x e = absurd cc
at_suc (y ∷ xs) zero x e = let same : y ≡ x = cc in ap (λ z. z ∷ xs) same
at_suc (y ∷ xs) (suc i) x e = at_suc xs i x e

at_place : {A : Type 0} (xs : List A) (i : ℕ) (x : A) → slice_get xs i ≡ Some x → drop i xs ≡ x ∷ drop (i + 1) xs
at_place xs i x e = at_suc xs i x e ∙ ap (λ j. x ∷ drop j xs) (next i)

there_suc : {A : Type 0} (xs : List A) (i : ℕ) → i < length xs → (x : A) × (drop i xs ≡ x ∷ drop (suc i) xs)
there_suc [] i h = absurd (omega (arith, h))
there_suc (y ∷ xs) zero h = (y, refl)
there_suc (y ∷ xs) (suc i) h = there_suc xs i (omega (arith, h))

there : {A : Type 0} (xs : List A) (i : ℕ) → i < length xs → (x : A) × (drop i xs ≡ x ∷ drop (i + 1) xs)
there xs i h = let f = there_suc xs i h in (f.0, f.1 ∙ ap (λ j. f.0 ∷ drop j xs) (next i))

-- ---- made values

-- a field's read is there, and so are the others
field_some : (name : List ℕ) (r : Option Read) (o : Option (List (List ℕ × Read))) → IsSome (field_before name r o) → IsSome r × IsSome o
field_some name (Some r) (Some o) h = (refl, refl)
field_some name (Some r) None h = absurd cc
field_some name None o h = absurd cc

-- as many fields as parts
as_many : (s : Setting) (bound : List ℕ) (fields : List (List ℕ × TypeId)) (parts : List BindingId) → IsSome (field_reads s bound fields parts) → length fields ≡ length parts
as_many s bound [] [] h = refl
as_many s bound (f ∷ fs) (b ∷ bs) h = ap suc (as_many s bound fs bs (field_some f.0 (read_in s bound false b) (field_reads s bound fs bs) h).1)
as_many s bound [] (b ∷ bs) h = absurd cc
as_many s bound (f ∷ fs) [] h = absurd cc

pub field_there : (s : Setting) (bound : List ℕ) (fields : List (List ℕ × TypeId)) (parts : List BindingId) (i : ℕ) → i < length parts → IsSome (field_reads s bound fields parts) → i < length fields
field_there s bound fields parts i lt h = let same = as_many s bound fields parts h in omega (arith, lt, same)

-- each part is read
pub part_there : (s : Setting) (bound : List ℕ) (fields : List (List ℕ × TypeId)) (parts : List BindingId) (i : ℕ) (part d : BindingId) → i < length parts → part ≡ get_or parts i d → IsSome (field_reads s bound fields parts) → HasOperand s bound part
part_there s bound fields [] i part d lt item h = absurd (omega (arith, lt))
part_there s bound [] (b ∷ bs) i part d lt item h = absurd cc
part_there s bound (f ∷ fs) (b ∷ bs) zero part d lt item h =
    subst (HasOperand s bound) (sym item) (some_of (read_as false (is_reference_in s b)) (operand_of s.env s.bindings bound b) (field_some f.0 (read_in s bound false b) (field_reads s bound fs bs) h).0)
part_there s bound (f ∷ fs) (b ∷ bs) (suc i) part d lt item h =
    part_there s bound fs bs i part d (omega (arith, lt)) item (field_some f.0 (read_in s bound false b) (field_reads s bound fs bs) h).1

one_more : (out : List (List ℕ × Read)) (r : List ℕ × Read) (others : Option (List (List ℕ × Read))) → reads_onto (out ++ r ∷ []) others ≡ reads_onto out (field_before r.0 (Some r.1) others)
one_more out r None = refl
one_more out r (Some others) = ap Some (append_assoc out (r ∷ []) others)

-- the field of a name
named : (o : Option (List ℕ × TypeId)) (name : List ℕ) → Some name ≡ option_map (λ (f : List ℕ × TypeId). f.0) o → (f : List ℕ × TypeId) × (o ≡ Some f) × (name ≡ f.0)
named (Some f) name e = (f, refl, cc)
named None name e = absurd cc

-- one part more
pub reads_step : (s : Setting) (bound : List ℕ) (fields : List (List ℕ × TypeId)) (parts : List BindingId) (i : ℕ) (part d : BindingId) (out new : List (List ℕ × Read)) (r : List ℕ × Read)
    → i < length parts → part ≡ get_or parts i d → IsReadAt s bound fields i part r → new ≡ out ++ r ∷ []
    → reads_onto new (field_reads s bound (drop (i + 1) fields) (drop (i + 1) parts)) ≡ reads_onto out (field_reads s bound (drop i fields) (drop i parts))
reads_step s bound fields parts i part d out new r lt item is pushed =
    let f = named (slice_get fields i) r.0 is.name in
    let more = field_reads s bound (drop (i + 1) fields) (drop (i + 1) parts) in
    ap (λ xs. reads_onto xs more) pushed
    ∙ one_more out r more
    ∙ ap (λ x. reads_onto out (field_before x (Some r.1) more)) f.2
    ∙ ap (λ x. reads_onto out (field_before f.0.0 x more)) is.read
    ∙ ap (λ fs. reads_onto out (field_reads s bound fs (part ∷ drop (i + 1) parts))) (sym (at_place fields i f.0 f.1))
    ∙ ap (λ p. reads_onto out (field_reads s bound (drop i fields) (p ∷ drop (i + 1) parts))) item
    ∙ ap (λ ps. reads_onto out (field_reads s bound (drop i fields) ps)) (sym (drop_more parts i d lt))

-- all parts
pub reads_all : (s : Setting) (bound : List ℕ) (fields : List (List ℕ × TypeId)) (parts : List BindingId) (i : ℕ) (out : List (List ℕ × Read)) → length parts ≤ i → IsSome (field_reads s bound fields parts)
    → reads_onto out (field_reads s bound (drop i fields) (drop i parts)) ≡ field_reads s bound fields parts → Some out ≡ field_reads s bound fields parts
reads_all s bound fields parts i out past h is =
    let same = as_many s bound fields parts h in
    ap Some (sym (append-nil out))
    ∙ ap (λ fs. reads_onto out (field_reads s bound fs [])) (sym (drop_all i fields (omega (arith, past, same))))
    ∙ ap (λ ps. reads_onto out (field_reads s bound (drop i fields) ps)) (sym (drop_all i parts past))
    ∙ is

-- ---- patterns

bind_some_of : (b : TBind) (o : Option (List TBind)) → IsSome (bind_before b o) → IsSome o
bind_some_of b (Some o) h = refl
bind_some_of b None h = absurd cc

-- a field for each place
pub places_within : (env : Environment) (fields : List (List ℕ × TypeId)) (places : List (Option BindingId)) → IsSome (field_binds env fields places) → length places ≤ length fields
places_within env fields [] h = omega arith
places_within env [] (p ∷ places) h = absurd cc
places_within env (f ∷ fields) (None ∷ places) h = let k = places_within env fields places h in omega (arith, k)
places_within env (f ∷ fields) (Some b ∷ places) h =
    let k = places_within env fields places (bind_some_of (record { field = f.0; by_ref = is_declared env f.1; local = b.0 }) (field_binds env fields places) h) in
    omega (arith, k)

-- a place that binds nothing
pub bind_none : (env : Environment) (fields : List (List ℕ × TypeId)) (i : ℕ) (place : Option BindingId) (old : List TBind) (places : List (Option BindingId))
    → i < length fields → place ≡ None → onto_binds old (field_binds env (drop (i + 1) fields) places) ≡ onto_binds old (field_binds env (drop i fields) (place ∷ places))
bind_none env fields i place old places lt is =
    let f = there fields i lt in
    ap (λ fs. onto_binds old (field_binds env fs (None ∷ places))) (sym f.1) ∙ ap (λ p. onto_binds old (field_binds env (drop i fields) (p ∷ places))) (sym is)

bound_one : (b : TBind) (old : List TBind) (others : Option (List TBind)) → onto_binds (old ++ b ∷ []) others ≡ onto_binds old (bind_before b others)
bound_one b old None = refl
bound_one b old (Some others) = ap Some (append_assoc old (b ∷ []) others)

-- one that binds a field
pub bind_some : (env : Environment) (fields : List (List ℕ × TypeId)) (i : ℕ) (place : Option BindingId) (local : BindingId) (b : TBind) (old new : List TBind) (places : List (Option BindingId))
    → place ≡ Some local → Some b ≡ field_bind env fields i local → new ≡ old ++ b ∷ []
    → onto_binds new (field_binds env (drop (i + 1) fields) places) ≡ onto_binds old (field_binds env (drop i fields) (place ∷ places))
bind_some env fields i place local b old new places is made pushed = at (slice_get fields i) refl made
  where
    at : (o : Option (List ℕ × TypeId)) → slice_get fields i ≡ o → Some b ≡ option_map (bind_of env local) o → onto_binds new (field_binds env (drop (i + 1) fields) places) ≡ onto_binds old (field_binds env (drop i fields) (place ∷ places))
    at None e m = absurd cc
    at (Some f) e m =
        let same : b ≡ bind_of env local f = cc in
        ap (λ xs. onto_binds xs (field_binds env (drop (i + 1) fields) places)) pushed
        ∙ bound_one b old (field_binds env (drop (i + 1) fields) places)
        ∙ ap (λ x. onto_binds old (bind_before x (field_binds env (drop (i + 1) fields) places))) same
        ∙ ap (λ fs. onto_binds old (field_binds env fs (Some local ∷ places))) (sym (at_place fields i f e))
        ∙ ap (λ p. onto_binds old (field_binds env (drop i fields) (p ∷ places))) (sym is)

-- one place more
pub binds_step : (env : Environment) (fields : List (List ℕ × TypeId)) (places : List (Option BindingId)) (i : ℕ) (place d : Option BindingId) (old new : List TBind)
    → i < length places → place ≡ get_or places i d → IsBoundAt env fields i place old new
    → onto_binds new (field_binds env (drop (i + 1) fields) (drop (i + 1) places)) ≡ onto_binds old (field_binds env (drop i fields) (drop i places))
binds_step env fields places i place d old new lt item is =
    is (drop (i + 1) places)
    ∙ ap (λ p. onto_binds old (field_binds env (drop i fields) (p ∷ drop (i + 1) places))) item
    ∙ ap (λ ps. onto_binds old (field_binds env (drop i fields) ps)) (sym (drop_more places i d lt))

-- ---- fields that are left out

all_out : (fields : List (List ℕ × TypeId)) (i : ℕ) → i < length fields → true ≡ leaves_out (drop i fields) []
all_out fields i lt = let f = there fields i lt in ap (λ fs. leaves_out fs []) (sym f.1)

pub left_out : (fields : List (List ℕ × TypeId)) (places : List (Option BindingId)) (i : ℕ) → i < length fields → is_left_out places i ≡ true → true ≡ leaves_out (drop i fields) (drop i places)
left_out fields [] i lt e = all_out fields i lt ∙ ap (leaves_out (drop i fields)) (sym (drop-nil i))
left_out [] (p ∷ places) i lt e = absurd (omega (arith, lt))
left_out (f ∷ fields) (None ∷ places) zero lt e = refl
left_out (f ∷ fields) (Some b ∷ places) zero lt e = absurd cc
left_out (f ∷ fields) (p ∷ places) (suc i) lt e = left_out fields places i (omega (arith, lt)) e

kept_suc : (fields : List (List ℕ × TypeId)) (places : List (Option BindingId)) (i : ℕ) → i < length fields → is_left_out places i ≡ false
    → leaves_out (drop (suc i) fields) (drop (suc i) places) ≡ leaves_out (drop i fields) (drop i places)
kept_suc fields [] zero lt e = absurd cc
kept_suc fields [] (suc i) lt e = absurd cc
kept_suc [] (p ∷ places) i lt e = absurd (omega (arith, lt))
kept_suc (f ∷ fields) (None ∷ places) zero lt e = absurd cc
kept_suc (f ∷ fields) (Some b ∷ places) zero lt e = refl
kept_suc (f ∷ fields) (p ∷ places) (suc i) lt e = kept_suc fields places i (omega (arith, lt)) e

pub not_left_out : (fields : List (List ℕ × TypeId)) (places : List (Option BindingId)) (i : ℕ) → i < length fields → is_left_out places i ≡ false
    → leaves_out (drop (i + 1) fields) (drop (i + 1) places) ≡ leaves_out (drop i fields) (drop i places)
not_left_out fields places i lt e = ap (λ j. leaves_out (drop j fields) (drop j places)) (sym (next i)) ∙ kept_suc fields places i lt e
