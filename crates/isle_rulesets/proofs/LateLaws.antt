-- The flag of a key is that of its path, and flags keep step with bindings.
use Rattle.std.proofs.Common.{◌≡◌, ℕ, zero, suc, List, [], ◌∷◌, ◌++◌, map, take, length, Bool, true, Option, refl, sym, ap, ◌∙◌, subst}
use Rattle.std.specs.Prelude.{◌||◌, slice_index_or}
use Rattle.std.proofs.lemmas.List.{map-append, length-map}
use Rattle.std.proofs.lemmas.List.Sums.{fold_push}
use Rattle.isle_core.specs.declared.TermId.{TermId}
use Rattle.isle_core.specs.declared.rule_sets.Binding.TheVariants as binding
use Rattle.isle_core.specs.declared.BindingId.{BindingId}
use Rattle.isle_core.specs.declared.rule_sets.Binding.{Binding}
use Rattle.isle_core.specs.Path.{Path, Nowhere, at, at_all, path_over, add_path, paths_of}
use Rattle.isle_rulesets.specs.declared.keys.Key.{Key}
use Rattle.isle_rulesets.specs.declared.keys.Key.TheVariants as key
use Rattle.isle_rulesets.specs.Keys.{key_binding, key_path}
use Rattle.isle_rulesets.specs.Late.{is_own, has_turn, have_turn, turn_at, any_turn, key_turn}
use Rattle.isle_rulesets.specs.Numbering.{Numbered, AreNumbered, KeepsNumbers}
use Rattle.isle_rulesets.proofs.NumberingLaws.{long_paths, without_last}

at_map : {A B : Type 0} (f : A → B) (xs : List A) (i : ℕ) (d : A) → f (slice_index_or xs i d) ≡ slice_index_or (map f xs) i (f d)
at_map f [] i d = refl
at_map f (x ∷ xs) zero d = refl
at_map f (x ∷ xs) (suc i) d = at_map f xs i d

-- the flag at a number
pub turn_there : (ps : List Path) (b : BindingId) → has_turn (at ps b) ≡ turn_at (map has_turn ps) b
turn_there ps b = at_map has_turn ps b.0 Nowhere

turns_there : (ps : List Path) (bs : List BindingId) → have_turn (at_all ps bs) ≡ any_turn (map has_turn ps) bs
turns_there ps [] = refl
turns_there ps (b ∷ bs) = ap (λ t. t || have_turn (at_all ps bs)) (turn_there ps b) ∙ ap (λ t. turn_at (map has_turn ps) b || t) (turns_there ps bs)

-- that of a key
pub key_late : (ps : List Path) (k : Key) → has_turn (key_path ps k) ≡ key_turn (map has_turn ps) k
key_late ps (key.Argument index) = refl
key_late ps (key.ConstBool val) = refl
key_late ps (key.ConstInt ty val) = refl
key_late ps (key.ConstPrim val) = refl
key_late ps (key.Extractor term parameter) = turn_there ps parameter
key_late ps (key.Constructor term parameters) = turns_there ps parameters
key_late ps (key.MatchVariant source variant field) = turn_there ps source
key_late ps (key.ExtractStruct source field) = turn_there ps source
key_late ps (key.MakeVariant ty variant fields) = turns_there ps fields
key_late ps (key.MakeStruct ty fields) = turns_there ps fields
key_late ps (key.Iterator source) = turn_there ps source
key_late ps (key.MatchSome source) = turn_there ps source
key_late ps (key.MatchTuple source field) = turn_there ps source

-- one path more, with its flag
pub told_more : (bs items : List Binding) (p : Path) (late told : List Bool) (flag : Bool) → paths_of items ≡ paths_of bs ++ p ∷ [] → late ≡ map has_turn (paths_of bs) → flag ≡ has_turn p → told ≡ late ++ flag ∷ [] → told ≡ map has_turn (paths_of items)
told_more bs items p late told flag paths kept so more =
    more ∙ ap (λ ts. ts ++ flag ∷ []) kept ∙ ap (λ t. map has_turn (paths_of bs) ++ t ∷ []) so ∙ sym (map-append has_turn (paths_of bs) (p ∷ [])) ∙ sym (ap (map has_turn) paths)

-- and taken away again
pub taken_back : {A : Type 0} (late more told : List A) (flag : A) (n : ℕ) → more ≡ late ++ flag ∷ [] → n ≡ length late → told ≡ take n more → told ≡ late
taken_back late more told flag n longer l is = is ∙ ap (λ m. take m more) l ∙ ap (take (length late)) longer ∙ without_last late flag

-- ---- with what is numbered

paths_push : (bs items : List Binding) (b : Binding) → items ≡ bs ++ b ∷ [] → paths_of items ≡ paths_of bs ++ path_over (paths_of bs) b ∷ []
paths_push bs items b is = ap paths_of is ∙ fold_push add_path [] bs b

-- a key more
pub keeps_key : (old new : Numbered) (numbers : Key → Option BindingId) (k : Key) (late told : List Bool) (flag : Bool) → AreNumbered new numbers → new.bindings ≡ old.bindings ++ key_binding k ∷ [] → late ≡ map has_turn (paths_of old.bindings) → flag ≡ key_turn late k → told ≡ late ++ flag ∷ []
    → KeepsNumbers new numbers told
keeps_key old new numbers k late told flag a is kept so more = record {
  numbered = a;
  told = told_more old.bindings new.bindings (key_path (paths_of old.bindings) k) late told flag (paths_push old.bindings new.bindings (key_binding k) is) kept (so ∙ ap (λ ts. key_turn ts k) kept ∙ sym (key_late (paths_of old.bindings) k)) more;
}

own_call : (n k : ℕ) → k ≡ suc n → is_own k ≡ true
own_call n k e = ap is_own e

-- an impure call more
pub keeps_call : (old new : Numbered) (numbers : Key → Option BindingId) (term : TermId) (bs : List BindingId) (n k : ℕ) (late told : List Bool) → AreNumbered new numbers → new.bindings ≡ old.bindings ++ binding.Constructor term bs k ∷ [] → k ≡ suc n → late ≡ map has_turn (paths_of old.bindings) → told ≡ late ++ true ∷ []
    → KeepsNumbers new numbers told
keeps_call old new numbers term bs n k late told a is up kept more = record {
  numbered = a;
  told = told_more old.bindings new.bindings (path_over (paths_of old.bindings) (binding.Constructor term bs k)) late told true (paths_push old.bindings new.bindings (binding.Constructor term bs k) is) kept (sym (ap (λ t. t || have_turn (at_all (paths_of old.bindings) bs)) (own_call n k up))) more;
}

-- a key less
pub keeps_back : (old new : Numbered) (numbers : Key → Option BindingId) (b : Binding) (late more told : List Bool) (flag : Bool) (n : ℕ) → AreNumbered new numbers → new.bindings ≡ old.bindings → late ≡ map has_turn (paths_of old.bindings) → more ≡ late ++ flag ∷ [] → n ≡ length old.bindings → told ≡ take n more
    → KeepsNumbers new numbers told
keeps_back old new numbers b late more told flag n a is kept longer l back = record {
  numbered = a;
  told = taken_back late more told flag n longer (l ∙ sym (ap length kept ∙ length-map (paths_of old.bindings) has_turn ∙ long_paths old.bindings)) back ∙ kept ∙ ap (λ bs. map has_turn (paths_of bs)) (sym is);
}

-- other lists
pub keeps_lists : (old new : Numbered) (numbers : Key → Option BindingId) (late : List Bool) → KeepsNumbers old numbers late → new.bindings ≡ old.bindings → new.calls ≡ old.calls → KeepsNumbers new numbers late
keeps_lists old new numbers late k bs cs =
    let same : KeepsNumbers (record { bindings = old.bindings; calls = old.calls; lists = new.lists }) numbers late = record { numbered = record { parts = k.numbered.parts; found = k.numbered.found; kinds = k.numbered.kinds; once = k.numbered.once; counted = k.numbered.counted }; told = k.told } in
    subst (λ xs. KeepsNumbers (record { bindings = xs; calls = new.calls; lists = new.lists }) numbers late) (sym bs) (subst (λ n. KeepsNumbers (record { bindings = old.bindings; calls = n; lists = new.lists }) numbers late) (sym cs) same)

-- nothing more, if a push failed
pub keeps_failed : (n : Numbered) (items : List Binding) (numbers : Key → Option BindingId) (late told : List Bool) → KeepsNumbers n numbers late → items ≡ n.bindings → told ≡ late → KeepsNumbers (record { bindings = items; calls = n.calls; lists = n.lists }) numbers told
keeps_failed n items numbers late told k is same = subst (λ bs. KeepsNumbers (record { bindings = bs; calls = n.calls; lists = n.lists }) numbers told) (sym is) (subst (λ ts. KeepsNumbers n numbers ts) (sym same) k)
