-- The names of emitted functions.
use Rattle.std.proofs.Common.{◌≡◌, ℕ, suc, ◌+◌, List, [], ◌∷◌, length, map, Bool, true, false, cond, Option, Some, refl, sym, ap, ◌∙◌, subst, arith}
use Rattle.std.specs.Prelude.{filter, slice_get}
use Rattle.std.specs.Option.{option_map_or}
use Rattle.std.specs.List.{AllByRecursion, IsDistinct, range_with_len}
use Rattle.std.specs.Str.{bytes_eq}
use Rattle.isle_core.specs.declared.options.CodegenOptions.{CodegenOptions}
use Rattle.isle_core.specs.declared.TermId.{TermId}
use Rattle.isle_core.specs.declared.files.Files.{Files}
use Rattle.isle_core.specs.declared.rule_sets.RuleSet.{RuleSet}
use Rattle.isle_core.specs.declared.types.Term.{Term}
use Rattle.isle_core.specs.Terms.{sym_text, term_ids, term_name, has_rules, with_rules}
use Rattle.isle_core.specs.Rule.{Environment}
use Rattle.isle_tree.specs.Program.{Function}
use Rattle.isle_simulation.proofs.GivenFunctions.{of_its_term}
use Rattle.isle_codegen.specs.Emits.{IsEmitted, AreEmitted}

-- the name of a term that is there
pub name_of_term : (env : Environment) (id : TermId) (t : Term) → slice_get env.terms id.0 ≡ Some t → term_name env id ≡ sym_text env t.name
name_of_term env id t e = ap (λ (o : Option Term). option_map_or (λ (u : Term). sym_text env u.name) o []) e

-- a function has the name of its term
pub emitted_name : (options : CodegenOptions) (files : Files) (env : Environment) (id : TermId) (s : RuleSet) (f : Function) → IsEmitted options files env id s f → f.term ≡ term_name env id
emitted_name options files env id s f h = (of_its_term options files env h.term s.bindings h.block f h.lawful h.given).name ∙ sym (name_of_term env id h.term h.found)

-- and so have all
pub emitted_names : (options : CodegenOptions) (files : Files) (env : Environment) (sets : List (TermId × RuleSet)) (fs : List Function) → AreEmitted options files env sets fs
    → map (λ (f : Function). f.term) fs ≡ map (term_name env) (map (λ (s : TermId × RuleSet). s.0) sets)
emitted_names options files env [] [] h = refl
emitted_names options files env (s ∷ sets) (f ∷ fs) h = rw (emitted_name options files env s.0 s.1 f h.0, emitted_names options files env sets fs h.1) refl
emitted_names options files env [] (f ∷ fs) h = absurd h
emitted_names options files env (s ∷ sets) [] h = absurd h

-- ---- no two terms with rules have one name

numbered : (env : Environment) (ts : List Term) (all : ℕ → Option Term) (n : ℕ) → ((k : ℕ) → slice_get ts k ≡ all (n + k))
    → map (λ (i : ℕ). option_map_or (λ (t : Term). sym_text env t.name) (all i) []) (range_with_len n (length ts)) ≡ map (λ (t : Term). sym_text env t.name) ts
numbered env [] all n h = refl
numbered env (t ∷ ts) all n h =
    let here : all n ≡ Some t = sym (h 0 ∙ ap all {y = n} (omega arith)) in
    rw (here, numbered env ts all (n + 1) (λ k. h (suc k) ∙ ap all {y = n + 1 + k} (omega arith))) refl

mapped : (env : Environment) (is : List ℕ) → map (term_name env) (map (λ (i : ℕ). let id : TermId = record { 0 = i } in id) is)
    ≡ map (λ (i : ℕ). option_map_or (λ (t : Term). sym_text env t.name) (slice_get env.terms i) []) is
mapped env [] = refl
mapped env (i ∷ is) = rw (mapped env is) refl

-- the names of all terms, by their numbers
all_names : (env : Environment) → map (term_name env) (term_ids env) ≡ map (λ (t : Term). sym_text env t.name) env.terms
all_names env = mapped env (range_with_len 0 (length env.terms)) ∙ numbered env env.terms (slice_get env.terms) 0 (λ k. ap (slice_get env.terms) {y = 0 + k} (omega arith))

module _ (env : Environment) (keep : TermId → Bool) where
  pick_all : (P : List ℕ → Type 0) (id : TermId) (ids : List TermId) (b : Bool) → P (term_name env id) → AllByRecursion P (map (term_name env) ids) → AllByRecursion P (map (term_name env) (cond b (id ∷ ids) ids))
  pick_all P id ids true h k = (h, k)
  pick_all P id ids false h k = k

  kept_all : (P : List ℕ → Type 0) (ids : List TermId) → AllByRecursion P (map (term_name env) ids) → AllByRecursion P (map (term_name env) (filter keep ids))
  kept_all P [] h = tt
  kept_all P (id ∷ ids) h = pick_all P id (filter keep ids) (keep id) h.0 (kept_all P ids h.1)

  pick_distinct : (id : TermId) (ids : List TermId) (b : Bool) → AllByRecursion (λ y. bytes_eq (term_name env id) y ≡ false) (map (term_name env) ids) → IsDistinct bytes_eq (map (term_name env) ids)
      → IsDistinct bytes_eq (map (term_name env) (cond b (id ∷ ids) ids))
  unfolding IsDistinct
  pick_distinct id ids true h k = (h, k)
  pick_distinct id ids false h k = k

  kept_distinct : (ids : List TermId) → IsDistinct bytes_eq (map (term_name env) ids) → IsDistinct bytes_eq (map (term_name env) (filter keep ids))
  unfolding IsDistinct
  kept_distinct [] h = tt
  kept_distinct (id ∷ ids) h = pick_distinct id (filter keep ids) (keep id) (kept_all (λ y. bytes_eq (term_name env id) y ≡ false) ids h.0) (kept_distinct ids h.1)

-- if no two terms have one name, no two with rules have
pub distinct_names : (env : Environment) → IsDistinct bytes_eq (map (λ (t : Term). sym_text env t.name) env.terms) → IsDistinct bytes_eq (map (term_name env) (with_rules env))
distinct_names env h = kept_distinct env (has_rules env) (term_ids env) (subst (IsDistinct bytes_eq) (sym (all_names env)) h)
