-- A callee that is served has its signature in a program that conforms.
use Rattle.std.proofs.Common.{◌≡◌, ℕ, zero, suc, List, [], ◌∷◌, false, Option, Some, None, ⊎_elim, refl, ap, ◌∙◌, subst}
use Rattle.std.specs.Prelude.{Contains, slice_get, option_map}
use Rattle.std.specs.List.{AllByRecursion, IsDistinct, cons_option}
use Rattle.std.specs.Str.{bytes_eq}
use Rattle.std.proofs.lemmas.Slice.Eq.{bytes_eq-Decides}
use Rattle.isle_core.specs.declared.Sym.{Sym}
use Rattle.isle_core.specs.declared.types.ReturnKind.{ReturnKind}
use Rattle.isle_core.specs.declared.types.Term.{Term}
use Rattle.isle_core.specs.Rule.{Environment}
use Rattle.isle_core.specs.Terms.{sym_text}
use Rattle.isle_core.proofs.Contained.{head_contained, tail_contained, contained_cases, none_contained}
use Rattle.isle_tree.specs.declared.tree.TraitFn.{TraitFn}
use Rattle.isle_tree.specs.WellFormed.{trait_fn, fn_names}
use Rattle.isle_run.proofs.DeclaredItems.{apart}
use Rattle.isle_simulation.specs.TraitFns.{constructor_fn, constructor_fn_of, extractor_fn, extractor_fn_of, extracted_of, func_of, trait_fns_in}

-- the names of those of terms
abbrev names_in : Environment → List Term → List (List ℕ)
names_in env ts = fn_names (trait_fns_in env ts)

-- a function more, or none
after_option : (o : Option TraitFn) (fs : List TraitFn) (name : List ℕ) → Contains (fn_names fs) name → Contains (fn_names (cons_option o fs)) name
after_option None fs name c = c
after_option (Some f) fs name c = tail_contained f.name (fn_names fs) name c

at_option : (o : Option TraitFn) (fs : List TraitFn) (f : TraitFn) → o ≡ Some f → Contains (fn_names (cons_option o fs)) f.name
at_option o fs f e = rw e (head_contained f.name (fn_names fs))

among : (env : Environment) (ts : List Term) (i : ℕ) (t : Term) (func : Sym) → slice_get ts i ≡ Some t → func_of t.kind ≡ Some func → Contains (names_in env ts) (sym_text env func)
among env [] i t func at e = cc
among env (u ∷ ts) zero t func at e =
    let same : u ≡ t = cc in
    after_option (extractor_fn_of env u) (cons_option (constructor_fn_of env u) (trait_fns_in env ts)) (sym_text env func)
    (at_option (constructor_fn_of env u) (trait_fns_in env ts) (constructor_fn env t func) (ap (constructor_fn_of env) same ∙ ap (option_map (constructor_fn env t)) e))
among env (u ∷ ts) (suc i) t func at e =
    after_option (extractor_fn_of env u) (cons_option (constructor_fn_of env u) (trait_fns_in env ts)) (sym_text env func)
    (after_option (constructor_fn_of env u) (trait_fns_in env ts) (sym_text env func) (among env ts i t func at e))

of_each : (P : List ℕ → Type 0) (xs : List (List ℕ)) (y : List ℕ) → AllByRecursion P xs → Contains xs y → P y
of_each P [] y h c = absurd (none_contained y c)
of_each P (x ∷ xs) y h c = ⊎_elim (λ e. subst P e h.0) (λ k. of_each P xs y h.1 k) (contained_cases x xs y c)

-- a function after one more, or none, if names are distinct
found_after : (o : Option TraitFn) (fs : List TraitFn) (f : TraitFn) → IsDistinct bytes_eq (fn_names (cons_option o fs)) → Contains (fn_names fs) f.name → (IsDistinct bytes_eq (fn_names fs) → trait_fn fs f.name ≡ Some f)
    → trait_fn (cons_option o fs) f.name ≡ Some f
unfolding IsDistinct
found_after None fs f d c go = go d
found_after (Some g) fs f d c go = rw (apart g.name f.name (of_each (λ y. bytes_eq g.name y ≡ false) (fn_names fs) f.name d.0 c)) (go d.1)

found_here : (o : Option TraitFn) (fs : List TraitFn) (f : TraitFn) → o ≡ Some f → trait_fn (cons_option o fs) f.name ≡ Some f
found_here o fs f e = rw (e, (bytes_eq-Decides f.name f.name).1 refl) refl

-- the function of the first term with this external constructor, if names are distinct
pub served_fn : (env : Environment) (ts : List Term) (i : ℕ) (t : Term) (func : Sym) → IsDistinct bytes_eq (names_in env ts) → slice_get ts i ≡ Some t → func_of t.kind ≡ Some func
    → trait_fn (trait_fns_in env ts) (sym_text env func) ≡ Some (constructor_fn env t func)
served_fn env [] i t func d at e = cc
served_fn env (u ∷ ts) zero t func d at e =
    let same : u ≡ t = cc in
    let is : constructor_fn_of env u ≡ Some (constructor_fn env t func) = ap (constructor_fn_of env) same ∙ ap (option_map (constructor_fn env t)) e in
    let more = cons_option (constructor_fn_of env u) (trait_fns_in env ts) in
    found_after (extractor_fn_of env u) more (constructor_fn env t func) d (at_option (constructor_fn_of env u) (trait_fns_in env ts) (constructor_fn env t func) is)
    (λ k. found_here (constructor_fn_of env u) (trait_fns_in env ts) (constructor_fn env t func) is)
served_fn env (u ∷ ts) (suc i) t func d at e =
    let f = constructor_fn env t func in
    let c = among env ts i t func at e in
    found_after (extractor_fn_of env u) (cons_option (constructor_fn_of env u) (trait_fns_in env ts)) f d (after_option (constructor_fn_of env u) (trait_fns_in env ts) f.name c)
    (λ k. found_after (constructor_fn_of env u) (trait_fns_in env ts) f k c (λ l. served_fn env ts i t func l at e))

-- ---- extractors

extractor_among : (env : Environment) (ts : List Term) (i : ℕ) (t : Term) (x : Sym × ReturnKind) → slice_get ts i ≡ Some t → extracted_of t.kind ≡ Some x → Contains (names_in env ts) (sym_text env x.0)
extractor_among env [] i t x at e = cc
extractor_among env (u ∷ ts) zero t x at e =
    let same : u ≡ t = cc in
    at_option (extractor_fn_of env u) (cons_option (constructor_fn_of env u) (trait_fns_in env ts)) (extractor_fn env t x) (ap (extractor_fn_of env) same ∙ ap (option_map (extractor_fn env t)) e)
extractor_among env (u ∷ ts) (suc i) t x at e =
    after_option (extractor_fn_of env u) (cons_option (constructor_fn_of env u) (trait_fns_in env ts)) (sym_text env x.0)
    (after_option (constructor_fn_of env u) (trait_fns_in env ts) (sym_text env x.0) (extractor_among env ts i t x at e))

-- the function of the first term with this external extractor, if names are distinct
pub extracted_fn : (env : Environment) (ts : List Term) (i : ℕ) (t : Term) (x : Sym × ReturnKind) → IsDistinct bytes_eq (names_in env ts) → slice_get ts i ≡ Some t → extracted_of t.kind ≡ Some x
    → trait_fn (trait_fns_in env ts) (sym_text env x.0) ≡ Some (extractor_fn env t x)
extracted_fn env [] i t x d at e = cc
extracted_fn env (u ∷ ts) zero t x d at e =
    let same : u ≡ t = cc in
    found_here (extractor_fn_of env u) (cons_option (constructor_fn_of env u) (trait_fns_in env ts)) (extractor_fn env t x) (ap (extractor_fn_of env) same ∙ ap (option_map (extractor_fn env t)) e)
extracted_fn env (u ∷ ts) (suc i) t x d at e =
    let f = extractor_fn env t x in
    let c = extractor_among env ts i t x at e in
    found_after (extractor_fn_of env u) (cons_option (constructor_fn_of env u) (trait_fns_in env ts)) f d (after_option (constructor_fn_of env u) (trait_fns_in env ts) f.name c)
    (λ k. found_after (constructor_fn_of env u) (trait_fns_in env ts) f k c (λ l. extracted_fn env ts i t x l at e))
