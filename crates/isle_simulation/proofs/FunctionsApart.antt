-- No function of an extractor or of a pure term is that of an impure term, since no two functions of the trait, and no two of terms, have one name.
use Rattle.std.proofs.Common.{◌≡◌, ℕ, zero, suc, List, [], ◌∷◌, Bool, true, false, Option, Some, None, refl, sym, ap, ◌∙◌, subst}
use Rattle.std.specs.Prelude.{◌||◌, Contains, slice_get, option_map}
use Rattle.std.specs.List.{IsDistinct, cons_option, list_any}
use Rattle.std.specs.Str.{bytes_eq}
use Rattle.std.proofs.lemmas.Slice.Eq.{bytes_eq-Decides}
use Rattle.isle_base.specs.declared.ids.Sym.{Sym}
use Rattle.isle_core.specs.declared.rule_sets.Binding.{Binding}
use Rattle.isle_core.specs.declared.types.ConstructorKind.TheVariants as constructor
use Rattle.isle_core.specs.declared.types.ExtractorKind.TheVariants as extractor
use Rattle.isle_core.specs.declared.types.Term.{Term}
use Rattle.isle_core.specs.declared.types.TermKind.{TermKind}
use Rattle.isle_core.specs.declared.types.TermKind.TheVariants as kind
use Rattle.isle_core.specs.declared.values.Callee.{Callee}
use Rattle.isle_core.specs.declared.values.Callee.TheVariants.{External, Internal}
use Rattle.isle_core.specs.declared.types.ReturnKind.{ReturnKind}
use Rattle.isle_core.specs.Calling.{ByCases, calling_of, calling_by, pure_callee, kind_of, extracting_of, extracting_kind}
use Rattle.isle_core.specs.Rule.{Environment}
use Rattle.isle_core.specs.Terms.{sym_text, impure_callee, goes_to, is_impure}
use Rattle.isle_tree.specs.declared.tree.TraitFn.{TraitFn}
use Rattle.isle_tree.specs.WellFormed.{fn_names}
use Rattle.isle_simulation.specs.Emitted.{HasPureExtractors, HasPureConstructors}
use Rattle.isle_simulation.specs.Statements.{callee_of}
use Rattle.isle_simulation.specs.TraitFns.{constructor_fn, func_of, constructor_fn_of, extractor_fn, extracted_of, extractor_fn_of, trait_fns_in, HasFnNames}
use Rattle.isle_simulation.specs.TermFns.{IsRuled, HasTermFns}
use Rattle.isle_simulation.proofs.FoundByName.{after_option, at_option, behind_option, option_apart}
use Rattle.isle_simulation.proofs.TermHeads.{term_once}
use Rattle.isle_simulation.proofs.ExternalTerms.{fn_contained, extractor_contained}

-- ---- names that are apart

-- so are those after one
pub behind_one : (o : Option TraitFn) (fs : List TraitFn) → IsDistinct bytes_eq (fn_names (cons_option o fs)) → IsDistinct bytes_eq (fn_names fs)
behind_one o fs d = behind_option (λ (f : TraitFn). f.name) o fs d

-- and the first is apart from those
pub apart_from : (o : Option TraitFn) (fs : List TraitFn) (f g : TraitFn) → o ≡ Some f → IsDistinct bytes_eq (fn_names (cons_option o fs)) → Contains fs g → f.name ≡ g.name → ⊥
apart_from o fs f g e d c same = option_apart (λ (x : TraitFn). x.name) o fs f g e d c same

the_term : (a b : Term) → Some a ≡ Some b → a ≡ b
the_term a b e = cc

-- a term's extractor is apart from each constructor
pub extractor_apart : (env : Environment) (ts : List Term) (i j : ℕ) (t u : Term) (f g : TraitFn) → IsDistinct bytes_eq (fn_names (trait_fns_in env ts)) → slice_get ts i ≡ Some t → slice_get ts j ≡ Some u
    → extractor_fn_of env t ≡ Some f → constructor_fn_of env u ≡ Some g → f.name ≡ g.name → ⊥
extractor_apart env [] i j t u f g d a b k l same = cc
extractor_apart env (x ∷ ts) zero zero t u f g d a b k l same =
    let made = constructor_fn_of env x in
    apart_from (extractor_fn_of env x) (cons_option made (trait_fns_in env ts)) f g (ap (extractor_fn_of env) (the_term x t a) ∙ k) d (at_option made (trait_fns_in env ts) g (ap (constructor_fn_of env) (the_term x u b) ∙ l)) same
extractor_apart env (x ∷ ts) zero (suc j) t u f g d a b k l same =
    let made = constructor_fn_of env x in
    apart_from (extractor_fn_of env x) (cons_option made (trait_fns_in env ts)) f g (ap (extractor_fn_of env) (the_term x t a) ∙ k) d (after_option made (trait_fns_in env ts) g (fn_contained env ts j u g b l)) same
extractor_apart env (x ∷ ts) (suc i) zero t u f g d a b k l same =
    let made = constructor_fn_of env x in
    apart_from made (trait_fns_in env ts) g f (ap (constructor_fn_of env) (the_term x u b) ∙ l) (behind_one (extractor_fn_of env x) (cons_option made (trait_fns_in env ts)) d) (extractor_contained env ts i t f a k) (sym same)
extractor_apart env (x ∷ ts) (suc i) (suc j) t u f g d a b k l same =
    let made = constructor_fn_of env x in
    extractor_apart env ts i j t u f g (behind_one made (trait_fns_in env ts) (behind_one (extractor_fn_of env x) (cons_option made (trait_fns_in env ts)) d)) a b k l same

-- constructors of one name are of one term
pub constructor_once : (env : Environment) (ts : List Term) (i j : ℕ) (t u : Term) (f g : TraitFn) → IsDistinct bytes_eq (fn_names (trait_fns_in env ts)) → slice_get ts i ≡ Some t → slice_get ts j ≡ Some u
    → constructor_fn_of env t ≡ Some f → constructor_fn_of env u ≡ Some g → f.name ≡ g.name → t ≡ u
constructor_once env [] i j t u f g d a b k l same = cc
constructor_once env (x ∷ ts) zero zero t u f g d a b k l same = sym (the_term x t a) ∙ the_term x u b
constructor_once env (x ∷ ts) zero (suc j) t u f g d a b k l same =
    let made = constructor_fn_of env x in
    absurd (apart_from made (trait_fns_in env ts) f g (ap (constructor_fn_of env) (the_term x t a) ∙ k) (behind_one (extractor_fn_of env x) (cons_option made (trait_fns_in env ts)) d) (fn_contained env ts j u g b l) same)
constructor_once env (x ∷ ts) (suc i) zero t u f g d a b k l same =
    let made = constructor_fn_of env x in
    absurd (apart_from made (trait_fns_in env ts) g f (ap (constructor_fn_of env) (the_term x u b) ∙ l) (behind_one (extractor_fn_of env x) (cons_option made (trait_fns_in env ts)) d) (fn_contained env ts i t f a k) (sym same))
constructor_once env (x ∷ ts) (suc i) (suc j) t u f g d a b k l same =
    let made = constructor_fn_of env x in
    constructor_once env ts i j t u f g (behind_one made (trait_fns_in env ts) (behind_one (extractor_fn_of env x) (cons_option made (trait_fns_in env ts)) d)) a b k l same

-- ---- callees

-- no item is so if none at a place is
none_any : {A : Type 0} (f : A → Bool) (xs : List A) → ((j : ℕ) (x : A) → slice_get xs j ≡ Some x → f x ≡ false) → list_any f xs ≡ false
none_any f [] h = refl
none_any f (x ∷ xs) h = ap (λ b. b || list_any f xs) (h 0 x refl) ∙ none_any f xs (λ j y e. h (suc j) y e)

-- a call of an extractor's function is none of an impure term's constructor
apart_callee : (env : Environment) → HasFnNames env → (i : ℕ) (t : Term) (func : Sym) (f : TraitFn) → slice_get env.terms i ≡ Some t → extractor_fn_of env t ≡ Some f → f.name ≡ sym_text env func
    → (j : ℕ) (u : Term) → slice_get env.terms j ≡ Some u → goes_to (External (sym_text env func)) (impure_callee env u u.kind) ≡ false
apart_callee env names i t func f at fn named j u there = by u.kind refl
  where
    differ : (made : Sym) → constructor_fn_of env u ≡ Some (constructor_fn env u made) → (b : Bool) → bytes_eq (sym_text env func) (sym_text env made) ≡ b → b ≡ false
    differ made is true e = absurd (extractor_apart env env.terms i j t u f (constructor_fn env u made) names.distinct at there fn is (named ∙ (bytes_eq-Decides (sym_text env func) (sym_text env made)).0 e))
    differ made is false e = refl

    by : (k : TermKind) → u.kind ≡ k → goes_to (External (sym_text env func)) (impure_callee env u k) ≡ false
    by (kind.Decl false multi p recursive (constructor.External made) x) e = differ made (ap (λ (l : TermKind). option_map (constructor_fn env u) (func_of l)) e) (bytes_eq (sym_text env func) (sym_text env made)) refl
    by (kind.Decl false multi p recursive constructor.Internal x) e = refl
    by (kind.Decl false multi p recursive constructor.Absent x) e = refl
    by (kind.Decl true multi p recursive by' x) e = refl
    by (kind.Variant ty variant) e = refl
    by (kind.Struct ty) e = refl

-- what the call of a term's extractor goes to is no impure term
extractor_pure : (env : Environment) → HasFnNames env → (i : ℕ) (t : Term) → slice_get env.terms i ≡ Some t → (k : TermKind) → t.kind ≡ k → (callee : Callee) → callee_of (extracting_kind env k) ≡ Some callee → is_impure env callee ≡ false
extractor_pure env names i t at (kind.Decl pure multi p recursive by (extractor.External func infallible)) e callee is =
    let fn : extractor_fn_of env t ≡ Some (extractor_fn env t (func, _)) = ap (λ (l : TermKind). option_map (extractor_fn env t) (extracted_of l)) e in
    subst (λ c. is_impure env c ≡ false) (one (External (sym_text env func)) callee is) (none_any _ env.terms (apart_callee env names i t func _ at fn refl))
  where
    one : (a b : Callee) → Some a ≡ Some b → a ≡ b
    one a b k = cc
extractor_pure env names i t at (kind.Decl pure multi p recursive by extractor.Internal) e callee is = cc
extractor_pure env names i t at (kind.Decl pure multi p recursive by extractor.Absent) e callee is = cc
extractor_pure env names i t at (kind.Variant ty variant) e callee is = cc
extractor_pure env names i t at (kind.Struct ty) e callee is = cc

-- no extractor among bindings is the function of an impure term
pub pure_extractors : (env : Environment) (bs : List Binding) → HasFnNames env → HasPureExtractors env bs
pure_extractors env bs names b term parameter callee at is = by (slice_get env.terms term.0) refl is
  where
    by : (o : Option Term) → slice_get env.terms term.0 ≡ o → callee_of (extracting_of env o) ≡ Some callee → is_impure env callee ≡ false
    by None there e = cc
    by (Some t) there e = extractor_pure env names term.0 t there t.kind refl callee e

-- a call of a pure term's function is none of an impure term's
pure_apart : (env : Environment) → HasFnNames env → (i : ℕ) (t : Term) (func : Sym) → slice_get env.terms i ≡ Some t → constructor_fn_of env t ≡ Some (constructor_fn env t func) → impure_callee env t t.kind ≡ None
    → (j : ℕ) (u : Term) → slice_get env.terms j ≡ Some u → goes_to (External (sym_text env func)) (impure_callee env u u.kind) ≡ false
pure_apart env names i t func at fn pure j u there = by u.kind refl
  where
    differ : (made : Sym) → constructor_fn_of env u ≡ Some (constructor_fn env u made) → impure_callee env u u.kind ≡ Some (External (sym_text env made)) → (b : Bool) → bytes_eq (sym_text env func) (sym_text env made) ≡ b → b ≡ false
    differ made is impure true e =
        let one = constructor_once env env.terms i j t u (constructor_fn env t func) (constructor_fn env u made) names.distinct at there fn is ((bytes_eq-Decides (sym_text env func) (sym_text env made)).0 e) in
        let bad : None ≡ Some (External (sym_text env made)) = sym pure ∙ ap (λ (x : Term). impure_callee env x x.kind) one ∙ impure in cc
    differ made is impure false e = refl

    by : (k : TermKind) → u.kind ≡ k → goes_to (External (sym_text env func)) (impure_callee env u k) ≡ false
    by (kind.Decl false multi p recursive (constructor.External made) x) e = differ made (ap (λ (l : TermKind). option_map (constructor_fn env u) (func_of l)) e) (ap (impure_callee env u) e) (bytes_eq (sym_text env func) (sym_text env made)) refl
    by (kind.Decl false multi p recursive constructor.Internal x) e = refl
    by (kind.Decl false multi p recursive constructor.Absent x) e = refl
    by (kind.Decl true multi p recursive by' x) e = refl
    by (kind.Variant ty variant) e = refl
    by (kind.Struct ty) e = refl

-- so if both are made by rules
pure_rules_apart : (env : Environment) → HasTermFns env → (i : ℕ) (t : Term) → slice_get env.terms i ≡ Some t → IsRuled t.kind → impure_callee env t t.kind ≡ None
    → (j : ℕ) (u : Term) → slice_get env.terms j ≡ Some u → goes_to (Internal (sym_text env t.name)) (impure_callee env u u.kind) ≡ false
pure_rules_apart env names i t at ruled pure j u there = by u.kind refl
  where
    differ : IsRuled u.kind → impure_callee env u u.kind ≡ Some (Internal (sym_text env u.name)) → (b : Bool) → bytes_eq (sym_text env t.name) (sym_text env u.name) ≡ b → b ≡ false
    differ ruled' impure true e =
        let one = term_once env (record { 0 = i }) (record { 0 = j }) t u names at there ruled ruled' ((bytes_eq-Decides (sym_text env t.name) (sym_text env u.name)).0 e) in
        let bad : None ≡ Some (Internal (sym_text env u.name)) = sym pure ∙ ap (λ (x : Term). impure_callee env x x.kind) one ∙ impure in cc
    differ ruled' impure false e = refl

    by : (k : TermKind) → u.kind ≡ k → goes_to (Internal (sym_text env t.name)) (impure_callee env u k) ≡ false
    by (kind.Decl false multi p recursive constructor.Internal x) e = differ (subst IsRuled (sym e) tt) (ap (impure_callee env u) e) (bytes_eq (sym_text env t.name) (sym_text env u.name)) refl
    by (kind.Decl false multi p recursive (constructor.External made) x) e = refl
    by (kind.Decl false multi p recursive constructor.Absent x) e = refl
    by (kind.Decl true multi p recursive by' x) e = refl
    by (kind.Variant ty variant) e = refl
    by (kind.Struct ty) e = refl

-- what the call of a pure term goes to is no impure term
constructor_pure : (env : Environment) → HasFnNames env → HasTermFns env → (i : ℕ) (t : Term) → slice_get env.terms i ≡ Some t → (k : TermKind) → t.kind ≡ k → (callee : Callee) (of : ReturnKind)
    → calling_by (kind_of k) (impure_callee env t k) (pure_callee env t k) ≡ ByCases callee of → is_impure env callee ≡ false
constructor_pure env names terms i t at (kind.Decl true multi p recursive (constructor.External func) x) e callee of is =
    subst (λ c. is_impure env c ≡ false) (one (External (sym_text env func)) callee is)
    (none_any _ env.terms (pure_apart env names i t func at (ap (λ (l : TermKind). option_map (constructor_fn env t) (func_of l)) e) (ap (impure_callee env t) e)))
  where
    one : (a b : Callee) → ByCases a (kind_of (kind.Decl true multi p recursive (constructor.External func) x)) ≡ ByCases b of → a ≡ b
    one a b k = cc
constructor_pure env names terms i t at (kind.Decl true multi p recursive constructor.Internal x) e callee of is =
    subst (λ c. is_impure env c ≡ false) (one (Internal (sym_text env t.name)) callee is) (none_any _ env.terms (pure_rules_apart env terms i t at (subst IsRuled (sym e) tt) (ap (impure_callee env t) e)))
  where
    one : (a b : Callee) → ByCases a (kind_of (kind.Decl true multi p recursive constructor.Internal x)) ≡ ByCases b of → a ≡ b
    one a b k = cc
constructor_pure env names terms i t at (kind.Decl true multi p recursive constructor.Absent x) e callee of is = cc
constructor_pure env names terms i t at (kind.Decl false multi p recursive constructor.Absent x) e callee of is = cc
constructor_pure env names terms i t at (kind.Decl false multi p recursive constructor.Internal x) e callee of is = cc
constructor_pure env names terms i t at (kind.Decl false multi p recursive (constructor.External func) x) e callee of is = cc
constructor_pure env names terms i t at (kind.Variant ty variant) e callee of is = cc
constructor_pure env names terms i t at (kind.Struct ty) e callee of is = cc

-- no pure term's constructor is the function of an impure term
pub pure_constructors : (env : Environment) → HasFnNames env → HasTermFns env → HasPureConstructors env
pure_constructors env names terms term callee kind is = by (slice_get env.terms term.0) refl
  where
    by : (o : Option Term) → slice_get env.terms term.0 ≡ o → is_impure env callee ≡ false
    by None there = let bad : calling_of env None ≡ ByCases callee kind = sym (ap (calling_of env) there) ∙ is in cc
    by (Some t) there = constructor_pure env names terms term.0 t there t.kind refl callee kind (sym (ap (calling_of env) there) ∙ is)
