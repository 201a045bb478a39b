-- The terms that are made of signatures.
use Rattle.std.proofs.Common.{◌≡◌, ℕ, zero, suc, List, [], ◌∷◌, map, Option, Some, None, refl, sym, ap, ◌∙◌, subst}
use Rattle.std.specs.List.{AllByRecursion}
use Rattle.std.specs.Prelude.{option_map, option_and_then, slice_get}
use Rattle.std.proofs.lemmas.Option.{same_Some}
use Rattle.isle_core.specs.declared.TypeId.{TypeId}
use Rattle.isle_core.specs.declared.types.Term.{Term}
use Rattle.isle_ast.specs.Tree.{Def}
use Rattle.isle_declarations.specs.Signatures.{Signature}
use Rattle.isle_terms.specs.TypeNames.{type_named}
use Rattle.isle_terms.specs.Whole.{Whole}
use Rattle.isle_terms.specs.TermPass.{tree_before}
use Rattle.isle_terms.specs.TermPass.{types_named, term_from, term_pass, terms_pass}

-- ---- trees in order

-- the tree before others, and the others
pub record IsFirst {X : Type 0} (o : Option X) (os : Option (List X)) (xs : List X) : Type 0 where
  pub first : X
  pub others : List X
  pub here : o ≡ Some first
  pub found : os ≡ Some others
  pub all : xs ≡ first ∷ others

pub first_there : {X : Type 0} (o : Option X) (os : Option (List X)) (xs : List X) → tree_before o os ≡ Some xs → IsFirst o os xs
first_there None os xs h = absurd cc
first_there (Some x) None xs h = absurd cc
first_there (Some x) (Some others) xs h = record { first = x; others = others; here = refl; found = refl; all = sym (same_Some (x ∷ others) xs h) }

pub before_both : {X : Type 0} (o : Option X) (os : Option (List X)) (x : X) (xs : List X) → o ≡ Some x → os ≡ Some xs → tree_before o os ≡ Some (x ∷ xs)
before_both o os x xs e f = ap (λ p. tree_before p os) e ∙ ap (λ ps. tree_before (Some x) ps) f

-- ---- terms

-- the term at a declaration's place
pub record IsMadeAt (w : Whole) (terms : List Term) (i : ℕ) (s : Signature) : Type 0 where
  pub term : Term
  pub there : slice_get terms i ≡ Some term
  pub made : term_pass w s ≡ Some term

pub term_made : (w : Whole) (sigs : List Signature) (terms : List Term) (i : ℕ) (s : Signature) → terms_pass w sigs ≡ Some terms → slice_get sigs i ≡ Some s → IsMadeAt w terms i s
term_made w [] terms zero s h at = absurd cc
term_made w [] terms (suc i) s h at = absurd cc
term_made w (d ∷ sigs) terms zero s h at =
    let f = first_there (term_pass w d) (terms_pass w sigs) terms h in
    record { term = f.first; there = ap (λ (ts : List Term). slice_get ts 0) f.all; made = ap (term_pass w) (sym (same_Some d s at)) ∙ f.here }
term_made w (d ∷ sigs) terms (suc i) s h at =
    let f = first_there (term_pass w d) (terms_pass w sigs) terms h in
    let m = term_made w sigs f.others i s f.found at in
    record { term = m.term; there = ap (λ (ts : List Term). slice_get ts (suc i)) f.all ∙ m.there; made = m.made }

-- the declaration of a term
pub record IsMadeOf (w : Whole) (sigs : List Signature) (i : ℕ) (t : Term) : Type 0 where
  pub signature : Signature
  pub there : slice_get sigs i ≡ Some signature
  pub made : term_pass w signature ≡ Some t

empty_at : (terms : List Term) (i : ℕ) (t : Term) → [] ≡ terms → slice_get terms i ≡ Some t → ⊥
empty_at [] zero t none at = cc
empty_at [] (suc i) t none at = cc
empty_at (x ∷ terms) i t none at = cc

pub made_of : (w : Whole) (sigs : List Signature) (terms : List Term) (i : ℕ) (t : Term) → terms_pass w sigs ≡ Some terms → slice_get terms i ≡ Some t → IsMadeOf w sigs i t
made_of w [] terms i t h at = absurd (empty_at terms i t (same_Some [] terms h) at)
made_of w (d ∷ sigs) terms zero t h at =
    let f = first_there (term_pass w d) (terms_pass w sigs) terms h in
    record { signature = d; there = refl; made = f.here ∙ ap (λ (ts : List Term). slice_get ts 0) (sym f.all) ∙ at }
made_of w (d ∷ sigs) terms (suc i) t h at =
    let f = first_there (term_pass w d) (terms_pass w sigs) terms h in
    let m = made_of w sigs f.others i t f.found (ap (λ (ts : List Term). slice_get ts (suc i)) (sym f.all) ∙ at) in
    record { signature = m.signature; there = m.there; made = m.made }

-- what a declaration's term is
pub record IsTermOf (w : Whole) (s : Signature) (t : Term) : Type 0 where
  pub args : types_named w.defs s.args ≡ Some t.arg_tys
  pub ret : type_named w.defs s.ret ≡ Some t.ret_ty
  pub is : term_from w s t.arg_tys t.ret_ty ≡ t

pub term_is : (w : Whole) (s : Signature) (t : Term) → term_pass w s ≡ Some t → IsTermOf w s t
term_is w s t h = by (types_named w.defs s.args) (type_named w.defs s.ret) refl refl h
  where
    by : (args : Option (List TypeId)) (ret : Option TypeId) → types_named w.defs s.args ≡ args → type_named w.defs s.ret ≡ ret → option_and_then (λ (xs : List TypeId). option_map (term_from w s xs) ret) args ≡ Some t → IsTermOf w s t
    by None ret e f h = absurd cc
    by (Some args) None e f h = absurd cc
    by (Some args) (Some ret) e f h =
        let same = same_Some (term_from w s args ret) t h in
        let tys : args ≡ t.arg_tys = ap (λ (x : Term). x.arg_tys) same in
        let ty : ret ≡ t.ret_ty = ap (λ (x : Term). x.ret_ty) same in
        record { args = e ∙ ap Some tys; ret = f ∙ ap Some ty; is = ap (λ xs. term_from w s xs t.ret_ty) (sym tys) ∙ ap (term_from w s args) (sym ty) ∙ same }

pub types_are : (defs : List Def) (names : List (List ℕ)) (tys : List TypeId) → types_named defs names ≡ Some tys → map (type_named defs) names ≡ map Some tys
types_are defs [] tys h = ap (map Some) (same_Some [] tys h)
types_are defs (name ∷ names) tys h =
    let f = first_there (type_named defs name) (types_named defs names) tys h in
    ap (λ o. o ∷ map (type_named defs) names) f.here ∙ ap (λ os. Some f.first ∷ os) (types_are defs names f.others f.found) ∙ ap (map Some) (sym f.all)

-- what holds of all holds at a place
pub all_at : {X : Type 0} (P : X → Type 0) (xs : List X) (i : ℕ) (x : X) → AllByRecursion P xs → slice_get xs i ≡ Some x → P x
all_at P [] zero x h e = absurd cc
all_at P [] (suc i) x h e = absurd cc
all_at P (y ∷ xs) zero x h e = subst P (same_Some y x e) h.0
all_at P (y ∷ xs) (suc i) x h e = all_at P xs i x h.1 e
