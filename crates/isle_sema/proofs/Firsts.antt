-- Where no row of a list is broken, each is kept.
use Rattle.std.proofs.Common.{◌≡◌, Bool, true, false, cond, List, [], ◌∷◌, ◌++◌, map, Option, Some, None, refl, ap, ◌∙◌}
use Rattle.std.specs.Prelude.{option_map, filter_map}
use Rattle.std.specs.List.{list_any, cons_option}
use Rattle.std.proofs.lemmas.Bool.{or_parts, or_from}
use Rattle.std.proofs.lemmas.List.{append-nil}
use Rattle.isle_ast.specs.Tree.{Def}
use Rattle.isle_types.proofs.BeforeLaws.{grown}
use Rattle.isle_sema.specs.Fault.{or_later}

-- ---- tests in order

pub first_none : {X : Type 0} (b : Bool) (x : X) (rest : Option X) → cond b (Some x) rest ≡ None → (b ≡ false) × (rest ≡ None)
first_none true x rest h = absurd cc
first_none false x rest h = (refl, h)

pub none_first : {X : Type 0} (b : Bool) (x : X) (rest : Option X) → b ≡ false → rest ≡ None → cond b (Some x) rest ≡ None
none_first true x rest b h = absurd cc
none_first false x rest b h = h

pub later_none : {X Y : Type 0} (f : X → Y) (o : Option X) (rest : Option Y) → or_later (option_map f o) rest ≡ None → (o ≡ None) × (rest ≡ None)
later_none f None rest h = (refl, h)
later_none f (Some x) rest h = absurd cc

pub none_later : {X Y : Type 0} (f : X → Y) (o : Option X) (rest : Option Y) → o ≡ None → rest ≡ None → or_later (option_map f o) rest ≡ None
none_later f None rest o h = h
none_later f (Some x) rest o h = absurd cc

pub stages_none : {X : Type 0} (first rest : Option X) → or_later first rest ≡ None → (first ≡ None) × (rest ≡ None)
stages_none None rest h = (refl, h)
stages_none (Some x) rest h = absurd cc

pub none_stages : {X : Type 0} (first rest : Option X) → first ≡ None → rest ≡ None → or_later first rest ≡ None
none_stages None rest o h = h
none_stages (Some x) rest o h = absurd cc

-- ---- two lists

pub any_parts : {X : Type 0} (test : X → Bool) (xs ys : List X) → list_any test (xs ++ ys) ≡ false → (list_any test xs ≡ false) × (list_any test ys ≡ false)
any_parts test [] ys h = (refl, h)
any_parts test (x ∷ xs) ys h =
    let k = or_parts (test x) (list_any test (xs ++ ys)) h in
    let r = any_parts test xs ys k.1 in
    (or_from (test x) (list_any test xs) k.0 r.0, r.1)

-- ---- a definition more

-- what definitions are, with one more of another kind
pub unchanged : {A B : Type 0} (f : Def → Option A) (g : A → B) (ds : List Def) (d : Def) → f d ≡ None → map g (filter_map f (ds ++ d ∷ [])) ≡ map g (filter_map f ds)
unchanged f g ds d none = grown f g ds d ∙ ap (λ o. map g (filter_map f ds) ++ map g (cons_option o [])) none ∙ append-nil (map g (filter_map f ds))
