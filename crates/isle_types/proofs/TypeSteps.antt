-- What definitions declare, with one more.
use Rattle.std.proofs.Common.{◌≡◌, ℕ, ◌+◌, ◌<◌, List, [], ◌∷◌, ◌++◌, map, length, get_or, take, Option, Some, None, refl, sym, ap, ◌∙◌}
use Rattle.std.specs.Prelude.{filter_map, option_map, option_to_list}
use Rattle.std.specs.List.{cons_option}
use Rattle.std.proofs.lemmas.List.{take_more, map-append}
use Rattle.isle_ast.specs.Tree.{Def}
use Rattle.isle_ast.specs.declared.tree.Def.{Def as CodeDef}
use Rattle.isle_ast.specs.Views.{def, defs}

one_more : {B : Type 0} (o : Option B) (xs ys : List B) → cons_option o (xs ++ ys) ≡ cons_option o xs ++ ys
one_more None xs ys = refl
one_more (Some b) xs ys = refl

alone : {B : Type 0} (o : Option B) → cons_option o [] ≡ option_to_list o
alone None = refl
alone (Some b) = refl

last_more : {B : Type 0} (f : Def → Option B) (ds : List Def) (d : Def) → filter_map f (ds ++ d ∷ []) ≡ filter_map f ds ++ option_to_list (f d)
last_more f [] d = alone (f d)
last_more f (x ∷ ds) d = ap (cons_option (f x)) (last_more f ds d) ∙ one_more (f x) (filter_map f ds) (option_to_list (f d))

taken : (ds : List CodeDef) (i : ℕ) (x d : CodeDef) → i < length ds → x ≡ get_or ds i d → defs (take (i + 1) ds) ≡ defs (take i ds) ++ def x ∷ []
taken ds i x d lt is = ap defs (take_more ds i d lt) ∙ map-append def (take i ds) (get_or ds i d ∷ []) ∙ ap (λ y. defs (take i ds) ++ def y ∷ []) (sym is)

-- what some are, in order
pub some_more : {B : Type 0} (f : Def → Option B) (ds : List CodeDef) (i : ℕ) (x d : CodeDef) → i < length ds → x ≡ get_or ds i d → filter_map f (defs (take (i + 1) ds)) ≡ filter_map f (defs (take i ds)) ++ option_to_list (f (def x))
some_more f ds i x d lt is = ap (filter_map f) (taken ds i x d lt is) ∙ last_more f (defs (take i ds)) (def x)

mapped : {A B : Type 0} (g : A → B) (o : Option A) → map g (option_to_list o) ≡ option_to_list (option_map g o)
mapped g None = refl
mapped g (Some a) = refl

-- and what these are made into
pub made_more : {A B : Type 0} (f : Def → Option A) (g : A → B) (ds : List CodeDef) (i : ℕ) (x d : CodeDef) → i < length ds → x ≡ get_or ds i d
    → map g (filter_map f (defs (take (i + 1) ds))) ≡ map g (filter_map f (defs (take i ds))) ++ option_to_list (option_map g (f (def x)))
made_more f g ds i x d lt is = ap (map g) (some_more f ds i x d lt is) ∙ map-append g (filter_map f (defs (take i ds))) (option_to_list (f (def x))) ∙ ap (λ ys. map g (filter_map f (defs (take i ds))) ++ ys) (mapped g (f (def x)))
