-- Names that are interned one after the other: what is left.
use Rattle.std.proofs.Common.{◌≡◌, ℕ, ◌+◌, ◌<◌, List, [], ◌∷◌, ◌++◌, length, map, get_or, Option, refl, sym, ap, ◌∙◌}
use Rattle.std.specs.Prelude.{fold, flat_map, drop, option_to_list}
use Rattle.std.proofs.lemmas.List.{drop_more}
use Rattle.std.proofs.lemmas.List.Sums.{fold-append}
use Rattle.isle_ast.specs.declared.tree.Def.{Def as CodeDef}
use Rattle.isle_ast.specs.Tree.{Pattern, Expr, IfLet}
use Rattle.isle_ast.specs.Views.{patterns_of, def}
use Rattle.isle_declarations.specs.Names.{pattern_names, patterns_names, expr_names, iflet_names, rule_names, def_names}
use Rattle.isle_declarations.specs.Symbols.{added}

-- one text more
pub texts_more : (texts : List (List ℕ)) (i : ℕ) (text d : List ℕ) (names : List (List ℕ)) → i < length texts → text ≡ get_or texts i d
    → fold added names (drop i texts) ≡ fold added (added names text) (drop (i + 1) texts)
texts_more texts i text d names h is = ap (fold added names) (drop_more texts i d h ∙ ap (λ x. x ∷ drop (i + 1) texts) (sym is))

-- the same of things that are seen as others
pub seen_more : {X Y : Type 0} (seen : X → Y) (f : Y → List (List ℕ)) (xs : List X) (i : ℕ) (x d : X) (names : List (List ℕ)) → i < length xs → x ≡ get_or xs i d
    → fold added names (flat_map f (map seen (drop i xs))) ≡ fold added (fold added names (f (seen x))) (flat_map f (map seen (drop (i + 1) xs)))
seen_more seen f xs i x d names h is =
    ap (λ ys. fold added names (flat_map f (map seen ys))) (drop_more xs i d h ∙ ap (λ y. y ∷ drop (i + 1) xs) (sym is)) ∙ fold-append added names (f (seen x)) (flat_map f (map seen (drop (i + 1) xs)))

-- the names of the definitions from the i-th on
abbrev pub def_names_from : ℕ → List CodeDef → List (List ℕ)
def_names_from i ds = flat_map def_names (map def (drop i ds))

-- one definition more
pub defs_more : (ds : List CodeDef) (i : ℕ) (x d : CodeDef) (names : List (List ℕ)) → i < length ds → x ≡ get_or ds i d
    → fold added names (def_names_from i ds) ≡ fold added (fold added names (def_names (def x))) (def_names_from (i + 1) ds)
defs_more = seen_more def def_names

-- the names in patterns are those in each, one after the other
pub patterns_flat : (ps : List Pattern) → patterns_names (patterns_of ps) ≡ flat_map pattern_names ps
patterns_flat [] = refl
patterns_flat (p ∷ ps) = ap (λ names. pattern_names p ++ names) (patterns_flat ps)

-- lists one after the other
pub flat_mapped : {X : Type 0} (f : X → List (List ℕ)) (xs : List X) → flat_map (λ names. names) (map f xs) ≡ flat_map f xs
flat_mapped f [] = refl
flat_mapped f (x ∷ xs) = ap (λ names. f x ++ names) (flat_mapped f xs)

-- names and those after them
behind : (names xs ys mid new : List (List ℕ)) → mid ≡ fold added names xs → new ≡ fold added mid ys → new ≡ fold added names (xs ++ ys)
behind names xs ys mid new m n = n ∙ ap (λ ms. fold added ms ys) m ∙ sym (fold-append added names xs ys)

-- the names in a rule, part by part
pub rule_interned : (old own headed argued conditioned new : List (List ℕ)) (name : Option (List ℕ)) (term : List ℕ) (args : List Pattern) (iflets : List IfLet) (rhs : Expr) → own ≡ fold added old (option_to_list name) → headed ≡ added own term
    → argued ≡ fold added headed (patterns_names (patterns_of args)) → conditioned ≡ fold added argued (flat_map iflet_names iflets) → new ≡ fold added conditioned (expr_names rhs) → new ≡ fold added old (rule_names name term args iflets rhs)
rule_interned old own headed argued conditioned new name term args iflets rhs o h a c r =
    let patterns = flat_map pattern_names args in
    let conditions = flat_map iflet_names iflets in
    let head = option_to_list name ++ term ∷ patterns in
    let at : argued ≡ fold added own (term ∷ patterns) = a ∙ ap (fold added headed) (patterns_flat args) ∙ ap (λ names. fold added names patterns) h in
    behind old (head ++ conditions) (expr_names rhs) conditioned new (behind old head conditions argued conditioned (behind old (option_to_list name) (term ∷ patterns) own argued o at) c) r
