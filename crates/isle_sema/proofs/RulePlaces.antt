-- A rule stands where a definition does.
use Rattle.std.proofs.Common.{◌≡◌, ℕ, ◌+◌, List, [], ◌∷◌, Some, refl, sym, ap, ◌∙◌, subst, ⊎_elim}
use Rattle.std.specs.Prelude.{Contains}
use Rattle.std.proofs.lemmas.Option.{same_Some}
use Rattle.isle_core.specs.declared.position.Pos.{Pos}
use Rattle.isle_core.specs.Rule.{Rule, Environment}
use Rattle.isle_core.proofs.Contained.{head_contained, tail_contained, contained_cases, none_contained}
use Rattle.isle_ast.specs.Tree as tree
use Rattle.isle_ast.specs.Tree.{Def}
use Rattle.isle_ast.specs.Positions.{place_of}
use Rattle.isle_declarations.specs.Signatures.{RuleDef, rule_defs}
use Rattle.isle_terms.specs.Whole.{Whole}
use Rattle.isle_sema.specs.RulePass.{rule_pass, rules_pass}
use Rattle.isle_terms.specs.Whole.{whole_of}
use Rattle.isle_sema.specs.Typing.{Typed}
use Rattle.isle_terms.proofs.MadeTerms.{first_there}
use Rattle.isle_sema.proofs.TypedParts.{given_in}
use Rattle.isle_sema.proofs.RuleRoots.{rule_made}

-- a definition stands there
StandsAt : List Def → Pos → Type 0
StandsAt defs pos = (d : Def) × Contains defs d × (place_of d ≡ pos)

later : (first : Def) (defs : List Def) (pos : Pos) → StandsAt defs pos → StandsAt (first ∷ defs) pos
unfolding StandsAt
later first defs pos h = (h.0, tail_contained first defs h.0 h.1, h.2)

first_is : (d : Def) (defs : List Def) (here r : RuleDef) → place_of d ≡ here.pos → here ≡ r → StandsAt (d ∷ defs) r.pos
unfolding StandsAt
first_is d defs here r at e = (d, head_contained d defs, at ∙ ap (λ (x : RuleDef). x.pos) e)

stands_at : (defs : List Def) (r : RuleDef) → Contains (rule_defs defs) r → StandsAt defs r.pos
stands_at [] r c = absurd (none_contained r c)
stands_at (tree.Rule name prio term args iflets rhs pos ∷ defs) r c =
    let here : RuleDef = record { name = name; prio = prio; term = term; args = args; iflets = iflets; rhs = rhs; pos = pos } in
    let d = tree.Rule name prio term args iflets rhs pos in
    ⊎_elim (λ (e : here ≡ r). first_is d defs here r refl e) (λ k. later d defs r.pos (stands_at defs r k)) (contained_cases here (rule_defs defs) r c)
stands_at (tree.Decl term pure multi partial recursive args ret pos ∷ defs) r c = later (tree.Decl term pure multi partial recursive args ret pos) defs r.pos (stands_at defs r c)
stands_at (tree.TypeDecl name is_extern is_nodebug body pos ∷ defs) r c = later (tree.TypeDecl name is_extern is_nodebug body pos) defs r.pos (stands_at defs r c)
stands_at (tree.ExternConstructor term func pos ∷ defs) r c = later (tree.ExternConstructor term func pos) defs r.pos (stands_at defs r c)
stands_at (tree.ExternExtractor term func infallible pos ∷ defs) r c = later (tree.ExternExtractor term func infallible pos) defs r.pos (stands_at defs r c)
stands_at (tree.ExternConst name ty pos ∷ defs) r c = later (tree.ExternConst name ty pos) defs r.pos (stands_at defs r c)
stands_at (tree.Extractor term params template pos ∷ defs) r c = later (tree.Extractor term params template pos) defs r.pos (stands_at defs r c)
stands_at (tree.Converter from to term pos ∷ defs) r c = later (tree.Converter from to term pos) defs r.pos (stands_at defs r c)
stands_at (tree.Passed head pos ∷ defs) r c = later (tree.Passed head pos) defs r.pos (stands_at defs r c)

-- the definition of a rule
record IsPassed (rules : List RuleDef) (x : Rule) : Type 0 where
  given : RuleDef
  among : Contains rules given
  pos : given.pos ≡ x.pos

passed : (w : Whole) (i : ℕ) (rules : List RuleDef) (xs : List Rule) (x : Rule) → rules_pass w i rules ≡ Some xs → Contains xs x → IsPassed rules x
passed w i [] xs x h c = absurd (none_contained x (subst (λ (ys : List Rule). Contains ys x) (sym (same_Some [] xs h)) c))
passed w i (r ∷ rules) xs x h c =
    let f = first_there (rule_pass w i r) (rules_pass w (i + 1) rules) xs h in
    ⊎_elim
    (λ (e : f.first ≡ x). record { given = r; among = head_contained r rules; pos = (rule_made w i r f.first f.here).pos ∙ ap (λ (y : Rule). y.pos) e })
    (λ k. let p = passed w (i + 1) rules f.others x f.found k in record { given = p.given; among = tail_contained r rules p.given p.among; pos = p.pos })
    (contained_cases f.first f.others x (subst (λ (ys : List Rule). Contains ys x) f.all c))

-- a rule stands where a definition does
pub rule_places : (defs : List Def) (env : Environment) (r : Rule) → Typed defs env → Contains env.rules r → (d : Def) × Contains defs d × (place_of d ≡ r.pos)
unfolding StandsAt
rule_places defs env r h c =
    let p = passed (whole_of defs) 0 (rule_defs defs) env.rules r (given_in h).rules c in
    let s = stands_at defs p.given p.among in
    (s.0, s.1, s.2 ∙ p.pos)
