-- The loop that makes the arms of a match of several, over plain variables.
use Rattle.std.proofs.Common.{◌≡◌, ℕ, ◌+◌, ◌<◌, List, [], ◌∷◌, ◌++◌, length, drop, get_or, map, Option, Some, refl, sym, ap, ◌∙◌, subst}
use Rattle.std.proofs.lemmas.List.{drop_more}
use Rattle.isle_core.specs.declared.BindingId.{BindingId}
use Rattle.isle_core.specs.declared.blocks.MatchArm.{MatchArm as CodeArm}
use Rattle.isle_core.specs.declared.rule_sets.Constraint.{Constraint}
use Rattle.isle_core.specs.ArmPlaces.{bound_within}
use Rattle.isle_core.specs.BlockViews.{SeenArm, arms_of, arm}
use Rattle.isle_core.specs.Setting.{Setting}
use Rattle.isle_tree.specs.declared.tree.Read.{Read}
use Rattle.isle_tree.specs.declared.tree.Stmt.{Stmt as CodeStmt}
use Rattle.isle_tree.specs.declared.tree.Stmt.TheVariants as code
use Rattle.isle_tree.specs.declared.tree.TPat.{TPat}
use Rattle.isle_tree.specs.Program.{Arms, NoArm, Body, Done}
use Rattle.isle_tree.specs.Views.{stmt, body, arms}
use Rattle.isle_tree.proofs.Sees.{stmt-match}
use Rattle.isle_simulation.specs.Manner.{Manner}
use Rattle.isle_simulation.specs.Patterns.{arm_pattern}
use Rattle.isle_simulation.specs.Statements.{match_read, match_of, arm_before}
use Rattle.isle_emission.specs.BodyOnto.{body_onto}
use Rattle.isle_emission.specs.Built.{HasRead, AreBuilt, AreCasesBuilt, IsBuiltCase}
use Rattle.isle_emission.specs.Cases.{Case, cases_onto, PushesArm, PushesCase}
use Rattle.isle_emission.specs.MadeBodies.{made_in_arm, made_arms, made_each}
use Rattle.isle_simulation.proofs.CompletedArms.{arm_by}
use Rattle.isle_emission.proofs.Onto.{onto_done}

-- ---- what is made

onto_no_arm : (xs : List Case) → cases_onto xs (Some NoArm) ≡ Some (arms xs)
onto_no_arm [] = refl
onto_no_arm (x ∷ xs) = ap (arm_before (Some x.0) (Some (body x.1))) (onto_no_arm xs)

-- a match, as its arms are seen
pub inside_match : (r : Read) (xs : List Case) → Some (stmt (code.Match r xs)) ≡ match_of (Some r) (cases_onto xs (Some NoArm))
inside_match r xs = ap Some (stmt-match r xs) ∙ ap (match_of (Some r)) (sym (onto_no_arm xs))

onto_case : (xs : List Case) (x : Case) (others : Option Arms) → cases_onto (xs ++ x ∷ []) others ≡ cases_onto xs (arm_before (Some x.0) (Some (body x.1)) others)
onto_case [] x others = refl
onto_case (y ∷ xs) x others = ap (arm_before (Some y.0) (Some (body y.1))) (onto_case xs x others)

-- an arm is pushed
pub arm_pushed : (s : Setting) (x seen : SeenArm) (pat : TPat) (ss : List CodeStmt) (old new : List Case)
    → x ≡ seen → Some pat ≡ arm_pattern s.env seen.0 seen.1 → new ≡ old ++ (pat, ss) ∷ [] → PushesArm s x (body_onto (map stmt ss) (Some Done)) old new
arm_pushed s x seen pat ss old new seen_x is_pat is_pushed = λ others.
    ap (λ ys. cases_onto ys others) is_pushed
    ∙ onto_case old (pat, ss) others
    ∙ ap (λ p. cases_onto old (arm_before p (Some (body ss)) others)) is_pat
    ∙ ap (λ i. cases_onto old (arm_before (arm_pattern s.env seen.0 seen.1) i others)) (sym (onto_done (map stmt ss)))
    ∙ ap (λ (k : SeenArm). cases_onto old (arm_before (arm_pattern s.env k.0 k.1) (body_onto (map stmt ss) (Some Done)) others)) (sym seen_x)

-- with the statements of its block
pub case_pushed : (manner : Manner) (s : Setting) (bound : List ℕ) (x seen : SeenArm) (i : Option Body) (old new : List Case)
    → x ≡ seen → i ≡ made_in_arm manner s (bound_within bound seen.1) seen.2 → PushesArm s x i old new → PushesCase manner s bound x old new
case_pushed manner s bound x seen i old new seen_x is p = λ others.
    p others
    ∙ ap (λ y. cases_onto old (arm_before (arm_pattern s.env x.0 x.1) y others)) (is ∙ ap (λ (k : SeenArm). made_in_arm manner s (bound_within bound k.1) k.2) (sym seen_x))

-- ---- the loop

-- the first of the arms that are left
pub cases_step : (manner : Manner) (s : Setting) (xs : List CodeArm) (i : ℕ) (x : CodeArm) (bound new : List ℕ) (old after : List Case)
    → i < length xs → x ≡ get_or xs i x → new ≡ bound → PushesCase manner s bound (arm x) old after
    → cases_onto after (made_each manner s new (arms_of (map arm (drop (i + 1) xs)))) ≡ cases_onto old (made_each manner s bound (arms_of (map arm (drop i xs))))
cases_step manner s xs i x bound new old after lt item at_new p =
    ap (λ ls. cases_onto after (made_each manner s ls (arms_of (map arm (drop (i + 1) xs))))) at_new
    ∙ p (made_each manner s bound (arms_of (map arm (drop (i + 1) xs))))
    ∙ ap (λ b. cases_onto old (arm_before (arm_pattern s.env (arm x).0 (arm x).1) b (made_each manner s bound (arms_of (map arm (drop (i + 1) xs)))))) (sym (arm_by manner s (bound_within bound (arm x).1) (arm x).2))
    ∙ ap (λ y. cases_onto old (made_each manner s bound (arms_of (map arm (y ∷ drop (i + 1) xs))))) item
    ∙ ap (λ ys. cases_onto old (made_each manner s bound (arms_of (map arm ys)))) (sym (drop_more xs i x lt))

-- it is built, and so are the others
pub case_built : (s : Setting) (xs : List CodeArm) (i : ℕ) (x : CodeArm) (bound : List ℕ) → i < length xs → x ≡ get_or xs i x → AreCasesBuilt s bound (arms_of (map arm (drop i xs)))
    → IsBuiltCase s bound (arm x) × AreCasesBuilt s bound (arms_of (map arm (drop (i + 1) xs)))
case_built s xs i x bound lt item h =
    let all = subst (λ ys. AreCasesBuilt s bound (arms_of (map arm ys))) (drop_more xs i x lt) h in
    let k = subst (λ y. AreCasesBuilt s bound (arms_of (map arm (y ∷ drop (i + 1) xs)))) (sym item) all in
    ((k.0, k.1), k.2)

-- ---- several arms

-- each is built
pub cases_built : (s : Setting) (bound : List ℕ) (source : BindingId) (xs : List CodeArm) → AreBuilt s bound source (arms_of (map arm xs)) → (length xs ≡ 1 → ⊥) → AreCasesBuilt s bound (arms_of (map arm xs))
cases_built s bound source [] h several = absurd h
cases_built s bound source (x ∷ []) h several = absurd (several refl)
cases_built s bound source (x ∷ y ∷ xs) h several = (h.1, h.2, h.3)

-- and so is what their match reads
pub read_built : (s : Setting) (bound : List ℕ) (source : BindingId) (xs : List CodeArm) (x : CodeArm) → AreBuilt s bound source (arms_of (map arm xs)) → (length xs ≡ 1 → ⊥) → x ≡ get_or xs 0 x → HasRead s bound source (arm x).0
read_built s bound source [] x h several item = absurd h
read_built s bound source (y ∷ []) x h several item = absurd (several refl)
read_built s bound source (y ∷ z ∷ xs) x h several item = subst (λ w. HasRead s bound source (arm w).0) (sym item) h.0

-- the match of several arms is the statement of the arms
pub match_made : (manner : Manner) (s : Setting) (bound now : List ℕ) (source : BindingId) (xs : List CodeArm) (x : CodeArm) (seen : Constraint) (cases : List Case)
    → AreBuilt s bound source (arms_of (map arm xs)) → (length xs ≡ 1 → ⊥) → x ≡ get_or xs 0 x → (arm x).0 ≡ seen → now ≡ bound
    → cases_onto cases (Some NoArm) ≡ made_each manner s bound (arms_of (map arm xs))
    → match_of (match_read s now source seen) (cases_onto cases (Some NoArm)) ≡ made_arms manner s bound source (arms_of (map arm xs))
match_made manner s bound now source xs x seen cases h several item is at_now all =
    ap (λ ls. match_of (match_read s ls source seen) (cases_onto cases (Some NoArm))) at_now
    ∙ ap (λ c. match_of (match_read s bound source c) (cases_onto cases (Some NoArm))) (sym is)
    ∙ ap (match_of (match_read s bound source (arm x).0)) all
    ∙ of_arms xs h several item
  where
    of_arms : (ys : List CodeArm) → AreBuilt s bound source (arms_of (map arm ys)) → (length ys ≡ 1 → ⊥) → x ≡ get_or ys 0 x
        → match_of (match_read s bound source (arm x).0) (made_each manner s bound (arms_of (map arm ys))) ≡ made_arms manner s bound source (arms_of (map arm ys))
    of_arms [] h several item = absurd h
    of_arms (y ∷ []) h several item = absurd (several refl)
    of_arms (y ∷ z ∷ ys) h several item = ap (λ w. match_of (match_read s bound source (arm w).0) (made_each manner s bound (arms_of (map arm (y ∷ z ∷ ys))))) item
