-- Each variable of a rule's patterns has a path after them.
use Rattle.std.proofs.Common.{◌≡◌, ⊎_elim, ℕ, suc, List, [], ◌∷◌, ◌++◌, Bool, true, false, cond, eqb, Option, Some, None, T, refl, sym, subst}
use Rattle.std.proofs.Math.Dec.{eqb_refl}
use Rattle.std.specs.Prelude.{Contains}
use Rattle.std.specs.List.{AllByRecursion}
use Rattle.std.proofs.lemmas.List.Elements.{recursion_from_All, Contains-append_cases}
use Rattle.isle_core.specs.declared.types.Term.{Term as CodeTerm}
use Rattle.isle_core.specs.BuiltRule.{IsBuiltPattern, AreBuiltPatterns, IsBuiltIfLet, IsBuiltRule}
use Rattle.isle_core.specs.Opening.{Opening, opening, part_path}
use Rattle.isle_core.specs.Pattern.{Pattern, Patterns, NoPattern, APattern, Var, ConstBool, ConstInt, ConstPrim, Wildcard, Term, BindPattern, And}
use Rattle.isle_core.specs.Scope.{variables, variables_within, all_variables, iflets_scope}
use Rattle.isle_core.specs.Path.{Path, Arg}
use Rattle.isle_core.specs.Tests.{Places, no_places, met_after, after, after_parts, after_each, args_after, iflets_after, rule_places}
use Rattle.isle_core.proofs.Contained.{contained_cases, none_contained}
use Rattle.isle_core.proofs.AnsweredTerms.{IsPlaced}
use Rattle.isle_core.specs.RightSide.{path}
use Rattle.isle_core.specs.Rule.{Environment, IfLet, Rule}

with_keeps : (b : Bool) (p : Path) (o : Option Path) → IsPlaced o → IsPlaced (cond b (Some p) o)
with_keeps true p o h = tt
with_keeps false p o h = h

met_keeps : (o : Option Path) (x : ℕ) (p : Path) (places : Places) (y : ℕ) → IsPlaced (places y) → IsPlaced (met_after o x p places y)
met_keeps None x p places y h = with_keeps (eqb x y) p (places y) h
met_keeps (Some q) x p places y h = h

mutual
  after_keeps : (q : Pattern) (env : Environment) (p : Path) (places : Places) (y : ℕ) → IsPlaced (places y) → IsPlaced (after env q p places y)
  after_keeps (Var ty x) env p places y h = met_keeps (places x.0) x.0 p places y h
  after_keeps (Term ty term qs) env p places y h = parts_keep qs env (opening env term) 0 p places y h
  after_keeps (BindPattern ty x q) env p places y h = after_keeps q env p (met_after (places x.0) x.0 p places) y (met_keeps (places x.0) x.0 p places y h)
  after_keeps (And ty qs) env p places y h = each_keep qs env p places y h
  after_keeps q env p places y h = h

  each_keep : (qs : Patterns) (env : Environment) (p : Path) (places : Places) (y : ℕ) → IsPlaced (places y) → IsPlaced (after_each env qs p places y)
  each_keep NoPattern env p places y h = h
  each_keep (APattern q qs) env p places y h = each_keep qs env p (after env q p places) y (after_keeps q env p places y h)

  parts_keep : (qs : Patterns) (env : Environment) (opened : Opening) (i : ℕ) (p : Path) (places : Places) (y : ℕ) → IsPlaced (places y) → IsPlaced (after_parts env opened qs i p places y)
  parts_keep NoPattern env opened i p places y h = h
  parts_keep (APattern q qs) env opened i p places y h = parts_keep qs env opened (suc i) p (after env q (part_path opened i p) places) y (after_keeps q env (part_path opened i p) places y h)

args_keep : (env : Environment) (qs : List Pattern) (i : ℕ) (places : Places) (y : ℕ) → IsPlaced (places y) → IsPlaced (args_after env qs i places y)
args_keep env [] i places y h = h
args_keep env (q ∷ qs) i places y h = args_keep env qs (suc i) (after env q (Arg i) places) y (after_keeps q env (Arg i) places y h)

with_places : (b : Bool) (p : Path) (o : Option Path) → T b → IsPlaced (cond b (Some p) o)
with_places true p o t = tt
with_places false p o t = absurd t

met_places : (o : Option Path) (x : ℕ) (p : Path) (places : Places) → places x ≡ o → IsPlaced (met_after o x p places x)
met_places None x p places e = with_places (eqb x x) p (places x) (eqb_refl x)
met_places (Some q) x p places e = subst IsPlaced (sym e) tt

mutual
  pattern_places : (q : Pattern) (env : Environment) (terms : List CodeTerm) (p : Path) (places : Places) (x : ℕ) → IsBuiltPattern terms q → Contains (variables q) x → IsPlaced (after env q p places x)
  pattern_places (Var ty y) env terms p places x b c =
      ⊎_elim (λ e. subst (λ k. IsPlaced (after env (Var ty y) p places k)) e (met_places (places y.0) y.0 p places refl)) (λ d. absurd (none_contained x d)) (contained_cases y.0 [] x c)
  pattern_places (Term ty term qs) env terms p places x b c = parts_place qs env terms (opening env term) 0 p places x b.2 c
  pattern_places (ConstBool v) env terms p places x b c = absurd (none_contained x c)
  pattern_places (ConstInt ty n) env terms p places x b c = absurd (none_contained x c)
  pattern_places (ConstPrim ty name) env terms p places x b c = absurd (none_contained x c)
  pattern_places (Wildcard ty) env terms p places x b c = absurd (none_contained x c)
  pattern_places (BindPattern ty y q) env terms p places x b c =
      let mid = met_after (places y.0) y.0 p places in
      ⊎_elim (λ e. after_keeps q env p mid x (subst (λ k. IsPlaced (mid k)) e (met_places (places y.0) y.0 p places refl))) (λ d. pattern_places q env terms p mid x b d) (contained_cases y.0 (variables q) x c)
  pattern_places (And ty qs) env terms p places x b c = each_place qs env terms p places x b c

  each_place : (qs : Patterns) (env : Environment) (terms : List CodeTerm) (p : Path) (places : Places) (x : ℕ) → AreBuiltPatterns terms qs → Contains (variables_within qs) x → IsPlaced (after_each env qs p places x)
  each_place NoPattern env terms p places x b c = absurd (none_contained x c)
  each_place (APattern q qs) env terms p places x b c =
      ⊎_elim (λ d. each_keep qs env p (after env q p places) x (pattern_places q env terms p places x b.0 d))
      (λ d. each_place qs env terms p (after env q p places) x b.1 d) (Contains-append_cases (variables q) (variables_within qs) x c)

  parts_place : (qs : Patterns) (env : Environment) (terms : List CodeTerm) (opened : Opening) (i : ℕ) (p : Path) (places : Places) (x : ℕ) → AreBuiltPatterns terms qs → Contains (variables_within qs) x → IsPlaced (after_parts env opened qs i p places x)
  parts_place NoPattern env terms opened i p places x b c = absurd (none_contained x c)
  parts_place (APattern q qs) env terms opened i p places x b c =
      ⊎_elim (λ d. parts_keep qs env opened (suc i) p (after env q (part_path opened i p) places) x (pattern_places q env terms (part_path opened i p) places x b.0 d))
      (λ d. parts_place qs env terms opened (suc i) p (after env q (part_path opened i p) places) x b.1 d) (Contains-append_cases (variables q) (variables_within qs) x c)

-- a variable of the patterns has a path
pub args_placed : (env : Environment) (terms : List CodeTerm) (qs : List Pattern) (i : ℕ) (places : Places) (x : ℕ) → AllByRecursion (IsBuiltPattern terms) qs → Contains (all_variables qs) x → IsPlaced (args_after env qs i places x)
args_placed env terms [] i places x b c = absurd (none_contained x c)
args_placed env terms (q ∷ qs) i places x b c =
    ⊎_elim (λ d. args_keep env qs (suc i) (after env q (Arg i) places) x (pattern_places q env terms (Arg i) places x b.0 d))
    (λ d. args_placed env terms qs (suc i) (after env q (Arg i) places) x b.1 d) (Contains-append_cases (variables q) (all_variables qs) x c)

-- so has one of conditions' patterns
iflets_placed : (env : Environment) (terms : List CodeTerm) (cs : List IfLet) (scope : List ℕ) (places : Places) → AllByRecursion (IsBuiltIfLet terms) cs → ((x : ℕ) → Contains scope x → IsPlaced (places x)) → (x : ℕ) → Contains (iflets_scope scope cs) x → IsPlaced (iflets_after env cs places x)
iflets_placed env terms [] scope places b h x c = h x c
iflets_placed env terms (i ∷ is) scope places b h x c =
    let p = path env i.rhs places 0 in
    iflets_placed env terms is (scope ++ variables i.lhs) (after env i.lhs p places) b.1
    (λ y d. ⊎_elim (λ e. after_keeps i.lhs env p places y (h y e)) (λ e. pattern_places i.lhs env terms p places y b.0.lhs e) (Contains-append_cases scope (variables i.lhs) y d)) x c

-- a variable that a rule's right side may speak of has a path
pub rule_placed : (env : Environment) (terms : List CodeTerm) (r : Rule) → IsBuiltRule terms r → (x : ℕ) → Contains (iflets_scope (all_variables r.args) r.iflets) x → IsPlaced (rule_places env r x)
rule_placed env terms r b x c =
    iflets_placed env terms r.iflets (all_variables r.args) (args_after env r.args 0 no_places) (recursion_from_All (IsBuiltIfLet terms) r.iflets b.iflets)
    (λ y d. args_placed env terms r.args 0 no_places y (recursion_from_All (IsBuiltPattern terms) r.args b.args) d) x c
