-- What a built expression gives calls no term that answers several times, and stands somewhere if its variables do; so do the
-- values and the variables of conditions.
use Rattle.std.proofs.Common.{◌≡◌, ⊎_elim, ℕ, ◌+◌, List, [], ◌∷◌, ◌++◌, Bool, true, false, cond, eqb, Option, Some, None, refl, sym, ap, ◌∙◌, subst}
use Rattle.std.specs.Prelude.{Contains}
use Rattle.std.specs.List.{AllByRecursion}
use Rattle.std.proofs.lemmas.List.Elements.{All-from_recursion, recursion_from_All, Contains-append_cases}
use Rattle.isle_core.specs.declared.TermId.{TermId}
use Rattle.isle_core.specs.declared.types.Term.{Term}
use Rattle.isle_core.specs.declared.types.TermKind.TheVariants as kind
use Rattle.isle_core.specs.declared.types.ConstructorKind.TheVariants as constructor
use Rattle.isle_core.specs.BuiltRule.{IsBuiltPattern, IsBuiltIfLet, IsBuiltRule, HasBuiltTerms, BindingsHaveBuiltTerms}
use Rattle.isle_core.specs.Calling.{calling, answers_often, is_fallible, impure, impure_bindings}
use Rattle.isle_core.specs.Expr as expr
use Rattle.isle_core.specs.Expr.{Expr, LetBindings, NoBinding, ABinding}
use Rattle.isle_core.specs.Iterators.{calls_multi}
use Rattle.isle_core.specs.Making.{Making, MakesVariant, MakesStruct, MakesNothing, making}
use Rattle.isle_core.specs.Match.{with}
use Rattle.isle_core.specs.Path.{Path, Paths, Nowhere}
use Rattle.isle_core.specs.RightSide.{path_or, term_path, answer_path, path, paths, let_places}
use Rattle.isle_core.specs.Scope.{variables, all_variables, let_scope, iflets_scope, IsInScope, AreLetsInScope, AreIfLetsInScope}
use Rattle.isle_core.specs.Tests.{Places, no_places, after, args_after, iflets_after, rule_places}
use Rattle.isle_core.specs.Rule.{Environment, IfLet, Rule}
use Rattle.isle_core.proofs.AnsweredTerms.{IsPlaced}
use Rattle.isle_core.proofs.Contained.{contained_cases, none_contained}
use Rattle.isle_core.proofs.PlacedVariables.{rule_placed}
use Rattle.isle_core.proofs.OptionLaws.{some_same}
use Rattle.isle_rulesets.specs.Conditions.{with_iflets}
use Rattle.isle_rulesets.proofs.ConditionCalls.{terms_built}
use Rattle.isle_rulesets.proofs.LetLaws.{itself}
use Rattle.isle_rulesets.proofs.VariablePlaces.{IsLone, AreLone, met_lone, after_lone, place_lone}

-- ---- values that call no such term

-- no variable is one
pub variable_plain : (env : Environment) (o : Option Path) → ((p : Path) → o ≡ Some p → calls_multi env p ≡ false) → calls_multi env (path_or o) ≡ false
variable_plain env None h = refl
variable_plain env (Some p) h = h p refl

-- no variable stands at one
abbrev pub ArePlain : Environment → Places → Type 0
ArePlain env places = (x : ℕ) (p : Path) → places x ≡ Some p → calls_multi env p ≡ false

some_plain : (env : Environment) (b : Bool) (q : Path) (o : Option Path) (p : Path) → calls_multi env q ≡ false → (o ≡ Some p → calls_multi env p ≡ false) → cond b (Some q) o ≡ Some p → calls_multi env p ≡ false
some_plain env true q o p h k e = subst (λ r. calls_multi env r ≡ false) (some_same q p e) h
some_plain env false q o p h k e = k e

pub with_plain : (env : Environment) (places : Places) (x : ℕ) (q : Path) → ArePlain env places → calls_multi env q ≡ false → ArePlain env (with places x q)
with_plain env places x q w h y p e = some_plain env (eqb x y) q (places y) p h (w y p) e

-- the value of a term is none
answer_none : (env : Environment) (mk : Making) (term : TermId) (ps : Paths) (n : ℕ) (often fallible : Bool) → answers_often (calling env term) ≡ often → is_fallible (calling env term) ≡ fallible → calls_multi env (answer_path (calling env term) (term_path mk term ps n)) ≡ false
answer_none env mk term ps n true fallible o e = rw o refl
answer_none env mk term ps n false true o e = rw (o, e) refl
answer_none env (MakesVariant ty variant) term ps n false false o e = rw (o, e) refl
answer_none env (MakesStruct ty) term ps n false false o e = rw (o, e) refl
answer_none env MakesNothing term ps n false false o e = rw (o, e) o

-- nor is that of an expression
mutual
  pub value_none : (e : Expr) (env : Environment) (terms : List Term) (places : Places) (n : ℕ) → env.terms ≡ terms → ArePlain env places → HasBuiltTerms terms e → calls_multi env (path env e places n) ≡ false
  value_none (expr.Var ty x) env terms places n same w i = variable_plain env (places x.0) (w x.0)
  value_none (expr.ConstBool v) env terms places n same w i = refl
  value_none (expr.ConstInt ty v) env terms places n same w i = refl
  value_none (expr.ConstPrim ty name) env terms places n same w i = refl
  value_none (expr.Term ty term es) env terms places n same w i = answer_none env (making env term) term (paths env es places n) _ (answers_often (calling env term)) (is_fallible (calling env term)) refl refl
  value_none (expr.Let ty bs inner) env terms places n same w i = value_none inner env terms (let_places env bs places n) (n + impure_bindings env bs) same (lets_plain bs env terms places n same w i.0) i.1

  pub lets_plain : (bs : LetBindings) (env : Environment) (terms : List Term) (places : Places) (n : ℕ) → env.terms ≡ terms → ArePlain env places → BindingsHaveBuiltTerms terms bs → ArePlain env (let_places env bs places n)
  lets_plain NoBinding env terms places n same w i = w
  lets_plain (ABinding x ty e bs) env terms places n same w i =
      lets_plain bs env terms (with places x.0 (path env e places n)) (n + impure env e) same (with_plain env places x.0 (path env e places n) w (value_none e env terms places n same w i.0)) i.1

-- ---- values that stand somewhere

-- each variable in scope has a path
abbrev pub ArePlaced : List ℕ → Places → Type 0
ArePlaced scope places = (x : ℕ) → Contains scope x → IsPlaced (places x)

with_keeps : (b : Bool) (p : Path) (o : Option Path) → IsPlaced o → IsPlaced (cond b (Some p) o)
with_keeps true p o h = tt
with_keeps false p o h = h

with_here : (b : Bool) (p : Path) (o : Option Path) → b ≡ true → IsPlaced (cond b (Some p) o)
with_here true p o e = tt
with_here false p o e = cc

with_placed : (scope : List ℕ) (places : Places) (x : ℕ) (p : Path) → ArePlaced scope places → ArePlaced (scope ++ x ∷ []) (with places x p)
with_placed scope places x p h y c =
    ⊎_elim (λ d. with_keeps (eqb x y) p (places y) (h y d))
    (λ d. ⊎_elim (λ e. with_here (eqb x y) p (places y) (ap (eqb x) (sym e) ∙ itself x)) (λ n. absurd (none_contained y n)) (contained_cases x [] y d)) (Contains-append_cases scope (x ∷ []) y c)

variable_lone : (env : Environment) (o : Option Path) → IsPlaced o → ((p : Path) → o ≡ Some p → IsLone env p) → IsLone env (path_or o)
variable_lone env None h w = absurd h
variable_lone env (Some p) h w = w p refl

-- what a term makes, and its call, stand somewhere
pub term_somewhere : (mk : Making) (term : TermId) (ps : Paths) (n : ℕ) → term_path mk term ps n ≡ Nowhere → ⊥
term_somewhere (MakesVariant ty variant) term ps n e = cc
term_somewhere (MakesStruct ty) term ps n e = cc
term_somewhere MakesNothing term ps n e = cc

answer_somewhere : (env : Environment) (mk : Making) (term : TermId) (ps : Paths) (n : ℕ) (often fallible : Bool) → answers_often (calling env term) ≡ often → is_fallible (calling env term) ≡ fallible → answer_path (calling env term) (term_path mk term ps n) ≡ Nowhere → ⊥
answer_somewhere env mk term ps n true fallible o e = rw o (λ f. cc)
answer_somewhere env mk term ps n false true o e = rw (o, e) (λ f. cc)
answer_somewhere env mk term ps n false false o e = rw (o, e) (term_somewhere mk term ps n)

mutual
  pub value_lone : (e : Expr) (env : Environment) (terms : List Term) (scope : List ℕ) (places : Places) (n : ℕ) → env.terms ≡ terms → AreLone env places → ArePlaced scope places → IsInScope scope e → HasBuiltTerms terms e → IsLone env (path env e places n)
  value_lone (expr.Var ty x) env terms scope places n same w a s i = variable_lone env (places x.0) (a x.0 s) (w x.0)
  value_lone (expr.ConstBool v) env terms scope places n same w a s i = (λ f. cc, refl)
  value_lone (expr.ConstInt ty v) env terms scope places n same w a s i = (λ f. cc, refl)
  value_lone (expr.ConstPrim ty name) env terms scope places n same w a s i = (λ f. cc, refl)
  value_lone (expr.Term ty term es) env terms scope places n same w a s i =
      (answer_somewhere env (making env term) term (paths env es places n) _ (answers_often (calling env term)) (is_fallible (calling env term)) refl refl, answer_none env (making env term) term (paths env es places n) _ (answers_often (calling env term)) (is_fallible (calling env term)) refl refl)
  value_lone (expr.Let ty bs inner) env terms scope places n same w a s i =
      let inside = lets_lone bs env terms scope places n same w a s.0 i.0 in
      value_lone inner env terms (let_scope scope bs) (let_places env bs places n) (n + impure_bindings env bs) same inside.0 inside.1 s.1 i.1

  lets_lone : (bs : LetBindings) (env : Environment) (terms : List Term) (scope : List ℕ) (places : Places) (n : ℕ) → env.terms ≡ terms → AreLone env places → ArePlaced scope places → AreLetsInScope scope bs → BindingsHaveBuiltTerms terms bs
      → AreLone env (let_places env bs places n) × ArePlaced (let_scope scope bs) (let_places env bs places n)
  lets_lone NoBinding env terms scope places n same w a s i = (w, a)
  lets_lone (ABinding x ty e bs) env terms scope places n same w a s i =
      let p = path env e places n in
      let one = value_lone e env terms scope places n same w a s.0 i.0 in
      lets_lone bs env terms (scope ++ x.0 ∷ []) (with places x.0 p) (n + impure env e) same (met_lone env None x.0 p places one w) (with_placed scope places x.0 p a) s.1 i.1

-- ---- conditions in order

-- one condition more
pub after_push : (env : Environment) (cs : List IfLet) (c : IfLet) (places : Places) → iflets_after env (cs ++ c ∷ []) places ≡ after env c.lhs (path env c.rhs (iflets_after env cs places) 0) (iflets_after env cs places)
after_push env [] c places = refl
after_push env (d ∷ cs) c places = after_push env cs c (after env d.lhs (path env d.rhs places 0) places)

pub scope_push : (scope : List ℕ) (cs : List IfLet) (c : IfLet) → iflets_scope scope (cs ++ c ∷ []) ≡ iflets_scope scope cs ++ variables c.lhs
scope_push scope [] c = refl
scope_push scope (d ∷ cs) c = scope_push (scope ++ variables d.lhs) cs c

pub all_both : {A : Type 0} (P : A → Type 0) (xs ys : List A) → AllByRecursion P xs → AllByRecursion P ys → AllByRecursion P (xs ++ ys)
all_both P [] ys h k = k
all_both P (x ∷ xs) ys h k = (h.0, all_both P xs ys h.1 k)

-- the value of each condition stands somewhere, and calls no such term
abbrev pub AreReached : Environment → List IfLet → Places → Type 0
AreReached env [] places = Unit {0}
AreReached env (c ∷ cs) places = IsLone env (path env c.rhs places 0) × AreReached env cs (after env c.lhs (path env c.rhs places 0) places)

-- so are the variables of conditions
iflets_lone : (env : Environment) (cs : List IfLet) (places : Places) → AllByRecursion (IsBuiltIfLet env.terms) cs → AreReached env cs places → AreLone env places → AreLone env (iflets_after env cs places)
iflets_lone env [] places b r w = w
iflets_lone env (c ∷ cs) places b r w = iflets_lone env cs (after env c.lhs (path env c.rhs places 0) places) b.1 r.1 (after_lone c.lhs env (path env c.rhs places 0) places b.0.lhs r.0 w)

-- the rule with other built conditions
pub built_with : (terms : List Term) (r : Rule) (cs : List IfLet) → IsBuiltRule terms r → AllByRecursion (IsBuiltIfLet terms) cs → IsBuiltRule terms (with_iflets r cs)
built_with terms r cs b h = record { args = b.args; iflets = All-from_recursion (IsBuiltIfLet terms) cs h; rhs = b.rhs }

reached_from : (env : Environment) (r : Rule) (done left : List IfLet) → IsBuiltRule env.terms r → AllByRecursion (IsBuiltIfLet env.terms) done → AllByRecursion (IsBuiltIfLet env.terms) left → AreIfLetsInScope (iflets_scope (all_variables r.args) done) left
    → AreLone env (rule_places env (with_iflets r done)) → AreReached env left (rule_places env (with_iflets r done))
reached_from env r done [] b bd bl s w = tt
reached_from env r done (c ∷ left) b bd bl s w =
    let places = rule_places env (with_iflets r done) in
    let p = path env c.rhs places 0 in
    let scope = iflets_scope (all_variables r.args) done in
    let here = value_lone c.rhs env env.terms scope places 0 refl w (rule_placed env env.terms (with_iflets r done) (built_with env.terms r done b bd)) s.0 (terms_built c.rhs env.terms bl.0.calls) in
    let more : rule_places env (with_iflets r (done ++ c ∷ [])) ≡ after env c.lhs p places = after_push env done c (args_after env r.args 0 no_places) in (
      here,
      subst (AreReached env left) more
          (reached_from env r (done ++ c ∷ []) left b (all_both (IsBuiltIfLet env.terms) done (c ∷ []) bd (bl.0, tt)) bl.1 (subst (λ sc. AreIfLetsInScope sc left) (sym (scope_push (all_variables r.args) done c)) s.1)
          (subst (AreLone env) (sym more) (after_lone c.lhs env p places bl.0.lhs here w))),
    )

-- the values of a rule's conditions
pub rule_reached : (env : Environment) (r : Rule) → IsBuiltRule env.terms r → AreIfLetsInScope (all_variables r.args) r.iflets → AreReached env r.iflets (args_after env r.args 0 no_places)
rule_reached env r b s = reached_from env r [] r.iflets b tt (recursion_from_All (IsBuiltIfLet env.terms) r.iflets b.iflets) s (place_lone env r.args (recursion_from_All (IsBuiltPattern env.terms) r.args b.args))

-- the variables that a rule's right side may speak of
pub rule_lone : (env : Environment) (r : Rule) → IsBuiltRule env.terms r → AreIfLetsInScope (all_variables r.args) r.iflets → AreLone env (rule_places env r)
rule_lone env r b s =
    iflets_lone env r.iflets (args_after env r.args 0 no_places) (recursion_from_All (IsBuiltIfLet env.terms) r.iflets b.iflets) (rule_reached env r b s) (place_lone env r.args (recursion_from_All (IsBuiltPattern env.terms) r.args b.args))
