-- What holds of all that the parts of rules make holds of each path of the rules.
use Rattle.std.proofs.Common.{◌≡◌, ℕ, suc, ◌+◌, List, [], ◌∷◌, ◌++◌, false, cond, eqb, Option, Some, None, sym, subst}
use Rattle.std.specs.Prelude.{Contains}
use Rattle.std.specs.List.{AllByRecursion}
use Rattle.std.proofs.lemmas.List.Elements.{Contains-append_left, Contains-append_right}
use Rattle.isle_core.specs.declared.TermId.{TermId}
use Rattle.isle_core.specs.Calling.{impure}
use Rattle.isle_core.specs.CalledTerms.{CalledTerm, Extractor, is_made, unless_made, called_by, extracted_by, extracted_by_all, extracted_in, called_in_iflets, called_in, called}
use Rattle.isle_core.specs.OccurringConstants.{TypedConstant, expr_constants, pattern_constants, args_constants, iflets_constants, rule_constants, rules_constants}
use Rattle.isle_core.specs.Opening.{opening, part_path}
use Rattle.isle_core.specs.Path.{Path, Arg}
use Rattle.isle_core.specs.Pattern.{Pattern, Patterns, NoPattern, APattern, Var, ConstBool, ConstInt, ConstPrim, Wildcard, Term, BindPattern, And}
use Rattle.isle_core.specs.RightSide.{path}
use Rattle.isle_core.specs.Rule.{Environment, IfLet, Rule}
use Rattle.isle_core.specs.RulePaths.{opening_paths, pattern_paths, parts_paths, each_paths, args_paths, iflets_paths, expr_paths, rule_paths, rules_paths}
use Rattle.isle_core.specs.Tests.{Places, no_places, met_after, after, after_parts, after_each, args_after, iflets_after, rule_places}
use Rattle.isle_core.proofs.Contained.{head_contained}
use Rattle.isle_core.proofs.ExprPaths.{ArePlacedSo, HoldsOfParts, all_append, picked, path_so, expr_each}

-- a term that is called as an extractor
abbrev pub extracted : TermId → CalledTerm
extracted term = record { term = term; role = Extractor }

-- so of arguments, of what expressions' parts make, and of what a term's pattern calls and gives, if these are the called terms
pub record HoldsOfEach (P : Path → Type 0) (env : Environment) (terms : List CalledTerm) (constants : List TypedConstant) : Type 0 where
  pub arg : (i : ℕ) → P (Arg i)
  pub exprs : HoldsOfParts P env terms constants
  pub opened : (term : TermId) (p : Path) → (is_made env term ≡ false → Contains terms (extracted term)) → AllByRecursion P (opening_paths (opening env term) p)
  pub part : (term : TermId) (i : ℕ) (p : Path) → (is_made env term ≡ false → Contains terms (extracted term)) → P (part_path (opening env term) i p)

module _ (P : Path → Type 0) (env : Environment) (terms : List CalledTerm) (constants : List TypedConstant) (h : HoldsOfEach P env terms constants) where
  -- these are among the called terms
  abbrev AreCalled : List CalledTerm → Type 0
  AreCalled those = (o : CalledTerm) → Contains those o → Contains terms o

  -- these are among the constants
  abbrev AreGiven : List TypedConstant → Type 0
  AreGiven those = (c : TypedConstant) → Contains those c → Contains constants c

  called_left : (xs ys : List CalledTerm) → AreCalled (xs ++ ys) → AreCalled xs
  called_left xs ys a o c = a o (Contains-append_left xs ys o c)

  called_right : (xs ys : List CalledTerm) → AreCalled (xs ++ ys) → AreCalled ys
  called_right xs ys a o c = a o (Contains-append_right xs ys o c)

  given_left : (xs ys : List TypedConstant) → AreGiven (xs ++ ys) → AreGiven xs
  given_left xs ys a o c = a o (Contains-append_left xs ys o c)

  given_right : (xs ys : List TypedConstant) → AreGiven (xs ++ ys) → AreGiven ys
  given_right xs ys a o c = a o (Contains-append_right xs ys o c)

  -- an extractor that a pattern calls
  taken : (term : TermId) → AreCalled (unless_made env Extractor term) → is_made env term ≡ false → Contains terms (extracted term)
  taken term a e = a (extracted term) (subst (λ b. Contains (cond b [] (extracted term ∷ [])) (extracted term)) (sym e) (head_contained (extracted term) []))

  -- ---- patterns

  mutual
    pattern_each : (q : Pattern) (p : Path) → AreCalled (extracted_by env q) → AllByRecursion P (pattern_paths env q p)
    pattern_each (Term ty term qs) p a =
        let own = unless_made env Extractor term in
        let rest = extracted_by_all env qs in
        all_append P (opening_paths (opening env term) p) (parts_paths env (opening env term) qs 0 p) (h.opened term p (taken term (called_left own rest a))) (parts_each qs term 0 p (taken term (called_left own rest a)) (called_right own rest a))
    pattern_each (Var ty x) p a = tt
    pattern_each (ConstBool b) p a = tt
    pattern_each (ConstInt ty n) p a = tt
    pattern_each (ConstPrim ty name) p a = tt
    pattern_each (Wildcard ty) p a = tt
    pattern_each (BindPattern ty x q) p a = pattern_each q p a
    pattern_each (And ty qs) p a = all_each qs p a

    parts_each : (qs : Patterns) (term : TermId) (i : ℕ) (p : Path) → (is_made env term ≡ false → Contains terms (extracted term)) → AreCalled (extracted_by_all env qs) → AllByRecursion P (parts_paths env (opening env term) qs i p)
    parts_each NoPattern term i p t a = tt
    parts_each (APattern q qs) term i p t a =
        let r = part_path (opening env term) i p in (
          h.part term i p t,
          all_append P (pattern_paths env q r) (parts_paths env (opening env term) qs (suc i) p) (pattern_each q r (called_left (extracted_by env q) (extracted_by_all env qs) a)) (parts_each qs term (suc i) p t (called_right (extracted_by env q) (extracted_by_all env qs) a)),
        )

    all_each : (qs : Patterns) (p : Path) → AreCalled (extracted_by_all env qs) → AllByRecursion P (each_paths env qs p)
    all_each NoPattern p a = tt
    all_each (APattern q qs) p a =
        all_append P (pattern_paths env q p) (each_paths env qs p) (pattern_each q p (called_left (extracted_by env q) (extracted_by_all env qs) a)) (all_each qs p (called_right (extracted_by env q) (extracted_by_all env qs) a))

  args_each : (qs : List Pattern) (i : ℕ) → AreCalled (extracted_in env qs) → AllByRecursion P (args_paths env qs i)
  args_each [] i a = tt
  args_each (q ∷ qs) i a = (
    h.arg i,
    all_append P (pattern_paths env q (Arg i)) (args_paths env qs (suc i)) (pattern_each q (Arg i) (called_left (extracted_by env q) (extracted_in env qs) a)) (args_each qs (suc i) (called_right (extracted_by env q) (extracted_in env qs) a)),
  )

  -- ---- where variables stand

  met_so : (o : Option Path) (x : ℕ) (p : Path) (places : Places) → P p → ArePlacedSo P places → ArePlacedSo P (met_after o x p places)
  met_so None x p places k s = record { by = λ y. picked P (eqb x y) p (places y) k (s.by y) }
  met_so (Some q) x p places k s = s

  mutual
    after_so : (q : Pattern) (p : Path) (places : Places) → P p → AreCalled (extracted_by env q) → ArePlacedSo P places → ArePlacedSo P (after env q p places)
    after_so (Var ty x) p places k a s = met_so (places x.0) x.0 p places k s
    after_so (Term ty term qs) p places k a s =
        let own = unless_made env Extractor term in
        let rest = extracted_by_all env qs in
        parts_so qs term 0 p places (taken term (called_left own rest a)) (called_right own rest a) s
    after_so (BindPattern ty x q) p places k a s = after_so q p (met_after (places x.0) x.0 p places) k a (met_so (places x.0) x.0 p places k s)
    after_so (And ty qs) p places k a s = each_so qs p places k a s
    after_so q p places k a s = s

    parts_so : (qs : Patterns) (term : TermId) (i : ℕ) (p : Path) (places : Places) → (is_made env term ≡ false → Contains terms (extracted term)) → AreCalled (extracted_by_all env qs) → ArePlacedSo P places → ArePlacedSo P (after_parts env (opening env term) qs i p places)
    parts_so NoPattern term i p places t a s = s
    parts_so (APattern q qs) term i p places t a s =
        let r = part_path (opening env term) i p in
        parts_so qs term (suc i) p (after env q r places) t (called_right (extracted_by env q) (extracted_by_all env qs) a) (after_so q r places (h.part term i p t) (called_left (extracted_by env q) (extracted_by_all env qs) a) s)

    each_so : (qs : Patterns) (p : Path) (places : Places) → P p → AreCalled (extracted_by_all env qs) → ArePlacedSo P places → ArePlacedSo P (after_each env qs p places)
    each_so NoPattern p places k a s = s
    each_so (APattern q qs) p places k a s = each_so qs p (after env q p places) k (called_right (extracted_by env q) (extracted_by_all env qs) a) (after_so q p places k (called_left (extracted_by env q) (extracted_by_all env qs) a) s)

  args_so : (qs : List Pattern) (i : ℕ) (places : Places) → AreCalled (extracted_in env qs) → ArePlacedSo P places → ArePlacedSo P (args_after env qs i places)
  args_so [] i places a s = s
  args_so (q ∷ qs) i places a s =
      args_so qs (suc i) (after env q (Arg i) places) (called_right (extracted_by env q) (extracted_in env qs) a) (after_so q (Arg i) places (h.arg i) (called_left (extracted_by env q) (extracted_in env qs) a) s)

  -- ---- conditions

  -- the paths of conditions, and where the variables stand after them
  iflets_each : (cs : List IfLet) (places : Places) → AreCalled (called_in_iflets env cs) → AreGiven (iflets_constants cs) → ArePlacedSo P places → AllByRecursion P (iflets_paths env cs places) × ArePlacedSo P (iflets_after env cs places)
  iflets_each [] places a g s = (tt, s)
  iflets_each (c ∷ cs) places a g s =
      let own = called_by env c.rhs ++ extracted_by env c.lhs in
      let named = expr_constants c.rhs ++ pattern_constants c.lhs in
      let p = path env c.rhs places 0 in
      let first = called_left own (called_in_iflets env cs) a in
      let values = expr_each P env terms constants h.exprs c.rhs places 0 s (called_left (called_by env c.rhs) (extracted_by env c.lhs) first) (given_left (expr_constants c.rhs) (pattern_constants c.lhs) (given_left named (iflets_constants cs) g)) in
      let at = path_so P env c.rhs places 0 values in
      let opened = called_right (called_by env c.rhs) (extracted_by env c.lhs) first in
      let rest = iflets_each cs (after env c.lhs p places) (called_right own (called_in_iflets env cs) a) (given_right named (iflets_constants cs) g) (after_so c.lhs p places at opened s) in
      (all_append P (expr_paths env c.rhs places 0 ++ pattern_paths env c.lhs p) (iflets_paths env cs (after env c.lhs p places)) (all_append P (expr_paths env c.rhs places 0) (pattern_paths env c.lhs p) values (pattern_each c.lhs p opened)) rest.0, rest.1)

  -- ---- rules

  rule_each : (r : Rule) (n : ℕ) → AreCalled (called_in env r) → AreGiven (rule_constants r) → AllByRecursion P (rule_paths env r n)
  rule_each r n a g =
      let before = extracted_in env r.args ++ called_in_iflets env r.iflets in
      let named = args_constants r.args ++ iflets_constants r.iflets in
      let first = called_left before (called_by env r.rhs) a in
      let bound = args_after env r.args 0 no_places in
      let conditions = iflets_each r.iflets bound (called_right (extracted_in env r.args) (called_in_iflets env r.iflets) first) (given_right (args_constants r.args) (iflets_constants r.iflets) (given_left named (expr_constants r.rhs) g))
      (args_so r.args 0 no_places (called_left (extracted_in env r.args) (called_in_iflets env r.iflets) first) (record { by = λ x. tt })) in
      all_append P (args_paths env r.args 0) (iflets_paths env r.iflets bound ++ expr_paths env r.rhs (rule_places env r) n) (args_each r.args 0 (called_left (extracted_in env r.args) (called_in_iflets env r.iflets) first))
      (all_append P (iflets_paths env r.iflets bound) (expr_paths env r.rhs (rule_places env r) n) conditions.0
      (expr_each P env terms constants h.exprs r.rhs (rule_places env r) n conditions.1 (called_right before (called_by env r.rhs) a) (given_right named (expr_constants r.rhs) g)))

  -- each path of rules that call these terms and have these constants
  pub rules_each : (rules : List Rule) (n : ℕ) → AreCalled (called env rules) → AreGiven (rules_constants rules) → AllByRecursion P (rules_paths env rules n)
  rules_each [] n a g = tt
  rules_each (r ∷ rules) n a g =
      all_append P (rule_paths env r n) (rules_paths env rules (n + impure env r.rhs)) (rule_each r n (called_left (called_in env r) (called env rules) a) (given_left (rule_constants r) (rules_constants rules) g))
      (rules_each rules (n + impure env r.rhs) (called_right (called_in env r) (called env rules) a) (given_right (rule_constants r) (rules_constants rules) g))
