-- The rule of a term of typed definitions, as their environment has it.
use Rattle.std.proofs.Common.{◌≡◌, ℕ, suc, ◌+◌, Bool, true, false, cond, List, [], ◌∷◌, Option, Some, None, refl, sym, ap, ◌∙◌, subst, rules, ⊎_elim, arith}
use Rattle.std.specs.Prelude.{◌==◌, Contains, filter, option_map, slice_get}
use Rattle.std.specs.List.{AllByRecursion, IsDistinct}
use Rattle.std.specs.Str.{bytes_eq}
use Rattle.std.proofs.lemmas.Bool.{eqb-true}
use Rattle.std.proofs.lemmas.Slice.Eq.{bytes_eq-Decides}
use Rattle.isle_base.specs.declared.ids.TermId.{TermId}
use Rattle.isle_core.specs.Rule.{Rule, Environment}
use Rattle.isle_core.proofs.Contained.{head_contained, tail_contained, contained_cases, none_contained}
use Rattle.isle_core.proofs.ListLaws.{not_both}
use Rattle.isle_core.proofs.OptionLaws.{some_same}
use Rattle.isle_ast.specs.Tree.{Def}
use Rattle.isle_declarations.specs.Heads.{heads_of}
use Rattle.isle_declarations.specs.Signatures.{RuleDef, rule_defs, term_named}
use Rattle.isle_declarations.specs.Symbols.{index_of}
use Rattle.isle_declarations.specs.Terms.{terms}
use Rattle.isle_sema.specs.RulePass.{rule_pass, rules_pass}
use Rattle.isle_sema.proofs.RuleRoots.{rule_made, place_of}
use Rattle.isle_sema.proofs.TypedParts.{IsGivenIn}
use Rattle.isle_terms.specs.Whole.{Whole, whole_of}
use Rattle.isle_terms.proofs.MadeTerms.{first_there}

eqb_self : (x : ℕ) → x == x ≡ true
eqb_self x = search rules

-- ---- the only rule of a term

-- where a name stands
index_stands : (names : List (List ℕ)) (name : List ℕ) (n : ℕ) → index_of names name ≡ Some n → slice_get names n ≡ Some name
index_stands [] name n h = absurd cc
index_stands (x ∷ names) name n h = by (λ m e. index_stands names name m e) (bytes_eq x name) refl h
  where
    later : ((m : ℕ) → index_of names name ≡ Some m → slice_get names m ≡ Some name) → (o : Option ℕ) → index_of names name ≡ o
        → option_map (λ (k : ℕ). k + 1) o ≡ Some n → slice_get (x ∷ names) n ≡ Some name
    later go None is e = absurd cc
    later go (Some m) is e = let same : suc m ≡ n = (let one : m + 1 ≡ n = some_same (m + 1) n e in omega (arith, one)) in ap (slice_get (x ∷ names)) (sym same) ∙ go m is

    by : ((m : ℕ) → index_of names name ≡ Some m → slice_get names m ≡ Some name) → (b : Bool) → bytes_eq x name ≡ b
        → cond b (Some 0) (option_map (λ (k : ℕ). k + 1) (index_of names name)) ≡ Some n → slice_get (x ∷ names) n ≡ Some name
    by go true same e = ap (slice_get (x ∷ names)) (sym (some_same 0 n e)) ∙ ap Some ((bytes_eq-Decides x name).0 same)
    by go false other e = later go (index_of names name) refl e

-- two names of one number are one
pub number_once : (w : Whole) (a b : List ℕ) (term : TermId) → term_named (terms w.defs) a ≡ Some term → term_named (terms w.defs) b ≡ Some term → a ≡ b
number_once w a b term h k = let x = index_stands _ a term.0 (place_of (terms w.defs) a term h) in let y = index_stands _ b term.0 (place_of (terms w.defs) b term k) in some_same a b (sym x ∙ y)

-- no rule is of this term
none_of_term : (w : Whole) (i : ℕ) (name : List ℕ) (term : TermId) (rs : List RuleDef) (xs : List Rule) → term_named (terms w.defs) name ≡ Some term
    → rules_pass w i rs ≡ Some xs → AllByRecursion (λ (n : List ℕ). bytes_eq name n ≡ false) (heads_of rs)
    → filter (λ (x : Rule). x.root_term.0 == term.0) xs ≡ []
none_of_term w i name term [] xs number h apart = ap (filter (λ (x : Rule). x.root_term.0 == term.0)) (sym (some_same [] xs h))
none_of_term w i name term (r ∷ rs) xs number h apart =
    let f = first_there (rule_pass w i r) (rules_pass w (i + 1) rs) xs h in
    let m = rule_made w i r f.first f.here in
    ap (filter (λ (x : Rule). x.root_term.0 == term.0)) f.all
    ∙ by f.first f.others m.root (f.first.root_term.0 == term.0) refl (none_of_term w (i + 1) name term rs f.others number f.found apart.1)
  where
    by : (x : Rule) (others : List Rule) → term_named (terms w.defs) r.term ≡ Some x.root_term → (b : Bool) → x.root_term.0 == term.0 ≡ b
        → filter (λ (y : Rule). y.root_term.0 == term.0) others ≡ []
        → cond (x.root_term.0 == term.0) (x ∷ filter (λ (y : Rule). y.root_term.0 == term.0) others)
        (filter (λ (y : Rule). y.root_term.0 == term.0) others) ≡ []
    by x others root true same rest =
        let one : x.root_term ≡ term = ap (λ (n : ℕ). let t : TermId = record { 0 = n } in t) (eqb-true x.root_term.0 term.0 same) in
        let names = number_once w name r.term term number (root ∙ ap Some one) in
        let bad : true ≡ false = sym ((bytes_eq-Decides name r.term).1 names) ∙ apart.0 in
        absurd cc
    by x others root false other rest = ap (λ b. cond b (x ∷ filter (λ (y : Rule). y.root_term.0 == term.0) others) (filter (λ (y : Rule). y.root_term.0 == term.0) others)) other ∙ rest

-- what the rule definition gives, which is the only rule of its term
pub record IsOnlyRule (w : Whole) (r : RuleDef) (term : TermId) (xs : List Rule) : Type 0 where
  pub rule : Rule
  pub number : ℕ
  pub given : rule_pass w number r ≡ Some rule
  pub among : Contains xs rule
  pub alone : filter (λ (x : Rule). x.root_term.0 == term.0) xs ≡ rule ∷ []

heads_differ : (name : List ℕ) (rs : List RuleDef) (r : RuleDef) → AllByRecursion (λ (n : List ℕ). bytes_eq name n ≡ false) (heads_of rs)
    → Contains rs r → bytes_eq name r.term ≡ false
heads_differ name [] r h c = absurd (none_contained r c)
heads_differ name (y ∷ rs) r h c = ⊎_elim (λ (same : y ≡ r). subst (λ (z : RuleDef). bytes_eq name z.term ≡ false) same h.0) (λ there. heads_differ name rs r h.1 there) (contained_cases y rs r c)

same_root : (x : Rule) (term : TermId) (others : List Rule) → x.root_term ≡ term
    → filter (λ (y : Rule). y.root_term.0 == term.0) (x ∷ others) ≡ x ∷ filter (λ (y : Rule). y.root_term.0 == term.0) others
same_root x term others h = ap (λ b. cond b (x ∷ filter (λ (y : Rule). y.root_term.0 == term.0) others) (filter (λ (y : Rule). y.root_term.0 == term.0) others)) (ap (λ (t : TermId). t.0 == term.0) h ∙ eqb_self term.0)

other_root : (x : Rule) (term : TermId) (others : List Rule) → (x.root_term ≡ term → ⊥)
    → filter (λ (y : Rule). y.root_term.0 == term.0) (x ∷ others) ≡ filter (λ (y : Rule). y.root_term.0 == term.0) others
other_root x term others h = by (x.root_term.0 == term.0) refl
  where
    by : (b : Bool) → x.root_term.0 == term.0 ≡ b
        → cond (x.root_term.0 == term.0) (x ∷ filter (λ (y : Rule). y.root_term.0 == term.0) others)
        (filter (λ (y : Rule). y.root_term.0 == term.0) others) ≡ filter (λ (y : Rule). y.root_term.0 == term.0) others
    by true same = absurd (h (ap (λ (n : ℕ). let t : TermId = record { 0 = n } in t) (eqb-true x.root_term.0 term.0 same)))
    by false other = ap (λ b. cond b (x ∷ filter (λ (y : Rule). y.root_term.0 == term.0) others) (filter (λ (y : Rule). y.root_term.0 == term.0) others)) other

only_rule : (w : Whole) (i : ℕ) (term : TermId) (r : RuleDef) (rs : List RuleDef) (xs : List Rule) → IsDistinct bytes_eq (heads_of rs)
    → term_named (terms w.defs) r.term ≡ Some term → rules_pass w i rs ≡ Some xs → Contains rs r → IsOnlyRule w r term xs
unfolding IsDistinct
only_rule w i term r [] xs apart number h c = absurd (none_contained r c)
only_rule w i term r (y ∷ rs) xs apart number h c =
    let f = first_there (rule_pass w i y) (rules_pass w (i + 1) rs) xs h in
    let m = rule_made w i y f.first f.here in
    ⊎_elim
    (λ (same : y ≡ r).
    let root : f.first.root_term ≡ term = some_same f.first.root_term term (sym m.root ∙ ap (λ (z : RuleDef). term_named (terms w.defs) z.term) same ∙ number) in
    record {
      rule = f.first;
      number = i;
      given = ap (rule_pass w i) (sym same) ∙ f.here;
      among = subst (λ (zs : List Rule). Contains zs f.first) (sym f.all) (head_contained f.first f.others);
      alone = ap (filter (λ (x : Rule). x.root_term.0 == term.0)) f.all ∙ same_root f.first term f.others root
          ∙ ap (λ zs. f.first ∷ zs) (none_of_term w (i + 1) y.term term rs f.others (ap (λ (z : RuleDef). term_named (terms w.defs) z.term) same ∙ number) f.found apart.0);
    })
    (λ there.
    let rest = only_rule w (i + 1) term r rs f.others apart.1 number f.found there in
    let other : f.first.root_term ≡ term → ⊥ = λ root.
    let names = number_once w y.term r.term term (m.root ∙ ap Some root) number in
    not_both (sym (sym ((bytes_eq-Decides y.term r.term).1 names))) (heads_differ y.term rs r apart.0 there) in
    record {
      rule = rest.rule;
      number = rest.number;
      given = rest.given;
      among = subst (λ (zs : List Rule). Contains zs rest.rule) (sym f.all) (tail_contained f.first f.others rest.rule rest.among);
      alone = ap (filter (λ (x : Rule). x.root_term.0 == term.0)) f.all ∙ other_root f.first term f.others other ∙ rest.alone;
    })
    (contained_cases y rs r c)

-- the only rule of its term in the environment
pub given_rule : (defs : List Def) (env : Environment) (term : TermId) (r : RuleDef) → IsGivenIn defs env
    → IsDistinct bytes_eq (heads_of (rule_defs defs)) → term_named (terms defs) r.term ≡ Some term → Contains (rule_defs defs) r
    → IsOnlyRule (whole_of defs) r term env.rules
given_rule defs env term r g apart number c = only_rule (whole_of defs) 0 term r (rule_defs defs) env.rules apart number g.rules c
