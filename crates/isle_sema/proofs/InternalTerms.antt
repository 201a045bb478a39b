-- A term that is called through its rules has a rule.
use Rattle.std.proofs.Common.{◌≡◌, ℕ, zero, suc, ◌+◌, ◌<◌, Bool, true, false, List, [], ◌∷◌, length, Option, Some, None, refl, sym, ap, ◌∙◌, subst, arith}
use Rattle.std.specs.Prelude.{◌==◌, ◌||◌, Contains, slice_get}
use Rattle.std.specs.List.{list_any}
use Rattle.std.specs.Str.{bytes_eq}
use Rattle.std.proofs.lemmas.Bool.{eq-eqb}
use Rattle.std.proofs.lemmas.List.FromFn.{get_or-map-range_with_len, length-map-range_with_len}
use Rattle.std.proofs.lemmas.Option.{same_Some}
use Rattle.std.proofs.lemmas.Slice.Eq.{bytes_eq-Decides}
use Rattle.isle_core.specs.declared.TermId.{TermId}
use Rattle.isle_core.specs.declared.TypeId.{TypeId}
use Rattle.isle_core.specs.declared.types.ConstructorKind.TheVariants as constructor
use Rattle.isle_core.specs.declared.types.ExtractorKind.{ExtractorKind}
use Rattle.isle_core.specs.declared.types.Term.{Term}
use Rattle.isle_core.specs.declared.types.TermKind.{TermKind}
use Rattle.isle_core.specs.declared.types.TermKind.TheVariants as kind
use Rattle.isle_core.specs.Rule.{Rule, Environment}
use Rattle.isle_core.specs.Terms.{term_ids, has_rules, with_rules}
use Rattle.isle_core.proofs.ListLaws.{filter_keeps}
use Rattle.isle_ast.specs.Tree.{Def}
use Rattle.isle_declarations.specs.declared.terms.Origin.{Origin}
use Rattle.isle_declarations.specs.declared.terms.Origin.TheVariants as origin
use Rattle.isle_declarations.specs.Signatures.{Signature, RuleDef, externs, rule_defs, func_named, has_rule, term_named}
use Rattle.isle_declarations.specs.Terms.{terms}
use Rattle.isle_terms.specs.TermPass.{constructor_of, extracting_named, kind_from}
use Rattle.isle_terms.specs.Whole.{Whole, whole_of}
use Rattle.isle_terms.proofs.MadeTerms.{first_there, made_of, term_is}
use Rattle.isle_sema.specs.RulePass.{rule_pass, rules_pass}
use Rattle.isle_sema.specs.Typing.{Typed}
use Rattle.isle_sema.proofs.RuleRoots.{rule_made}
use Rattle.isle_sema.proofs.TypedParts.{given_in}
use Rattle.isle_sema.proofs.TypedTemplates.{number_at}

-- a term of this kind is called through its rules
abbrev pub IsRuled : TermKind → Type 0
IsRuled (kind.Decl pure multi partial recursive constructor.Internal how) = Unit {0}
IsRuled (kind.Decl pure multi partial recursive constructor.Absent how) = ⊥
IsRuled (kind.Decl pure multi partial recursive (constructor.External func) how) = ⊥
IsRuled (kind.Variant ty variant) = ⊥
IsRuled (kind.Struct ty) = ⊥

-- ---- its definition

by_rules : (pure multi partial recursive : Bool) (syms : List (List ℕ)) (func : Option (List ℕ)) (has : Bool) (how : ExtractorKind) → IsRuled (kind.Decl pure multi partial recursive (constructor_of syms func has) how) → has ≡ true
by_rules pure multi partial recursive syms (Some func) has how h = absurd h
by_rules pure multi partial recursive syms None true how h = refl
by_rules pure multi partial recursive syms None false how h = absurd h

-- its name is the head of a rule
ruled_from : (w : Whole) (s : Signature) (ret : TypeId) (from : Origin) → IsRuled (kind_from w s ret from) → has_rule (rule_defs w.defs) s.term ≡ true
ruled_from w s ret origin.Declared h = by_rules s.pure s.multi s.partial s.recursive w.types.syms (func_named (externs w.defs) s.term) (has_rule (rule_defs w.defs) s.term) (extracting_named w s.term) h
ruled_from w s ret (origin.Variant number) h = absurd h
ruled_from w s ret origin.Struct h = absurd h

either_way : (a b c d : Bool) → (a ≡ true → c ≡ true) → (b ≡ true → d ≡ true) → a || b ≡ true → c || d ≡ true
either_way true b c d h k e = ap (λ x. x || d) (h refl)
either_way false b true d h k e = refl
either_way false b false d h k e = k e

-- the rules that are made of rules, one of which has that head, have one of that term
rule_there : (w : Whole) (i : ℕ) (rules : List RuleDef) (xs : List Rule) (name : List ℕ) (n : ℕ) → term_named (terms w.defs) name ≡ Some (record { 0 = n }) → has_rule rules name ≡ true → rules_pass w i rules ≡ Some xs → list_any (λ (x : Rule). x.root_term.0 == n) xs ≡ true
rule_there w i [] xs name n number has h = absurd cc
rule_there w i (r ∷ rules) xs name n number has h =
    let f = first_there (rule_pass w i r) (rules_pass w (i + 1) rules) xs h in
    let of : Rule → Bool = λ x. x.root_term.0 == n in
    subst (λ (ys : List Rule). list_any of ys ≡ true) (sym f.all)
    (either_way (bytes_eq r.term name) (has_rule rules name) (of f.first) (list_any of f.others)
    (λ e.
    let root = sym (rule_made w i r f.first f.here).root ∙ ap (term_named (terms w.defs)) ((bytes_eq-Decides r.term name).0 e) ∙ number in
    eq-eqb f.first.root_term.0 n (ap (λ (t : TermId). t.0) (same_Some f.first.root_term (record { 0 = n }) root)))
    (λ e. rule_there w (i + 1) rules f.others name n number e f.found) has)

-- ---- among the terms with rules

below : {X : Type 0} (xs : List X) (n : ℕ) (x : X) → slice_get xs n ≡ Some x → n < length xs
below [] n x h = absurd cc
below (y ∷ xs) zero x h = omega arith
below (y ∷ xs) (suc n) x h = let lt = below xs n x h in omega (arith, lt)

id_there : (env : Environment) (id : TermId) → id.0 < length env.terms → Contains (term_ids env) id
id_there env id lt =
    let make : ℕ → TermId = λ i. record { 0 = i } in
    let long = length-map-range_with_len make 0 (length env.terms) in
    (id.0, subst (λ n. id.0 < n) (sym long) lt, get_or-map-range_with_len make 0 (length env.terms) id.0 id.0 id lt (omega arith))

-- a term that is called through its rules has one
pub internal_ruled : (defs : List Def) (env : Environment) → Typed defs env → (id : TermId) (t : Term) → slice_get env.terms id.0 ≡ Some t → IsRuled t.kind → Contains (with_rules env) id
internal_ruled defs env h id t at ruled =
    let g = given_in h in
    let w = whole_of defs in
    let m = made_of w (terms defs) env.terms id.0 t g.terms at in
    let s = m.signature in
    let kind_is : kind_from w s t.ret_ty s.origin ≡ t.kind = ap (λ (u : Term). u.kind) (term_is w s t m.made).is in
    let has = ruled_from w s t.ret_ty s.origin (subst IsRuled (sym kind_is) ruled) in
    filter_keeps (has_rules env) (term_ids env) id (id_there env id (below env.terms id.0 t at)) (rule_there w 0 (rule_defs defs) env.rules s.term id.0 (number_at defs env id.0 s g m.there) has g.rules)
