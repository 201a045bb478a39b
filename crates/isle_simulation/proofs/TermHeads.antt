-- The heads of the functions of terms with rules, by their names.
use Rattle.std.proofs.Common.{◌≡◌, Some, sym, ap, ◌∙◌}
use Rattle.std.specs.Prelude.{slice_get, option_map}
use Rattle.std.proofs.lemmas.Option.{same_Some}
use Rattle.isle_core.specs.declared.TermId.{TermId}
use Rattle.isle_core.specs.declared.types.Term.{Term}
use Rattle.isle_core.specs.Rule.{Environment}
use Rattle.isle_core.specs.Terms.{sym_text, with_rules}
use Rattle.isle_tree.specs.WellFormed.{Head, head_of}
use Rattle.isle_simulation.specs.TermFns.{head, head_at, heads_of, IsRuled, HasTermFns}
use Rattle.isle_simulation.proofs.FoundByName.{found_by_name, given_contained, one_of_name}

-- the head of a term that is there
head_there : (env : Environment) (id : TermId) (t : Term) → slice_get env.terms id.0 ≡ Some t → head_at env id ≡ Some (head env t)
head_there env id t there = ap (option_map (head env)) there

-- the head of a term that is made by rules is found by its name
pub head_found : (env : Environment) (id : TermId) (t : Term) → HasTermFns env → slice_get env.terms id.0 ≡ Some t → IsRuled t.kind → head_of (heads_of env) (sym_text env t.name) ≡ Some (head env t)
head_found env id t names there ruled =
    found_by_name (λ (h : Head). h.term) (heads_of env) (head env t) names.distinct (given_contained (head_at env) (with_rules env) id (head env t) (head_there env id t there) (names.ruled id t there ruled))

-- terms of one name that are made by rules are one
pub term_once : (env : Environment) (i j : TermId) (t u : Term) → HasTermFns env → slice_get env.terms i.0 ≡ Some t → slice_get env.terms j.0 ≡ Some u → IsRuled t.kind → IsRuled u.kind → sym_text env t.name ≡ sym_text env u.name → t ≡ u
term_once env i j t u names at_i at_j ruled ruled' same =
    let one : i ≡ j =
    one_of_name (head_at env) (λ (h : Head). h.term) (with_rules env) i j (head env t) (head env u) names.distinct (head_there env i t at_i) (head_there env j u at_j) same (names.ruled i t at_i ruled) (names.ruled j u at_j ruled') in
    same_Some t u (sym at_i ∙ ap (λ (id : TermId). slice_get env.terms id.0) one ∙ at_j)
