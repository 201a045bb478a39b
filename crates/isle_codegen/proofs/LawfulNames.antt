-- Names that may be emitted are all that emission asks of names.
use Rattle.std.proofs.Common.{◌≡◌, ℕ, ◌<◌, List, [], ◌∷◌, Bool, true, false, cond, length, get_or, sym, ap, ◌∙◌, subst, ⊎_elim, arith}
use Rattle.std.specs.Prelude.{Contains, filter}
use Rattle.std.specs.List.{AllByRecursion, list_all}
use Rattle.std.proofs.lemmas.List.Elements.{All-contains, Contains-get_or, filter_passes}
use Rattle.std.proofs.lemmas.List.FromFn.{get_or-map-range_with_len, length-map-range_with_len}
use Rattle.std.proofs.lemmas.List.Sums.{AllPass-from_list_all, list_all-from_AllPass}
use Rattle.isle_core.specs.declared.TermId.{TermId}
use Rattle.isle_core.specs.Terms.{term_ids, has_rules, with_rules, term_name}
use Rattle.isle_core.specs.Rule.{Environment}
use Rattle.isle_core.proofs.Contained.{head_contained, tail_contained, contained_cases, none_contained}
use Rattle.isle_ast.specs.Tree.{Def}
use Rattle.isle_sema.proofs.TypedTerms.{typed_there}
use Rattle.isle_lawful_names.specs.declared.name_error.NameError.{NameError}
use Rattle.isle_lawful_names.specs.Claims.{IsLawfulClaim}
use Rattle.isle_lawful_names.specs.NameFault.{AreLawfulNames, IsNameFault}
use Rattle.isle_lawful_names.specs.Words.{is_term_name}
use Rattle.isle_lawful_names.proofs.FoundLaws.{all_behind}
use Rattle.isle_lawful_names.proofs.LawfulLaws.{parts_are_lawful}
use Rattle.isle_codegen.specs.Names.{are_file_names}
use Rattle.isle_codegen.specs.LawfulEnvironment.{IsLawfulEnvironment}
use Rattle.isle_codegen.proofs.Compilable.{IsCompilable}
use Rattle.isle_codegen.proofs.EmittedNames.{name_of_term}

all_at : {A : Type 0} (p : A → Bool) (xs : List A) → list_all p xs ≡ true → (x : A) → Contains xs x → p x ≡ true
all_at p xs e x c = All-contains (λ y. p y ≡ true) xs x (AllPass-from_list_all p xs e) c

all_from : {A : Type 0} (p : A → Bool) (xs : List A) → ((x : A) → Contains xs x → p x ≡ true) → list_all p xs ≡ true
all_from p xs h = list_all-from_AllPass p xs (λ k d lt. h (get_or xs k d) (Contains-get_or xs k d lt))

kept : {A : Type 0} (p : A → Bool) (xs : List A) (x : A) → Contains xs x → p x ≡ true → Contains (filter p xs) x
kept p [] x c e = absurd (none_contained x c)
kept p (y ∷ xs) x c e = ⊎_elim (λ (same : y ≡ x). here (p y) (ap p same ∙ e) same) (λ d. behind (p y) (kept p xs x d e)) (contained_cases y xs x c)
  where
    here : (b : Bool) → b ≡ true → y ≡ x → Contains (cond b (y ∷ filter p xs) (filter p xs)) x
    here true e same = subst (Contains (y ∷ filter p xs)) same (head_contained y (filter p xs))
    here false e same = cc

    behind : (b : Bool) → Contains (filter p xs) x → Contains (cond b (y ∷ filter p xs) (filter p xs)) x
    behind true d = tail_contained y (filter p xs) x d
    behind false d = d

id_there : (env : Environment) (id : TermId) → id.0 < length env.terms → Contains (term_ids env) id
id_there env id lt =
    let make = λ (i : ℕ). let made : TermId = record { 0 = i } in made in
    let long = length-map-range_with_len make 0 (length env.terms) in
    (id.0, subst (λ n. id.0 < n) (sym long) lt, get_or-map-range_with_len make 0 (length env.terms) id.0 id.0 id lt (omega arith))

-- a lawful environment may be compiled
pub compilable : {names : List (List ℕ)} {defs : List Def} {env : Environment} → IsLawfulEnvironment names defs env → IsCompilable defs env
compilable {names} {defs} {env} h =
    let parts = parts_are_lawful names env h.names in
    let typed = h.typed.typed in
    record {
      typed = typed;
      names = all_from (λ (id : TermId). is_term_name (term_name env id)) (with_rules env) (λ id c.
          let t = typed_there defs env id typed c in
          let ruled : has_rules env id ≡ true = All-contains (λ (x : TermId). has_rules env x ≡ true) (with_rules env) id (filter_passes (has_rules env) (term_ids env)) c in
          subst (λ n. is_term_name n ≡ true) (sym (name_of_term env id t.0 t.1)) (parts.terms id.0 t.0 t.1 ruled));
      fns = parts.fns;
      lawful = parts.declared;
    }

-- and the names of its files may stand in a comment
pub files_named : (names : List (List ℕ)) (env : Environment) → AreLawfulNames names env → are_file_names names ≡ true
files_named names env h = (parts_are_lawful names env h).printed

-- if all names may be emitted, none is the first that may not
pub none_unlawful : (names : List (List ℕ)) (env : Environment) (e : NameError) → AreLawfulNames names env → IsNameFault names env e → ⊥
none_unlawful names env e all fault =
    fault.unlawful ((all_behind (IsLawfulClaim env) fault.before (fault.claim ∷ fault.behind) (subst (λ cs. AllByRecursion (IsLawfulClaim env) cs) fault.split all)).0)
