-- What the pattern of a text calls.
use Rattle.std.proofs.Common.{◌≡◌, ◌⊎◌, ℕ, List, [], ◌∷◌, Bool, true, false, cond, Some, refl, subst, ⊎_elim, inl, inr}
use Rattle.std.specs.Prelude.{Contains}
use Rattle.std.proofs.lemmas.List.Elements.{Contains-append_cases}
use Rattle.isle_base.specs.declared.ids.TermId.{TermId}
use Rattle.isle_core.specs.CalledTerms.{Extractor, CalledTerm, is_made, unless_made, extracted_by, extracted_by_all}
use Rattle.isle_core.specs.Pattern.{Pattern, Patterns}
use Rattle.isle_core.specs.Rule.{Environment}
use Rattle.isle_core.proofs.Contained.{contained_cases, none_contained}
use Rattle.isle_ast.specs.Tree as tree
use Rattle.isle_prelude_laws.proofs.NamedTrees.{Numbers, PatternNamed, PatternsNamed, EachTerm, EachTerms}

-- the terms of a name are made, or as they should be
abbrev pub IsMadeOr : Environment → Numbers → (TermId → Type 0) → List ℕ → Type 0
IsMadeOr env number Q name = (a : TermId) → number name ≡ Some a → (is_made env a ≡ true) ⊎ Q a

-- a called extractor that is as it should be
abbrev pub IsExtractorSo : (TermId → Type 0) → CalledTerm → Type 0
IsExtractorSo Q o = Q o.term × (o.role ≡ Extractor)

module _ (env : Environment) (number : Numbers) (params : List (List ℕ)) (Q : TermId → Type 0) where
  own_extracted : (a : TermId) (o : CalledTerm) → (is_made env a ≡ true) ⊎ Q a → Contains (unless_made env Extractor a) o → IsExtractorSo Q o
  own_extracted a o (inl made) c = absurd (none_contained o (subst (λ b. Contains (cond b [] (record { term = a; role = Extractor } ∷ [])) o) made c))
  own_extracted a o (inr so) c = by (is_made env a) c
    where
      by : (b : Bool) → Contains (cond b [] (record { term = a; role = Extractor } ∷ [])) o → IsExtractorSo Q o
      by true k = absurd (none_contained o k)
      by false k =
          let one : CalledTerm = record { term = a; role = Extractor } in
          ⊎_elim (λ (same : one ≡ o). subst (IsExtractorSo Q) same (so, refl)) (λ none. absurd (none_contained o none)) (contained_cases one [] o k)

  mutual
    pub extracted_so : (p : tree.Pattern) (q : Pattern) → EachTerm (IsMadeOr env number Q) p → PatternNamed number params p q → (o : CalledTerm)
        → Contains (extracted_by env q) o → IsExtractorSo Q o
    extracted_so (tree.Var name) q each h o c = absurd (none_contained o (subst (λ x. Contains (extracted_by env x) o) h.2 c))
    extracted_so (tree.Term name ps) q each h o c =
        ⊎_elim (λ own. own_extracted h.1 o (each.0 h.1 h.4) own) (λ inside. all_extracted_so ps h.2 each.1 h.5 o inside)
        (Contains-append_cases (unless_made env Extractor h.1) (extracted_by_all env h.2) o (subst (λ x. Contains (extracted_by env x) o) h.3 c))
    extracted_so (tree.Int n) q each h o c = absurd each
    extracted_so (tree.Truth b) q each h o c = absurd each
    extracted_so (tree.Const name) q each h o c = absurd each
    extracted_so tree.Wildcard q each h o c = absurd each
    extracted_so (tree.Bind name inner) q each h o c = absurd each
    extracted_so (tree.And parts) q each h o c = absurd each

    all_extracted_so : (ps : tree.Patterns) (qs : Patterns) → EachTerms (IsMadeOr env number Q) ps → PatternsNamed number params ps qs
        → (o : CalledTerm) → Contains (extracted_by_all env qs) o → IsExtractorSo Q o
    all_extracted_so tree.NoPattern qs each h o c = absurd (none_contained o (subst (λ x. Contains (extracted_by_all env x) o) h c))
    all_extracted_so (tree.APattern p ps) qs each h o c =
        ⊎_elim (λ first. extracted_so p h.0 each.0 h.3 o first) (λ more. all_extracted_so ps h.1 each.1 h.4 o more)
        (Contains-append_cases (extracted_by env h.0) (extracted_by_all env h.1) o (subst (λ x. Contains (extracted_by_all env x) o) h.2 c))
