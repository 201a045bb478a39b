-- To put patterns in place of parameters twice is to do it once, with what comes of those that are put in first.
use Rattle.std.proofs.Common.{◌≡◌, ℕ, zero, suc, List, [], ◌∷◌, ◌++◌, length, map, drop, Option, Some, None, refl, sym, ap, ◌∙◌}
use Rattle.std.specs.Prelude.{slice_get}
use Rattle.std.proofs.lemmas.List.{length-map}
use Rattle.isle_base.specs.declared.ids.TypeId.{TypeId}
use Rattle.isle_base.specs.declared.ids.TermId.{TermId}
use Rattle.isle_base.specs.declared.ids.VarId.{VarId}
use Rattle.isle_core.specs.Pattern as pattern
use Rattle.isle_core.specs.Pattern.{Pattern, Patterns, NoPattern, APattern}
use Rattle.isle_templates.specs.PutIn.{put_in, with_rest}
use Rattle.isle_templates.proofs.SubstitutionSteps.{parts_each}
use Rattle.isle_templates.specs.Substituted.{pattern_or, argument, substituted, all_substituted, opened}

pub none_left : (n : ℕ) → ◌≡◌ {A = List Pattern} (drop n []) []
none_left zero = refl
none_left (suc n) = refl

-- what stands for one parameter
argument_twice : (args : List Pattern) (ty : TypeId) (x : VarId) (first : List Pattern) (n : ℕ) (others : List Pattern) → (slice_get others n ≡ slice_get args x.0)
    → substituted args (pattern_or (pattern.Var ty x) (slice_get first n)) ≡ pattern_or (pattern.Var ty x) (slice_get (map (substituted args) first ++ drop (length first) others) n)
argument_twice args ty x [] n others e = ap (pattern_or (pattern.Var ty x)) (sym e)
argument_twice args ty x (p ∷ first) zero others e = refl
argument_twice args ty x (p ∷ first) (suc n) [] e = argument_twice args ty x first n [] e ∙ ap (λ rest. pattern_or (pattern.Var ty x) (slice_get (map (substituted args) first ++ rest) n)) (none_left (length first))
argument_twice args ty x (p ∷ first) (suc n) (q ∷ others) e = argument_twice args ty x first n others e

module _ (args first both : List Pattern) (same : (ty : TypeId) (x : VarId) → substituted args (argument first ty x) ≡ argument both ty x) where
  mutual
    pub twice : (p : Pattern) → substituted args (substituted first p) ≡ substituted both p
    twice (pattern.BindPattern ty x p) =
        ap (λ a. pattern.And ty (APattern a (APattern (substituted args (substituted first p)) NoPattern))) (same ty x)
        ∙ ap (λ q. pattern.And ty (APattern (argument both ty x) (APattern q NoPattern))) (twice p)
    twice (pattern.Var ty x) = same ty x
    twice (pattern.ConstBool b) = refl
    twice (pattern.ConstInt ty n) = refl
    twice (pattern.ConstPrim ty name) = refl
    twice (pattern.Term ty term ps) = ap (pattern.Term ty term) (all_twice ps)
    twice (pattern.Wildcard ty) = refl
    twice (pattern.And ty ps) = ap (pattern.And ty) (all_twice ps)

    all_twice : (ps : Patterns) → all_substituted args (all_substituted first ps) ≡ all_substituted both ps
    all_twice NoPattern = refl
    all_twice (APattern p ps) = ap (λ q. APattern q (all_substituted args (all_substituted first ps))) (twice p) ∙ ap (APattern (substituted both p)) (all_twice ps)

-- a template on these parts inside one on these patterns
pub put_inside : (o : Option Pattern) (ty : TypeId) (term : TermId) (parts args : List Pattern) → substituted args (opened o ty term parts) ≡ put_in o ty term (map (substituted args) parts) args
put_inside None ty term parts args = ap (pattern.Term ty term) (parts_each args parts)
put_inside (Some t) ty term parts args = twice args parts (with_rest (map (substituted args) parts) args) (λ of x. argument_twice args of x parts x.0 args refl ∙ ap (λ n. pattern_or (pattern.Var of x) (slice_get (map (substituted args) parts ++ drop n args) x.0)) (sym (length-map parts (substituted args)))) t
