-- The constants among the paths of rules stand in the rules, and under a lawful meaning each has a value.
use Rattle.std.proofs.Common.{◌≡◌, ⊎_elim, ℕ, zero, suc, List, [], ◌∷◌, Bool, true, false, cond, Option, Some, None, refl, subst}
use Rattle.std.specs.Prelude.{Contains, IsSome, IsSomeAnd}
use Rattle.std.specs.List.{AllByRecursion}
use Rattle.isle_core.specs.declared.Sym.{Sym}
use Rattle.isle_core.specs.declared.TermId.{TermId}
use Rattle.isle_core.specs.declared.TypeId.{TypeId}
use Rattle.isle_core.specs.Calling.{calling, answers_often, is_fallible}
use Rattle.isle_core.specs.CalledTerms.{CalledTerm, called}
use Rattle.isle_core.specs.Having.{const_of}
use Rattle.isle_core.specs.Lawful.{IsLawful}
use Rattle.isle_core.specs.Making.{Making, MakesVariant, MakesStruct, MakesNothing, making}
use Rattle.isle_core.specs.Meaning.{Meaning}
use Rattle.isle_core.specs.OccurringConstants.{TypedConstant, Named, rules_constants}
use Rattle.isle_core.specs.Opening.{Opening, AsVariant, AsStruct, ByExtractor, opening, answer_path, result_path, part_path}
use Rattle.isle_core.specs.Path.{Path, Called, ConstPrim, Extracted, Inner, Chosen, MadeVariant, MadeStruct, Paths}
use Rattle.isle_core.specs.RightSide.{term_path}
use Rattle.isle_core.specs.Rule.{Environment, Rule, rules_of}
use Rattle.isle_core.specs.RulePaths.{opening_paths, with_inner, rules_paths}
use Rattle.isle_core.specs.Terms.{sym_text}
use Rattle.isle_core.proofs.Contained.{contained_cases, none_contained}
use Rattle.isle_codegen.proofs.EachPath.{HoldsOfEach, rules_each}

one_name : (a b : Sym) → ConstPrim a ≡ ConstPrim b → a ≡ b
one_name a b e = cc

-- a path that is named in these, if it is a constant's
abbrev IsNamed : List TypedConstant → Path → Type 0
IsNamed cs p = (name : Sym) → p ≡ ConstPrim name → (ty : TypeId) × Contains cs (ty, Named name)

-- a path and its item or its inner value, which are no constants
inner_named : (often fallible : Bool) (cs : List TypedConstant) (p : Path) → IsNamed cs p → AllByRecursion (IsNamed cs) (cond often (p ∷ Chosen p ∷ []) (cond fallible (p ∷ Inner p ∷ []) (p ∷ [])))
inner_named true fallible cs p h = (h, (λ name e. cc, tt))
inner_named false true cs p h = (h, (λ name e. cc, tt))
inner_named false false cs p h = (h, tt)

term_named : (env : Environment) (mk : Making) (cs : List TypedConstant) (term : TermId) (ps : Paths) (j : ℕ) → AllByRecursion (IsNamed cs) (with_inner (calling env term) (term_path mk term ps j))
term_named env MakesNothing cs term ps j = inner_named (answers_often (calling env term)) (is_fallible (calling env term)) cs (Called term ps j) (λ name e. cc)
term_named env (MakesVariant ty variant) cs term ps j = inner_named (answers_often (calling env term)) (is_fallible (calling env term)) cs (MadeVariant ty variant ps) (λ name e. cc)
term_named env (MakesStruct ty) cs term ps j = inner_named (answers_often (calling env term)) (is_fallible (calling env term)) cs (MadeStruct ty ps) (λ name e. cc)

-- nor is what a term's pattern calls
opening_named : (cs : List TypedConstant) (opened : Opening) (p : Path) → AllByRecursion (IsNamed cs) (opening_paths opened p)
opening_named cs (AsVariant ty variant) p = tt
opening_named cs (AsStruct ty) p = tt
opening_named cs (ByExtractor term c count) p = inner_named (answers_often c) (is_fallible c) cs (Extracted term p) (λ name e. cc)

-- and what it gives
answer_named : (cs : List TypedConstant) (often fallible : Bool) (term : TermId) (p : Path) → IsNamed cs (cond often (Chosen (Extracted term p)) (cond fallible (Inner (Extracted term p)) (Extracted term p)))
answer_named cs true fallible term p name e = cc
answer_named cs false true term p name e = cc
answer_named cs false false term p name e = cc

result_named : (cs : List TypedConstant) (count i : ℕ) (p : Path) → IsNamed cs p → IsNamed cs (result_path count i p)
result_named cs zero i p h = λ name e. cc
result_named cs (suc zero) i p h = h
result_named cs (suc (suc count)) i p h = λ name e. cc

part_named : (cs : List TypedConstant) (opened : Opening) (i : ℕ) (p : Path) → IsNamed cs (part_path opened i p)
part_named cs (AsVariant ty variant) i p = λ name e. cc
part_named cs (AsStruct ty) i p = λ name e. cc
part_named cs (ByExtractor term c count) i p = result_named cs count i (answer_path c (Extracted term p)) (answer_named cs (answers_often c) (is_fallible c) term p)

-- what rules' parts make is named in these
each_named : (env : Environment) (terms : List CalledTerm) (cs : List TypedConstant) → HoldsOfEach (IsNamed cs) env terms cs
each_named env terms cs = record {
  arg = λ i name e. cc;
  exprs = record {
    nowhere = λ name e. cc;
    truth = λ b name e. cc;
    number = λ ty v name e. cc;
    named = λ ty a c name e. (ty, subst (λ x. Contains {X = TypedConstant} cs (ty, Named x)) (one_name a name e) c);
    term = λ term ps j h. term_named env (making env term) cs term ps j;
  };
  opened = λ term p h. opening_named cs (opening env term) p;
  part = λ term i p h. part_named cs (opening env term) i p;
}

one_of : (cs : List TypedConstant) (ps : List Path) (name : Sym) → AllByRecursion (IsNamed cs) ps → Contains ps (ConstPrim name) → (ty : TypeId) × Contains cs (ty, Named name)
one_of cs [] name h c = absurd (none_contained (ConstPrim name) c)
one_of cs (p ∷ ps) name h c = ⊎_elim (h.0 name) (one_of cs ps name h.1) (contained_cases p ps (ConstPrim name) c)

-- the constants among the paths of rules stand in the rules
pub rules_named : (rules : List Rule) (env : Environment) (n : ℕ) (name : Sym) → Contains (rules_paths env rules n) (ConstPrim name) → (ty : TypeId) × Contains (rules_constants rules) (ty, Named name)
rules_named rules env n name c =
    let cs = rules_constants rules in
    one_of cs (rules_paths env rules n) name (rules_each (IsNamed cs) env (called env rules) cs (each_named env (called env rules) cs) rules n (λ o d. d) (λ o d. d)) c

some_there : {A : Type 0} (o : Option A) (P : A → Type 0) → IsSomeAnd o P → IsSome o
some_there None P h = absurd h
some_there (Some x) P h = refl

-- under a lawful meaning each has a value
pub named_valued : (env : Environment) (id : TermId) (m : Meaning) (ty : TypeId) (name : Sym) → IsLawful env id m → Contains (rules_constants (rules_of env id)) (ty, Named name) → IsSome (const_of m (sym_text env name))
named_valued env id m ty name lawful c = some_there (const_of m (sym_text env name)) _ (lawful.named ty name c)
