-- Terms that are judged one after another.
use Rattle.std.proofs.Common.{◌≡◌, ℕ, ◌+◌, ◌<◌, ◌≤◌, List, [], ◌∷◌, ◌++◌, length, get_or, set, drop, Bool, false, true, Option, Some, None, refl, sym, ap, ◌∙◌, subst, append_assoc, add-one}
use Rattle.std.specs.Prelude.{if◌then◌else◌, is_some, option_map}
use Rattle.std.specs.List.{AllByRecursion, cons_option}
use Rattle.std.specs.BTreeSet.{BTreeSet}
use Rattle.std.proofs.lemmas.List.{append-nil, drop_more}
use Rattle.std.proofs.Math.ListN.{drop_of_length-le}
use denote.Ref.{Bor}
use Rattle.isle_core.specs.declared.Sym.{Sym}
use Rattle.isle_core.specs.declared.types.ReturnKind.{ReturnKind}
use Rattle.isle_core.specs.declared.types.Term.{Term}
use Rattle.isle_core.specs.declared.types.TypeEnv.{TypeEnv}
use Rattle.isle_core.specs.Rule.{Environment}
use Rattle.isle_tree.specs.WellFormed.{fn_names}
use Rattle.isle_lawful_names.specs.NameSet.{HasNames}
use Rattle.isle_simulation.specs.TraitFns.{constructor_fn, extractor_fn, extracted_of, func_of}
use Rattle.isle_lawful_names.specs.Claims.{Claim, OfFunction, OfTerm, IsLawfulClaim, functions_of, function_claims, own_claims, term_claims}
use Rattle.isle_lawful_names.specs.Functions.{texts_of, taker_of}
use Rattle.isle_lawful_names.specs.Judges.{Found, Judges, JudgesBehind}
use Rattle.isle_lawful_names.proofs.FoundLaws.{judged_first, judged_then, Leads, leads_itself, leads_on, leads_out}

-- ---- functions

functions_by : (env : Environment) (t : Term) (x : Option (Sym × ReturnKind)) (y : Option Sym) → fn_names (cons_option (option_map (extractor_fn env t) x) (cons_option (option_map (constructor_fn env t) y) []))
    ≡ texts_of env.types (option_map (λ (of : Sym × ReturnKind). of.0) x) ++ texts_of env.types y
functions_by env t None None = refl
functions_by env t None (Some f) = refl
functions_by env t (Some e) None = refl
functions_by env t (Some e) (Some f) = refl

pub functions_are : (env : Environment) (t : Term) → functions_of env t ≡ texts_of env.types (taker_of t.kind) ++ texts_of env.types (func_of t.kind)
functions_are env t = functions_by env t (extracted_of t.kind) (func_of t.kind)

-- those of these symbols
pub functions_split : (env : Environment) (types : TypeEnv) (t : Term) (x y : Option Sym) → env.types ≡ types → x ≡ taker_of t.kind → y ≡ func_of t.kind → functions_of env t ≡ texts_of types x ++ texts_of types y
functions_split env types t x y same is_x is_y =
    functions_are env t
    ∙ ap (λ (ts : TypeEnv). texts_of ts (taker_of t.kind) ++ texts_of ts (func_of t.kind)) same
    ∙ ap (λ o. texts_of types o ++ texts_of types (func_of t.kind)) (sym is_x)
    ∙ ap (λ o. texts_of types x ++ texts_of types o) (sym is_y)

function_claims-append : (earlier xs ys : List (List ℕ)) → function_claims earlier (xs ++ ys) ≡ function_claims earlier xs ++ function_claims (earlier ++ xs) ys
function_claims-append earlier [] ys = ap (λ names. function_claims names ys) (sym (append-nil earlier))
function_claims-append earlier (x ∷ xs) ys =
    ap (λ cs. OfFunction earlier x ∷ cs) (function_claims-append (earlier ++ x ∷ []) xs ys ∙ ap (λ names. function_claims (earlier ++ x ∷ []) xs ++ function_claims names ys) (append_assoc earlier (x ∷ []) xs))

-- some functions, and then others
pub functions_then : (env : Environment) (xs ys all : List (List ℕ)) (old mid new : BTreeSet (Bor (List ℕ))) (none found : Found) → all ≡ xs ++ ys → JudgesBehind env (λ earlier. function_claims earlier xs) xs old mid none → is_some none ≡ false
    → JudgesBehind env (λ earlier. function_claims earlier ys) ys mid new found → JudgesBehind env (λ earlier. function_claims earlier all) all old new found
functions_then env xs ys all old mid new none found split h e k = subst (λ zs. JudgesBehind env (λ earlier. function_claims earlier zs) zs old new found) (sym split) (record {
  judged = λ earlier has.
      subst (λ cs. Judges env cs found) (sym (function_claims-append earlier xs ys))
      (judged_then env (function_claims earlier xs) (function_claims (earlier ++ xs) ys) none found (h.judged earlier has) e (k.judged (earlier ++ xs) (h.more earlier has e)));
  more = λ earlier has is. subst (λ names. HasNames names new) (append_assoc earlier xs ys) (k.more (earlier ++ xs) (h.more earlier has e) is);
})

-- one is found among the first ones
pub functions_first : (env : Environment) (xs ys all : List (List ℕ)) (old new : BTreeSet (Bor (List ℕ))) (found : Found) → all ≡ xs ++ ys → JudgesBehind env (λ earlier. function_claims earlier xs) xs old new found → is_some found ≡ true
    → JudgesBehind env (λ earlier. function_claims earlier all) all old new found
functions_first env xs ys all old new found split h e = subst (λ zs. JudgesBehind env (λ earlier. function_claims earlier zs) zs old new found) (sym split) (record {
  judged = λ earlier has.
      subst (λ cs. Judges env cs found) (sym (function_claims-append earlier xs ys)) (judged_first env (function_claims earlier xs) (function_claims (earlier ++ xs) ys) found (h.judged earlier has) e);
  more = λ earlier has is. absurd cc;
})

-- ---- a term's own name

pub own_none : (env : Environment) (b : Bool) (name : List ℕ) → b ≡ false → AllByRecursion (IsLawfulClaim env) (if b then OfTerm name ∷ [] else [])
own_none env true name e = absurd cc
own_none env false name e = tt

pub own_some : (env : Environment) (b : Bool) (name : List ℕ) (found : Found) → b ≡ true → Judges env (OfTerm name ∷ []) found → Judges env (if b then OfTerm name ∷ [] else []) found
own_some env true name found e h = h
own_some env false name found e h = absurd cc

-- ---- terms

-- how far terms are judged: the set has the names of the functions of those before this place, and what is found among the others is found
-- among all
pub record TermsFrom (env : Environment) (terms : List Term) (i : ℕ) (set : BTreeSet (Bor (List ℕ))) : Type 0 where
  pub earlier : List (List ℕ)
  pub has : HasNames earlier set
  pub leads : Leads env (term_claims env i earlier (drop i terms)) (term_claims env 0 [] terms)

-- what is said of a term
abbrev pub of_term : Environment → ℕ → Term → List (List ℕ) → List Claim
of_term env id t earlier = function_claims earlier (functions_of env t) ++ own_claims env id t

pub terms_begin : (env : Environment) (terms : List Term) (set : BTreeSet (Bor (List ℕ))) → HasNames [] set → TermsFrom env terms 0 set
terms_begin env terms set has = record { earlier = []; has = has; leads = leads_itself env (term_claims env 0 [] terms) }

term_split : (env : Environment) (earlier : List (List ℕ)) (terms : List Term) (i : ℕ) (t : Term) → i < length terms → t ≡ get_or terms i t
    → term_claims env i earlier (drop i terms) ≡ of_term env i t earlier ++ term_claims env (i + 1) (earlier ++ functions_of env t) (drop (i + 1) terms)
term_split env earlier terms i t lt is =
    ap (term_claims env i earlier) (drop_more terms i t lt ∙ ap (λ y. y ∷ drop (i + 1) terms) (sym is))
    ∙ ap (λ n. of_term env i t earlier ++ term_claims env n (earlier ++ functions_of env t) (drop (i + 1) terms)) (sym (add-one i))

-- one term more
pub terms_on : (env : Environment) (terms : List Term) (i : ℕ) (t : Term) (old new : BTreeSet (Bor (List ℕ))) (found : Found) → i < length terms → t ≡ get_or terms i t
    → JudgesBehind env (of_term env i t) (functions_of env t) old new found → is_some found ≡ false → TermsFrom env terms i old → TermsFrom env terms (i + 1) new
terms_on env terms i t old new found lt is j none h = record {
  earlier = h.earlier ++ functions_of env t;
  has = j.more h.earlier h.has none;
  leads =
      leads_on env (term_claims env i h.earlier (drop i terms)) (of_term env i t h.earlier) (term_claims env (i + 1) (h.earlier ++ functions_of env t) (drop (i + 1) terms)) (term_claims env 0 [] terms) found
      (term_split env h.earlier terms i t lt is) (j.judged h.earlier h.has) none h.leads;
}

-- one of which a name is found
pub terms_out : (env : Environment) (terms : List Term) (i : ℕ) (t : Term) (old new : BTreeSet (Bor (List ℕ))) (found : Found) → i < length terms → t ≡ get_or terms i t
    → JudgesBehind env (of_term env i t) (functions_of env t) old new found → is_some found ≡ true → TermsFrom env terms i old → Judges env (term_claims env 0 [] terms) found
terms_out env terms i t old new found lt is j some h =
    leads_out env (term_claims env i h.earlier (drop i terms)) (of_term env i t h.earlier) (term_claims env (i + 1) (h.earlier ++ functions_of env t) (drop (i + 1) terms)) (term_claims env 0 [] terms) found
    (term_split env h.earlier terms i t lt is) (j.judged h.earlier h.has) some h.leads

-- all terms
pub terms_end : (env : Environment) (terms : List Term) (i : ℕ) (set : BTreeSet (Bor (List ℕ))) → length terms ≤ i → TermsFrom env terms i set → Judges env (term_claims env 0 [] terms) None
terms_end env terms i set past h = h.leads.to None (subst (λ ts. AllByRecursion (IsLawfulClaim env) (term_claims env i h.earlier ts)) (sym (drop_of_length-le terms past)) tt)
