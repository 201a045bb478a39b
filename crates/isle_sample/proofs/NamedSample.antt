-- The names of a sample may be emitted.
use Rattle.std.proofs.Common.{◌≡◌, ℕ, suc, ◌*◌, ◌<◌, ◌≤◌, get_or, List, [], ◌∷◌, Some, true, arith}
use Rattle.std.proofs.Common.{refl, sym, ap, ◌∙◌, subst}
use Rattle.std.specs.Prelude.{slice_get, codes}
use Rattle.std.specs.List.{AllByRecursion, IsDistinct}
use Rattle.std.proofs.lemmas.Option.{get_or_from_slice_get}
use Rattle.isle_core.specs.declared.types.Term.{Term}
use Rattle.isle_core.specs.Rule.{Environment}
use Rattle.isle_core.specs.Terms.{sym_text}
use Rattle.isle_declarations.specs.Symbols.{sym_of}
use Rattle.isle_printer.proofs.Numerals.{list_all-numeral}
use Rattle.isle_simulation.specs.TraitFns.{trait_fns_in, AreFnNames, HasFnNames}
use Rattle.isle_lawful_names.specs.Claims.{is_ruled}
use Rattle.isle_lawful_names.specs.NameFault.{AreLawfulNames}
use Rattle.isle_lawful_names.specs.Words.{is_term_name}
use Rattle.isle_lawful_names.proofs.LawfulLaws.{names_are_lawful}
use Rattle.isle_lawful_names.proofs.ListLaws.{all_at}
use Rattle.isle_sample.specs.Sample.{term_name}
use Rattle.isle_sample.proofs.SampleLines.{Line, Declares, Gives, Otherwise, lines}
use Rattle.isle_sample.proofs.SampleEnvironment.{terms_at, IsSampleEnvironment}
use Rattle.isle_sample.proofs.CleanLines.{key, past, Rise, lines_rise}
use Rattle.isle_sample.proofs.NamedTypes.{builtins_lawful}

-- ---- external functions

-- the terms of lines have none
no_functions : (env : Environment) (syms : List (List ℕ)) (at : ℕ) (ls : List Line)
    → trait_fns_in env (terms_at syms at ls) ≡ []
no_functions env syms at [] = refl
no_functions env syms at (Declares i ∷ ls) = no_functions env syms (past at (Declares i)) ls
no_functions env syms at (Gives i a b ∷ ls) = no_functions env syms (past at (Gives i a b)) ls
no_functions env syms at (Otherwise i ∷ ls) = no_functions env syms (past at (Otherwise i)) ls

none_named : AreFnNames []
unfolding IsDistinct
none_named = record { identifiers = tt; distinct = tt }

-- ---- names of terms

-- the letter t and digits
digits_name : (i : ℕ) → is_term_name (term_name i) ≡ true
unfolding term_name
digits_name i = list_all-numeral 10 i (omega arith) (omega arith)

rise_within : (low high : ℕ) (ls : List Line) → Rise low high ls → low ≤ high
rise_within low high [] h = h
rise_within low high (l ∷ ls) h = let rest = rise_within (suc (key l)) high ls h.1 in omega (arith, h.0, rest)

-- a term's name may be that of one with rules
abbrev IsNamed : Environment → Term → Type 0
IsNamed env t = is_term_name (sym_text env t.name) ≡ true

-- a symbol that stands for the name of a term
one_named : (syms : List (List ℕ)) (s i : ℕ) → slice_get syms s ≡ Some (term_name i)
    → is_term_name (get_or syms s []) ≡ true
one_named syms s i e = ap is_term_name (get_or_from_slice_get syms s (term_name i) [] e) ∙ digits_name i

-- the names of the first terms are symbols
abbrev AreSymbols : List (List ℕ) → ℕ → Type 0
AreSymbols syms n = (i : ℕ) → i < n → slice_get syms (sym_of syms (term_name i)).0 ≡ Some (term_name i)

module _ (env : Environment) (n : ℕ) (named : AreSymbols env.types.syms n) where
  terms_named : (at low : ℕ) (ls : List Line) → Rise low (18 * n) ls
      → AllByRecursion (IsNamed env) (terms_at env.types.syms at ls)
  terms_named at low [] h = tt
  terms_named at low (Declares i ∷ ls) h =
      let rest : suc (18 * i) ≤ 18 * n = rise_within (suc (18 * i)) (18 * n) ls h.1 in
      let syms = env.types.syms in
      let first = one_named syms (sym_of syms (term_name i)).0 i (named i (omega (arith, rest))) in
      (first, terms_named (past at (Declares i)) (suc (18 * i)) ls h.1)
  terms_named at low (Gives i a b ∷ ls) h = terms_named (past at (Gives i a b)) (suc (key (Gives i a b))) ls h.1
  terms_named at low (Otherwise i ∷ ls) h = terms_named (past at (Otherwise i)) (suc (key (Otherwise i))) ls h.1

-- ---- all

-- all names of a sample in the file `sample` may be emitted
pub sample_named : (n : ℕ) (env : Environment) → IsSampleEnvironment n env → AreLawfulNames (codes "sample" ∷ []) env
sample_named n env h =
    let each = terms_named env n h.named 0 0 (lines n) (lines_rise n) in
    let all : AllByRecursion (IsNamed env) env.terms = subst (AllByRecursion (IsNamed env)) (sym h.terms) each in
    let none : trait_fns_in env env.terms ≡ [] =
    ap (trait_fns_in env) h.terms ∙ no_functions env env.types.syms 0 (lines n) in
    let fns : HasFnNames env = subst AreFnNames (sym none) none_named in
    names_are_lawful (codes "sample" ∷ []) env (record {
      printed = refl;
      declared = builtins_lawful (is_ruled env.rules) env.types h.types h.consts;
      fns = fns;
      terms = λ id t at ruled. all_at (IsNamed env) env.terms id t all at;
    })
