-- Simple definitions have a lawful environment, at whatever places they stand.
use Rattle.std.proofs.Common.{◌≡◌, ℕ, zero, suc, inl, List, [], ◌∷◌, ◌++◌, get_or, true, Some, refl, sym, ap, ◌∙◌, subst}
use Rattle.std.specs.Prelude.{IsTrue, slice_get, ◌&&◌, flat_map, option_to_list}
use Rattle.std.specs.List.{AllByRecursion, list_all}
use Rattle.isle_core.specs.declared.types.Term.{Term}
use Rattle.isle_core.specs.Rule.{Environment}
use Rattle.isle_core.specs.Terms.{sym_text, symbol_text, has_rules}
use Rattle.isle_ast.specs.Tree.{Def, TypeDecl, Decl, ExternConstructor, ExternExtractor, ExternConst, Extractor, Converter, Rule, Passed}
use Rattle.isle_declarations.specs.Names.{pattern_names, iflet_names, expr_names, def_names}
use Rattle.isle_declarations.specs.Heads.{terms_of, heads_of}
use Rattle.isle_declarations.specs.Signatures.{Signature, RuleDef, rule_of, rule_defs}
use Rattle.isle_declarations.specs.Symbols.{sym_of, symbols}
use Rattle.isle_declarations.specs.Terms.{terms}
use Rattle.isle_declarations.proofs.SymbolLaws.{stands}
use Rattle.isle_codegen.specs.LawfulEnvironment.{IsLawfulEnvironment}
use Rattle.isle_lawful_names.specs.Claims.{is_ruled}
use Rattle.isle_lawful_names.specs.NameFault.{AreLawfulNames}
use Rattle.isle_lawful_names.specs.Words.{is_file_name, is_term_name}
use Rattle.isle_lawful_names.proofs.LawfulLaws.{names_are_lawful}
use Rattle.isle_terms.specs.Whole.{Whole, whole_of}
use Rattle.isle_types.specs.TypeEnvironment.{type_env_of}
use Rattle.isle_writing.specs.Erased.{all_erased}
use Rattle.std.proofs.lemmas.Option.{same_Some}
use Rattle.isle_prelude_accepted.proofs.Has.{Has, has_front, has_back, has_mapped, has_source}
use Rattle.isle_prelude_accepted.proofs.Callees.{sound_in}
use Rattle.isle_prelude_accepted.proofs.Simple.{AreSimple, IsSound}
use Rattle.isle_prelude_accepted.proofs.CleanRules.{named_at, ruled_name, all_rules_made, simple_clean, simple_marked}
use Rattle.isle_prelude_accepted.proofs.NamedFunctions.{functions_named}
use Rattle.isle_prelude_accepted.proofs.NamedTypes.{types_named}
use Rattle.isle_prelude_accepted.proofs.Symbols.{is_symbol, text_is}
use Rattle.isle_prelude_accepted.proofs.TypedEnvironment.{IsTermOf, AreTermsOf, IsSimpleEnvironment, simple_typed}

-- the term at a place is that of the signature there
signature_at_place : (w : Whole) (sigs : List Signature) (ts : List Term) (n : ℕ) (t : Term) → AreTermsOf w sigs ts → slice_get ts n ≡ Some t
    → (s : Signature) × IsTermOf w s t × (get_or (terms_of sigs) n [] ≡ s.term)
signature_at_place w [] [] zero t h e = absurd cc
signature_at_place w [] [] (suc n) t h e = absurd cc
signature_at_place w [] (x ∷ ts) n t h e = absurd h
signature_at_place w (s ∷ sigs) [] n t h e = absurd h
signature_at_place w (s ∷ sigs) (x ∷ ts) zero t h e = (s, subst (IsTermOf w s) (same_Some x t e) h.0, refl)
signature_at_place w (s ∷ sigs) (x ∷ ts) (suc n) t h e = signature_at_place w sigs ts n t h.1 e

files_printed : (names : List (List ℕ)) → AllByRecursion (λ name. IsTrue (is_file_name name)) names → list_all is_file_name names ≡ true
files_printed [] h = refl
files_printed (name ∷ names) h = ap (λ b. b && list_all is_file_name names) h.0 ∙ files_printed names h.1

module _ (defs : List Def) (h : AreSimple (all_erased defs)) where
  -- a name of letters, digits and `_` that is a symbol
  abbrev IsHead : List ℕ → Type 0
  IsHead name = (is_term_name name ≡ true) × Has (symbols defs) name

  head_of_rule : (d : Def) (r : RuleDef) → Has defs d → rule_of d ≡ Some r → IsHead r.term
  head_of_rule (Rule name prio term args iflets rhs at) r i e =
      let d = Rule name prio term args iflets rhs at in
      let s : IsSound (all_erased defs) d = sound_in defs h d i in
      let first = option_to_list name ++ (term ∷ flat_map pattern_names args) in
      let among : Has (def_names d) term =
      has_front (first ++ flat_map iflet_names iflets) (expr_names rhs) term
      (has_front first (flat_map iflet_names iflets) term (has_back (option_to_list name) (term ∷ flat_map pattern_names args) term (inl refl))) in
      subst IsHead (ap (λ (x : RuleDef). x.term) (same_Some _ r e)) (s.2.named, is_symbol defs d term i among)
  head_of_rule (TypeDecl name x n body at) r i e = absurd cc
  head_of_rule (Decl term pure multi partial recursive args ret at) r i e = absurd cc
  head_of_rule (ExternConstructor term func at) r i e = absurd cc
  head_of_rule (ExternExtractor term func infallible at) r i e = absurd cc
  head_of_rule (ExternConst name ty at) r i e = absurd cc
  head_of_rule (Extractor term params template at) r i e = absurd cc
  head_of_rule (Converter from to term at) r i e = absurd cc
  head_of_rule (Passed head at) r i e = absurd cc

  heads_named : (name : List ℕ) → Has (heads_of (rule_defs defs)) name → IsHead name
  heads_named name i =
      let r = has_mapped (λ (x : RuleDef). x.term) (rule_defs defs) name i in
      let d = has_source rule_of defs r.0 r.1 in
      subst IsHead r.2 (head_of_rule d.0 r.0 d.1 d.2)

  module _ (env : Environment) (s : IsSimpleEnvironment defs h env) where
    term_named_well : (id : ℕ) (t : Term) → slice_get env.terms id ≡ Some t → has_rules env (record { 0 = id }) ≡ true → is_term_name (sym_text env t.name) ≡ true
    term_named_well id t at ruled =
        let w = whole_of defs in
        let there = signature_at_place w (terms defs) env.terms id t s.terms_are at in
        let rule = ruled_name w (rule_defs defs) env.rules (record { 0 = id }) (all_rules_made defs h env s) ruled in
        let head = heads_named rule.0 rule.1 in
        let own : rule.0 ≡ there.0.term =
        sym (stands (terms_of (terms defs)) rule.0 rule.2.0 (named_at w rule.0 rule.2 rule.3)) ∙ ap (λ k. get_or (terms_of (terms defs)) k []) rule.4 ∙ there.2 in
        let text : sym_text env t.name ≡ rule.0 =
        ap (λ (x : Term). sym_text env x.name) there.1.is
        ∙ ap (λ types. symbol_text types (sym_of (symbols defs) there.0.term)) s.types_are
        ∙ ap (λ name. symbol_text (type_env_of defs) (sym_of (symbols defs) name)) (sym own)
        ∙ text_is defs rule.0 head.1 in
        ap is_term_name text ∙ head.0

    pub simple_named : (printed : List (List ℕ)) → AllByRecursion (λ name. IsTrue (is_file_name name)) printed → AreLawfulNames printed env
    simple_named printed files = names_are_lawful printed env (record {
      printed = files_printed printed files;
      declared =
          subst (λ types. Rattle.isle_lawful_names.specs.LawfulNames.AreLawful (is_ruled env.rules) types) (sym s.types_are)
          (types_named defs h (is_ruled env.rules));
      fns = functions_named defs h env s.types_are s.terms_are;
      terms = term_named_well;
    })

  -- whatever lawful names their files have
  pub simple_lawful : (printed : List (List ℕ)) → AllByRecursion (λ name. IsTrue (is_file_name name)) printed
      → (env : Environment) × IsLawfulEnvironment printed defs env
  simple_lawful printed files =
      let env = simple_typed defs h in (
        env.0,
        record {
          typed = env.1.typed;
          clean = simple_clean defs h env.0 env.1;
          marked = simple_marked defs h env.0 env.1;
          names = simple_named env.0 env.1 printed files;
        },
      )
