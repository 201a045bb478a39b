-- Constants, cases and turns that are right at the types of a source are right entries of a program that conforms to it.
use Rattle.std.proofs.Common.{◌≡◌, List, [], ◌∷◌, ◌++◌, map, true, Option, Some, refl, sym, ap, ◌∙◌, subst, append-nil, append_assoc}
use Rattle.std.specs.Prelude.{ℕ, IsSomeAnd, option_map}
use Rattle.std.specs.List.{AllByRecursion, IsDistinct}
use Rattle.std.specs.Str.{bytes_eq}
use Rattle.std.proofs.lemmas.List.{map-append}
use Rattle.isle_core.specs.declared.TypeId.{TypeId}
use Rattle.isle_core.specs.declared.files.Files.{Files}
use Rattle.isle_core.specs.declared.options.CodegenOptions.{CodegenOptions}
use Rattle.isle_core.specs.declared.types.ReturnKind.{ReturnKind}
use Rattle.isle_core.specs.declared.types.Term.{Term}
use Rattle.isle_core.specs.declared.values.Callee.{Callee}
use Rattle.isle_core.specs.Calling.{kind_of}
use Rattle.isle_core.specs.Lawful.{Fits}
use Rattle.isle_core.specs.Meaning.{PureAnswers, TurnAnswers, Meaning}
use Rattle.isle_core.specs.Rule.{Environment}
use Rattle.isle_core.specs.Terms.{sym_text, with_rules}
use Rattle.isle_core.specs.Value.{Value, Answer}
use Rattle.isle_core.proofs.OptionLaws.{some_same}
use Rattle.isle_tree.specs.declared.tree.TraitFn.{TraitFn}
use Rattle.isle_tree.specs.Program.{Function, Program}
use Rattle.isle_tree.specs.WellFormed.{trait_fn, fn_names}
use Rattle.isle_interpreter.specs.Apart.{IsApart}
use Rattle.isle_interpreter.specs.Entries.{Entry, Constant, Cases, Turns, IsUnanswered, IsUngiven, CaseFits, EntryFits, has_constant, FitsPlaces, IsRight, AreRight}
use Rattle.isle_places.specs.Signatures.{Signature, trait_signature, term_signature, signature_of, type_names}
use Rattle.isle_interpreter.specs.Named.{AreNamed, AnswerFits}
use Rattle.isle_interpreter.proofs.AnswersHold.{no_constants, both_unanswered}
use Rattle.isle_simulation.specs.TypeTexts.{type_text, parameter}
use Rattle.isle_simulation.specs.TraitFns.{constructor_fn, extractor_fn, trait_fns_of}
use Rattle.isle_lawful_names.specs.TypeItems.{type_items_of}
use Rattle.isle_run_inputs.specs.Asked.{Asked, constructor_types}
use Rattle.isle_run.specs.Conforming.{Conforms}
use Rattle.isle_run.specs.Valid.{IsServed, external, internal, IsAsked, extractor, constructor, HasNoCases, HasNoTurns, IsRightCase, AreRightCases, AllCasesRight, AreRightTurns, AllRight, HasNoValue, IsRightConstant, AreRightConstants}
use Rattle.isle_run.proofs.LawfulNames.{HasLawfulNames}
use Rattle.isle_run.proofs.RequestedTerms.{requested_function}
use Rattle.isle_run.proofs.NamedTypes.{answer_named, are_named, value_typed}
use Rattle.isle_run.proofs.ServedCallees.{served_fn, extracted_fn}

-- a signature with these types, which answers so often
pub record IsSignatureOf (env : Environment) (a : Asked) (often : ReturnKind) (s : Signature) : Type 0 where
  pub params : s.params ≡ map (type_text env) a.params
  pub results : s.results ≡ map (type_text env) a.results
  pub kind : s.kind ≡ often

-- the types' texts are the names of parameters' types
pub names_of : (env : Environment) (tys : List TypeId) → map (type_text env) tys ≡ type_names (map (parameter env) tys)
names_of env [] = refl
names_of env (ty ∷ tys) = ap (λ ns. type_text env ty ∷ ns) (names_of env tys)

-- the entries of constants
abbrev pub as_entries : List (List ℕ × Value) → List Entry
as_entries = map (λ c. Constant c.0 c.1)

-- no cases of a callee is no entry of it
uncased : (c : Callee) (given : List PureAnswers) → HasNoCases c given → IsUnanswered c (map Cases given)
uncased c [] h = tt
uncased c (a ∷ given) h = (h.0, uncased c given h.1)

pub cased_back : (c : Callee) (given : List PureAnswers) → IsUnanswered c (map Cases given) → HasNoCases c given
cased_back c [] h = tt
cased_back c (a ∷ given) h = (h.0, cased_back c given h.1)

-- no turns of one is none either
unanswered : (c : Callee) (given : List TurnAnswers) → HasNoTurns c given → IsUnanswered c (map Turns given)
unanswered c [] h = tt
unanswered c (a ∷ given) h = (h.0, unanswered c given h.1)

pub answered_back : (c : Callee) (given : List TurnAnswers) → IsUnanswered c (map Turns given) → HasNoTurns c given
answered_back c [] h = tt
answered_back c (a ∷ given) h = (h.0, answered_back c given h.1)

-- no value of a constant is no entry of it
ungiven : (name : List ℕ) (consts : List (List ℕ × Value)) → HasNoValue name consts → IsUngiven name (as_entries consts)
ungiven name [] h = tt
ungiven name (c ∷ consts) h = (h.0, ungiven name consts h.1)

pub given_back : (name : List ℕ) (consts : List (List ℕ × Value)) → IsUngiven name (as_entries consts) → HasNoValue name consts
given_back name [] h = tt
given_back name (c ∷ consts) h = (h.0, given_back name consts h.1)

some_with : {A : Type 0} (P : A → Type 0) (o : Option A) (x : A) → o ≡ Some x → P x → IsSomeAnd o P
some_with P o x e h = subst (λ z. IsSomeAnd z P) (sym e) h

module _ (options : CodegenOptions) (files : Files) (env : Environment) (names : HasLawfulNames env) (p : Program) (conforms : Conforms options files env p) where
  -- ---- signatures

  -- an answer fits such a signature
  answer_fits : (a : Asked) (often : ReturnKind) (s : Signature) (x : Answer) → IsSignatureOf env a often s → Fits env often a.results x → AnswerFits (type_items_of env) s x
  answer_fits a often s x is h =
      let by : AnswerFits (type_items_of env) (record { params = s.params; results = map (type_text env) a.results; kind = often }) x =
      answer_named env names.has_rules names.lawful names.builtins a.results often s.params x h in
      let kinds = subst (λ k. AnswerFits (type_items_of env) (record { params = s.params; results = map (type_text env) a.results; kind = k }) x) (sym is.kind) by in
      subst (λ rs. AnswerFits (type_items_of env) (record { params = s.params; results = rs; kind = s.kind }) x) (sym is.results) kinds

  answers_fit : (a : Asked) (often : ReturnKind) (s : Signature) (xs : List Answer) → IsSignatureOf env a often s → AllByRecursion (Fits env often a.results) xs → AllByRecursion (AnswerFits (type_items_of env) s) xs
  answers_fit a often s [] is h = tt
  answers_fit a often s (x ∷ xs) is h = (answer_fits a often s x is h.0, answers_fit a often s xs is h.1)

  -- a case fits it
  case_fits : (a : Asked) (often : ReturnKind) (s : Signature) (c : List Value × Answer) → IsSignatureOf env a often s → IsRightCase env a often c → CaseFits (type_items_of env) s c
  case_fits a often s c is h = (
    subst (λ ps. AreNamed (type_items_of env) ps c.0) (sym is.params) (are_named env names.has_rules names.lawful names.builtins a.params c.0 h.0),
    answer_fits a often s c.1 is h.1,
  )

  cases_fit : (a : Asked) (often : ReturnKind) (s : Signature) (cs : List (List Value × Answer)) → IsSignatureOf env a often s → AllByRecursion (IsRightCase env a often) cs → AllByRecursion (CaseFits (type_items_of env) s) cs
  cases_fit a often s [] is h = tt
  cases_fit a often s (c ∷ cs) is h = (case_fits a often s c is h.0, cases_fit a often s cs is h.1)

  -- the program's functions of the trait are those of the environment
  distinct_names : IsDistinct bytes_eq (fn_names (trait_fns_of env))
  distinct_names = subst (λ (fs : List TraitFn). IsDistinct bytes_eq (fn_names fs)) conforms.frame.trait_fns conforms.well_formed.trait_names

  -- the signature of what is served
  pub served_signature : (c : Callee) (t : Term) → IsServed env c t → (s : Signature) × (signature_of p c ≡ Some s) × IsSignatureOf env (constructor_types t) (kind_of t.kind) s
  served_signature _ _ (external i t func at e) = (
    trait_signature (constructor_fn env t func),
    ap (option_map trait_signature) (ap (λ (fs : List TraitFn). trait_fn fs (sym_text env func)) conforms.frame.trait_fns ∙ served_fn env env.terms i t func distinct_names at e),
    record { params = sym (names_of env t.arg_tys); results = refl; kind = refl },
  )
  served_signature _ _ (internal name id t requested at) =
      let h = requested_function options files env name (with_rules env) p.fns id conforms.functions.declared conforms.functions.blocks requested in
      let same : h.declared.term ≡ t = some_same h.declared.term t (sym h.declared.found ∙ at) in (
        term_signature h.function,
        ap (option_map term_signature) h.found,
        record {
          params = ap type_names (h.declared.of_term.params ∙ ap (λ (x : Term). map (parameter env) x.arg_tys) same) ∙ sym (names_of env t.arg_tys);
          results = ap (λ r. r ∷ []) (h.declared.of_term.result ∙ ap (λ (x : Term). type_text env x.ret_ty) same);
          kind = h.declared.of_term.kind ∙ ap (λ (x : Term). kind_of x.kind) same;
        },
      )

  -- the signature of what is asked by cases
  pub asked_signature : (c : Callee) (a : Asked) (often : ReturnKind) → IsAsked env c a often → (s : Signature) × (signature_of p c ≡ Some s) × IsSignatureOf env a often s
  asked_signature _ _ _ (extractor i t func often at e) = (
    trait_signature (extractor_fn env t (func, often)),
    ap (option_map trait_signature) (ap (λ (fs : List TraitFn). trait_fn fs (sym_text env func)) conforms.frame.trait_fns ∙ extracted_fn env env.terms i t (func, often) distinct_names at e),
    record { params = refl; results = refl; kind = refl },
  )
  asked_signature _ _ _ (constructor c t served pure) = served_signature c t served

  module _ (f : Function) (m : Meaning) where
    -- ---- turns

    turns_right : (consts : List (List ℕ × Value)) (cases : List PureAnswers) (earlier : List TurnAnswers) (a : TurnAnswers) → AreRightTurns env cases earlier a → IsRight p f m ((as_entries consts ++ map Cases cases) ++ map Turns earlier) (Turns a)
    turns_right consts cases earlier a h =
        let s = served_signature a.callee h.term h.served in
        let front = both_unanswered a.callee (as_entries consts) (map Cases cases) (no_constants a.callee consts) (uncased a.callee cases h.alone) in (
          both_unanswered a.callee (as_entries consts ++ map Cases cases) (map Turns earlier) front (unanswered a.callee earlier h.first),
          some_with (EntryFits p.types (Turns a)) (signature_of p a.callee) s.0 s.1
              (subst (λ types. AllByRecursion (AnswerFits types s.0) a.turns × AnswerFits types s.0 a.rest) (sym conforms.frame.types) (answers_fit (constructor_types h.term) (kind_of h.term.kind) s.0 a.turns s.2 h.turns, answer_fits (constructor_types h.term) (kind_of h.term.kind) s.0 a.rest s.2 h.rest)),
        )

    all_turns : (consts : List (List ℕ × Value)) (cases : List PureAnswers) (earlier later : List TurnAnswers) → AllRight env cases earlier later → AreRight p f m ((as_entries consts ++ map Cases cases) ++ map Turns earlier) (map Turns later)
    all_turns consts cases earlier [] h = tt
    all_turns consts cases earlier (a ∷ later) h =
        let front = as_entries consts ++ map Cases cases in (
          turns_right consts cases earlier a h.0,
          subst (λ fs. AreRight p f m fs (map Turns later)) (ap (λ fs. front ++ fs) (map-append Turns earlier (a ∷ [])) ∙ sym (append_assoc front (map Turns earlier) (Turns a ∷ [])))
              (all_turns consts cases (earlier ++ a ∷ []) later h.1),
        )

    -- ---- cases

    cases_right : (consts : List (List ℕ × Value)) (earlier : List PureAnswers) (a : PureAnswers) → AreRightCases env earlier a → IsRight p f m (as_entries consts ++ map Cases earlier) (Cases a)
    cases_right consts earlier a h =
        let s = asked_signature a.callee h.types h.kind h.asked in (
          both_unanswered a.callee (as_entries consts) (map Cases earlier) (no_constants a.callee consts) (uncased a.callee earlier h.first),
          some_with (EntryFits p.types (Cases a)) (signature_of p a.callee) s.0 s.1
              (subst (λ types. AllByRecursion (CaseFits types s.0) a.cases × AnswerFits types s.0 a.rest) (sym conforms.frame.types)
              (cases_fit h.types h.kind s.0 a.cases s.2 h.cases, answer_fits h.types h.kind s.0 a.rest s.2 h.rest)),
        )

    -- cases in front of what is right after them all
    all_cases : (consts : List (List ℕ × Value)) (earlier later : List PureAnswers) (rest : List Entry) → AllCasesRight env earlier later → AreRight p f m (as_entries consts ++ map Cases (earlier ++ later)) rest
        → AreRight p f m (as_entries consts ++ map Cases earlier) (map Cases later ++ rest)
    all_cases consts earlier [] rest h right = subst (λ cs. AreRight p f m (as_entries consts ++ map Cases cs) rest) (append-nil earlier) right
    all_cases consts earlier (a ∷ later) rest h right = (
      cases_right consts earlier a h.0,
      subst (λ fs. AreRight p f m fs (map Cases later ++ rest)) (ap (λ fs. as_entries consts ++ fs) (map-append Cases earlier (a ∷ [])) ∙ sym (append_assoc (as_entries consts) (map Cases earlier) (Cases a ∷ [])))
          (all_cases consts (earlier ++ a ∷ []) later rest h.1 (subst (λ cs. AreRight p f m (as_entries consts ++ map Cases cs) rest) (sym (append_assoc earlier (a ∷ []) later)) right)),
    )

    -- ---- constants

    constant_right : (earlier : List (List ℕ × Value)) (c : List ℕ × Value) → IsRightConstant env earlier c → has_constant p c.0 ≡ true → FitsPlaces p c.0 c.1 → IsApart p f m c.0 → IsRight p f m (as_entries earlier) (Constant c.0 c.1)
    constant_right earlier c h stands fits apart = record {
      once = ungiven c.0 earlier h.first;
      there = stands;
      typed = value_typed env names.has_rules names.lawful names.builtins c.1 h.ty h.typed;
      fits = fits;
      apart = apart;
    }

    -- constants in front of what is right after them all
    constants_right : (earlier later : List (List ℕ × Value)) (rest : List Entry) → AreRightConstants env earlier later → AllByRecursion (λ (c : List ℕ × Value). has_constant p c.0 ≡ true) later → AllByRecursion (λ (c : List ℕ × Value). FitsPlaces p c.0 c.1) later → AllByRecursion (λ (c : List ℕ × Value). IsApart p f m c.0) later → AreRight p f m (as_entries (earlier ++ later)) rest
        → AreRight p f m (as_entries earlier) (as_entries later ++ rest)
    constants_right earlier [] rest h stand fit apart right = subst (λ cs. AreRight p f m (as_entries cs) rest) (append-nil earlier) right
    constants_right earlier (c ∷ later) rest h stand fit apart right = (
      constant_right earlier c h.0 stand.0 fit.0 apart.0,
      subst (λ fs. AreRight p f m fs (as_entries later ++ rest)) (map-append (λ (x : List ℕ × Value). Constant x.0 x.1) earlier (c ∷ []))
          (constants_right (earlier ++ c ∷ []) later rest h.1 stand.1 fit.1 apart.1 (subst (λ cs. AreRight p f m (as_entries cs) rest) (sym (append_assoc earlier (c ∷ []) later)) right)),
    )

    -- all entries
    pub all_right : (consts : List (List ℕ × Value)) (cases : List PureAnswers) (turns : List TurnAnswers) → AreRightConstants env [] consts → AllByRecursion (λ (c : List ℕ × Value). has_constant p c.0 ≡ true) consts → AllByRecursion (λ (c : List ℕ × Value). FitsPlaces p c.0 c.1) consts → AllByRecursion (λ (c : List ℕ × Value). IsApart p f m c.0) consts → AllCasesRight env [] cases → AllRight env cases [] turns
        → AreRight p f m [] (as_entries consts ++ (map Cases cases ++ map Turns turns))
    all_right consts cases turns constants stand fit apart extracted right =
        let of_turns = subst (λ fs. AreRight p f m fs (map Turns turns)) (append-nil (as_entries consts ++ map Cases cases)) (all_turns consts cases [] turns right) in
        let of_cases = all_cases consts [] cases (map Turns turns) extracted of_turns in
        constants_right [] consts (map Cases cases ++ map Turns turns) constants stand fit apart (subst (λ fs. AreRight p f m fs (map Cases cases ++ map Turns turns)) (append-nil (as_entries consts)) of_cases)
