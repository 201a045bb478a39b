-- The two extractors of a predicate match complementary values, in an environment that holds the numeric prelude.
use Rattle.std.proofs.Common.{◌≡◌, ℕ, List, [], ◌∷◌, ◌++◌, length, Bool, true, false, cond, Option, Some, None, refl, sym, ap, ◌∙◌, subst, arith, codes, flat_map}
use Rattle.std.specs.Prelude.{◌==◌, not, Contains, IsSomeAnd, option_and_then, option_map}
use Rattle.std.proofs.lemmas.List.Elements.{Contains-append_left}
use Rattle.std.proofs.lemmas.Bool.Decides.{nat_tests}
use Rattle.isle_base.specs.declared.ids.TermId.{TermId}
use Rattle.isle_base.specs.declared.ids.TypeId.{TypeId}
use Rattle.isle_core.specs.declared.position.Pos.{Pos}
use Rattle.isle_core.specs.Calling.{Calling, ByTurns, ByCases, NoCall, extracting}
use Rattle.isle_core.specs.Choice.{Choice}
use Rattle.isle_core.specs.Making.{MakesNothing, making}
use Rattle.isle_core.specs.Match.{extracted, results}
use Rattle.isle_core.specs.Meaning.{Meaning, case}
use Rattle.isle_core.specs.Path.{Path, Extracted}
use Rattle.isle_core.specs.Pattern.{Pattern, ConstBool}
use Rattle.isle_core.specs.Rule.{Environment}
use Rattle.isle_core.specs.Value.{Value, Truth, Found}
use Rattle.isle_core.proofs.Contained.{head_contained}
use Rattle.isle_core.proofs.OptionLaws.{some_same}
use Rattle.isle_ast.specs.Tree as tree
use Rattle.isle_ast.specs.Tree.{Def}
use Rattle.isle_declarations.specs.declared.terms.Origin.TheVariants as origin
use Rattle.isle_declarations.specs.Signatures.{Signature, Template, ByFunction, ByTemplate, ExtractorDef, term_named}
use Rattle.isle_declarations.specs.Terms.{terms}
use Rattle.isle_numerics.specs.declared.numeric_type.NumericType.{NumericType}
use Rattle.isle_numerics.specs.declared.operation.Operation.TheVariants.{Ask}
use Rattle.isle_numerics.specs.declared.operation.Predicate.{Predicate}
use Rattle.isle_numerics.specs.Definitions.{asked, conversions_from, declared, flagged, matcher, name_of, numeric_defs, operation_defs, prefixed, type_defs}
use Rattle.isle_numerics.specs.Flags.{wanting}
use Rattle.isle_numerics.specs.NumericTypes.{numeric_types}
use Rattle.isle_numerics.specs.Table.{operations}
use Rattle.isle_numerics.proofs.FlagLaws.{complements}
use Rattle.isle_sema.specs.PatternPass.{pattern_within, term_tree}
use Rattle.isle_sema.specs.Templates.{template_pass, templates}
use Rattle.isle_sema.specs.Typing.{Typed}
use Rattle.isle_sema.proofs.Conversions.{term_alone}
use Rattle.isle_sema.proofs.TypedParts.{given_in}
use Rattle.isle_sema.proofs.TypedTerms.{is_there}
use Rattle.isle_templates.specs.Substituted.{expanded, opened, template_of, templates_at, whole_templates}
use Rattle.isle_terms.specs.Converters.{Conversion, conversion, converter_between, converters}
use Rattle.isle_terms.specs.TypeNames.{type_named}
use Rattle.isle_terms.specs.Whole.{Whole, ret_type, termed, whole_of}
use Rattle.isle_writing.specs.Erased.{no_place, placed}
use Rattle.isle_prelude_laws.specs.HonestMeaning.{answer_to}
use Rattle.isle_prelude_laws.specs.PredicateFlags.{IsTermOf, MatchesIf, PredicatesComplement, used_pattern}
use Rattle.isle_prelude_laws.proofs.GivenTemplates.{by_function, given_template}
use Rattle.isle_prelude_laws.proofs.GivenTerms.{IsGivenTerm, given_name, given_number, given_term, makes_nothing, names_apart}
use Rattle.isle_prelude_laws.proofs.LaidOut.{one_term}
use Rattle.isle_prelude_laws.proofs.OptDefs.{extractor_there, flat_there, term_there}
use Rattle.isle_prelude_laws.proofs.Unexpanded.{later_template, none_at}

-- ---- what stands among the definitions

-- what a predicate's operation gives stands in the numeric prelude
in_numbers : (ty : NumericType) (p : Predicate) (d : Def) → Contains numeric_types ty → Contains (operations ty.signed) (Ask p)
    → Contains (operation_defs (name_of ty) (Ask p)) d → Contains numeric_defs d
unfolding numeric_defs
in_numbers ty p d numeric among c =
    Contains-append_left (flat_map type_defs numeric_types) (flat_map conversions_from numeric_types) d
    (flat_there type_defs numeric_types ty d numeric (flat_there (operation_defs (name_of ty)) (operations ty.signed) (Ask p) d among c))

-- a pure declared term
abbrev pure_signature : (term : List ℕ) (args : List (List ℕ)) (ret : List ℕ) → Pos → Signature
pure_signature term args ret at =
    record { term = term; pure = true; multi = false; partial = false; recursive = false; args = args; ret = ret; pos = at; origin = origin.Declared }

signature_there : (defs : List Def) (term : List ℕ) (args : List (List ℕ)) (ret : List ℕ) (at : Pos)
    → Contains defs (placed at (declared term false args ret)) → Contains (terms defs) (pure_signature term args ret at)
signature_there defs term args ret at c =
    term_there defs (placed at (declared term false args ret)) (pure_signature term args ret at) c (head_contained (pure_signature term args ret at) [])

-- the number of a term by its name
numbered : (defs : List Def) (env : Environment) (s : Signature) (term : TermId) → Typed defs env → Contains (terms defs) s → IsTermOf env s.term term
    → term_named (terms defs) s.term ≡ Some term
numbered defs env s term typed c h =
    let g = given_in typed in
    let n = given_number defs env s g c in
    let k = given_term defs env s n.0 g c n.1 in
    let at = is_there env.terms term.0 h.there in
    n.1 ∙ ap Some (one_term defs env n.0 term k.decl at.0 typed k.there at.1 (given_name defs env s n.0 g k ∙ sym h.named))

-- ---- the pattern of a use

same_number : (n : ℕ) → (n == n) ≡ true
same_number n = grind (arith, nat_tests)

-- nothing is converted between one type and itself
own_within : (w : Whole) (ty : TypeId) (q : Option Pattern) → pattern_within w (conversion w (Some ty) (Some ty)) q ≡ q
own_within w ty q =
    ap (λ b. pattern_within w (cond b None (option_and_then (λ (c : Conversion). termed w c.term) (converter_between w.defs (converters w.defs) ty ty))) q)
    (same_number ty.0)

-- the tree of a term that wants a flag
flag_tree : (w : Whole) (ty : TypeId) (term : TermId) (flag : Bool) (of expected : Option TypeId) (number : Option TermId)
    → of ≡ Some ty → expected ≡ Some ty → number ≡ Some term
    → pattern_within w (conversion w of expected) (term_tree of number (Some (ConstBool flag ∷ []))) ≡ Some (wanting ty term flag)
flag_tree w ty term flag of expected number gives wants is =
    let parts : Option (List Pattern) = Some (ConstBool flag ∷ []) in
    ap (λ t. pattern_within w (conversion w t expected) (term_tree t number parts)) gives
    ∙ ap (λ t. pattern_within w (conversion w (Some ty) t) (term_tree (Some ty) number parts)) wants
    ∙ own_within w ty (term_tree (Some ty) number parts)
    ∙ ap (λ n. term_tree (Some ty) n parts) is

-- such a pattern uses no template, so it is whole
flag_whole : (ts : List (Option Pattern)) (ty : TypeId) (term flagging : TermId) (flag : Bool) → template_of ts flagging ≡ None
    → template_of ts term ≡ Some (wanting ty flagging flag) → template_of (whole_templates ts) term ≡ Some (wanting ty flagging flag)
flag_whole [] ty term flagging flag none at = absurd cc
flag_whole (t ∷ ts) ty term flagging flag none at =
    let all = t ∷ ts in
    let below = templates_at all (length ts) in
    later_template (expanded below) all term ∙ ap (option_map (expanded below)) at
    ∙ ap (λ o. Some (opened o ty flagging (ConstBool flag ∷ []))) (none_at all (length ts) flagging none)

-- ---- a predicate's terms

-- the term whose flag is answered, which Rust gives, and its type
record IsFlagging (defs : List Def) (env : Environment) (ty term : List ℕ) (flagging : TermId) : Type 0 where
  number : term_named (terms defs) term ≡ Some flagging
  external : making env flagging ≡ MakesNothing
  none : template_of (templates (whole_of defs)) flagging ≡ None
  of : TypeId
  typed : type_named defs ty ≡ Some of
  gives : ret_type (whole_of defs) (termed (whole_of defs) term) ≡ Some of

flagging_there : (defs : List Def) (env : Environment) (ty term : List ℕ) (flagging : TermId) (spot place : Pos) → Typed defs env
    → Contains defs (placed spot (declared term false (codes "bool" ∷ []) ty)) → Contains defs (tree.ExternExtractor term term false place)
    → IsTermOf env term flagging → IsFlagging defs env ty term flagging
flagging_there defs env ty term flagging spot place typed there taken is =
    let s : Signature = pure_signature term (codes "bool" ∷ []) ty spot in
    let g = given_in typed in
    let c = signature_there defs term (codes "bool" ∷ []) ty spot there in
    let number = numbered defs env s flagging typed c is in
    let k : IsGivenTerm defs env s flagging = given_term defs env s flagging g c number in
    let x : ExtractorDef = record { term = term; by = ByFunction term false; pos = place } in
    let alone : termed (whole_of defs) term ≡ Some s = term_alone (terms defs) s (names_apart defs env g) c in
    record {
      number = number;
      external = makes_nothing k refl;
      none = by_function defs env s flagging x term false g k (extractor_there defs (tree.ExternExtractor term term false place) x taken refl) refl refl;
      of = k.decl.ret_ty;
      typed = k.ret;
      gives = ap (ret_type (whole_of defs)) alone ∙ k.ret;
    }

-- the pattern that stands for a term which wants a flag
used_flag : (defs : List Def) (env : Environment) (ty term name : List ℕ) (flagging wanted : TermId) (flag : Bool) (spot place : Pos) → Typed defs env
    → (f : IsFlagging defs env ty term flagging) → Contains defs (placed spot (declared name false [] ty))
    → Contains defs (tree.Extractor name [] (flagged term flag) place) → IsTermOf env name wanted
    → used_pattern defs wanted ≡ Some (wanting f.of flagging flag)
used_flag defs env ty term name flagging wanted flag spot place typed f there stands is =
    let s : Signature = pure_signature name [] ty spot in
    let g = given_in typed in
    let w = whole_of defs in
    let c = signature_there defs name [] ty spot there in
    let number = numbered defs env s wanted typed c is in
    let k : IsGivenTerm defs env s wanted = given_term defs env s wanted g c number in
    let t : Template = record { params = []; pattern = flagged term flag } in
    let x : ExtractorDef = record { term = name; by = ByTemplate t; pos = place } in
    let q = given_template defs env s wanted x t g k (extractor_there defs (tree.Extractor name [] (flagged term flag) place) x stands refl) refl refl in
    let alone : termed w name ≡ Some s = term_alone (terms defs) s (names_apart defs env g) c in
    let made : (template_pass w name t).tree ≡ Some (wanting f.of flagging flag) =
    flag_tree w f.of flagging flag (ret_type w (termed w term)) (ret_type w (termed w name)) (term_named (terms defs) term) f.gives (ap (ret_type w) alone ∙ f.typed) f.number in
    let same : q.0 ≡ wanting f.of flagging flag = some_same q.0 (wanting f.of flagging flag) (sym q.1 ∙ made) in
    flag_whole (templates w) f.of wanted flagging flag f.none (q.2 ∙ ap Some same)

-- ---- the law

answered : (m : Meaning) (place : ℕ) (c : Calling) (v : Value) (vs : List Value) → answer_to m c v ≡ Some (Found vs) → extracted m place c v ≡ Some vs
answered m place (ByCases callee kind) v vs h = ap (results place) (some_same (case m callee (v ∷ [])) (Found vs) h)
answered m place (ByTurns callee kind) v vs h = absurd cc
answered m place NoCall v vs h = absurd cc

turned : {X : Type 0} (b : Bool) (x y : X) → cond b x y ≡ cond (not b) y x
turned true x y = refl
turned false x y = refl

pub predicates_complement : PredicatesComplement
predicates_complement defs env ty p flagging when when_not typed held h m v flag answers =
    let name = name_of ty in
    let base = asked (Ask p) in
    let term = matcher name base in
    let among : (d : Def) → Contains (operation_defs name (Ask p)) d → (at : Pos) × Contains defs (placed at d) = λ d c. held d (in_numbers ty p d h.numeric h.among c) in
    let own = among (declared term false (codes "bool" ∷ []) name) (2, omega arith, refl) in
    let taken = among (tree.ExternExtractor term term false no_place) (3, omega arith, refl) in
    let f = flagging_there defs env name term flagging own.0 taken.0 typed own.1 taken.1 h.flag in
    let word = prefixed name (codes "when_" ++ base) in
    let other = prefixed name (codes "when_not_" ++ base) in
    let here = among (declared word false [] name) (6, omega arith, refl) in
    let stands = among (tree.Extractor word [] (flagged term true) no_place) (7, omega arith, refl) in
    let there = among (declared other false [] name) (8, omega arith, refl) in
    let fails = among (tree.Extractor other [] (flagged term false) no_place) (9, omega arith, refl) in
    let one = used_flag defs env name term word flagging when true here.0 stands.0 typed f here.1 stands.1 h.holds in
    let two = used_flag defs env name term other flagging when_not false there.0 fails.0 typed f there.1 fails.1 h.fails in
    let answer : (choice : Choice) (at : Path) → extracted m (choice (Extracted flagging at)) (extracting env flagging) v ≡ Some (Truth flag ∷ []) =
    λ choice at. answered m (choice (Extracted flagging at)) (extracting env flagging) v (Truth flag ∷ []) answers in (
      subst (λ o. IsSomeAnd o (MatchesIf env m v flag)) (sym one)
          (λ choice at names. (complements env m choice f.of flagging at v names flag (record { external = f.external; answers = answer choice at })).when),
      subst (λ o. IsSomeAnd o (MatchesIf env m v (not flag))) (sym two)
          (λ choice at names.
          (complements env m choice f.of flagging at v names flag (record { external = f.external; answers = answer choice at })).when_not ∙ turned flag None (Some names)),
    )
