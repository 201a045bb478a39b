-- Patterns match arguments exactly if their tests hold, and then names are the values of places.
use Rattle.std.proofs.Common.{◌≡◌, ℕ, zero, suc, ◌+◌, List, [], ◌∷◌, ◌++◌, length, map, Bool, true, false, cond, eqb, ◌&&◌, Option, Some, None, refl, sym, ap, ◌∙◌, subst, arith}
use Rattle.std.specs.Prelude.{IsSomeAnd, All, Contains, find, slice_get, option_and_then, option_map}
use Rattle.std.specs.List.{AllByRecursion}
use Rattle.std.proofs.lemmas.List.Elements.{recursion_from_All, Contains-append_left, Contains-append_right}
use Rattle.std.proofs.lemmas.List.Folds.{list_all-append}
use Rattle.std.proofs.lemmas.Option.{same_Some, slice_get-map}
use Rattle.isle_core.specs.declared.rule_sets.Constraint.TheVariants as constraint
use Rattle.isle_core.specs.Value.{Value, Truth, Answer, Plain, Found, Nothing, Several}
use Rattle.isle_core.specs.declared.values.Callee.{Callee}
use Rattle.isle_core.specs.declared.types.ReturnKind.{ReturnKind}
use Rattle.isle_core.specs.declared.types.ReturnKind.TheVariants as return_kind
use Rattle.isle_core.specs.declared.types.Term.{Term}
use Rattle.isle_core.specs.declared.types.TermKind.{TermKind}
use Rattle.isle_core.specs.declared.types.TermKind.TheVariants as term_kind
use Rattle.isle_core.specs.declared.types.ExtractorKind.TheVariants as extractor_kind
use Rattle.isle_core.specs.SameValue.{same_value}
use Rattle.isle_core.specs.Constants.{int_value}
use Rattle.isle_core.specs.Meaning.{PureAnswers, Meaning, case, case_at, case_or, cases_of, same_values}
use Rattle.isle_core.specs.Answered.{item_of, answer_held}
use Rattle.isle_core.specs.CalledTerms.{Extractor, CalledTerm, is_made_kind, is_made_term, is_made, unless_made, extracted_by, extracted_by_all, extracted_in}
use Rattle.isle_core.specs.Lawful.{Fits, all_cases, CallingFits}
use Rattle.isle_base.specs.declared.ids.TermId.{TermId}
use Rattle.isle_base.specs.declared.ids.TypeId.{TypeId}
use Rattle.isle_base.specs.declared.ids.VariantId.{VariantId}
use Rattle.isle_core.specs.Form.{is_made_by, parts}
use Rattle.isle_core.specs.HasType.{HasType, HaveTypes}
use Rattle.isle_core.specs.Having.{const_of}
use Rattle.isle_core.specs.Making.{Making, MakesVariant, MakesStruct, MakesNothing, making_kind, making_of, making}
use Rattle.isle_core.specs.Choice.{Choice}
use Rattle.isle_core.specs.Opening.{Opening, AsVariant, AsStruct, ByExtractor, opening_by, opening, answer_path, result_path, part_path}
use Rattle.isle_core.specs.Calling.{Calling, ByTurns, ByCases, NoCall, extracting, extracting_of, extracting_kind}
use Rattle.isle_core.specs.Pattern as pattern
use Rattle.isle_core.specs.Pattern.{Pattern, Patterns, NoPattern, APattern, Var, ConstBool, ConstInt, ConstPrim, Wildcard, BindPattern, And}
use Rattle.isle_core.specs.BuiltRule.{IsExtractorKind}
use Rattle.isle_core.specs.PatternType.{AreVariantsApart, IsOfMaking, OpensType, part_types, IsPatternOf, ArePartsOf, AreEachOf, ArePatternsOf}
use Rattle.isle_core.specs.Terms.{sym_text}
use Rattle.isle_core.proofs.Contained.{head_contained}
use Rattle.isle_core.proofs.MadeParts.{made_parts}
use Rattle.isle_core.specs.Match.{Names, no_names, with, if_holds, met, equals_const, results, extracted, taken_apart, matches, matches_parts, matches_each, matches_all}
use Rattle.isle_core.specs.Path.{Path, Arg, VariantField, StructField, Extracted, Chosen, Inner, Part}
use Rattle.isle_core.specs.Tests.{Places, no_places, met_tests, met_after, found_tests, opening_tests, tests, parts_tests, each_tests, after, after_parts, after_each, args_tests, args_after}
use Rattle.isle_core.specs.ValueAt.{Held, One, extracted_held, item_at, chosen_held, inner_held, part_held, is_found, a_value, held, field_held, is_item, is_one, is_value, is_const, meets, equal_held, holds, all_hold}
use Rattle.isle_core.specs.Rule.{Environment}
use Rattle.isle_core.specs.Served.{AreServed}

-- what stands at each path
abbrev pub Values : Type 0
Values = Path → Held

-- a name's value stands at its place
abbrev pub StandsAt : Values → Option Value → Option Path → Type 0
StandsAt val None None = Unit {0}
StandsAt val (Some v) (Some p) = val p ≡ a_value v
StandsAt val None (Some p) = ⊥
StandsAt val (Some v) None = ⊥

-- fields stand at the paths of fields, what extractors give at theirs, and the chosen items of lists at theirs
pub record HoldsParts (env : Environment) (m : Meaning) (choice : Choice) (val : Values) : Type 0 where
  pub variant : (variant : VariantId) (i : ℕ) (p : Path) → val (VariantField variant i p) ≡ field_held i (val p)
  pub struct : (i : ℕ) (p : Path) → val (StructField i p) ≡ field_held i (val p)
  pub extracted : (term : TermId) (p : Path) → val (Extracted term p) ≡ extracted_held m (extracting env term) (val p)
  pub inner : (p : Path) → val (Inner p) ≡ inner_held (val p)
  pub chosen : (p : Path) → val (Chosen p) ≡ chosen_held (choice p) (val p)
  pub part : (i : ℕ) (p : Path) → val (Part i p) ≡ part_held i (val p)

-- each name's value stands at its place
pub record Agree (val : Values) (names : Names) (places : Places) : Type 0 where
  pub by : (x : ℕ) → StandsAt val (names x) (places x)

-- a match and its tests agree: neither holds, or both do and names agree with places
abbrev pub Both : Values → Option Names → Bool → Places → Type 0
Both val None b places = b ≡ false
Both val (Some names) b places = (b ≡ true) × Agree val names places

pub none_agrees : (val : Values) → Agree val no_names no_places
none_agrees val = record { by = λ x. tt }

stands_with : (val : Values) (b : Bool) (v : Value) (p : Path) (o : Option Value) (q : Option Path) → val p ≡ a_value v → StandsAt val o q → StandsAt val (cond b (Some v) o) (cond b (Some p) q)
stands_with val true v p o q e h = e
stands_with val false v p o q e h = h

-- so after one name more
pub with_agrees : (val : Values) (names : Names) (places : Places) (x : ℕ) (v : Value) (p : Path) → val p ≡ a_value v → Agree val names places → Agree val (with names x v) (with places x p)
with_agrees val names places x v p e a = record { by = λ k. stands_with val (eqb x k) v p (names k) (places k) e (a.by k) }

from_zero : (j : ℕ) → j + 0 ≡ j
from_zero j = omega arith

first : (i : ℕ) → 0 + i ≡ i
first i = omega arith

next : (j i : ℕ) → suc j + i ≡ j + suc i
next j i = omega arith

-- one test
both_test : (val : Values) (b t : Bool) (names : Names) (places : Places) → t ≡ b → Agree val names places → Both val (if_holds b names) (t && true) places
both_test val true t names places e a = (ap (λ x. x && true) e, a)
both_test val false t names places e a = ap (λ x. x && true) e

-- one after the other
both_then : (val : Values) (o : Option Names) (b c : Bool) (mid end : Places) (go : Names → Option Names) → Both val o b mid → ((names : Names) → Agree val names mid → Both val (go names) c end) → Both val (option_and_then go o) (b && c) end
both_then val None b c mid end go h k = ap (λ x. x && c) h
both_then val (Some names) b c mid end go h k = subst (λ x. Both val (go names) (x && c) end) (sym h.0) (k names h.1)

met_both : (env : Environment) (m : Meaning) (val : Values) (o : Option Value) (q : Option Path) (x : ℕ) (v : Value) (p : Path) (names : Names) (places : Places) → StandsAt val o q → val p ≡ a_value v → Agree val names places
    → Both val (met o x v names) (all_hold env m val (met_tests q p)) (met_after q x p places)
met_both env m val None None x v p names places h e a = (refl, with_agrees val names places x v p e a)
met_both env m val (Some u) (Some q) x v p names places h e a = both_test val (same_value u v) (equal_held (val q) (val p)) names places (rw (h, e) refl) a
met_both env m val None (Some q) x v p names places h e a = absurd h
met_both env m val (Some u) None x v p names places h e a = absurd h

const_both : (val : Values) (o : Option Value) (v : Value) (h : Held) (names : Names) (places : Places) → h ≡ a_value v → Agree val names places → Both val (equals_const o v names) (is_const o h && true) places
const_both val None v h names places e a = refl
const_both val (Some w) v h names places e a = both_test val (same_value v w) (is_value w h) names places (rw e refl) a

and_true : (b : Bool) → b && true ≡ b
and_true true = refl
and_true false = refl

-- ---- what a term takes apart

-- each value stands at the path of its part
abbrev pub PartsStand : Values → Opening → Path → (first : ℕ) → List Value → Type 0
PartsStand val o at i vs = (j : ℕ) (w : Value) → slice_get vs j ≡ Some w → val (part_path o (j + i) at) ≡ a_value w

-- the parts of a term's pattern are matched as their tests hold, where values of their types stand at their paths
abbrev PartsBoth : Environment → Meaning → Choice → Values → Opening → Path → Option (List TypeId) → Patterns → Names → Places → Type 0
PartsBoth env m choice val o at types ps names places = (vs : List Value) (tys : List TypeId) → types ≡ Some tys → HaveTypes env vs tys → PartsStand val o at 0 vs
    → Both val (matches_parts env m choice o ps 0 at vs names) (all_hold env m val (parts_tests env o ps 0 at places)) (after_parts env o ps 0 at places)

-- what is made by the term stands at the path exactly if its test holds
made_tested : (env : Environment) (m : Meaning) (val : Values) (term : TermId) (c : Calling) (t : Option Term) (ty : TypeId) (mk : Making) (v : Value) (p : Path) → IsOfMaking ty mk → val p ≡ a_value v → all_hold env m val (opening_tests (opening_by term mk c t) p) ≡ is_made_by env mk v
made_tested env m val term c t ty (MakesVariant of variant) v p is e = ap (λ h. is_one (is_made_by env (MakesVariant of variant)) h && true) e ∙ and_true (is_made_by env (MakesVariant of variant) v)
made_tested env m val term c t ty (MakesStruct of) v p is e = ap (λ h. is_one (is_made_by env (MakesStruct of)) h && true) e ∙ and_true (is_made_by env (MakesStruct of) v)
made_tested env m val term c t ty MakesNothing v p is e = absurd is

-- and its fields stand at the paths of fields
variant_stands : (env : Environment) (m : Meaning) (choice : Choice) (val : Values) (of : TypeId) (variant : VariantId) (v : Value) (p : Path) → HoldsParts env m choice val → val p ≡ a_value v → PartsStand val (AsVariant of variant) p 0 (parts v)
variant_stands env m choice val of variant v p f e j w h = f.variant variant (j + 0) p ∙ ap (field_held (j + 0)) e ∙ ap (λ i. held (slice_get (parts v) i)) (from_zero j) ∙ ap held h

struct_stands : (env : Environment) (m : Meaning) (choice : Choice) (val : Values) (of : TypeId) (v : Value) (p : Path) → HoldsParts env m choice val → val p ≡ a_value v → PartsStand val (AsStruct of) p 0 (parts v)
struct_stands env m choice val of v p f e j w h = f.struct (j + 0) p ∙ ap (field_held (j + 0)) e ∙ ap (λ i. held (slice_get (parts v) i)) (from_zero j) ∙ ap held h

if_taken : (val : Values) (b : Bool) (vs : List Value) (go : List Value → Option Names) (rest : Bool) (end : Places) → (b ≡ true → Both val (go vs) rest end) → Both val (option_and_then go (cond b (Some vs) None)) (b && rest) end
if_taken val true vs go rest end h = h refl
if_taken val false vs go rest end h = refl

-- ---- what an extractor answers

-- answered by cases
abbrev IsByCases : Calling → Type 0
IsByCases (ByCases callee kind) = Unit {0}
IsByCases (ByTurns callee kind) = ⊥
IsByCases NoCall = ⊥

case_in : (P : Answer → Type 0) (test : List Value × Answer → Bool) (cases : List (List Value × Answer)) (rest : Answer) → P rest → AllByRecursion P (map (λ (c : List Value × Answer). c.1) cases) → P (case_or rest (find test cases))
case_in P test [] rest h k = h
case_in P test (c ∷ cases) rest h k = pick (test c) (case_in P test cases rest h k.1)
  where
    pick : (b : Bool) → P (case_or rest (find test cases)) → P (case_or rest (cond b (Some c) (find test cases)))
    pick true l = k.0
    pick false l = l

-- a case that fits answers with its kind and types
pub case_fits : (env : Environment) (tys : List TypeId) (kind : ReturnKind) (o : Option PureAnswers) (vs : List Value) → IsSomeAnd o (λ a. All (Fits env kind tys) (all_cases a)) → Fits env kind tys (case_at o vs)
case_fits env tys kind None vs h = absurd h
case_fits env tys kind (Some a) vs h =
    let each = recursion_from_All (Fits env kind tys) (all_cases a) h in
    case_in (Fits env kind tys) (λ (c : List Value × Answer). same_values c.0 vs) a.cases a.rest each.0 each.1

-- a result stands at its path
result_stands : (env : Environment) (m : Meaning) (choice : Choice) (val : Values) (vs : List Value) (tys : List TypeId) (q : Path) (j : ℕ) (w : Value) → HoldsParts env m choice val → HaveTypes env vs tys → val q ≡ One (item_of vs) → slice_get vs j ≡ Some w → val (result_path (length tys) j q) ≡ a_value w
result_stands env m choice val [] [] q j w f h e g = cc
result_stands env m choice val (v ∷ []) (ty ∷ []) q zero w f h e g = let same : v ≡ w = cc in e ∙ ap a_value same
result_stands env m choice val (v ∷ []) (ty ∷ []) q (suc j) w f h e g = cc
result_stands env m choice val (v ∷ u ∷ vs) (ty ∷ of ∷ tys) q j w f h e g = f.part j q ∙ ap (part_held j) e ∙ ap held g
result_stands env m choice val [] (ty ∷ tys) q j w f h e g = absurd h
result_stands env m choice val (v ∷ vs) [] q j w f h e g = absurd h
result_stands env m choice val (v ∷ []) (ty ∷ of ∷ tys) q j w f h e g = absurd h.1
result_stands env m choice val (v ∷ u ∷ vs) (ty ∷ []) q j w f h e g = absurd h.1

-- what is so of each item is so of the one at a place
pub fit_there : {A : Type 0} (P : A → Type 0) (xs : List A) (i : ℕ) (x : A) → AllByRecursion P xs → slice_get xs i ≡ Some x → P x
fit_there P (y ∷ xs) zero x h e = subst P (same_Some y x e) h.0
fit_there P (y ∷ xs) (suc i) x h e = fit_there P xs i x h.1 e
fit_there P [] i x h e = cc

-- its parts are matched as its tests hold, whatever it answers
answer_both : (env : Environment) (m : Meaning) (choice : Choice) (val : Values) (callee : Callee) (kind : ReturnKind) (tys : List TypeId) (a : Answer) (e : Path) (go : List Value → Option Names) (rest : Bool) (end : Places) → HoldsParts env m choice val → Fits env kind tys a → val e ≡ answer_held a
    → ((vs : List Value) → HaveTypes env vs tys → ((j : ℕ) (w : Value) → slice_get vs j ≡ Some w → val (result_path (length tys) j (answer_path (ByCases callee kind) e)) ≡ a_value w) → Both val (go vs) rest end)
    → Both val (option_and_then go (results (choice e) a)) (all_hold env m val (found_tests (ByCases callee kind) e) && rest) end
answer_both env m choice val callee return_kind.Plain tys (Plain vs) e go rest end f h is k = k vs h (λ j w g. result_stands env m choice val vs tys e j w f h is g)
answer_both env m choice val callee return_kind.Option tys (Found vs) e go rest end f h is k =
    subst (λ x. Both val (go vs) ((is_found x && true) && rest) end) (sym is) (k vs h (λ j w g. result_stands env m choice val vs tys (Inner e) j w f h (f.inner e ∙ ap inner_held is) g))
answer_both env m choice val callee return_kind.Option tys Nothing e go rest end f h is k = ap (λ x. (is_found x && true) && rest) is
answer_both env m choice val callee return_kind.Plain tys (Found vs) e go rest end f h is k = absurd h
answer_both env m choice val callee return_kind.Plain tys Nothing e go rest end f h is k = absurd h
answer_both env m choice val callee return_kind.Plain tys (Several items) e go rest end f h is k = absurd h
answer_both env m choice val callee return_kind.Option tys (Plain vs) e go rest end f h is k = absurd h
answer_both env m choice val callee return_kind.Option tys (Several items) e go rest end f h is k = absurd h
answer_both env m choice val callee return_kind.Iterator tys (Several items) e go rest end f h is k =
    let at : val (Chosen e) ≡ item_at (option_map item_of (slice_get items (choice e))) = f.chosen e ∙ ap (chosen_held (choice e)) is ∙ ap item_at (slice_get-map item_of items (choice e)) in
    item_both (slice_get items (choice e)) at (λ vs there. fit_there (λ xs. HaveTypes env xs tys) items (choice e) vs h there)
  where
    item_both : (o : Option (List Value)) → val (Chosen e) ≡ item_at (option_map item_of o) → ((vs : List Value) → o ≡ Some vs → HaveTypes env vs tys)
        → Both val (option_and_then go o) ((is_item (val (Chosen e)) && true) && rest) end
    item_both None at types = ap (λ x. (is_item x && true) && rest) at
    item_both (Some vs) at types = subst (λ x. Both val (go vs) ((is_item x && true) && rest) end) (sym at) (k vs (types vs refl) (λ j w g. result_stands env m choice val vs tys (Chosen e) j w f (types vs refl) at g))
answer_both env m choice val callee return_kind.Iterator tys (Plain vs) e go rest end f h is k = absurd h
answer_both env m choice val callee return_kind.Iterator tys (Found vs) e go rest end f h is k = absurd h
answer_both env m choice val callee return_kind.Iterator tys Nothing e go rest end f h is k = absurd h

-- so of a term that is called as an extractor
extractor_both : (env : Environment) (m : Meaning) (choice : Choice) (val : Values) (term : TermId) (c : Calling) (tys : List TypeId) (v : Value) (at : Path) (go : List Value → Option Names) (rest : Bool) (end : Places) → HoldsParts env m choice val → CallingFits env m tys c → val (Extracted term at) ≡ extracted_held m c (val at) → val at ≡ a_value v
    → ((vs : List Value) → HaveTypes env vs tys → ((j : ℕ) (w : Value) → slice_get vs j ≡ Some w → val (result_path (length tys) j (answer_path c (Extracted term at))) ≡ a_value w) → Both val (go vs) rest end)
    → IsByCases c → Both val (option_and_then go (extracted m (choice (Extracted term at)) c v)) (all_hold env m val (found_tests c (Extracted term at)) && rest) end
extractor_both env m choice val term (ByCases callee kind) tys v at go rest end f h is e k by =
    answer_both env m choice val callee kind tys (case m callee (v ∷ [])) (Extracted term at) go rest end f (case_fits env tys kind (cases_of m callee) (v ∷ []) h.0) (is ∙ ap (extracted_held m (ByCases callee kind)) e) k
extractor_both env m choice val term (ByTurns callee kind) tys v at go rest end f h is e k by = absurd by
extractor_both env m choice val term NoCall tys v at go rest end f h is e k by = absurd by

-- ---- a term

term_both : (env : Environment) (m : Meaning) (choice : Choice) (val : Values) (ty : TypeId) (term : TermId) (mk : Making) (c : Calling) (t : Option Term) (v : Value) (at : Path) (ps : Patterns) (names : Names) (places : Places) → AreVariantsApart env → HoldsParts env m choice val → OpensType ty mk t → ArePartsOf env (part_types env mk t) ps
    → HasType env v ty → val at ≡ a_value v → val (Extracted term at) ≡ extracted_held m c (val at) → (mk ≡ MakesNothing → IsByCases c × IsSomeAnd t (λ (x : Term). CallingFits env m x.arg_tys c))
    → PartsBoth env m choice val (opening_by term mk c t) at (part_types env mk t) ps names places
    → Both val (option_and_then (λ vs. matches_parts env m choice (opening_by term mk c t) ps 0 at vs names) (taken_apart env m (choice (Extracted term at)) mk c v)) (all_hold env m val (opening_tests (opening_by term mk c t) at) && all_hold env m val (parts_tests env (opening_by term mk c t) ps 0 at places)) (after_parts env (opening_by term mk c t) ps 0 at places)
term_both env m choice val ty term (MakesVariant of variant) c t v at ps names places apart f opens typed h e is served go =
    let mk = MakesVariant of variant in
    let end = after_parts env (AsVariant of variant) ps 0 at places in
    subst (λ b. Both val (option_and_then (λ vs. matches_parts env m choice (opening_by term mk c t) ps 0 at vs names) (taken_apart env m (choice (Extracted term at)) mk c v)) (b && all_hold env m val (parts_tests env (AsVariant of variant) ps 0 at places)) end) (sym (made_tested env m val term c t ty mk v at opens e))
    (if_taken val (is_made_by env mk v) (parts v) (λ vs. matches_parts env m choice (AsVariant of variant) ps 0 at vs names) (all_hold env m val (parts_tests env (AsVariant of variant) ps 0 at places)) end
    (λ made. let k = made_parts env ty mk v apart opens h made in go (parts v) k.tys k.is k.types (variant_stands env m choice val of variant v at f e)))
term_both env m choice val ty term (MakesStruct of) c t v at ps names places apart f opens typed h e is served go =
    let mk = MakesStruct of in
    let end = after_parts env (AsStruct of) ps 0 at places in
    subst (λ b. Both val (option_and_then (λ vs. matches_parts env m choice (opening_by term mk c t) ps 0 at vs names) (taken_apart env m (choice (Extracted term at)) mk c v)) (b && all_hold env m val (parts_tests env (AsStruct of) ps 0 at places)) end) (sym (made_tested env m val term c t ty mk v at opens e))
    (if_taken val (is_made_by env mk v) (parts v) (λ vs. matches_parts env m choice (AsStruct of) ps 0 at vs names) (all_hold env m val (parts_tests env (AsStruct of) ps 0 at places)) end
    (λ made. let k = made_parts env ty mk v apart opens h made in go (parts v) k.tys k.is k.types (struct_stands env m choice val of v at f e)))
term_both env m choice val ty term MakesNothing c None v at ps names places apart f opens typed h e is served go = absurd opens
term_both env m choice val ty term MakesNothing c (Some x) v at ps names places apart f opens typed h e is served go =
    extractor_both env m choice val term c x.arg_tys v at (λ vs. matches_parts env m choice (ByExtractor term c (length x.arg_tys)) ps 0 at vs names) (all_hold env m val (parts_tests env (ByExtractor term c (length x.arg_tys)) ps 0 at places)) (after_parts env (ByExtractor term c (length x.arg_tys)) ps 0 at places) f (served refl).1 is e
    (λ vs types stand. go vs x.arg_tys refl types (λ j w g. ap (λ i. val (result_path (length x.arg_tys) i (answer_path c (Extracted term at)))) (from_zero j) ∙ stand j w g)) (served refl).0

pub parts_given : (env : Environment) (o : Option (List TypeId)) (ps : Patterns) (tys : List TypeId) → o ≡ Some tys → ArePartsOf env o ps → ArePartsOf env (Some tys) ps
parts_given env o ps tys e h = subst (λ x. ArePartsOf env x ps) e h

-- ---- what patterns call

pub served_first : (env : Environment) (m : Meaning) (xs ys : List CalledTerm) → AreServed env m (xs ++ ys) → AreServed env m xs
served_first env m xs ys h o c = h o (Contains-append_left xs ys o c)

pub served_rest : (env : Environment) (m : Meaning) (xs ys : List CalledTerm) → AreServed env m (xs ++ ys) → AreServed env m ys
served_rest env m xs ys h o c = h o (Contains-append_right xs ys o c)

-- a term as an extractor
abbrev pub extractor_of : TermId → CalledTerm
extractor_of term = record { term = term; role = Extractor }

pub extracted_here : (env : Environment) (term : TermId) → is_made env term ≡ false → Contains (unless_made env Extractor term) (extractor_of term)
extracted_here env term e = subst (λ b. Contains (cond b [] (extractor_of term ∷ [])) (extractor_of term)) (sym e) (head_contained (extractor_of term) [])

pub not_made : (o : Option Term) → making_of o ≡ MakesNothing → is_made_term o ≡ false
not_made None e = refl
not_made (Some t) e = of_kind t.kind e
  where
    of_kind : (k : TermKind) → making_kind k ≡ MakesNothing → is_made_kind k ≡ false
    of_kind (term_kind.Decl pure multi partial recursive constructor extractor) h = refl
    of_kind (term_kind.Variant ty variant) h = cc
    of_kind (term_kind.Struct ty) h = cc

by_cases : (env : Environment) (ty : TypeId) (o : Option Term) → OpensType ty MakesNothing o → IsByCases (extracting_of env o)
by_cases env ty None h = absurd h
by_cases env ty (Some t) h = of_kind t.kind h.0
  where
    of_kind : (k : TermKind) → IsExtractorKind k → IsByCases (extracting_kind env k)
    of_kind (term_kind.Decl pure multi partial recursive by (extractor_kind.External func infallible)) i = tt
    of_kind (term_kind.Decl pure multi partial recursive by extractor_kind.Absent) i = absurd i
    of_kind (term_kind.Decl pure multi partial recursive by extractor_kind.Internal) i = absurd i
    of_kind (term_kind.Variant of variant) i = absurd i
    of_kind (term_kind.Struct of) i = absurd i

-- ---- patterns

module _ (env : Environment) (m : Meaning) (choice : Choice) (val : Values) (apart : AreVariantsApart env) (holds_parts : HoldsParts env m choice val) where
  mutual
    pub pattern_both : (p : Pattern) (at : Path) (v : Value) (ty : TypeId) (names : Names) (places : Places) → IsPatternOf env ty p → HasType env v ty → val at ≡ a_value v → AreServed env m (extracted_by env p) → Agree val names places
        → Both val (matches env m choice p at v names) (all_hold env m val (tests env p at places)) (after env p at places)
    pattern_both (Var of x) at v ty names places h t e served a = met_both env m val (names x.0) (places x.0) x.0 v at names places (a.by x.0) e a
    pattern_both (ConstBool b) at v ty names places h t e served a = both_test val (same_value v (Truth b)) (meets env m (constraint.ConstBool b) (val at)) names places (rw e refl) a
    pattern_both (ConstInt of n) at v ty names places h t e served a = both_test val (same_value v (int_value env of n)) (meets env m (constraint.ConstInt n of) (val at)) names places (rw e refl) a
    pattern_both (ConstPrim of name) at v ty names places h t e served a = const_both val (const_of m (sym_text env name)) v (val at) names places e a
    pattern_both (Wildcard of) at v ty names places h t e served a = (refl, a)
    pattern_both (pattern.Term of term ps) at v ty names places h t e served a =
        let mk = making env term in
        let o = opening env term in
        let own = unless_made env Extractor term in
        let there = slice_get env.terms term.0 in
        subst (λ b. Both val (matches env m choice (pattern.Term of term ps) at v names) b (after_parts env o ps 0 at places)) (sym (list_all-append (holds env m val) (opening_tests o at) (parts_tests env o ps 0 at places)))
        (term_both env m choice val ty term mk (extracting env term) there v at ps names places apart holds_parts h.1 h.2 t e (holds_parts.extracted term at)
        (λ none. (by_cases env ty there (subst (λ (x : Making). OpensType ty x there) none h.1), served (extractor_of term) (Contains-append_left own (extracted_by_all env ps) (extractor_of term) (extracted_here env term (not_made there none)))))
        (λ vs tys is types stand. parts_both ps o at 0 vs tys names places (parts_given env (part_types env mk there) ps tys is h.2) types stand (λ x c. served x (Contains-append_right own (extracted_by_all env ps) x c)) a))
    pattern_both (BindPattern of x p) at v ty names places h t e served a =
        let mid = met_after (places x.0) x.0 at places in
        subst (λ b. Both val (matches env m choice (BindPattern of x p) at v names) b (after env p at mid)) (sym (list_all-append (holds env m val) (met_tests (places x.0) at) (tests env p at mid)))
        (both_then val (met (names x.0) x.0 v names) (all_hold env m val (met_tests (places x.0) at)) (all_hold env m val (tests env p at mid)) mid (after env p at mid) (matches env m choice p at v)
        (met_both env m val (names x.0) (places x.0) x.0 v at names places (a.by x.0) e a)
        (λ names' a'. pattern_both p at v ty names' mid h.1 t e served a'))
    pattern_both (And of ps) at v ty names places h t e served a = each_both ps at v ty names places h.1 t e served a

    -- each of several patterns against one value
    pub each_both : (ps : Patterns) (at : Path) (v : Value) (ty : TypeId) (names : Names) (places : Places) → AreEachOf env ty ps → HasType env v ty → val at ≡ a_value v → AreServed env m (extracted_by_all env ps) → Agree val names places
        → Both val (matches_each env m choice ps at v names) (all_hold env m val (each_tests env ps at places)) (after_each env ps at places)
    each_both NoPattern at v ty names places h t e served a = (refl, a)
    each_both (APattern p ps) at v ty names places h t e served a =
        subst (λ b. Both val (matches_each env m choice (APattern p ps) at v names) b (after_each env (APattern p ps) at places)) (sym (list_all-append (holds env m val) (tests env p at places) (each_tests env ps at (after env p at places))))
        (both_then val (matches env m choice p at v names) (all_hold env m val (tests env p at places)) (all_hold env m val (each_tests env ps at (after env p at places))) (after env p at places) (after_each env (APattern p ps) at places) (matches_each env m choice ps at v)
        (pattern_both p at v ty names places h.0 t e (served_first env m (extracted_by env p) (extracted_by_all env ps) served) a)
        (λ names' a'. each_both ps at v ty names' (after env p at places) h.1 t e (served_rest env m (extracted_by env p) (extracted_by_all env ps) served) a'))

    -- parts against what stands at the parts' paths, from the i-th on
    pub parts_both : (ps : Patterns) (o : Opening) (at : Path) (i : ℕ) (vs : List Value) (tys : List TypeId) (names : Names) (places : Places) → ArePartsOf env (Some tys) ps → HaveTypes env vs tys
        → PartsStand val o at i vs → AreServed env m (extracted_by_all env ps) → Agree val names places
        → Both val (matches_parts env m choice o ps i at vs names) (all_hold env m val (parts_tests env o ps i at places)) (after_parts env o ps i at places)
    parts_both NoPattern o at i [] [] names places h t e served a = (refl, a)
    parts_both (APattern p ps) o at i (v ∷ vs) (ty ∷ tys) names places h t e served a =
        let q = part_path o i at in
        subst (λ b. Both val (matches_parts env m choice o (APattern p ps) i at (v ∷ vs) names) b (after_parts env o (APattern p ps) i at places)) (sym (list_all-append (holds env m val) (tests env p q places) (parts_tests env o ps (suc i) at (after env p q places))))
        (both_then val (matches env m choice p q v names) (all_hold env m val (tests env p q places)) (all_hold env m val (parts_tests env o ps (suc i) at (after env p q places))) (after env p q places) (after_parts env o (APattern p ps) i at places) (matches_parts env m choice o ps (suc i) at vs)
        (pattern_both p q v ty names places h.0 t.0 (subst (λ n. val (part_path o n at) ≡ a_value v) (first i) (e 0 v refl)) (served_first env m (extracted_by env p) (extracted_by_all env ps) served) a)
        (λ names' a'. parts_both ps o at (suc i) vs tys names' (after env p q places) h.1 t.1 (λ j w g. subst (λ n. val (part_path o n at) ≡ a_value w) (next j i) (e (suc j) w g)) (served_rest env m (extracted_by env p) (extracted_by_all env ps) served) a'))
    parts_both NoPattern o at i (v ∷ vs) [] names places h t e served a = absurd t
    parts_both NoPattern o at i vs (ty ∷ tys) names places h t e served a = absurd h
    parts_both (APattern p ps) o at i vs [] names places h t e served a = absurd h
    parts_both (APattern p ps) o at i [] (ty ∷ tys) names places h t e served a = absurd t

  -- patterns against the arguments from the i-th on
  pub patterns_both : (qs : List Pattern) (vs : List Value) (tys : List TypeId) (i : ℕ) (names : Names) (places : Places) → ArePatternsOf env tys qs → HaveTypes env vs tys
      → ((j : ℕ) → val (Arg (j + i)) ≡ held (slice_get vs j)) → AreServed env m (extracted_in env qs) → Agree val names places → Both val (matches_all env m choice qs i vs names) (all_hold env m val (args_tests env qs i places)) (args_after env qs i places)
  patterns_both [] [] [] i names places h t e served a = (refl, a)
  patterns_both (q ∷ qs) (v ∷ vs) (ty ∷ tys) i names places h t e served a =
      subst (λ b. Both val (matches_all env m choice (q ∷ qs) i (v ∷ vs) names) b (args_after env (q ∷ qs) i places)) (sym (list_all-append (holds env m val) (tests env q (Arg i) places) (args_tests env qs (suc i) (after env q (Arg i) places))))
      (both_then val (matches env m choice q (Arg i) v names) (all_hold env m val (tests env q (Arg i) places)) (all_hold env m val (args_tests env qs (suc i) (after env q (Arg i) places))) (after env q (Arg i) places) (args_after env (q ∷ qs) i places) (matches_all env m choice qs (suc i) vs)
      (pattern_both q (Arg i) v ty names places h.0 t.0 (subst (λ n. val (Arg n) ≡ a_value v) (first i) (e 0)) (served_first env m (extracted_by env q) (extracted_in env qs) served) a)
      (λ names' a'. patterns_both qs vs tys (suc i) names' (after env q (Arg i) places) h.1 t.1 (λ j. subst (λ n. val (Arg n) ≡ held (slice_get vs j)) (next j i) (e (suc j))) (served_rest env m (extracted_by env q) (extracted_in env qs) served) a'))
  patterns_both [] (v ∷ vs) [] i names places h t e served a = absurd t
  patterns_both [] vs (ty ∷ tys) i names places h t e served a = absurd h
  patterns_both (q ∷ qs) vs [] i names places h t e served a = absurd h
  patterns_both (q ∷ qs) [] (ty ∷ tys) i names places h t e served a = absurd t
