-- What a term's pattern takes apart, by what the code does with it.
use Rattle.std.proofs.Common.{◌≡◌, ◌⊎◌, inl, inr, ⊎_elim, ℕ, zero, suc, List, [], ◌∷◌, ◌++◌, length, map, get_or, Result, Ok, Err, Some, refl, sym, ap, ◌∙◌, subst}
use Rattle.std.specs.Prelude.{Contains, IsSomeAnd, IfOk, slice_get}
use Rattle.std.proofs.lemmas.List.{map-append}
use Rattle.isle_core.specs.declared.BindingId.{BindingId}
use Rattle.isle_core.specs.declared.TermId.{TermId}
use Rattle.isle_core.specs.declared.TupleIndex.{TupleIndex}
use Rattle.isle_core.specs.declared.types.ReturnKind.{ReturnKind}
use Rattle.isle_core.specs.declared.types.ReturnKind.TheVariants as return_kind
use Rattle.isle_core.specs.declared.types.Term.{Term}
use Rattle.isle_core.specs.declared.types.TermKind.{TermKind}
use Rattle.isle_core.specs.declared.types.TermKind.TheVariants as kind
use Rattle.isle_core.specs.declared.types.ExtractorKind.TheVariants as extractor
use Rattle.isle_core.specs.declared.rule_sets.Constraint.TheVariants as constraint
use Rattle.isle_core.specs.BuiltRule.{IsExtractorKind}
use Rattle.isle_core.specs.Calling.{Calling, ByCases, extracting, extracting_of, extracting_kind}
use Rattle.isle_core.specs.Making.{MakesNothing, making_in}
use Rattle.isle_core.specs.Opening.{Opening, ByExtractor, opening, opening_by, answer_path, result_path, part_path}
use Rattle.isle_core.specs.Path.{Path, Extracted, Chosen, Inner, at, paths_of}
use Rattle.isle_core.specs.RulePaths.{with_inner, opening_paths}
use Rattle.isle_core.specs.Tests.{Is, found_tests, opening_tests}
use Rattle.isle_core.specs.Rule.{Environment}
use Rattle.isle_core.specs.Terms.{sym_text}
use Rattle.isle_core.specs.declared.values.Callee.{Callee}
use Rattle.isle_core.specs.declared.values.Callee.TheVariants.{External}
use Rattle.isle_core.proofs.Contained.{contained_cases, none_contained}
use Rattle.isle_rulesets.specs.declared.made.Made.{Made}
use Rattle.isle_rulesets.specs.declared.made.Made.TheVariants as made
use Rattle.isle_rulesets.specs.declared.opening.Opened.{Opened}
use Rattle.isle_rulesets.specs.declared.opening.Opened.TheVariants as opened
use Rattle.isle_rulesets.specs.declared.pattern_tests.PatternTests.{PatternTests}
use Rattle.isle_rulesets.specs.Keys.{key_path, IsThere, HasParts}
use Rattle.isle_rulesets.specs.Made.{making_of, constraint_of, field_key}
use Rattle.isle_rulesets.specs.Numbering.{Numbered, Numbers, value_by, with_value, listed_by, Calls}
use Rattle.isle_rulesets.specs.Met.{list_met, opening_lists}
use Rattle.isle_rulesets.specs.Opened.{extracts_by, value_beside, tested_by, Asks, made_part, opened_part, Answers, OpensAt, Opens}
use Rattle.isle_rulesets.specs.PatternTests.{HasTests, Reads}
use Rattle.isle_rulesets.proofs.PlacedPaths.{extends_self, at_get, at_kept, contains_there}
use Rattle.isle_rulesets.proofs.PatternTestLaws.{Steps, reads_behind, reads_step}

-- ---- the number of a part

-- the key of a field has the path of the field
pub field_key_path : (ps : List Path) (m : Made) (b : BindingId) (i : TupleIndex) → key_path ps (field_key m b i) ≡ made_part m i.0 (at ps b)
field_key_path ps (made.Variant ty variant) b i = refl
field_key_path ps (made.Struct ty) b i = refl

pub field_has_parts : (ps : List Path) (m : Made) (b : BindingId) (i : TupleIndex) → IsThere ps b → HasParts ps (field_key m b i)
field_has_parts ps (made.Variant ty variant) b i h = h
field_has_parts ps (made.Struct ty) b i h = h

-- what is there has its number
pub numbers_there : (n : Numbered) (b : BindingId) → IsThere (paths_of n.bindings) b → Numbers n n (at (paths_of n.bindings) b) b
numbers_there n b h = record {
  found = h.1 ∙ ap Some (sym (at_get (paths_of n.bindings) b.0 h.0 h.1));
  extends = extends_self (paths_of n.bindings);
  only = λ q c. inl c;
  calls = refl;
  lists = refl;
}

-- ---- an extractor's answer

-- a value beside its call
beside : (kind : ReturnKind) (p : Path) → with_value kind p ≡ p ∷ value_beside kind p
beside return_kind.Plain p = refl
beside return_kind.Option p = refl
beside return_kind.Iterator p = refl

is_value : (kind : ReturnKind) (p q : Path) → Contains (value_beside kind p) q → q ≡ value_by kind p
is_value return_kind.Plain p q c = absurd (none_contained q c)
is_value return_kind.Option p q c = ⊎_elim (λ e. sym e) (λ n. absurd (none_contained q n)) (contained_cases (Inner p) [] q c)
is_value return_kind.Iterator p q c = ⊎_elim (λ e. sym e) (λ n. absurd (none_contained q n)) (contained_cases (Chosen p) [] q c)

list_at : (kind : ReturnKind) (qs : List Path) (call : BindingId) (p : Path) → at qs call ≡ p → map (at qs) (listed_by kind call) ≡ listed_by kind p
list_at return_kind.Plain qs call p e = refl
list_at return_kind.Option qs call p e = refl
list_at return_kind.Iterator qs call p e = ap (λ q. q ∷ []) e

-- a call that is there, with its value and its test
answer_read : (old new : Numbered) (d e : PatternTests) (kind : ReturnKind) (p : Path) (call b : BindingId) → slice_get (paths_of old.bindings) call.0 ≡ Some p → Asks d e kind call → Calls old new p kind old.calls call b → Answers old new d e kind p b
answer_read old new d e kind p call b there asks k = record {
  reads = record {
    joins = record {
      extends = k.extends;
      only = λ q c. ⊎_elim (λ x. inl x) (λ x. older q (contained_cases p (value_beside kind p) q (subst (λ ps. Contains ps q) (beside kind p) x))) (k.only q c);
      all = λ q c. subst (Contains (paths_of new.bindings)) (sym (is_value kind p q c)) (contains_there (paths_of new.bindings) b.0 (value_by kind p) k.value);
      calls = k.calls;
      lists = λ qs x. ap (map (at qs)) k.lists ∙ map-append (at qs) old.lists (listed_by kind call) ∙ ap (λ ls. map (at qs) old.lists ++ ls) (list_at kind qs call p (at_kept (paths_of new.bindings) qs call p x k.found));
    };
    gathers = λ qs x places ts g. subst (λ q. HasTests qs places (ts ++ tested_by kind q) e) (at_kept (paths_of new.bindings) qs call p x k.found) (asks qs places ts g);
  };
  found = k.value;
}
  where
    older : (q : Path) → (p ≡ q) ⊎ Contains (value_beside kind p) q → Contains (paths_of old.bindings) q ⊎ Contains (value_beside kind p) q
    older q (inl e) = inl (subst (Contains (paths_of old.bindings)) e (contains_there (paths_of old.bindings) call.0 p there))
    older q (inr c) = inr c

-- what the code says of such an answer
pub answers_given : {E : Type 0} (r : Result BindingId E) (old new : Numbered) (d e : PatternTests) (kind : ReturnKind) (call : BindingId) → Asks d e kind call → IfOk r (λ b. Calls old new (at (paths_of old.bindings) call) kind old.calls call b)
    → IfOk r (λ b. (p : Path) → slice_get (paths_of old.bindings) call.0 ≡ Some p → Answers old new d e kind p b)
answers_given (Err o) old new d e kind call asks k = tt
answers_given (Ok b) old new d e kind call asks k = λ p there. answer_read old new d e kind p call b there asks (subst (λ q. Calls old new q kind old.calls call b) (at_get (paths_of old.bindings) call.0 p there) k)

-- ---- what an extractor gives

-- it is called by cases
data IsExtracted (k : TermKind) : Calling → Type 0 where
  by_cases : (callee : Callee) → IsExtracted k (ByCases callee (extracts_by k))

extracts : (env : Environment) (k : TermKind) → IsExtractorKind k → IsExtracted k (extracting_kind env k)
extracts env (kind.Decl pure multi partial recursive by (extractor.External func infallible)) h = by_cases (External (sym_text env func))
extracts env (kind.Decl pure multi partial recursive by extractor.Absent) h = absurd h
extracts env (kind.Decl pure multi partial recursive by extractor.Internal) h = absurd h
extracts env (kind.Variant ty variant) h = absurd h
extracts env (kind.Struct ty) h = absurd h

-- what its answer is by how often it answers
record Answered (c : Calling) (kind : ReturnKind) (p : Path) : Type 0 where
  inner : with_inner c p ≡ p ∷ value_beside kind p
  lists : list_met c p ≡ listed_by kind p
  tests : found_tests c p ≡ tested_by kind p
  value : answer_path c p ≡ value_by kind p

case_answered : (callee : Callee) (kind : ReturnKind) (p : Path) → Answered (ByCases callee kind) kind p
case_answered callee return_kind.Plain p = record { inner = refl; lists = refl; tests = refl; value = refl }
case_answered callee return_kind.Option p = record { inner = refl; lists = refl; tests = refl; value = refl }
case_answered callee return_kind.Iterator p = record { inner = refl; lists = refl; tests = refl; value = refl }

extracted : {c : Calling} (k : TermKind) (p : Path) → IsExtracted k c → Answered c (extracts_by k) p
extracted k p (by_cases callee) = case_answered callee (extracts_by k) p

-- what the pattern calls, meets and tests
gives : (c : Calling) (kind : ReturnKind) (term : TermId) (count : ℕ) (old mid new : Numbered) (d e : PatternTests) (p : Path) (call b : BindingId) → Answered c kind (Extracted term p) → Numbers old mid (Extracted term p) call → Answers mid new d e kind (Extracted term p) b
    → Reads old new d e (opening_paths (ByExtractor term c count) p) (opening_lists (ByExtractor term c count) p) (λ places. places) (λ places. opening_tests (ByExtractor term c count) p)
gives c kind term count old mid new d e p call b how n a =
    let q = Extracted term p in
    subst (λ ps. Reads old new d e ps (list_met c q) (λ places. places) (λ places. found_tests c q)) (sym how.inner)
    (subst (λ ls. Reads old new d e (q ∷ value_beside kind q) ls (λ places. places) (λ places. found_tests c q)) (sym how.lists)
    (subst (λ ts. Reads old new d e (q ∷ value_beside kind q) (listed_by kind q) (λ places. places) (λ places. ts)) (sym how.tests)
    (reads_behind old mid new d e q call (value_beside kind q) (listed_by kind q) (λ places. places) (λ places. tested_by kind q) n a.reads)))

-- the parts are results of that number
abbrev pub AreResults : ℕ → BindingId → Opened → Type 0
AreResults count b o = (ps : List Path) (i : ℕ) → opened_part ps o i ≡ result_path count i (at ps b)

pub one_result : (count : ℕ) (b : BindingId) → count ≡ 1 → AreResults count b (opened.Result b)
one_result count b e ps i = ap (λ n. result_path n i (at ps b)) (sym e)

pub many_results : (count : ℕ) (b : BindingId) → (count ≡ 1 → ⊥) → AreResults count b (opened.Results b)
many_results zero b e ps i = refl
many_results (suc zero) b e ps i = absurd (e refl)
many_results (suc (suc count)) b e ps i = refl

-- how an extractor takes its value apart
extractor_opens : (env : Environment) (terms : List Term) (term : TermId) (t : Term) → env.terms ≡ terms → making_in terms term ≡ MakesNothing → slice_get terms term.0 ≡ Some t → opening env term ≡ ByExtractor term (extracting_kind env t.kind) (length t.arg_tys)
extractor_opens env terms term t same makes is =
    ap (λ mk. opening_by term mk (extracting_of env (slice_get env.terms term.0)) (slice_get env.terms term.0)) (ap (λ ts. making_in ts term) same ∙ makes)
    ∙ ap (λ o. opening_by term MakesNothing (extracting_of env o) o) (ap (λ ts. slice_get ts term.0) same ∙ is)

some_at : {A : Type 0} (P : A → Type 0) (xs : List A) (i : ℕ) (x : A) → IsSomeAnd (slice_get xs i) P → x ≡ get_or xs i x → slice_get xs i ≡ Some x
some_at P [] i x h e = absurd h
some_at P (y ∷ xs) zero x h e = ap Some (sym e)
some_at P (y ∷ xs) (suc i) x h e = some_at P xs i x h e

pub opens_extractor : (terms : List Term) (old mid new : Numbered) (d e : PatternTests) (term : TermId) (t : Term) (source call b : BindingId) (o : Opened) → IsSomeAnd (slice_get terms term.0) (λ (u : Term). IsExtractorKind u.kind) → making_in terms term ≡ MakesNothing → t ≡ get_or terms term.0 t
    → Numbers old mid (Extracted term (at (paths_of old.bindings) source)) call → ((p : Path) → slice_get (paths_of mid.bindings) call.0 ≡ Some p → Answers mid new d e (extracts_by t.kind) p b) → AreResults (length t.arg_tys) b o
    → (env : Environment) → env.terms ≡ terms → Opens env old new d e term source o
opens_extractor terms old mid new d e term t source call b o kind makes here n a parts env same p there = record {
  reads = subst (λ (x : Opening). Reads old new d e (opening_paths x p) (opening_lists x p) (λ places. places) (λ places. opening_tests x p)) (sym opens) (gives c (extracts_by t.kind) term count old mid new d e p call b how num answers);
  parts = λ ps x i. parts ps i ∙ ap (result_path count i) (at_kept (paths_of new.bindings) ps b (value_by (extracts_by t.kind) q) x answers.found ∙ sym how.value) ∙ sym (ap (λ (x : Opening). part_path x i p) opens);
}
  where
    q : Path
    q = Extracted term p

    is : slice_get terms term.0 ≡ Some t
    is = some_at (λ (u : Term). IsExtractorKind u.kind) terms term.0 t kind here

    c : Calling
    c = extracting_kind env t.kind

    count : ℕ
    count = length t.arg_tys

    how : Answered (extracting_kind env t.kind) (extracts_by t.kind) (Extracted term p)
    how = extracted t.kind (Extracted term p) (extracts env t.kind (subst (λ u. IsSomeAnd u (λ (u : Term). IsExtractorKind u.kind)) is kind))

    opens : opening env term ≡ ByExtractor term (extracting_kind env t.kind) (length t.arg_tys)
    opens = extractor_opens env terms term t same makes is

    num : Numbers old mid (Extracted term p) call
    num = subst (λ q. Numbers old mid (Extracted term q) call) (at_get (paths_of old.bindings) source.0 p there) n

    answers : Answers mid new d e (extracts_by t.kind) (Extracted term p) b
    answers = a (Extracted term p) num.found

-- the number of the answer is there
pub answer_there : (mid new : Numbered) (d e : PatternTests) (kind : ReturnKind) (q : Path) (call b : BindingId) → slice_get (paths_of mid.bindings) call.0 ≡ Some q → ((p : Path) → slice_get (paths_of mid.bindings) call.0 ≡ Some p → Answers mid new d e kind p b) → IsThere (paths_of new.bindings) b
answer_there mid new d e kind q call b there a = (_, (a q there).found)

-- ---- what is made

made_opens : (terms : List Term) (n : Numbered) (d e : PatternTests) (term : TermId) (m : Made) (source : BindingId) (env : Environment) (p : Path) → opening env term ≡ opening_by term (making_of m) (extracting env term) (slice_get env.terms term.0) → slice_get (paths_of n.bindings) source.0 ≡ Some p
    → Reads n n d e [] [] (λ places. places) (λ places. Is p (constraint_of m) ∷ []) → OpensAt env n n d e term p (opened.Made m source)
made_opens terms n d e term (made.Variant ty variant) source env p is there r = record {
  reads = subst (λ (x : Opening). Reads n n d e (opening_paths x p) (opening_lists x p) (λ places. places) (λ places. opening_tests x p)) (sym is) r;
  parts = λ ps x i. ap (made_part (made.Variant ty variant) i) (at_kept (paths_of n.bindings) ps source p x there) ∙ sym (ap (λ (x : Opening). part_path x i p) is);
}
made_opens terms n d e term (made.Struct ty) source env p is there r = record {
  reads = subst (λ (x : Opening). Reads n n d e (opening_paths x p) (opening_lists x p) (λ places. places) (λ places. opening_tests x p)) (sym is) r;
  parts = λ ps x i. ap (made_part (made.Struct ty) i) (at_kept (paths_of n.bindings) ps source p x there) ∙ sym (ap (λ (x : Opening). part_path x i p) is);
}

pub opens_made : (terms : List Term) (n : Numbered) (d e : PatternTests) (term : TermId) (m : Made) (source : BindingId) → making_in terms term ≡ making_of m → Steps d e source (λ p places. places) (λ p places. Is p (constraint_of m) ∷ [])
    → (env : Environment) → env.terms ≡ terms → Opens env n n d e term source (opened.Made m source)
opens_made terms n d e term m source is step env same p there =
    made_opens terms n d e term m source env p (ap (λ mk. opening_by term mk (extracting env term) (slice_get env.terms term.0)) (ap (λ ts. making_in ts term) same ∙ is)) there
    (reads_step n d e source p (λ q places. places) (λ q places. Is q (constraint_of m) ∷ []) there step)
