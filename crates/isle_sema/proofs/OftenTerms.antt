-- Terms that answer several times only where a rule's own term does.
use Rattle.std.proofs.Common.{◌≡◌, true, false, List, ◌++◌, Option, Some, None, refl}
use Rattle.std.specs.Prelude.{IsTrue, slice_get}
use Rattle.std.proofs.lemmas.List.Elements.{Contains-append_left, Contains-append_right}
use Rattle.isle_core.specs.declared.TermId.{TermId}
use Rattle.isle_core.specs.declared.types.ReturnKind.{ReturnKind}
use Rattle.isle_core.specs.declared.types.ReturnKind.TheVariants as return_kind
use Rattle.isle_core.specs.declared.types.Term.{Term}
use Rattle.isle_core.specs.declared.types.TermKind.{TermKind}
use Rattle.isle_core.specs.declared.types.TermKind.TheVariants as kind
use Rattle.isle_core.specs.CalledTerms.{is_made, Extractor, Constructor, CalledTerm, is_made_kind, is_made_term, unless_made, extracted_by_all, called_by_all}
use Rattle.isle_core.specs.Calling.{Calling, ByTurns, ByCases, NoCall, AnswersOnce, HasKind, IsOnce, is_several, kind_of, pure_callee, calling_by, calling_of, calling, extracting_kind, extracting_of, extracting}
use Rattle.isle_core.specs.Expr.{Exprs}
use Rattle.isle_core.specs.Making.{Making, MakesVariant, MakesStruct, MakesNothing, making}
use Rattle.isle_core.specs.Opening.{Opening, AsVariant, AsStruct, ByExtractor, opening_by, opening}
use Rattle.isle_core.specs.Pattern.{Patterns}
use Rattle.isle_core.specs.Rule.{Environment}
use Rattle.isle_core.specs.Single.{AreOften, AreSingle}
use Rattle.isle_core.specs.Terms.{impure_callee}
use Rattle.isle_core.proofs.AnsweredTerms.{called_here}
use Rattle.isle_core.proofs.PatternTests.{extracted_here}

-- several answers only in a term that answers several times
abbrev pub Often : Term → ReturnKind → Type 0
Often t k = IsTrue (is_several k) → is_several (kind_of t.kind) ≡ true

-- ---- terms after terms

pub often_first : (K : ReturnKind → Type 0) (env : Environment) (xs ys : List CalledTerm) → AreOften K env (xs ++ ys) → AreOften K env xs
often_first K env xs ys h o c = h o (Contains-append_left xs ys o c)

pub often_rest : (K : ReturnKind → Type 0) (env : Environment) (xs ys : List CalledTerm) → AreOften K env (xs ++ ys) → AreOften K env ys
often_rest K env xs ys h o c = h o (Contains-append_right xs ys o c)

-- ---- a made term is not called

call_often : (K : ReturnKind → Type 0) (env : Environment) (o : Option Term) → (is_made_term o ≡ false → HasKind K (calling_of env o)) → HasKind K (calling_of env o)
call_often K env None h = tt
call_often K env (Some t) h = of_kind t.kind h
  where
    of_kind : (k : TermKind) → (is_made_kind k ≡ false → HasKind K (calling_by (kind_of k) (impure_callee env t k) (pure_callee env t k))) → HasKind K (calling_by (kind_of k) (impure_callee env t k) (pure_callee env t k))
    of_kind (kind.Variant ty variant) i = tt
    of_kind (kind.Struct ty) i = tt
    of_kind (kind.Decl pure multi partial recursive by how) i = i refl

-- a term that is called unless it is made
pub term_often : (K : ReturnKind → Type 0) (env : Environment) (term : TermId) → (is_made env term ≡ false → HasKind K (calling env term)) → HasKind K (calling env term)
term_often K env term h = call_often K env (slice_get env.terms term.0) h

-- the term of a call
pub called_often : (K : ReturnKind → Type 0) (env : Environment) (term : TermId) (es : Exprs) → AreOften K env (called_by_all env es ++ unless_made env Constructor term) → HasKind K (calling env term)
called_often K env term es h =
    let own : CalledTerm = record { term = term; role = Constructor } in
    call_often K env (slice_get env.terms term.0) (λ e. h own (Contains-append_right (called_by_all env es) (unless_made env Constructor term) own (called_here env term e)))

extraction_often : (K : ReturnKind → Type 0) (env : Environment) (o : Option Term) → (is_made_term o ≡ false → HasKind K (extracting_of env o)) → HasKind K (extracting_of env o)
extraction_often K env None h = tt
extraction_often K env (Some t) h = of_kind t.kind h
  where
    of_kind : (k : TermKind) → (is_made_kind k ≡ false → HasKind K (extracting_kind env k)) → HasKind K (extracting_kind env k)
    of_kind (kind.Variant ty variant) i = tt
    of_kind (kind.Struct ty) i = tt
    of_kind (kind.Decl pure multi partial recursive by how) i = i refl

-- the extractor that takes a path apart is answered so often
abbrev pub OpensOften : (ReturnKind → Type 0) → Opening → Type 0
OpensOften K (AsVariant ty variant) = Unit {0}
OpensOften K (AsStruct ty) = Unit {0}
OpensOften K (ByExtractor term c count) = HasKind K c

opening_kind : (K : ReturnKind → Type 0) (term : TermId) (mk : Making) (c : Calling) (o : Option Term) → HasKind K c → OpensOften K (opening_by term mk c o)
opening_kind K term (MakesVariant ty variant) c o h = tt
opening_kind K term (MakesStruct ty) c o h = tt
opening_kind K term MakesNothing c o h = h

-- the term of a pattern
pub opening_often : (K : ReturnKind → Type 0) (env : Environment) (term : TermId) (qs : Patterns) → AreOften K env (unless_made env Extractor term ++ extracted_by_all env qs) → OpensOften K (opening env term)
opening_often K env term qs h =
    let own : CalledTerm = record { term = term; role = Extractor } in
    opening_kind K term (making env term) (extracting env term) (slice_get env.terms term.0)
    (extraction_often K env (slice_get env.terms term.0) (λ e. h own (Contains-append_left (unless_made env Extractor term) (extracted_by_all env qs) own (extracted_here env term e))))

-- ---- a term that answers once

once_only : (t : Term) (k : ReturnKind) → AnswersOnce (kind_of t.kind) → Often t k → AnswersOnce k
once_only t return_kind.Plain once h = tt
once_only t return_kind.Option once h = tt
once_only t return_kind.Iterator once h = absurd (several_once (kind_of t.kind) (h refl) once)
  where
    several_once : (k : ReturnKind) → is_several k ≡ true → AnswersOnce k → ⊥
    several_once return_kind.Plain e o = cc
    several_once return_kind.Option e o = cc
    several_once return_kind.Iterator e o = o

call_once : (t : Term) (c : Calling) → AnswersOnce (kind_of t.kind) → HasKind (Often t) c → IsOnce c
call_once t (ByTurns callee k) once h = once_only t k once h
call_once t (ByCases callee k) once h = once_only t k once h
call_once t NoCall once h = tt

-- the rules of a term that answers once call only such terms
pub often_single : (env : Environment) (t : Term) (terms : List CalledTerm) → AnswersOnce (kind_of t.kind) → AreOften (Often t) env terms → AreSingle env terms
often_single env t terms once h o c = call_once t _ once (h o c)
