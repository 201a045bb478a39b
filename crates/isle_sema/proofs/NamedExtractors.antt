-- The extractor of a name is among the extractors, and what holds of all holds of it.
use Rattle.std.proofs.Common.{◌≡◌, ⊎_elim, ℕ, Bool, true, false, cond, List, [], ◌∷◌, map, Option, Some, None, refl, sym, ap, ◌∙◌, subst}
use Rattle.std.specs.Prelude.{Contains, slice_get, option_map, option_and_then}
use Rattle.std.specs.List.{list_all, list_any}
use Rattle.std.specs.Str.{bytes_eq}
use Rattle.std.proofs.lemmas.Bool.{or_parts, and_parts}
use Rattle.std.proofs.lemmas.Option.{same_Some, slice_get-map}
use Rattle.std.proofs.lemmas.Slice.Eq.{bytes_eq-Decides}
use Rattle.isle_core.specs.declared.TermId.{TermId}
use Rattle.isle_core.specs.Pattern.{Pattern as CorePattern}
use Rattle.isle_core.proofs.Contained.{head_contained, tail_contained, contained_cases, none_contained}
use Rattle.isle_ast.specs.Tree.{Def}
use Rattle.isle_declarations.specs.Collected.{extractor as seen}
use Rattle.isle_declarations.specs.declared.collected.ExtractorDef.{ExtractorDef as CodeExtractor}
use Rattle.isle_declarations.specs.Heads.{extractor_terms}
use Rattle.isle_declarations.specs.Signatures.{Signature, ExtractorDef, extractors, extractor_named}
use Rattle.isle_declarations.specs.Symbols.{index_of}
use Rattle.isle_declarations.specs.Terms.{terms}
use Rattle.isle_declarations.proofs.LookUps.{at_place, found_at}
use Rattle.isle_sema.specs.Templates.{template_for, templates}
use Rattle.isle_templates.specs.Substituted.{template_of}
use Rattle.isle_terms.specs.Whole.{Whole}

-- it is there, and of the name
pub record IsNamed (xs : List ExtractorDef) (name : List ℕ) (x : ExtractorDef) : Type 0 where
  pub among : Contains xs x
  pub named : x.term ≡ name

first_named : (b : Bool) (y x : ExtractorDef) (xs : List ExtractorDef) (name : List ℕ) (rest : Option ExtractorDef) → bytes_eq y.term name ≡ b → (rest ≡ Some x → IsNamed xs name x) → cond b (Some y) rest ≡ Some x → IsNamed (y ∷ xs) name x
first_named true y x xs name rest e later h =
    let same = same_Some y x h in
    record { among = subst (Contains (y ∷ xs)) same (head_contained y xs); named = ap (λ (z : ExtractorDef). z.term) (sym same) ∙ (bytes_eq-Decides y.term name).0 e }
first_named false y x xs name rest e later h = let k = later h in record { among = tail_contained y xs x k.among; named = k.named }

pub is_named : (xs : List ExtractorDef) (name : List ℕ) (x : ExtractorDef) → extractor_named xs name ≡ Some x → IsNamed xs name x
is_named [] name x h = absurd cc
is_named (y ∷ xs) name x h = first_named (bytes_eq y.term name) y x xs name (extractor_named xs name) refl (is_named xs name x) h

-- the extractor of a name is what the code has at the name's place
pub extractor_at : (defs : List Def) (xs : List CodeExtractor) (name : List ℕ) (place : ℕ) (o : Option CodeExtractor) → map seen xs ≡ extractors defs → index_of (extractor_terms (extractors defs)) name ≡ Some place → slice_get xs place ≡ o
    → extractor_named (extractors defs) name ≡ option_map seen o
extractor_at defs xs name place o all at is =
    found_at (λ (x : ExtractorDef). x.term) (extractors defs) name ∙ ap (at_place (extractors defs)) at ∙ ap (λ ys. slice_get ys place) (sym all) ∙ slice_get-map seen xs place ∙ ap (option_map seen) is

-- a name that has no place has none
pub extractor_absent : (xs : List ExtractorDef) (name : List ℕ) → index_of (extractor_terms xs) name ≡ None → extractor_named xs name ≡ None
extractor_absent xs name none = found_at (λ (x : ExtractorDef). x.term) xs name ∙ ap (at_place xs) none

-- what holds of all holds of each
pub holds_at : {X : Type 0} (test : X → Bool) (xs : List X) (x : X) → list_all test xs ≡ true → Contains xs x → test x ≡ true
holds_at test [] x h c = absurd (none_contained x c)
holds_at test (y ∷ xs) x h c =
    let k = and_parts (test y) (list_all test xs) h in
    ⊎_elim (λ (e : y ≡ x). ap test (sym e) ∙ k.0) (λ d. holds_at test xs x k.1 d) (contained_cases y xs x c)

-- and what holds of none fails for each
pub fails_at : {X : Type 0} (test : X → Bool) (xs : List X) (x : X) → list_any test xs ≡ false → Contains xs x → test x ≡ false
fails_at test [] x h c = absurd (none_contained x c)
fails_at test (y ∷ xs) x h c =
    let k = or_parts (test y) (list_any test xs) h in
    ⊎_elim (λ (e : y ≡ x). ap test (sym e) ∙ k.0) (λ d. fails_at test xs x k.1 d) (contained_cases y xs x c)

-- the template of the term at a number
pub template_there : (w : Whole) (n : TermId) (s : Signature) → slice_get (terms w.defs) n.0 ≡ Some s → template_of (templates w) n ≡ template_for w s
template_there w n s at = ap (option_and_then (λ (t : Option CorePattern). t)) (slice_get-map (template_for w) (terms w.defs) n.0 ∙ ap (option_map (template_for w)) at)
