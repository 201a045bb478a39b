-- The function of a term, and the term that is asked for: both are the first of the name.
use Rattle.std.proofs.Common.{◌≡◌, ℕ, List, [], ◌∷◌, Bool, true, false, cond, Option, Some, refl, sym, ap, subst, ◌∙◌}
use Rattle.std.specs.Prelude.{find, Contains}
use Rattle.std.specs.Str.{bytes_eq}
use Rattle.std.specs.Option.{option_map_or}
use Rattle.std.proofs.lemmas.List.Elements.{Contains-push, Contains-append_left, Contains-append_right}
use Rattle.isle_core.specs.declared.TermId.{TermId}
use Rattle.isle_core.specs.declared.files.Files.{Files}
use Rattle.isle_core.specs.declared.types.Term.{Term}
use Rattle.isle_core.specs.Rule.{Environment}
use Rattle.isle_core.specs.Terms.{term_name, sym_text}
use Rattle.isle_printer.specs.Bytes.{same_bytes}
use Rattle.isle_printer.proofs.Bytes.{same_bytes_sound}
use Rattle.isle_tree.specs.Program.{Function}
use Rattle.isle_tree.specs.Run.{function_of}
use Rattle.isle_printer.proofs.Bytes.{same_is}
use Rattle.isle_simulation.specs.OfTerm.{AreDeclared, IsDeclared}

-- the term of the function
pub record Found (files : Files) (env : Environment) (term : List ℕ) (ids : List TermId) (f : Function) : Type 0 where
  pub id : TermId
  pub requested : find (λ (id : TermId). bytes_eq term (term_name env id)) ids ≡ Some id
  pub declared : IsDeclared files env id f
  pub among : Contains ids id
  pub named : term ≡ f.term

-- the name of a declared term is that of its function
pub declared_name : (files : Files) (env : Environment) (id : TermId) (f : Function) → IsDeclared files env id f → term_name env id ≡ f.term
declared_name files env id f d = ap (λ (o : Option Term). option_map_or (λ (t : Term). sym_text env t.name) o []) d.found ∙ sym d.of_term.name

pub both_found : (files : Files) (env : Environment) (term : List ℕ) (ids : List TermId) (fs : List Function) (f : Function) → AreDeclared files env ids fs → function_of term fs ≡ Some f → Found files env term ids f
both_found files env term [] [] f d e = absurd cc
both_found files env term [] (g ∷ fs) f d e = absurd d
both_found files env term (id ∷ ids) [] f d e = absurd d
both_found files env term (id ∷ ids) (g ∷ fs) f d e = by (same_bytes term g.term) refl (both_found files env term ids fs f d.1) e
  where
    test : TermId → Bool
    test i = bytes_eq term (term_name env i)

    by : (b : Bool) → same_bytes term g.term ≡ b → (function_of term fs ≡ Some f → Found files env term ids f) → cond b (Some g) (function_of term fs) ≡ Some f → Found files env term (id ∷ ids) f
    by true is others e =
        let same : g ≡ f = cc in
        let holds : test id ≡ true = ap (bytes_eq term) (declared_name files env id g d.0) ∙ same_is term g.term ∙ is in
        record {
          id = id;
          requested = ap (λ b. cond b (Some id) (find test ids)) holds;
          declared = subst (IsDeclared files env id) same d.0;
          among = Contains-append_left (id ∷ []) ids id (Contains-push [] id);
          named = same_bytes_sound term g.term is ∙ ap (λ (x : Function). x.term) same;
        }
    by false is others e =
        let h = others e in
        let fails : test id ≡ false = ap (bytes_eq term) (declared_name files env id g d.0) ∙ same_is term g.term ∙ is in
        record {
          id = h.id;
          requested = ap (λ b. cond b (Some id) (find test ids)) fails ∙ h.requested;
          declared = h.declared;
          among = Contains-append_right (id ∷ []) ids h.id h.among;
          named = h.named;
        }
