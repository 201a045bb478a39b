-- The term that is asked for has its function.
use Rattle.std.proofs.Common.{◌≡◌, ℕ, List, [], ◌∷◌, Bool, true, false, cond, Some, refl, sym, ap, ◌∙◌, subst}
use Rattle.std.specs.Prelude.{find}
use Rattle.std.specs.Str.{bytes_eq}
use Rattle.isle_core.specs.declared.options.CodegenOptions.{CodegenOptions}
use Rattle.isle_core.specs.declared.TermId.{TermId}
use Rattle.isle_core.specs.declared.files.Files.{Files}
use Rattle.isle_core.specs.Rule.{Environment}
use Rattle.isle_core.specs.Terms.{term_name}
use Rattle.isle_printer.specs.Bytes.{same_bytes}
use Rattle.isle_printer.proofs.Bytes.{same_is}
use Rattle.isle_tree.specs.Program.{Function}
use Rattle.isle_tree.specs.Run.{function_of}
use Rattle.isle_simulation.specs.OfTerm.{AreDeclared, IsDeclared}
use Rattle.isle_codegen.specs.FromBlock.{AreFromBlocks, IsFromBlock}
use Rattle.isle_run.proofs.FoundTerms.{declared_name}

-- the function of the term of this number
pub record HasFunction (options : CodegenOptions) (files : Files) (env : Environment) (term : List ℕ) (fs : List Function) (id : TermId) : Type 0 where
  pub function : Function
  pub found : function_of term fs ≡ Some function
  pub declared : IsDeclared files env id function
  pub block : IsFromBlock options files env id function

pub requested_function : (options : CodegenOptions) (files : Files) (env : Environment) (term : List ℕ) (ids : List TermId) (fs : List Function) (id : TermId) → AreDeclared files env ids fs → AreFromBlocks options files env ids fs
    → find (λ (i : TermId). bytes_eq term (term_name env i)) ids ≡ Some id → HasFunction options files env term fs id
requested_function options files env term [] [] id d b e = absurd cc
requested_function options files env term [] (f ∷ fs) id d b e = absurd d
requested_function options files env term (i ∷ ids) [] id d b e = absurd d
requested_function options files env term (i ∷ ids) (f ∷ fs) id d b e = by (bytes_eq term (term_name env i)) refl e (requested_function options files env term ids fs id d.1 b.1)
  where
    named : (x : Bool) → bytes_eq term (term_name env i) ≡ x → same_bytes term f.term ≡ x
    named x is = sym (same_is term f.term) ∙ ap (bytes_eq term) (sym (declared_name files env i f d.0)) ∙ is

    by : (x : Bool) → bytes_eq term (term_name env i) ≡ x → cond x (Some i) (find (λ (j : TermId). bytes_eq term (term_name env j)) ids) ≡ Some id
        → (find (λ (j : TermId). bytes_eq term (term_name env j)) ids ≡ Some id → HasFunction options files env term fs id) → HasFunction options files env term (f ∷ fs) id
    by true is h others =
        let same : i ≡ id = cc in
        record {
          function = f;
          found = rw (named true is) refl;
          declared = subst (λ j. IsDeclared files env j f) same d.0;
          block = subst (λ j. IsFromBlock options files env j f) same b.0;
        }
    by false is h others =
        let k = others h in
        record { function = k.function; found = rw (named false is) k.found; declared = k.declared; block = k.block }
