-- The heads of emitted functions are those of their terms, so what a program's functions may call is what the environment gives.
use Rattle.std.proofs.Common.{◌≡◌, ℕ, List, [], ◌∷◌, length, map, refl, sym, ap, ◌∙◌}
use Rattle.std.specs.Prelude.{option_map}
use Rattle.std.specs.List.{cons_option, filter_map}
use Rattle.std.proofs.lemmas.List.{length-map}
use Rattle.isle_core.specs.declared.TermId.{TermId}
use Rattle.isle_core.specs.declared.files.Files.{Files}
use Rattle.isle_core.specs.declared.types.ReturnKind.{ReturnKind}
use Rattle.isle_core.specs.declared.types.Term.{Term}
use Rattle.isle_core.specs.Rule.{Environment}
use Rattle.isle_core.specs.Terms.{sym_text, with_rules}
use Rattle.isle_tree.specs.declared.tree.TraitFn.{TraitFn}
use Rattle.isle_tree.specs.Program.{Function, Program}
use Rattle.isle_tree.specs.WellFormed.{Head, Callables, function_head, callables}
use Rattle.isle_simulation.specs.OfTerm.{IsOfTerm, AreDeclared}
use Rattle.isle_simulation.specs.TermFns.{head, head_at, callables_of}
use Rattle.isle_simulation.specs.TraitFns.{trait_fns_of}
use Rattle.isle_simulation.specs.TypeTexts.{parameter}

-- a head of these parts
abbrev of_parts : List ℕ → ℕ → ReturnKind → Head
of_parts term params kind = record { term = term; params = params; kind = kind }

-- the head of a term's function is the term's
pub head_is : (files : Files) (env : Environment) (t : Term) (f : Function) → IsOfTerm files env t f → function_head f ≡ head env t
head_is files env t f h =
    ap (λ term. of_parts term (length f.params) f.kind) h.name ∙ ap (λ params. of_parts (sym_text env t.name) params f.kind) (ap length h.params ∙ length-map t.arg_tys (parameter env))
    ∙ ap (of_parts (sym_text env t.name) (length t.arg_tys)) h.kind

-- so those of functions, in order
pub heads_are : (files : Files) (env : Environment) (ids : List TermId) (fs : List Function) → AreDeclared files env ids fs → map function_head fs ≡ filter_map (head_at env) ids
heads_are files env [] [] h = refl
heads_are files env (id ∷ ids) (f ∷ fs) h =
    ap (λ x. x ∷ map function_head fs) (head_is files env h.0.term f h.0.of_term) ∙ ap (λ xs. head env h.0.term ∷ xs) (heads_are files env ids fs h.1)
    ∙ ap (λ o. cons_option o (filter_map (head_at env) ids)) (sym (ap (option_map (head env)) h.0.found))
heads_are files env [] (f ∷ fs) h = absurd h
heads_are files env (id ∷ ids) [] h = absurd h

-- what the functions may call of a program with the environment's functions of the trait and a function for each term with rules, in order
pub callables_are : (files : Files) (env : Environment) (p : Program) → p.trait_fns ≡ trait_fns_of env → AreDeclared files env (with_rules env) p.fns → callables p ≡ callables_of env
callables_are files env p fns h =
    ap (with_heads (map function_head p.fns)) fns ∙ ap (λ (hs : List Head). with_heads hs (trait_fns_of env)) (heads_are files env (with_rules env) p.fns h)
  where
    with_heads : List Head → List TraitFn → Callables
    with_heads heads trait_fns = record { trait_fns = trait_fns; heads = heads }
