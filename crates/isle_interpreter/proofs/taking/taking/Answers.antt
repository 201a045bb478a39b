use Rattle.std.proofs.Common.{rules, ◌≡◌, ℕ, Some, None, length, map, inr, sym, ◌∙◌, subst}
use Rattle.std.specs.Prelude.{◌≢◌}
use Rattle.std.proofs.lemmas.List.{length-map}
use Rattle.isle_core.specs.ValueViews.{value, values}
use Rattle.isle_tree.specs.Run.{function_of}
use Rattle.isle_tree.specs.Views.{function}
use Rattle.isle_places.specs.Signatures.{type_names}
use Rattle.isle_interpreter.specs.Refusals.{IsWrongArg, no_term, arg_count, arg_type}
use Rattle.isle_interpreter.proofs.taking.taking.Goals as goal

pub returns-in-None-clause-refused : goal.returns-in-None-clause-refused
returns-in-None-clause-refused c =
    let none : function_of c.args.term.now (map function c.args.p.now.fns) ≡ None = search rules in
    inr (tt, λ m. no_term none)

pub returns-then-args-as_slice-clause-refused : goal.returns-then-args-as_slice-clause-refused
returns-then-args-as_slice-clause-refused c =
    let f = c.in-Some.f.now in
    let there : function_of c.args.term.now (map function c.args.p.now.fns) ≡ Some (function f) = search rules in
    let apart : length c.args.args.now ≢ length f.params = search rules in
    inr (tt, λ m. arg_count (function f) there (subst (λ (n : ℕ). n ≢ length f.params) (sym (length-map c.args.args.now value)) apart))

pub returns-in-Some-2-clause-refused : goal.returns-in-Some-2-clause-refused
returns-in-Some-2-clause-refused c =
    let f = c.in-Some.f.now in
    let there : function_of c.args.term.now (map function c.args.p.now.fns) ≡ Some (function f) = search rules in
    let count : length c.args.args.now ≡ length f.params = search rules in
    let wrong : IsWrongArg c.args.p.now.types (type_names f.params) (values c.args.args.now) c.in-Some-2.index = search rules in
    inr (tt, λ m. arg_type (function f) c.in-Some-2.index there (length-map c.args.args.now value ∙ count) wrong)
