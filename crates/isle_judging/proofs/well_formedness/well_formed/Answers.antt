use Rattle.std.proofs.Common.{◌≡◌, List, map, ap, subst, ◌∙◌, Bool, true, false}
use Rattle.std.specs.Prelude.{◌↔◌, IsTrue}
use Rattle.std.specs.List.{AllByRecursion, IsDistinct}
use Rattle.std.specs.Str.{bytes_eq}
use Rattle.isle_tree.specs.declared.tree.Function.{Function as CodeFunction}
use Rattle.isle_tree.specs.declared.tree.Program.{Program as CodeProgram}
use Rattle.isle_tree.specs.declared.tree.TraitFn.{TraitFn}
use Rattle.isle_tree.specs.declared.tree.TypeItem.{TypeItem}
use Rattle.isle_tree.specs.Views.{function, program}
use Rattle.isle_tree.specs.WellFormed.{Callables, callables, function_head, IsTraitFn, IsTypeItem, terms, fn_names, declared_names}
use Rattle.isle_judging.proofs.Functions.{DecideAll, refused_trait_fns, refused_names, refused_types, refused_type_names, refused_fns, by_names}
use Rattle.isle_judging.proofs.well_formedness.well_formed.Goals as goal

pub returns-then-not-are_trait_fns : goal.returns-then-not-are_trait_fns
returns-then-not-are_trait_fns c =
    refused_trait_fns c.args.p.now (subst (λ fs. IsTrue false ↔ AllByRecursion IsTraitFn fs) c.as_slice.ensures c.if-not-are_trait_fns.ensures)

-- whether the functions of the trait have different names
abbrev Differ : Bool → List TraitFn → Type 0
Differ b fns = IsTrue b ↔ IsDistinct bytes_eq (fn_names fns)

pub returns-then-not-branch : goal.returns-then-not-branch
returns-then-not-branch c =
    refused_names c.args.p.now (subst (Differ false) c.as_slice-2.ensures (subst (λ b. Differ b c.as_slice-2.result.now) c.if-not-branch.true c.in_ok-are_apart.ensures))

pub returns-then-not-are_type_items : goal.returns-then-not-are_type_items
returns-then-not-are_type_items c =
    refused_types c.args.p.now (subst (λ ts. IsTrue false ↔ AllByRecursion IsTypeItem ts) c.as_slice-3.ensures c.if-not-are_type_items.ensures)

-- whether the types have different names
abbrev TypesDiffer : Bool → List TypeItem → Type 0
TypesDiffer b ts = IsTrue b ↔ IsDistinct bytes_eq (declared_names ts)

pub returns-then-not-branch-2 : goal.returns-then-not-branch-2
returns-then-not-branch-2 c =
    refused_type_names c.args.p.now (subst (TypesDiffer false) c.as_slice-4.ensures (subst (λ b. TypesDiffer b c.as_slice-4.result.now) c.if-not-branch-2.true c.in_ok-are_types_apart.ensures))

-- what may be called, by the code's lists and in the program
may_call : (p : CodeProgram) (may : Callables) (trait_fns : List TraitFn) (fns : List CodeFunction)
    → may ≡ record { trait_fns = trait_fns; heads = map function_head (map function fns) } → trait_fns ≡ p.trait_fns → fns ≡ p.fns → may ≡ callables (program p)
may_call p may trait_fns fns is e f =
    is
    ∙ ap {B = Callables} (λ ts. record { trait_fns = ts; heads = map function_head (map function fns) }) e
    ∙ ap {B = Callables} (λ fs. record { trait_fns = p.trait_fns; heads = map function_head (map function fs) }) f

-- whether the functions are well formed, of the code's list and of the program's
same_fns : (p : CodeProgram) (b c : Bool) (may : Callables) (fns : List CodeFunction) → may ≡ callables (program p) → fns ≡ p.fns → b ≡ c → DecideAll may b fns → DecideAll (callables (program p)) c p.fns
same_fns p b c may fns e f g h = subst (λ m. DecideAll m c p.fns) e (subst (DecideAll may c) f (subst (λ x. DecideAll may x fns) g h))

pub returns-then-not-branch-3 : goal.returns-then-not-branch-3
returns-then-not-branch-3 c =
    refused_fns c.args.p.now (same_fns c.args.p.now _ false _ _ (may_call c.args.p.now _ _ _ c.in_ok-callees.ensures c.as_slice-5.ensures c.as_slice-fns.ensures) c.as_slice-fns.ensures c.if-not-branch-3.true c.in_ok-are_functions.ensures)

pub returns : goal.returns
returns c =
    by_names c.args.p.now c.in_ok-are_distinct.field-0
    (subst (λ fs. IsTrue true ↔ AllByRecursion IsTraitFn fs) c.as_slice.ensures c.if-not-are_trait_fns.ensures)
    (subst (Differ true) c.as_slice-2.ensures (subst (λ b. Differ b c.as_slice-2.result.now) c.if-not-branch.false c.in_ok-are_apart.ensures))
    (subst (λ ts. IsTrue true ↔ AllByRecursion IsTypeItem ts) c.as_slice-3.ensures c.if-not-are_type_items.ensures)
    (subst (TypesDiffer true) c.as_slice-4.ensures (subst (λ b. TypesDiffer b c.as_slice-4.result.now) c.if-not-branch-2.false c.in_ok-are_types_apart.ensures))
    (same_fns c.args.p.now _ true _ _ (may_call c.args.p.now _ _ _ c.in_ok-callees.ensures c.as_slice-5.ensures c.as_slice-fns.ensures) c.as_slice-fns.ensures c.if-not-branch-3.false c.in_ok-are_functions.ensures)
    (subst (λ fns. IsTrue c.in_ok-are_distinct.field-0 ↔ IsDistinct bytes_eq (terms (map function fns))) c.as_slice-fns.ensures c.in_ok-are_distinct.ensures)
