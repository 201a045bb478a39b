-- How the terms of an instruction's parts are called, and values of the types that they give.
use Rattle.std.proofs.Common.{◌≡◌, ℕ, zero, suc, ◌<◌, List, [], Bool, false, Option, Some, None, refl, sym, ap, ◌∙◌, subst, arith}
use Rattle.std.specs.Prelude.{slice_get}
use Rattle.std.specs.Option.{option_map_or}
use Rattle.isle_base.specs.declared.ids.TermId.{TermId}
use Rattle.isle_core.specs.declared.types.ReturnKind.TheVariants as return_kind
use Rattle.isle_core.specs.declared.types.Term.{Term}
use Rattle.isle_core.specs.declared.values.Callee.TheVariants.{External}
use Rattle.isle_core.specs.Calling.{ByTurns, ByCases, kind_by, calling, extractor_kind, extracting}
use Rattle.isle_core.specs.HasType.{HasType}
use Rattle.isle_core.specs.Rule.{Environment}
use Rattle.isle_core.specs.Terms.{sym_text, term_name}
use Rattle.isle_core.specs.Value.{Value, Truth}
use Rattle.isle_core.proofs.OptionLaws.{some_same}
use Rattle.isle_declarations.specs.Signatures.{term_named}
use Rattle.isle_declarations.specs.Terms.{terms}
use Rattle.isle_meta.specs.declared.clif.Instruction.{Instruction}
use Rattle.isle_meta.specs.declared.clif.InstructionFormat.{InstructionFormat}
use Rattle.isle_ast.specs.Tree.{Def}
use Rattle.isle_sema.specs.Typing.{Typed}
use Rattle.isle_sema.proofs.TypedParts.{given_in}
use Rattle.isle_terms.specs.Whole.{whole_of}
use Rattle.isle_prelude_laws.specs.HonestMeaning.{Whole, ValuedInst, SkeletonInst, ValueArray, BlockArray, maker, taker}
use Rattle.isle_prelude_laws.proofs.Callable.{called_so, given_calling, given_extracting, opaque_value}
use Rattle.isle_prelude_laws.proofs.GivenTerms.{given_term, given_number, given_name, makes_nothing}
use Rattle.isle_prelude_laws.proofs.Gives.{Values, IsMaker}
use Rattle.isle_prelude_laws.proofs.Laid.{HasWhole}
use Rattle.isle_prelude_laws.proofs.LaidOut.{one_term}
use Rattle.isle_prelude_laws.proofs.PartTerms.{maker_func, maker_pure, taker_func, taker_multi, taker_sure, HasPair}
use Rattle.isle_prelude_laws.proofs.PassedTrees.{numbers}
use Rattle.isle_prelude_laws.proofs.Plan.{maker_calling, taker_calling, taker_named}

-- ---- how the terms of parts are called

makers_called : (w : Whole)
    → called_so (maker_pure w) (ByTurns (External (maker_func w)) return_kind.Plain)
    (ByCases (External (maker_func w)) return_kind.Plain) ≡ maker_calling w
makers_called ValuedInst = refl
makers_called SkeletonInst = refl
makers_called (ValueArray n) = refl
makers_called (BlockArray n) = refl

takers_called : (w : Whole) → ByCases (External (taker_func w)) (extractor_kind (taker_multi w) (taker_sure w)) ≡ taker_calling w
takers_called ValuedInst = refl
takers_called SkeletonInst = refl
takers_called (ValueArray n) = refl
takers_called (BlockArray n) = refl

-- a value of the whole's type, whatever term makes it
abbrev pub ValueOf : Environment → (List ℕ → Option TermId) → Whole → Type 0
ValueOf env number w = (v : Value) × ((a : TermId) (t : Term) → number (maker w) ≡ Some a → slice_get env.terms a.0 ≡ Some t → HasType env v t.ret_ty)

-- a value for several, if there are several
pub several : (Q : Value → Type 0) (n : ℕ) → (1 < n → (v : Value) × Q v) → (v : Value) × (1 < n → Q v)
several Q zero f = (Truth false, λ h. absurd (omega (arith, h)))
several Q (suc zero) f = (Truth false, λ h. absurd (omega (arith, h)))
several Q (suc (suc n)) f = let r = f (omega arith) in (r.0, λ h. r.1)

module _ (defs : List Def) (env : Environment) (i : Instruction) (f : InstructionFormat) (b : Bool) (typed : Typed defs env) (pair : (w : Whole) → HasWhole b i w → HasPair defs w) where
  maker_called : (w : Whole) → HasWhole b i w → (a : TermId) → numbers (whole_of defs) (maker w) ≡ Some a → calling env a ≡ maker_calling w
  maker_called w has a is =
      let g = given_in typed in
      let p = pair w has in
      let s = p.made.signature in
      let k = given_term defs env s a g p.made.among (ap (term_named (terms defs)) p.made.named ∙ is) in
      given_calling defs env s a (maker w) (maker_func w) g k p.made.own p.made.named p.makes
      ∙ ap (λ x. called_so x (ByTurns (External (maker_func w)) (kind_by s.multi s.partial)) (ByCases (External (maker_func w)) (kind_by s.multi s.partial))) p.made.is_pure
      ∙ ap (λ x. called_so (maker_pure w) (ByTurns (External (maker_func w)) (kind_by x s.partial)) (ByCases (External (maker_func w)) (kind_by x s.partial))) p.made.is_multi
      ∙ ap (λ x. called_so (maker_pure w) (ByTurns (External (maker_func w)) (kind_by false x)) (ByCases (External (maker_func w)) (kind_by false x))) p.made.is_partial
      ∙ makers_called w

  pub taker_called : (w : Whole) → HasWhole b i w → (y : TermId) → term_name env y ≡ taker w → extracting env y ≡ taker_calling w
  taker_called w has y named = by (slice_get env.terms y.0) refl
    where
      by : (o : Option Term) → slice_get env.terms y.0 ≡ o → extracting env y ≡ taker_calling w
      by None at = absurd (taker_named w (sym named ∙ ap (λ o. option_map_or (λ (x : Term). sym_text env x.name) o []) at))
      by (Some x) at =
          let g = given_in typed in
          let p = pair w has in
          let s = p.taken.signature in
          let n = given_number defs env s g p.taken.among in
          let k = given_term defs env s n.0 g p.taken.among n.1 in
          let same = one_term defs env n.0 y k.decl x typed k.there at (given_name defs env s n.0 g k ∙ p.taken.named ∙ sym named) in
          ap (extracting env) (sym same) ∙ given_extracting defs env s n.0 (taker w) (taker_func w) (taker_sure w) g k p.taken.own p.taken.named p.takes
          ∙ ap (λ m. ByCases (External (taker_func w)) (extractor_kind m (taker_sure w))) p.taken.is_multi ∙ takers_called w

  pub whole_value : (w : Whole) → HasWhole b i w → ValueOf env (numbers (whole_of defs)) w
  whole_value w has =
      let g = given_in typed in
      let p = pair w has in
      let s = p.made.signature in
      let n = given_number defs env s g p.made.among in
      let k = given_term defs env s n.0 g p.made.among n.1 in
      let v = opaque_value defs env s.ret k.decl.ret_ty g p.whole k.ret in (
        v.0,
        λ a x is at.
            let j = given_term defs env s a g p.made.among (ap (term_named (terms defs)) p.made.named ∙ is) in
            let ty : k.decl.ret_ty ≡ j.decl.ret_ty = some_same k.decl.ret_ty j.decl.ret_ty (sym k.ret ∙ j.ret) in
            let same : j.decl ≡ x = some_same j.decl x (sym j.there ∙ at) in
            subst (HasType env v.0) (ty ∙ ap (λ (d : Term). d.ret_ty) same) v.1,
      )

  pub maker_is : (val : Values) (w : Whole) → HasWhole b i w
      → ((a : TermId) (x : Term) → numbers (whole_of defs) (maker w) ≡ Some a → slice_get env.terms a.0 ≡ Some x → HasType env (val w) x.ret_ty)
      → (a : TermId) → numbers (whole_of defs) (maker w) ≡ Some a
      → IsMaker env val (maker_calling w) a w
  maker_is val w has fits a is =
      let g = given_in typed in
      let p = pair w has in
      let s = p.made.signature in
      let k = given_term defs env s a g p.made.among (ap (term_named (terms defs)) p.made.named ∙ is) in
      record { made = makes_nothing k p.made.own; called = maker_called w has a is; named = given_name defs env s a g k ∙ p.made.named; decl = k.decl; there = k.there; typed = fits a k.decl is k.there }
