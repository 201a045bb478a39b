-- What a rule's tree is made of, and of which term a rule is.
use Rattle.std.proofs.Common.{◌≡◌, ℕ, List, Option, Some, None, refl, sym, ap, ◌∙◌}
use Rattle.std.specs.Prelude.{option_map, option_and_then, slice_get}
use Rattle.std.proofs.lemmas.Option.{same_Some}
use Rattle.isle_core.specs.declared.TermId.{TermId}
use Rattle.isle_core.specs.Expr.{Expr as CoreExpr}
use Rattle.isle_core.specs.Pattern.{Pattern as CorePattern}
use Rattle.isle_core.specs.Rule.{Rule, IfLet}
use Rattle.isle_declarations.specs.Heads.{terms_of}
use Rattle.isle_declarations.specs.Signatures.{Signature, RuleDef, term_named}
use Rattle.isle_declarations.specs.Symbols.{index_of}
use Rattle.isle_declarations.specs.Terms.{terms}
use Rattle.isle_declarations.proofs.LookUps.{at_place, named_at}
use Rattle.isle_sema.specs.RulePass.{patterns_of, right_side_of, conditions_of, rule_from, rule_pass}
use Rattle.isle_sema.specs.Templates.{templates}
use Rattle.isle_templates.specs.Elaborated.{elaborated}
use Rattle.isle_terms.specs.Whole.{Whole, termed}

-- what is made of something that may be there
pub record IsMapped {X Y : Type 0} (f : X → Y) (o : Option X) (y : Y) : Type 0 where
  pub from : X
  pub there : o ≡ Some from
  pub is : f from ≡ y

pub mapped : {X Y : Type 0} (f : X → Y) (o : Option X) (y : Y) → option_map f o ≡ Some y → IsMapped f o y
mapped f None y h = absurd cc
mapped f (Some x) y h = record { from = x; there = refl; is = same_Some (f x) y h }

-- the number of a term is its name's place
pub place_of : (sigs : List Signature) (name : List ℕ) (term : TermId) → term_named sigs name ≡ Some term → index_of (terms_of sigs) name ≡ Some term.0
place_of sigs name term h =
    let m = mapped (λ (n : ℕ). record { 0 = n }) (index_of (terms_of sigs) name) term h in
    m.there ∙ ap (λ (t : TermId). Some t.0) m.is

-- a term that is there has a place
pub signature_at : (w : Whole) (name : List ℕ) (s : Signature) (term : TermId) → termed w name ≡ Some s → term_named (terms w.defs) name ≡ Some term → slice_get (terms w.defs) term.0 ≡ Some s
signature_at w name s term is number = sym (named_at (terms w.defs) name ∙ ap (at_place (terms w.defs)) (place_of (terms w.defs) name term number)) ∙ is

-- ---- a rule's tree

pub record IsRuleMade (w : Whole) (r : RuleDef) (x : Rule) : Type 0 where
  pub written : Rule
  pub is : elaborated (templates w) written ≡ x
  pub root : term_named (terms w.defs) r.term ≡ Some x.root_term
  pub args : (patterns_of w r).trees ≡ Some written.args
  pub iflets : (conditions_of w r).trees ≡ Some written.iflets
  pub rhs : (right_side_of w r).tree ≡ Some written.rhs
  pub pos : r.pos ≡ x.pos

pub rule_made : (w : Whole) (i : ℕ) (r : RuleDef) (x : Rule) → rule_pass w i r ≡ Some x → IsRuleMade w r x
rule_made w i r x h = by (term_named (terms w.defs) r.term) (patterns_of w r).trees (conditions_of w r).trees (right_side_of w r).tree refl refl refl refl h
  where
    by : (term : Option TermId) (trees : Option (List CorePattern)) (cs : Option (List IfLet)) (e : Option CoreExpr) → term_named (terms w.defs) r.term ≡ term → (patterns_of w r).trees ≡ trees → (conditions_of w r).trees ≡ cs → (right_side_of w r).tree ≡ e
        → option_map (elaborated (templates w)) (option_and_then (λ (term : TermId). option_and_then (λ (args : List CorePattern). option_and_then (λ (iflets : List IfLet). option_map (rule_from w i r term args iflets) e) cs) trees) term) ≡ Some x → IsRuleMade w r x
    by None trees cs e t p c s k = absurd cc
    by (Some term) None cs e t p c s k = absurd cc
    by (Some term) (Some args) None e t p c s k = absurd cc
    by (Some term) (Some args) (Some iflets) None t p c s k = absurd cc
    by (Some term) (Some args) (Some iflets) (Some rhs) t p c s k =
        let one = rule_from w i r term args iflets rhs in
        let is = same_Some (elaborated (templates w) one) x k in
        record { written = one; is = is; root = t ∙ ap (λ (y : Rule). Some y.root_term) is; args = p; iflets = c; rhs = s; pos = ap (λ (y : Rule). y.pos) is }
