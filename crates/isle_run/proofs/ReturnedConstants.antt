-- A constant that stands in what a rule gives which is reached stands in the function of the rule's term.
use Rattle.std.proofs.Common.{◌≡◌, ◌⊎◌, inl, inr, ⊎_elim, ℕ, zero, suc, ◌+◌, List, [], ◌∷◌, ◌++◌, map, Bool, true, false, Option, Some, None, refl, sym, ap, ◌∙◌, subst}
use Rattle.std.specs.Prelude.{Contains, slice_get}
use Rattle.std.specs.List.{AllByRecursion}
use Rattle.std.specs.Ordering.{int_cmp, is_lt}
use Rattle.isle_core.specs.declared.BindingId.{BindingId}
use Rattle.isle_core.specs.declared.Sym.{Sym}
use Rattle.isle_core.specs.declared.TermId.{TermId}
use Rattle.isle_core.specs.declared.files.Files.{Files}
use Rattle.isle_core.specs.declared.options.CodegenOptions.{CodegenOptions}
use Rattle.isle_core.specs.declared.rule_sets.Constraint.{Constraint}
use Rattle.isle_core.specs.declared.rule_sets.FlatRule.{FlatRule}
use Rattle.isle_core.specs.declared.types.Term.{Term}
use Rattle.isle_core.specs.Calling.{impure, is_several, kind_of}
use Rattle.isle_core.specs.Path.{Path, at, paths_of}
use Rattle.isle_core.specs.Rule.{Environment, Rule, rules_of}
use Rattle.isle_core.specs.StandsFor.{IsFlat, AreFlat}
use Rattle.isle_core.specs.Terms.{sym_text}
use Rattle.isle_core.specs.Tests.{rule_result}
use Rattle.isle_core.proofs.Contained.{none_contained, contained_cases, head_contained, tail_contained}
use Rattle.isle_core.proofs.OptionLaws.{some_same}
use Rattle.isle_blocks.specs.AllReturns.{IsReached}
use Rattle.isle_blocks.specs.AllTests.{AreAmong}
use Rattle.isle_codegen.proofs.FromBlocks.{given_from}
use Rattle.isle_codegen.specs.FromBlock.{IsFromBlock}
use Rattle.isle_operand_names.specs.Names.{body_names}
use Rattle.isle_tree.specs.Program.{Function}
use Rattle.isle_run.specs.PathConstants.{StandsIn}
use Rattle.isle_run.specs.RuleWants.{is_below, TestsWithin}
use Rattle.isle_run.proofs.NamedReturns.{function_gives_it}
use Rattle.isle_run.proofs.TestsOfRules.{tests_within}

-- a flat rule at the place of its rule
record FlatAt (env : Environment) (ps : List Path) (fs : List FlatRule) (i : ℕ) (r : Rule) : Type 0 where
  flat : FlatRule
  there : slice_get fs i ≡ Some flat
  before : ℕ
  is : IsFlat env ps r before flat

flat_at : (env : Environment) (ps : List Path) (rs : List Rule) (fs : List FlatRule) (n i : ℕ) (r : Rule) → AreFlat env ps rs n fs → slice_get rs i ≡ Some r → FlatAt env ps fs i r
flat_at env ps [] fs n i r h e = absurd cc
flat_at env ps (x ∷ rs) [] n i r h e = absurd h
flat_at env ps (x ∷ rs) (f ∷ fs) n zero r h e = record { flat = f; there = refl; before = n; is = subst (λ (y : Rule). IsFlat env ps y n f) (some_same x r e) h.0 }
flat_at env ps (x ∷ rs) (f ∷ fs) n (suc i) r h e = let k = flat_at env ps rs fs (n + impure env x.rhs) i r h.1 e in record { flat = k.flat; there = k.there; before = k.before; is = k.is }

-- the rule at the place of its flat rule, which is somewhere among them
record RuleAt (env : Environment) (ps : List Path) (rs : List Rule) (fs : List FlatRule) (f : FlatRule) : Type 0 where
  place : ℕ
  rule : Rule
  there : slice_get rs place ≡ Some rule
  flat_there : slice_get fs place ≡ Some f
  before : ℕ
  is : IsFlat env ps rule before f

rule_at : (env : Environment) (ps : List Path) (rs : List Rule) (fs : List FlatRule) (n : ℕ) (f : FlatRule) → AreFlat env ps rs n fs → Contains fs f → RuleAt env ps rs fs f
rule_at env ps rs [] n f h c = absurd (none_contained f c)
rule_at env ps [] (g ∷ fs) n f h c = absurd h
rule_at env ps (r ∷ rs) (g ∷ fs) n f h c =
    ⊎_elim
    (λ (e : g ≡ f). record { place = 0; rule = r; there = refl; flat_there = ap Some e; before = n; is = subst (IsFlat env ps r n) e h.0 })
    (λ d. let k = rule_at env ps rs fs (n + impure env r.rhs) f h.1 d in record { place = suc k.place; rule = k.rule; there = k.there; flat_there = k.flat_there; before = k.before; is = k.is })
    (contained_cases g fs f c)

-- what stands at a place stands among the others
stands_at : {A : Type 0} (xs : List A) (i : ℕ) (x : A) → slice_get xs i ≡ Some x → Contains xs x
stands_at [] i x e = absurd cc
stands_at (y ∷ xs) zero x e = subst (Contains (y ∷ xs)) (some_same y x e) (head_contained y xs)
stands_at (y ∷ xs) (suc i) x e = tail_contained y xs x (stands_at xs i x e)

-- the rule at a place is reached among flat rules if it is among rules
reached_of : (env : Environment) (id : TermId) (t : Term) (ps : List Path) (fs : List FlatRule) (place : ℕ) (r : Rule) (f : FlatRule) (n : ℕ) → AreFlat env ps (rules_of env id) 0 fs → slice_get fs place ≡ Some f → IsFlat env ps r n f
    → (is_several (kind_of t.kind) ≡ false → (other : ℕ) (g : Rule) → slice_get (rules_of env id) other ≡ Some g → TestsWithin env g r → (other ≡ place) ⊎ (is_below g r ≡ true))
    → IsReached (is_several (kind_of t.kind)) fs f
reached_of env id t ps fs place r f n flat there is h = one (is_several (kind_of t.kind)) h
  where
    one : (b : Bool) → (b ≡ false → (other : ℕ) (g : Rule) → slice_get (rules_of env id) other ≡ Some g → TestsWithin env g r → (other ≡ place) ⊎ (is_below g r ≡ true)) → IsReached b fs f
    one true k = tt
    one false k = λ g i equals among.
        let of = rule_at env ps (rules_of env id) fs 0 g flat i in
        ⊎_elim
        (λ (e : of.place ≡ place). inl (some_same g f (sym of.flat_there ∙ ap (slice_get fs) e ∙ there)))
        (λ l. inr (ap (λ (m : _). is_lt (int_cmp m f.prio)) of.is.prio ∙ ap (λ (m : _). is_lt (int_cmp of.rule.prio m)) is.prio ∙ l))
        (k refl of.place of.rule of.there (tests_within env ps of.rule r of.before n g f of.is is equals among))

pub given_in_function : (options : CodegenOptions) (files : Files) (env : Environment) (id : TermId) (f : Function) (place : ℕ) (r : Rule) (c : Sym) → IsFromBlock options files env id f → slice_get (rules_of env id) place ≡ Some r
    → ((before : ℕ) → StandsIn c (rule_result env r before))
    → ((t : Term) → slice_get env.terms id.0 ≡ Some t → is_several (kind_of t.kind) ≡ false → (other : ℕ) (g : Rule) → slice_get (rules_of env id) other ≡ Some g → TestsWithin env g r → (other ≡ place) ⊎ (is_below g r ≡ true))
    → Contains (body_names f.body) (sym_text env c)
given_in_function options files env id f place r c b there stands reached =
    let ps = paths_of b.set.bindings in
    let k = flat_at env ps (rules_of env id) b.set.rules 0 place r b.stands.flat there in
    let in_set = stands_at b.set.rules place k.flat k.there in
    let is_reached = reached_of env id b.term ps b.set.rules place r k.flat k.before b.stands.flat k.there k.is (reached b.term b.found) in
    function_gives_it env b.term b.set.bindings options files b.block f k.flat c b.lawful (b.gives k.flat in_set is_reached) (given_from options files env id f b) (subst (StandsIn c) (sym k.is.result) (stands k.before))
