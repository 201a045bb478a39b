-- What calls and their answers do in the step of an order, and what follows them in a rule's part.
use Rattle.std.proofs.Common.{◌≡◌, ℕ, ◌+◌, List, [], ◌∷◌, ◌++◌, Bool, true, false, cond, ◌||◌, Option, Some, None, refl, sym, ap, ◌∙◌, subst}
use Rattle.std.specs.Prelude.{slice_get, Contains}
use Rattle.isle_core.specs.declared.BindingId.{BindingId}
use Rattle.isle_core.specs.declared.TermId.{TermId}
use Rattle.isle_core.specs.declared.rule_sets.Binding.{Binding}
use Rattle.isle_core.specs.declared.rule_sets.Binding.TheVariants as binding
use Rattle.isle_core.specs.declared.types.ReturnKind.{ReturnKind}
use Rattle.isle_core.specs.declared.types.ReturnKind.TheVariants as return_kind
use Rattle.isle_core.specs.declared.values.Callee.{Callee}
use Rattle.isle_core.specs.Answered.{Item, Held, Absent, One, Optional, Listed}
use Rattle.isle_core.specs.Block.{Control}
use Rattle.isle_core.specs.BlockRun.{bind_all}
use Rattle.isle_core.specs.BlockViews.{SeenStep}
use Rattle.isle_core.specs.Calling.{Calling, ByTurns, ByCases, NoCall, calling, answers_often}
use Rattle.isle_core.specs.CallRun.{Went, Goes, Ends, then_go, make}
use Rattle.isle_core.specs.ExternalCall.{IsCall}
use Rattle.isle_core.specs.Meaning.{Meaning}
use Rattle.isle_core.specs.Parts.{Given}
use Rattle.isle_core.specs.Path.{Path, Called, Chosen, Paths, at, paths_of}
use Rattle.isle_core.specs.Rule.{Environment}
use Rattle.isle_core.specs.SamePath.{same_path}
use Rattle.isle_core.specs.SeveralRun.{choosing, behind_calls, on_turns, on_items, several_run, several_control}
use Rattle.isle_core.specs.SeveralSet.{Rest, is_among, behind_answer, behind_call}
use Rattle.isle_core.specs.Value.{Value, Made}
use Rattle.isle_core.specs.ValueAt.{Known, value_at, is_found}
use Rattle.isle_core.proofs.Contained.{head_contained, tail_contained}
use Rattle.isle_core.proofs.SamePathLaws.{same_sound}
use Rattle.isle_core.proofs.TakenItems.{by_truth}
use Rattle.isle_blocks.specs.Needed.{list_before}
use Rattle.isle_blocks.specs.Nest.{alone, open_by, open_one, opening}
use Rattle.isle_blocks.proofs.FreshLists.{IsPlainAt}
use Rattle.isle_blocks.proofs.LawBinds.{call_made}
use Rattle.isle_blocks.proofs.NeededRuns.{IsStill, AreStill, path_still}
use Rattle.isle_blocks.proofs.OpenedRuns.{loop_one}
use Rattle.isle_blocks.proofs.OrderedPlain.{NoItems}

-- ---- calls

-- what follows calls may be told in other words
pub behind_same : (w : Went) (g : Given) (one other : Known → Given → Given) → ((k : Known) (so : Given) → one k so ≡ other k so) → behind_calls w g one ≡ behind_calls w g other
behind_same (Goes known made) g one other h = h known (record { results = g.results; calls = made })
behind_same (Ends o) g one other h = refl

behind_given : (w : Went) (g : Given) (made : List Made) (next : Known → Given → Given) → behind_calls w g next ≡ behind_calls w (record { results = g.results; calls = made }) next
behind_given (Goes known calls) g made next = refl
behind_given (Ends o) g made next = refl

-- calls after one another
pub behind_then : (w : Went) (go : Known → List Made → Went) (g : Given) (next : Known → Given → Given) → behind_calls (then_go w go) g next ≡ behind_calls w g (λ k so. behind_calls (go k so.calls) so next)
behind_then (Goes known made) go g next = behind_given (go known made) g made next
behind_then (Ends o) go g next = refl

-- ---- answers

-- a path that is none of these
not_among : (p : Path) (done : List Path) → (Contains done p → ⊥) → is_among p done ≡ false
not_among p [] new = refl
not_among p (q ∷ done) new = both (same_path p q) (is_among p done)
    (by_truth (same_path p q) (λ yes. absurd (new (subst (Contains (q ∷ done)) (sym (same_sound p q yes)) (head_contained q done)))) (λ fails. fails))
    (not_among p done (λ c. new (tail_contained q done p c)))
  where
    both : (a b : Bool) → a ≡ false → b ≡ false → (a || b) ≡ false
    both false b e h = h
    both true b e h = absurd cc

-- a call is made, and then its answer is gone through
pub called_behind : (env : Environment) (m : Meaning) (args : List Value) (p : Path) (term : TermId) (ps : Paths) (n : ℕ) (done : List Path) (known : Known) (g : Given) (rest : Rest) → p ≡ Called term ps n → (Contains done p → ⊥)
    → behind_call env m args p done known g rest ≡ behind_calls (make env m args p known g.calls) g (λ now so. behind_answer (calling env term) p (value_at env m args now p) (p ∷ done) now so rest)
called_behind env m args p term ps n done known g rest e new =
    subst (λ q. (Contains done q → ⊥) → behind_call env m args q done known g rest ≡ behind_calls (make env m args q known g.calls) g (λ now so. behind_answer (calling env term) q (value_at env m args now q) (q ∷ done) now so rest)) (sym e)
    (λ fresh. ap (λ b. cond b (rest done known g) (behind_calls (make env m args (Called term ps n) known g.calls) g (λ now so. behind_answer (calling env term) (Called term ps n) (value_at env m args now (Called term ps n)) (Called term ps n ∷ done) now so rest))) (not_among (Called term ps n) done fresh)) new

-- by how often it answers
abbrev pub by_kind : ReturnKind → Path → Held → List Path → Known → Given → Rest → Given
by_kind return_kind.Plain p h done known g rest = rest done known g
by_kind return_kind.Option p h done known g rest = cond (is_found h) (rest done known g) g
by_kind return_kind.Iterator p h done known g rest = on_items p h known g (rest done)

kind_answer : (kind : ReturnKind) (callee : Callee) (p : Path) (h : Held) (done : List Path) (known : Known) (g : Given) (rest : Rest) → behind_answer (ByTurns callee kind) p h done known g rest ≡ by_kind kind p h done known g rest
kind_answer return_kind.Plain callee p h done known g rest = refl
kind_answer return_kind.Option callee p h done known g rest = refl
kind_answer return_kind.Iterator callee p h done known g rest = refl

case_answer : (kind : ReturnKind) (callee : Callee) (p : Path) (h : Held) (done : List Path) (known : Known) (g : Given) (rest : Rest) → behind_answer (ByCases callee kind) p h done known g rest ≡ by_kind kind p h done known g rest
case_answer return_kind.Plain callee p h done known g rest = refl
case_answer return_kind.Option callee p h done known g rest = refl
case_answer return_kind.Iterator callee p h done known g rest = refl

pub answered : (kind : ReturnKind) (c : Calling) (p : Path) (h : Held) (done : List Path) (known : Known) (g : Given) (rest : Rest) → IsCall kind c → behind_answer c p h done known g rest ≡ by_kind kind p h done known g rest
answered kind (ByTurns callee of) p h done known g rest e = kind_answer of callee p h done known g rest ∙ ap (λ k. by_kind k p h done known g rest) e
answered kind (ByCases callee of) p h done known g rest e = case_answer of callee p h done known g rest ∙ ap (λ k. by_kind k p h done known g rest) e
answered kind NoCall p h done known g rest e = absurd e

pub often_is : (c : Calling) → IsCall return_kind.Iterator c → answers_often c ≡ true
often_is (ByTurns callee of) e = subst (λ k. answers_often (ByTurns callee k) ≡ true) (sym e) refl
often_is (ByCases callee of) e = subst (λ k. answers_often (ByCases callee k) ≡ true) (sym e) refl
often_is NoCall e = absurd e

-- ---- loops

turns_alike : (q : Path) (is : List Item) (place : ℕ) (known : Known) (g : Given) (one other : Known → Given → Given) → ((j : ℕ) (h : Given) → one (choosing known q j) h ≡ other (choosing known q j) h) → on_turns q is place known g one ≡ on_turns q is place known g other
turns_alike q [] place known g one other h = refl
turns_alike q (i ∷ is) place known g one other h =
    ap (λ x. on_turns q is (place + 1) known x one) (h place g) ∙ turns_alike q is (place + 1) known (other (choosing known q place) g) one other h

pub items_alike : (q : Path) (held : Held) (known : Known) (g : Given) (one other : Known → Given → Given) → ((j : ℕ) (h : Given) → one (choosing known q j) h ≡ other (choosing known q j) h) → on_items q held known g one ≡ on_items q held known g other
items_alike q (Listed is) known g one other h = turns_alike q is 0 known g one other h
items_alike q Absent known g one other h = refl
items_alike q (One i) known g one other h = refl
items_alike q (Optional o) known g one other h = refl

-- ---- orders without items

module _ (env : Environment) (m : Meaning) (args : List Value) (bs : List Binding) where
  -- a binding that changes nothing and is no item
  plain_one : (o : Option Binding) (b : BindingId) (s : SeenStep) → slice_get bs b.0 ≡ o → list_before o ≡ None → IsStill env (at (paths_of bs) b) → open_one o b s ≡ (b ∷ s.0, s.1)
  plain_one (Some (binding.Iterator source)) b s e none still = cc
  plain_one o b s e none still = refl

  pub plain_run : (xs ys : List BindingId) (c : Control) → AreStill env (paths_of bs) xs → NoItems bs xs → (known : Known) (g : Given)
      → several_run env m args (paths_of bs) (alone (opening bs (xs ++ ys) c)) known g ≡ several_run env m args (paths_of bs) (alone (opening bs ys c)) known g
  plain_run [] ys c still none known g = refl
  plain_run (x ∷ xs) ys c still none known g =
      let s = opening bs (xs ++ ys) c in
      ap (λ step. several_run env m args (paths_of bs) (alone step) known g) (plain_one (slice_get bs x.0) x s refl none.0 still.0)
      ∙ ap (λ w. behind_calls (then_go w (bind_all env m args (paths_of bs) s.0)) g (several_control env m args (paths_of bs) s.1)) (path_still env m args (at (paths_of bs) x) known g.calls still.0)
      ∙ plain_run xs ys c still.1 none.1 known g

  -- a call before a step
  pub call_run : (c : BindingId) (s : SeenStep) (term : TermId) (ps : Paths) (n : ℕ) (known : Known) (g : Given) → IsPlainAt bs c → at (paths_of bs) c ≡ Called term ps n
      → several_run env m args (paths_of bs) (alone (open_one (slice_get bs c.0) c s)) known g ≡ behind_calls (make env m args (at (paths_of bs) c) known g.calls) g (several_run env m args (paths_of bs) (alone s))
  call_run c s term ps n known g plain e =
      ap (λ o. several_run env m args (paths_of bs) (alone (open_by o c s)) known g) plain
      ∙ ap (λ w. behind_calls (then_go w (bind_all env m args (paths_of bs) s.0)) g (several_control env m args (paths_of bs) s.1)) (call_made env m args (at (paths_of bs) c) term ps n known g.calls e)
      ∙ behind_then (make env m args (at (paths_of bs) c) known g.calls) (bind_all env m args (paths_of bs) s.0) g (several_control env m args (paths_of bs) s.1)

  -- its item, before a step
  pub item_run : (c b : BindingId) (s : SeenStep) (known : Known) (g : Given) → slice_get bs b.0 ≡ Some (binding.Iterator c) → at (paths_of bs) b ≡ Chosen (at (paths_of bs) c)
      → several_run env m args (paths_of bs) (alone (open_one (slice_get bs b.0) b s)) known g
      ≡ on_items (at (paths_of bs) c) (value_at env m args known (at (paths_of bs) c)) known g (several_run env m args (paths_of bs) (alone s))
  item_run c b s known g e path =
      ap (λ o. several_run env m args (paths_of bs) (alone (open_one o b s)) known g) e
      ∙ sym (loop_one env m args (paths_of bs) b (Chosen (at (paths_of bs) c)) s known g (sym path))
