-- How many results are kept, and that a block adds results to those before it.
use Rattle.std.proofs.Common.{◌≡◌, ℕ, zero, suc, ◌+◌, ◌≤◌, ◌<◌, List, [], ◌∷◌, ◌++◌, length, map, Bool, true, false, cond, refl, sym, ap, ◌∙◌, arith, append_assoc}
use Rattle.std.proofs.lemmas.List.{append-nil}
use Rattle.isle_core.specs.Answered.{Item}
use Rattle.isle_core.specs.Block.{Block, Stop, Step, Control, Match, Equal, Loop, Return, Arms, NoArm, Arm}
use Rattle.isle_core.specs.BlockRun.{bind_all}
use Rattle.isle_core.specs.CallRun.{Went, Goes, Ends}
use Rattle.isle_core.specs.Cut.{cut_after}
use Rattle.isle_core.specs.Meaning.{Meaning}
use Rattle.isle_core.specs.Parts.{Given}
use Rattle.isle_core.specs.Path.{Path, at}
use Rattle.isle_core.specs.Rule.{Environment}
use Rattle.isle_core.specs.SeveralRun.{choosing, give_held, behind_calls, on_turns, on_items, list_of, several_run, several_control, several_arms}
use Rattle.isle_core.specs.Value.{Value, Made}
use Rattle.isle_core.specs.ValueAt.{Held, Absent, One, Optional, Listed, AValue, ATuple, Known, value_at, meets, equal_held}

-- the values of results
abbrev pub values_in : List (Value × List Made) → List Value
values_in rs = map (λ (r : Value × List Made). r.0) rs

-- all are kept if there is room
pub cut_within : (k : ℕ) (rs : List (Value × List Made)) (calls : List Made) → length rs ≤ k → cut_after k rs calls ≡ (values_in rs, calls)
cut_within k [] calls le = refl
cut_within zero (r ∷ rs) calls le = absurd (omega (arith, le))
cut_within (suc k) (r ∷ rs) calls le = ap (λ (x : List Value × List Made). (r.0 ∷ x.0, x.1)) (cut_within k rs calls (omega (arith, le)))

-- what comes after the last that is kept counts for nothing
pub cut_more : (k : ℕ) (rs more : List (Value × List Made)) (calls others : List Made) → k < length rs → cut_after k (rs ++ more) calls ≡ cut_after k rs others
cut_more k [] more calls others lt = absurd (omega (arith, lt))
cut_more zero (r ∷ rs) more calls others lt = refl
cut_more (suc k) (r ∷ rs) more calls others lt = ap (λ (x : List Value × List Made). (r.0 ∷ x.0, x.1)) (cut_more k rs more calls others (omega (arith, lt)))

-- the one that fills the room is kept, with the calls up to it
pub cut_last : (rs : List (Value × List Made)) (r : Value × List Made) (calls : List Made) → cut_after (length rs) (rs ++ r ∷ []) calls ≡ (values_in rs ++ r.0 ∷ [], r.1)
cut_last [] r calls = refl
cut_last (x ∷ rs) r calls = ap (λ (y : List Value × List Made). (x.0 ∷ y.0, y.1)) (cut_last rs r calls)

-- ---- results are only added

pub record Appends (g h : Given) : Type 0 where
  pub rest : List (Value × List Made)
  pub is : h.results ≡ g.results ++ rest

pub appends_none : (g h : Given) → h.results ≡ g.results → Appends g h
appends_none g h e = record { rest = []; is = e ∙ sym (append-nil g.results) }

pub appends_on : (g h l : Given) → Appends g h → Appends h l → Appends g l
appends_on g h l a b = record { rest = a.rest ++ b.rest; is = b.is ∙ ap (λ rs. rs ++ b.rest) a.is ∙ append_assoc g.results a.rest b.rest }

held_appends : (h : Held) (g : Given) → Appends g (give_held h g)
held_appends (One (AValue v)) g = record { rest = (v, g.calls) ∷ []; is = refl }
held_appends (One (ATuple vs)) g = appends_none g g refl
held_appends Absent g = appends_none g g refl
held_appends (Optional o) g = appends_none g g refl
held_appends (Listed is) g = appends_none g g refl

calls_append : (w : Went) (g : Given) (next : Known → Given → Given) → ((known : Known) (so : Given) → Appends so (next known so)) → Appends g (behind_calls w g next)
calls_append (Goes known made) g next h = let a = h known (record { results = g.results; calls = made }) in record { rest = a.rest; is = a.is }
calls_append (Ends o) g next h = appends_none g (record { results = g.results; calls = o.calls }) refl

pub turns_append : (is : List Item) (p : Path) (place : ℕ) (known : Known) (g : Given) (turn : Known → Given → Given) → ((now : Known) (so : Given) → Appends so (turn now so)) → Appends g (on_turns p is place known g turn)
turns_append [] p place known g turn h = appends_none g g refl
turns_append (i ∷ is) p place known g turn h =
    let so = turn (choosing known p place) g in
    appends_on g so (on_turns p is (place + 1) known so turn) (h (choosing known p place) g) (turns_append is p (place + 1) known so turn h)

items_append : (held : Held) (p : Path) (known : Known) (g : Given) (turn : Known → Given → Given) → ((now : Known) (so : Given) → Appends so (turn now so)) → Appends g (on_items p held known g turn)
items_append (Listed is) p known g turn h = turns_append is p 0 known g turn h
items_append Absent p known g turn h = appends_none g g refl
items_append (One i) p known g turn h = appends_none g g refl
items_append (Optional o) p known g turn h = appends_none g g refl

either : (x : Bool) (g h l : Given) → Appends g h → Appends g l → Appends g (cond x h l)
either true g h l a b = a
either false g h l a b = b

mutual
  pub block_appends : (b : Block) (env : Environment) (m : Meaning) (args : List Value) (ps : List Path) (known : Known) (g : Given) → Appends g (several_run env m args ps b known g)
  block_appends Stop env m args ps known g = appends_none g g refl
  block_appends (Step bs c more) env m args ps known g =
      calls_append (bind_all env m args ps bs known g.calls) g (λ now so. several_run env m args ps more now (several_control env m args ps c now so))
      (λ now so. appends_on so (several_control env m args ps c now so) (several_run env m args ps more now (several_control env m args ps c now so)) (control_appends c env m args ps now so) (block_appends more env m args ps now (several_control env m args ps c now so)))

  pub control_appends : (c : Control) (env : Environment) (m : Meaning) (args : List Value) (ps : List Path) (known : Known) (g : Given) → Appends g (several_control env m args ps c known g)
  control_appends (Match source arms) env m args ps known g = arms_append arms env m args ps (value_at env m args known (at ps source)) known g
  control_appends (Equal a b body) env m args ps known g =
      either (equal_held (value_at env m args known (at ps a)) (value_at env m args known (at ps b))) g (several_run env m args ps body known g) g (block_appends body env m args ps known g) (appends_none g g refl)
  control_appends (Loop result body) env m args ps known g =
      items_append (value_at env m args known (list_of (at ps result))) (list_of (at ps result)) known g (several_run env m args ps body) (λ now so. block_appends body env m args ps now so)
  control_appends (Return pos result) env m args ps known g = held_appends (value_at env m args known (at ps result)) g

  arms_append : (arms : Arms) (env : Environment) (m : Meaning) (args : List Value) (ps : List Path) (h : Held) (known : Known) (g : Given) → Appends g (several_arms env m args ps arms h known g)
  arms_append NoArm env m args ps h known g = appends_none g g refl
  arms_append (Arm c places body arms) env m args ps h known g =
      either (meets env m c h) g (several_run env m args ps body known g) (several_arms env m args ps arms h known g) (block_appends body env m args ps known g) (arms_append arms env m args ps h known g)
