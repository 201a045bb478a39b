-- How statements of a function with several results go: they go on with the results given so far, or end if no more is kept.
use Rattle.std.proofs.Common.{◌≡◌, ◌⊎◌, inl, inr, ℕ, suc, ◌+◌, ◌≤◌, ◌<◌, List, [], ◌∷◌, ◌++◌, length, map, Bool, true, false, cond, Some, refl, sym, ap, ◌∙◌, subst, arith}
use Rattle.std.specs.Prelude.{nat_le, slice_get}
use Rattle.std.proofs.lemmas.Bool.{leb-true, leb-false}
use Rattle.std.proofs.lemmas.List.{length-append, length-map, map-append}
use Rattle.isle_core.specs.Answered.{Item, item_of}
use Rattle.isle_core.specs.Cut.{cut_after, room_after_one}
use Rattle.isle_core.specs.Nameless.{nameless, nameless_made}
use Rattle.isle_core.specs.Parts.{Given, give}
use Rattle.isle_core.specs.Path.{Path}
use Rattle.isle_core.specs.Rule.{Environment}
use Rattle.isle_core.specs.SeveralRun.{choosing, on_turns}
use Rattle.isle_core.specs.Space.{Space}
use Rattle.isle_simulation.specs.Manner.{Manner, bare_manner}
use Rattle.isle_core.specs.Value.{Value, Made, GivesList}
use Rattle.isle_core.specs.ValueAt.{Known, a_value}
use Rattle.isle_core.specs.declared.types.ReturnKind.{ReturnKind}
use Rattle.isle_core.specs.declared.types.ReturnKind.TheVariants as return_kind
use Rattle.isle_core.specs.Calling.{is_several}
use Rattle.isle_core.specs.Block as block
use Rattle.isle_core.specs.Block.{Control}
use Rattle.isle_tree.specs.declared.tree.Read.{Read}
use Rattle.isle_tree.specs.Program.{Stmt, Overflow, Body, Done, Then}
use Rattle.isle_tree.specs.Run.{Around, State, Env, Flow, Goes, Ends, Leaves, Stuck, read_value, then_run, after_scope, run_items, is_full, run_stmt, run_body}
use Rattle.isle_simulation.specs.TermFunction.{is_return}
use Rattle.isle_simulation.proofs.CutLaws.{values_in, cut_more, cut_last, Appends, turns_append}
use Rattle.isle_simulation.proofs.NamelessLaws.{AreSameCalls}
use Rattle.isle_simulation.proofs.OneBind.{done}
use Rattle.isle_simulation.proofs.Written.{result_stmt, stop_before}

-- the results given and the calls made so far, but for names and calls of pure terms
pub record IsSoFar (env : Environment) (g : Given) (given : List Value) (those : List Made) : Type 0 where
  pub given' : map nameless given ≡ map nameless (values_in g.results)
  pub made : AreSameCalls env those g.calls

-- statements go on, all results being kept so far, with locals that are so
pub record GoesWith (env : Environment) (k : ℕ) (L : Env → Type 0) (f : Flow) (h : Given) : Type 0 where
  pub within : length h.results ≤ k
  pub after : Env
  pub here : L after
  pub given : List Value
  pub those : List Made
  pub is : f ≡ Goes after (done given those)
  pub so : IsSoFar env h given those

-- the function ends with the results that are kept, and the calls up to the last of them
pub record EndsWith (env : Environment) (k : ℕ) (f : Flow) (h : Given) : Type 0 where
  pub past : k < length h.results
  pub given : List Value
  pub those : List Made
  pub is : f ≡ Ends (GivesList given) (done given those)
  pub given' : map nameless given ≡ map nameless (cut_after k h.results h.calls).0
  pub made : AreSameCalls env those (cut_after k h.results h.calls).1

abbrev pub GivesSo : Environment → ℕ → (Env → Type 0) → Flow → Given → Type 0
GivesSo env k L f h = GoesWith env k L f h ⊎ EndsWith env k f h

-- any locals
abbrev pub AnyLocals : Env → Type 0
AnyLocals e = Unit {0}

-- ---- one after the other

-- what follows goes on from there; after an end nothing more is kept
pub gives_then : (env : Environment) (k : ℕ) (L M : Env → Type 0) (f : Flow) (go : Env → State → Flow) (h l : Given) → GivesSo env k L f h
    → ((after : Env) (given : List Value) (those : List Made) → L after → length h.results ≤ k → IsSoFar env h given those → GivesSo env k M (go after (done given those)) l) → Appends h l → GivesSo env k M (then_run f go) l
gives_then env k L M f go h l (inl x) next a = subst (λ y. GivesSo env k M (then_run y go) l) (sym x.is) (next x.after x.given x.those x.here x.within x.so)
gives_then env k L M f go h l (inr x) next a =
    let cut : cut_after k l.results l.calls ≡ cut_after k h.results h.calls = ap (λ rs. cut_after k rs l.calls) a.is ∙ cut_more k h.results a.rest l.calls h.calls x.past in
    let long : length l.results ≡ length h.results + length a.rest = ap length a.is ∙ length-append h.results a.rest in
    let past = x.past in
    inr (record {
      past = omega (arith, past, long);
      given = x.given;
      those = x.those;
      is = ap (λ y. then_run y go) x.is;
      given' = x.given' ∙ ap (λ (c : List Value × List Made). map nameless c.0) (sym cut);
      made = x.made ∙ ap (λ (c : List Value × List Made). map nameless_made c.1) (sym cut);
    })

-- after a body stand the outer locals
pub gives_scope : (env : Environment) (k : ℕ) (L : Env → Type 0) (locals : Env) (f : Flow) (h : Given) → GivesSo env k L f h → GivesSo env k (λ e. e ≡ locals) (after_scope locals f) h
gives_scope env k L locals f h (inl x) = inl (record { within = x.within; after = locals; here = refl; given = x.given; those = x.those; is = ap (after_scope locals) x.is; so = x.so })
gives_scope env k L locals f h (inr x) = inr (record { past = x.past; given = x.given; those = x.those; is = ap (after_scope locals) x.is; given' = x.given'; made = x.made })

pub gives_by : (env : Environment) (k : ℕ) (L : Env → Type 0) (f g : Flow) (h : Given) → f ≡ g → GivesSo env k L g h → GivesSo env k L f h
gives_by env k L f g h e x = subst (λ y. GivesSo env k L y h) (sym e) x

-- what follows hangs on no locals but those that are there
pub gives_any : (env : Environment) (k : ℕ) (L : Env → Type 0) (f : Flow) (h : Given) → GivesSo env k L f h → GivesSo env k AnyLocals f h
gives_any env k L f h (inl x) = inl (record { within = x.within; after = x.after; here = tt; given = x.given; those = x.those; is = x.is; so = x.so })
gives_any env k L f h (inr x) = inr x

-- nothing is done
pub gives_same : (env : Environment) (k : ℕ) (locals : Env) (g : Given) (given : List Value) (those : List Made) → length g.results ≤ k → IsSoFar env g given those → GivesSo env k (λ e. e ≡ locals) (Goes locals (done given those)) g
gives_same env k locals g given those le so = inl (record { within = le; after = locals; here = refl; given = given; those = those; is = refl; so = so })

-- ---- statements in order

run_assoc : (f : Flow) (a b : Env → State → Flow) → then_run f (λ e t. then_run (a e t) b) ≡ then_run (then_run f a) b
run_assoc (Goes e t) a b = refl
run_assoc (Ends end t) a b = refl
run_assoc (Leaves t) a b = refl
run_assoc Stuck a b = refl

run_same : (f : Flow) (a b : Env → State → Flow) → ((e : Env) (t : State) → a e t ≡ b e t) → then_run f a ≡ then_run f b
run_same (Goes e t) a b h = h e t
run_same (Ends end t) a b h = refl
run_same (Leaves t) a b h = refl
run_same Stuck a b h = refl

-- a step's statements, and then the others
pub step_then : (u : Around) (manner : Manner) (several : Bool) (c : Control) (st : Stmt) (rest : Body) (env : Env) (s : State) → run_body u (Then st (stop_before manner several c rest)) env s ≡ then_run (run_body u (Then st (stop_before manner several c Done)) env s) (run_body u rest)
step_then u manner true (block.Return pos result) st rest env s =
    run_same (run_stmt u st env s) _ _ (λ e t. run_assoc (run_stmt u (Overflow manner.inside manner.limit) e t) (run_body u Done) (run_body u rest))
    ∙ run_assoc (run_stmt u st env s) (run_body u (Then (Overflow manner.inside manner.limit) Done)) (run_body u rest)
step_then u manner true (block.Match source arms) st rest env s = run_assoc (run_stmt u st env s) (run_body u Done) (run_body u rest)
step_then u manner true (block.Equal a b body) st rest env s = run_assoc (run_stmt u st env s) (run_body u Done) (run_body u rest)
step_then u manner true (block.Loop result body) st rest env s = run_assoc (run_stmt u st env s) (run_body u Done) (run_body u rest)
step_then u manner false c st rest env s = run_assoc (run_stmt u st env s) (run_body u Done) (run_body u rest)

-- a single statement
alone : (f : Flow) → then_run f Goes ≡ f
alone (Goes e t) = refl
alone (Ends end t) = refl
alone (Leaves t) = refl
alone Stuck = refl

-- a step that gives no result has no stop
pub step_alone : (u : Around) (manner : Manner) (several : Bool) (c : Control) (st : Stmt) (env : Env) (s : State) → is_return c ≡ false → run_body u (Then st (stop_before manner several c Done)) env s ≡ run_stmt u st env s
step_alone u manner true (block.Return pos result) st env s e = cc
step_alone u manner true (block.Match source arms) st env s e = alone (run_stmt u st env s)
step_alone u manner true (block.Equal a b body) st env s e = alone (run_stmt u st env s)
step_alone u manner true (block.Loop result body) st env s e = alone (run_stmt u st env s)
step_alone u manner false c st env s e = alone (run_stmt u st env s)

-- ---- a result

as_many : (env : Environment) (g : Given) (given : List Value) (those : List Made) → IsSoFar env g given those → length given ≡ length g.results
as_many env g given those so = sym (length-map given nameless) ∙ ap length so.given' ∙ length-map (values_in g.results) nameless ∙ length-map g.results (λ (r : Value × List Made). r.0)

one_more : (rs : List (Value × List Made)) (given : List Value) (r v : Value) (calls : List Made) → map nameless given ≡ map nameless (values_in rs) → nameless r ≡ nameless v → map nameless (given ++ r ∷ []) ≡ map nameless (values_in (rs ++ (v, calls) ∷ []))
one_more rs given r v calls e f =
    map-append nameless given (r ∷ []) ∙ ap (λ xs. xs ++ nameless r ∷ []) e ∙ ap (λ x. map nameless (values_in rs) ++ x ∷ []) f
    ∙ sym (map-append nameless (values_in rs) (v ∷ [])) ∙ ap (map nameless) (sym (map-append (λ (r : Value × List Made). r.0) rs ((v, calls) ∷ [])))

-- a result is appended, and the function ends if no more fits
pub result_gives : (env : Environment) (u : Around) (space : Space) (kind : ReturnKind) (several : Bool) (pos : _) (result : _) (q : Read) (r v : Value) (locals : Env) (g : Given) (given : List Value) (those : List Made) → is_several kind ≡ true → several ≡ true → u.held ≡ Some space.held
    → length g.results ≤ room_after_one space → IsSoFar env g given those → read_value u locals q ≡ a_value r → nameless r ≡ nameless v
    → GivesSo env (room_after_one space) (λ e. e ≡ locals) (run_body u (Then (result_stmt kind q) (stop_before (bare_manner space.limit) several (block.Return pos result) Done)) locals (done given those)) (give v g)
result_gives env u space return_kind.Plain several pos result q r v locals g given those k e entered le so read same = cc
result_gives env u space return_kind.Option several pos result q r v locals g given those k e entered le so read same = cc
result_gives env u space return_kind.Iterator false pos result q r v locals g given those k e entered le so read same = cc
result_gives env u space return_kind.Iterator true pos result q r v locals g given those k e entered le so read same =
    gives_by env (room_after_one space) (λ x. x ≡ locals) _ (stopped (is_full u.held space.limit more)) (give v g) (rw read refl) (one (nat_le space.limit (space.held + length more)) refl)
  where
    more : List Value
    more = given ++ r ∷ []

    stopped : Bool → Flow
    stopped full = then_run (cond full (Ends (GivesList more) (done more those)) (Goes locals (done more those))) (run_body u Done)

    full : is_full u.held space.limit more ≡ nat_le space.limit (space.held + length more)
    full = ap (λ o. is_full o space.limit more) entered

    count : length more ≡ length g.results + 1
    count = length-append given (r ∷ []) ∙ ap (λ n. n + 1) (as_many env g given those so)

    results : length (give v g).results ≡ length g.results + 1
    results = length-append g.results ((v, g.calls) ∷ [])

    like : map nameless more ≡ map nameless (values_in (give v g).results)
    like = one_more g.results given r v g.calls so.given' same

    one : (x : Bool) → nat_le space.limit (space.held + length more) ≡ x → GivesSo env (room_after_one space) (λ y. y ≡ locals) (stopped (is_full u.held space.limit more)) (give v g)
    one true is =
        let fits : space.limit ≤ space.held + length more = leb-true space.limit (space.held + length more) is in
        let last : room_after_one space ≡ length g.results = omega (arith, fits, count, le) in
        let cut : cut_after (room_after_one space) (give v g).results g.calls ≡ (values_in g.results ++ v ∷ [], g.calls) = ap (λ n. cut_after n (give v g).results g.calls) last ∙ cut_last g.results (v, g.calls) g.calls in
        inr (record {
          past = omega (arith, last, results);
          given = more;
          those = those;
          is = ap stopped (full ∙ is);
          given' = like ∙ ap (map nameless) (map-append (λ (x : Value × List Made). x.0) g.results ((v, g.calls) ∷ [])) ∙ ap (λ (c : List Value × List Made). map nameless c.0) (sym cut);
          made = so.made ∙ ap (λ (c : List Value × List Made). map nameless_made c.1) (sym cut);
        })
    one false is =
        let fits : space.held + length more < space.limit = leb-false space.limit (space.held + length more) is in
        inl (record { within = omega (arith, fits, count, results); after = locals; here = refl; given = more; those = those; is = ap stopped (full ∙ is); so = record { given' = like; made = so.made } })

-- ---- items

-- what is done with each item of a list
module _ (env : Environment) (k : ℕ) (p : Path) (known : Known) (locals : Env) (go : Item → State → Flow) (turn : Known → Given → Given) (adds : (now : Known) (g : Given) → Appends g (turn now g)) where
  -- at the items of these lists from a place on
  record TurnsGive (place : ℕ) (rss vss : List (List Value)) : Type 0 where
    by : (j : ℕ) (rs vs : List Value) (g : Given) (given : List Value) (those : List Made) → slice_get rss j ≡ Some rs → slice_get vss j ≡ Some vs → length g.results ≤ k → IsSoFar env g given those
        → GivesSo env k AnyLocals (go (item_of rs) (done given those)) (turn (choosing known p (place + j)) g)

  later : (place : ℕ) (rs vs : List Value) (rss vss : List (List Value)) → TurnsGive place (rs ∷ rss) (vs ∷ vss) → TurnsGive (place + 1) rss vss
  later place rs vs rss vss h = record {
    by = λ j qs ws g given those e f le so.
        let same : place + suc j ≡ (place + 1) + j = omega arith in
        subst (λ n. GivesSo env k AnyLocals (go (item_of qs) (done given those)) (turn (choosing known p n) g)) same (h.by (suc j) qs ws g given those e f le so);
  }

  items_give : (rss vss : List (List Value)) (place : ℕ) (g : Given) (given : List Value) (those : List Made) → length rss ≡ length vss → TurnsGive place rss vss → length g.results ≤ k → IsSoFar env g given those
      → GivesSo env k (λ e. e ≡ locals) (run_items go locals (map item_of rss) (done given those)) (on_turns p (map item_of vss) place known g turn)
  items_give [] [] place g given those e h le so = gives_same env k locals g given those le so
  items_give (rs ∷ rss) (vs ∷ vss) place g given those e h le so =
      let here : place + 0 ≡ place = omega arith in
      let so' = turn (choosing known p place) g in
      let first : GivesSo env k AnyLocals (go (item_of rs) (done given those)) so' = subst (λ n. GivesSo env k AnyLocals (go (item_of rs) (done given those)) (turn (choosing known p n) g)) here (h.by 0 rs vs g given those refl refl le so) in
      gives_then env k AnyLocals (λ x. x ≡ locals) (go (item_of rs) (done given those)) (λ inner t. run_items go locals (map item_of rss) t) so' (on_turns p (map item_of vss) (place + 1) known so' turn) first
      (λ after given' those' l le' s. items_give rss vss (place + 1) so' given' those' (omega (arith, e)) (later place rs vs rss vss h) le' s)
      (turns_append (map item_of vss) p (place + 1) known so' turn adds)
  items_give [] (vs ∷ vss) place g given those e h le so = cc
  items_give (rs ∷ rss) [] place g given those e h le so = cc

  -- of the whole lists
  pub list_gives : (rss vss : List (List Value)) (g : Given) (given : List Value) (those : List Made) → length rss ≡ length vss
      → ((j : ℕ) (rs vs : List Value) (g' : Given) (given' : List Value) (those' : List Made) → slice_get rss j ≡ Some rs → slice_get vss j ≡ Some vs → length g'.results ≤ k → IsSoFar env g' given' those'
      → GivesSo env k AnyLocals (go (item_of rs) (done given' those')) (turn (choosing known p j) g'))
      → length g.results ≤ k → IsSoFar env g given those
      → GivesSo env k (λ e. e ≡ locals) (run_items go locals (map item_of rss) (done given those)) (on_turns p (map item_of vss) 0 known g turn)
  list_gives rss vss g given those e h le so = items_give rss vss 0 g given those e (record {
    by = λ j rs vs g' given' those' a b l o.
        let same : j ≡ 0 + j = omega arith in
        subst (λ n. GivesSo env k AnyLocals (go (item_of rs) (done given' those')) (turn (choosing known p n) g')) same (h j rs vs g' given' those' a b l o);
  }) le so
