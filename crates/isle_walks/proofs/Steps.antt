-- One step of a search in depth along its path.
use Rattle.std.proofs.Common.{◌≡◌, ◌≢◌, ℕ, ◌+◌, ◌-◌, ◌*◌, ◌<◌, List, [], ◌∷◌, ◌++◌, length, Bool, true, false, sym, ap, ◌∙◌, subst, arith, Contains, slice_set}
use Rattle.std.proofs.lemmas.List.{length_push}
use Rattle.isle_walks.specs.Walks.{next_of, on_closed_walk, AreNodes}
use Rattle.isle_walks.specs.Sound.{has, LeadsInto, IsSoundAt, Grows, IsOpen}
use Rattle.isle_walks.proofs.Orders.{sound_closed, done_few, grows_by}
use Rattle.isle_walks.proofs.Paths.{last_there, last_left, open_more, open_less, too_long}

-- the last node is taken off a path, and the search has looked at its next ones: the order is as before
module _ {graph : List (List ℕ)} {looked : List ℕ} {done : List Bool} {order before path : List ℕ} {start : ℕ} (rest : List ℕ) (node : ℕ)
    (sound : IsSoundAt graph looked done order) (same : order ≡ before) (opened : IsOpen graph before path start) (is : path ≡ rest ++ node ∷ [])
  where
    here : IsOpen graph order (rest ++ node ∷ []) start
    here = subst (λ xs. IsOpen graph order xs start) is (subst (λ xs. IsOpen graph xs path start) (sym same) opened)

    pub node_there : node < length graph
    node_there = last_there graph order rest start node here

    -- what was done at the beginning is done
    pub kept : (began : List ℕ) → Grows began before → Grows began order
    kept began grows other e = ap (λ xs. has xs other) same ∙ grows other e

    -- the node leads only to nodes that are done, and is put after the order
    module _ (leads : LeadsInto graph order node) {order' : List ℕ} (order_is : order' ≡ order ++ node ∷ []) where
      pub closed_sound : {looked' : List ℕ} {done' : List Bool} → looked' ≡ looked → done' ≡ slice_set done node true → IsSoundAt graph looked' done' order'
      closed_sound {looked'} {done'} looked_is done_is =
          subst (λ xs. IsSoundAt graph xs done' order') (sym looked_is)
          (subst (λ xs. IsSoundAt graph looked xs order') (sym done_is)
          (subst (λ xs. IsSoundAt graph looked (slice_set done node true) xs) (sym order_is)
          (sound_closed graph looked done order sound node node_there (last_left graph order rest start node here) leads)))

      pub closed_open : IsOpen graph order' rest start
      closed_open = subst (λ xs. IsOpen graph xs rest start) (sym order_is) (open_less graph order rest start node here leads)

      pub closed_grows : (began : List ℕ) → Grows began before → Grows began order'
      closed_grows began grows other e = ap (λ xs. has xs other) order_is ∙ grows_by order node other (kept began grows other e)

      pub closed_smaller : {looked' : List ℕ} {done' : List Bool} → looked' ≡ looked → done' ≡ slice_set done node true → 2 * (length graph - length order') + (length graph - length rest) < 2 * (length graph - length before) + (length graph - length path)
      closed_smaller {looked'} {done'} looked_is done_is =
          let few = done_few graph looked' done' order' (closed_sound looked_is done_is) in
          let longer : length order' ≡ length order + 1 = ap length order_is ∙ length_push order node in
          let long : length path ≡ length rest + 1 = ap length is ∙ length_push rest node in
          let as_before = ap length same in
          let room = opened.few in
          omega arith

    -- the node leads to one that isn't done
    module _ (nodes : AreNodes graph) {next : ℕ} (leads : Contains (next_of graph node) next × (has order next ≡ false)) where
      -- a path of all nodes shows a closed walk
      pub shows_closed : length rest + 1 ≡ length graph → (on : ℕ) × (on_closed_walk graph on ≡ true)
      shows_closed = too_long graph order rest start node here next nodes leads.0

      -- any other grows
      module _ (short : length rest + 1 ≢ length graph) {back path' : List ℕ} (back_is : back ≡ rest ++ node ∷ []) (path_is : path' ≡ back ++ next ∷ []) where
        pub more_open : IsOpen graph order path' start
        more_open = subst (λ xs. IsOpen graph order xs start) (sym (path_is ∙ ap (λ xs. xs ++ next ∷ []) back_is)) (open_more graph order rest start node here next nodes leads.0 leads.1 short)
