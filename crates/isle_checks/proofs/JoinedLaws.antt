-- Chains of equalities.
use Rattle.std.proofs.Common.{inl, inr, ⊎_elim, List, [], ◌∷◌, ◌++◌, refl, sym, subst}
use Rattle.std.proofs.lemmas.List.Elements.{Contains-append_left}
use Rattle.isle_core.specs.declared.BindingId.{BindingId}
use Rattle.isle_checks.specs.Joined.{Equalities, AreEquated, IsWay, AreJoined}

module _ (es : Equalities) where
  pub no_step : (b : BindingId) → AreJoined es b b
  no_step b = record { between = []; way = refl }

  pub one_step : (b c : BindingId) → AreEquated es b c → AreJoined es b c
  one_step b c h = record { between = c ∷ []; way = (h, refl) }

  pub turned : (b c : BindingId) → AreEquated es b c → AreEquated es c b
  turned b c h = ⊎_elim (λ d. inr d) (λ d. inl d) h

  ways_join : (a : BindingId) (xs : List BindingId) (b : BindingId) (ys : List BindingId) (c : BindingId) → IsWay es a xs b → IsWay es b ys c → IsWay es a (xs ++ ys) c
  ways_join a [] b ys c h k = subst (λ x. IsWay es x ys c) (sym h) k
  ways_join a (x ∷ xs) b ys c h k = (h.0, ways_join x xs b ys c h.1 k)

  pub then_joined : (a b c : BindingId) → AreJoined es a b → AreJoined es b c → AreJoined es a c
  then_joined a b c h k = record { between = h.between ++ k.between; way = ways_join a h.between b k.between c h.way k.way }

  way_back : (a : BindingId) (xs : List BindingId) (b : BindingId) → IsWay es a xs b → AreJoined es b a
  way_back a [] b h = subst (AreJoined es b) (sym h) (no_step b)
  way_back a (x ∷ xs) b h = then_joined b x a (way_back x xs b h.1) (one_step x a (turned a x h.0))

  pub joined_back : (a b : BindingId) → AreJoined es a b → AreJoined es b a
  joined_back a b h = way_back a h.between b h.way

  -- one equality more joins no less
  way_kept : (e : BindingId × BindingId) (a : BindingId) (xs : List BindingId) (b : BindingId) → IsWay es a xs b → IsWay (es ++ e ∷ []) a xs b
  way_kept e a [] b h = h
  way_kept e a (x ∷ xs) b h = (⊎_elim (λ d. inl (Contains-append_left es (e ∷ []) (a, x) d)) (λ d. inr (Contains-append_left es (e ∷ []) (x, a) d)) h.0, way_kept e x xs b h.1)

  pub joined_kept : (e : BindingId × BindingId) (a b : BindingId) → AreJoined es a b → AreJoined (es ++ e ∷ []) a b
  joined_kept e a b h = record { between = h.between; way = way_kept e a h.between b h.way }
