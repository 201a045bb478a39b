-- The statements of a function that ends with one that is its last: those before it, and it.
use Rattle.std.proofs.Common.{ap, ◌∙◌, refl, List, [], ◌∷◌, ◌++◌, map, subst, sym, ◌≡◌, Bool, true, false}
use Rattle.std.specs.Prelude.{◌↔◌, IsTrue}
use Rattle.std.proofs.lemmas.List.{map-append}
use Rattle.isle_core.specs.declared.types.ReturnKind.{ReturnKind}
use Rattle.isle_tree.specs.declared.tree.Stmt.{Stmt as CodeStmt}
use Rattle.isle_tree.specs.Program.{Stmt}
use Rattle.isle_tree.specs.Views.{stmt, body, body_of}
use Rattle.isle_tree.specs.WellFormed.{FitsBody, FitsLast, FitsEnding}

split : (kind : ReturnKind) (front : List Stmt) (last : Stmt) → FitsEnding kind (body_of (front ++ last ∷ [])) ↔ (FitsBody kind false (body_of front) × FitsLast kind last)
split kind [] last = (λ h. (tt, h), λ h. h.1)
split kind (s ∷ []) last = (λ h. ((h.0, tt), h.1), λ h. (h.0.0, h.1))
split kind (s ∷ t ∷ more) last =
    let inner = split kind (t ∷ more) last in
    (λ h. let k = inner.0 h.1 in ((h.0, k.0), k.1), λ h. (h.0.0, inner.1 (h.0.1, h.1)))

-- what the code's statements are
pub parted : (kind : ReturnKind) (all front : List CodeStmt) (last : CodeStmt) → all ≡ front ++ last ∷ [] → FitsEnding kind (body all) ↔ (FitsBody kind false (body front) × FitsLast kind (stmt last))
parted kind all front last e =
    subst (λ ss. FitsEnding kind (body_of ss) ↔ (FitsBody kind false (body front) × FitsLast kind (stmt last))) (sym (ap (map stmt) e ∙ map-append stmt front (last ∷ []))) (split kind (map stmt front) (stmt last))

-- both parts decide the whole
pub by_last : {A B P : Type 0} → P ↔ (A × B) → (IsTrue true ↔ A) → (b : Bool) → (IsTrue b ↔ B) → IsTrue b ↔ P
by_last h a b k = (λ t. h.1 (a.0 refl, k.0 t), λ p. k.1 (h.0 p).1)

pub not_front : {A B P : Type 0} → P ↔ (A × B) → (IsTrue false ↔ A) → IsTrue false ↔ P
not_front h a = (λ t. absurd cc, λ p. a.1 (h.0 p).0)
