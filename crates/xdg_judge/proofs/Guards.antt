-- What a node that is neither u nor below it rules out at once.
use Rattle.std.proofs.Common.{◌≡◌, ℕ, ◌<◌, ◌↔◌, true, false, List, get_or, inl, inr, ◌⊎◌, refl}
use Rattle.std.proofs.lemmas.Bool.{false≢true}
use Rattle.std.specs.Prelude.{IsTrue, AllPairs}
use Rattle.xdg_problem.specs.declared.analysis.Edge.{Edge}
use Rattle.xdg_problem.specs.Asking.{IsInItem}
use Rattle.xdg_problem.specs.Paths.{Above, IsDaughterBy}
use Rattle.xdg_problem.proofs.Walks.{above_trans, daughter_above}

daughter_by_above : (edges : List Edge) (u l v : ℕ) → IsDaughterBy edges u l v → Above edges u v
daughter_by_above edges u l v (k, e, n, at, (m, label, d)) = daughter_above edges u v (k, e, n, at, (m, d))

-- what stands in an item of u is u or below it
item_near : (edges : List Edge) (yields : Type 0) (own u label x : ℕ) → IsInItem edges yields own u label x → (x ≡ u) ⊎ Above edges u x
item_near edges yields own u label x (inl s) = inl s.1
item_near edges yields own u label x (inr (inl d)) = inr (daughter_by_above edges u label x d)
item_near edges yields own u label x (inr (inr (y, (v, d, a)))) = inr (above_trans edges u v x (daughter_by_above edges u label v d) a)

pub far_first : (edges : List Edge) (yields : Type 0) (own u x y : ℕ) (order : List ℕ) → IsTrue false ↔ ((x ≡ u) ⊎ Above edges u x) → IsTrue true ↔ AllPairs (λ e l. IsInItem edges yields own u e x → IsInItem edges yields own u l y → x < y) order
far_first edges yields own u x y order far = (λ t i j d l m xs ys. absurd (false≢true (far.1 (item_near edges yields own u (get_or order i d) x xs))), λ a. refl)

pub far_second : (edges : List Edge) (yields : Type 0) (own u x y : ℕ) (order : List ℕ) → IsTrue false ↔ ((y ≡ u) ⊎ Above edges u y) → IsTrue true ↔ AllPairs (λ e l. IsInItem edges yields own u e x → IsInItem edges yields own u l y → x < y) order
far_second edges yields own u x y order far = (λ t i j d l m xs ys. absurd (false≢true (far.1 (item_near edges yields own u (get_or order j d) y ys))), λ a. refl)
