-- What streams gain.
use Rattle.std.proofs.Common.{◌≡◌, ℕ, List, Option, None, Some, [], take, subst, ◌∙◌}
use Rattle.std.proofs.lemmas.List.{append-nil}
use Rattle.std.specs.Io.KnownBytes.{Appends, Keeps}

nothing : (old new : Option (List ℕ)) → Appends old new [] → Keeps old new
nothing None new gained = tt
nothing (Some xs) None gained = absurd gained
nothing (Some xs) (Some ys) gained = gained ∙ append-nil xs

-- a writer that took no byte gained nothing
pub gained_nothing : (old new : Option (List ℕ)) (count : ℕ) (piece : List ℕ) → Appends old new (take count piece) → count ≡ 0 → Keeps old new
gained_nothing old new count piece gained none = nothing old new (subst (λ n. Appends old new (take n piece)) none gained)
