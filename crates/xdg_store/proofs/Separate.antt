-- Rows of bits, and what a box says of them.
use Rattle.std.proofs.Common.{◌≡◌, ℕ, ◌<◌, List, [], length, get_or}
use Rattle.xdg_store.specs.Layout.{box_in, is_set}
use Rattle.xdg_facts.proofs.Rows.{alike_at}

pub box_alike : (bits : List (List ℕ)) (old new : List ℕ) (e : ℕ)
    → (e < length bits → (j : ℕ) → j < length (get_or bits e []) → is_set new (get_or (get_or bits e []) j 0) ≡ is_set old (get_or (get_or bits e []) j 0)) → get_or (box_in bits new) e [] ≡ get_or (box_in bits old) e []
unfolding box_in
box_alike bits old new e h = alike_at (is_set old) (is_set new) bits e h
