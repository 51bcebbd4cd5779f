-- What remains of a decision, value by value.
use Rattle.std.proofs.Common.{◌≡◌, ℕ, ◌<◌, ◌≤◌, Bool, List, [], length, get_or, map, ap, sym, ◌∙◌, arith, subst}
use Rattle.std.proofs.lemmas.List.{get_or-map}
use Rattle.xdg_problem.specs.declared.parts.Parts.{Parts}
use Rattle.xdg_problem.specs.Boxes.{Has, IsBox, entry_decision}
use Rattle.xdg_problem.specs.Places.{nodes, numbers_from}
use Rattle.xdg_problem.specs.Vectors.{shape}
use Rattle.xdg_problem.proofs.Ordered.{numbers_length}
use Rattle.xdg_rules.proofs.Sizes.{within_sizes}
use Rattle.xdg_store.specs.Layout.{bits_of, entry_row}
use Rattle.xdg_store.specs.States.{State, Known}
use Rattle.xdg_store.proofs.Located.{Located, entry_located}
use Rattle.xdg_store.proofs.Sizes.{bits_sizes}

-- ---- a value that remains is one of the decision's

pub below_size : (parts : Parts) (box : List (List Bool)) (d start size v : ℕ) → IsBox (shape parts) box → Located parts d (numbers_from start size) → Has box d v → v < size
below_size parts box d start size v is at has =
    let within : v < get_or (map length box) d 0 = within_sizes box d v has in
    let count : get_or (map length box) d 0 ≡ size = ap (λ s. get_or s d 0) (is.sizes ∙ sym (bits_sizes parts)) ∙ get_or-map length (bits_of parts) d [] 0 at.within ∙ ap length at.is ∙ numbers_length start size in
    omega (arith, within, count)

pub entry_below : (s : State) (node v : ℕ) → Known s → node < nodes s.parts → Has s.now (entry_decision node) v → v < length (get_or s.parts.candidates node [])
entry_below s node v known l has = below_size s.parts s.now (entry_decision node) (entry_row node) (length (get_or s.parts.candidates node [])) v known.is_box (entry_located s.parts known.problem.candidates_each node l) has

-- the loop over the candidates of a node came to its end
pub entry_end : (s : State) (problem shown : Parts) (node v count place : ℕ) → Known s → node < nodes s.parts → shown ≡ problem → problem ≡ s.parts → count ≡ length (get_or shown.candidates node []) → count ≤ place → Has s.now (entry_decision node) v → v < place
entry_end s problem shown node v count place known l same is counted past has =
    let below = entry_below s node v known l has in
    let e : length (get_or shown.candidates node []) ≡ length (get_or s.parts.candidates node []) = ap (λ (p : Parts). length (get_or p.candidates node [])) (same ∙ is) in
    omega (arith, below, e, counted, past)

-- the same where the box has changed since
pub entry_loop_end : (first s : State) (problem shown : Parts) (node v count place : ℕ) → Known s → s.parts ≡ first.parts → node < nodes first.parts → shown ≡ problem → problem ≡ first.parts → count ≡ length (get_or shown.candidates node []) → count ≤ place → Has s.now (entry_decision node) v → v < place
entry_loop_end first s problem shown node v count place known stays l same is counted past has = entry_end s problem shown node v count place known (subst (λ (parts : Parts). node < nodes parts) (sym stays) l) same (is ∙ sym stays) counted past has
