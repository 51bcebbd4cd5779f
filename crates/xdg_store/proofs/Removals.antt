-- What the bits of the words say of a decision, and the room that its removals need.
use Rattle.std.proofs.Common.{◌≡◌, ◌≢◌, ℕ, ◌<◌, ◌≤◌, Bool, true, false, List, [], ◌∷◌, length, get_or, set, map, ap, ap₂, ◌∙◌, arith, refl}
use Rattle.std.specs.Prelude.{sum}
use Rattle.std.proofs.lemmas.List.{length-map, length-set, get_or-map}
use Rattle.xdg_problem.specs.declared.parts.Parts.{Parts}
use Rattle.xdg_problem.specs.Boxes.{Has, without}
use Rattle.xdg_problem.specs.Vectors.{shape}
use Rattle.xdg_trail.specs.Trailed.{Trailed}
use Rattle.xdg_store.specs.Layout.{bits_of, box_in, is_set}
use Rattle.xdg_store.specs.States.{Keeps}
use Rattle.xdg_store.proofs.Boxed.{box_filled, filled_taken, length_box}
use Rattle.xdg_store.proofs.Counting.{enough_left, remaining_taken}
use Rattle.xdg_store.proofs.Deciding.{HasBits}
use Rattle.xdg_store.proofs.Histories.{present}
use Rattle.xdg_store.proofs.Sizes.{bits_sizes}
use Rattle.xdg_facts.proofs.Lists.{true_within}
use Rattle.xdg_facts.proofs.Rows.{value_read}

-- the box of any words has the problem's shape
pub length_box_in : (bits : List (List ℕ)) (words : List ℕ) → length (box_in bits words) ≡ length bits
unfolding box_in
length_box_in bits words = length-map bits (λ row. map (is_set words) row)

pub box_sizes : (parts : Parts) (words : List ℕ) → map length (box_in (bits_of parts) words) ≡ shape parts
unfolding box_in
box_sizes parts words = sizes_of (is_set words) (bits_of parts) ∙ bits_sizes parts
  where
    sizes_of : (f : ℕ → Bool) (rows : List (List ℕ)) → map length (map (λ r. map f r) rows) ≡ map length rows
    sizes_of f [] = refl
    sizes_of f (r ∷ rows) = ap₂ (λ x xs. x ∷ xs) (length-map r f) (sizes_of f rows)

module _ {parts : Parts} {d size : ℕ} {bit : ℕ → ℕ} (at : HasBits parts d size bit) where
  -- the box says of a value what its bit says
  pub has_bit : (words : List ℕ) (v : ℕ) → v < size → get_or (get_or (box_in (bits_of parts) words) d []) v false ≡ is_set words (bit v)
  unfolding box_in
  has_bit words v l = (let c = at.count in value_read (is_set words) (bits_of parts) d v at.within (omega (arith, c, l))) ∙ ap (is_set words) (at.each v l)

  pub row_size : (words : List ℕ) → length (get_or (box_in (bits_of parts) words) d []) ≡ size
  unfolding box_in
  row_size words = ap length (get_or-map (λ r. map (is_set words) r) (bits_of parts) d [] [] at.within) ∙ length-map (get_or (bits_of parts) d []) (is_set words) ∙ at.count

  pub has_size : (words : List ℕ) (v : ℕ) → Has (box_in (bits_of parts) words) d v → v < size
  has_size words v h = (let l = true_within (get_or (box_in (bits_of parts) words) d []) v h in let s = row_size words in omega (arith, l, s))

  -- a removal finds room
  pub has_room : {t : Trailed} (v : ℕ) → Keeps parts t → v < size → is_set t.words (bit v) ≡ true → (x : ℕ) × (x < size) × (x ≢ v) × (is_set t.words (bit x) ≡ true) → 1 ≤ t.spare
  has_room {t} v keeps l e (x, m, n, f) =
      let box : List (List Bool) = box_in (bits_of parts) t.words in
      let now = present (shape parts) (sum (shape parts)) (bits_of parts) t keeps.sound in
      let count = now.0 in
      let left = enough_left (without box d v) (filled_taken box d v x (box_filled (shape parts) box now.1) (has_bit t.words x m ∙ f) n) in
      let one = remaining_taken box d v (has_bit t.words v l ∙ e) in
      let len = length_box (shape parts) box now.1 in
      let same : length (without box d v) ≡ length box = length-set box d (set (get_or box d []) v false) in
      let spare = keeps.spare in
      omega (arith, count, left, one, len, same, spare)
