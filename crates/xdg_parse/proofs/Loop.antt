-- What a loop that reads one item after the other knows of the reading of them all.
use Rattle.std.proofs.Common.{◌≡◌, ◌<◌, true, false, List, [], ◌∷◌, ◌++◌, length, Ok, Err, refl, ap, append_assoc}
use Rattle.std.proofs.lemmas.List.{append-nil}
use Rattle.xdg_parse.specs.declared.cursor.Why.{Why}
use Rattle.xdg_parse.specs.declared.cursor.Why.TheVariants as w
use Rattle.xdg_ast.specs.Language.{Language, State, Outcome, Kinds, ◌>>=◌, items, sees}
use Rattle.xdg_parse.specs.Steps.{Reads}
use Rattle.xdg_parse.proofs.Items.{Item, turn, none_at}

-- what was read before, and what is still read
abbrev pub with_front : {A : Type 0} → List A → Outcome (List A) → Outcome (List A)
with_front front read = read >>= λ xs. Ok (front ++ xs.0, xs.1)

module _ {A : Type 0} (l : Language A) (first : Kinds) where
  regroup : (front : List A) (x : A) (r : Outcome (List A)) → with_front front (r >>= λ xs. Ok (x ∷ xs.0, xs.1)) ≡ with_front (front ++ x ∷ []) r
  regroup front x (Ok xs) = ap (λ (all : List A). Ok (all, xs.1)) (simp append_assoc)
  regroup front x (Err e) = refl

  pub loop_shorter : (s : State) (x : A) (s' : State) → Item first l → l.read s ≡ Ok (x, s') → length s'.left < length s.left
  loop_shorter s x s' i r = i.short.shorter s x s' r

  pub loop_goes_on : (front : List A) (s : State) (x : A) (s' : State) → Item first l → sees first s.left ≡ true → l.read s ≡ Ok (x, s')
      → with_front front (items l.first l.read (length s.left) s) ≡ with_front (front ++ x ∷ []) (items l.first l.read (length s'.left) s')
  loop_goes_on front s x s' i h r = rw (turn l.first l.read i.short s (rw i.begins h), r) (regroup front x (items l.first l.read (length s'.left) s'))

  pub loop_is_done : (front : List A) (s : State) → Item first l → sees first s.left ≡ false → with_front front (items l.first l.read (length s.left) s) ≡ Ok (front, s)
  loop_is_done front s i h = rw (none_at l.first l.read i.short s.ended s.left (rw i.begins h)) (ap (λ (xs : List A). Ok (xs, s)) (append-nil front))

  -- a loop that stops at a fault
  pub loop_fails : (front : List A) (s s' : State) (e : Why) → Item first l → sees first s.left ≡ true → Reads (l.read s) (Err e) s'
      → Reads (with_front front (items l.first l.read (length s.left) s)) (Err e) s'
  loop_fails front s s' w.Memory i h r = tt
  loop_fails front s s' w.Unexpected i h r = rw (turn l.first l.read i.short s (rw i.begins h), r) refl
  loop_fails front s s' w.TooDeep i h r = rw (turn l.first l.read i.short s (rw i.begins h), r) refl

pub ruleset reading = (loop_goes_on, loop_is_done, loop_fails, loop_shorter)
