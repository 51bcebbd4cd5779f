-- What a step of a propagator has done so far.
use Rattle.std.specs.Prelude.{◌≡◌, ◌≢◌, ◌⊎◌, ◌<◌, ◌^◌, ℕ, Bool, true, false, List}
use Rattle.std.specs.Int.{bit_at}
use lib.Bits.{bit_or}
use Rattle.xdg_problem.specs.declared.parts.Group.{Group}
use Rattle.xdg_problem.specs.declared.parts.Parts.{Parts}
use Rattle.xdg_problem.specs.Boxes.{Has, IsBox, LiesIn}
use Rattle.xdg_problem.specs.Problems.{IsGroup}
use Rattle.xdg_problem.specs.Vectors.{shape}
use Rattle.xdg_rules.specs.Rules.{IsClosedFor, Takes}
use Rattle.xdg_store.specs.States.{State}
use Rattle.xdg_store.specs.declared.change.Change.{Change}
use Rattle.xdg_store.specs.declared.change.Change.TheVariants as changes
use Rattle.xdg_propcore.specs.Kinds.{kind_of}
use Rattle.xdg_propcore.specs.Losses.{IsLost, LosesKind}
use Rattle.xdg_propcore.specs.Steps.{Extends}
use Rattle.xdg_propcore.specs.declared.moved.Moved.{Moved}
use Rattle.xdg_propcore.specs.declared.moved.Moved.TheVariants as moves

-- the kinds of the values that were taken, as a wake set, and whether no closed box is left
pub record Progress : Type 0 where
  pub lost : ℕ
  pub dead : Bool

-- before anything was taken
abbrev pub untouched : Progress
untouched = record { lost = 0; dead = false }

-- nothing was taken
abbrev pub IsQuiet : Progress → Type 0
IsQuiet p = (p.lost ≡ 0) × (p.dead ≡ false)

-- after a change to a value of these kinds
abbrev pub noted : Change → Progress → ℕ → Progress
noted changes.Same p kinds = p
noted changes.Changed p kinds = record { lost = bit_or p.lost kinds; dead = p.dead }
noted changes.Emptied p kinds = record { lost = p.lost; dead = true }

-- no box inside is closed for the principle use
abbrev pub HasNoneClosed : Parts → Group → List (List Bool) → Type 0
HasNoneClosed parts group box = (small : List (List Bool)) → IsBox (shape parts) small → IsClosedFor parts group small → LiesIn small box → ⊥

-- From the first store to the second, and from the first progress to the second, a step for the principle use took values that
-- remain in no closed box inside, and the progress says of which kinds.
pub record Goes (group : Group) (p : Progress) (old : State) (q : Progress) (new : State) : Type 0 where
  pub extends : Extends old new
  pub turns : new.turns ≡ old.turns
  -- each closed box inside stays inside
  pub keeps : (box : List (List Bool)) → IsBox (shape old.parts) box → IsClosedFor old.parts group box → LiesIn box old.now → LiesIn box new.now
  -- kinds only come
  pub before : (kind : ℕ) → bit_at p.lost kind ≡ 1 → bit_at q.lost kind ≡ 1
  -- the kind of each value that is lost is among them
  pub each : (d v : ℕ) → IsLost old.now new.now d v → bit_at q.lost (kind_of old.parts d) ≡ 1
  -- and they are no others
  pub only : (kind : ℕ) → bit_at q.lost kind ≡ 1 → (bit_at p.lost kind ≡ 1) ⊎ LosesKind old.parts old.now new.now kind
  -- it says that it is dead only where no closed box is left
  pub dead : q.dead ≡ true → (p.dead ≡ true) ⊎ HasNoneClosed old.parts group old.now
  -- where it says that nothing was taken, nothing was
  pub quiet : IsQuiet q → IsQuiet p × (new.now ≡ old.now)

-- Each value of some kind that is aimed at was taken, as far as it remained: where nothing was taken, none of them remains. It is
-- a step for each principle use that takes these values from the box, or from one around it.
pub record Clears (Aim : ℕ → ℕ → Type 0) (p : Progress) (old : State) (q : Progress) (new : State) : Type 0 where
  pub same : new.parts ≡ old.parts
  pub inside : LiesIn new.now old.now
  pub quiet : IsQuiet q → IsQuiet p × (new.now ≡ old.now)
  pub gone : IsQuiet q → (d v : ℕ) → Aim d v → Has new.now d v → ⊥
  pub goes : (group : Group) (around : List (List Bool)) → IsGroup old.parts group → LiesIn old.now around
      → ((d v : ℕ) → Aim d v → Takes old.parts group around d v) → Goes group p old q new

-- each value of each decision
abbrev pub EachValue : ℕ → ℕ → Type 0
EachValue d v = Unit {0}

-- what the answer says of the progress
abbrev pub Answers : Moved → Progress → Type 0
Answers moves.Same p = IsQuiet p
Answers (moves.Changed wakes) p = (wakes.0 ≡ p.lost) × (p.lost ≢ 0) × (p.lost < 2 ^ 64) × (p.dead ≡ false)
Answers moves.Dead p = p.dead ≡ true
