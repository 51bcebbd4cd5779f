-- What is open while a body is denoted: disjunctions, conjunctions and uses of classes inside one another.
use Rattle.std.specs.Prelude.{◌≡◌, ℕ, ◌+◌, ◌<◌, ◌≤◌, List, [], ◌∷◌, ◌++◌, length, drop, get_or, reverse}
use Rattle.xdg_classes.specs.Bodies.{Expr, Body, either, both, body}
use Rattle.xdg_classes.proofs.Bodied.{trees}
use Rattle.xdg_check.specs.Checked.{Parts, named_bodies}
use Rattle.xdg_terms.specs.Forms.{Bindings}
use Rattle.xdg_lexicon.specs.declared.frames.Scope.{Scope}
use Rattle.xdg_lexicon.specs.declared.frames.Frame.{Frame}
use Rattle.xdg_lexicon.specs.declared.frames.Frame.TheVariants as frame
use Rattle.xdg_lexicon.specs.declared.frames.Walk.{Walk}
use Rattle.xdg_lexicon.specs.Denotes.{Denotes, DenotesBoth, DenotesEither, IsRanked}
use Rattle.xdg_lexicon.specs.Partial.{Partial, ArePartial}
use Rattle.xdg_lexicon.specs.Right.{IsRightUnder}

-- what a body of the grammar denotes
abbrev pub Given : Parts → Bindings → Body → List Partial → Type 0
Given checked bs b ms = Denotes checked.types.dims (named_bodies checked.classes) bs b ms

-- nothing is wrong in the body, and the classes that it uses are among the first ones in the order of the classes
pub record Stands (checked : Parts) (scope : Scope) (b : Body) : Type 0 where
  pub within : scope.depth ≤ length checked.order
  pub ranked : IsRanked checked scope.depth b
  pub right : IsRightUnder checked.types checked.classes scope.bindings b

-- the body is that of the member with this place
pub record IsMember (members : List Expr) (place : ℕ) (b : Body) : Type 0 where
  pub member : Expr
  pub within : place < length members
  pub stands : member ≡ get_or members place member
  pub is : b ≡ body member.kind

-- ---- disjunctions, from the first to the last

-- these and what the members from that place on denote are what all of them denote
abbrev pub EitherSoFar : Parts → Bindings → List Expr → ℕ → List Partial → Type 0
EitherSoFar checked bs items i made =
    (ns : List Partial) → DenotesEither checked.types.dims (named_bodies checked.classes) bs (trees (drop i items)) ns
    → DenotesEither checked.types.dims (named_bodies checked.classes) bs (trees items) (made ++ ns)

pub record IsListing (checked : Parts) (scope : Scope) (members : List Expr) (place : ℕ) (listed : List Partial) (b : Body) : Type 0 where
  pub open_at : IsMember members place b
  pub so_far : EitherSoFar checked scope.bindings members place listed
  pub partial : ArePartial checked.types.dims listed
  pub parts : Stands checked scope (either (trees members))

-- ---- conjunctions, from the last to the first

-- these are the joins of what the members from that place on denote
abbrev pub BothSoFar : Parts → Bindings → List Expr → ℕ → List Partial → Type 0
BothSoFar checked bs items left made =
    (left ≤ length items)
    × (DenotesBoth checked.types.dims (named_bodies checked.classes) bs (trees (drop left items)) made × ArePartial checked.types.dims made)

pub record IsJoining (checked : Parts) (scope : Scope) (members : List Expr) (place : ℕ) (joined : List Partial) (b : Body) : Type 0 where
  pub open_at : IsMember members place b
  pub so_far : BothSoFar checked scope.bindings members (place + 1) joined
  pub parts : Stands checked scope (either (trees members))

-- ---- what is open

-- From the inmost, these are open in the whole, in which no parameter stands, around the body in its scope: what the body
-- denotes, makes a part of what the first denotes, and so on to the whole.
abbrev pub IsOpen : Parts → Body → List Frame → Scope → Body → Type 0
IsOpen checked whole [] scope b = (ms : List Partial) → Given checked scope.bindings b ms → Given checked [] whole ms
IsOpen checked whole (frame.Listing members place listed ∷ fs) scope b =
    IsListing checked scope members.now place listed.items b × IsOpen checked whole fs scope (either (trees members.now))
IsOpen checked whole (frame.Joining members place joined ∷ fs) scope b =
    IsJoining checked scope members.now place joined.items b × IsOpen checked whole fs scope (both (trees members.now))
IsOpen checked whole (frame.Using outside ∷ fs) scope b =
    (used : Body) × (((ms : List Partial) → Given checked scope.bindings b ms → Given checked outside.bindings used ms) × IsOpen checked whole fs outside used)

-- what is open in a walk, from the inmost
abbrev pub open_in : Walk → List Frame
open_in walk = reverse walk.frames.items

-- the body is still to be denoted, in its scope and with these open around it
pub record Enters (checked : Parts) (whole : Body) (frames : List Frame) (scope : Scope) (b : Body) : Type 0 where
  pub stands : Stands checked scope b
  pub around : IsOpen checked whole frames scope b

-- these partial entries are what some body denotes, in its scope and with these open around it
pub record Leaves (checked : Parts) (whole : Body) (frames : List Frame) (scope : Scope) (ms : List Partial) : Type 0 where
  pub part : Body
  pub denotes : Given checked scope.bindings part ms
  pub partial : ArePartial checked.types.dims ms
  pub around : IsOpen checked whole frames scope part
