-- What the steps of expansion come to.
use Rattle.std.specs.Prelude.{◌≡◌, ◌⊎◌, ℕ, ◌+◌, ◌<◌, ◌≤◌, List, [], ◌∷◌, length, None, Some, Result, Ok, Err}
use Rattle.xdg_base.specs.declared.faults.Cause.TheVariants as causes
use Rattle.xdg_base.specs.declared.faults.Stop.{Stop}
use Rattle.xdg_base.specs.declared.faults.Stop.TheVariants as stops
use Rattle.xdg_types.specs.Table.{Table}
use Rattle.xdg_packed.specs.Lexicon.{Entry}
use Rattle.xdg_packed.specs.Packing.{Puts}
use Rattle.xdg_classes.specs.Bodies.{Body}
use Rattle.xdg_lexicon.specs.Partial.{Partial}
use Rattle.xdg_lexicon.specs.Denotes.{Denotes}
use Rattle.xdg_lexicon.specs.Sources.{Source}
use Rattle.xdg_lexicon.specs.Lexicon.{whole, AreWhole, Adds, SoFar, AreFewEach, IsCounted, IsExpanded, Expands, IsCrowded, OffendsAt, reaching_most}
use Rattle.xdg_facts.specs.Membership.{In}
use Rattle.xdg_base.specs.Faults.{fault_at}

-- ---- members

-- the member is whole and is added, or it lacks a feature
abbrev pub AddsMember : Table → Partial → ℕ → List Entry → Result (List Entry) Stop → Type 0
AddsMember table p at before (Ok after) = (e : Entry) × ((whole table p ≡ Some e) × Puts before e after)
AddsMember table p at before (Err (stops.Fault f)) = (whole table p ≡ None) × (f ≡ fault_at causes.MissingArg at)
AddsMember table p at before (Err stops.OutOfMemory) = Unit {0}

-- each member is whole and is added, or one lacks a feature
abbrev pub AddsMembers : Table → List Partial → ℕ → List Entry → Result (List Entry) Stop → Type 0
AddsMembers table members at before (Ok after) = (made : List Entry) × (AreWhole table members made × Adds before made after)
AddsMembers table members at before (Err (stops.Fault f)) =
    (p : Partial) × (In members p × ((whole table p ≡ None) × (f ≡ fault_at causes.MissingArg at)))
AddsMembers table members at before (Err stops.OutOfMemory) = Unit {0}

-- ---- limits

-- the entries and those of each word are few enough, or the first limit is passed
abbrev pub KeepsLimits : Table → List Entry → ℕ → Result (Unit {0}) Stop → Type 0
KeepsLimits table entries at (Ok done) = (length entries ≤ 65536) × AreFewEach table entries
KeepsLimits table entries at (Err (stops.Fault f)) =
    ((65536 < length entries) × (f ≡ reaching_most causes.TooManyEntries at (length entries)))
    ⊎ ((length entries ≤ 65536) × ((reached : ℕ) × (IsCrowded table entries reached × (f ≡ reaching_most causes.TooManyEntries at reached))))
KeepsLimits table entries at (Err stops.OutOfMemory) = Unit {0}

-- ---- one `defentry`

-- the body denotes one list alone
abbrev pub Once : Source → Body → Type 0
Once source b = (ms ns : List Partial) → Denotes source.table.dims source.classes [] b ms → Denotes source.table.dims source.classes [] b ns → ms ≡ ns

-- the same of each of these, one after the other
abbrev pub AllOnce : Source → List (ℕ × Body) → Type 0
AllOnce source [] = Unit {0}
AllOnce source (one ∷ rest) = Once source one.1 × AllOnce source rest

-- the same where the numbers of the body are within the limits
abbrev pub OnceCounted : Source → SoFar → Body → Type 0
OnceCounted source before b = IsCounted source before b → Once source b

-- the two numbers of the body are within the limits, and these are the sums, or a limit is passed
abbrev pub CountsOne : Source → SoFar → ℕ × Body → Result (ℕ × ℕ) Stop → Type 0
CountsOne source before one (Ok sums) = (c : IsCounted source before one.1) × ((sums.0 ≡ before.uses + c.uses_of) × (sums.1 ≡ before.combos + c.combos_of))
CountsOne source before one (Err (stops.Fault f)) = OffendsAt source before one f × (IsCounted source before one.1 → ⊥)
CountsOne source before one (Err stops.OutOfMemory) = Unit {0}

-- the members of the body are added within the limits, or something is wrong with them
abbrev pub AddsOne : Source → SoFar → ℕ × Body → Result (List Entry) Stop → Type 0
AddsOne source before one (Ok all) = IsExpanded source before one.1 all × ((length all ≤ 65536) × (AreFewEach source.table all × Once source one.1))
AddsOne source before one (Err (stops.Fault f)) = (IsCounted source before one.1 → OffendsAt source before one f) × Once source one.1
AddsOne source before one (Err stops.OutOfMemory) = Unit {0}

-- the `defentry` is expanded, or something is wrong with it
abbrev pub ExpandsOne : Source → SoFar → ℕ × Body → Result SoFar Stop → Type 0
ExpandsOne source before one (Ok after) = Expands source before one.1 after × Once source one.1
ExpandsOne source before one (Err (stops.Fault f)) = OffendsAt source before one f × OnceCounted source before one.1
ExpandsOne source before one (Err stops.OutOfMemory) = Unit {0}
