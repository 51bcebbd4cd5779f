-- An entry more in a lexicon that grows.
use Rattle.std.proofs.Common.{◌≡◌, ℕ, List, [], ◌∷◌, ◌++◌, max, sym, subst, inl, inr}
use Rattle.std.specs.Prelude.{Err}
use Rattle.xdg_base.specs.declared.faults.Stop.{Stop}
use Rattle.xdg_base.specs.declared.faults.Stop.TheVariants as stops
use Rattle.xdg_types.specs.Table.{Table}
use Rattle.xdg_packed.specs.Lexicon.{Entry, word_of}
use Rattle.xdg_packed.specs.Packing.{Puts}
use Rattle.xdg_packed.specs.Entries.{IsEntry, AreEntries, count_of}
use Rattle.xdg_lexicon.specs.Partial.{Partial}
use Rattle.xdg_lexicon.specs.Growing.{IsRightGrowing, entries_in}
use Rattle.xdg_lexicon.specs.Steps.{AddsMember, AddsMembers}
use Rattle.xdg_lexicon.specs.declared.growing.Growing.{Growing}
use Rattle.xdg_lexicon.proofs.Adding.{AddsSoFar}
use Rattle.xdg_lexicon.proofs.Counting.{still_bound}
use Rattle.xdg_facts.specs.Membership.{In}

-- ---- an entry

pub right_last : (table : Table) (entries : List Entry) (e : Entry) → AreEntries table entries → IsEntry table e → AreEntries table (entries ++ e ∷ [])
right_last table [] e right one = (one, tt)
right_last table (first ∷ entries) e right one = (right.0, right_last table entries e right.1 one)

right_put : (table : Table) (before after : List Entry) (e : Entry) → Puts before e after → IsEntry table e → AreEntries table before → AreEntries table after
right_put table before after e (inl p) one right = subst (AreEntries table) (sym p.1) right
right_put table before after e (inr p) one right = subst (AreEntries table) (sym p.1) (right_last table before e right one)

pub still_right : (table : Table) (growing after : Growing) (e : Entry) (count : ℕ) → IsRightGrowing table growing → IsEntry table e
    → (after.packing.dim ≡ growing.packing.dim) × (after.packing.field ≡ growing.packing.field) → Puts (entries_in growing) e (entries_in after)
    → count ≡ count_of growing.packing.dim growing.packing.field (entries_in after) (word_of growing.packing.dim growing.packing.field e) → after.most ≡ max growing.most count → IsRightGrowing table after
still_right table growing after e count right one place puts own most = record {
  right = right_put table (entries_in growing) (entries_in after) e puts one right.right;
  place = rw (place.0, place.1) right.place;
  bound = λ word. rw (place.0, place.1, most) (still_bound growing.packing.dim growing.packing.field (entries_in growing) (entries_in after) e growing.most count puts own right.bound word);
}

-- ---- one member after the other

-- what is known before a member
pub record MembersSoFar (table : Table) (members : List Partial) (i : ℕ) (old now : Growing) : Type 0 where
  pub right : IsRightGrowing table now
  pub adds : AddsSoFar table (entries_in old) members i (entries_in now)

pub member_refused : (table : Table) (members : List Partial) (at : ℕ) (old now : List Entry) (p : Partial) (stop : Stop) → In members p → AddsMember table p at now (Err stop) → AddsMembers table members at old (Err stop)
member_refused table members at old now p (stops.Fault f) stands told = (p, (stands, told))
member_refused table members at old now p stops.OutOfMemory stands told = tt
