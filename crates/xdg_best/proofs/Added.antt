-- What has been said so far, and one statement more.
use Rattle.std.proofs.Common.{◌≡◌, ◌≢◌, ◌∙◌, ℕ, ◌+◌, ◌-◌, ◌<◌, ◌≤◌, ◌==◌, ◌&&◌, ◌||◌, ◌⊎◌, inl, inr, Bool, true, false, List, [], ◌∷◌, ◌++◌, length, get_or, set, arith, refl, sym, ap, ap₂, subst, append_assoc, append-nil, get_or-set_same, get_or-set_other, Some, None, Ok, Err, nat_lt, AllPairs}
use Rattle.std.specs.Prelude.{Option, Result, if◌then◌else◌}
use Rattle.std.specs.List.{list_any}
use Rattle.std.proofs.lemmas.List.{length-set}
use Rattle.std.proofs.lemmas.List.Folds.{list_any-append}
use Rattle.std.proofs.lemmas.List.Quantifiers.{all_pairs_push}
use Rattle.std.proofs.lemmas.Bool.{eqb-true, eqb-false, eq-eqb, ltb-false, cases_eq, false_from_ne_true, ne_eqb, le-ltb}
use Rattle.xdg_base.specs.Faults.{fault_at}
use Rattle.xdg_base.specs.declared.faults.Fault.{Fault}
use Rattle.xdg_base.specs.declared.faults.Stop.TheVariants as stops
use Rattle.xdg_base.specs.declared.ids.DimId.{DimId}
use Rattle.xdg_base.specs.declared.ids.LabelId.{LabelId}
use Rattle.xdg_base.specs.declared.faults.Cause.TheVariants as causes
use Rattle.xdg_ast.specs.declared.names.Name.{Name}
use Rattle.xdg_ast.specs.declared.names.Num.{Num}
use Rattle.xdg_types.specs.Table.{Table}
use Rattle.xdg_best.specs.declared.building.Building.{Building}
use Rattle.xdg_best.specs.declared.statements.Statement.{Statement}
use Rattle.xdg_best.specs.declared.statements.Statement.TheVariants as statements
use Rattle.xdg_best.specs.Building.{has_entry, has_place, IsFreshPlace, Built, Adds}
use Rattle.xdg_best.specs.Meaning.{entry_costs, label_costs, placed, is_of_entry, is_at, is_of_place, entry_fault, edge_fault}
use Rattle.xdg_best.specs.Naming.{Place, place_of}
use Rattle.xdg_facts.proofs.Truths.{or_false, or_true}
use Rattle.xdg_facts.proofs.Contained.{none_passes}

-- ---- lists

entries_more : (earlier : List Statement) (s : Statement) → entry_costs (earlier ++ s ∷ []) ≡ entry_costs earlier ++ entry_costs (s ∷ [])
entries_more [] s = refl
entries_more (statements.Entry number cost ∷ earlier) s = ap (λ z. (record { 0 = number.value - 1 }, cost) ∷ z) (entries_more earlier s)
entries_more (statements.Edge dim label cost ∷ earlier) s = entries_more earlier s

labels_more : (table : Table) (earlier : List Statement) (s : Statement) → label_costs table (earlier ++ s ∷ []) ≡ label_costs table earlier ++ label_costs table (s ∷ [])
labels_more table [] s = refl
labels_more table (statements.Entry number cost ∷ earlier) s = labels_more table earlier s
labels_more table (statements.Edge dim label cost ∷ earlier) s =
    ap (λ z. placed (place_of table dim label) cost ++ z) (labels_more table earlier s) ∙ sym (append_assoc (placed (place_of table dim label) cost) (label_costs table earlier) (label_costs table (s ∷ [])))

placed_or : (table : Table) (place : Place) (found : Result Place Fault) (cost : ℕ) (costs : List (DimId × LabelId × ℕ)) (before : Bool) → has_place costs place ≡ before → has_place (placed found cost ++ costs) place ≡ (is_at place found || before)
placed_or table place (Ok other) cost costs before same = ap (λ z. ((other.0.0 == place.0.0) && (other.1.0 == place.1.0)) || z) same
placed_or table place (Err fault) cost costs before same = same

-- a cost of a place was said where a statement of it stands before
same_places : (table : Table) (place : Place) (earlier : List Statement) → has_place (label_costs table earlier) place ≡ list_any (is_of_place table place) earlier
same_places table place [] = refl
same_places table place (statements.Entry number cost ∷ earlier) = same_places table place earlier
same_places table place (statements.Edge dim label cost ∷ earlier) = placed_or table place (place_of table dim label) cost (label_costs table earlier) (list_any (is_of_place table place) earlier) (same_places table place earlier)

-- ---- an entry more

-- a number that has no fault
pub record IsFresh (entries : ℕ) (number : Num) (again : Bool) : Type 0 where
  pub some : 0 < number.value
  pub most : number.value ≤ entries
  pub new : again ≡ false

abbrev fault_by : Num → Bool → Bool → Bool → Option Fault
fault_by number none over again =
    if none || over then Some (fault_at causes.NoEntry number.span.start) else (if again then Some (fault_at causes.Twice number.span.start) else None)

same_by : (entries : ℕ) (number : Num) (one other a b : Bool) → (number.value == 0) ≡ a → nat_lt entries number.value ≡ b → (0 < number.value → number.value ≤ entries → one ≡ other)
    → entry_fault entries number one ≡ entry_fault entries number other
same_by entries number one other true b is_a is_b same = ap (λ z. fault_by number z (nat_lt entries number.value) one) is_a ∙ sym (ap (λ z. fault_by number z (nat_lt entries number.value) other) is_a)
same_by entries number one other false true is_a is_b same = ap₂ (λ (x y : Bool). fault_by number x y one) is_a is_b ∙ sym (ap₂ (λ (x y : Bool). fault_by number x y other) is_a is_b)
same_by entries number one other false false is_a is_b same =
    let ne = eqb-false number.value 0 is_a in
    ap (entry_fault entries number) (same (omega (arith, ne)) (ltb-false entries number.value is_b))

-- the flag of an entry tells whether it stands before
pub seen_fault : (table : Table) (entries : ℕ) (earlier : List Statement) (made : Building) (number : Num) → Built table entries earlier made
    → entry_fault entries number (get_or made.seen.items (number.value - 1) false) ≡ entry_fault entries number (list_any (is_of_entry number.value) earlier)
seen_fault table entries earlier made number b =
    same_by entries number (get_or made.seen.items (number.value - 1) false) (list_any (is_of_entry number.value) earlier) (number.value == 0) (nat_lt entries number.value) refl refl
    (λ some most. let place : number.value - 1 < entries = omega (arith, some, most) in let back : number.value - 1 + 1 ≡ number.value = omega (arith, some) in
    b.seen_said (number.value - 1) place ∙ ap (λ n. list_any (is_of_entry n) earlier) back)

-- it is added
module _ (table : Table) (entries : ℕ) (earlier : List Statement) (old new : Building) (number : Num) (cost : ℕ) (b : Built table entries earlier old) (fine : IsFresh entries number (get_or old.seen.items (number.value - 1) false))
    (more : new.entries ≡ old.entries ++ (record { 0 = number.value - 1 }, cost) ∷ []) (same : new.labels ≡ old.labels) (flags : new.seen.items ≡ set old.seen.items (number.value - 1) true) where
  abbrev place : ℕ
  place = number.value - 1

  in_flags : place < length old.seen.items
  in_flags = let some = fine.some in let most = fine.most in let count = b.count in omega (arith, some, most, count)

  flag_same : (k : ℕ) → k ≡ place → get_or new.seen.items k false ≡ true
  flag_same k e = ap (λ z. get_or z k false) flags ∙ ap (λ n. get_or (set old.seen.items place true) n false) e ∙ get_or-set_same old.seen.items place true false in_flags

  flag_other : (k : ℕ) → k ≢ place → get_or new.seen.items k false ≡ get_or old.seen.items k false
  flag_other k ne = ap (λ z. get_or z k false) flags ∙ get_or-set_other old.seen.items place k true false ne

  said_of : (k : ℕ) → list_any (is_of_entry (k + 1)) (earlier ++ statements.Entry number cost ∷ []) ≡ (list_any (is_of_entry (k + 1)) earlier || (number.value == (k + 1)))
  said_of k = list_any-append (is_of_entry (k + 1)) earlier (statements.Entry number cost ∷ []) ∙ ap (λ z. list_any (is_of_entry (k + 1)) earlier || z) (or_false (number.value == (k + 1)))

  kept_of : (k : ℕ) → has_entry new.entries k ≡ (has_entry old.entries k || (place == k))
  kept_of k = ap (λ z. has_entry z k) more ∙ list_any-append (λ one. one.0.0 == k) old.entries ((record { 0 = place }, cost) ∷ []) ∙ ap (λ z. has_entry old.entries k || z) (or_false (place == k))

  said_at : (k : ℕ) → k < entries → (k ≡ place) ⊎ (k ≡ place → ⊥) → get_or new.seen.items k false ≡ list_any (is_of_entry (k + 1)) (earlier ++ statements.Entry number cost ∷ [])
  said_at k within (inl e) =
      let some = fine.some in
      let is : number.value ≡ k + 1 = omega (arith, some, e) in
      flag_same k e ∙ sym (said_of k ∙ ap (λ z. list_any (is_of_entry (k + 1)) earlier || z) (eq-eqb number.value (k + 1) is) ∙ or_true (list_any (is_of_entry (k + 1)) earlier))
  said_at k within (inr ne) =
      let other : (number.value == (k + 1)) ≡ false = false_from_ne_true (number.value == (k + 1)) (λ h. let is = eqb-true number.value (k + 1) h in ne (omega (arith, is))) in
      flag_other k ne ∙ b.seen_said k within ∙ sym (said_of k ∙ ap (λ z. list_any (is_of_entry (k + 1)) earlier || z) other ∙ or_false (list_any (is_of_entry (k + 1)) earlier))

  kept_at : (k : ℕ) → k < entries → (k ≡ place) ⊎ (k ≡ place → ⊥) → get_or new.seen.items k false ≡ has_entry new.entries k
  kept_at k within (inl e) = flag_same k e ∙ sym (kept_of k ∙ ap (λ z. has_entry old.entries k || z) (eq-eqb place k (sym e)) ∙ or_true (has_entry old.entries k))
  kept_at k within (inr ne) =
      let other : (place == k) ≡ false = false_from_ne_true (place == k) (λ h. ne (sym (eqb-true place k h))) in
      flag_other k ne ∙ b.seen_kept k within ∙ sym (kept_of k ∙ ap (λ z. has_entry old.entries k || z) other ∙ or_false (has_entry old.entries k))

  differ : AllPairs (λ a c. a.0.0 ≢ c.0.0) (old.entries ++ (record { 0 = place }, cost) ∷ [])
  differ =
      let place_in : place < entries = let some = fine.some in let most = fine.most in omega (arith, some, most) in
      let none : has_entry old.entries place ≡ false = sym (b.seen_kept place place_in) ∙ fine.new in
      all_pairs_push (λ a c. a.0.0 ≢ c.0.0) old.entries (record { 0 = place }, cost) b.kept.entries_differ
      (λ k d within e. none_passes (λ one. one.0.0 == place) old.entries none k d within (eq-eqb (get_or old.entries k d).0.0 place e))

  pub entry_added : Built table entries (earlier ++ statements.Entry number cost ∷ []) new
  entry_added = record {
    entries_are = more ∙ ap (λ z. z ++ (record { 0 = place }, cost) ∷ []) b.entries_are ∙ sym (entries_more earlier (statements.Entry number cost));
    labels_are = same ∙ b.labels_are ∙ sym (labels_more table earlier (statements.Entry number cost) ∙ append-nil (label_costs table earlier));
    count = ap length flags ∙ length-set old.seen.items place true ∙ b.count;
    seen_said = λ k within. said_at k within (cases_eq k place);
    seen_kept = λ k within. kept_at k within (cases_eq k place);
    kept = record {
      entries_differ = subst (λ z. AllPairs (λ a c. a.0.0 ≢ c.0.0) z) (sym more) differ;
      labels_differ = subst (λ z. AllPairs (λ a c. a.0.0 ≡ c.0.0 → a.1.0 ≢ c.1.0) z) (sym same) b.kept.labels_differ;
    };
  }

-- ---- an edge more

-- what is wrong with constants that name no label, or a label of which a cost was said

pub place_fault : (table : Table) (entries : ℕ) (earlier : List Statement) (made : Building) (label : Name) (found : Result Place Fault) (place : Place) (again : Bool) → Built table entries earlier made → found ≡ Ok place
    → again ≡ has_place made.labels place → edge_fault table earlier label found ≡ (if again then Some (fault_at causes.Twice label.span.start) else None)
place_fault table entries earlier made label found place again b is told =
    ap (edge_fault table earlier label) is
    ∙ ap (λ z. if z then Some (fault_at causes.Twice label.span.start) else None) (sym (told ∙ ap (λ z. has_place z place) b.labels_are ∙ same_places table place earlier))

module _ (table : Table) (entries : ℕ) (earlier : List Statement) (old new : Building) (dim label : Name) (cost : ℕ) (place : Place) (b : Built table entries earlier old) (is : place_of table dim label ≡ Ok place) (fresh_place : has_place old.labels place ≡ false)
    (more : new.labels ≡ old.labels ++ (place.0, place.1, cost) ∷ []) (same : new.entries ≡ old.entries) (flags : new.seen.items ≡ old.seen.items) where
  said_before : (k : ℕ) → list_any (is_of_entry (k + 1)) (earlier ++ statements.Edge dim label cost ∷ []) ≡ list_any (is_of_entry (k + 1)) earlier
  said_before k = list_any-append (is_of_entry (k + 1)) earlier (statements.Edge dim label cost ∷ []) ∙ or_false (list_any (is_of_entry (k + 1)) earlier)

  labels_differ : AllPairs (λ a c. a.0.0 ≡ c.0.0 → a.1.0 ≢ c.1.0) (old.labels ++ (place.0, place.1, cost) ∷ [])
  labels_differ = all_pairs_push (λ a c. a.0.0 ≡ c.0.0 → a.1.0 ≢ c.1.0) old.labels (place.0, place.1, cost) b.kept.labels_differ
      (λ k d within e f. none_passes (λ one. (one.0.0 == place.0.0) && (one.1.0 == place.1.0)) old.labels fresh_place k d within
      (both_true (eq-eqb (get_or old.labels k d).0.0 place.0.0 e) (eq-eqb (get_or old.labels k d).1.0 place.1.0 f)))
    where
      both_true : {x y : Bool} → x ≡ true → y ≡ true → (x && y) ≡ true
      both_true {x} {y} e f = ap₂ (λ (u v : Bool). u && v) e f

  pub edge_added : Built table entries (earlier ++ statements.Edge dim label cost ∷ []) new
  edge_added = record {
    entries_are = same ∙ b.entries_are ∙ sym (entries_more earlier (statements.Edge dim label cost) ∙ append-nil (entry_costs earlier));
    labels_are = more ∙ ap (λ z. z ++ (place.0, place.1, cost) ∷ []) b.labels_are
        ∙ sym (labels_more table earlier (statements.Edge dim label cost) ∙ ap (λ z. label_costs table earlier ++ (placed z cost ++ [])) is ∙ ap (λ z. label_costs table earlier ++ z) (append-nil ((place.0, place.1, cost) ∷ [])));
    count = ap length flags ∙ b.count;
    seen_said = λ k within. ap (λ z. get_or z k false) flags ∙ b.seen_said k within ∙ sym (said_before k);
    seen_kept = λ k within. ap (λ z. get_or z k false) flags ∙ b.seen_kept k within ∙ ap (λ z. has_entry z k) (sym same);
    kept = record {
      entries_differ = subst (λ z. AllPairs (λ a c. a.0.0 ≢ c.0.0) z) (sym same) b.kept.entries_differ;
      labels_differ = subst (λ z. AllPairs (λ a c. a.0.0 ≡ c.0.0 → a.1.0 ≢ c.1.0) z) (sym more) labels_differ;
    };
  }

-- ---- what a call does

-- a fresh number has no fault

no_fault : (entries : ℕ) (number : Num) (again : Bool) → IsFresh entries number again → entry_fault entries number again ≡ None
no_fault entries number again f =
    let some = f.some in
    let none : (number.value == 0) ≡ false = ne_eqb number.value 0 (λ e. omega (arith, some, e)) in
    let over : nat_lt entries number.value ≡ false = le-ltb entries number.value f.most in
    ap₂ (λ (x y : Bool). fault_by number x y again) none over ∙ ap (fault_by number false false) f.new

pub entry_goes : (table : Table) (entries : ℕ) (earlier : List Statement) (old new : Building) (number : Num) (cost place : ℕ) → IsFreshPlace entries number old.seen.items place → new.entries ≡ old.entries ++ (record { 0 = place }, cost) ∷ []
    → new.labels ≡ old.labels → new.seen.items ≡ set old.seen.items place true → Built table entries earlier old → Adds table entries earlier (statements.Entry number cost) (Ok tt) new
entry_goes table entries earlier old new number cost place f more same flags b =
    let is = f.is in
    let within = f.within in
    let back : place ≡ number.value - 1 = omega (arith, is) in
    let fine : IsFresh entries number (get_or old.seen.items (number.value - 1) false) = record { some = omega (arith, is); most = omega (arith, is, within); new = ap (λ k. get_or old.seen.items k false) (sym back) ∙ f.new } in (
      sym (seen_fault table entries earlier old number b) ∙ no_fault entries number (get_or old.seen.items (number.value - 1) false) fine,
      entry_added table entries earlier old new number cost b fine (more ∙ ap (λ (k : ℕ). old.entries ++ (record { 0 = k }, cost) ∷ []) back) same (flags ∙ ap (λ k. set old.seen.items k true) back),
    )

pub entry_refused : (table : Table) (entries : ℕ) (earlier : List Statement) (old new : Building) (number : Num) (cost : ℕ) (f : Fault) → entry_fault entries number (get_or old.seen.items (number.value - 1) false) ≡ Some f
    → Built table entries earlier old → Adds table entries earlier (statements.Entry number cost) (Err (stops.Fault f)) new
entry_refused table entries earlier old new number cost f is b = sym (seen_fault table entries earlier old number b) ∙ is

pub edge_goes : (table : Table) (entries : ℕ) (earlier : List Statement) (old new : Building) (dim label : Name) (cost : ℕ) (place : Place) → place_of table dim label ≡ Ok place → has_place old.labels place ≡ false
    → new.labels ≡ old.labels ++ (place.0, place.1, cost) ∷ [] → new.entries ≡ old.entries → new.seen.items ≡ old.seen.items → Built table entries earlier old → Adds table entries earlier (statements.Edge dim label cost) (Ok tt) new
edge_goes table entries earlier old new dim label cost place is none more same flags b = (
  place_fault table entries earlier old label (place_of table dim label) place false b is (sym none),
  edge_added table entries earlier old new dim label cost place b is none more same flags,
)

pub edge_twice : (table : Table) (entries : ℕ) (earlier : List Statement) (old new : Building) (dim label : Name) (cost : ℕ) (place : Place) (f : Fault) → place_of table dim label ≡ Ok place → has_place old.labels place ≡ true
    → f ≡ fault_at causes.Twice label.span.start → Built table entries earlier old → Adds table entries earlier (statements.Edge dim label cost) (Err (stops.Fault f)) new
edge_twice table entries earlier old new dim label cost place f is some told b = place_fault table entries earlier old label (place_of table dim label) place true b is (sym some) ∙ ap Some (sym told)

pub edge_wrong : (table : Table) (entries : ℕ) (earlier : List Statement) (new : Building) (dim label : Name) (cost : ℕ) (f : Fault) → place_of table dim label ≡ Err f → Adds table entries earlier (statements.Edge dim label cost) (Err (stops.Fault f)) new
edge_wrong table entries earlier new dim label cost f is = ap (edge_fault table earlier label) is
