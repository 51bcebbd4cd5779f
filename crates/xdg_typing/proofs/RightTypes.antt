-- What a written type means is a type as grammars may have it where nothing is wrong with it.
use Rattle.std.proofs.Common.{◌≡◌, inl, inr, ℕ, ◌<◌, ◌≤◌, true, false, List, [], ◌∷◌, length, ap, sym, ◌∙◌, refl, subst, arith}
use Rattle.std.specs.Prelude.{◌&&◌}
use Rattle.std.proofs.lemmas.Bool.{cases_Bool, true≢false, false≢true}
use Rattle.std.proofs.lemmas.List.{length-map}
use Rattle.xdg_base.specs.Faults.{fault_at}
use Rattle.xdg_base.specs.declared.faults.Cause.TheVariants as causes
use Rattle.xdg_base.specs.declared.faults.Fault.{Fault}
use Rattle.xdg_ast.specs.declared.names.Name.{Name}
use Rattle.xdg_domain.specs.Shapes.{Shape, domain, tuple, text, set, iset, card, valency, mapping, fields, Shapes, no_shape, shape_then, Fields, no_field, field_then, constants, constants_of, in_a_row, sizes, product, count, IsDomain, AreDomains, IsSmall, IsMapped, names_of, IsType, AreTypes}
use Rattle.xdg_domain.proofs.Constants.{domain_differs}
use Rattle.xdg_types.specs.Written.{Tree, nothing, listed, recorded, tupled, set_of, iset_of, valency_of, map_of, named, Trees, no_tree, tree_then, Members, no_member, member_then, member_names, uses, uses_in_trees, uses_in_members, lists, lists_in_trees, lists_in_members}
use Rattle.xdg_types.specs.Meaning.{meaning, domains_meaning, fields_meaning, as_domain}
use Rattle.xdg_types.specs.Kinds.{Wanted, anything, a_domain, a_small, a_mapped, an_attribute, Site, inside, inside_trees, inside_members, inside_attributes, is_domain, is_small, is_mapped, is_empty_domain, are_domains, has_empty_domain, has_no_tuple, is_attribute, is_of_kind, SiteOffends, Split, SharesAt}
use Rattle.xdg_typing.specs.Branches.{Naming}
use Rattle.xdg_types.proofs.Elements.{among_name}
use Rattle.xdg_facts.proofs.Truths.{from_not, none_or}
use Rattle.xdg_facts.specs.Membership.{In, Differ}
use Rattle.xdg_facts.proofs.In.{in_left, in_right, in_append, differ_append}
use Rattle.xdg_ast.specs.Texts.{texts}
use Rattle.xdg_facts.proofs.Numbers.{not_more, both_positive}

-- ---- shapes of the wanted kind

pub as_type : (s : Shape) → IsType s → IsType (as_domain s)
as_type (fields no_field) h = (omega arith, tt)
as_type (fields (field_then name u fs)) h = h
as_type other h = h

pub domain_of : (s : Shape) → is_domain s ≡ true → IsType s → IsDomain s
domain_of (domain cs) k h = h
domain_of other k h = absurd (false≢true k)

small_of : (s : Shape) → is_small s ≡ true → IsType s → IsSmall s
small_of (domain cs) k h = h
small_of (tuple ss) k h = h
small_of other k h = absurd (false≢true k)

mapped_of : (s : Shape) → is_mapped s ≡ true → IsMapped s
mapped_of (set u) k = tt
mapped_of (iset u) k = tt
mapped_of card k = tt
mapped_of (valency u) k = tt
mapped_of (mapping l u) k = tt
mapped_of other k = absurd (false≢true k)

none_in_fields : (fs : Fields) (t : List ℕ) → In (constants (as_domain (fields fs))) t → ⊥
none_in_fields no_field t h = h
none_in_fields (field_then name u fs) t h = h

-- ---- attributes

some_constant : (s : Shape) → IsDomain s → is_empty_domain s ≡ false → 0 < length (constants s)
some_constant (domain []) h k = absurd (true≢false k)
some_constant (domain (c ∷ cs)) h k = omega arith
some_constant other h k = absurd h

some_tuple : (ss : Shapes) → AreDomains ss → has_empty_domain ss ≡ false → 0 < product (sizes ss)
unfolding product
some_tuple no_shape h k = omega arith
some_tuple (shape_then s ss) h k = let e = none_or (is_empty_domain s) (has_empty_domain ss) k in both_positive (length (constants s)) (product (sizes ss)) (some_constant s h.0 e.0) (some_tuple ss h.1 e.1)

one_domain : (s : Shape) → IsDomain s → is_domain s ≡ true
one_domain (domain cs) h = refl
one_domain other h = absurd h

all_domains : (ss : Shapes) → AreDomains ss → are_domains ss ≡ true
all_domains no_shape h = refl
all_domains (shape_then s ss) h = ap (λ b. b && are_domains ss) (one_domain s h.0) ∙ all_domains ss h.1

pub attribute_of : (s : Shape) → IsType s → is_attribute s ≡ true → IsSmall s × (0 < count s)
attribute_of (domain cs) h k = (h, some_constant (domain cs) h (from_not (is_empty_domain (domain cs)) k))
attribute_of (tuple ss) h k =
    let none : has_no_tuple ss ≡ false = from_not (has_no_tuple ss) k in
    (h, some_tuple ss h.domains (ap (λ b. b && has_empty_domain ss) (sym (all_domains ss h.domains)) ∙ none))
attribute_of other h k = absurd (false≢true k)

-- ---- types

pub names_are : (names : Naming) (ms : Members) → names_of (fields_meaning names ms) ≡ texts (member_names ms)
names_are names no_member = refl
names_are names (member_then name at t ms) = ap (λ ts. name.text ∷ ts) (names_are names ms)

module _ (names : Naming) where
  abbrev pub IsFine : Site → Type 0
  IsFine site = (f : Fault) → SiteOffends names site f → ⊥

  abbrev pub AreFine : List Site → Type 0
  AreFine sites = (site : Site) → In sites site → IsFine site

  abbrev pub HaveTypes : List Name → Type 0
  HaveTypes all = (u : Name) → In all u → IsType (names u.text)

  abbrev pub AllOnce : List (List Name) → Type 0
  AllOnce all = (ns : List Name) → In all ns → Differ (texts ns)

  pub kind_of : (wanted : Wanted) (at : ℕ) (t : Tree) → IsFine (record { wanted = wanted; at = at; written = t }) → is_of_kind wanted (meaning names t) ≡ true
  kind_of wanted at t fine = elim (cases_Bool (is_of_kind wanted (meaning names t))) [
    | inl e ↦ e
    | inr e ↦ absurd (fine (fault_at causes.WrongKind at) (inl (record { kind = inl e; fault = refl })))
  ]

  -- ---- tuples

  abbrev row : Trees → List (List ℕ)
  row ts = in_a_row (constants_of (domains_meaning names ts))

  abbrev own : Tree → List (List ℕ)
  own t = constants (as_domain (meaning names t))

  abbrev NoneShared : Trees → Type 0
  NoneShared ts = (before : Trees) (at : ℕ) (field : Tree) (after : Trees) (c : List ℕ) → Split before ts at field after → In (own field) c → In (row before) c → ⊥

  record HasField (ts : Trees) (c : List ℕ) : Type 0 where
    before : Trees
    at : ℕ
    field : Tree
    after : Trees
    parts : Split before ts at field after
    has : In (own field) c

  field_with : (ts : Trees) (c : List ℕ) → In (row ts) c → HasField ts c
  field_with no_tree c h = absurd h
  field_with (tree_then at t ts) c h = elim (in_append (own t) (row ts) c h) [
    | inl l ↦ record { before = no_tree; at = at; field = t; after = ts; parts = refl; has = l }
    | inr r ↦ (let w = field_with ts c r in record { before = tree_then at t w.before; at = w.at; field = w.field; after = w.after; parts = (ts, (refl, w.parts)); has = w.has })
  ]

  apart : (ts : Trees) → NoneShared ts → AreDomains (domains_meaning names ts) → Differ (row ts)
  apart no_tree none domains = tt
  apart (tree_then at t ts) none domains =
      differ_append (own t) (row ts) (domain_differs (as_domain (meaning names t)) domains.0)
      (apart ts (λ before there field after c split has earlier. none (tree_then at t before) there field after c (ts, (refl, split)) has (in_right (own t) (row before) c earlier)) domains.1)
      (λ c has later. let w = field_with ts c later in none (tree_then at t w.before) w.at w.field w.after c (ts, (refl, w.parts)) w.has (in_left (own t) (row w.before) c has))

  shares : (earlier : List (List ℕ)) (at : ℕ) (t : Tree) (c : List ℕ) → In (own t) c → In earlier c → (f : Fault) × SharesAt names earlier at t f
  shares earlier at (listed cs) c has before = let w = among_name cs c has in (fault_at causes.Twice w.0.span.start, (w.0, (w.1.0, (subst (In earlier) (sym w.1.1) before, refl))))
  shares earlier at (named name) c has before = (fault_at causes.Twice at, (c, (has, (before, refl))))
  shares earlier at (recorded ms) c has before = absurd (none_in_fields (fields_meaning names ms) c has)
  shares earlier at other c has before = absurd has

  none_shared : (wanted : Wanted) (at : ℕ) (ts : Trees) → IsFine (record { wanted = wanted; at = at; written = tupled ts }) → NoneShared ts
  none_shared wanted at ts fine before there field after c split has earlier =
      let w = shares (row before) there field c has earlier in
      fine w.0 (inr (inr (inr (inr (inl (record { members = ts; is = refl; before = before; at = there; field = field; after = after; parts = split; shares = w.1 }))))))

  few_tuples : (wanted : Wanted) (at : ℕ) (ts : Trees) → IsFine (record { wanted = wanted; at = at; written = tupled ts }) → product (sizes (domains_meaning names ts)) ≤ 1024
  few_tuples wanted at ts fine = not_more 1024 (product (sizes (domains_meaning names ts))) (λ h. fine _ (inr (inr (inr (inl (record { members = ts; is = refl; many = h; fault = refl }))))))

  some_field : (wanted : Wanted) (at : ℕ) (ts : Trees) → IsFine (record { wanted = wanted; at = at; written = tupled ts }) → domains_meaning names ts ≡ no_shape → ⊥
  some_field wanted at no_tree fine e = fine (fault_at causes.WrongKind at) (inl (record { kind = inr refl; fault = refl }))
  some_field wanted at (tree_then there t ts) fine e = cc

  few_constants : (wanted : Wanted) (at : ℕ) (cs : List Name) → IsFine (record { wanted = wanted; at = at; written = listed cs }) → length (texts cs) ≤ 64
  few_constants wanted at cs fine =
      let len : length (texts cs) ≡ length cs = length-map cs (λ name. name.text) in
      let few : length cs ≤ 64 = not_more 64 (length cs) (λ h. fine _ (inr (inl (record { constants = cs; is = refl; many = h; fault = refl })))) in
      omega (arith, len, few)

  mutual
    pub right_type : (wanted : Wanted) (at : ℕ) (t : Tree) → IsFine (record { wanted = wanted; at = at; written = t }) → AreFine (inside t) → AllOnce (lists t) → HaveTypes (uses t) → IsType (meaning names t)
    right_type wanted at nothing fine all once used = (tt, tt)
    right_type wanted at (listed cs) fine all once used = (few_constants wanted at cs fine, once cs (inl refl))
    right_type wanted at (recorded ms) fine all once used = (subst Differ (sym (names_are names ms)) (once (member_names ms) (inl refl)), right_members anything ms all (λ ns i. once ns (inr i)) used)
    right_type wanted at (tupled ts) fine all once used =
        let domains = right_domains ts all once used in
        record { some = some_field wanted at ts fine; domains = domains; apart = apart ts (none_shared wanted at ts fine) domains; few = few_tuples wanted at ts fine }
    right_type wanted at (set_of there t) fine all once used =
        let here = all _ (inl refl) in
        small_of (as_domain (meaning names t)) (kind_of a_small there t here) (as_type (meaning names t) (right_type a_small there t here (λ s i. all s (inr i)) once used))
    right_type wanted at (iset_of there t) fine all once used =
        let here = all _ (inl refl) in
        small_of (as_domain (meaning names t)) (kind_of a_small there t here) (as_type (meaning names t) (right_type a_small there t here (λ s i. all s (inr i)) once used))
    right_type wanted at (valency_of there t) fine all once used =
        let here = all _ (inl refl) in
        domain_of (as_domain (meaning names t)) (kind_of a_domain there t here) (as_type (meaning names t) (right_type a_domain there t here (λ s i. all s (inr i)) once used))
    right_type wanted at (map_of there t further u) fine all once used =
        let key_sites = record { wanted = a_domain; at = there; written = t } ∷ inside t in
        let value_sites = record { wanted = a_mapped; at = further; written = u } ∷ inside u in
        let key = all _ (in_left key_sites value_sites _ (inl refl)) in
        let value = all _ (in_right key_sites value_sites _ (inl refl)) in (
          domain_of (as_domain (meaning names t)) (kind_of a_domain there t key)
              (as_type (meaning names t) (right_type a_domain there t key (λ s i. all s (in_left key_sites value_sites s (inr i))) (λ ns i. once ns (in_left (lists t) (lists u) ns i)) (λ n i. used n (in_left (uses t) (uses u) n i)))),
          (
            mapped_of (meaning names u) (kind_of a_mapped further u value),
            right_type a_mapped further u value (λ s i. all s (in_right key_sites value_sites s (inr i))) (λ ns i. once ns (in_right (lists t) (lists u) ns i)) (λ n i. used n (in_right (uses t) (uses u) n i)),
          ),
        )
    right_type wanted at (named name) fine all once used = used name (inl refl)
    right_type wanted at other fine all once used = tt

    right_domains : (ts : Trees) → AreFine (inside_trees ts) → AllOnce (lists_in_trees ts) → HaveTypes (uses_in_trees ts) → AreDomains (domains_meaning names ts)
    right_domains no_tree all once used = tt
    right_domains (tree_then at t ts) all once used =
        let sites = record { wanted = a_domain; at = at; written = t } ∷ inside t in
        let here = all _ (in_left sites (inside_trees ts) _ (inl refl)) in (
          domain_of (as_domain (meaning names t)) (kind_of a_domain at t here)
              (as_type (meaning names t) (right_type a_domain at t here (λ s i. all s (in_left sites (inside_trees ts) s (inr i))) (λ ns i. once ns (in_left (lists t) (lists_in_trees ts) ns i)) (λ n i. used n (in_left (uses t) (uses_in_trees ts) n i)))),
          right_domains ts (λ s i. all s (in_right sites (inside_trees ts) s i)) (λ ns i. once ns (in_right (lists t) (lists_in_trees ts) ns i)) (λ n i. used n (in_right (uses t) (uses_in_trees ts) n i)),
        )

    pub right_members : (wanted : Wanted) (ms : Members) → AreFine (inside_members wanted ms) → AllOnce (lists_in_members ms) → HaveTypes (uses_in_members ms) → AreTypes (fields_meaning names ms)
    right_members wanted no_member all once used = tt
    right_members wanted (member_then name at t ms) all once used =
        let sites = record { wanted = wanted; at = at; written = t } ∷ inside t in
        let here = all _ (in_left sites (inside_members wanted ms) _ (inl refl)) in (
          right_type wanted at t here (λ s i. all s (in_left sites (inside_members wanted ms) s (inr i))) (λ ns i. once ns (in_left (lists t) (lists_in_members ms) ns i)) (λ n i. used n (in_left (uses t) (uses_in_members ms) n i)),
          right_members wanted ms (λ s i. all s (in_right sites (inside_members wanted ms) s i)) (λ ns i. once ns (in_right (lists t) (lists_in_members ms) ns i)) (λ n i. used n (in_right (uses t) (uses_in_members ms) n i)),
        )

  pub right_fields : (wanted : Wanted) (ms : Members) → AreFine (inside_members wanted ms) → AllOnce (member_names ms ∷ lists_in_members ms) → HaveTypes (uses_in_members ms) → IsType (fields (fields_meaning names ms))
  right_fields wanted ms all once used = (subst Differ (sym (names_are names ms)) (once (member_names ms) (inl refl)), right_members wanted ms all (λ ns i. once ns (inr i)) used)

  -- a record of attributes
  pub right_attributes : (wanted : Wanted) (at : ℕ) (t : Tree) → IsFine (record { wanted = wanted; at = at; written = t }) → AreFine (inside_attributes t) → AllOnce (lists t) → HaveTypes (uses t) → IsType (meaning names t)
  right_attributes wanted at (recorded ms) fine all once used = right_fields an_attribute ms all once used
  right_attributes wanted at other fine all once used = right_type wanted at other fine all once used
