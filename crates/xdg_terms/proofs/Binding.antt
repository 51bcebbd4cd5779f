-- A term with open parameters that are bound to right terms is right under the bindings.
use Rattle.std.proofs.Common.{◌≡◌, inl, inr, ℕ, Bool, true, false, List, [], Option, Some, None, length, map, refl, sym, ap, ap₂, ◌∙◌, subst}
use Rattle.std.specs.Prelude.{if◌then◌else◌, bytes_eq, ◌||◌}
use Rattle.std.proofs.lemmas.Bool.{true≢false, false_from_ne_true}
use Rattle.std.specs.List.{flat_map}
use Rattle.std.proofs.lemmas.List.{map-id}
use Rattle.xdg_base.specs.declared.faults.Cause.TheVariants as causes
use Rattle.xdg_base.specs.declared.faults.Fault.{Fault}
use Rattle.xdg_ast.specs.Misnamed.{IsUnknown, IsAgain}
use Rattle.xdg_base.specs.Texts.{has_text}
use Rattle.xdg_ast.specs.declared.names.Name.{Name}
use Rattle.xdg_ast.specs.declared.terms.TermKind.{TermKind, out-TermKind}
use Rattle.xdg_ast.specs.declared.terms.ElemKind.{ElemKind}
use Rattle.xdg_ast.specs.declared.terms.ElemKind.TheOpen.{TermKind-F}
use Rattle.xdg_domain.specs.Shapes.{Shape, truth, constants, tuple, integer, set, iset, card, valency, mapping, fields, Fields, no_field, field_then, sizes}
use Rattle.xdg_terms.specs.Forms.{Term, Bindings, Look, with_bound, with_open, unless_open, bound, bound_in, bound_to, bound_or, constant_of, constant_in, number_of, number_in, card_of, card_in, generator_of, generator_in, bracket_of, bracket_in, constants_of, brackets_of, counts_of, pairs_of, braces_in, plain_elem, bracketed_elem, counted_elem, keyed_elem}
use Rattle.xdg_terms.specs.Offences.{is_some, has_form, has_set_form, all_told, asked, asked_in, keys, keys_of, field_keys, known_fields, cards, OffendsHere, OfSeen, OffendsIn, OffendsUnder, OffendsBy, Offends}
use Rattle.xdg_terms.specs.Wanted.{Want, free_in, free_of, or_inside, params_in, params_under, params_inside}
use Rattle.xdg_terms.specs.Replaced.{IsOpenRight, AreBoundRight}
use Rattle.xdg_terms.proofs.Right.{RightHere, HoldsNone, formed, told}
use Rattle.xdg_facts.proofs.Texts.{is_same, same_text}
use Rattle.xdg_facts.specs.Membership.{In}
use Rattle.xdg_facts.proofs.In.{in_flat_map, flat_map_in, in_map}
use Rattle.xdg_facts.proofs.Lists.{fused}

-- ---- a term of a wanted form is no parameter

module _ (t : Term) (name : Name) (is : out-TermKind t.kind ≡ TermKind-F.Param name) where
  none_read : {A : Type 0} (read : TermKind-F ElemKind TermKind → Option A) → is_some (read (TermKind-F.Param name)) ≡ false → is_some (read (out-TermKind t.kind)) ≡ false
  none_read read none = ap (λ l. is_some (read l)) is ∙ none

  no_set : (s : Shape) → has_set_form s t ≡ false
  unfolding constants_of brackets_of generator_of
  no_set (tuple ss) = ap₂ (λ (a b : Bool). a || b) (none_read (braces_in (bracketed_elem (length (sizes ss)))) refl) (none_read generator_in refl)
  no_set s = none_read (braces_in plain_elem) refl

  pub no_form : (s : Shape) → has_form s t ≡ false
  unfolding constant_of number_of card_of bracket_of counts_of pairs_of
  no_form (tuple ss) = none_read (bracket_in (length (sizes ss))) refl
  no_form integer = none_read number_in refl
  no_form (set s) = no_set s
  no_form (iset s) = no_set s
  no_form card = none_read card_in refl
  no_form (valency k) = none_read (braces_in counted_elem) refl
  no_form (mapping k u) = none_read (braces_in keyed_elem) refl
  no_form (fields fs) = none_read (braces_in keyed_elem) refl
  no_form s = none_read constant_in refl

-- so it stands for itself

itself_by : (bs : Bindings) (s : Shape) (t : Term) → has_form s t ≡ true → (l : TermKind-F ElemKind TermKind) → out-TermKind t.kind ≡ l → bound_in bs t l ≡ t
itself_by bs s t form (TermKind-F.Param name) is = absurd (true≢false (sym form ∙ no_form t name is s))
itself_by bs s t form l is = refl

pub itself : (bs : Bindings) (s : Shape) (t : Term) → has_form s t ≡ true → bound bs t ≡ t
unfolding bound
itself bs s t form = itself_by bs s t form (out-TermKind t.kind) refl

-- ---- what is looked at

-- a term is an open parameter, or it is looked at itself
pub data Seen (free : List (List ℕ)) (t : Term) : Type 0 where
  open_param : (name : Name) → free_of free t ≡ Some name → ((bs : Bindings) → bound bs t ≡ bound_or t (bound_to bs name.text)) → Seen free t
  looked_at : free_of free t ≡ None → with_open free t ≡ Some t → Seen free t

param_by : (free : List (List ℕ)) (t : Term) (name : Name) → out-TermKind t.kind ≡ TermKind-F.Param name → (b : Bool) → has_text free name.text ≡ b → Seen free t
unfolding free_of with_open bound
param_by free t name is true among =
    open_param name (ap (free_in free) is ∙ ap (λ (c : Bool). if c then Some name else None) among) (λ bs. ap (bound_in bs t) is)
param_by free t name is false among =
    looked_at (ap (free_in free) is ∙ ap (λ (c : Bool). if c then Some name else None) among) (ap (unless_open free t) is ∙ ap (λ (c : Bool). if c then None else Some t) among)

other_by : (free : List (List ℕ)) (t : Term) (l : TermKind-F ElemKind TermKind) → out-TermKind t.kind ≡ l → free_in free l ≡ None → unless_open free t l ≡ Some t → Seen free t
unfolding free_of with_open
other_by free t l is none some = looked_at (ap (free_in free) is ∙ none) (ap (unless_open free t) is ∙ some)

seen_by : (free : List (List ℕ)) (t : Term) (l : TermKind-F ElemKind TermKind) → out-TermKind t.kind ≡ l → Seen free t
seen_by free t (TermKind-F.Param name) is = param_by free t name is (has_text free name.text) refl
seen_by free t l is = other_by free t l is refl refl

pub seen : (free : List (List ℕ)) (t : Term) → Seen free t
seen free t = seen_by free t (out-TermKind t.kind) refl

-- ---- right terms

abbrev pub RightIn : Look → Shape → Term → Type 0
RightIn look s t = (f : Fault) → OffendsIn look s t f → ⊥

pub here_of : (look : Look) (s : Shape) (t : Term) → RightIn look s t → RightHere s t
here_of look (mapping k u) t h f w = h f (inl w)
here_of look (fields fs) t h f w = h f (inl w)
here_of look s t h f w = h f w

-- of a right term what is looked at is right, and it has the form
abbrev pub RightBy : Look → Shape → Term → Type 0
RightBy look s t = (f : Fault) → OffendsBy look s t f → ⊥

pub right_in : (look : Look) (s : Shape) (t : Term) → look t ≡ Some t → RightBy look s t → RightIn look s t
right_in look s t is h f w = h f (subst (λ o. OfSeen o (λ seen. OffendsIn look s seen f)) (sym is) w)

-- ---- what stands for a right term

-- what is said of the term itself is said of its form, of what it names and of its cardinalities
here_same : (s : Shape) (t u : Term) → has_form s u ≡ true → asked s u ≡ asked s t → keys s u ≡ keys s t → field_keys s u ≡ field_keys s t → cards s u ≡ cards s t → (f : Fault) → OffendsHere s u f → OffendsHere s t f
here_same s t u form named keyed told counted f w = elim w [
  | inl r ↦ absurd (true≢false (sym form ∙ r.form))
  | inr w ↦ inr (elim w [
    | inl r ↦ inl (record { texts = r.texts; name = r.name; stands = subst (λ all. In all (r.texts, r.name)) named r.stands; missing = r.missing; fault = r.fault })
    | inr w ↦ inr (elim w [
      | inl r ↦ inl (subst (λ names. IsAgain names f) keyed r)
      | inr w ↦ inr (elim w [
        | inl r ↦ inl (subst (λ names. IsUnknown causes.UnknownName (known_fields s) names f) told r)
        | inr r ↦ inr (record { card = r.card; stands = subst (λ all. In all r.card) counted r.stands; offends = r.offends })
      ])
    ])
  ])
]

-- Where nothing is wrong with a term in which parameters are open, nothing is wrong with what stands for it: `image t` for the term, and `put t` where
-- it is the value of a key, if that is right wherever the term is an open parameter.
module _ (free : List (List ℕ)) (look : Look) (put image : Term → Term) (seen_image : (t : Term) → look (put t) ≡ Some (image t))
    (stays : (s : Shape) (t : Term) → HoldsNone s → has_form s t ≡ true → image t ≡ t)
    (pairs_put : (t : Term) (pairs : List (Name × Term)) → pairs_of t ≡ Some pairs → pairs_of (image t) ≡ Some (map (λ (pair : Name × Term). (pair.0, put pair.1)) pairs))
    (P : List ℕ → Shape → Type 0)
    (each : (s : Shape) (t : Term) (name : Name) → free_of free t ≡ Some name → ((cs : Bindings) → bound cs t ≡ bound_or t (bound_to cs name.text)) → P name.text s → RightIn look s (image t)) where
  abbrev Known : List Want → Type 0
  Known wants = (p : List ℕ) (u : Shape) → In wants (p, u) → P p u

  abbrev put_pair : Name × Term → Name × Term
  put_pair pair = (pair.0, put pair.1)

  by_seen : (s : Shape) (t : Term) (inside : List Want) → Known (or_inside (free_of free t) s inside) → RightBy (with_open free) s t → (RightIn (with_open free) s t → Known inside → RightIn look s (image t)) → RightIn look s (image t)
  by_seen s t inside known h go = elim (seen free t) [
    | open_param name is means ↦ each s t name is means (known name.text s (subst (λ (o : Option Name). In (or_inside o s inside) (name.text, s)) (sym is) (inl refl)))
    | looked_at is some ↦ go (right_in (with_open free) s t some h) (λ p u i. known p u (subst (λ (o : Option Name). In (or_inside o s inside) (p, u)) (sym is) i))
  ]

  keys_put : (t : Term) (pairs : List (Name × Term)) → pairs_of t ≡ Some pairs → keys_of (pairs_of (image t)) ≡ keys_of (pairs_of t)
  keys_put t pairs h = ap keys_of (pairs_put t pairs h) ∙ fused (λ (pair : Name × Term). pair.0) put_pair pairs ∙ sym (ap keys_of h)

  -- the values of the keys, where what is wrong with one that is put was wrong before
  over_pairs : (t : Term) (pairs : List (Name × Term)) → pairs_of t ≡ Some pairs → (params : Name × Term → List Want) (Bad Put : Name × Term → Fault → Type 0) → Known (flat_map params (all_told (pairs_of t)))
      → ((pair : Name × Term) → Known (params pair) → ((f : Fault) → Bad pair f → ⊥) → (f : Fault) → Put (put_pair pair) f → ⊥) → ((f : Fault) → (pair : Name × Term) × (In (all_told (pairs_of t)) pair × Bad pair f) → ⊥)
      → (f : Fault) → (pair : Name × Term) × (In (all_told (pairs_of (image t))) pair × Put pair f) → ⊥
  over_pairs t pairs is params Bad Put known goes right f b =
      let one = in_map put_pair pairs b.0 (subst (λ o. In (all_told o) b.0) (pairs_put t pairs is) b.1.0) in
      let among : In (all_told (pairs_of t)) one.0 = subst (λ o. In (all_told o) one.0) (sym is) one.1.0 in
      goes one.0 (λ p u i. known p u (flat_map_in params (all_told (pairs_of t)) one.0 (p, u) among i)) (λ g x. right g (one.0, (among, x))) f (subst (λ z. Put z f) (sym one.1.1) b.1.1)

  mutual
    pub right : (s : Shape) (t : Term) → Known (params_in free s t) → RightBy (with_open free) s t → RightIn look s (image t)
    right (mapping k u) t known h = by_seen (mapping k u) t (params_inside free (mapping k u) t) known h (λ inner below f w.
        let pairs = told (pairs_of t) (formed (mapping k u) t (here_of (with_open free) (mapping k u) t inner)) in
        let same = keys_put t pairs.0 pairs.1 in
        elim w [
          | inl a ↦ inner f (inl (here_same (mapping k u) t (image t) (ap is_some (pairs_put t pairs.0 pairs.1)) (ap (asked_in (constants k)) same) same refl refl f a))
          | inr b ↦ over_pairs t pairs.0 pairs.1 (λ pair. params_in free u pair.1) (λ pair g. OfSeen (with_open free pair.1) (λ z. OffendsIn (with_open free) u z g)) (λ pair g. OfSeen (look pair.1) (λ z. OffendsIn look u z g)) below
              (λ pair these good g x. right u pair.1 these good g (subst (λ o. OfSeen o (λ z. OffendsIn look u z g)) (seen_image pair.1) x)) (λ g x. inner g (inr x)) f b
        ])
    right (fields fs) t known h = by_seen (fields fs) t (params_inside free (fields fs) t) known h (λ inner below f w.
        let pairs = told (pairs_of t) (formed (fields fs) t (here_of (with_open free) (fields fs) t inner)) in
        let same = keys_put t pairs.0 pairs.1 in
        elim w [
          | inl a ↦ inner f (inl (here_same (fields fs) t (image t) (ap is_some (pairs_put t pairs.0 pairs.1)) refl same same refl f a))
          | inr b ↦ over_pairs t pairs.0 pairs.1 (params_under free fs) (OffendsUnder (with_open free) fs) (OffendsUnder look fs) below (right_under fs) (λ g x. inner g (inr x)) f b
        ])
    right s t known h = by_seen s t [] known h (λ inner _. subst (RightIn look s) (sym (stays s t tt (formed s t (here_of (with_open free) s t inner)))) inner)

    right_under : (fs : Fields) (pair : Name × Term) → Known (params_under free fs pair) → ((f : Fault) → OffendsUnder (with_open free) fs pair f → ⊥) → (f : Fault) → OffendsUnder look fs (put_pair pair) f → ⊥
    right_under no_field pair known h f w = w
    right_under (field_then name u fs) pair known h f w = elim w [
      | inl a ↦ right u pair.1 (λ p v i. known p v (subst (λ (b : Bool). In (if b then params_in free u pair.1 else params_under free fs pair) (p, v)) (sym (is_same name pair.0.text a.0)) i)) (λ g x. h g (inl (a.0, x))) f
          (subst (λ o. OfSeen o (λ z. OffendsIn look u z f)) (seen_image pair.1) a.1)
      | inr b ↦ right_under fs pair
          (λ p v i. known p v (subst (λ (c : Bool). In (if c then params_in free u pair.1 else params_under free fs pair) (p, v)) (sym (false_from_ne_true (bytes_eq name pair.0.text) (λ e. b.0 (same_text name pair.0.text e)))) i))
          (λ g x. h g (inr (b.0, x))) f b.1
    ]

-- a term is bound where it stands, and so is each value of its keys
bound_pairs : (bs : Bindings) (t : Term) (pairs : List (Name × Term)) → pairs_of t ≡ Some pairs → pairs_of (bound bs t) ≡ Some (map (λ (pair : Name × Term). (pair.0, pair.1)) pairs)
bound_pairs bs t pairs h = ap pairs_of (itself bs (mapping truth truth) t (ap is_some h)) ∙ h ∙ ap (λ (ps : List (Name × Term)). Some ps) (sym (map-id pairs))

bound_right : (free : List (List ℕ)) (bs : Bindings) (P : List ℕ → Shape → Type 0) → ((p : List ℕ) (u : Shape) → P p u → (t : Term) → RightIn (with_bound bs) u (bound_or t (bound_to bs p)))
    → (s : Shape) (t : Term) → ((p : List ℕ) (u : Shape) → In (params_in free s t) (p, u) → P p u) → RightBy (with_open free) s t → RightIn (with_bound bs) s (bound bs t)
bound_right free bs P each = right free (with_bound bs) (λ t. t) (bound bs) (λ t. refl) (λ s t none form. itself bs s t form) (bound_pairs bs) P
    (λ s t name is means p. subst (RightIn (with_bound bs) s) (sym (means bs)) (each name.text s p t))

-- ---- no parameter is open

none_open : (t : Term) → (free_of [] t ≡ None) × (with_open [] t ≡ Some t)
unfolding free_of with_open
none_open t = by (out-TermKind t.kind)
  where
    by : (l : TermKind-F ElemKind TermKind) → (free_in [] l ≡ None) × (unless_open [] t l ≡ Some t)
    by (TermKind-F.Param name) = (refl, refl)
    by l = (refl, refl)

pub all_looked_at : (t : Term) → with_open [] t ≡ Some t
all_looked_at t = (none_open t).1

not_here : (s : Shape) (t : Term) (inside : List Want) (w : Want) → (In inside w → ⊥) → In (or_inside (free_of [] t) s inside) w → ⊥
not_here s t inside w none h = none (subst (λ (o : Option Name). In (or_inside o s inside) w) (none_open t).0 h)

mutual
  no_params : (s : Shape) (t : Term) (w : Want) → In (params_in [] s t) w → ⊥
  no_params (mapping k u) t w = not_here (mapping k u) t (params_inside [] (mapping k u) t) w
      (λ h. let r = in_flat_map (λ (pair : Name × Term). params_in [] u pair.1) (all_told (pairs_of t)) w h in no_params u r.0.1 w r.1.1)
  no_params (fields fs) t w = not_here (fields fs) t (params_inside [] (fields fs) t) w (λ h. let r = in_flat_map (params_under [] fs) (all_told (pairs_of t)) w h in none_under fs r.0 w r.1.1)
  no_params s t w = not_here s t [] w (λ k. k)

  none_under : (fs : Fields) (pair : Name × Term) (w : Want) → In (params_under [] fs pair) w → ⊥
  none_under no_field pair w h = h
  none_under (field_then name u fs) pair w h =
      elim (bytes_eq name pair.0.text) as (λ b. In (if b then params_in [] u pair.1 else params_under [] fs pair) w → ⊥) [ true ↦ no_params u pair.1 w | false ↦ none_under fs pair w ] h

-- a right term without parameters is of its form, and right under any bindings

form_of : (s : Shape) (b : Term) → IsOpenRight [] s b → has_form s b ≡ true
form_of s b h = formed s b (here_of (with_open []) s b (right_in (with_open []) s b (all_looked_at b) h))

pub closed_right : (bs : Bindings) (s : Shape) (b : Term) → IsOpenRight [] s b → RightIn (with_bound bs) s b
closed_right bs s b h f w =
    bound_right [] bs (λ p u. ⊥) (λ p u none. absurd none) s b (λ p u. no_params s b (p, u)) h f (subst (λ z. OffendsIn (with_bound bs) s z f) (sym (itself bs s b (form_of s b h))) w)

pub bound_law : (free : List (List ℕ)) (bs : Bindings) (s : Shape) (t : Term) → IsOpenRight free s t → AreBoundRight free bs s t → (f : Fault) → Offends bs s t f → ⊥
bound_law free bs s t h known =
    bound_right free bs (λ p u. (b : Term) × ((bound_to bs p ≡ Some b) × IsOpenRight [] u b))
    (λ p u k t. subst (λ o. RightIn (with_bound bs) u (bound_or t o)) (sym k.1.0) (closed_right bs u k.0 k.1.1)) s t known h
