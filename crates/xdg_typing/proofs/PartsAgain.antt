-- Which parts of a dimension are told to stand again.
use Rattle.std.proofs.Common.{◌≡◌, ◌⊎◌, inl, inr, true, List, [], ◌∷◌, ◌++◌, Option, None, Some, refl, sym, ap, ◌∙◌, subst, append_assoc}
use Rattle.std.specs.List.{flat_map}
use Rattle.std.proofs.lemmas.Bool.{false≢true}
use Rattle.xdg_base.specs.Faults.{fault_at}
use Rattle.xdg_base.specs.declared.faults.Cause.TheVariants as causes
use Rattle.xdg_base.specs.declared.faults.Fault.{Fault}
use Rattle.xdg_typing.specs.declared.singles.Stood.{Stood}
use Rattle.xdg_types.specs.Parts.{DimPart, Statement, Dimension, dimensions}
use Rattle.xdg_types.specs.Names.{Single, the_labels, the_attributes, the_features, single, IsPartTwice}
use Rattle.xdg_facts.proofs.Parts.{Lists}
use Rattle.xdg_typing.specs.Listed.{has_stood, with_part, none_stood, part_again, parts_again}
use Rattle.xdg_facts.specs.Membership.{In}
use Rattle.xdg_facts.proofs.In.{in_append, in_left, in_right, in_when, when_in, in_flat_map, flat_map_in}

-- one of these parts is of this kind
abbrev Earlier : List DimPart → Single → Type 0
Earlier front what = (part : DimPart) × (In front part × (single part.kind ≡ Some what))

marked : (stood : Stood) (what : Single) → has_stood (with_part stood (Some what)) (Some what) ≡ true
marked stood the_labels = refl
marked stood the_attributes = refl
marked stood the_features = refl

stays : (stood : Stood) (s : Option Single) (what : Single) → has_stood stood (Some what) ≡ true → has_stood (with_part stood s) (Some what) ≡ true
stays stood (Some the_labels) the_labels h = refl
stays stood (Some the_attributes) the_attributes h = refl
stays stood (Some the_features) the_features h = refl
stays stood s what h = h

stood_splits : (stood : Stood) (s : Option Single) (what : Single) → has_stood (with_part stood s) (Some what) ≡ true → (has_stood stood (Some what) ≡ true) ⊎ (s ≡ Some what)
stood_splits stood (Some the_labels) the_labels h = inr refl
stood_splits stood (Some the_attributes) the_attributes h = inr refl
stood_splits stood (Some the_features) the_features h = inr refl
stood_splits stood s what h = inl h

none_yet : (what : Single) → has_stood none_stood (Some what) ≡ true → ⊥
none_yet the_labels h = false≢true h
none_yet the_attributes h = false≢true h
none_yet the_features h = false≢true h

-- what has stood is of some kind
stood_as : (stood : Stood) (s : Option Single) → has_stood stood s ≡ true → (what : Single) × ((s ≡ Some what) × (has_stood stood (Some what) ≡ true))
stood_as stood None h = absurd (false≢true h)
stood_as stood (Some what) h = (what, (refl, h))

-- in a dimension of these parts, of which those before these have stood
parts_sound : (statements : List Statement) (dim : Dimension) → In (dimensions statements) dim → (front rest : List DimPart) → dim.1 ≡ front ++ rest
    → (stood : Stood) → ((what : Single) → has_stood stood (Some what) ≡ true → Earlier front what) → (f : Fault) → In (parts_again stood rest) f → IsPartTwice statements f
parts_sound statements dim defined front [] parts stood known f h = absurd h
parts_sound statements dim defined front (p ∷ rest) parts stood known f h = elim (in_append (part_again stood p) (parts_again (with_part stood (single p.kind)) rest) f h) [
  | inl here ↦ (let k = in_when (has_stood stood (single p.kind)) (fault_at causes.Twice p.span.start) f here in
      let s = stood_as stood (single p.kind) k.0 in
      let e = known s.0 s.1.1 in
      record { dim = dim; defined = defined; before = front; part = p; after = rest; parts = parts; earlier = e.0; stands = e.1.0; what = s.0; is = s.1.0; was = e.1.1; fault = sym k.1 })
  | inr later ↦ parts_sound statements dim defined (front ++ p ∷ []) rest (parts ∙ sym (append_assoc front (p ∷ []) rest)) (with_part stood (single p.kind))
      (λ what a. elim (stood_splits stood (single p.kind) what a) [
        | inl s ↦ (let e = known what s in (e.0, (in_left front (p ∷ []) e.0 e.1.0, e.1.1)))
        | inr e ↦ (p, (in_right front (p ∷ []) p (inl refl), e))
      ])
      f later
]

parts_complete : (before : List DimPart) (p : DimPart) (after : List DimPart) (stood : Stood) (what : Single) (f : Fault) → single p.kind ≡ Some what → (has_stood stood (Some what) ≡ true) ⊎ Earlier before what
    → fault_at causes.Twice p.span.start ≡ f → In (parts_again stood (before ++ p ∷ after)) f
parts_complete [] p after stood what f is h e =
    let stands : has_stood stood (Some what) ≡ true = elim h [ inl s ↦ s | inr k ↦ absurd k.1.0 ] in
    in_left (part_again stood p) (parts_again (with_part stood (single p.kind)) after) f
    (when_in (has_stood stood (single p.kind)) (fault_at causes.Twice p.span.start) f (ap (has_stood stood) is ∙ stands) e)
parts_complete (x ∷ before) p after stood what f is h e =
    in_right (part_again stood x) (parts_again (with_part stood (single x.kind)) (before ++ p ∷ after)) f
    (parts_complete before p after (with_part stood (single x.kind)) what f is
    (elim h [
      | inl s ↦ inl (stays stood (single x.kind) what s)
      | inr k ↦ elim k.1.0 [
        | inl q ↦ inl (ap (λ s. has_stood (with_part stood s) (Some what)) (ap (λ y. single y.kind) q ∙ k.1.1) ∙ marked stood what)
        | inr l ↦ inr (k.0, (l, k.1.1))
      ]
    ])
    e)

-- in all dimensions
pub all_parts : (statements : List Statement) → Lists (flat_map (λ dim. parts_again none_stood dim.1) (dimensions statements)) (IsPartTwice statements)
all_parts statements = record {
  sound = λ f h. (let k = in_flat_map (λ (dim : Dimension). parts_again none_stood dim.1) (dimensions statements) f h in
      parts_sound statements k.0 k.1.0 [] k.0.1 refl none_stood (λ what a. absurd (none_yet what a)) f k.1.1);
  complete = λ f t. flat_map_in (λ (dim : Dimension). parts_again none_stood dim.1) (dimensions statements) t.dim f t.defined
      (subst (λ ps. In (parts_again none_stood ps) f) (sym t.parts)
      (parts_complete t.before t.part t.after none_stood t.what f t.is (inr (t.earlier, (t.stands, t.was))) (sym t.fault)));
}
