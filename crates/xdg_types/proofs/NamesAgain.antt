-- Which names of a list are told to stand again.
use Rattle.std.proofs.Common.{◌≡◌, ◌⊎◌, inl, inr, List, [], ◌∷◌, ◌++◌, refl, sym, ap, subst}
use Rattle.std.specs.List.{flat_map}
use Rattle.std.proofs.lemmas.List.{append-nil}
use Rattle.xdg_base.specs.Faults.{fault_at}
use Rattle.xdg_base.specs.declared.faults.Cause.TheVariants as causes
use Rattle.xdg_base.specs.declared.faults.Fault.{Fault}
use Rattle.xdg_ast.specs.declared.names.Name.{Name}
use Rattle.xdg_names.specs.First.{Tells, first}
use Rattle.xdg_types.specs.Answers.{None_of}
use Rattle.xdg_ast.specs.Misnamed.{IsAgain, IsTwice}
use Rattle.xdg_types.specs.NameFaults.{repeated, repeats, different}
use Rattle.xdg_names.proofs.Listing.{lists_known, lists_tell}
use Rattle.xdg_types.proofs.Again.{with_all-append}
use Rattle.xdg_types.proofs.Distinct.{same_known}
use Rattle.xdg_types.proofs.Elements.{differ_unless}
use Rattle.xdg_facts.specs.Membership.{In, Differ}
use Rattle.xdg_facts.proofs.In.{in_append, in_left, in_right, in_flat_map, flat_map_in}
use Rattle.xdg_ast.specs.Texts.{texts}
use Rattle.xdg_facts.proofs.Parts.{Lists, lists_as, lists_behind}

again_here : (before : List Name) (name : Name) → Lists (repeated (different before) name) (λ f. In (texts before) name.text × (fault_at causes.Twice name.span.start ≡ f))
again_here before name = rw (same_known before name.text) (lists_known (texts before) name.text (fault_at causes.Twice name.span.start))

pub all_again : (names : List Name) → Lists (repeats [] names) (IsAgain names)
all_again names = lists_as
    (lists_behind (λ before name. repeated (different before) name) (λ before name f. In (texts before) name.text × (fault_at causes.Twice name.span.start ≡ f)) again_here
    (λ before rest. repeats (different before) rest) (λ before. refl) (λ before name rest. ap (λ seen. repeated (different before) name ++ repeats seen rest) (sym (with_all-append [] before (name ∷ [])))) names)
    (λ f. (
      λ k. record { before = k.0; name = k.1.0; after = k.1.1.0; parts = k.1.1.1.0; earlier = k.1.1.1.1.0; fault = sym k.1.1.1.1.1 },
      λ a. (a.before, (a.name, (a.after, (a.parts, (a.earlier, sym a.fault))))),
    ))

-- the first of the list is the first offence
pub again_tells : (names : List Name) → Tells (IsAgain names) (first (repeats [] names))
again_tells names = lists_tell (repeats [] names) (all_again names)

pub all_twice : (lists : List (List Name)) → Lists (flat_map (repeats []) lists) (IsTwice lists)
all_twice lists = record {
  sound = λ f h. (let k = in_flat_map (repeats []) lists f h in record { names = k.0; among = k.1.0; again = (all_again k.0).sound f k.1.1 });
  complete = λ f t. flat_map_in (repeats []) lists t.names f t.among ((all_again t.names).complete f t.again);
}

pub all_of_one : (names : List Name) → Lists (repeats [] names) (IsTwice (names ∷ []))
all_of_one names = subst (λ fs. Lists fs (IsTwice (names ∷ []))) (append-nil (repeats [] names)) (all_twice (names ∷ []))

-- more lists before these
pub more_lists : {xs ys : List Fault} {lists more : List (List Name)} {P : Fault → Type 0} → Lists xs (IsTwice lists) → Lists ys (λ f. IsTwice more f ⊎ P f) → Lists (xs ++ ys) (λ f. IsTwice (lists ++ more) f ⊎ P f)
more_lists {xs = xs} {ys = ys} {lists = lists} {more = more} a b = record {
  sound = λ f h. elim (in_append xs ys f h) [
    | inl l ↦ (let t = a.sound f l in inl (record { names = t.names; among = in_left lists more t.names t.among; again = t.again }))
    | inr r ↦ elim (b.sound f r) [
      | inl t ↦ inl (record { names = t.names; among = in_right lists more t.names t.among; again = t.again })
      | inr p ↦ inr p
    ]
  ];
  complete = λ f h. elim h [
    | inl t ↦ elim (in_append lists more t.names t.among) [
      | inl l ↦ in_left xs ys f (a.complete f (record { names = t.names; among = l; again = t.again }))
      | inr r ↦ in_right xs ys f (b.complete f (inl (record { names = t.names; among = r; again = t.again })))
    ]
    | inr p ↦ in_right xs ys f (b.complete f (inr p))
  ];
}

-- ---- where no name stands again

pub again_differ : (names : List Name) → None_of (IsAgain names) → Differ (texts names)
again_differ names none = differ_unless names (λ before name after parts earlier.
    none (fault_at causes.Twice name.span.start) (record { before = before; name = name; after = after; parts = parts; earlier = earlier; fault = refl }))

pub once_differ : (lists : List (List Name)) → None_of (IsTwice lists) → (names : List Name) → In lists names → Differ (texts names)
once_differ lists none names among = again_differ names (λ f a. none f (record { names = names; among = among; again = a }))
