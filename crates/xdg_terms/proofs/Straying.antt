-- The parameters in braces are those of the elements.
use Rattle.std.proofs.Common.{◌≡◌, ℕ, ◌+◌, ◌<◌, ◌≤◌, List, length, drop, get_or, Option, sym, ap, ◌∙◌, subst}
use Rattle.std.specs.List.{flat_map}
use Rattle.std.proofs.lemmas.List.{at_drop_all}
use Rattle.std.proofs.lemmas.Grind.{flat_map-append}
use Rattle.std.proofs.lemmas.List.Folds.{flat_map-map}
use Rattle.xdg_base.specs.Faults.{fault_at}
use Rattle.xdg_base.specs.declared.faults.Cause.TheVariants as causes
use Rattle.xdg_base.specs.declared.faults.Fault.{Fault}
use Rattle.xdg_ast.specs.declared.names.Name.{Name}
use Rattle.xdg_ast.specs.declared.names.Spanned.{Spanned}
use Rattle.xdg_ast.specs.declared.terms.TermKind.{TermKind}
use Rattle.xdg_ast.specs.declared.terms.TermKind.TheVariants as k
use Rattle.xdg_ast.specs.declared.terms.ElemKind.{ElemKind}
use Rattle.xdg_ast.specs.declared.terms.ElemKind.TheVariants as e
use Rattle.xdg_ast.specs.declared.terms.ElemKind.TheOpen.{TermKind-F, ElemKind-F}
use Rattle.xdg_ast.specs.declared.terms.ElemKind.TheFolds.{fold-roll-ElemKind, fold-roll-TermKind}
use Rattle.xdg_names.specs.First.{Tells, first, earlier}
use Rattle.xdg_names.proofs.Listing.{lists_unknown, lists_tell}
use Rattle.xdg_names.proofs.First.{first_turn, earlier-none}
use Rattle.xdg_terms.specs.Forms.{Term}
use Rattle.xdg_terms.specs.Stray.{term_step, elem_step, tokens, elem_tokens, IsStrayParam, stray, all_stray}
use Rattle.xdg_facts.specs.Membership.{In}
use Rattle.xdg_facts.proofs.Parts.{Lists, lists_as, lists_each}

-- ---- the law

stray_is : (free : List (List ℕ)) (name : Name) → Lists (stray free name) (λ f. (In free name.text → ⊥) × (fault_at causes.WrongKind name.span.start ≡ f))
unfolding stray
stray_is free name = lists_unknown free name.text (fault_at causes.WrongKind name.span.start)

all_stray_are : (free : List (List ℕ)) (t : Term) → Lists (all_stray free t.kind) (IsStrayParam free t)
all_stray_are free t = lists_as
    (lists_each (stray free) (λ name f. (In free name.text → ⊥) × (fault_at causes.WrongKind name.span.start ≡ f)) (tokens t.kind) (λ name _. stray_is free name))
    (λ f. (λ k. record { name = k.0; used = k.1.0; missing = k.1.1.0; fault = sym k.1.1.1 }, λ r. (r.name, (r.used, (r.missing, sym r.fault)))))

pub stray_law : (free : List (List ℕ)) (t : Term) (found : Option Fault) → found ≡ first (all_stray free t.kind) → Tells (IsStrayParam free t) found
stray_law free t found is = subst (Tells (IsStrayParam free t)) (sym is) (lists_tell (all_stray free t.kind) (all_stray_are free t))

-- ---- braces

abbrev pub in_elem : Spanned ElemKind → List Name
in_elem elem = elem_tokens elem.kind

pub braces_tokens : (elems : List (Spanned ElemKind)) → tokens (k.Braces elems) ≡ flat_map in_elem elems
braces_tokens elems = ap tokens (sym (k.rolls-Braces elems)) ∙ fold-roll-TermKind (List Name) (List Name) elem_step term_step (TermKind-F.Braces elems) ∙ flat_map-map _ _ elems

pub keyed_tokens : (name : Name) (t : Term) → elem_tokens (e.Keyed name t) ≡ tokens t.kind
keyed_tokens name t = ap elem_tokens (sym (e.rolls-Keyed name t)) ∙ fold-roll-ElemKind (List Name) (List Name) elem_step term_step (ElemKind-F.Keyed name t)

-- a term in braces, by its elements
pub in_braces : (free : List (List ℕ)) (kind : TermKind) (elems items : List (Spanned ElemKind)) → kind ≡ k.Braces elems → items ≡ elems → flat_map (stray free) (flat_map in_elem items) ≡ all_stray free kind
in_braces free kind elems items is same = ap (λ es. flat_map (stray free) (flat_map in_elem es)) same ∙ sym (ap (all_stray free) is ∙ ap (flat_map (stray free)) (braces_tokens elems))

pub in_keyed : (free : List (List ℕ)) (name : Name) (t : Term) → all_stray free t.kind ≡ flat_map (stray free) (elem_tokens (e.Keyed name t))
in_keyed free name t = ap (flat_map (stray free)) (sym (keyed_tokens name t))

pub elem_turn : (free : List (List ℕ)) (elems : List (Spanned ElemKind)) (i : ℕ) (x : Spanned ElemKind) (found next now total : Option Fault)
    → i < length elems → x ≡ get_or elems i x → next ≡ first (flat_map (stray free) (elem_tokens x.kind)) → now ≡ earlier found next
    → earlier found (first (flat_map (stray free) (flat_map in_elem (drop i elems)))) ≡ total → earlier now (first (flat_map (stray free) (flat_map in_elem (drop (i + 1) elems)))) ≡ total
elem_turn free elems i x found next now total =
    first_turn (λ es. flat_map (stray free) (flat_map in_elem es)) (flat_map (stray free) (elem_tokens x.kind)) x (λ es. flat_map-append (stray free) (elem_tokens x.kind) (flat_map in_elem es)) elems i found next now total

-- the loop has come to the end
pub braces_done : (free : List (List ℕ)) (kind : TermKind) (elems items : List (Spanned ElemKind)) (i : ℕ) (found : Option Fault) → kind ≡ k.Braces elems → items ≡ elems → length items ≤ i
    → earlier found (first (flat_map (stray free) (flat_map in_elem (drop i items)))) ≡ first (flat_map (stray free) (flat_map in_elem items)) → found ≡ first (all_stray free kind)
braces_done free kind elems items i found is same end so_far =
    sym (earlier-none found) ∙ sym (at_drop_all (λ es. earlier found (first (flat_map (stray free) (flat_map in_elem es)))) items i end) ∙ so_far ∙ ap first (in_braces free kind elems items is same)
