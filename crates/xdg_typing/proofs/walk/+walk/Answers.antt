use Rattle.std.proofs.Common.{List, ◌∷◌, refl}
use Rattle.xdg_types.specs.Written.{tree}
use Rattle.xdg_types.specs.Parts.{TypeTerm}
use Rattle.xdg_types.specs.Kinds.{Wanted, Site, a_domain, a_mapped, inside, inside_trees, inside_members}
use Rattle.xdg_typing.specs.KindFaults.{asked, trees, members, site_faults, faults_in}
use Rattle.xdg_typing.proofs.Layers.{tree_rec, tree_tuple, tree_map}
use Rattle.xdg_typing.proofs.Walked.{with_found, both_found, of_form, ok_of_form, walk_turn}
use Rattle.xdg_typing.proofs.walk.+walk.Goals as goal

abbrev site : Wanted → TypeTerm → Site
site wanted type = record { wanted = wanted; at = type.span.start; written = tree type.kind }

abbrev with_inside : Wanted → TypeTerm → List Site
with_inside wanted type = site wanted type ∷ inside (tree type.kind)

pub check_inside-returns-in-Rec : goal.check_inside-returns-in-Rec
check_inside-returns-in-Rec t c = λ names known. ok_of_form _ (λ u. faults_in names (inside u)) _ _ (tree_rec _ _ _ c.in-Rec.is c.as_slice.ensures) (c.check_members.ensures names known)

pub check_inside-returns-in-Tuple : goal.check_inside-returns-in-Tuple
check_inside-returns-in-Tuple t c = λ names known. ok_of_form _ (λ u. faults_in names (inside u)) _ _ (tree_tuple _ _ _ c.in-Tuple.is c.as_slice-in-Tuple.ensures) (c.check_types.ensures names known)

pub check_inside-returns-in_ok-second-in-Map : goal.check_inside-returns-in_ok-second-in-Map
check_inside-returns-in_ok-second-in-Map t c = λ names known.
    of_form (λ u. faults_in names (inside u)) _ _ _ (tree_map _ _ _ _ _ c.in-Map.is c.get-in-Map.ensures c.get-in-Map-2.ensures)
    (both_found (site_faults names) (with_inside a_domain c.get-in-Map.result.now) (with_inside a_mapped c.get-in-Map-2.result.now) _ _ _
    (c.in_ok-first-in-Map.ensures names known) (c.in_ok-second-in-Map.ensures names known) c.earlier.ensures)

pub check_type-returns : goal.check_type-returns
check_type-returns t c = λ names known. with_found names (site (asked c.args.wanted) c.args.ty.now) (inside (tree c.args.ty.now.kind)) _ _ _ (c.in_ok-here.ensures names known) (c.in_ok-inside.ensures names known) c.earlier.ensures

pub check_types-loop-ty-preserved : goal.check_types-loop-ty-preserved
check_types-loop-ty-preserved t c = λ names known.
    let type = c.ty-item.result in
    walk_turn _ _ _ _ _ _ _ (site_faults names) (λ ts. inside_trees (trees ts)) (with_inside a_domain type) (λ xs. refl)
    c.loop-ty-test.true c.ty-item.is (with_found names (site a_domain type) (inside (tree type.kind)) _ _ _ (c.in_ok-here.ensures names known) (c.in_ok-inside.ensures names known) c.earlier.ensures)
    c.earlier-found.ensures (c.loop-ty.invariant names known)

pub check_members-loop-field-preserved : goal.check_members-loop-field-preserved
check_members-loop-field-preserved t c = λ names known.
    let type = c.field-item.result.value in
    let wanted = asked c.args.wanted in
    walk_turn _ _ _ _ _ _ _ (site_faults names) (λ fs. inside_members wanted (members fs)) (with_inside wanted type) (λ xs. refl)
    c.loop-field-test.true c.field-item.is (with_found names (site wanted type) (inside (tree type.kind)) _ _ _ (c.in_ok-here.ensures names known) (c.in_ok-inside.ensures names known) c.earlier.ensures)
    c.earlier-found.ensures (c.loop-field.invariant names known)
