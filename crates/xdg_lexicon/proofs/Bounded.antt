-- A body denotes at most as many partial entries as it has combinations, and the classes that an entry uses have places.
use Rattle.std.proofs.Common.{◌≡◌, suc, ◌≤◌, ◌+◌, ◌*◌, List, ◌++◌, length, get_or, ap, sym, ◌∙◌, arith, subst}
use Rattle.std.specs.Prelude.{Some}
use Rattle.std.proofs.Math.Nat.{suc-mul}
use Rattle.std.proofs.lemmas.Nat.{mul-le}
use Rattle.std.proofs.lemmas.List.{length-append}
use Rattle.xdg_names.specs.Texts.{place_of}
use Rattle.xdg_terms.specs.Forms.{Bindings}
use Rattle.xdg_types.specs.declared.table.DimType.{DimType}
use Rattle.xdg_classes.specs.Bodies.{Expr, Body, Bodies, body, calls}
use Rattle.xdg_check.specs.declared.checked.EntryDef.{EntryDef}
use Rattle.xdg_classes.specs.Wants.{NamedBody}
use Rattle.xdg_check.specs.Checked.{Parts, IsChecked, named_body, named_bodies}
use Rattle.xdg_check.specs.Counts.{Counting, Agrees, combos, sum_of_combos, product_of_combos, class_texts}
use Rattle.xdg_lexicon.specs.Denotes.{JoinsEach, no_other, clashes, joins, JoinsAll, no_first, first_then, Denotes, record_said, class_used, conjunction, disjunction, DenotesBoth, all_joined, join_first, DenotesEither, all_listed, list_first, IsRanked}
use Rattle.xdg_lexicon.specs.Partial.{Partial}
use Rattle.xdg_check.proofs.Naming.{placed}
use Rattle.xdg_facts.specs.Membership.{In}
use Rattle.xdg_facts.proofs.In.{in_map, in_index}

-- ---- counts

each_few : (dims : List DimType) (m : Partial) (ns js : List Partial) → JoinsEach dims m ns js → length js ≤ length ns
each_few dims m _ _ no_other = omega arith
each_few dims m _ _ (clashes n ns js c d) = (let h = each_few dims m ns js d in omega (arith, h))
each_few dims m _ _ (joins n j ns js c d) = (let h = each_few dims m ns js d in omega (arith, h))

all_few : (dims : List DimType) (ms ns js : List Partial) → JoinsAll dims ms ns js → length js ≤ length ms * length ns
all_few dims _ _ _ (no_first ns) = omega arith
all_few dims _ _ _ (first_then m ms ns js ks e rest) =
    let one = each_few dims m ns js e in
    let more = all_few dims ms ns ks rest in
    let both : length (js ++ ks) ≡ length js + length ks = length-append js ks in
    let product : suc (length ms) * length ns ≡ length ms * length ns + length ns = suc-mul (length ms) (length ns) in
    omega (arith, one, more, both, product)

-- ---- classes

module _ (checked : Parts) (names : Counting) (agrees : Agrees combos checked.classes names) where
  mutual
    pub few : (bs : Bindings) (b : Body) (ms : List Partial) → Denotes checked.types.dims (named_bodies checked.classes) bs b ms → length ms ≤ combos names b
    few bs _ _ (record_said _ dim pairs p says) = omega arith
    few bs _ ms (class_used _ name args c _ stands is d) =
        let h = few _ c.body ms d in
        let found = in_map named_body checked.classes c stands in
        let same : names name.text ≡ combos names c.body =
        ap names (sym is ∙ ap (λ (n : NamedBody). n.name) (sym found.1.1)) ∙ agrees.defined found.0 found.1.0 ∙ ap (λ (n : NamedBody). combos names n.body) found.1.1 in
        omega (arith, h, same)
    few bs _ ms (conjunction _ bodies _ d) = few_both bs bodies ms d
    few bs _ ms (disjunction _ bodies _ d) = few_either bs bodies ms d

    few_both : (bs : Bindings) (bodies : Bodies) (ms : List Partial) → DenotesBoth checked.types.dims (named_bodies checked.classes) bs bodies ms → length ms ≤ product_of_combos names bodies
    few_both bs _ _ (all_joined _) = omega arith
    few_both bs _ js (join_first _ b rest ms ns _ d more all) =
        let one = few bs b ms d in
        let others = few_both bs rest ns more in
        let made = all_few checked.types.dims ms ns js all in
        let bound = mul-le (length ms) (length ns) (combos names b) (product_of_combos names rest) one others in
        omega (arith, made, bound)

    few_either : (bs : Bindings) (bodies : Bodies) (ms : List Partial) → DenotesEither checked.types.dims (named_bodies checked.classes) bs bodies ms → length ms ≤ sum_of_combos names bodies
    few_either bs _ _ (all_listed _) = omega arith
    few_either bs _ _ (list_first _ b rest ms ns d more) =
        let one = few bs b ms d in
        let others = few_either bs rest ns more in
        let both : length (ms ++ ns) ≡ length ms + length ns = length-append ms ns in
        omega (arith, one, others, both)

-- ---- places

pub entry_ranked : (checked : Parts) (e : EntryDef) (expr : Expr) → IsChecked checked → In checked.entries e → e.body ≡ expr → IsRanked checked (length checked.order) (body expr.kind)
entry_ranked checked e expr keeps stands is call used =
    let bound = ((keeps.entries e stands).called call (subst (λ (x : Expr). In (calls (body x.kind)) call) (sym is) used)).bound in
    let place = placed checked.classes keeps.names bound.class bound.stands in
    let found = in_index checked.order place.0 0 (keeps.ordered.placed place.0 place.1.within) in
    (found.0, (found.1.0, ap (place_of (class_texts checked.classes)) (sym bound.name) ∙ place.1.place ∙ ap Some (sym {a = get_or checked.order found.0 0} found.1.1)))
