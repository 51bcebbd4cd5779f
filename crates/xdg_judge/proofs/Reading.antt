-- What the parts of a problem and an analysis give to read.
use Rattle.std.proofs.Common.{◌≡◌, ℕ, ◌+◌, ◌*◌, ◌<◌, ◌≤◌, List, [], ◌∷◌, ◌++◌, length, take, drop, get_or, refl, ap, sym, ◌∙◌, arith, zero, suc, map, cond, length-append}
use Rattle.std.specs.List.{flat_map}
use Rattle.std.proofs.lemmas.Bool.{ne_eqb, eq-eqb}
use Rattle.std.proofs.lemmas.List.{take_more, take_all, drop_more, drop_all}
use Rattle.xdg_base.specs.declared.ids.EntryNo.{EntryNo}
use Rattle.xdg_problem.specs.declared.parts.AttrPlan.{AttrPlan}
use Rattle.xdg_problem.specs.declared.parts.DimPlan.{DimPlan}
use Rattle.xdg_problem.specs.declared.parts.Parts.{Parts}
use Rattle.xdg_problem.specs.Arguments.{attr_count, attr_place}
use Rattle.xdg_problem.specs.Places.{below, nodes}
use Rattle.xdg_problem.specs.Vectors.{place_among, entry_places, attr_sizes}
use Rattle.xdg_problem.proofs.Counted.{length_attrs_of}

pub place_here : (cs : List EntryNo) (k : ℕ) (d e : EntryNo) → k < length cs → (get_or cs k d).0 ≡ e.0 → place_among (drop k cs) e + k ≡ k
place_here cs k d e l s =
    let h : place_among (drop k cs) e ≡ 0 = ap (λ z. place_among z e) (drop_more cs k d l) ∙ ap (λ b. cond b 0 (suc (place_among (drop (k + 1) cs) e))) (eq-eqb _ _ s) in
    omega (arith, h)

pub place_step : (cs : List EntryNo) (k : ℕ) (d e : EntryNo) → k < length cs → ((get_or cs k d).0 ≡ e.0 → ⊥) → place_among (drop (k + 1) cs) e + (k + 1) ≡ place_among (drop k cs) e + k
place_step cs k d e l n =
    let h : place_among (drop k cs) e ≡ suc (place_among (drop (k + 1) cs) e) = ap (λ z. place_among z e) (drop_more cs k d l) ∙ ap (λ b. cond b 0 (suc (place_among (drop (k + 1) cs) e))) (ne_eqb _ _ n) in
    omega (arith, h)

pub place_end : (cs : List EntryNo) (k : ℕ) (e : EntryNo) → length cs ≤ k → place_among (drop k cs) e ≡ 0
place_end cs k e l = ap (λ z. place_among z e) (drop_all k cs l)

pub entry_place : (cs : List (List EntryNo)) (es : List EntryNo) (k : ℕ) (d : List EntryNo) (x : EntryNo) → k < length cs → k < length es → get_or (entry_places cs es) k 0 ≡ place_among (get_or cs k d) (get_or es k x)
entry_place [] es k d x l m = absurd (omega (arith, l))
entry_place (c ∷ cs) [] k d x l m = absurd (omega (arith, m))
entry_place (c ∷ cs) (e ∷ es) zero d x l m = refl
entry_place (c ∷ cs) (e ∷ es) (suc k) d x l m = entry_place cs es k d x (omega (arith, l)) (omega (arith, m))

pub candidate_read : (cs : List (List EntryNo)) (es : List EntryNo) (k r : ℕ) (c : List EntryNo) (e : EntryNo) → k < length cs → k < length es → c ≡ get_or cs k c → e ≡ get_or es k e → r ≡ place_among c e → r ≡ get_or (entry_places cs es) k 0
candidate_read cs es k r c e l m s t h = h ∙ (ap (λ z. place_among z e) s ∙ (ap (λ z. place_among (get_or cs k c) z) t ∙ sym (entry_place cs es k c e l m)))

sizes_behind : (n : ℕ) (xs : List DimPlan) (p : DimPlan) → length (attr_sizes n (xs ++ p ∷ [])) ≡ length (attr_sizes n xs) + n * length p.attrs
sizes_behind n [] p =
    let a = length-append (flat_map (λ (node : ℕ). map (λ (attr : AttrPlan). length attr.values) p.attrs) (below n)) [] in
    let b = length_attrs_of n p in
    omega (arith, a, b)
sizes_behind n (x ∷ xs) p =
    let a = length-append (flat_map (λ (node : ℕ). map (λ (attr : AttrPlan). length attr.values) x.attrs) (below n)) (attr_sizes n (xs ++ p ∷ [])) in
    let b = length-append (flat_map (λ (node : ℕ). map (λ (attr : AttrPlan). length attr.values) x.attrs) (below n)) (attr_sizes n xs) in
    let c = sizes_behind n xs p in
    omega (arith, a, b, c)

pub sizes_more : (n k t w : ℕ) (dims : List DimPlan) (p : DimPlan) → k < length dims → p ≡ get_or dims k p → w ≡ n * length p.attrs → t ≡ length (attr_sizes n (take k dims)) → t + w ≡ length (attr_sizes n (take (k + 1) dims))
sizes_more n k t w dims p l at e h =
    let a : length (attr_sizes n (take (k + 1) dims)) ≡ length (attr_sizes n (take k dims)) + n * length (get_or dims k p).attrs = ap (λ z. length (attr_sizes n z)) (take_more dims k p l) ∙ sizes_behind n (take k dims) (get_or dims k p) in
    let b : n * length p.attrs ≡ n * length (get_or dims k p).attrs = ap (λ (z : DimPlan). n * length z.attrs) at in
    omega (arith, a, b, e, h)

pub sizes_end : (n k dim t : ℕ) (dims : List DimPlan) → length dims ≤ k → k ≤ dim → t ≡ length (attr_sizes n (take k dims)) → t ≡ length (attr_sizes n (take dim dims))
sizes_end n k dim t dims l m h = h ∙ ap (λ z. length (attr_sizes n z)) (take_all k dims l ∙ sym (take_all dim dims (omega (arith, l, m))))

pub place_is : (parts : Parts) (dim node attr before n d count v a : ℕ) (dims : List DimPlan) → dims ≡ parts.dims → n ≡ nodes parts → d ≡ dim → before ≡ length (attr_sizes n (take d dims)) → v ≡ node → count ≡ attr_count parts dim → a ≡ attr → before + (v * count + a) ≡ attr_place parts dim node attr
place_is parts dim node attr before n d count v a dims e f g h i j k =
    let first : before ≡ length (attr_sizes (nodes parts) (take dim parts.dims)) = h ∙ (ap (λ z. length (attr_sizes z (take d dims))) f ∙ (ap (λ z. length (attr_sizes (nodes parts) (take z dims))) g ∙ ap (λ z. length (attr_sizes (nodes parts) (take dim z))) e)) in
    let second : v * count ≡ node * attr_count parts dim = ap (λ z. z * count) i ∙ ap (λ z. node * z) j in
    omega (arith, first, second, k)
