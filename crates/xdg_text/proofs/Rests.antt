-- How the lines of a block follow each other, list by list.
use Rattle.std.proofs.Common.{◌≡◌, ◌<◌, ◌≤◌, ◌+◌, ◌*◌, ◌-◌, ◌++◌, ℕ, zero, suc, List, [], ◌∷◌, length, drop, map, get_or, sym, ap, ap₂, ◌∙◌, subst, add-one, arith}
use Rattle.std.proofs.Math.Seq.{drop-cons}
use Rattle.std.proofs.lemmas.List.{length-drop}
use Rattle.xdg_base.specs.declared.ids.EntryNo.{EntryNo}
use Rattle.xdg_problem.specs.declared.parts.AttrPlan.{AttrPlan}
use Rattle.xdg_problem.specs.declared.parts.DimPlan.{DimPlan}
use Rattle.xdg_problem.specs.declared.parts.SentenceWord.{SentenceWord}
use Rattle.xdg_text.specs.Blocks.{word_lines, node_lines, dim_lines, attr_lines, value_at}
use Rattle.xdg_text.specs.Lines.{word_line, attr_line}
use Rattle.xdg_text.specs.Ranges.{HasValues, NodesHaveValues, DimsHaveValues}
use Rattle.xdg_facts.proofs.Lists.{from_place}

-- the lines of the nodes from a place on begin with the line of the node there
pub words_from : (words : List SentenceWord) (entries : List EntryNo) (i : ℕ) (word : SentenceWord) (entry : EntryNo) → i < length words → i < length entries → word ≡ get_or words i word → entry ≡ get_or entries i entry → word_lines i (drop i words) (drop i entries) ≡ word_line i word.text entry.0 ++ word_lines (i + 1) (drop (i + 1) words) (drop (i + 1) entries)
words_from words entries i word entry in_words in_entries is_word is_entry =
    subst (λ k. word_lines i (drop i words) (drop i entries) ≡ word_line i word.text entry.0 ++ word_lines k (drop k words) (drop k entries)) (sym (add-one i))
    (ap₂ (word_lines i) (drop-cons words i word in_words ∙ ap (λ z. z ∷ drop (suc i) words) (sym is_word)) (drop-cons entries i entry in_entries ∙ ap (λ z. z ∷ drop (suc i) entries) (sym is_entry)))

-- the lines of a node's attributes from a place on begin with the line of the attribute there
pub attrs_from : (dim : List ℕ) (node : ℕ) (attrs : List AttrPlan) (values : List ℕ) (i : ℕ) (attr : AttrPlan) (value : ℕ) → i < length attrs → i < length values → attr ≡ get_or attrs i attr → value ≡ get_or values i value → node_lines dim node (drop i attrs) (drop i values) ≡ attr_line dim node attr.name (value_at attr value) ++ node_lines dim node (drop (i + 1) attrs) (drop (i + 1) values)
attrs_from dim node attrs values i attr value in_attrs in_values is_attr is_value =
    subst (λ k. node_lines dim node (drop i attrs) (drop i values) ≡ attr_line dim node attr.name (value_at attr value) ++ node_lines dim node (drop k attrs) (drop k values)) (sym (add-one i))
    (ap₂ (node_lines dim node) (drop-cons attrs i attr in_attrs ∙ ap (λ z. z ∷ drop (suc i) attrs) (sym is_attr)) (drop-cons values i value in_values ∙ ap (λ z. z ∷ drop (suc i) values) (sym is_value)))

-- there are values enough
pub values_length : (attrs : List AttrPlan) (values : List ℕ) → HasValues attrs values → length attrs ≤ length values
values_length [] values has = omega arith
values_length (attr ∷ attrs) [] has = absurd has
values_length (attr ∷ attrs) (value ∷ values) has = omega (arith, values_length attrs values has.1)

-- the value at a place is one of the attribute there
pub values_at : (attrs : List AttrPlan) (values : List ℕ) (i : ℕ) (attr : AttrPlan) → HasValues attrs values → i < length attrs → get_or values i 0 < length (get_or attrs i attr).values
values_at [] values i attr has within = absurd (omega (arith, within))
values_at (a ∷ attrs) [] i attr has within = absurd has
values_at (a ∷ attrs) (v ∷ values) zero attr has within = has.0
values_at (a ∷ attrs) (v ∷ values) (suc i) attr has within = values_at attrs values i attr has.1 (omega (arith, within))

pub nodes_length : (attrs : List AttrPlan) (n : ℕ) (values : List ℕ) → NodesHaveValues attrs n values → n * length attrs ≤ length values
nodes_length attrs zero values has = omega arith
nodes_length attrs (suc n) values has = omega (arith, values_length attrs values has.0, nodes_length attrs n (drop (length attrs) values) has.1, length-drop (length attrs) values)

-- the lines of the nodes that are left begin with those of the next one
pub nodes_from : (plan : DimPlan) (n node : ℕ) (values : List ℕ) (attrs : List AttrPlan) (later : List ℕ) → attrs ≡ plan.attrs → later ≡ drop (length attrs) values → node < n → dim_lines plan node (n - node) values ≡ node_lines plan.name node attrs values ++ dim_lines plan (node + 1) (n - (node + 1)) later
nodes_from plan n node values attrs later same rest within =
    let left : n - node ≡ suc (n - (node + 1)) = omega (arith, within) in
    let is : later ≡ drop (length plan.attrs) values = rest ∙ ap (λ z. drop (length z) values) same in
    ap (λ k. dim_lines plan node k values) left
    ∙ ap (λ z. node_lines plan.name node z values ++ dim_lines plan (suc node) (n - (node + 1)) (drop (length plan.attrs) values)) (sym same)
    ∙ ap₂ (λ z k. node_lines plan.name node attrs values ++ dim_lines plan z (n - (node + 1)) k) (sym (add-one node)) (sym is)

-- the values of the nodes that are left begin with those of the next one
pub nodes_values : (plan : DimPlan) (n node : ℕ) (values : List ℕ) (attrs : List AttrPlan) (later : List ℕ) → attrs ≡ plan.attrs → later ≡ drop (length attrs) values → node < n → NodesHaveValues plan.attrs (n - node) values → HasValues attrs values × NodesHaveValues plan.attrs (n - (node + 1)) later
nodes_values plan n node values attrs later same rest within has =
    let left : n - node ≡ suc (n - (node + 1)) = omega (arith, within) in
    let is : later ≡ drop (length plan.attrs) values = rest ∙ ap (λ z. drop (length z) values) same in
    let both : HasValues plan.attrs values × NodesHaveValues plan.attrs (n - (node + 1)) (drop (length plan.attrs) values) = subst (λ k. NodesHaveValues plan.attrs k values) left has in
    (subst (λ z. HasValues z values) (sym same) both.0, subst (λ z. NodesHaveValues plan.attrs (n - (node + 1)) z) (sym is) both.1)

-- the lines of the dimensions that are left begin with those of the next one
pub dims_from : (n : ℕ) (plans : List DimPlan) (i : ℕ) (plan : DimPlan) (values : List ℕ) (count : ℕ) (later : List ℕ) → i < length plans → plan ≡ get_or plans i plan → count ≡ length plan.attrs → later ≡ drop (n * count) values → attr_lines n (drop i plans) values ≡ dim_lines plan 0 n values ++ attr_lines n (drop (i + 1) plans) later
dims_from n plans i plan values count later within is size rest =
    let ends : later ≡ drop (n * length plan.attrs) values = rest ∙ ap (λ z. drop (n * z) values) size in
    ap (λ z. attr_lines n z values) (from_place plans i plan within is) ∙ ap (λ z. dim_lines plan 0 n values ++ attr_lines n (drop (i + 1) plans) z) (sym ends)

-- the values of the dimensions that are left begin with those of the next one
pub dims_values : (n : ℕ) (plans : List DimPlan) (i : ℕ) (plan : DimPlan) (values : List ℕ) (count : ℕ) (later : List ℕ) → i < length plans → plan ≡ get_or plans i plan → count ≡ length plan.attrs → later ≡ drop (n * count) values → DimsHaveValues n (drop i plans) values → NodesHaveValues plan.attrs n values × DimsHaveValues n (drop (i + 1) plans) later
dims_values n plans i plan values count later within is size rest has =
    let ends : later ≡ drop (n * length plan.attrs) values = rest ∙ ap (λ z. drop (n * z) values) size in
    let both : NodesHaveValues plan.attrs n values × DimsHaveValues n (drop (i + 1) plans) (drop (n * length plan.attrs) values) = subst (λ z. DimsHaveValues n z values) (from_place plans i plan within is) has in
    (both.0, subst (λ z. DimsHaveValues n (drop (i + 1) plans) z) (sym ends) both.1)

sizes : List AttrPlan → List ℕ
sizes attrs = map (λ attr. length attr.values) attrs
