-- What a use of a class stands for, class after class.
use Rattle.std.proofs.Common.{◌≡◌, ℕ, zero, suc, ◌<◌, ◌≤◌, ◌+◌, ◌-◌, List, length, refl, ap, sym, ◌∙◌, arith, inl, subst, slice_get, slice_index_or}
use Rattle.std.specs.Prelude.{Some}
use Rattle.xdg_ast.specs.declared.names.Name.{Name}
use Rattle.xdg_names.specs.Texts.{place_of}
use Rattle.xdg_terms.specs.Forms.{Bindings}
use Rattle.xdg_classes.specs.Bodies.{Pairs, Body, calling, body}
use Rattle.xdg_check.specs.declared.checked.Class.{Class}
use Rattle.xdg_check.specs.Checked.{Parts, IsChecked, named_body, named_bodies}
use Rattle.xdg_check.specs.Counts.{class_texts, kept_at, kept_by}
use Rattle.xdg_lexicon.specs.Denotes as den
use Rattle.xdg_lexicon.specs.Denotes.{closed_args, Denotes, IsRanked}
use Rattle.xdg_lexicon.specs.Partial.{Partial}
use Rattle.xdg_lexicon.specs.Right.{IsRightUnder}
use Rattle.xdg_lexicon.specs.Weights.{weigh, sized}
use Rattle.xdg_lexicon.proofs.Settled.{used_right}
use Rattle.xdg_check.proofs.Naming.{name_of_place, place_within as class_within}
use Rattle.xdg_facts.proofs.In.{in_got, map_in}

-- ---- classes by name

pub place_within : (cs lent : List Class) (text : List ℕ) (k : ℕ) → lent ≡ cs → Some k ≡ place_of (class_texts cs) text → k < length lent
place_within cs lent text k same found = subst (λ l. k < length l) (sym same) (class_within cs text k (sym found))

-- the name has this class
abbrev pub IsClassOf : Parts → List ℕ → Class → Type 0
IsClassOf checked text c = (k : ℕ) × ((place_of (class_texts checked.classes) text ≡ Some k) × (slice_get checked.classes k ≡ Some c))

-- the body of a class weighs what a use of it is taken for
class_sized : (checked : Parts) (depth : ℕ) (text : List ℕ) (c : Class) → 1 ≤ depth → IsClassOf checked text c → sized checked depth text ≡ weigh (sized checked (depth - 1)) (body c.body.kind)
class_sized checked zero text c some found = absurd (omega (arith, some))
class_sized checked (suc depth) text c some found =
    let weight : Class → ℕ = λ (x : Class). weigh (sized checked depth) (body x.body.kind) in
    let less : depth ≡ suc depth - 1 = omega arith in
    subst (λ d. sized checked (suc depth) text ≡ weigh (sized checked d) (body c.body.kind)) less (ap (kept_at weight checked.classes) found.1.0 ∙ ap (kept_by weight) found.1.1)

-- ---- one class after the other

-- the body b, which weighs so much under the bindings, is so far the body of the class under the bindings inside
pub record Following (checked : Parts) (bs : Bindings) (b : Body) (weight : ℕ) (class : Class) (inside : Bindings) (left : ℕ) : Type 0 where
  pub within : left ≤ length checked.order
  pub ranked : IsRanked checked left (body class.body.kind)
  pub right : IsRightUnder checked.types checked.classes inside (body class.body.kind)
  pub means : (ms : List Partial) → Denotes checked.types.dims (named_bodies checked.classes) inside (body class.body.kind) ms → Denotes checked.types.dims (named_bodies checked.classes) bs b ms
  pub lighter : 1 + weigh (sized checked left) (body class.body.kind) < weight

module _ (checked : Parts) (depth : ℕ) (name : Name) (args : Pairs) (r : IsRanked checked depth (calling name args)) where
  rank : (j : ℕ) × ((j < depth) × (place_of (class_texts checked.classes) name.text ≡ Some (slice_index_or checked.order j 0)))
  rank = r (record { name = name; args = args }) (inl refl)

  pub some_depth : 1 ≤ depth
  some_depth = (let h = rank.1.0 in omega (arith, h))

  pub has_place : (text : List ℕ) → text ≡ name.text → (k : ℕ) × (place_of (class_texts checked.classes) text ≡ Some k)
  has_place text same = (slice_index_or checked.order rank.0 0, ap (place_of (class_texts checked.classes)) same ∙ rank.1.1)

  module _ (keeps : IsChecked checked) (within : depth ≤ length checked.order) (text : List ℕ) (same : text ≡ name.text) (c : Class) (found : IsClassOf checked text c) where
    below : IsRanked checked (depth - 1) (body c.body.kind)
    below call h =
        let j = rank.0 in
        let here : found.0 ≡ slice_index_or checked.order j 0 = (let e : Some found.0 ≡ Some (slice_index_or checked.order j 0) = sym found.1.0 ∙ ap (place_of (class_texts checked.classes)) same ∙ rank.1.1 in cc) in
        let before = keeps.ordered.after j (let l = rank.1.0 in omega (arith, l, within)) c (subst (λ n. slice_get checked.classes n ≡ Some c) here found.1.1) call h in
        (before.0, ((let l = rank.1.0 in let b = before.1.0 in omega (arith, l, b)), before.1.1))

    class_name : c.name ≡ name.text
    class_name = name_of_place checked.classes text found.0 c found.1.0 found.1.1 ∙ same

    light : 1 + weigh (sized checked (depth - 1)) (body c.body.kind) < weigh (sized checked depth) (calling name args)
    light =
        let size : sized checked depth name.text ≡ weigh (sized checked (depth - 1)) (body c.body.kind) =
        ap (sized checked depth) (sym same) ∙ class_sized checked depth text c some_depth found in
        omega (arith, size)

    pub entered : (bs inside : Bindings) → inside ≡ closed_args bs args → IsRightUnder checked.types checked.classes bs (calling name args)
        → Following checked bs (calling name args) (weigh (sized checked depth) (calling name args)) c inside (depth - 1)
    entered bs inside closes right = subst (λ i. Following checked bs (calling name args) (weigh (sized checked depth) (calling name args)) c i (depth - 1)) (sym closes) (record {
      within = omega (arith, within);
      ranked = below;
      right = used_right checked bs (calling name args) (record { name = name; args = args }) c keeps right (inl refl) (in_got checked.classes found.0 c found.1.1) class_name;
      means = λ ms d. den.class_used bs name args (named_body c) ms (map_in named_body checked.classes c (in_got checked.classes found.0 c found.1.1)) class_name d;
      lighter = light;
    })

-- what is followed further
pub joined : (checked : Parts) (bs inside deeper : Bindings) (b : Body) (weight : ℕ) (class next : Class) (left less : ℕ) → Following checked bs b weight class inside left
    → Following checked inside (body class.body.kind) (weigh (sized checked left) (body class.body.kind)) next deeper less → Following checked bs b weight next deeper less
joined checked bs inside deeper b weight class next left less f g = record {
  within = g.within;
  ranked = g.ranked;
  right = g.right;
  means = λ ms d. f.means ms (g.means ms d);
  lighter = (let one = f.lighter in let two = g.lighter in omega (arith, one, two));
}
