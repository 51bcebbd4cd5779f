-- What completed bindings take is counted up to a bound.
use Rattle.std.proofs.Common.{◌≡◌, ℕ, ◌<◌, ◌≤◌, ◌+◌, ◌-◌, ◌^◌, Bool, List, [], ◌∷◌, ◌++◌, length, take, map, get_or, min, add-one, refl, sym, ap, ap₂, ◌∙◌, subst, arith}
use Rattle.std.specs.Prelude.{◌↔◌, true, IsTrue, if◌then◌else◌}
use Rattle.std.specs.List.{sum_by}
use Rattle.std.proofs.Math.Seq.{take-suc}
use Rattle.std.proofs.lemmas.List.{take_all}
use Rattle.std.proofs.lemmas.List.Sums.{sum_by-cons, sum_by_push}
use Rattle.xdg_ast.specs.declared.grammar.ClassParam.{ClassParam}
use Rattle.xdg_names.specs.Texts.{has_text}
use Rattle.xdg_types.specs.NameFaults.{different}
use Rattle.xdg_types.proofs.Distinct.{same_known}
use Rattle.xdg_ast.specs.declared.expressions.ExprKind.{ExprKind}
use Rattle.xdg_classes.specs.Bodies.{Pairs, body, calls}
use Rattle.xdg_classes.specs.declared.bodies.Call.{Call}
use Rattle.xdg_types.specs.Parts.{Statement, keys}
use Rattle.xdg_classes.specs.declared.lookup.Classes.{Classes}
use Rattle.xdg_classes.specs.Definitions.{ClassDef, classes, class_names}
use Rattle.xdg_classes.specs.Lent.{class_def, called}
use Rattle.xdg_classes.specs.Ordered.{OrdersClasses}
use Rattle.xdg_check.specs.Made.{IsNamed}
use Rattle.xdg_check.specs.Weights.{preset_bytes, param_bytes, left_out_bytes, call_bytes, body_bytes, default_bytes, IsCountOf, most_bytes}
use Rattle.xdg_ast.specs.Texts.{texts}

-- ---- one element more

module _ {A : Type 0} (f : A → ℕ) (xs : List A) (i : ℕ) where
  sum_next : (x : A) → i < length xs → x ≡ get_or xs i x → sum_by f (take (i + 1) xs) ≡ sum_by f (take i xs) + f x
  sum_next x within at =
      let front : take (i + 1) xs ≡ take i xs ++ x ∷ [] = rw add-one (take-suc xs i x within ∙ ap (λ z. take i xs ++ z ∷ []) (sym at)) in
      ap (sum_by f) front ∙ sum_by_push f (take i xs) x

  -- where the next is counted with all before
  pub count_next : (x : A) (all before next : ℕ) → i < length xs → x ≡ get_or xs i x → (IsCountOf before (all + sum_by f (take i xs)) → IsCountOf next (all + sum_by f (take i xs) + f x))
      → IsCountOf before (all + sum_by f (take i xs)) → IsCountOf next (all + sum_by f (take (i + 1) xs))
  count_next x all before next within at step so_far =
      let e : all + sum_by f (take i xs) + f x ≡ all + sum_by f (take (i + 1) xs) = omega (arith, sum_next x within at) in
      subst (IsCountOf next) e (step so_far)

  pub count_end : (all counted : ℕ) → length xs ≤ i → IsCountOf counted (all + sum_by f (take i xs)) → IsCountOf counted (all + sum_by f xs)
  count_end all counted past so_far = subst (λ ys. IsCountOf counted (all + sum_by f ys)) (take_all i xs past) so_far

-- a sum that stops far above the bound
pub count_more : (all before next more : ℕ) → next ≡ min (before + more) (2 ^ 64 - 1) → IsCountOf before all → IsCountOf next (all + more)
count_more all before next more is so_far = omega (arith, is, so_far)

pub count_none : (all counted : ℕ) → IsCountOf counted all → IsCountOf counted (all + 0)
count_none all counted h = subst (IsCountOf counted) (omega arith) h

pub counted_alone : (counted all : ℕ) → IsCountOf counted (0 + all) → IsCountOf counted all
counted_alone counted all h = subst (IsCountOf counted) (omega arith) h

-- the bound is met by both or by none
pub both_small : (counted all : ℕ) → IsCountOf counted all → (counted ≤ most_bytes) ↔ (all ≤ most_bytes)
both_small counted all h = (λ a. omega (arith, a, h), λ b. omega (arith, b, h))

-- ---- the different keys leave out what the keys do

bytes_same : (a b : List (List ℕ)) → ((t : List ℕ) → has_text a t ≡ has_text b t) → (params : List ClassParam) → left_out_bytes a params ≡ left_out_bytes b params
bytes_same a b h [] = refl
bytes_same a b h (p ∷ params) =
    sum_by-cons (param_bytes a) p params ∙ ap₂ (λ (x : Bool) y. (if x then 0 else preset_bytes p.preset) + y) (h p.name.text) (bytes_same a b h params) ∙ sym (sum_by-cons (param_bytes b) p params)

pub bytes_known : (args : Pairs) (params : List ClassParam) → left_out_bytes (different (keys args)) params ≡ left_out_bytes (texts (keys args)) params
bytes_known args params = bytes_same (different (keys args)) (texts (keys args)) (same_known (keys args)) params

-- ---- the classes of a grammar

pub all_small : (statements : List Statement) (made : Classes) (small : Bool) → OrdersClasses statements made
    → (IsNamed made → IsTrue small ↔ (default_bytes (map class_def made.definitions) statements ≤ most_bytes)) → small ≡ true → default_bytes (classes statements) statements ≤ most_bytes
all_small statements made small ordered tells is =
    let named : IsNamed made = ordered.names ∙ ap (λ cs. texts (class_names cs)) (sym ordered.definitions) in
    subst (λ cs. default_bytes cs statements ≤ most_bytes) ordered.definitions ((tells named).0 is)

sum_called : (cs : List ClassDef) (made : List Call) → sum_by (λ (call : Call). call_bytes cs (called call)) made ≡ sum_by (call_bytes cs) (map called made)
sum_called cs [] = refl
sum_called cs (c ∷ made) =
    sum_by-cons (λ (call : Call). call_bytes cs (called call)) c made ∙ ap (λ n. call_bytes cs (called c) + n) (sum_called cs made) ∙ sym (sum_by-cons (call_bytes cs) (called c) (map called made))

-- all uses of a body are counted
pub calls_end : (cs : List ClassDef) (kind : ExprKind) (made items : List Call) (i all counted : ℕ) → map called made ≡ calls (body kind) → items ≡ made → length items ≤ i
    → IsCountOf counted (all + sum_by (λ (call : Call). call_bytes cs (called call)) (take i items)) → IsCountOf counted (all + body_bytes cs (body kind))
calls_end cs kind made items i all counted are same past so_far =
    subst (λ n. IsCountOf counted (all + n)) (sum_called cs items ∙ ap (λ xs. sum_by (call_bytes cs) (map called xs)) same ∙ ap (sum_by (call_bytes cs)) are)
    (count_end (λ (call : Call). call_bytes cs (called call)) items i all counted past so_far)
