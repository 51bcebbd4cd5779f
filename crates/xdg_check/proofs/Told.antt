-- The counts that are told of expressions.
use Rattle.std.proofs.Common.{◌≡◌, ℕ, List, None, Some, refl, sym, ap, subst, ◌∙◌}
use Rattle.xdg_names.specs.Texts.{place_of}
use Rattle.xdg_classes.specs.Bodies.{Body}
use Rattle.xdg_check.specs.declared.checked.Class.{Class}
use Rattle.xdg_check.specs.Counts.{Counting, uses, combos, class_texts, Agrees, AreCounted, kept_by, kept_at, looked_up}
use Rattle.xdg_facts.specs.Capped.{capped}
use Rattle.xdg_check.proofs.Naming.{name_of_place, place_within, no_among}
use Rattle.xdg_check.proofs.SameCounts.{uses_stop, combos_stop}
use Rattle.xdg_facts.proofs.Lists.{some_at}
use Rattle.xdg_facts.proofs.In.{in_got}

-- what the classes keep of a name is its count
kept_right : (count : Counting → Body → ℕ) (kept : Class → ℕ) (cs : List Class) → AreCounted count kept cs → (names : Counting) → Agrees count cs names → (name : List ℕ) → looked_up kept (class_texts cs) cs name ≡ capped (names name)
kept_right count kept cs counted names agrees name =
    elim (place_of (class_texts cs) name) as (λ o. place_of (class_texts cs) name ≡ o → kept_at kept cs (place_of (class_texts cs) name) ≡ capped (names name)) [
      | None ↦ λ none. ap (kept_at kept cs) none ∙ ap capped (sym (agrees.undefined name (no_among cs name none)))
      | Some k ↦ λ some. (let c = some_at cs k (place_within cs name k some) in
          ap (kept_at kept cs) some ∙ ap (kept_by kept) c.1 ∙ counted.stored c.0 (in_got cs k c.0 c.1)
          ∙ ap capped (sym (counted.only names agrees c.0.name)) ∙ ap (λ t. capped (names t)) (name_of_place cs name k c.0 some c.1))
    ] refl

module _ (seen inside slice : List Class) (texts : List (List ℕ)) (same : inside ≡ seen) (lent : slice ≡ inside) (known : texts ≡ class_texts inside) (b : Body) (n : ℕ) where
  pub uses_told : AreCounted uses (λ c. c.uses) inside → n ≡ capped (uses (looked_up (λ c. c.uses) texts slice) b) → (names : Counting) → Agrees uses seen names → n ≡ capped (uses names b)
  uses_told counted is names agrees =
      is ∙ ap (λ ts. capped (uses (looked_up (λ c. c.uses) ts slice) b)) known ∙ ap (λ cs. capped (uses (looked_up (λ c. c.uses) (class_texts inside) cs) b)) lent
      ∙ uses_stop (looked_up (λ c. c.uses) (class_texts inside) inside) names b (λ call i. kept_right uses (λ c. c.uses) inside counted names (subst (λ cs. Agrees uses cs names) (sym same) agrees) call.name.text)

  pub combos_told : AreCounted combos (λ c. c.combos) inside → n ≡ capped (combos (looked_up (λ c. c.combos) texts slice) b) → (names : Counting) → Agrees combos seen names → n ≡ capped (combos names b)
  combos_told counted is names agrees =
      is ∙ ap (λ ts. capped (combos (looked_up (λ c. c.combos) ts slice) b)) known ∙ ap (λ cs. capped (combos (looked_up (λ c. c.combos) (class_texts inside) cs) b)) lent
      ∙ combos_stop (looked_up (λ c. c.combos) (class_texts inside) inside) names b (λ call i. kept_right combos (λ c. c.combos) inside counted names (subst (λ cs. Agrees combos cs names) (sym same) agrees) call.name.text)
