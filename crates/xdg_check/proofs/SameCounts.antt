-- The counts of a body turn on the classes that it uses alone.
use Rattle.std.proofs.Common.{◌≡◌, ℕ, ◌+◌, ◌*◌, ◌-◌, ◌^◌, List, refl, ap₂, inl}
use Rattle.xdg_classes.specs.Bodies.{Body, either, both, saying, calling, Bodies, no_body, body_then, Called, calls, calls_in}
use Rattle.xdg_check.specs.Counts.{Counting, uses, sum_of_uses, combos, sum_of_combos, product_of_combos}
use Rattle.xdg_facts.specs.Capped.{capped}
use Rattle.xdg_facts.specs.Membership.{In}
use Rattle.xdg_facts.proofs.In.{in_left, in_right}
use Rattle.xdg_facts.proofs.Capped.{capped_again, product_stops, sum_stops}

-- counts that go with one another stay so under sums and products
module _ (Go : ℕ → ℕ → Type 0) (own : (a : ℕ) → Go a a) (sum : (a b c d : ℕ) → Go a c → Go b d → Go (a + b) (c + d)) (product : (a b c d : ℕ) → Go a c → Go b d → Go (a * b) (c * d)) (p q : Counting) where
  -- of each class that is used
  abbrev AllGo : List Called → Type 0
  AllGo cs = (call : Called) → In cs call → Go (p call.name.text) (q call.name.text)

  mutual
    uses_go : (b : Body) → AllGo (calls b) → Go (uses p b) (uses q b)
    uses_go (either bs) h = uses_go_in bs h
    uses_go (both bs) h = uses_go_in bs h
    uses_go (saying dim pairs) h = own 0
    uses_go (calling name args) h = sum 1 (p name.text) 1 (q name.text) (own 1) (h (record { name = name; args = args }) (inl refl))

    uses_go_in : (bs : Bodies) → AllGo (calls_in bs) → Go (sum_of_uses p bs) (sum_of_uses q bs)
    uses_go_in no_body h = own 0
    uses_go_in (body_then b bs) h =
        sum (uses p b) (sum_of_uses p bs) (uses q b) (sum_of_uses q bs)
        (uses_go b (λ call i. h call (in_left (calls b) (calls_in bs) call i))) (uses_go_in bs (λ call i. h call (in_right (calls b) (calls_in bs) call i)))

  mutual
    combos_go : (b : Body) → AllGo (calls b) → Go (combos p b) (combos q b)
    combos_go (either bs) h = sum_go bs h
    combos_go (both bs) h = product_go bs h
    combos_go (saying dim pairs) h = own 1
    combos_go (calling name args) h = h (record { name = name; args = args }) (inl refl)

    sum_go : (bs : Bodies) → AllGo (calls_in bs) → Go (sum_of_combos p bs) (sum_of_combos q bs)
    sum_go no_body h = own 0
    sum_go (body_then b bs) h =
        sum (combos p b) (sum_of_combos p bs) (combos q b) (sum_of_combos q bs)
        (combos_go b (λ call i. h call (in_left (calls b) (calls_in bs) call i))) (sum_go bs (λ call i. h call (in_right (calls b) (calls_in bs) call i)))

    product_go : (bs : Bodies) → AllGo (calls_in bs) → Go (product_of_combos p bs) (product_of_combos q bs)
    product_go no_body h = own 1
    product_go (body_then b bs) h =
        product (combos p b) (product_of_combos p bs) (combos q b) (product_of_combos q bs)
        (combos_go b (λ call i. h call (in_left (calls b) (calls_in bs) call i))) (product_go bs (λ call i. h call (in_right (calls b) (calls_in bs) call i)))

-- ---- counts that are the same

abbrev Same : ℕ → ℕ → Type 0
Same a b = a ≡ b

same_sum : (a b c d : ℕ) → Same a c → Same b d → Same (a + b) (c + d)
same_sum a b c d h k = ap₂ (λ m n. m + n) h k

same_product : (a b c d : ℕ) → Same a c → Same b d → Same (a * b) (c * d)
same_product a b c d h k = ap₂ (λ m n. m * n) h k

-- ---- counts that stop at a greatest number where others go on

abbrev Stop : ℕ → ℕ → Type 0
Stop a b = capped a ≡ capped b

module _ (p q : Counting) where
  -- the two say the same of each class that is used
  abbrev pub Alike : List Called → Type 0
  Alike cs = (call : Called) → In cs call → p call.name.text ≡ q call.name.text

  pub same_uses : (b : Body) → Alike (calls b) → uses p b ≡ uses q b
  same_uses = uses_go Same (λ a. refl) same_sum same_product p q

  pub same_combos : (b : Body) → Alike (calls b) → combos p b ≡ combos q b
  same_combos = combos_go Same (λ a. refl) same_sum same_product p q

  -- the first stops where the second goes on
  abbrev pub Stops : List Called → Type 0
  Stops cs = (call : Called) → In cs call → p call.name.text ≡ capped (q call.name.text)

  stop : (cs : List Called) → Stops cs → (call : Called) → In cs call → Stop (p call.name.text) (q call.name.text)
  stop cs h call i = capped_again (p call.name.text) (q call.name.text) (2 ^ 64 - 1) (h call i)

  pub uses_stop : (b : Body) → Stops (calls b) → capped (uses p b) ≡ capped (uses q b)
  uses_stop b h = uses_go Stop (λ a. refl) (λ a b c d. sum_stops a b c d (2 ^ 64 - 1)) (λ a b c d. product_stops a b c d (2 ^ 64 - 1)) p q b (stop (calls b) h)

  pub combos_stop : (b : Body) → Stops (calls b) → capped (combos p b) ≡ capped (combos q b)
  combos_stop b h = combos_go Stop (λ a. refl) (λ a b c d. sum_stops a b c d (2 ^ 64 - 1)) (λ a b c d. product_stops a b c d (2 ^ 64 - 1)) p q b (stop (calls b) h)
