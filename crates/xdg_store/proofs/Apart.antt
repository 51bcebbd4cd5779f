-- No two values of decisions have the same bit, and all bits are in range.
use Rattle.std.proofs.Common.{◌≡◌, ℕ, ◌<◌, ◌+◌, ◌*◌, [], length, ap, ap₂, sym, ◌∙◌, arith, subst, zero, suc, refl}
use Rattle.std.proofs.lemmas.Nat.{row_fits}
use Rattle.xdg_problem.specs.declared.analysis.Edge.{Edge}
use Rattle.xdg_problem.specs.declared.parts.Parts.{Parts}
use Rattle.xdg_problem.specs.Analyses.{IsPlace}
use Rattle.xdg_problem.specs.Arguments.{no_attr, no_plan}
use Rattle.xdg_problem.specs.Boxes.{attr_decision, edge_decision}
use Rattle.xdg_problem.specs.Places.{nodes}
use Rattle.xdg_problem.specs.Problems.{IsDim, IsProblem}
use Rattle.xdg_problem.proofs.Edges.{edge_equal}
use Rattle.xdg_problem.proofs.PlacePlans.{dim_within, plan_read}
use Rattle.xdg_store.specs.Decisions.{IsDecision, number_of}
use Rattle.xdg_store.specs.Layout.{attr_row, bit_count, edge_bit, entry_row}
use Rattle.xdg_store.specs.declared.decision.Decision.{Decision}
use Rattle.xdg_store.specs.declared.decision.Decision.TheVariants as decisions
use Rattle.xdg_store.proofs.Deciding.{HasBits, bit_of, named_bits, pair_bit, size_of}
use Rattle.xdg_facts.proofs.Numbers.{row_and_column}

-- ---- where the bit of a value stands

-- a label of an edge place is one of 32
pub few_labels : (parts : Parts) (e : Edge) → IsProblem parts → IsPlace parts e → e.label.0 < 32
few_labels parts e p is =
    let most = (subst IsDim (plan_read parts e is is.plan) (p.dims e.dim.0 is.plan (dim_within parts e is))).labels_most in
    let label = is.label in
    omega (arith, most, label)

-- in a sentence of n nodes the bit of the value v of a decision
abbrev IsBit : ℕ → Decision → ℕ → ℕ → Type 0
IsBit n (decisions.Entry node) v bit = (node.0 < n) × (v < 1024) × (bit ≡ entry_row node.0 + v)
IsBit n (decisions.Attr dim node attr) v bit = (node.0 < n) × (attr.0 < 8) × (v < 1024) × (bit ≡ attr_row n dim.0 node.0 attr.0 + v)
IsBit n (decisions.Place e) v bit = (e.mother.0 < n) × (e.label.0 < 32) × (e.daughter.0 < 128) × (v < 2) × (bit ≡ edge_bit n e + v * 128)

-- a bit is that of one value of one decision
one_value : (parts : Parts) (a b : Decision) (v w bit : ℕ) → IsBit (nodes parts) a v bit → IsBit (nodes parts) b w bit → (number_of parts a ≡ number_of parts b) × (v ≡ w)
one_value parts (decisions.Entry a) (decisions.Entry b) v w bit (l, s, e) (m, t, f) = (omega (arith, s, t, e, f), omega (arith, s, t, e, f))
one_value parts (decisions.Attr d a i) (decisions.Attr g b j) v w bit (l, few, s, e) (m, low, t, f) =
    let same : d.0 * nodes parts + a.0 ≡ g.0 * nodes parts + b.0 = omega (arith, few, low, s, t, e, f) in
    let block = row_and_column d.0 a.0 g.0 b.0 (nodes parts) l m same in
    let attr : i.0 ≡ j.0 = omega (arith, same, s, t, e, f) in
    (ap₂ (λ x y. attr_decision parts x y i.0) block.0 block.1 ∙ ap (attr_decision parts g.0 b.0) attr, omega (arith, same, attr, e, f))
one_value parts (decisions.Place a) (decisions.Place b) v w bit (l, few, s, t, e) (m, low, x, y, f) =
    let same : a.dim.0 * nodes parts + a.mother.0 ≡ b.dim.0 * nodes parts + b.mother.0 = omega (arith, few, low, s, t, x, y, e, f) in
    let block = row_and_column a.dim.0 a.mother.0 b.dim.0 b.mother.0 (nodes parts) l m same in
    let label : a.label.0 ≡ b.label.0 = omega (arith, same, s, t, x, y, e, f) in
    let value : v ≡ w = omega (arith, same, label, s, t, x, y, e, f) in
    (ap (edge_decision parts) (edge_equal a b block.0 block.1 label (omega (arith, same, label, value, e, f))), value)
one_value parts (decisions.Entry a) (decisions.Attr g b j) v w bit (l, s, e) (m, low, t, f) = absurd (omega (arith, l, s, e, f))
one_value parts (decisions.Entry a) (decisions.Place b) v w bit (l, s, e) (m, low, x, y, f) = absurd (omega (arith, l, s, e, f))
one_value parts (decisions.Attr d a i) (decisions.Entry b) v w bit (l, few, s, e) (m, t, f) = absurd (omega (arith, m, t, e, f))
one_value parts (decisions.Attr d a i) (decisions.Place b) v w bit (l, few, s, e) (m, low, x, y, f) = absurd (omega (arith, few, s, low, x, y, e, f))
one_value parts (decisions.Place a) (decisions.Entry b) v w bit (l, few, s, t, e) (m, x, f) = absurd (omega (arith, m, x, e, f))
one_value parts (decisions.Place a) (decisions.Attr g b j) v w bit (l, few, s, t, e) (m, low, x, f) = absurd (omega (arith, few, s, t, low, x, e, f))

module _ (parts : Parts) (p : IsProblem parts) where
  is_bit : (decision : Decision) → IsDecision parts decision → (v : ℕ) → v < size_of parts decision → IsBit (nodes parts) decision v (bit_of parts decision v)
  is_bit (decisions.Entry node) is v l =
      let each = p.candidates_each in
      let most = (p.candidates node.0 [] (omega (arith, each, is))).most in
      (is, omega (arith, l, most), refl)
  is_bit (decisions.Attr dim node attr) (d, n, a) v l =
      let plan = p.dims dim.0 no_plan d in
      let few = plan.attrs_most in
      let most = (plan.attrs attr.0 no_attr a).most in
      (n, omega (arith, a, few), omega (arith, l, most), refl)
  is_bit (decisions.Place e) is v l = (is.mother, few_labels parts e p is, (let most = p.most in let daughter = is.daughter in omega (arith, daughter, most)), l, either v l)
    where
      either : (v : ℕ) → v < 2 → pair_bit parts e v ≡ edge_bit (nodes parts) e + v * 128
      either zero l = omega arith
      either (suc zero) l = omega arith
      either (suc (suc v)) l = absurd (omega (arith, l))

  below : (decision : Decision) → IsDecision parts decision → (v bit : ℕ) → IsBit (nodes parts) decision v bit → bit < bit_count parts
  below (decisions.Entry node) is v bit (l, s, e) = omega (arith, l, s, e)
  below (decisions.Attr dim node attr) is v bit (l, few, s, e) =
      let row = row_fits dim.0 (nodes parts) (length parts.dims) (nodes parts) is.0 (omega arith) in
      omega (arith, row, l, few, s, e)
  below (decisions.Place e) is v bit (l, few, s, t, i) =
      let row = row_fits e.dim.0 (nodes parts) (length parts.dims) (nodes parts) (dim_within parts e is) (omega arith) in
      omega (arith, row, l, few, s, t, i)

  known : {d size : ℕ} {bit : ℕ → ℕ} → HasBits parts d size bit → (v : ℕ) → v < size → (decision : Decision) × IsDecision parts decision × (number_of parts decision ≡ d) × IsBit (nodes parts) decision v (bit v)
  known {d} {size} {bit} at v l =
      let name = named_bits parts p d at.within in
      let own = name.3 in
      let all = at.count in
      let same = own.count in
      let m : v < size_of parts name.0 = omega (arith, l, same, all) in
      let is : bit_of parts name.0 v ≡ bit v = sym (own.each v m) ∙ at.each v l in
      (name.0, name.1, name.2, subst (IsBit (nodes parts) name.0 v) is (is_bit name.0 name.1 v m))

  -- each bit is among those of the words
  pub bit_in_range : {d size : ℕ} {bit : ℕ → ℕ} → HasBits parts d size bit → (v : ℕ) → v < size → bit v < bit_count parts
  bit_in_range {bit = bit} at v l = (let k = known at v l in below k.0 k.1 v (bit v) k.3)

  -- and is no other
  pub bits_apart : {d e size many : ℕ} {bit other : ℕ → ℕ} → HasBits parts d size bit → HasBits parts e many other → (v w : ℕ) → v < size → w < many → bit v ≡ other w → (d ≡ e) × (v ≡ w)
  bits_apart {other = other} at to v w l m same =
      let a = known at v l in
      let b = known to w m in
      let one = one_value parts a.0 b.0 v w (other w) (subst (IsBit (nodes parts) a.0 v) same a.3) b.3 in
      (sym a.2 ∙ one.0 ∙ b.2, one.1)
