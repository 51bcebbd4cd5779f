-- All propagators were still before the values of one decision were taken.
use Rattle.std.proofs.Common.{◌≡◌, ℕ, ◌+◌, ◌<◌, ◌^◌, inl, inr, Bool, List, [], All, length, get_or, arith, ap, sym, ◌∙◌, subst}
use Rattle.std.specs.Int.{bit_at}
use Rattle.std.proofs.lemmas.Bool.{cases_eq}
use Rattle.std.proofs.lemmas.List.{get_or_append_left}
use Rattle.xdg_problem.specs.declared.parts.Parts.{Parts}
use Rattle.xdg_base.specs.declared.ids.AttrId.{AttrId}
use Rattle.xdg_base.specs.declared.ids.DimId.{DimId}
use Rattle.xdg_base.specs.declared.ids.NodeId.{NodeId}
use Rattle.xdg_problem.specs.declared.analysis.Edge.{Edge}
use Rattle.xdg_problem.specs.Analyses.{IsPlace}
use Rattle.xdg_problem.specs.Boxes.{Has}
use Rattle.xdg_problem.specs.Places.{nodes}
use Rattle.xdg_problem.specs.Problems.{IsProblem}
use Rattle.xdg_problem.proofs.PlaceOrder.{place_is}
use Rattle.xdg_propcore.specs.Kinds.{attr_kind, edge_kind, entry_kind, kind_of}
use Rattle.xdg_propcore.proofs.DecisionKinds.{kind_of_attr, kind_of_edge, kind_of_entry}
use Rattle.std.proofs.lemmas.Nat.Bits.{bit_at-pow_same}
use Rattle.xdg_propcore.specs.Standing.{Held, WereStill, box_at}
use Rattle.xdg_propcore.specs.Steps.{Extends}
use Rattle.xdg_propcore.proofs.Holding.{held_now, held_on}
use Rattle.xdg_store.specs.Decisions.{IsDecision, number_of}
use Rattle.xdg_store.specs.declared.decision.Decision.{Decision}
use Rattle.xdg_store.specs.declared.decision.Decision.TheVariants as decisions
use Rattle.xdg_store.specs.Naming.{LosesOf}
use Rattle.xdg_store.specs.States.{State, Known}
use Rattle.xdg_stream.specs.Levels.{AllStill}

-- ---- the kind of a decision

module _ (parts : Parts) (decision : Decision) (lost : ℕ) (problem : IsProblem parts) (is : IsDecision parts decision) where
  kind_in : (kind : ℕ) → kind_of parts (number_of parts decision) ≡ kind → lost ≡ 2 ^ kind → bit_at lost (kind_of parts (number_of parts decision)) ≡ 1
  kind_in kind here e = ap (bit_at lost) here ∙ ap (λ w. bit_at w kind) e ∙ bit_at-pow_same kind

  pub entry_in : (node : NodeId) → decision ≡ decisions.Entry node → lost ≡ 2 ^ entry_kind → bit_at lost (kind_of parts (number_of parts decision)) ≡ 1
  entry_in node same e =
      let within : node.0 < nodes parts = subst (IsDecision parts) same is in
      let each = problem.candidates_each in
      kind_in entry_kind (ap (λ d. kind_of parts (number_of parts d)) same ∙ kind_of_entry parts node.0 (omega (arith, each, within))) e

  pub attr_in : (dim : DimId) (node : NodeId) (attr : AttrId) → decision ≡ decisions.Attr dim node attr → lost ≡ 2 ^ attr_kind dim.0 → bit_at lost (kind_of parts (number_of parts decision)) ≡ 1
  attr_in dim node attr same e =
      let there : IsDecision parts (decisions.Attr dim node attr) = subst (IsDecision parts) same is in
      kind_in (attr_kind dim.0) (ap (λ d. kind_of parts (number_of parts d)) same ∙ kind_of_attr parts dim.0 node.0 attr.0 there.0 there.1 there.2) e

  pub edge_in : (edge : Edge) → decision ≡ decisions.Place edge → lost ≡ 2 ^ edge_kind edge.dim.0 → bit_at lost (kind_of parts (number_of parts decision)) ≡ 1
  edge_in edge same e =
      let there : IsPlace parts edge = subst (IsDecision parts) same is in
      kind_in (edge_kind edge.dim.0) (ap (λ d. kind_of parts (number_of parts d)) same ∙ kind_of_edge parts edge (place_is parts edge there)) e

-- ---- since then

module _ {P : Type 0} (still : P → Parts → List (List Bool) → Type 0) (props : List P) (old new : State) (mark lost d : ℕ) (known : Known old) (calm : AllStill still props old.parts old.now) (newest : mark + 1 ≡ length old.history) (last : get_or old.history mark [] ≡ old.now) (extends : Extends old new) (only : LosesOf old.now new.now d) (kind : bit_at lost (kind_of old.parts d) ≡ 1) where
  held : All (λ p. Held (still p) new mark) props
  held at p l = held_on (still (get_or props at p)) old new mark extends (held_now (still (get_or props at p)) old mark known (calm at p l) newest last)

  before : box_at new mark ≡ old.now
  before = ap (λ h. get_or h mark []) extends.grown ∙ get_or_append_left old.history extends.more [] mark (omega (arith, newest)) ∙ last

  pub restricted_from : WereStill still props new mark lost
  restricted_from = record {
    held = held;
    kinds = λ e v gone. elim (cases_eq e d) [
      | inl q ↦ subst (λ k. bit_at lost k ≡ 1) (ap (kind_of old.parts) (sym q) ∙ ap (λ p. kind_of p e) (sym extends.same)) kind
      | inr n ↦ absurd (gone.1 (only e v (subst (λ b. Has b e v) before gone.0) n))
    ];
  }
