-- Nodes for names that let a box make a claim true, or false, where a name stands for one of a set, and where not all was seen.
use Rattle.std.proofs.Common.{◌≡◌, ℕ, ◌<◌, inl, inr, Bool, true, false, ◌&&◌, List, [], ◌∷◌, refl, sym, ◌∙◌, ap, subst}
use Rattle.std.specs.Prelude.{not, ◌==◌}
use Rattle.std.proofs.lemmas.Bool.{and_from, cases_eq, false≢true}
use Rattle.xdg_problem.specs.declared.analysis.Edge.{Edge}
use Rattle.xdg_problem.specs.declared.parts.Parts.{Parts}
use Rattle.xdg_problem.specs.Claims.{Claim}
use Rattle.xdg_problem.specs.Places.{nodes}
use Rattle.xdg_problem.specs.Truths.{bound, unbound, AreNodes}
use Rattle.xdg_rules.specs.Worths.{Makes}
use Rattle.xdg_graph.specs.declared.which.Which.{Which}
use Rattle.xdg_graph.specs.Edges.{edges_of}
use Rattle.xdg_store.specs.declared.decision.Decision.{Decision}
use Rattle.xdg_store.specs.declared.decision.Decision.TheVariants as decisions
use Rattle.xdg_formula_value.specs.Lost.{AgreeBut, Finds, IsBy, MovesPath, OnNames, Passes, PathsStay, Reaches, Seen}
use Rattle.xdg_graph.specs.Every.{IsEvery}
use Rattle.xdg_formula_value.proofs.Finding.{NoneMade, agree_rest, finds_no, finds_weaker, missed}
use Rattle.xdg_facts.proofs.Rising.{no_member, head_or_tail}
use Rattle.xdg_facts.specs.Rises.{has}

module _ (parts : Parts) (box : List (List Bool)) (c : Claim) (truth : Bool) where
  -- ---- where not all was seen

  pub seen_so : (Wanted : (ℕ → ℕ) → Type 0) (seen found : Bool) → seen ≡ true → Finds parts box c truth (Seen seen Wanted) found → Finds parts box c truth Wanted found
  seen_so Wanted seen found on finds = finds_weaker parts box c truth Wanted (Seen seen Wanted) found (λ b are w. (on, w)) finds

  pub seen_any : (Wanted : (ℕ → ℕ) → Type 0) (seen found : Bool) → Finds parts box c truth Wanted found → Finds parts box c truth (Seen seen Wanted) found
  seen_any Wanted seen found finds = finds_weaker parts box c truth (Seen seen Wanted) Wanted found (λ b are w. w.1) finds

  pub seen_none : (Wanted : (ℕ → ℕ) → Type 0) (seen : Bool) → (seen ≡ true → Finds parts box c truth Wanted false) → Finds parts box c truth (Seen seen Wanted) false
  seen_none Wanted seen finds = record { sound = λ t. absurd (false≢true t); complete = λ b are w makes. (finds w.0).complete b are w.1 makes }

  pub seen_through : (Wanted Other : (ℕ → ℕ) → Type 0) (seen found : Bool) → (Finds parts box c truth Other found → Finds parts box c truth Wanted found) → Finds parts box c truth (Seen seen Other) found
      → Finds parts box c truth (Seen seen Wanted) found
  seen_through Wanted Other seen found how finds = record {
    sound = finds.sound;
    complete = λ b are w makes. (how (seen_so Other seen found w.0 finds)).complete b are w.1 makes;
  }

  -- what was found stands, whatever was seen
  pub unseen : (Wanted : (ℕ → ℕ) → Type 0) (seen found : Bool) → seen ≡ false → (found ≡ true → (b : ℕ → ℕ) × AreNodes parts b × Makes parts box c truth b) → Finds parts box c truth (Seen seen Wanted) found
  unseen Wanted seen found off sound = record { sound = sound; complete = λ b are w makes. absurd (false≢true (sym off ∙ w.0)) }

  -- ---- a name stands for a node of a set

  module _ (free names : List ℕ) (name : ℕ) (ends : List ℕ) where
    abbrev pub In : (ℕ → ℕ) → Type 0
    In b = AgreeBut free unbound b × (has names name ≡ true → has ends (b name) ≡ true)

    -- with none of its nodes but those that are left
    abbrev pub NoneBut : List ℕ → Type 0
    NoneBut left = (v : ℕ) → v < nodes parts → has ends v ≡ true → (has left v ≡ true → ⊥) → NoneMade parts box c truth (λ b. AgreeBut free unbound b × (b name ≡ v))

    pub in_any : (none : ℕ → ℕ) (found : Bool) → none ≡ unbound → Finds parts box c truth (AgreeBut free none) found → Finds parts box c truth In found
    in_any none found is finds = finds_weaker parts box c truth In (AgreeBut free none) found (λ b are w. subst (λ a. AgreeBut free a b) (sym is) w.0) finds

    pub in_start : (all met left : List ℕ) → IsEvery (nodes parts) all → ((v : ℕ) → has met v ≡ (has all v && has ends v)) → left ≡ met → NoneBut left
    in_start all met left every meets is v l there out = absurd (out (ap (λ s. has s v) is ∙ meets v ∙ and_from (has all v) (has ends v) ((every v).1 l) there))

    pub in_turn : (rest left later : List ℕ) (none here : ℕ → ℕ) (node : ℕ) (found : Bool) → ((n : ℕ) → has rest n ≡ (not (n == name) && has free n)) → none ≡ unbound → here ≡ bound none name node
        → left ≡ node ∷ later → NoneBut left → found ≡ false → Finds parts box c truth (AgreeBut rest here) found → NoneBut later
    in_turn rest left later none here node found members is here_is at so_far off finds v l there out b are wanted makes = elim (cases_eq node v) [
      | inl same ↦ missed parts box c truth (AgreeBut rest here) found off finds b are
          (agree_rest free rest unbound here b name node members (here_is ∙ ap (λ a. bound a name node) is) wanted.0 (wanted.1 ∙ sym same)) makes
      | inr other ↦ so_far v l there (λ still. elim (head_or_tail left later node v at still) [ inl same ↦ other same | inr more ↦ out more ]) b are wanted makes
    ]

    pub in_end : (left : List ℕ) → left ≡ [] → NoneBut left → has names name ≡ true → Finds parts box c truth In false
    in_end left empty so_far named = finds_no parts box c truth In (λ b are w makes. so_far (b name) (are name) (w.1 named) (λ still. no_member left (b name) empty still) b are (w.0, refl) makes)

  -- ---- paths that pass an edge

  module _ (free names : List ℕ) (edges : List Edge) (e : Edge) (upper lower : ℕ) where
    abbrev pub Along : (ℕ → ℕ) → Type 0
    Along b = AgreeBut free unbound b × OnNames names (λ a. Passes edges e (a upper) (a lower)) b

    pub along_under : (ends : List ℕ) (found : Bool) → ((x : ℕ) → Reaches edges e.daughter.0 x → has ends x ≡ true) → Finds parts box c truth (In free names lower ends) found → Finds parts box c truth Along found
    along_under ends found reached finds = finds_weaker parts box c truth Along (In free names lower ends) found
        (λ b are w. (w.0, λ there. subst (λ k. has ends k ≡ true) (w.1.1 lower there) (reached (w.1.0 lower) w.1.2.1))) finds

    pub along_over : (ends : List ℕ) (found : Bool) → ((x : ℕ) → Reaches edges x e.mother.0 → has ends x ≡ true) → Finds parts box c truth (In free names upper ends) found → Finds parts box c truth Along found
    along_over ends found reached finds = finds_weaker parts box c truth Along (In free names upper ends) found
        (λ b are w. (w.0, λ there. subst (λ k. has ends k ≡ true) (w.1.1 upper there) (reached (w.1.0 upper) w.1.2.0))) finds

  -- ---- paths that may be new or gone

  module _ (old : List (List Bool)) (free names : List ℕ) (d : Decision) (dim upper lower : ℕ) where
    abbrev pub Moved : (ℕ → ℕ) → Type 0
    Moved b = AgreeBut free unbound b × OnNames names (λ a. MovesPath parts old box d dim (a upper) (a lower)) b

    moved_none : ((u v : ℕ) → MovesPath parts old box d dim u v → ⊥) → Finds parts box c truth Moved false
    moved_none none = finds_no parts box c truth Moved (λ b are w makes. none (w.1.0 upper) (w.1.0 lower) w.1.2)

    pub moved_else : (other : Decision) → d ≡ other → ((u v : ℕ) → MovesPath parts old box other dim u v → ⊥) → Finds parts box c truth Moved false
    moved_else other is isnt = moved_none (λ u v moves. isnt u v (subst (λ k. MovesPath parts old box k dim u v) is moves))

    pub moved_stay : (e : Edge) → d ≡ decisions.Place e → PathsStay parts old box dim → Finds parts box c truth Moved false
    moved_stay e is stay = moved_else (decisions.Place e) is (λ u v moves. moves.0 stay)

    pub moved_along : (e : Edge) (which : Which) (found : Bool) → d ≡ decisions.Place e → IsBy which parts box e → Finds parts box c truth (Along free names (edges_of which parts box dim) e upper lower) found → Finds parts box c truth Moved found
    moved_along e which found is by finds = finds_weaker parts box c truth Moved (Along free names (edges_of which parts box dim) e upper lower) found
        (λ b are w. (w.0, (w.1.0, w.1.1, (subst (λ k. MovesPath parts old box k dim (w.1.0 upper) (w.1.0 lower)) is w.1.2).1 which by))) finds
