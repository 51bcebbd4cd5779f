-- Sets that have a node in common, and a scan over labels.
use Rattle.std.proofs.Common.{◌≡◌, ℕ, ◌↔◌, ◌&&◌, ◌||◌, Bool, true, false, List, [], ◌∷◌, refl, sym, ◌∙◌, ap, subst, Some, None}
use Rattle.std.specs.Prelude.{IsTrue, slice_get, slice_index_or}
use Rattle.std.proofs.lemmas.Bool.{eq-eqb, false≢true}
use Rattle.xdg_nodeset.specs.Tables.{Meet}
use Rattle.xdg_facts.proofs.Lookups.{read_some, read_none}
use Rattle.xdg_facts.specs.Rises.{has}
use Rattle.xdg_facts.proofs.Meetings.{found_here, none_end, none_more, none_start}
use Rattle.xdg_facts.proofs.Sets.{both}

pub some_met : (a b both_of rest : List ℕ) (node : ℕ) → both_of ≡ node ∷ rest → ((n : ℕ) → has both_of n ≡ (has a n && has b n)) → IsTrue true ↔ Meet a b
some_met a b both_of rest node e members =
    let here : has both_of node ≡ true = subst (λ z. has z node ≡ true) (sym e) (ap (λ q. q || has rest node) (eq-eqb node node refl)) in
    let found = (both (has a node) (has b node)).0 (sym (members node) ∙ here) in
    (λ t. (node, found.0, found.1), λ m. refl)

pub none_met : (a b both_of : List ℕ) → both_of ≡ [] → ((n : ℕ) → has both_of n ≡ (has a n && has b n)) → IsTrue false ↔ Meet a b
none_met a b both_of e members = (
  λ t. absurd (false≢true t),
  λ (x, l, r). absurd (false≢true (subst (λ z. has z x ≡ true) e (members x ∙ (both (has a x) (has b x)).1 (l, r)))),
)

pub no_set : (sets : List (List ℕ)) (label l : ℕ) (nodes : List ℕ) → None ≡ slice_get sets l → l ≡ label → IsTrue false ↔ Meet (slice_index_or sets label []) nodes
no_set sets label l nodes h e = (
  λ t. absurd (false≢true t),
  λ (x, i, r). absurd (false≢true (subst (λ z. has z x ≡ true) (read_none sets label [] (subst (λ z. None ≡ slice_get sets z) e h)) i)),
)

pub some_set : (sets : List (List ℕ)) (label l : ℕ) (nodes set : List ℕ) (b : Bool) → Some set ≡ slice_get sets l → l ≡ label → IsTrue b ↔ Meet set nodes → IsTrue b ↔ Meet (slice_index_or sets label []) nodes
some_set sets label l nodes set b h e m = subst (λ z. IsTrue b ↔ Meet z nodes) (sym (read_some sets label set [] (subst (λ z. Some set ≡ slice_get sets z) e h))) m

-- whether no set of a list meets another
pub ruleset none_steps = (none_start, none_more, none_end, found_here)
