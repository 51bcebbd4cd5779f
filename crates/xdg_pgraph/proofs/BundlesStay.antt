-- Where no entry of a node and no value of the edges of a bundle is lost, nothing is left to take there still.
use Rattle.std.proofs.Common.{◌≡◌, ℕ, inl, inr, Bool, true, List, sym, ◌∙◌, ap, length, subst}
use Rattle.std.specs.Prelude.{Contains, filter, ◌&&◌}
use Rattle.std.proofs.lemmas.Bool.{eqb-true}
use Rattle.xdg_problem.specs.declared.analysis.Edge.{Edge}
use Rattle.xdg_problem.specs.declared.parts.Group.{Group}
use Rattle.xdg_problem.specs.declared.parts.Parts.{Parts}
use Rattle.xdg_problem.specs.Arguments.{first_dim}
use Rattle.xdg_problem.specs.Boxes.{Has, LiesIn, entry_decision, edge_decision}
use Rattle.xdg_problem.specs.Places.{places}
use Rattle.xdg_facts.proofs.Filters.{filter_both, filter_contained}
use Rattle.xdg_facts.proofs.Contained.{contains_filter}
use Rattle.xdg_facts.proofs.Keeping.{filter_on}
use Rattle.xdg_rules.specs.Rules.{has, HasNoneWithin, IsGreatest, IsLeast, may_edges, must_edges}
use Rattle.xdg_rules.proofs.Shrinking.{may_be, must_be}
use Rattle.xdg_pgraph.specs.Bundles.{EdgeAt, IsBundleDone, IsOpen, count_of, near_node, numbers_of}
use Rattle.xdg_pgraph.specs.declared.bundle.Way.{Way}
use Rattle.xdg_pgraph.proofs.EdgesStay.{alike}
use Rattle.xdg_pgraph.proofs.Ends.{counted, in_bundle, in_from, in_parts}
use Rattle.xdg_facts.proofs.Truths.{and_swap, same_and, same_flag}

module _ (parts : Parts) (group : Group) (old new : List (List Bool)) (lies : LiesIn new old) (way : Way) (node label : ℕ)
    (entries : (c : ℕ) → Has old (entry_decision node) c → Has new (entry_decision node) c)
    (values : (e : Edge) → Contains (places parts) e → e.dim.0 ≡ first_dim group → near_node way e ≡ node → e.label.0 ≡ label → (v : ℕ) → Has old (edge_decision parts e) v → Has new (edge_decision parts e) v) where
  abbrev dim : ℕ
  dim = first_dim group

  abbrev here : Edge → Bool
  here = in_bundle way node label

  abbrev row : ℕ → List ℕ
  row = numbers_of way group node label

  here_alike : (e : Edge) → Contains (places parts) e → here e ≡ true → (may_be parts new dim e ≡ may_be parts old dim e) × (must_be parts new dim e ≡ must_be parts old dim e)
  here_alike e place inside =
      let told = in_parts way node label e inside in
      alike parts old new dim e (λ on v. same_flag (has new (edge_decision parts e) v) (has old (edge_decision parts e) v) (lies (edge_decision parts e) v) (values e place (eqb-true e.dim.0 dim on) told.0 told.1 v))

  -- so many of the places that pass either test
  same_count : (p q : Edge → Bool) → ((e : Edge) → Contains (places parts) e → here e ≡ true → p e ≡ q e) → count_of way (filter p (places parts)) node label ≡ count_of way (filter q (places parts)) node label
  same_count p q same =
      sym (counted way (filter p (places parts)) node label)
      ∙ ap length (filter_both here p (places parts)
      ∙ filter_on (λ e. p e && here e) (λ e. q e && here e) (places parts) (λ e c. and_swap (p e) (here e) ∙ same_and (here e) (p e) (q e) (same e c) ∙ and_swap (here e) (q e))
      ∙ sym (filter_both here q (places parts)))
      ∙ counted way (filter q (places parts)) node label

  may_counts : count_of way (may_edges parts new dim) node label ≡ count_of way (may_edges parts old dim) node label
  may_counts = same_count (may_be parts new dim) (may_be parts old dim) (λ e c inside. (here_alike e c inside).0)

  must_counts : count_of way (must_edges parts new dim) node label ≡ count_of way (must_edges parts old dim) node label
  must_counts = same_count (must_be parts new dim) (must_be parts old dim) (λ e c inside. (here_alike e c inside).1)

  -- a place that passes one test passes another
  moved : (p q : Edge → Bool) (e : Edge) → near_node way e ≡ node → e.label.0 ≡ label → (Contains (places parts) e → here e ≡ true → p e ≡ q e) → Contains (filter p (places parts)) e → Contains (filter q (places parts)) e
  moved p q e near label_is same c =
      let both = filter_contained p (places parts) e c in
      contains_filter q (places parts) e (sym (same both.0 (in_from way node label e near label_is)) ∙ both.1) both.0

  open_before : (e : Edge) → IsOpen way parts new dim node label e → IsOpen way parts old dim node label e
  open_before e is = record {
    may = record { among = moved (may_be parts new dim) (may_be parts old dim) e is.may.near is.may.label_is (λ c inside. (here_alike e c inside).0) is.may.among; near = is.may.near; label_is = is.may.label_is };
    free = λ c. is.free (moved (must_be parts old dim) (must_be parts new dim) e is.may.near is.may.label_is (λ d inside. sym (here_alike e d inside).1) c);
  }

  edge_before : (d v : ℕ) → EdgeAt way parts group new node label d v → EdgeAt way parts group old node label d v
  edge_before d v (inl r) = inl (record {
    place = r.place;
    is = open_before r.place r.is;
    says = r.says;
    full = subst (IsGreatest old node row) must_counts (let g = r.full in record { entry = g.entry; remains = lies (entry_decision node) g.entry g.remains; allowed = g.allowed; most = λ c h. g.most c (entries c h) });
  })
  edge_before d v (inr r) = inr (record {
    place = r.place;
    is = open_before r.place r.is;
    says = r.says;
    needed = subst (IsLeast old node row) may_counts (let g = r.needed in record { entry = g.entry; remains = lies (entry_decision node) g.entry g.remains; allowed = g.allowed; least = λ c h. g.least c (entries c h) });
  })

  pub bundle_stays : IsBundleDone way parts group node label old → IsBundleDone way parts group node label new
  bundle_stays done = record {
    entries = λ c h none. done.entries c (lies (entry_decision node) c h)
        (subst (HasNoneWithin (row c) (count_of way (must_edges parts old dim) node label)) may_counts
        (subst (λ l. HasNoneWithin (row c) l (count_of way (may_edges parts new dim) node label)) must_counts none));
    edges = λ d v h e. done.edges d v (lies d v h) (edge_before d v e);
  }
