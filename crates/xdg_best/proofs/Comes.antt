-- What the loop over statements comes to.
use Rattle.std.proofs.Common.{◌≡◌, ◌∙◌, ℕ, ◌+◌, ◌<◌, ◌≤◌, List, [], length, take, drop, get_or, refl, sym, ap, subst, Ok, Err}
use Rattle.std.proofs.lemmas.List.{take_all}
use Rattle.xdg_base.specs.declared.faults.Stop.{Stop}
use Rattle.xdg_base.specs.declared.faults.Stop.TheVariants as stops
use Rattle.xdg_problem.specs.Costs.{CostLists}
use Rattle.xdg_types.specs.Table.{Table}
use Rattle.xdg_best.specs.declared.building.Building.{Building}
use Rattle.xdg_best.specs.declared.statements.Statement.{Statement}
use Rattle.xdg_best.specs.Building.{Built, Adds, Comes}
use Rattle.xdg_best.specs.Meaning.{costs_of, entry_costs, label_costs, first_fault}
use Rattle.xdg_best.proofs.Firsts.{all_found, fault_found, none_found, to_here}

-- what has been built, and what is left to look at
pub record Going (table : Table) (entries : ℕ) (said : List Statement) (i : ℕ) (made : Building) : Type 0 where
  pub built : Built table entries (take i said) made
  pub rest : first_fault table entries (take i said) (drop i said) ≡ first_fault table entries [] said

pub going_none : (table : Table) (entries : ℕ) (said : List Statement) (made : Building) → Built table entries [] made → Going table entries said 0 made
going_none table entries said made built = record { built = built; rest = refl }

module _ (table : Table) (entries : ℕ) (said : List Statement) (i : ℕ) (made new : Building) (s : Statement) (g : Going table entries said i made) (within : i < length said) (item : s ≡ get_or said i s) where
  pub going_on : ((earlier : List Statement) → Built table entries earlier made → Adds table entries earlier s (Ok tt) new) → Going table entries said (i + 1) new
  going_on adds =
      let done = adds (take i said) g.built in
      record {
        built = subst (λ z. Built table entries z new) (sym (to_here table entries said i s within item)) done.1;
        rest = none_found table entries said i s within item _ g.rest done.0;
      }

  pub gone_wrong : (stop : Stop) → ((earlier : List Statement) → Built table entries earlier made → Adds table entries earlier s (Err stop) new) → Comes (first_fault table entries [] said) table said (Err stop)
  gone_wrong (stops.Fault f) adds = fault_found table entries said i s within item f _ g.rest (adds (take i said) g.built)
  gone_wrong stops.OutOfMemory adds = tt

same_lists : (costs : CostLists) (made : Building) (table : Table) (said : List Statement) → costs.entries ≡ made.entries → costs.labels ≡ made.labels → made.entries ≡ entry_costs said → made.labels ≡ label_costs table said → costs ≡ costs_of table said
same_lists costs made table said a b c d = (λ i. let made : CostLists = record { entries = (a ∙ c) i; labels = (b ∙ d) i } in made)

pub gone_through : (table : Table) (entries : ℕ) (said : List Statement) (i : ℕ) (made : Building) (costs : CostLists) → Going table entries said i made → length said ≤ i → costs.entries ≡ made.entries → costs.labels ≡ made.labels
    → Comes (first_fault table entries [] said) table said (Ok costs)
gone_through table entries said i made costs g over same_entries same_labels =
    let whole : take i said ≡ said = take_all i said over in (
      all_found table entries said i _ over g.rest,
      same_lists costs made table said same_entries same_labels (g.built.entries_are ∙ ap entry_costs whole) (g.built.labels_are ∙ ap (label_costs table) whole),
    )
