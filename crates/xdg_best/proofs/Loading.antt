-- The costs of a file: accepted or rejected.
use Rattle.std.proofs.Common.{◌≡◌, ℕ, ◌+◌, ◌<◌, ◌≤◌, List, length, Some, Ok, Err, refl, sym, ap, subst, arith}
use Rattle.std.specs.Prelude.{Option, Result}
use Rattle.xdg_base.specs.declared.faults.Cause.TheVariants as causes
use Rattle.xdg_base.specs.declared.faults.Fault.{Fault}
use Rattle.xdg_base.specs.declared.faults.Stop.{Stop}
use Rattle.xdg_base.specs.declared.faults.Stop.TheVariants as stops
use Rattle.xdg_best.specs.Costed.{HasBadCosts, HasCosts, IsBadCosts, too_long, wrong, costs_limit}
use Rattle.xdg_best.specs.Texts.{IsAnswer, IsRefused, Says, Tells}
use Rattle.xdg_base.specs.Told.{Gives}
use Rattle.xdg_io.specs.Files.{HasFile}
use Rattle.xdg_inputs.specs.Refusals.{RejectsAt, Stops, refusal_of}
use Rattle.xdg_inputs.specs.Stages.{Accepts, Rejects}
use Rattle.xdg_inputs.specs.declared.refusals.Refusal.{Refusal}
use Rattle.xdg_inputs.proofs.Trees.{first_byte, told_file}
use Rattle.xdg_problem.specs.Costs.{CostLists}
use Rattle.xdg_types.specs.Table.{Table}
use Rattle.xdg_base.specs.Faults.{fault_reaching}
use Rattle.xdg_facts.proofs.Options.{one_value}

module _ (table : Table) (entries : ℕ) where
  abbrev Only : List ℕ → Result CostLists Stop → Type 0
  Only text result = (answer : Result CostLists Fault) → IsAnswer text table entries answer → Gives answer result

  module _ (files : List ℕ → Option (List ℕ)) (name text : List ℕ) (file : files name ≡ Some text) where
    -- ---- a text that says costs

    never_bad : (costs : CostLists) (f : Fault) → length text ≤ costs_limit → Only text (Ok costs) → IsBadCosts table entries text f → ⊥
    never_bad costs f within only (too_long long e) = omega (arith, within, long)
    never_bad costs f within only (wrong small u) = let e : ◌≡◌ {A = Result CostLists Fault} (Err f) (Ok costs) = only (Err f) u in cc

    same_costs : (costs other : CostLists) → Only text (Ok costs) → Says text table entries other → other ≡ costs
    same_costs costs other only says = let e : ◌≡◌ {A = Result CostLists Fault} (Ok other) (Ok costs) = only (Ok other) says in cc

    costs_accepted : (costs : CostLists) → length text ≤ costs_limit → Says text table entries costs → Only text (Ok costs) → Accepts CostLists (HasBadCosts files name table entries) (HasCosts files name table entries) costs
    costs_accepted costs within says only = record {
      has = record { text = text; file = file; within = within; says = says };
      one = λ other h. same_costs costs other only (subst (λ z. Says z table entries other) (one_value (files name) h.text text h.file file) h.says);
      never = λ t f q. never_bad costs f within only (subst (λ z. IsBadCosts table entries z f) (one_value (files name) t text q.file file) q.because);
    }

    -- ---- a text that doesn't

    one_bad : (f g : Fault) → length text ≤ costs_limit → Only text (Err (stops.Fault f)) → IsBadCosts table entries text g → g ≡ f
    one_bad f g within only (too_long long e) = absurd (omega (arith, within, long))
    one_bad f g within only (wrong small u) = let e : ◌≡◌ {A = Result CostLists Fault} (Err g) (Err f) = only (Err g) u in cc

    costs_rejected : (f : Fault) → length text ≤ costs_limit → IsRefused text table entries f → Only text (Err (stops.Fault f)) → Rejects CostLists (HasBadCosts files name table entries) (HasCosts files name table entries) text f
    costs_rejected f within u only = record {
      is = record { file = file; because = wrong within u };
      one = λ t g q. let e = one_value (files name) t text q.file file in (e, one_bad f g within only (subst (λ z. IsBadCosts table entries z g) e q.because));
      never = λ costs h.
          let e : ◌≡◌ {A = Result CostLists Fault} (Ok costs) (Err f) = only (Ok costs) (subst (λ z. Says z table entries costs) (one_value (files name) h.text text h.file file) h.says) in cc;
    }

    long_one : (g : Fault) → costs_limit < length text → IsBadCosts table entries text g → g ≡ fault_reaching causes.TooLong 0 (costs_limit + 1)
    long_one g long (too_long more e) = e
    long_one g long (wrong small u) = absurd (omega (arith, long, small))

    pub long_rejected : costs_limit < length text → RejectsAt CostLists (HasBadCosts files name table entries) (HasCosts files name table entries) (fault_reaching causes.TooLong 0 (costs_limit + 1)) (record { line = 1; column = 1 })
    long_rejected long = record {
      text = text;
      rejects = record {
        is = record { file = file; because = too_long long refl };
        one = λ t g q. let e = one_value (files name) t text q.file file in (e, long_one g long (subst (λ z. IsBadCosts table entries z g) e q.because));
        never = λ costs h. let e = ap length (one_value (files name) h.text text h.file file) in let w = h.within in omega (arith, e, w, long);
      };
      place_is = first_byte text (fault_reaching causes.TooLong 0 (costs_limit + 1)) refl;
    }

  -- ---- what a shelf gives

  pub loaded_accepted : (told : Option (List ℕ → Option (List ℕ))) (files : List ℕ → Option (List ℕ)) (name text read : List ℕ) (costs : CostLists) → told ≡ Some files → HasFile told name text → length text ≤ costs_limit → read ≡ text
      → Tells read table entries (Ok costs) → Only read (Ok costs) → Accepts CostLists (HasBadCosts files name table entries) (HasCosts files name table entries) costs
  loaded_accepted told files name text read costs t has within e says only =
      costs_accepted files name text (told_file told files name text t has) costs within (subst (λ z. Says z table entries costs) e says) (subst (λ z. Only z (Ok costs)) e only)

  read_stops : (told : Option (List ℕ → Option (List ℕ))) (files : List ℕ → Option (List ℕ)) (name text : List ℕ) (old new : ℕ) (stop : Stop) → HasFile told name text → length text ≤ costs_limit → Tells text table entries (Err stop) → Only text (Err stop)
      → Stops (told ≡ Some files) old new CostLists (HasBadCosts files name table entries) (HasCosts files name table entries) (refusal_of text stop)
  read_stops told files name text old new (stops.Fault f) has within tells only = λ t. record { text = text; rejects = costs_rejected files name text (told_file told files name text t has) f within tells only; place_is = refl }
  read_stops told files name text old new stops.OutOfMemory has within tells only = tt

  pub loaded_stops : (told : Option (List ℕ → Option (List ℕ))) (files : List ℕ → Option (List ℕ)) (name text read : List ℕ) (old new : ℕ) (stop : Stop) (refusal : Refusal) → HasFile told name text → length text ≤ costs_limit → read ≡ text
      → Tells read table entries (Err stop) → Only read (Err stop) → refusal ≡ refusal_of text stop → Stops (told ≡ Some files) old new CostLists (HasBadCosts files name table entries) (HasCosts files name table entries) refusal
  loaded_stops told files name text read old new stop refusal has within e tells only r =
      subst (Stops (told ≡ Some files) old new CostLists (HasBadCosts files name table entries) (HasCosts files name table entries)) (sym r)
      (read_stops told files name text old new stop has within (subst (λ z. Tells z table entries (Err stop)) e tells) (subst (λ z. Only z (Err stop)) e only))
