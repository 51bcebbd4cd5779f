-- There is exactly one list of the live prefixes after a start, and exactly one of the solutions.
use Rattle.std.proofs.Common.{ℕ, List}
use Rattle.std.specs.Prelude.{filter, map}
use Rattle.xdg_facts.specs.Listing.{HasOneListing}
use Rattle.xdg_facts.specs.Whole.{is_whole}
use Rattle.xdg_facts.proofs.Exists.{decided_listing}
use Rattle.xdg_facts.proofs.Unique.{listing_unique}
use Rattle.xdg_facts.proofs.Wholes.{whole_listing}
use Rattle.xdg_problem.specs.declared.analysis.Analysis.{Analysis}
use Rattle.xdg_problem.specs.declared.parts.Parts.{Parts}
use Rattle.xdg_problem.specs.Vectors.{shape, analysis_of}
use Rattle.xdg_problem.specs.Problems.{IsProblem}
use Rattle.xdg_problem.specs.Live.{Live}
use Rattle.xdg_problem.specs.Solutions.{IsSolutionList}
use Rattle.xdg_problem.proofs.SolutionLists.{solutions_of}
use Rattle.xdg_problem.proofs.LiveDecided.{live_decided}

pub one_live_list : (parts : Parts) (start : List ℕ) → HasOneListing (shape parts) (Live parts) start
one_live_list parts start =
    let found = decided_listing (shape parts) (Live parts) start (live_decided parts) in
    record {
      members = found.0;
      listing = found.1;
      only = λ xs listing. listing_unique (shape parts) (Live parts) start found.0 xs found.1 listing;
    }

-- that it is the only one is `solutions_unique`
pub some_solution_list : (parts : Parts) (start : List ℕ) → IsProblem parts → (list : List Analysis) × IsSolutionList parts start list
some_solution_list parts start is =
    let counted = one_live_list parts start in
    (map (analysis_of parts) (filter (is_whole (shape parts)) counted.members), solutions_of parts is start (filter (is_whole (shape parts)) counted.members) (whole_listing (shape parts) (Live parts) start counted.members counted.listing))
