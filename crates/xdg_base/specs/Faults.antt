-- The number and the name of each fault, which faults tell a number reached, and a fault that tells none.
use Rattle.std.specs.Prelude.{ℕ, Bool, true, false, List, codes}
use Rattle.xdg_base.specs.declared.faults.Cause.{Cause}
use Rattle.xdg_base.specs.declared.faults.Fault.{Fault}
use Rattle.xdg_base.specs.declared.faults.Cause.TheVariants as causes

abbrev pub number_of : Cause → ℕ
number_of causes.BadUtf8 = 20
number_of causes.BadChar = 21
number_of causes.OpenText = 22
number_of causes.Unexpected = 23
number_of causes.UnknownName = 30
number_of causes.Twice = 31
number_of causes.Cycle = 32
number_of causes.WrongKind = 33
number_of causes.NotMember = 34
number_of causes.MissingArg = 35
number_of causes.UnknownPrinciple = 36
number_of causes.WrongParams = 37
number_of causes.CardRange = 38
number_of causes.NoLex = 39
number_of causes.TooLong = 40
number_of causes.TooDeep = 41
number_of causes.TooManyUses = 42
number_of causes.TooManyEntries = 43
number_of causes.TooWide = 44
number_of causes.DomainTooBig = 45
number_of causes.EmptySentence = 50
number_of causes.TooManyWords = 51
number_of causes.UnknownWord = 52
number_of causes.NotAnalysis = 60
number_of causes.TooManyRules = 70
number_of causes.TooNested = 71
number_of causes.ArrangeLimit = 72
number_of causes.NoEntry = 73

abbrev pub name_of : Cause → List ℕ
name_of causes.BadUtf8 = codes "BadUtf8"
name_of causes.BadChar = codes "BadChar"
name_of causes.OpenText = codes "OpenText"
name_of causes.Unexpected = codes "Unexpected"
name_of causes.UnknownName = codes "UnknownName"
name_of causes.Twice = codes "Twice"
name_of causes.Cycle = codes "Cycle"
name_of causes.WrongKind = codes "WrongKind"
name_of causes.NotMember = codes "NotMember"
name_of causes.MissingArg = codes "MissingArg"
name_of causes.UnknownPrinciple = codes "UnknownPrinciple"
name_of causes.WrongParams = codes "WrongParams"
name_of causes.CardRange = codes "CardRange"
name_of causes.NoLex = codes "NoLex"
name_of causes.TooLong = codes "TooLong"
name_of causes.TooDeep = codes "TooDeep"
name_of causes.TooManyUses = codes "TooManyUses"
name_of causes.TooManyEntries = codes "TooManyEntries"
name_of causes.TooWide = codes "TooWide"
name_of causes.DomainTooBig = codes "DomainTooBig"
name_of causes.EmptySentence = codes "EmptySentence"
name_of causes.TooManyWords = codes "TooManyWords"
name_of causes.UnknownWord = codes "UnknownWord"
name_of causes.NotAnalysis = codes "NotAnalysis"
name_of causes.TooManyRules = codes "TooManyRules"
name_of causes.TooNested = codes "TooNested"
name_of causes.ArrangeLimit = codes "ArrangeLimit"
name_of causes.NoEntry = codes "NoEntry"

-- a limit was passed, so the fault tells how far: 40 to 45, 51, and 70 to 72
abbrev pub tells_reached : Cause → Bool
tells_reached causes.TooLong = true
tells_reached causes.TooDeep = true
tells_reached causes.TooManyUses = true
tells_reached causes.TooManyEntries = true
tells_reached causes.TooWide = true
tells_reached causes.DomainTooBig = true
tells_reached causes.TooManyWords = true
tells_reached causes.TooManyRules = true
tells_reached causes.TooNested = true
tells_reached causes.ArrangeLimit = true
tells_reached _ = false

-- a fault at a place that tells no number reached
abbrev pub fault_at : Cause → ℕ → Fault
fault_at cause place = record { cause = cause; at = place; reached = 0 }

-- a fault at a place that tells how much was reached
abbrev pub fault_reaching : Cause → ℕ → ℕ → Fault
fault_reaching cause place reached = record { cause = cause; at = place; reached = reached }
