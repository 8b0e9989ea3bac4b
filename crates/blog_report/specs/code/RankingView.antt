-- What a contract sees of a ranking.
use Rattle.std.specs.Prelude.{ℕ, List}
use Rattle.blog_report.specs.declared.facts.UnitFact.{UnitFact}
use Rattle.blog_report.specs.declared.ranking.Ranked.{Ranked}
use Rattle.blog_report.specs.declared.ranking.Ranking.{Ranking}

-- a unit, and the number that it is ranked by
abbrev pub measured : ℕ → UnitFact → Ranked
measured measure unit = record { measure = measure; unit = unit }

-- its units
abbrev pub ranked_units : {A : Type 0} → Ranking A → List Ranked
ranked_units ranking = ranking.ranked.items
