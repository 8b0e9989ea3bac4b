-- The units with the greatest numbers.
use Rattle.std.specs.Prelude.{◌≤◌, ◌==◌, nat_lt, if◌then◌else◌, List, [], ◌∷◌, take}
use Rattle.blog_report.specs.declared.ranking.Ranked.{Ranked}

-- a unit, behind those whose numbers aren't less
abbrev pub placed : Ranked → List Ranked → List Ranked
placed u [] = u ∷ []
placed u (v ∷ vs) = if nat_lt v.measure u.measure then u ∷ v ∷ vs else v ∷ placed u vs

-- the 20 units with the greatest numbers, with a new one; one of the number 0 isn't ranked
abbrev pub kept : Ranked → List Ranked → List Ranked
kept u us = if u.measure == 0 then us else take 20 (placed u us)

-- no unit has a greater number than this one
abbrev pub NoneGreater : Ranked → List Ranked → Type 0
NoneGreater u [] = Unit {0}
NoneGreater u (v ∷ vs) = v.measure ≤ u.measure

-- the greatest first
abbrev pub IsRanked : List Ranked → Type 0
IsRanked [] = Unit {0}
IsRanked (u ∷ us) = NoneGreater u us × IsRanked us
