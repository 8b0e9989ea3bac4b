use Rattle.std.specs.Prelude.{nat_eq, nat_lt}
use Rattle.std.proofs.Common.{◌≡◌, ℕ, zero, suc, ◌<◌, ◌≤◌, Bool, true, false, List, [], ◌∷◌, take, refl, arith}
use Rattle.std.proofs.lemmas.Bool.{ltb-false, ltb-true}
use Rattle.blog_report.specs.declared.ranking.Ranked.{Ranked}
use Rattle.blog_report.specs.Ranking.{IsRanked, NoneGreater, kept, placed}
use Rattle.blog_report.proofs.laws.rankings_are_sorted.Goals as goal

none-greater : (v u : Ranked) (us : List Ranked) → u.measure ≤ v.measure → NoneGreater v us → NoneGreater v (placed u us)
none-greater v u [] less none = less
none-greater v u (w ∷ ws) less none = by_case (nat_lt w.measure u.measure) refl where
  by_case : (before : Bool) → nat_lt w.measure u.measure ≡ before → NoneGreater v (placed u (w ∷ ws))
  by_case true is = rw is less
  by_case false isnt = rw isnt none

placed-ranked : (u : Ranked) (us : List Ranked) → IsRanked us → IsRanked (placed u us)
placed-ranked u [] ranked = (tt, tt)
placed-ranked u (v ∷ vs) (first, rest) = by_case (nat_lt v.measure u.measure) refl (placed-ranked u vs rest) where
  by_case : (before : Bool) → nat_lt v.measure u.measure ≡ before → IsRanked (placed u vs) → IsRanked (placed u (v ∷ vs))
  by_case true is behind = let less : v.measure < u.measure = ltb-true v.measure u.measure is in rw is (omega arith, (first, rest))
  by_case false isnt behind = let more : u.measure ≤ v.measure = ltb-false v.measure u.measure isnt in rw isnt (none-greater v u vs more first, behind)

none-among : (n : ℕ) (u : Ranked) (us : List Ranked) → NoneGreater u us → NoneGreater u (take n us)
none-among zero u us none = tt
none-among (suc n) u [] none = tt
none-among (suc n) u (v ∷ vs) none = none

take-ranked : (n : ℕ) (us : List Ranked) → IsRanked us → IsRanked (take n us)
take-ranked zero us ranked = tt
take-ranked (suc n) [] ranked = tt
take-ranked (suc n) (u ∷ us) (first, rest) = (none-among n u us first, take-ranked n us rest)

kept-ranked : (u : Ranked) (us : List Ranked) → IsRanked us → IsRanked (kept u us)
kept-ranked u us ranked = by_case (nat_eq u.measure 0) refl where
  by_case : (none : Bool) → nat_eq u.measure 0 ≡ none → IsRanked (kept u us)
  by_case true is = rw is ranked
  by_case false isnt = rw isnt (take-ranked 20 (placed u us) (placed-ranked u us ranked))

pub returns : goal.returns
returns c u us ranked = kept-ranked u us ranked
