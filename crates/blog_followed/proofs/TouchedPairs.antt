-- Pairs after changes of others, of which only those that take followed rows are made.
use Rattle.std.proofs.Common.{◌≡◌, ℕ, Bool, true, false, List, [], ◌∷◌, refl, sym, ap, ◌∙◌, subst}
use Rattle.blog_later.specs.Prints.{HavePrints}
use Rattle.blog_merge.specs.Merge.{pairs_by_later}
use Rattle.blog_merge.specs.Pairs.{Pair}
use Rattle.blog_merge.specs.Touching.{with_left}
use Rattle.blog_pairs.specs.Steps.{pairs_with}
use Rattle.blog_trans.specs.Changes.{Change}
use Rattle.blog_undo.specs.ByRows.{has_print_among}
use Rattle.blog_undo.specs.Mixed.{TableRow, takes}
use Rattle.blog_followed.specs.Following.{prints_touched, touching}
use Rattle.blog_followed.specs.Laws.{FollowsAlike, FollowsOn, TouchingSuffices}
use Rattle.blog_followed.proofs.Found.{AreFound, followed-alike, followed-found, found-followed, later-found, untouched-pairs}
use Rattle.blog_followed.proofs.Fingerprints.{after-other, after-touching, prints_after, touched-alike, touched-on, touching-alike, touching-first, touching-later, touching-on}

-- the same pairs, whose real rows are found
abbrev pub Makes : (TableRow → ℕ) → List ℕ → List Change → List Pair → Type 0
Makes f prints cs ps = (pairs_with false (touching f prints cs) ps ≡ pairs_with false cs ps) × AreFound f (prints_touched f prints cs) (pairs_with false cs ps)

pub makes-pairs : (f : TableRow → ℕ) (prints : List ℕ) (cs : List Change) (ps : List Pair) → AreFound f prints ps → Makes f prints cs ps
makes-pairs f prints [] ps are = (refl, are)
makes-pairs f prints (c ∷ cs) ps are = by_case (has_print_among f (takes c) prints) refl (λ qs rs found. makes-pairs f qs cs rs found)
  where
    found-at : (qs : List ℕ) (rs : List Pair) → prints_after f prints c ≡ qs → pairs_by_later c ps ≡ rs → AreFound f (prints_touched f qs cs) (pairs_with false cs rs)
        → AreFound f (prints_touched f (prints_after f prints c) cs) (pairs_with false cs (pairs_by_later c ps))
    found-at qs rs e h found =
        subst (λ (xs : List Pair). AreFound f (prints_touched f (prints_after f prints c) cs) (pairs_with false cs xs)) (sym h)
        (subst (λ (xs : List ℕ). AreFound f (prints_touched f xs cs) (pairs_with false cs rs)) (sym e) found)

    by_case : (b : Bool) → has_print_among f (takes c) prints ≡ b → ((qs : List ℕ) (rs : List Pair) → AreFound f qs rs → Makes f qs cs rs) → Makes f prints (c ∷ cs) ps
    by_case true e again =
        let (same, found) = again (with_left f c prints) (pairs_by_later c ps) (later-found f prints c ps are) in (
          ap (λ (ds : List Change). pairs_with false ds ps) (touching-first f prints c cs e) ∙ same,
          found-at (with_left f c prints) (pairs_by_later c ps) (after-touching f prints c e) refl found,
        )
    by_case false e again =
        let (same, found) = again prints ps are in
        let gone : pairs_by_later c ps ≡ ps = untouched-pairs f prints c ps are e in (
          ap (λ (ds : List Change). pairs_with false ds ps) (touching-later f prints c cs e) ∙ same ∙ ap (pairs_with false cs) (sym gone),
          found-at prints ps (after-other f prints c e) gone found,
        )

pub touching-suffices : (f : TableRow → ℕ) (prints : List ℕ) (cs : List Change) (ps : List Pair) → TouchingSuffices f prints cs ps
touching-suffices f prints cs ps are =
    let (same, found) = makes-pairs f prints cs ps (followed-found f prints ps are) in
    record { same = same; followed = found-followed f (prints_touched f prints cs) (pairs_with false cs ps) found }

pub follows-alike : (f : TableRow → ℕ) (prints kept : List ℕ) (cs : List Change) (ps : List Pair) → HavePrints prints kept → FollowsAlike f prints kept cs ps
follows-alike f prints kept cs ps are =
    record { touched = touched-alike f prints kept cs are; changes = touching-alike f prints kept cs are; pairs = followed-alike f prints kept ps are }

pub follows-on : (f : TableRow → ℕ) (prints : List ℕ) (cs ds : List Change) → FollowsOn f prints cs ds
follows-on f prints cs ds = record { touched = touched-on f prints cs ds; changes = touching-on f prints cs ds }
