-- Rows that are followed through changes of others, and the pairs that these make.
use Rattle.std.proofs.Common.{◌≡◌, ◌≤◌, ℕ, Bool, true, false, List, [], ◌∷◌, ◌++◌, length, map, take, refl, sym, ap, ap₂, subst, ◌∙◌, append_assoc, append-nil}
use Rattle.std.specs.Prelude.{if◌then◌else◌, nat_eq}
use Rattle.std.specs.List.{flat_map, list_any}
use Rattle.std.proofs.lemmas.List.{take_all}
use Rattle.blog_differences.specs.Outside.{outside_by}
use Rattle.blog_followed.proofs.OfSteps.{follows-pairs}
use Rattle.blog_followed.proofs.TouchedPairs.{follows-alike, follows-on, touching-suffices}
use Rattle.blog_followed.specs.Following.{HasPrints, others_in, prints_touched, touching}
use Rattle.blog_followed.specs.code.FollowedView.{kept_told}
use Rattle.blog_followed.specs.declared.followed.Followed.{Followed}
use Rattle.blog_later.specs.Among.{Step, Selected, Other, marked_in, selected_in}
use Rattle.blog_later.specs.Later.{changes_in}
use Rattle.blog_later.specs.Prints.{HavePrints, prints_left, print_of}
use Rattle.blog_merge.specs.Merge.{pairs_after, pairs_by, pairs_of}
use Rattle.blog_merge.specs.Pairs.{Pair}
use Rattle.blog_pairs.specs.Steps.{marked_by, pairs_with}
use Rattle.blog_trans.specs.Changes.{Change}
use Rattle.blog_undo.specs.Mixed.{Marked}
use Rattle.blog_untouched.proofs.PutRecorded.{taken-append}
use Rattle.blog_untouched.specs.Steps.{taken_of}
use Rattle.blog_untouched.specs.declared.rows.SelectedRow.{SelectedRow}
use Rattle.blog_untouched.specs.declared.rows.TakenRow.{TakenRow}
use Rattle.undo_run.specs.After.{Later, later_changes, later_step}
use Rattle.undo_run.specs.code.Tracks.{Follows, HasFollowed, Tracks}
use Rattle.undo_run.specs.declared.tracked.Tracked.{Tracked}

-- ---- several lists of changes

have-both : (xs ys zs : List ℕ) → HavePrints xs ys → HavePrints ys zs → HavePrints xs zs
have-both xs ys zs one two p = two p ∙ one p

follows-none : {A : Type 0} (left : List ℕ) (old : Followed A) → Follows left [] old old
follows-none left old = record { prints = λ p. refl; kept = sym (append-nil (kept_told old)) }

follows-more : {A : Type 0} (left : List ℕ) (cs ds : List Change) (old now new : Followed A) → Follows left cs old now → Follows left ds now new → Follows left (cs ++ ds) old new
follows-more left cs ds old now new one two =
    let had = left ++ old.prints.keys in
    let has = left ++ now.prints.keys in
    let on = follows-on print_of had cs ds in
    let alike = follows-alike print_of (prints_touched print_of had cs) has ds [] one.prints in record {
      prints = subst (λ (qs : List ℕ). HavePrints qs (left ++ new.prints.keys)) (sym on.touched) (have-both _ (prints_touched print_of has ds) (left ++ new.prints.keys) alike.touched two.prints);
      kept =
          two.kept ∙ (λ i. one.kept i ++ alike.changes i) ∙ append_assoc (kept_told old) (touching print_of had cs) (touching print_of (prints_touched print_of had cs) ds)
          ∙ ap (λ (es : List Change). kept_told old ++ es) (sym on.changes);
    }

pub tracks-none : {A : Type 0} (left : List ℕ) (old : Tracked A) → Tracks left [] old old
tracks-none left old = record { rows = refl; taken = sym (append-nil old.record.taken.items); follows = refl; followed = λ on. follows-none left old.followed }

pub tracks-more : {A : Type 0} (left : List ℕ) (cs ds : List Change) (old now new : Tracked A) → Tracks left cs old now → Tracks left ds now new → Tracks left (cs ++ ds) old new
tracks-more left cs ds old now new one two =
    let n = length old.record.rows.items in record {
      rows = two.rows ∙ one.rows;
      taken =
          two.taken
          ∙ ap₂ (λ (ts : List TakenRow) (rs : List SelectedRow). ts ++ taken_of (length rs) left ds) one.taken one.rows
          ∙ append_assoc old.record.taken.items (taken_of n left cs) (taken_of n left ds)
          ∙ ap (λ (ts : List TakenRow). old.record.taken.items ++ ts) (sym (taken-append n left cs ds));
      follows = two.follows ∙ one.follows;
      followed = λ on. follows-more left cs ds old.followed now.followed new.followed (one.followed on) (two.followed (one.follows ∙ on));
    }

-- ---- pairs

after-both : (ps : List Pair) (ms ns : List Marked) → pairs_after ps (ms ++ ns) ≡ pairs_after (pairs_after ps ms) ns
after-both ps [] ns = refl
after-both ps (m ∷ ms) ns = after-both (pairs_by m ps) ms ns

marked-append : (cs ds : List Change) → marked_by false cs ++ marked_by false ds ≡ marked_by false (cs ++ ds)
marked-append [] ds = refl
marked-append (c ∷ cs) ds = ap (λ (ms : List Marked). record { change = c; selected = false } ∷ ms) (marked-append cs ds)

-- later logs are others behind all steps
marked-later : (ls : List Later) → marked_in (map later_step ls) ≡ marked_by false (later_changes ls)
marked-later [] = refl
marked-later (l ∷ ls) = ap (λ (ms : List Marked). marked_by false (changes_in l.handed l.units) ++ ms) (marked-later ls) ∙ marked-append (changes_in l.handed l.units) (later_changes ls)

marked-behind : (ss : List Step) (ls : List Later) → marked_in (ss ++ map later_step ls) ≡ marked_in ss ++ marked_by false (later_changes ls)
marked-behind [] ls = marked-later ls
marked-behind (Selected cs ∷ ss) ls =
    ap (λ (ms : List Marked). marked_by true cs ++ ms) (marked-behind ss ls) ∙ sym (append_assoc (marked_by true cs) (marked_in ss) (marked_by false (later_changes ls)))
marked-behind (Other cs ∷ ss) ls =
    ap (λ (ms : List Marked). marked_by false cs ++ ms) (marked-behind ss ls) ∙ sym (append_assoc (marked_by false cs) (marked_in ss) (marked_by false (later_changes ls)))

-- none of them is left out
outside-none : (ms : List Marked) → outside_by [] ms ≡ ms
outside-none [] = refl
outside-none (m ∷ ms) = refl

outside-others : (marks : List Bool) (cs : List Change) → outside_by marks (marked_by false cs) ≡ marked_by false cs
outside-others [] cs = outside-none (marked_by false cs)
outside-others (mark ∷ marks) [] = refl
outside-others (mark ∷ marks) (c ∷ cs) = ap (λ (ms : List Marked). record { change = c; selected = false } ∷ ms) (outside-others (mark ∷ marks) cs)

outside-behind : (marks : List Bool) (ms : List Marked) (cs : List Change) → outside_by marks (ms ++ marked_by false cs) ≡ outside_by marks ms ++ marked_by false cs
outside-behind marks [] cs = outside-others marks cs
outside-behind [] (m ∷ ms) cs = refl
outside-behind (mark ∷ marks) (m ∷ ms) cs = by_case m.selected mark (outside-behind marks ms cs) (outside-behind (mark ∷ marks) ms cs)
  where
    by_case : (s b : Bool) → outside_by marks (ms ++ marked_by false cs) ≡ outside_by marks ms ++ marked_by false cs → outside_by (mark ∷ marks) (ms ++ marked_by false cs) ≡ outside_by (mark ∷ marks) ms ++ marked_by false cs
        → (if s then (if b then outside_by marks (ms ++ marked_by false cs) else m ∷ outside_by marks (ms ++ marked_by false cs)) else m ∷ outside_by (mark ∷ marks) (ms ++ marked_by false cs))
        ≡ (if s then (if b then outside_by marks ms else m ∷ outside_by marks ms) else m ∷ outside_by (mark ∷ marks) ms) ++ marked_by false cs
    by_case true true one two = one
    by_case true false one two = ap (λ (ns : List Marked). m ∷ ns) one
    by_case false b one two = ap (λ (ns : List Marked). m ∷ ns) two

pairs-behind : (marks : List Bool) (ss : List Step) (ls : List Later) → pairs_of (outside_by marks (marked_in (ss ++ map later_step ls))) ≡ pairs_with false (later_changes ls) (pairs_of (outside_by marks (marked_in ss)))
pairs-behind marks ss ls =
    ap (λ (ms : List Marked). pairs_of (outside_by marks ms)) (marked-behind ss ls) ∙ ap pairs_of (outside-behind marks (marked_in ss) (later_changes ls))
    ∙ after-both [] (outside_by marks (marked_in ss)) (marked_by false (later_changes ls))

-- The changes of later logs that are kept make the same pairs as all of them, if rows were followed through those of the log.
pub keeps-pairs : {A : Type 0} (left : List ℕ) (cs : List Change) (ss : List Step) (ls : List Later) (first followed : Followed A) (marks : List Bool)
    → HasPrints left (prints_left print_of (flat_map (λ cs. cs) (selected_in ss))) → cs ≡ others_in ss → HasFollowed left cs first → Follows left (later_changes ls) first followed
    → pairs_with false (kept_told followed) (pairs_of (outside_by marks (marked_in ss))) ≡ pairs_of (outside_by marks (marked_in (ss ++ map later_step ls)))
keeps-pairs left cs ss ls first followed marks has are one two =
    let ps = pairs_of (outside_by marks (marked_in ss)) in
    let later = later_changes ls in
    let prints = prints_touched print_of left (others_in ss) in
    let had = left ++ first.prints.keys in
    let same : HavePrints prints had = subst (λ (ds : List Change). HavePrints (prints_touched print_of left ds) had) are one.prints in
    let alike = follows-alike print_of prints had later ps same in
    let kept : kept_told followed ≡ touching print_of prints later = two.kept ∙ ap (λ (ds : List Change). ds ++ touching print_of had later) one.none ∙ alike.changes in
    ap (λ (ds : List Change). pairs_with false ds ps) kept ∙ (touching-suffices print_of prints later ps (follows-pairs print_of left marks ss has)).same ∙ sym (pairs-behind marks ss ls)

-- what all lists left has the fingerprints of each
pub left-has : (css : List (List Change)) (lists : ℕ) (prints : List ℕ) → length css ≤ lists → HavePrints (prints_left print_of (flat_map (λ cs. cs) (take lists css))) prints → HasPrints prints (prints_left print_of (flat_map (λ cs. cs) css))
left-has css lists prints enough have p there =
    have p ∙ ap (λ (ds : List (List Change)). list_any (nat_eq p) (prints_left print_of (flat_map (λ cs. cs) ds))) (take_all lists css enough) ∙ there
