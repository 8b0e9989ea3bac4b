-- Lines that are put in their order.
use Rattle.std.proofs.Common.{◌≡◌, ℕ, ◌+◌, ◌<◌, ◌≤◌, List, [], ◌∷◌, ◌++◌, length, map, drop, Option, refl, sym, ap, subst, ◌∙◌}
use Rattle.std.proofs.lemmas.List.{drop_all, drop_more}
use Rattle.std.specs.Prelude.{slice_index_or}
use Rattle.std.specs.List.Sorted.{IsPermutation, IsSortedByKey, IsStableByKey}
use Rattle.std.specs.Ordering.{nat_cmp}
use Rattle.blog_device.specs.Devices.{AppendsBeginning}
use Rattle.blog_list.specs.Lines.{LogList, Shown}
use Rattle.blog_list.specs.Sorted.{IsArranged}
use Rattle.blog_list.specs.Texts.{IsLine, name_above}
use Rattle.blog_list.specs.declared.listing.Sorting.{Sorting}
use Rattle.blog_list.specs.declared.listing.Sorting.TheVariants.{Place, Rows}
use Rattle.blog_list.specs.declared.ranking.Ranking.{Ranking}
use Rattle.blog_list.specs.declared.ranking.RankedLine.{RankedLine}
use Rattle.blog_list.specs.code.Held.{HasBegun, HasListed, HasWritten, Sheet}
use Rattle.blog_list.specs.code.Ranked.{AreRanked, HasHeld, HasHeldBy, HasSorted, HasSortedBegun, line_bytes}
use Rattle.blog_list.proofs.Holding.{sorted-begun, sorted-whole}
use Rattle.blog_list.proofs.OnTheWay.{IsListing, listing-broken, listing-end, listing-left, listing-more, listing-none, listing-unbegun, listing-written}
use Rattle.blog_list.proofs.Ranked.{AreSortedLines, lines-sorted}

-- what is listed of units in the order of the lines
abbrev pub in_order : LogList → List Shown → LogList
in_order l units = record l { units = units; sorting = Place }

-- those in front of number n are written or held, behind the name of their log
pub record IsPutting (sheet : Sheet) (l : LogList) (held : List ℕ) (lines : List RankedLine) (n : ℕ) (had has : Option (List ℕ)) (text : List ℕ) : Type 0 where
  pub sorted : AreSortedLines sheet l held lines
  pub list : IsListing sheet (in_order l (map sorted.of lines)) (map sorted.of (drop n lines)) had has text

abbrev pub ArePut : List ℕ → List RankedLine → List ℕ → List RankedLine → ℕ → Option (List ℕ) → Option (List ℕ) → List ℕ → List ℕ → Type 0
ArePut was xs held lines n had has before text = (sheet : Sheet) (l : LogList) → l.sorting ≡ Rows → before ≡ sheet.before ++ name_above sheet.form l.name
    → AreRanked sheet l l.units was xs → IsPutting sheet l held lines n had has text

pub put-none : (was held : List ℕ) (xs ys : List RankedLine) (had : Option (List ℕ)) (before : List ℕ) → held ≡ was → IsPermutation xs ys
    → IsSortedByKey (λ e. e.fewer) nat_cmp ys → IsStableByKey (λ e. e.fewer) nat_cmp xs ys → ArePut was xs held ys 0 had had before before
put-none was held xs ys had before same moved sorted stable sheet l rows named ranked =
    let lines = subst (λ (bytes : List ℕ). AreSortedLines sheet l bytes ys) (sym same) (lines-sorted sheet l was xs ys ranked moved sorted stable) in record {
      sorted = lines;
      list = listing-none sheet (in_order l (map lines.of ys)) (map lines.of ys) had before refl refl named;
    }

-- the n-th line
next-line : (sheet : Sheet) (l : LogList) (held : List ℕ) (ys : List RankedLine) (n : ℕ) (had has : Option (List ℕ)) (text more : List ℕ) (e : RankedLine) → (at : IsPutting sheet l held ys n had has text)
    → n < length ys → e ≡ slice_index_or ys n e → more ≡ text ++ line_bytes held e → IsListing sheet (in_order l (map at.sorted.of ys)) (map at.sorted.of (drop (n + 1) ys)) had has more
next-line sheet l held ys n had has text more e at below is grown =
    let of = at.sorted.of in
    let split = drop_more ys n e below ∙ ap (λ (x : RankedLine). x ∷ drop (n + 1) ys) (sym is) in
    let line = subst (λ (x : RankedLine). IsLine sheet.form sheet.zone sheet.gtids sheet.width l.name (of x) (line_bytes held x)) (sym is) (at.sorted.each n e below).line in
    listing-more sheet (in_order l (map of ys)) (map of (drop n ys)) (map of (drop (n + 1) ys)) had has text more (line_bytes held e) (of e) at.list (ap (map of) split) line grown

pub put-more : (was held : List ℕ) (xs ys : List RankedLine) (n : ℕ) (had has now : Option (List ℕ)) (before text more after : List ℕ) (e : RankedLine) → ArePut was xs held ys n had has before text
    → n < length ys → e ≡ slice_index_or ys n e → more ≡ text ++ line_bytes held e → HasWritten has now more after → ArePut was xs held ys (n + 1) had now before after
put-more was held xs ys n had has now before text more after e put below is grown written sheet l rows named ranked =
    let at = put sheet l rows named ranked in record {
      sorted = at.sorted;
      list = listing-written sheet (in_order l (map at.sorted.of ys)) (map at.sorted.of (drop (n + 1) ys)) had has now more after
          (next-line sheet l held ys n had has text more e at below is grown) written;
    }

-- units by rows are so arranged
by-rows : (l : LogList) (units : List Shown) → l.sorting ≡ Rows → IsArranged Rows l.choice l.units units → IsArranged l.sorting l.choice l.units units
by-rows l units rows arranged = subst (λ (sorting : Sorting). IsArranged sorting l.choice l.units units) (sym rows) arranged

-- no more than a beginning is written
pub put-broken : {A : Type 0} (ranking : Ranking A) (held : List ℕ) (ys : List RankedLine) (n : ℕ) (had has now : Option (List ℕ)) (before text more : List ℕ) (e : RankedLine)
    → ArePut ranking.held.items ranking.lines.items held ys n had has before text → n < length ys → e ≡ slice_index_or ys n e → more ≡ text ++ line_bytes held e → AppendsBeginning has now more → HasSortedBegun had now before ranking
put-broken ranking held ys n had has now before text more e put below is grown begun sheet l rows named ranked =
    let at = put sheet l rows named ranked in
    sorted-begun sheet l (map at.sorted.of ys) had now (by-rows l (map at.sorted.of ys) rows at.sorted.arranged)
    (listing-broken sheet (in_order l (map at.sorted.of ys)) (map at.sorted.of (drop (n + 1) ys)) had has now more (next-line sheet l held ys n had has text more e at below is grown) begun)

pub put-left : {A : Type 0} (ranking : Ranking A) (held : List ℕ) (ys : List RankedLine) (n : ℕ) (had has : Option (List ℕ)) (before text : List ℕ)
    → ArePut ranking.held.items ranking.lines.items held ys n had has before text → HasSortedBegun had has before ranking
put-left ranking held ys n had has before text put sheet l rows named ranked =
    let at = put sheet l rows named ranked in
    sorted-begun sheet l (map at.sorted.of ys) had has (by-rows l (map at.sorted.of ys) rows at.sorted.arranged)
    (listing-left sheet (in_order l (map at.sorted.of ys)) (map at.sorted.of (drop n ys)) had has text at.list)

-- nothing was put
pub put-nothing : {A : Type 0} (ranking : Ranking A) (had : Option (List ℕ)) (before : List ℕ) → HasSortedBegun had had before ranking
put-nothing ranking had before sheet l rows named ranked = listing-unbegun sheet.form sheet.zone sheet.gtids sheet.width l had sheet.before

-- all are written or held
pub put-end : {A : Type 0} (ranking : Ranking A) (held : List ℕ) (ys : List RankedLine) (n : ℕ) (had has : Option (List ℕ)) (before text : List ℕ)
    → ArePut ranking.held.items ranking.lines.items held ys n had has before text → length ys ≤ n → HasSorted had has before text ranking
put-end ranking held ys n had has before text put over sheet l rows named ranked =
    let at = put sheet l rows named ranked in
    sorted-whole sheet l (map at.sorted.of ys) had has text (by-rows l (map at.sorted.of ys) rows at.sorted.arranged)
    (listing-end sheet (in_order l (map at.sorted.of ys)) (map at.sorted.of (drop n ys)) had has text at.list (ap (map at.sorted.of) (drop_all n ys over)))

-- lines that were held are sorted by rows, behind the name of their log
pub held-begun : {A : Type 0} (sheet : Sheet) (l : LogList) (ranking : Ranking A) (had has now : Option (List ℕ)) (text : List ℕ) → l.sorting ≡ Rows
    → HasHeld sheet l had has text ranking → HasSortedBegun has now text ranking → HasBegun sheet.form sheet.zone sheet.gtids sheet.width l had now sheet.before
held-begun sheet l ranking had has now text rows held begun =
    let (same, named, ranked) = subst (λ (sorting : Sorting). HasHeldBy sorting sheet l had has text ranking) rows held in
    subst (λ (bytes : Option (List ℕ)). HasBegun sheet.form sheet.zone sheet.gtids sheet.width l bytes now sheet.before) same (begun sheet l rows named ranked)

pub held-sorted : {A : Type 0} (sheet : Sheet) (l : LogList) (ranking : Ranking A) (had has now : Option (List ℕ)) (text after : List ℕ) → l.sorting ≡ Rows
    → HasHeld sheet l had has text ranking → HasSorted has now text after ranking → HasListed sheet.form sheet.zone sheet.gtids sheet.width l had now sheet.before after
held-sorted sheet l ranking had has now text after rows held sorted =
    let (same, named, ranked) = subst (λ (sorting : Sorting). HasHeldBy sorting sheet l had has text ranking) rows held in
    subst (λ (bytes : Option (List ℕ)). HasListed sheet.form sheet.zone sheet.gtids sheet.width l bytes now sheet.before after) same (sorted sheet l rows named ranked)

-- lines in turn are all there is
pub held-in-turn : {A : Type 0} (sheet : Sheet) (l : LogList) (ranking : Ranking A) (had has : Option (List ℕ)) (text : List ℕ) → l.sorting ≡ Place
    → HasHeld sheet l had has text ranking → HasListed sheet.form sheet.zone sheet.gtids sheet.width l had has sheet.before text
held-in-turn sheet l ranking had has text place held = subst (λ (sorting : Sorting). HasHeldBy sorting sheet l had has text ranking) place held
