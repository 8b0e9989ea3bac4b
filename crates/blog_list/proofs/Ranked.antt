-- Lines that are held, and sorted by rows.
use Rattle.std.proofs.Common.{◌≡◌, ℕ, ◌+◌, ◌-◌, ◌<◌, ◌≤◌, Bool, true, false, List, [], ◌∷◌, ◌++◌, length, map, take, drop, Ok, None, Option, refl, sym, ap, ap₂, subst, ◌∙◌, append-nil, length-append, arith, inl, inr}
use Rattle.std.specs.Prelude.{◌==◌, ◌&&◌, if◌then◌else◌, codes, filter, not, slice_index_or}
use Rattle.std.specs.List.{All, AllByRecursion}
use Rattle.std.specs.List.Sorted.{IsPermutation, IsSortedByKey, IsStableByKey, ties}
use Rattle.std.specs.Ordering.{is_lt, nat_cmp}
use Rattle.std.proofs.lemmas.Bool.{cond-true, cond-false, eq-eqb, ne_eqb}
use Rattle.std.proofs.lemmas.List.{drop-append-le, get_or-map, length-drop, length-map, map-append, take-append-le, take_all}
use Rattle.std.proofs.lemmas.List.Elements.{All-from_recursion, All-append, recursion_from_All}
use Rattle.std.proofs.lemmas.List.Sorted.{All-permutation}
use Rattle.std.proofs.Math.Seq.{drop-append_seam}
use Rattle.jiff.specs.Types.{TimeZone}
use Rattle.blog_choice.specs.Choice.{Choice}
use Rattle.blog_list.specs.Json.{json_line}
use Rattle.blog_list.specs.Lines.{LogList, Shown, rest_text, unit_line}
use Rattle.blog_list.specs.Sorted.{IsArranged, unit_fewer}
use Rattle.blog_list.specs.Texts.{IsLine}
use Rattle.blog_list.specs.declared.listing.Form.{Form}
use Rattle.blog_list.specs.declared.listing.Form.TheVariants.{Text, Json}
use Rattle.blog_list.specs.declared.listing.Sorting.TheVariants.{Rows}
use Rattle.blog_list.specs.declared.ranking.RankedLine.{RankedLine}
use Rattle.blog_list.specs.code.Held.{Sheet}
use Rattle.blog_list.specs.code.Ranked.{AreInside, AreRanked, IsLineOf, line_bytes}

-- ---- no line is empty

behind-some : (front middle end : List ℕ) → 0 < length end → 0 < length (front ++ (middle ++ end))
behind-some front middle end some =
    let whole = length-append front (middle ++ end) in
    let rest = length-append middle end in
    omega (arith, some, whole, rest)

rest-some : (gtids : Bool) (room : ℕ) (s : Shown) → 0 < length (rest_text gtids room s)
unfolding rest_text
rest-some gtids room s = omega arith

text-some : (gtids : Bool) (width : ℕ) (time : List ℕ) (s : Shown) → 0 < length (unit_line gtids width time s)
unfolding unit_line
text-some gtids width time s = behind-some _ _ _ (rest-some gtids _ s)

json-some : (name : Option (List ℕ)) (time : List ℕ) (s : Shown) → 0 < length (json_line name time s)
unfolding json_line
json-some name time s = omega arith

pub line-some : (form : Form) (zone : TimeZone) (gtids : Bool) (width : ℕ) (name : Option (List ℕ)) (s : Shown) (line : List ℕ) → IsLine form zone gtids width name s line → 0 < length line
line-some Text zone gtids width name s line (time, is, same) = subst (λ (bytes : List ℕ). 0 < length bytes) (sym same) (text-some gtids width time s)
line-some Json zone gtids width name s line (time, is, same) = subst (λ (bytes : List ℕ). 0 < length bytes) (sym same) (json-some name time s)

-- ---- one line more

-- of no unit
unit-none : Shown
unit-none = record { start = 0; stop = 0; time = 0; thread = None; id = None; changes = Ok [] }

pub ranked-none : (sheet : Sheet) (l : LogList) (held : List ℕ) (lines : List RankedLine) → lines ≡ [] → AreRanked sheet l [] held lines
ranked-none sheet l held lines none = record {
  of = λ e. unit-none;
  units_are = ap (map (λ (e : RankedLine). unit-none)) none;
  each = subst (λ (es : List RankedLine). All (λ e. IsLineOf sheet l held unit-none e) es) (sym none) (All-from_recursion (λ e. IsLineOf sheet l held unit-none e) [] tt);
}

-- the unit of the line that starts at a place, and of the others
abbrev with_unit : (RankedLine → Shown) → ℕ → Shown → RankedLine → Shown
with_unit of at s e = if e.start == at then s else of e

-- lines in front of the place keep their units
before-place : (of : RankedLine → Shown) (at : ℕ) (s : Shown) (e : RankedLine) → e.start < at → with_unit of at s e ≡ of e
before-place of at s e before = cond-false _ _ _ (ne_eqb e.start at (λ same. omega (arith, before, same)))

at-place : (of : RankedLine → Shown) (at : ℕ) (s : Shown) (e : RankedLine) → e.start ≡ at → with_unit of at s e ≡ s
at-place of at s e starts = cond-true _ _ _ (eq-eqb e.start at starts)

same-units : (of : RankedLine → Shown) (at : ℕ) (s : Shown) (es : List RankedLine) → AllByRecursion (λ e. e.start < at) es → map (with_unit of at s) es ≡ map of es
same-units of at s [] none = refl
same-units of at s (e ∷ es) (before, others) = ap₂ (λ (x : Shown) (xs : List Shown). x ∷ xs) (before-place of at s e before) (same-units of at s es others)

-- what is appended behind a line leaves it as it is
line-stays : (held more : List ℕ) (e : RankedLine) → e.start ≤ e.end → e.end ≤ length held → line_bytes (held ++ more) e ≡ line_bytes held e
line-stays held more e order inside =
    ap (take (e.end - e.start)) (drop-append-le e.start held more (omega (arith, order, inside)))
    ∙ take-append-le (e.end - e.start) (drop e.start held) more (omega (arith, order, inside, length-drop e.start held))

kept-line : (sheet : Sheet) (l : LogList) (held more : List ℕ) (of : RankedLine → Shown) (s : Shown) (e : RankedLine) → IsLineOf sheet l held (of e) e
    → IsLineOf sheet l (held ++ more) (with_unit of (length held) s e) e
kept-line sheet l held more of s e is =
    let longer = length-append held more in
    subst (λ (x : Shown). IsLineOf sheet l (held ++ more) x e) (sym (before-place of (length held) s e is.begins)) (record {
      begins = omega (arith, is.begins, longer);
      order = is.order;
      inside = omega (arith, is.inside, longer);
      rows = is.rows;
      line = subst (λ (bytes : List ℕ). IsLine sheet.form sheet.zone sheet.gtids sheet.width l.name (of e) bytes) (sym (line-stays held more e is.order is.inside)) is.line;
    })

new-line : (sheet : Sheet) (l : LogList) (held line : List ℕ) (of : RankedLine → Shown) (s : Shown) (e : RankedLine) → e.start ≡ length held → e.end ≡ length (held ++ line) → e.fewer ≡ unit_fewer l.choice s
    → IsLine sheet.form sheet.zone sheet.gtids sheet.width l.name s line → IsLineOf sheet l (held ++ line) (with_unit of (length held) s e) e
new-line sheet l held line of s e starts ends rows is =
    let longer = length-append held line in
    let some = line-some sheet.form sheet.zone sheet.gtids sheet.width l.name s line is in
    let unit = at-place of (length held) s e starts in
    let bytes : line_bytes (held ++ line) e ≡ line =
    ap₂ (λ (n : ℕ) (bs : List ℕ). take n bs) (omega (arith, starts, ends, longer)) (ap (λ (n : ℕ). drop n (held ++ line)) starts ∙ drop-append_seam held line) ∙ take_all (length line) line (omega arith) in
    subst (λ (x : Shown). IsLineOf sheet l (held ++ line) x e) (sym unit) (record {
      begins = omega (arith, starts, longer, some);
      order = omega (arith, starts, ends, longer);
      inside = omega (arith, ends);
      rows = rows;
      line = subst (λ (bs : List ℕ). IsLine sheet.form sheet.zone sheet.gtids sheet.width l.name s bs) (sym bytes) is;
    })

pub ranked-more : (sheet : Sheet) (l : LogList) (units : List Shown) (held line : List ℕ) (lines : List RankedLine) (s : Shown) (e : RankedLine) → AreRanked sheet l units held lines
    → e.start ≡ length held → e.end ≡ length (held ++ line) → e.fewer ≡ unit_fewer l.choice s → IsLine sheet.form sheet.zone sheet.gtids sheet.width l.name s line
    → AreRanked sheet l (units ++ s ∷ []) (held ++ line) (lines ++ e ∷ [])
ranked-more sheet l units held line lines s e ranked starts ends rows is =
    let of = with_unit ranked.of (length held) s in
    let begins = recursion_from_All (λ x. x.start < length held) lines (λ k d below. (ranked.each k d below).begins) in
    let last = new-line sheet l held line ranked.of s e starts ends rows is in
    record {
      of = of;
      units_are = map-append of lines (e ∷ [])
          ∙ ap₂ (λ (xs ys : List Shown). xs ++ ys) (same-units ranked.of (length held) s lines begins ∙ ranked.units_are) (ap (λ (x : Shown). x ∷ []) (at-place ranked.of (length held) s e starts));
      each = All-append (λ x. IsLineOf sheet l (held ++ line) (of x) x) lines (e ∷ [])
          (λ k d below. kept-line sheet l held line ranked.of s _ (ranked.each k d below))
          (All-from_recursion (λ x. IsLineOf sheet l (held ++ line) (of x) x) (e ∷ []) (last, tt));
    }

pub inside-of : (sheet : Sheet) (l : LogList) (units : List Shown) (held : List ℕ) (lines : List RankedLine) → AreRanked sheet l units held lines → AreInside held lines
inside-of sheet l units held lines ranked = λ k d below. let is = ranked.each k d below in (is.order, is.inside)

-- ---- sorted lines

-- elements are compared by what they are taken to
kept-or-not : {X Y : Type 0} (b : Bool) (f : X → Y) (x : X) (ys : List Y) (xs : List X) → ys ≡ map f xs → (if b then f x ∷ ys else ys) ≡ map f (if b then x ∷ xs else xs)
kept-or-not true f x ys xs same = ap (λ zs. f x ∷ zs) same
kept-or-not false f x ys xs same = same

filter-map : {X Y : Type 0} (f : X → Y) (p : Y → Bool) (xs : List X) → filter p (map f xs) ≡ map f (filter (λ x. p (f x)) xs)
filter-map f p [] = refl
filter-map f p (x ∷ xs) = kept-or-not (p (f x)) f x (filter p (map f xs)) (filter (λ x. p (f x)) xs) (filter-map f p xs)

filter-same : {X : Type 0} (p q : X → Bool) (xs : List X) → AllByRecursion (λ x. p x ≡ q x) xs → filter p xs ≡ filter q xs
filter-same p q [] same = refl
filter-same p q (x ∷ xs) (same, others) = ap₂ (λ (b : Bool) (zs : List _). if b then x ∷ zs else zs) same (filter-same p q xs others)

-- lines have the numbers of their units
abbrev HaveNumbers : Choice → (RankedLine → Shown) → List RankedLine → Type 0
HaveNumbers choice of es = All (λ e. e.fewer ≡ unit_fewer choice (of e)) es

pub line-none : RankedLine
line-none = record { fewer = 0; start = 0; end = 0 }

number-at : (choice : Choice) (of : RankedLine → Shown) (es : List RankedLine) → HaveNumbers choice of es → (k : ℕ) (d : Shown) → k < length es
    → unit_fewer choice (slice_index_or (map of es) k d) ≡ (slice_index_or es k line-none).fewer
number-at choice of es numbers k d below = ap (unit_fewer choice) (get_or-map of es k line-none d below) ∙ sym (numbers k line-none below)

sorted-units : (choice : Choice) (of : RankedLine → Shown) (es : List RankedLine) → HaveNumbers choice of es → IsSortedByKey (λ e. e.fewer) nat_cmp es
    → IsSortedByKey (unit_fewer choice) nat_cmp (map of es)
sorted-units choice of es numbers sorted = λ k d low below.
    let inside : k + 1 < length es = subst (λ (n : ℕ). k + 1 < n) (length-map es of) below in
    ap₂ (λ (m n : ℕ). is_lt (nat_cmp m n)) (number-at choice of es numbers (k + 1) d inside) (number-at choice of es numbers k d (omega (arith, inside)))
    ∙ sorted k line-none low inside

-- a unit ties with that of a line as a line with its number does
abbrev tie_by : ℕ → ℕ → Bool
tie_by m n = not (is_lt (nat_cmp m n)) && not (is_lt (nat_cmp n m))

same-ties : (choice : Choice) (of : RankedLine → Shown) (u : Shown) (es : List RankedLine) → HaveNumbers choice of es
    → filter (ties (λ s t. is_lt (nat_cmp (unit_fewer choice s) (unit_fewer choice t))) u) (map of es)
    ≡ map of (filter (ties (λ d e. is_lt (nat_cmp d.fewer e.fewer)) (record { fewer = unit_fewer choice u; start = 0; end = 0 })) es)
same-ties choice of u es numbers =
    filter-map of (λ s. tie_by (unit_fewer choice u) (unit_fewer choice s)) es
    ∙ ap (map of) (filter-same (λ e. tie_by (unit_fewer choice u) (unit_fewer choice (of e))) (λ e. tie_by (unit_fewer choice u) e.fewer) es
    (recursion_from_All (λ e. tie_by (unit_fewer choice u) (unit_fewer choice (of e)) ≡ tie_by (unit_fewer choice u) e.fewer) es
    (λ k d below. ap (tie_by (unit_fewer choice u)) (sym (numbers k d below)))))

stable-units : (choice : Choice) (of : RankedLine → Shown) (xs ys : List RankedLine) → HaveNumbers choice of xs → HaveNumbers choice of ys → IsStableByKey (λ e. e.fewer) nat_cmp xs ys
    → IsStableByKey (unit_fewer choice) nat_cmp (map of xs) (map of ys)
stable-units choice of xs ys before after stable = λ u.
    same-ties choice of u ys after ∙ ap (map of) (stable (record { fewer = unit_fewer choice u; start = 0; end = 0 })) ∙ sym (same-ties choice of u xs before)

-- the lines of a log are those of its units, sorted
pub record AreSortedLines (sheet : Sheet) (l : LogList) (held : List ℕ) (lines : List RankedLine) : Type 0 where
  pub of : RankedLine → Shown
  pub arranged : IsArranged Rows l.choice l.units (map of lines)
  pub each : All (λ e. IsLineOf sheet l held (of e) e) lines

pub lines-sorted : (sheet : Sheet) (l : LogList) (held : List ℕ) (xs ys : List RankedLine) → AreRanked sheet l l.units held xs → IsPermutation xs ys
    → IsSortedByKey (λ e. e.fewer) nat_cmp ys → IsStableByKey (λ e. e.fewer) nat_cmp xs ys → AreSortedLines sheet l held ys
lines-sorted sheet l held xs ys ranked moved sorted stable =
    let each = All-permutation (λ e. IsLineOf sheet l held (ranked.of e) e) xs ys moved ranked.each in
    let numbers : HaveNumbers l.choice ranked.of ys = λ k d below. (each k d below).rows in
    let before : HaveNumbers l.choice ranked.of xs = λ k d below. (ranked.each k d below).rows in
    record {
      of = ranked.of;
      arranged = (
        sorted-units l.choice ranked.of ys numbers sorted,
        subst (λ (units : List Shown). IsStableByKey (unit_fewer l.choice) nat_cmp units (map ranked.of ys)) ranked.units_are (stable-units l.choice ranked.of xs ys before numbers stable),
      );
      each = each;
    }
