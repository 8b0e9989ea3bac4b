-- Groups have events of the range, and none of them twice.
use Rattle.std.proofs.Common.{◌≡◌, ℕ, ◌+◌, ◌≤◌, ◌<◌, Bool, false, if◌then◌else◌, List, [], ◌∷◌, ◌++◌, length, map, take, reverse, None, refl, sym, ap, ◌∙◌, subst, arith}
use Rattle.std.specs.Prelude.{◌==◌, Contains}
use Rattle.std.specs.List.{AllByRecursion, IsDistinct, flat_map}
use Rattle.std.proofs.lemmas.Bool.{eqb-true, eq-eqb}
use Rattle.std.proofs.lemmas.List.{length-map, map-append}
use Rattle.std.proofs.lemmas.Simd.{map-map}
use Rattle.std.proofs.lemmas.List.Recursion.{is_sum_by}
use Rattle.blog_event.specs.Event.{Event, event_size}
use Rattle.blog_event.specs.File.{Placed, placed_from, end_of, read}
use Rattle.blog_event.specs.code.Going.{ReadsOn}
use Rattle.blog_event.specs.Opening.{opening_fault}
use Rattle.blog_event.proofs.Going.{opened-reads-on}
use Rattle.blog_row.proofs.ReversedRows.{all-append}
use Rattle.blog_trans.specs.Selection.{Selection}
use Rattle.blog_trans.specs.Acceptance.{is_in_range, IsAccepted}
use Rattle.blog_trans.specs.Groups.{PlacedRows, PlacedStatement, PlacedTransaction, placed_groups_in, placed_groups}
use Rattle.blog_trans.specs.PlacedFacts.{IsPlacedMap, IsPlacedRows, IsPlacedStatement, IsPlacedTransaction}
use Rattle.blog_trans.specs.declared.lists.Entry.{Entry}
use Rattle.blog_trans.specs.code.Entries.{entries_of}
use Rattle.blog_trans.specs.Shown.{statement_shown, transaction_shown, shown, shown_positions, events_in_range, ShowsEachOnce}
use Rattle.blog_trans.proofs.Sums.{sum_of, sum-joined, sum-filter, sum-reverse, sum-ones}
use Rattle.blog_trans.proofs.Apart.{transaction_sum}
use Rattle.blog_trans.proofs.ProgressState.{sums-fit}
use Rattle.blog_trans.proofs.ProgressGroups.{all-passed}
use Rattle.blog_trans.proofs.Opening.{opening-refused}
use Rattle.blog_trans.proofs.PlacedFacts.{groups-among}
use Rattle.blog_trans.proofs.ProgressAccepted.{accepted-passes, accepted-groups}
use Rattle.blog_trans.proofs.PlacedParts.{all-by, all-map, all-joined}

-- ---- what holds of events holds of those of their groups

-- of a statement
statement-within : (Member : Placed → Type 0) (sel : Selection) (s : PlacedStatement) → IsPlacedStatement Member sel s → AllByRecursion Member (statement_shown s)
statement-within Member sel s placed =
    all-append Member s.maps (map (λ (r : PlacedRows). r.event) s.rows) (all-by (IsPlacedMap Member sel) Member (λ m is. is.member) s.maps placed.maps)
    (all-map (IsPlacedRows Member sel s.maps) Member (λ (r : PlacedRows). r.event) (λ r is. is.member) s.rows placed.rows)

-- of a transaction
pub transaction-within : (Member : Placed → Type 0) (sel : Selection) (t : PlacedTransaction) → IsPlacedTransaction Member sel t → AllByRecursion Member (transaction_shown t)
transaction-within Member sel t placed =
    let inside = all-joined (IsPlacedStatement Member sel) Member statement_shown (statement-within Member sel) t.statements in
    grind (arith, all-append Member (flat_map statement_shown t.statements) (t.end ∷ []))

-- ---- positions

-- one, where the event stands at a position
abbrev at_pos : ℕ → Placed → ℕ
at_pos pos p = if pos == p.pos then 1 else 0

-- of events that follow each other none stands in front of the first, and at most one at any position
one-more : (pos at size n : ℕ) (b : Bool) → (pos == at) ≡ b → 0 < size → (pos < at + size → n ≡ 0) → n ≤ 1 → (pos < at → (if b then 1 else 0) + n ≡ 0) × ((if b then 1 else 0) + n ≤ 1)
one-more pos at size n b same some none most = grind (arith, eqb-true)

one-at : (pos at : ℕ) (es : List Event) → (pos < at → sum_of (at_pos pos) (placed_from at es) ≡ 0) × (sum_of (at_pos pos) (placed_from at es) ≤ 1)
one-at pos at [] = (λ below. refl, omega arith)
one-at pos at (e ∷ es) = grind (arith, one-at pos (at + event_size e) es)

-- where none stands at a position, each position is another
none-at : (pos : ℕ) (ps : List Placed) → sum_of (at_pos pos) ps ≤ 0 → AllByRecursion (λ y. (pos == y) ≡ false) (map (λ (p : Placed). p.pos) ps)
none-at pos [] none = tt
none-at pos (p ∷ ps) none = let others = none-at pos ps (omega arith) in grind arith

-- where at most one stands at each position, the positions are distinct
positions-distinct : (ps : List Placed) → ((pos : ℕ) → sum_of (at_pos pos) ps ≤ 1) → IsDistinct (λ a b. a == b) (map (λ (p : Placed). p.pos) ps)
unfolding IsDistinct
positions-distinct [] each = tt
positions-distinct (p ∷ ps) each =
    let own : 1 + sum_of (at_pos p.pos) ps ≤ 1 = rw (eq-eqb p.pos p.pos refl) at (each p.pos) in
    (none-at p.pos ps (omega arith), positions-distinct ps (λ pos. let whole = each pos in omega arith))

-- ---- sizes

-- how long an event is
abbrev pub own_size : Placed → ℕ
own_size p = event_size p.event

-- events that follow each other end so far behind the position at which they begin
end-placed : (pos : ℕ) (es : List Event) → end_of pos es ≡ pos + sum_of own_size (placed_from pos es)
end-placed pos [] = omega arith
end-placed pos (e ∷ es) = let others = end-placed (pos + event_size e) es in omega arith

-- ---- the theorem

-- an accepted log is opened
pub accepted-opens : (bytes : List ℕ) (sel : Selection) → IsAccepted bytes sel → opening_fault bytes ≡ None
accepted-opens bytes sel accepted = let refused = opening-refused bytes sel in grind arith

-- whatever number each event has, the sum over the groups is no larger than that over the range
shown-sum : (w : Placed → ℕ) (bytes : List ℕ) (sel : Selection) → IsAccepted bytes sel → sum_of w (shown bytes sel) ≤ sum_of w (events_in_range bytes sel)
unfolding shown
shown-sum w bytes sel accepted =
    let es = events_in_range bytes sel in
    let fits = sums-fit sel (reverse es) w (all-passed sel es (accepted-passes bytes sel accepted)) in
    let joined = sum-joined w transaction_shown (transaction_sum w) (λ x. refl) (placed_groups bytes sel) in
    grind (arith, accepted-groups bytes sel accepted, sum-reverse w es)

-- the sizes of an accepted log's shown events
pub shown-sizes : (bytes : List ℕ) (sel : Selection) → IsAccepted bytes sel → end_of 4 (take 1 (read bytes sel.stop)) + sum_of own_size (shown bytes sel) ≤ length bytes
shown-sizes bytes sel accepted =
    let on : ReadsOn bytes sel.stop = opened-reads-on bytes sel.stop (accepted-opens bytes sel accepted) in
    grind (arith, on.inside, on.read_is, end-placed, sum-filter own_size (is_in_range sel), shown-sum own_size bytes sel accepted)

-- the events of the groups are of the range
shown-within : (bytes : List ℕ) (sel : Selection) → AllByRecursion (Contains (events_in_range bytes sel)) (shown bytes sel)
unfolding shown placed_groups
shown-within bytes sel =
    let of = Contains (events_in_range bytes sel) in
    all-joined (IsPlacedTransaction of sel) of transaction_shown (transaction-within of sel) (placed_groups_in sel (events_in_range bytes sel)) (groups-among sel (events_in_range bytes sel))

-- and stand at distinct positions
shown-once : (bytes : List ℕ) (sel : Selection) → IsAccepted bytes sel → IsDistinct (λ a b. a == b) (map (λ (p : Placed). p.pos) (shown bytes sel))
shown-once bytes sel accepted = grind (arith, positions-distinct, shown-sum, sum-filter, one-at)

-- they are no more than those of the range
shown-few : (bytes : List ℕ) (sel : Selection) → IsAccepted bytes sel → length (shown bytes sel) ≤ length (events_in_range bytes sel)
shown-few bytes sel accepted = omega (arith, shown-sum (λ p. 1) bytes sel accepted, sum-ones (shown bytes sel), sum-ones (events_in_range bytes sel))

-- of each accepted log
pub shows-each-once : (bytes : List ℕ) (sel : Selection) → IsAccepted bytes sel → ShowsEachOnce bytes sel
shows-each-once bytes sel accepted = record {
  within = shown-within bytes sel;
  once = shown-once bytes sel accepted;
  few = shown-few bytes sel accepted;
  sizes = subst (λ (n : ℕ). end_of 4 (take 1 (read bytes sel.stop)) + n ≤ length bytes) (is_sum_by (sum_of own_size) own_size refl (λ p ps. refl) (shown bytes sel)) (shown-sizes bytes sel accepted);
}

-- ---- entries

-- the position of an event, and of an entry
abbrev pos_of : Placed → ℕ
pos_of p = p.pos

abbrev at_of : Entry → ℕ
at_of e = e.at

-- a map of lists that are joined
map-joined : {A B C : Type 0} (f : B → C) (g : A → List B) (xs : List A) → map f (flat_map g xs) ≡ flat_map (λ x. map f (g x)) xs
map-joined f g [] = refl
map-joined f g (x ∷ xs) = map-append f (g x) (flat_map g xs) ∙ ap (λ l. map f (g x) ++ l) (map-joined f g xs)

all-at-once : (ts : List PlacedTransaction) → map at_of (entries_of ts) ≡ map pos_of (flat_map transaction_shown ts)
all-at-once ts = simp (map-joined, map-append, map-map)

-- the positions of entries are those of the events that are shown
pub entries-at : (entries : List Entry) (bytes : List ℕ) (sel : Selection) → entries ≡ entries_of (placed_groups bytes sel) → map at_of entries ≡ shown_positions bytes sel
unfolding shown
entries-at entries bytes sel is = ap (map at_of) is ∙ all-at-once (placed_groups bytes sel)

-- so none of them comes twice
pub entries-once : (entries : List Entry) (bytes : List ℕ) (sel : Selection) → IsAccepted bytes sel → entries ≡ entries_of (placed_groups bytes sel)
    → IsDistinct (λ a b. a == b) (map (λ (e : Entry). e.at) entries)
entries-once entries bytes sel accepted is = subst (IsDistinct (λ a b. a == b)) (sym (entries-at entries bytes sel is)) (shown-once bytes sel accepted)

-- and they are no more than the events of the range
pub entries-few : (entries : List Entry) (bytes : List ℕ) (sel : Selection) → IsAccepted bytes sel → entries ≡ entries_of (placed_groups bytes sel)
    → length entries ≤ length (events_in_range bytes sel)
entries-few entries bytes sel accepted is =
    let same = ap length (entries-at entries bytes sel is) in
    omega (arith, length-map entries at_of, length-map (shown bytes sel) pos_of, shown-few bytes sel accepted)
