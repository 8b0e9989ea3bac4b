-- Written events are no longer than the events that the groups show: in sum, and each of them. So what is written is no longer
-- than the log: groups have events of the range, none of them twice.
use Rattle.std.proofs.Common.{◌≡◌, ℕ, ◌+◌, ◌-◌, ◌≤◌, max, Bool, true, false, List, [], ◌∷◌, length, map, take, refl, ap, arith}
use Rattle.std.specs.List.{AllByRecursion, Contains, flat_map}
use Rattle.blog_event.specs.Event.{Event, event_size}
use Rattle.blog_event.specs.File.{Placed, end_of, read}
use Rattle.blog_row.specs.declared.order.Order.{Order}
use Rattle.blog_row.specs.declared.order.Order.TheVariants.{Forward, Backward}
use Rattle.blog_row.specs.RowsWriting.{RowsContent, content_of}
use Rattle.blog_row.proofs.ReversedRows.{all-reverse}
use Rattle.blog_row.proofs.WrittenBody.{body-len, written-fits}
use Rattle.blog_trans.specs.Selection.{Selection}
use Rattle.blog_trans.specs.Acceptance.{IsAccepted}
use Rattle.blog_trans.specs.Groups.{PlacedRows, PlacedStatement, PlacedTransaction, placed_groups, groups}
use Rattle.blog_trans.specs.code.InTurn.{GroupEvent, Maps, Changes, Ends, in_order, in_turn, rows_in_turn, statement_in_turn, transaction_in_turn}
use Rattle.blog_trans.specs.PlacedFacts.{IsPlacedRows, IsPlacedStatement, IsPlacedTransaction}
use Rattle.blog_trans.specs.Shown.{largest, statement_shown, transaction_shown, shown, events_in_range}
use Rattle.blog_trans.proofs.PlacedFacts.{groups-among}
use Rattle.blog_trans.proofs.Shown.{own_size, shown-sizes}
use Rattle.blog_trans.proofs.Sums.{sum_of, sum-append, sum-map, sum-joined, sum-reverse}
use Rattle.blog_flash.specs.code.LaidOut.{groups_in, transactions_of, written_event}
use Rattle.blog_flash.specs.Texts.{group_events, laid_out}
use Rattle.blog_flash.proofs.InTurn.{events-in-turn}
use Rattle.blog_flash.proofs.Lengths.{laid-out-length}
use Rattle.blog_trans.proofs.RowsFields.{fields-found}

-- ---- sums

-- of larger numbers
sum-fits : {A : Type 0} (P : A → Type 0) (f g : A → ℕ) → ((x : A) → P x → f x ≤ g x) → (xs : List A) → AllByRecursion P xs → sum_of f xs ≤ sum_of g xs
sum-fits P f g fits [] all = omega arith
sum-fits P f g fits (x ∷ xs) all = let own = fits x all.0 in let others = sum-fits P f g fits xs all.1 in omega arith

-- of the elements in an order
sum-in-order : {A : Type 0} (f : A → ℕ) (order : Order) (xs : List A) → sum_of f (in_order order xs) ≡ sum_of f xs
sum-in-order f Forward xs = refl
sum-in-order f Backward xs = sum-reverse f xs

all-in-order : {A : Type 0} (P : A → Type 0) (order : Order) (xs : List A) → AllByRecursion P xs → AllByRecursion P (in_order order xs)
all-in-order P Forward xs all = all
all-in-order P Backward xs all = all-reverse P xs all

-- of parts in an order, each no larger than its source
parts-fit : {A B C : Type 0} (P : A → Type 0) (f : B → ℕ) (g : C → ℕ) (written : A → List B) (source : A → List C) → ((x : A) → P x → sum_of f (written x) ≤ sum_of g (source x))
    → (order : Order) (xs : List A) → AllByRecursion P xs → sum_of f (flat_map written (in_order order xs)) ≤ sum_of g (flat_map source xs)
parts-fit P f g written source fits order xs all =
    let parts = sum-joined f written (λ x. sum_of f (written x)) (λ x. refl) (in_order order xs) in
    let same = sum-in-order (λ x. sum_of f (written x)) order xs in
    let each = sum-fits P (λ x. sum_of f (written x)) (λ x. sum_of g (source x)) fits xs all in
    let sources = sum-joined g source (λ x. sum_of g (source x)) (λ x. refl) xs in
    omega arith

-- ---- a number that grows with the size of an event

abbrev Grows : (ℕ → ℕ) → Type 0
Grows w = (m n : ℕ) → m ≤ n → w m ≤ w n

module _ (w : ℕ → ℕ) (grows : Grows w) (order : Order) where
  abbrev written_weight : GroupEvent → ℕ
  written_weight e = w (event_size (written_event order e))

  abbrev own_weight : Placed → ℕ
  own_weight p = w (own_size p)

  module _ (Member : Placed → Type 0) (sel : Selection) where
    -- of a rows event, the last of its statement or not
    row-fits : (maps : List Placed) (r : PlacedRows) (last : Bool) → IsPlacedRows Member sel maps r → written_weight (Changes r last) ≤ own_weight r.event
    row-fits maps r last h =
        let content : RowsContent = content_of r.kind r.body in
        let long = written-fits r.kind h.map.layout r.event.event.body r.body (fields-found Member sel maps r h) in
        grows _ _ (omega (arith, long, body-len order last content, body-len Forward true content))

    rows-fit : (maps : List Placed) (rs : List PlacedRows) → AllByRecursion (IsPlacedRows Member sel maps) rs → sum_of written_weight (rows_in_turn rs) ≤ sum_of (λ r. own_weight r.event) rs
    rows-fit maps [] all = omega arith
    rows-fit maps (r ∷ []) all = omega (arith, row-fits maps r true all.0)
    rows-fit maps (r ∷ s ∷ rs) all = omega (arith, row-fits maps r false all.0, rows-fit maps (s ∷ rs) all.1)

    statement-fits : (s : PlacedStatement) → IsPlacedStatement Member sel s → sum_of written_weight (statement_in_turn order s) ≤ sum_of own_weight (statement_shown s)
    statement-fits s h =
        let parts = sum-append written_weight (map Maps s.maps) (rows_in_turn (in_order order s.rows)) in
        let maps = sum-map written_weight Maps s.maps in
        let rows = rows-fit s.maps (in_order order s.rows) (all-in-order (IsPlacedRows Member sel s.maps) order s.rows h.rows) in
        let same = sum-in-order (λ (r : PlacedRows). own_weight r.event) order s.rows in
        let sources = sum-append own_weight s.maps (map (λ (r : PlacedRows). r.event) s.rows) in
        let events = sum-map own_weight (λ (r : PlacedRows). r.event) s.rows in
        omega arith

    transaction-fits : (t : PlacedTransaction) → IsPlacedTransaction Member sel t → sum_of written_weight (transaction_in_turn order t) ≤ sum_of own_weight (transaction_shown t)
    transaction-fits t h =
        let parts = sum-append written_weight (flat_map (statement_in_turn order) (in_order order t.statements)) (Ends t.end ∷ []) in
        let inside = parts-fit (IsPlacedStatement Member sel) written_weight own_weight (statement_in_turn order) statement_shown statement-fits order t.statements h.statements in
        let sources = sum-append own_weight (flat_map statement_shown t.statements) (t.end ∷ []) in
        omega arith

  -- of the groups of a log
  groups-fit : (bytes : List ℕ) (sel : Selection) → sum_of (λ e. w (event_size e)) (group_events (transactions_of order (placed_groups bytes sel))) ≤ sum_of own_weight (shown bytes sel)
  unfolding shown placed_groups in_turn
  groups-fit bytes sel =
      let Member : Placed → Type 0 = Contains (events_in_range bytes sel) in
      let fits = parts-fit (IsPlacedTransaction Member sel) written_weight own_weight (transaction_in_turn order) transaction_shown (transaction-fits Member sel) order
      (placed_groups bytes sel) (groups-among sel (events_in_range bytes sel)) in
      let events = sum-map (λ e. w (event_size e)) (written_event order) (in_turn order (placed_groups bytes sel)) in
      let written = ap (sum_of (λ e. w (event_size e))) (events-in-turn order (placed_groups bytes sel)) in
      omega arith

-- ---- in sum

-- the text of an accepted log's groups is no longer than the log
pub no-longer : (order : Order) (bytes : List ℕ) (sel : Selection) (format : Event) (rest : List Event) → IsAccepted bytes sel → read bytes sel.stop ≡ format ∷ rest
    → length (laid_out format (groups_in order (groups bytes sel))) ≤ length bytes
unfolding groups
no-longer order bytes sel format rest accepted is =
    let sizes = shown-sizes bytes sel accepted in
    let start : end_of 4 (take 1 (read bytes sel.stop)) ≡ 4 + event_size format = ap (λ (es : List Event). end_of 4 (take 1 es)) is in
    let kept = groups-fit (λ n. n) (λ m n more. more) order bytes sel in
    let long = laid-out-length format (groups_in order (groups bytes sel)) in
    omega arith

-- ---- each of them

-- the largest is no less than the least
pub largest-above : (least : ℕ) (ps : List Placed) → least ≤ largest least ps
largest-above least [] = omega arith
largest-above least (p ∷ ps) = let above = largest-above (max least (event_size p.event)) ps in omega arith

-- no event passes a number that is no less than the largest
none-above : (least n : ℕ) (ps : List Placed) → largest least ps ≤ n → sum_of (λ p. own_size p - n) ps ≡ 0
none-above least n [] within = refl
none-above least n (p ∷ ps) within =
    let above = largest-above (max least (event_size p.event)) ps in
    let others = none-above (max least (event_size p.event)) n ps within in
    omega arith

each-within : (n : ℕ) (es : List Event) → sum_of (λ e. event_size e - n) es ≡ 0 → AllByRecursion (λ e. event_size e ≤ n) es
each-within n [] none = tt
each-within n (e ∷ es) none = (omega (arith, none), each-within n es (omega (arith, none)))

-- room for the largest event of the groups is room for each event that is written
pub groups-fit-room : (bytes : List ℕ) (sel : Selection) (order : Order) (least n : ℕ) → largest least (shown bytes sel) ≤ n
    → AllByRecursion (λ e. event_size e ≤ n) (group_events (transactions_of order (placed_groups bytes sel)))
groups-fit-room bytes sel order least n within =
    let fits = groups-fit (λ m. m - n) (λ m k more. omega arith) order bytes sel in
    let none = none-above least n (shown bytes sel) within in
    each-within n _ (omega arith)
