-- The largest event of the groups, found by their entries.
use Rattle.std.proofs.Common.{arith, ◌≡◌, ℕ, ◌<◌, List, length, Some, option_map, sym, ap, ◌∙◌}
use Rattle.std.specs.List.{AllByRecursion, slice_get}
use Rattle.std.proofs.lemmas.List.{length-map}
use Rattle.std.proofs.lemmas.Option.{slice_get-map}
use Rattle.blog_event.specs.File.{Placed}
use Rattle.blog_trans.specs.declared.lists.Entry.{Entry}
use Rattle.blog_trans.specs.declared.groups.Index.{Index}
use Rattle.blog_trans.specs.Selection.{Selection}
use Rattle.blog_trans.specs.Acceptance.{IsAccepted}
use Rattle.blog_trans.specs.Groups.{placed_groups}
use Rattle.blog_trans.specs.PlacedFacts.{IsPlacedTransaction}
use Rattle.blog_trans.specs.code.IndexView.{Stands, IsOfEntry, index_bytes, index_selection}
use Rattle.blog_trans.specs.Shown.{shown, transaction_shown}
use Rattle.blog_trans.proofs.EntriesFound.{mapped}
use Rattle.blog_trans.proofs.IndexFacts.{found, groups_known}
use Rattle.blog_trans.proofs.PlacedParts.{all-at, all-joined}
use Rattle.blog_trans.proofs.Shown.{transaction-within, entries-at}

-- the events of the groups stand in the log
shown-stand : (bytes : List ℕ) (sel : Selection) → IsAccepted bytes sel → AllByRecursion (Stands bytes) (shown bytes sel)
unfolding shown
shown-stand bytes sel accepted = all-joined (IsPlacedTransaction (Stands bytes) sel) (Stands bytes) transaction_shown (transaction-within (Stands bytes) sel) (placed_groups bytes sel) (groups_known bytes sel accepted)

-- the event of an entry
pub entry-shown : {A : Type 0} (index : Index A) (i : ℕ) → i < length index.entries.items → (p : Placed) × (slice_get (shown (index_bytes index) (index_selection index)) i ≡ Some p) × IsOfEntry index i p
entry-shown index i within =
    let all = shown (index_bytes index) (index_selection index) in
    let (e, here) = found index.entries.items i within in
    let ats = entries-at index.entries.items (index_bytes index) (index_selection index) index.entries_are in
    let (p, at, place) = mapped (λ (p : Placed). p.pos) (slice_get all i) e.at (sym (slice_get-map (λ (p : Placed). p.pos) all i) ∙ ap (λ ns. slice_get ns i) (sym ats)
    ∙ slice_get-map (λ (e : Entry). e.at) index.entries.items i ∙ ap (option_map (λ (e : Entry). e.at)) here) in
    (p, at, record { entry = e; here = here; place = sym place; stands = all-at (Stands (index_bytes index)) all i p (shown-stand (index_bytes index) (index_selection index) index.accepted) at })

-- how many there are
pub shown-many : {A : Type 0} (index : Index A) → length (shown (index_bytes index) (index_selection index)) ≡ length index.entries.items
shown-many index = grind (arith, length-map, entries-at index.entries.items (index_bytes index) (index_selection index) index.entries_are)
