-- A log whose statements are cut keeps the changes.
use Rattle.std.proofs.Common.{◌≡◌, ℕ, suc, ◌≤◌, Bool, true, false, if◌then◌else◌, List, [], ◌∷◌, ◌++◌, length, map, filter, refl, sym, ap, ap₂, subst, ◌∙◌, arith}
use Rattle.std.specs.List.{AllByRecursion, flat_map}
use Rattle.std.proofs.lemmas.List.Concat.{flat_map-append}
use Rattle.blog_event.specs.Event.{Event}
use Rattle.blog_event.specs.File.{AreBytes}
use Rattle.blog_row.proofs.ReversedRows.{all-append}
use Rattle.blog_trans.specs.Selection.{Selection, all}
use Rattle.blog_trans.specs.Groups.{RowsEvent, Statement, Transaction, groups}
use Rattle.blog_trans.specs.Changes.{changes_of_rows, changes_of_statement, changes_of, changes}
use Rattle.blog_trans.proofs.PlacedParts.{all-map}
use Rattle.blog_flash.specs.Reversal.{reversed}
use Rattle.blog_flash.specs.States.{apply_all}
use Rattle.blog_flash.specs.Texts.{laid_out, laid_out_after}
use Rattle.blog_flash.proofs.Agreeing.{Chosen}
use Rattle.blog_flash.proofs.Formed.{IsRowsEvent, IsStatement, IsTransaction, AreGroups}
use Rattle.blog_flash.proofs.Forming.{groups-reversed}
use Rattle.blog_flash.proofs.Headline.{IsSource, is-source, flashback-changes}
use Rattle.blog_flash.proofs.Lengths.{laid-out-length}
use Rattle.blog_flash.proofs.Undoing.{undo_all}
use Rattle.blog_flash.proofs.Written.{IsWritable, written-read, written-accepted, written-groups}
use Rattle.blog_split.proofs.Turned.{groups-turned}
use Rattle.blog_split.specs.Cuts.{maps_bytes, is_used_by, IsPiece, IsCut, piece_statement, AreCut, IsCutTransaction, IsCutInto}
use Rattle.blog_split.specs.Laws.{IsSplit, AreBounded, KeepsChanges}
use Rattle.blog_split.proofs.Pieces.{pieces-formed}

-- ---- cut statements are well-formed

-- those of one statement
statement-cut : (Known : Event → Type 0) (limit : ℕ) (s : Statement) (pieces : List (List RowsEvent)) → IsCut limit s.maps s.rows pieces → IsStatement Known s
    → AllByRecursion (IsStatement Known) (map (piece_statement s) pieces)
statement-cut Known limit s pieces cut h = pieces-formed Known limit s pieces h cut.bounded (subst (AllByRecursion (IsRowsEvent s.maps)) (sym cut.joined) h.rows_formed)

-- those of statements
statements-cut : (Known : Event → Type 0) (limit : ℕ) (ss cut : List Statement) → AreCut limit ss cut → AllByRecursion (IsStatement Known) ss → AllByRecursion (IsStatement Known) cut
statements-cut Known limit [] cut are h = subst (AllByRecursion (IsStatement Known)) (sym are) tt
statements-cut Known limit (s ∷ ss) cut are h =
    subst (AllByRecursion (IsStatement Known)) (sym are.3)
    (all-append (IsStatement Known) (map (piece_statement s) are.0) are.1 (statement-cut Known limit s are.0 are.2 h.0) (statements-cut Known limit ss are.1 are.4 h.1))

-- a statement with a rows event has a piece
some-piece : (limit : ℕ) (s : Statement) (pieces : List (List RowsEvent)) (rest : List Statement) (r : RowsEvent) (rows : List RowsEvent) → IsCut limit s.maps s.rows pieces → s.rows ≡ r ∷ rows
    → (u : Statement) × (us : List Statement) × (map (piece_statement s) pieces ++ rest ≡ u ∷ us)
some-piece limit s [] rest r rows cut some = absurd (cc (cut.joined, some))
some-piece limit s (piece ∷ pieces) rest r rows cut some = (piece_statement s piece, map (piece_statement s) pieces ++ rest, refl)

-- statements, where there are any, are cut into some
some-statement : (Known : Event → Type 0) (limit : ℕ) (ss cut : List Statement) (s : Statement) (rest : List Statement) → AreCut limit ss cut → AllByRecursion (IsStatement Known) ss
    → ss ≡ s ∷ rest → (u : Statement) × (us : List Statement) × (cut ≡ u ∷ us)
some-statement Known limit [] cut s rest are h some = absurd (cc some)
some-statement Known limit (x ∷ ss) cut s rest are h some =
    let own = h.0.some in
    let first = some-piece limit x are.0 are.1 own.0 own.1 are.2 own.2 in
    (first.0, first.1, are.3 ∙ first.2)

-- ---- cut groups are well-formed

transaction-cut : (Known : Event → Type 0) (limit : ℕ) (t u : Transaction) → IsCutTransaction limit t u → IsTransaction Known t → IsTransaction Known u
transaction-cut Known limit t u cut h = record {
  begin_kind = rw cut.begins h.begin_kind;
  begin_unplaced = rw cut.begins h.begin_unplaced;
  begin_fits = rw cut.begins h.begin_fits;
  end_is = rw cut.ends h.end_is;
  end_unplaced = rw cut.ends h.end_unplaced;
  end_fits = rw cut.ends h.end_fits;
  statements_formed = statements-cut Known limit t.statements u.statements cut.statements h.statements_formed;
  some = some-statement Known limit t.statements u.statements h.some.0 h.some.1 cut.statements h.statements_formed h.some.2;
}

pub groups-cut : (Known : Event → Type 0) (limit : ℕ) (ts us : List Transaction) → IsCutInto limit ts us → AreGroups Known ts → AreGroups Known us
groups-cut Known limit [] [] cut h = tt
groups-cut Known limit [] (u ∷ us) cut h = absurd cut
groups-cut Known limit (t ∷ ts) [] cut h = absurd cut
groups-cut Known limit (t ∷ ts) (u ∷ us) cut h = (transaction-cut Known limit t u cut.0 h.0, groups-cut Known limit ts us cut.1 h.1)

-- ---- bounded statements

-- of the maps that rows events use they use all
used-again : (rows : List RowsEvent) (maps : List Event) → filter (is_used_by rows) (filter (is_used_by rows) maps) ≡ filter (is_used_by rows) maps
used-again rows [] = refl
used-again rows (m ∷ maps) = by_case (is_used_by rows m) refl (used-again rows maps)
  where
    by_case : (b : Bool) → is_used_by rows m ≡ b → filter (is_used_by rows) (filter (is_used_by rows) maps) ≡ filter (is_used_by rows) maps
        → filter (is_used_by rows) (if b then m ∷ filter (is_used_by rows) maps else filter (is_used_by rows) maps) ≡ (if b then m ∷ filter (is_used_by rows) maps else filter (is_used_by rows) maps)
    by_case true is others = rw is (ap (λ (ms : List Event). m ∷ ms) others)
    by_case false is others = others

-- so a piece is one with its own maps
piece-again : (limit : ℕ) (maps : List Event) (piece : List RowsEvent) → IsPiece limit maps piece → IsPiece limit (filter (is_used_by piece) maps) piece
piece-again limit maps [] is = is
piece-again limit maps (r ∷ []) is = tt
piece-again limit maps (r ∷ s ∷ rows) is = omega (arith, is, ap maps_bytes (used-again (r ∷ s ∷ rows) maps))

pieces-bounded : (limit : ℕ) (s : Statement) (pieces : List (List RowsEvent)) → AllByRecursion (IsPiece limit s.maps) pieces
    → AllByRecursion (λ (u : Statement). IsPiece limit u.maps u.rows) (map (piece_statement s) pieces)
pieces-bounded limit s pieces are =
    all-map (IsPiece limit s.maps) (λ (u : Statement). IsPiece limit u.maps u.rows) (piece_statement s) (piece-again limit s.maps) pieces are

statements-bounded : (limit : ℕ) (ss cut : List Statement) → AreCut limit ss cut → AllByRecursion (λ (u : Statement). IsPiece limit u.maps u.rows) cut
statements-bounded limit [] cut are = subst (AllByRecursion (λ (u : Statement). IsPiece limit u.maps u.rows)) (sym are) tt
statements-bounded limit (s ∷ ss) cut are =
    subst (AllByRecursion (λ (u : Statement). IsPiece limit u.maps u.rows)) (sym are.3)
    (all-append (λ (u : Statement). IsPiece limit u.maps u.rows) (map (piece_statement s) are.0) are.1 (pieces-bounded limit s are.0 are.2.bounded) (statements-bounded limit ss are.1 are.4))

groups-bounded : (limit : ℕ) (ts us : List Transaction) → IsCutInto limit ts us → AreBounded limit us
groups-bounded limit [] [] cut = tt
groups-bounded limit [] (u ∷ us) cut = absurd cut
groups-bounded limit (t ∷ ts) [] cut = absurd cut
groups-bounded limit (t ∷ ts) (u ∷ us) cut = (statements-bounded limit t.statements u.statements cut.0.statements, groups-bounded limit ts us cut.1)

-- ---- the same changes

-- of the pieces of a statement
pieces-changes : (s : Statement) (pieces : List (List RowsEvent)) → flat_map changes_of_statement (map (piece_statement s) pieces) ≡ flat_map changes_of_rows (flat_map (λ piece. piece) pieces)
pieces-changes s [] = refl
pieces-changes s (piece ∷ pieces) =
    ap (λ cs. flat_map changes_of_rows piece ++ cs) (pieces-changes s pieces) ∙ sym (flat_map-append changes_of_rows piece (flat_map (λ p. p) pieces))

-- of statements
statements-changes : (limit : ℕ) (ss cut : List Statement) → AreCut limit ss cut → flat_map changes_of_statement cut ≡ flat_map changes_of_statement ss
statements-changes limit [] cut are = ap (flat_map changes_of_statement) are
statements-changes limit (s ∷ ss) cut are =
    ap (flat_map changes_of_statement) are.3
    ∙ flat_map-append changes_of_statement (map (piece_statement s) are.0) are.1
    ∙ ap₂ ◌++◌ (pieces-changes s are.0 ∙ ap (flat_map changes_of_rows) are.2.joined) (statements-changes limit ss are.1 are.4)

-- of groups
groups-changes : (limit : ℕ) (ts us : List Transaction) → IsCutInto limit ts us → changes_of us ≡ changes_of ts
groups-changes limit [] [] cut = refl
groups-changes limit [] (u ∷ us) cut = absurd cut
groups-changes limit (t ∷ ts) [] cut = absurd cut
groups-changes limit (t ∷ ts) (u ∷ us) cut = ap₂ ◌++◌ (statements-changes limit t.statements u.statements cut.0.statements) (groups-changes limit ts us cut.1)

-- as many transactions
groups-many : (limit : ℕ) (ts us : List Transaction) → IsCutInto limit ts us → length us ≡ length ts
groups-many limit [] [] cut = refl
groups-many limit [] (u ∷ us) cut = absurd cut
groups-many limit (t ∷ ts) [] cut = absurd cut
groups-many limit (t ∷ ts) (u ∷ us) cut = ap suc (groups-many limit ts us cut.1)

-- ---- the text

-- a log that was laid out can be laid out again, in either order
laid-source : (Known : Event → Type 0) (format : Event) (us : List Transaction) → IsWritable Known format us → IsSource Known (laid_out format us) all
laid-source Known format us h =
    let same = written-groups Known format us h in
    let turned = groups-turned us in
    let forward = laid-out-length format us in
    let backward = laid-out-length format (reversed us) in
    let short = h.short in
    let back : IsWritable Known format (reversed us) =
    record { are_groups = groups-reversed Known us h.are_groups; agree = h.agree; served = h.served; event = h.event; short = omega arith } in
    record {
      accepted = written-accepted Known format us h;
      format = format;
      rest = _;
      read_is = written-read Known format us h;
      forward = subst (IsWritable Known format) (sym same) h;
      backward = subst (λ ts. IsWritable Known format (reversed ts)) (sym same) back;
    }

-- the cut groups of an accepted log can be laid out behind its first event
cut-writable : (Known : Event → Type 0) (limit : ℕ) (bytes : List ℕ) (sel : Selection) (us : List Transaction) (h : IsSource Known bytes sel) → IsCutInto limit (groups bytes sel) us
    → length (laid_out h.format us) ≤ 4294967295 → IsWritable Known h.format us
cut-writable Known limit bytes sel us h cut short = record {
  are_groups = groups-cut Known limit (groups bytes sel) us cut h.forward.are_groups;
  agree = h.forward.agree;
  served = h.forward.served;
  event = h.forward.event;
  short = omega (arith, short);
}

-- what is known of the text that is laid out
keeps : (Known : Event → Type 0) (limit : ℕ) (bytes : List ℕ) (sel : Selection) (us : List Transaction) (format : Event) → IsCutInto limit (groups bytes sel) us
    → IsWritable Known format us → KeepsChanges limit bytes sel us (laid_out format us)
keeps Known limit bytes sel us format cut h =
    let text : List ℕ = laid_out format us in
    let same = written-groups Known format us h in
    let changed : changes text all ≡ changes bytes sel = ap changes_of same ∙ groups-changes limit (groups bytes sel) us cut in
    let undone = flashback-changes Known text all (laid-source Known format us h) in
    record {
      accepted = written-accepted Known format us h;
      groups_are = same;
      bounded = subst (AreBounded limit) (sym same) (groups-bounded limit (groups bytes sel) us cut);
      changes_kept = changed;
      transactions = ap length same ∙ groups-many limit (groups bytes sel) us cut;
      undone = λ before after made. ap (λ cs. apply_all cs after) undone ∙ undo_all (changes text all) before after (ap (λ cs. apply_all cs before) changed ∙ made);
    }

-- of each accepted log
pub keeps-changes : (limit : ℕ) (bytes : List ℕ) (sel : Selection) (cut : List Transaction) (text : List ℕ) → AreBytes bytes → IsSplit limit bytes sel cut text
    → KeepsChanges limit bytes sel cut text
keeps-changes limit bytes sel cut text are h =
    let source = is-source bytes sel are h.source in
    let is : text ≡ laid_out source.format cut = h.laid ∙ ap (λ es. laid_out_after es cut) source.read_is in
    let short = h.short in
    let writable = cut-writable (Chosen bytes sel) limit bytes sel cut source h.is_cut (omega (arith, ap length is)) in
    subst (KeepsChanges limit bytes sel cut) (sym is) (keeps (Chosen bytes sel) limit bytes sel cut source.format h.is_cut writable)
