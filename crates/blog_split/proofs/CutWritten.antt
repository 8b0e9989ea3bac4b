-- Written events whose statements are cut: how a piece goes on and ends, and that groups can be cut and are cut so.
use Rattle.std.proofs.Common.{◌≡◌, ℕ, zero, suc, ◌+◌, ◌-◌, ◌≤◌, ◌<◌, ◌==◌, Bool, true, false, nat_le, bytes_eq, List, [], ◌∷◌, ◌++◌, length, map, filter, take, drop, refl, sym, ap, subst, ◌∙◌, arith, append-nil, append_assoc, length-append, le-leb}
use Rattle.std.specs.List.{AllByRecursion, IsDistinct, flat_map}
use Rattle.std.proofs.Math.Dec.{eqb-suc-zero}
use Rattle.std.proofs.Math.Numerals.{add-one}
use Rattle.std.proofs.lemmas.Bool.{lt-leb}
use Rattle.std.proofs.lemmas.List.{map-append}
use Rattle.std.proofs.lemmas.List.Concat.{flat_map-append}
use Rattle.std.proofs.lemmas.List.Folds.{flat_map-map}
use Rattle.blog_event.specs.Event.{Event}
use Rattle.blog_row.specs.RowsEvent.{table_id}
use Rattle.blog_row.proofs.NameLemmas.{names_found}
use Rattle.blog_trans.specs.Groups.{RowsEvent, Statement, Transaction}
use Rattle.blog_flash.specs.Written.{Written, Same, Maps, Changes, rows_written, statement_written, transaction_written, groups_written}
use Rattle.blog_flash.proofs.Formed.{IsMapEvent, IsRowsEvent, IsStatement, IsTransaction, AreGroups}
use Rattle.blog_split.specs.Cuts.{is_used_by, piece_bytes}
use Rattle.blog_split.specs.declared.most.Most.{Most}
use Rattle.blog_split.specs.code.Greedy.{pieces_on, pieces_of, cut_statement, cut_transaction, cut_groups}
use Rattle.blog_split.specs.code.CutWritten.{piece_written, has_room, cut_written, rows_among, AreApart, CanBeCut}
use Rattle.blog_split.proofs.Pieces.{all-parts}

-- ---- a piece ends or goes on

-- without rows events no map is used
pub none-used : (maps : List Event) → filter (is_used_by []) maps ≡ []
none-used [] = refl
none-used (m ∷ maps) = none-used maps

-- and nothing is written
pub nothing-written : (maps : List Event) → piece_written maps [] ≡ []
nothing-written maps = ap (λ (ms : List Event). map Maps ms ++ []) (none-used maps)

module _ (limit : ℕ) (maps : List Event) (piece : List RowsEvent) where
  -- it ends with the events
  pub stops-none : cut_written limit maps piece [] ≡ piece_written maps piece ++ cut_written limit maps [] []
  stops-none = sym (ap (λ (es : List Written). piece_written maps piece ++ es) (nothing-written maps) ∙ append-nil (piece_written maps piece))

  -- it ends before `BEGIN` or the end event
  pub stops-same : (e : Event) (ws : List Written) → cut_written limit maps piece (Same e ∷ ws) ≡ piece_written maps piece ++ cut_written limit maps [] (Same e ∷ ws)
  stops-same e ws = sym (ap (λ (es : List Written). piece_written maps piece ++ (es ++ Same e ∷ cut_written limit [] [] ws)) (nothing-written maps))

  -- before a table map
  pub stops-maps : (m : Event) (ws : List Written) → cut_written limit maps piece (Maps m ∷ ws) ≡ piece_written maps piece ++ cut_written limit maps [] (Maps m ∷ ws)
  stops-maps m ws = sym (ap (λ (es : List Written). piece_written maps piece ++ (es ++ cut_written limit (maps ++ m ∷ []) [] ws)) (nothing-written maps))

  -- before a rows event that it has no room for
  pub stops-full : (r : RowsEvent) (last : Bool) (ws : List Written) → has_room limit maps piece r ≡ false
      → cut_written limit maps piece (Changes r last ∷ ws) ≡ piece_written maps piece ++ cut_written limit maps [] (Changes r last ∷ ws)
  stops-full r true ws full = rw full refl
  stops-full r false ws full = rw full refl

  -- it goes on with a rows event that isn't the last of its statement
  pub joins-open : (r : RowsEvent) (ws : List Written) → has_room limit maps piece r ≡ true → cut_written limit maps piece (Changes r false ∷ ws) ≡ cut_written limit maps (piece ++ r ∷ []) ws
  joins-open r ws room = rw room refl

  -- with the last one it goes on and ends
  pub joins-last : (r : RowsEvent) (ws : List Written) → has_room limit maps piece r ≡ true
      → cut_written limit maps piece (Changes r true ∷ ws) ≡ piece_written maps (piece ++ r ∷ []) ++ cut_written limit [] [] ws
  joins-last r ws room = rw room refl

-- ---- room

-- for one more, by what is left of the limit and what the piece gets
pub room-is : (limit left more : ℕ) (maps : List Event) (piece : List RowsEvent) (r : RowsEvent) → 0 < length piece → 0 < more → left ≡ limit - piece_bytes maps piece
    → piece_bytes maps (piece ++ r ∷ []) ≡ piece_bytes maps piece + more → (more ≤ left → has_room limit maps piece r ≡ true) × (left < more → has_room limit maps piece r ≡ false)
room-is limit left more maps [] r some own is bytes = absurd (omega arith)
room-is limit left more maps (p ∷ piece) r some own is bytes = (
  (λ (fits : more ≤ left). le-leb (piece_bytes maps ((p ∷ piece) ++ r ∷ [])) limit (omega (arith, bytes, own, is, fits))),
  (λ (over : left < more). lt-leb (piece_bytes maps ((p ∷ piece) ++ r ∷ [])) limit (omega (arith, bytes, is, over))),
)

-- ---- cut groups

-- maps of a statement
maps-passed : (limit : ℕ) (before maps : List Event) (ws : List Written) → cut_written limit before [] (map Maps maps ++ ws) ≡ cut_written limit (before ++ maps) [] ws
maps-passed limit before [] ws = ap (λ (ms : List Event). cut_written limit ms [] ws) (sym (append-nil before))
maps-passed limit before (m ∷ maps) ws =
    ap (λ (es : List Written). es ++ cut_written limit (before ++ m ∷ []) [] (map Maps maps ++ ws)) (nothing-written before)
    ∙ maps-passed limit (before ++ m ∷ []) maps ws
    ∙ ap (λ (ms : List Event). cut_written limit ms [] ws) (append_assoc before (m ∷ []) maps)

-- rows events after a piece give it and the pieces after it
module _ (limit : ℕ) (maps : List Event) (ws : List Written) where
  abbrev with_pieces : List (List RowsEvent) → List Written
  with_pieces pieces = flat_map (piece_written maps) pieces ++ cut_written limit [] [] ws

  abbrev GivesPieces : List RowsEvent → List RowsEvent → Type 0
  GivesPieces piece rows = cut_written limit maps piece (rows_written rows ++ ws) ≡ with_pieces (pieces_on limit maps piece rows)

  rows-passed : (p : RowsEvent) (piece : List RowsEvent) (r : RowsEvent) (rows : List RowsEvent) → GivesPieces (p ∷ piece) (r ∷ rows)
  rows-passed p piece r [] = by_case (nat_le (piece_bytes maps ((p ∷ piece) ++ r ∷ [])) limit) refl
    where
      by_case : (b : Bool) → nat_le (piece_bytes maps ((p ∷ piece) ++ r ∷ [])) limit ≡ b → GivesPieces (p ∷ piece) (r ∷ [])
      by_case true is = rw is (simp append_assoc)
      by_case false is = rw is (simp append_assoc)
  rows-passed p piece r (s ∷ rows) = by_case (nat_le (piece_bytes maps ((p ∷ piece) ++ r ∷ [])) limit) refl (rows-passed p (piece ++ r ∷ []) s rows) (rows-passed r [] s rows)
    where
      by_case : (b : Bool) → nat_le (piece_bytes maps ((p ∷ piece) ++ r ∷ [])) limit ≡ b → GivesPieces ((p ∷ piece) ++ r ∷ []) (s ∷ rows) → GivesPieces (r ∷ []) (s ∷ rows)
          → GivesPieces (p ∷ piece) (r ∷ s ∷ rows)
      by_case true is more anew = rw is more
      by_case false is more anew =
          let own = piece_written maps (p ∷ piece) in
          rw is (ap (λ (es : List Written). own ++ es) anew ∙ sym (append_assoc own _ (cut_written limit [] [] ws)))

  -- all rows events of a statement
  all-passed : (r : RowsEvent) (rows : List RowsEvent) → cut_written limit maps [] (rows_written (r ∷ rows) ++ ws) ≡ with_pieces (pieces_of limit maps (r ∷ rows))
  all-passed r [] = simp append_assoc
  all-passed r (s ∷ rows) = rows-passed r [] s rows

module _ (Known : Event → Type 0) (limit : ℕ) where
  -- a statement
  statement-passed : (s : Statement) (ws : List Written) → IsStatement Known s
      → cut_written limit [] [] (statement_written s ++ ws) ≡ flat_map statement_written (cut_statement limit s) ++ cut_written limit [] [] ws
  statement-passed s ws is =
      let some = is.some in
      rw (append_assoc, some.2, flat_map-map) (maps-passed limit [] s.maps (rows_written (some.0 ∷ some.1) ++ ws) ∙ all-passed limit s.maps ws some.0 some.1)

  -- statements
  statements-passed : (ss : List Statement) (ws : List Written) → AllByRecursion (IsStatement Known) ss
      → cut_written limit [] [] (flat_map statement_written ss ++ ws) ≡ flat_map statement_written (flat_map (cut_statement limit) ss) ++ cut_written limit [] [] ws
  statements-passed [] ws are = refl
  statements-passed (s ∷ ss) ws are =
      let own = flat_map statement_written (cut_statement limit s) in
      rw (append_assoc (statement_written s) _ ws, flat_map-append, append_assoc own _ (cut_written limit [] [] ws))
      (statement-passed s (flat_map statement_written ss ++ ws) are.0 ∙ ap (λ (es : List Written). own ++ es) (statements-passed ss ws are.1))

  -- a transaction
  transaction-passed : (t : Transaction) (ws : List Written) → IsTransaction Known t
      → cut_written limit [] [] (transaction_written t ++ ws) ≡ transaction_written (cut_transaction limit t) ++ cut_written limit [] [] ws
  transaction-passed t ws is = simp append_assoc (ap (λ (es : List Written). Same t.begin ∷ es) (statements-passed t.statements (Same t.end ∷ ws) is.statements_formed))

  -- groups
  pub cut-of-groups : (ts : List Transaction) → AreGroups Known ts → cut_written limit [] [] (groups_written ts) ≡ groups_written (cut_groups limit ts)
  cut-of-groups [] are = refl
  cut-of-groups (t ∷ ts) are =
      transaction-passed t (groups_written ts) are.0 ∙ ap (λ (es : List Written). transaction_written (cut_transaction limit t) ++ es) (cut-of-groups ts are.1)

-- ---- groups can be cut

distinct-front : {A : Type 0} (same : A → A → Bool) (xs ys : List A) → IsDistinct same (xs ++ ys) → IsDistinct same xs
unfolding IsDistinct
distinct-front same [] ys distinct = tt
distinct-front same (x ∷ xs) ys distinct = ((all-parts (λ y. same x y ≡ false) xs ys distinct.0).0, distinct-front same xs ys distinct.1)

-- the first ones of maps that are apart
apart-front : (front behind all : List Event) → front ++ behind ≡ all → AreApart all → AreApart front
apart-front front behind all are apart =
    let id : Event → List ℕ = λ m. table_id m.body in
    distinct-front bytes_eq (map id front) (map id behind) (subst (IsDistinct bytes_eq) (sym (ap (map id) are) ∙ map-append id front behind) apart)

-- a statement has no more maps and rows events than these
abbrev pub HasAtMost : Most → Statement → Type 0
HasAtMost most s = (length s.maps ≤ most.maps) × (length s.rows ≤ most.rows)

module _ (Known : Event → Type 0) (most : Most) where
  -- a map has a table id
  map-long : (m : Event) → IsMapEvent Known m → 6 ≤ length m.body
  map-long m is = let has = names_found m.body is.names.0 is.names.1 in omega (arith, ap length has.text, length-append is.names.0.id, has.id_len)

  -- maps of a statement, which has all of these
  maps-can : (before maps all : List Event) (ws : List Written) → AllByRecursion (IsMapEvent Known) maps → before ++ maps ≡ all → AreApart all → length all ≤ most.maps → CanBeCut most all 0 ws
      → CanBeCut most before 0 (map Maps maps ++ ws)
  maps-can before [] all ws formed are apart few can = subst (λ (ms : List Event). CanBeCut most ms 0 ws) (sym are ∙ append-nil before) can
  maps-can before (m ∷ maps) all ws formed are apart few can =
      let next = append_assoc before (m ∷ []) maps ∙ are in (
        map-long m formed.0,
        omega (arith, ap length are, length-append before (m ∷ maps)),
        apart-front (before ++ m ∷ []) maps all next apart,
        maps-can (before ++ m ∷ []) maps all ws formed.1 next apart few can,
      )

  -- its rows events, after so many
  rows-can : (own maps : List Event) (n : ℕ) (r : RowsEvent) (rows : List RowsEvent) (ws : List Written) → AllByRecursion (IsRowsEvent own) (r ∷ rows) → n + length (r ∷ rows) ≤ most.rows
      → CanBeCut most [] 0 ws → CanBeCut most maps n (rows_written (r ∷ rows) ++ ws)
  rows-can own maps n r [] ws formed few can = (formed.0.content.2.id_len, omega arith, can)
  rows-can own maps n r (s ∷ rows) ws formed few can = (formed.0.content.2.id_len, omega arith, rows-can own maps (n + 1) s rows ws formed.1 (omega arith) can)

  -- a statement
  statement-can : (s : Statement) (ws : List Written) → IsStatement Known s → HasAtMost most s → CanBeCut most [] 0 ws → CanBeCut most [] 0 (statement_written s ++ ws)
  statement-can s ws is few can =
      let some = is.some in
      let rows = rows-can s.maps s.maps 0 some.0 some.1 ws (subst (AllByRecursion (IsRowsEvent s.maps)) some.2 is.rows_formed) (omega (arith, few.1, ap length some.2)) can in
      rw (append_assoc, some.2) (maps-can [] s.maps s.maps (rows_written (some.0 ∷ some.1) ++ ws) is.maps_formed refl is.distinct few.0 rows)

  -- statements
  statements-can : (ss : List Statement) (ws : List Written) → AllByRecursion (IsStatement Known) ss → AllByRecursion (HasAtMost most) ss → CanBeCut most [] 0 ws
      → CanBeCut most [] 0 (flat_map statement_written ss ++ ws)
  statements-can [] ws are few can = can
  statements-can (s ∷ ss) ws are few can = rw (append_assoc (statement_written s) _ ws) (statement-can s (flat_map statement_written ss ++ ws) are.0 few.0 (statements-can ss ws are.1 few.1 can))

  -- groups
  pub groups-can-be-cut : (ts : List Transaction) → AreGroups Known ts → AllByRecursion (λ (t : Transaction). AllByRecursion (HasAtMost most) t.statements) ts
      → CanBeCut most [] 0 (groups_written ts)
  groups-can-be-cut [] are few = tt
  groups-can-be-cut (t ∷ ts) are few =
      rw append_assoc (statements-can t.statements (Same t.end ∷ groups_written ts) are.0.statements_formed few.0 (groups-can-be-cut ts are.1 few.1))

-- ---- rows events among written events

-- no more than there are events
rows-within : (n : ℕ) (ws : List Written) → length (rows_among (take n ws)) ≤ n
rows-within zero ws = omega arith
rows-within (suc n) [] = omega arith
rows-within (suc n) (Same e ∷ ws) = let others = rows-within n ws in omega arith
rows-within (suc n) (Maps m ∷ ws) = let others = rows-within n ws in omega arith
rows-within (suc n) (Changes r last ∷ ws) = let others = rows-within n ws in omega arith

-- where all of them are rows events, the first is
pub rows-first : (n : ℕ) (ws : List Written) → length (rows_among (take (n + 1) ws)) ≡ n + 1
    → (r : RowsEvent) × (last : Bool) × (behind : List Written) × (ws ≡ Changes r last ∷ behind) × (length (rows_among (take n behind)) ≡ n)
rows-first n [] all = absurd (omega (arith, rw add-one at all))
rows-first n (Same e ∷ ws) all = absurd (omega (arith, rows-within n ws, rw add-one at all))
rows-first n (Maps m ∷ ws) all = absurd (omega (arith, rows-within n ws, rw add-one at all))
rows-first n (Changes r last ∷ ws) all = (r, last, ws, refl, omega (arith, rw add-one at all))

-- one more
rows-next : (n : ℕ) (ws : List Written) (r : RowsEvent) (last : Bool) (behind : List Written) → drop n ws ≡ Changes r last ∷ behind
    → (rows_among (take (suc n) ws) ≡ rows_among (take n ws) ++ r ∷ []) × (drop (suc n) ws ≡ behind)
rows-next zero ws r last behind here = (ap (λ (es : List Written). rows_among (take 1 es)) here, ap (drop 1) here)
rows-next (suc n) [] r last behind here = absurd (cc here)
rows-next (suc n) (Same e ∷ ws) r last behind here = rows-next n ws r last behind here
rows-next (suc n) (Maps m ∷ ws) r last behind here = rows-next n ws r last behind here
rows-next (suc n) (Changes s b ∷ ws) r last behind here = let more = rows-next n ws r last behind here in (ap (λ (rows : List RowsEvent). s ∷ rows) more.0, more.1)

pub rows-more : (n : ℕ) (ws : List Written) (r : RowsEvent) (last : Bool) (behind : List Written) → drop n ws ≡ Changes r last ∷ behind → length (rows_among (take n ws)) ≡ n
    → (rows_among (take (n + 1) ws) ≡ rows_among (take n ws) ++ r ∷ []) × (length (rows_among (take (n + 1) ws)) ≡ n + 1) × (drop (n + 1) ws ≡ behind)
rows-more n ws r last behind here all =
    let more = rows-next n ws r last behind here in
    rw add-one (more.0, omega (arith, ap length more.0, length-append (rows_among (take n ws)) (r ∷ []), all), more.1)

-- the first of a piece, with the end flag where it is the last
pub written-first : (r : RowsEvent) (rows : List RowsEvent) → rows_written (r ∷ rows) ≡ Changes r (length rows == 0) ∷ rows_written rows
written-first r [] = refl
written-first r (s ∷ rows) = ap (λ (last : Bool). Changes r last ∷ rows_written (s ∷ rows)) (sym (eqb-suc-zero (length rows)))
