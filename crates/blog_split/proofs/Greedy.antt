-- The cut that is made is one: nothing is lost or moved, each piece fits, and none has room for the next rows event.
use Rattle.std.proofs.Common.{◌≡◌, ℕ, ◌≤◌, ◌<◌, Bool, true, false, if◌then◌else◌, nat_le, List, [], ◌∷◌, ◌++◌, length, length-append, refl, sym, ap, subst, ◌∙◌, append-nil, append_assoc, arith}
use Rattle.std.specs.List.{AllByRecursion, flat_map}
use Rattle.std.proofs.lemmas.Bool.{leb-true, leb-false}
use Rattle.blog_event.specs.Event.{Event}
use Rattle.blog_trans.specs.Groups.{RowsEvent, Statement, Transaction}
use Rattle.blog_split.specs.Cuts.{piece_bytes, IsPiece, AreFull, IsCut, AreCut, IsCutInto}
use Rattle.blog_split.specs.code.Greedy.{pieces_on, pieces_of, cut_statement, cut_groups}

-- ---- joined

on-joined : (limit : ℕ) (maps : List Event) (piece rows : List RowsEvent) → flat_map (λ p. p) (pieces_on limit maps piece rows) ≡ piece ++ rows
on-joined limit maps piece [] = refl
on-joined limit maps piece (r ∷ rows) = by_case (nat_le (piece_bytes maps (piece ++ r ∷ [])) limit) (on-joined limit maps (piece ++ r ∷ []) rows) (on-joined limit maps (r ∷ []) rows)
  where
    by_case : (b : Bool) → flat_map (λ p. p) (pieces_on limit maps (piece ++ r ∷ []) rows) ≡ (piece ++ r ∷ []) ++ rows → flat_map (λ p. p) (pieces_on limit maps (r ∷ []) rows) ≡ r ∷ rows
        → flat_map (λ p. p) (if b then pieces_on limit maps (piece ++ r ∷ []) rows else piece ∷ pieces_on limit maps (r ∷ []) rows) ≡ piece ++ r ∷ rows
    by_case true more anew = more ∙ append_assoc piece (r ∷ []) rows
    by_case false more anew = ap (λ rs. piece ++ rs) anew

-- ---- bounded

one-more : (limit : ℕ) (maps : List Event) (piece : List RowsEvent) (r : RowsEvent) → piece_bytes maps (piece ++ r ∷ []) ≤ limit → IsPiece limit maps (piece ++ r ∷ [])
one-more limit maps [] r fits = tt
one-more limit maps (x ∷ []) r fits = fits
one-more limit maps (x ∷ y ∷ piece) r fits = fits

on-bounded : (limit : ℕ) (maps : List Event) (piece rows : List RowsEvent) → IsPiece limit maps piece → AllByRecursion (IsPiece limit maps) (pieces_on limit maps piece rows)
on-bounded limit maps piece [] h = (h, tt)
on-bounded limit maps piece (r ∷ rows) h = by_case (nat_le (piece_bytes maps (piece ++ r ∷ [])) limit) refl (on-bounded limit maps (piece ++ r ∷ []) rows) (on-bounded limit maps (r ∷ []) rows tt)
  where
    by_case : (b : Bool) → nat_le (piece_bytes maps (piece ++ r ∷ [])) limit ≡ b → (IsPiece limit maps (piece ++ r ∷ []) → AllByRecursion (IsPiece limit maps) (pieces_on limit maps (piece ++ r ∷ []) rows))
        → AllByRecursion (IsPiece limit maps) (pieces_on limit maps (r ∷ []) rows)
        → AllByRecursion (IsPiece limit maps) (if b then pieces_on limit maps (piece ++ r ∷ []) rows else piece ∷ pieces_on limit maps (r ∷ []) rows)
    by_case true is more anew = more (one-more limit maps piece r (leb-true (piece_bytes maps (piece ++ r ∷ [])) limit is))
    by_case false is more anew = (h, anew)

-- all of them
pub pieces-joined : (limit : ℕ) (maps : List Event) (rows : List RowsEvent) → flat_map (λ p. p) (pieces_of limit maps rows) ≡ rows
pieces-joined limit maps [] = refl
pieces-joined limit maps (r ∷ rows) = on-joined limit maps (r ∷ []) rows

-- ---- none is empty

on-some : (limit : ℕ) (maps : List Event) (piece rows : List RowsEvent) → 0 < length piece → AllByRecursion (λ p. 0 < length p) (pieces_on limit maps piece rows)
on-some limit maps piece [] h = (h, tt)
on-some limit maps piece (r ∷ rows) h =
    by_case (nat_le (piece_bytes maps (piece ++ r ∷ [])) limit) (on-some limit maps (piece ++ r ∷ []) rows (omega (arith, length-append piece (r ∷ []))))
    (on-some limit maps (r ∷ []) rows (omega arith))
  where
    by_case : (b : Bool) → AllByRecursion (λ p. 0 < length p) (pieces_on limit maps (piece ++ r ∷ []) rows) → AllByRecursion (λ p. 0 < length p) (pieces_on limit maps (r ∷ []) rows)
        → AllByRecursion (λ p. 0 < length p) (if b then pieces_on limit maps (piece ++ r ∷ []) rows else piece ∷ pieces_on limit maps (r ∷ []) rows)
    by_case true more anew = more
    by_case false more anew = (h, anew)

pub some-pieces : (limit : ℕ) (maps : List Event) (rows : List RowsEvent) → AllByRecursion (λ p. 0 < length p) (pieces_of limit maps rows)
some-pieces limit maps [] = tt
some-pieces limit maps (r ∷ rows) = on-some limit maps (r ∷ []) rows (omega arith)

-- ---- full

-- the first piece begins with what it has already
abbrev BeginsOn : List RowsEvent → List (List RowsEvent) → Type 0
BeginsOn piece pieces = (more : List RowsEvent) × (others : List (List RowsEvent)) × (pieces ≡ (piece ++ more) ∷ others)

on-begins : (limit : ℕ) (maps : List Event) (piece rows : List RowsEvent) → BeginsOn piece (pieces_on limit maps piece rows)
on-begins limit maps piece [] = ([], [], ap (λ p. p ∷ []) (sym (append-nil piece)))
on-begins limit maps piece (r ∷ rows) = by_case (nat_le (piece_bytes maps (piece ++ r ∷ [])) limit) (on-begins limit maps (piece ++ r ∷ []) rows)
  where
    by_case : (b : Bool) → BeginsOn (piece ++ r ∷ []) (pieces_on limit maps (piece ++ r ∷ []) rows)
        → BeginsOn piece (if b then pieces_on limit maps (piece ++ r ∷ []) rows else piece ∷ pieces_on limit maps (r ∷ []) rows)
    by_case true more = (r ∷ more.0, more.1, more.2 ∙ ap (λ p. p ∷ more.1) (append_assoc piece (r ∷ []) more.0))
    by_case false more = ([], pieces_on limit maps (r ∷ []) rows, ap (λ p. p ∷ pieces_on limit maps (r ∷ []) rows) (sym (append-nil piece)))

-- a piece before others, the first of which begins with a rows event that it has no room for
full-before : (limit : ℕ) (maps : List Event) (piece : List RowsEvent) (r : RowsEvent) (pieces : List (List RowsEvent)) → BeginsOn (r ∷ []) pieces → limit < piece_bytes maps (piece ++ r ∷ []) → AreFull limit maps pieces
    → AreFull limit maps (piece ∷ pieces)
full-before limit maps piece r pieces begins over full = subst (λ ps. AreFull limit maps (piece ∷ ps)) (sym begins.2) (over, subst (AreFull limit maps) begins.2 full)

on-full : (limit : ℕ) (maps : List Event) (piece rows : List RowsEvent) → AreFull limit maps (pieces_on limit maps piece rows)
on-full limit maps piece [] = tt
on-full limit maps piece (r ∷ rows) =
    by_case (nat_le (piece_bytes maps (piece ++ r ∷ [])) limit) refl (on-full limit maps (piece ++ r ∷ []) rows) (on-full limit maps (r ∷ []) rows)
  where
    by_case : (b : Bool) → nat_le (piece_bytes maps (piece ++ r ∷ [])) limit ≡ b → AreFull limit maps (pieces_on limit maps (piece ++ r ∷ []) rows) → AreFull limit maps (pieces_on limit maps (r ∷ []) rows)
        → AreFull limit maps (if b then pieces_on limit maps (piece ++ r ∷ []) rows else piece ∷ pieces_on limit maps (r ∷ []) rows)
    by_case true is more anew = more
    by_case false is more anew =
        full-before limit maps piece r (pieces_on limit maps (r ∷ []) rows) (on-begins limit maps (r ∷ []) rows) (leb-false (piece_bytes maps (piece ++ r ∷ [])) limit is) anew

-- ---- cut

-- rows events
pieces-cut : (limit : ℕ) (maps : List Event) (rows : List RowsEvent) → IsCut limit maps rows (pieces_of limit maps rows)
pieces-cut limit maps [] = record { joined = refl; bounded = tt; full = tt }
pieces-cut limit maps (r ∷ rows) = record { joined = pieces-joined limit maps (r ∷ rows); bounded = on-bounded limit maps (r ∷ []) rows tt; full = on-full limit maps (r ∷ []) rows }

-- statements
statements-cut : (limit : ℕ) (ss : List Statement) → AreCut limit ss (flat_map (cut_statement limit) ss)
statements-cut limit [] = refl
statements-cut limit (s ∷ ss) = (pieces_of limit s.maps s.rows, flat_map (cut_statement limit) ss, pieces-cut limit s.maps s.rows, refl, statements-cut limit ss)

-- groups
pub groups-are-cut : (limit : ℕ) (ts : List Transaction) → IsCutInto limit ts (cut_groups limit ts)
groups-are-cut limit [] = tt
groups-are-cut limit (t ∷ ts) = (record { begins = refl; statements = statements-cut limit t.statements; ends = refl }, groups-are-cut limit ts)
