-- The cut that is made: from the front on, each piece with as many rows events as fit.
use Rattle.std.specs.Prelude.{ℕ, nat_le, if◌then◌else◌, List, [], ◌∷◌, ◌++◌, map}
use Rattle.std.specs.List.{flat_map}
use Rattle.blog_event.specs.Event.{Event}
use Rattle.blog_event.specs.File.{read}
use Rattle.blog_row.specs.declared.order.Order.{Order}
use Rattle.blog_trans.specs.Groups.{RowsEvent, Statement, Transaction, groups}
use Rattle.blog_trans.specs.Selection.{Selection}
use Rattle.blog_flash.specs.Texts.{laid_out_after}
use Rattle.blog_flash.specs.code.LaidOut.{groups_in}
use Rattle.blog_split.specs.Cuts.{piece_bytes, piece_statement}

-- the pieces of rows events of a statement with these maps, the first of which has some already
abbrev pub pieces_on : ℕ → List Event → List RowsEvent → List RowsEvent → List (List RowsEvent)
pieces_on limit maps piece [] = piece ∷ []
pieces_on limit maps piece (r ∷ rows) =
    if nat_le (piece_bytes maps (piece ++ r ∷ [])) limit then pieces_on limit maps (piece ++ r ∷ []) rows else piece ∷ pieces_on limit maps (r ∷ []) rows

-- all pieces of them
abbrev pub pieces_of : ℕ → List Event → List RowsEvent → List (List RowsEvent)
pieces_of limit maps [] = []
pieces_of limit maps (r ∷ rows) = pieces_on limit maps (r ∷ []) rows

-- the statements that a statement is cut into
abbrev pub cut_statement : ℕ → Statement → List Statement
cut_statement limit s = map (piece_statement s) (pieces_of limit s.maps s.rows)

abbrev pub cut_transaction : ℕ → Transaction → Transaction
cut_transaction limit t = record { begin = t.begin; statements = flat_map (cut_statement limit) t.statements; end = t.end }

abbrev pub cut_groups : ℕ → List Transaction → List Transaction
cut_groups limit ts = map (cut_transaction limit) ts

-- the log of selected changes, or of what undoes them, with its statements cut
abbrev pub cut_text : Order → ℕ → List ℕ → Selection → List ℕ
cut_text order limit bytes sel = laid_out_after (read bytes sel.stop) (cut_groups limit (groups_in order (groups bytes sel)))
