-- Rows that are put one after the other.
use Rattle.std.proofs.Common.{◌≡◌, List, ◌∷◌, ◌++◌, map, refl, sym, ap, ◌∙◌, append_assoc}
use Rattle.std.proofs.lemmas.List.{map-append}
use Rattle.blog_trans.specs.Changes.{Change}
use Rattle.blog_trans.specs.code.InTurn.{GroupEvent}
use Rattle.blog_later.specs.code.EventChanges.{event_changes, events_changes}
use Rattle.blog_untouched.specs.declared.rows.SelectedRow.{SelectedRow}

-- the first changes are put, and the others are left
put-part : (g : Change → SelectedRow) (first later whole : List Change) (had put has all : List SelectedRow) → whole ≡ first ++ later → put ≡ map g first → has ≡ had ++ put
    → had ++ map g whole ≡ all → has ++ map g later ≡ all
put-part g first later whole had put has all parts these is before =
    ap (λ (rs : List SelectedRow). rs ++ map g later) (is ∙ ap (λ (rs : List SelectedRow). had ++ rs) these)
    ∙ append_assoc had (map g first) (map g later)
    ∙ ap (λ (rs : List SelectedRow). had ++ rs) (sym (map-append g first later) ∙ ap (map g) (sym parts)) ∙ before

-- those of an event
pub put-event : (g : Change → SelectedRow) (e : GroupEvent) (left rest : List GroupEvent) (had has all : List SelectedRow) → left ≡ e ∷ rest → has ≡ had ++ map g (event_changes e)
    → had ++ map g (events_changes left) ≡ all → has ++ map g (events_changes rest) ≡ all
put-event g e left rest had has all first is before =
    put-part g (event_changes e) (events_changes rest) (events_changes left) had (map g (event_changes e)) has all (ap events_changes first) refl is before
