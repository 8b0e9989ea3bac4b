-- One event of groups after the other.
use Rattle.std.proofs.Common.{◌≡◌, ℕ, ◌+◌, ◌≤◌, Bool, true, false, length, List, [], ◌∷◌, ◌++◌, drop, drop-drop, Option, None, option_to_list, refl, sym, ap, ap₂, subst, ◌∙◌}
use Rattle.blog_event.specs.Event.{Event}
use Rattle.blog_trans.specs.Groups.{PlacedRows, event_value, rows_value}
use Rattle.blog_trans.specs.code.InTurn.{GroupEvent, Changes}
use Rattle.blog_flash.specs.Texts.{rows_event}
use Rattle.blog_left_out.specs.LeftOut.{content_rows, rows_kept, stays}
use Rattle.blog_left_out.specs.declared.fault.LeaveOutFault.{LeaveOutFault}
use Rattle.blog_left_out.specs.code.InTurn.{held_after, marks_after, written_for, written_in_turn}
use Rattle.blog_left_out.specs.code.PutView.{IsPut, Refuses}
use Rattle.blog_left_out.proofs.Putting.{IsLeft, left-more, left-refused, put_none}
use Rattle.blog_left_out.proofs.Keeping.{event-many}

-- ---- a rows event

-- what comes of an event
abbrev pub Comes : List Bool → Option Event → GroupEvent → List ℕ → List ℕ → Option Event → ℕ → Type 0
Comes ms held e old new next used = IsPut old (written_for ms held e) new × (next ≡ held_after ms held e) × (drop used ms ≡ marks_after ms e)

-- it is left out
pub rows-out : (ms : List Bool) (held : Option Event) (r : PlacedRows) (last : Bool) (old : List ℕ) (used : ℕ) → stays ms (rows_value r).content ≡ false
    → drop used ms ≡ drop (length (content_rows (rows_value r).content)) ms → length old ≤ 4294967295 → Comes ms held (Changes r last) old old held used
rows-out ms held r last old used out left short =
    let many = ap (λ (n : ℕ). drop n ms) (sym (event-many (rows_value r))) in
    rw out (put_none old short, refl, left ∙ many)

-- it stays
pub rows-put : (ms : List Bool) (held : Option Event) (r : PlacedRows) (last : Bool) (old new : List ℕ) (used : ℕ) (event : Event) → stays ms (rows_value r).content ≡ true
    → drop used ms ≡ drop (length (content_rows (rows_value r).content)) ms → event ≡ rows_event true (rows_kept ms (rows_value r))
    → IsPut old (option_to_list held ++ event_value r.map ∷ event ∷ []) new → Comes ms held (Changes r last) old new None used
rows-put ms held r last old new used event there left is put =
    let many = ap (λ (n : ℕ). drop n ms) (sym (event-many (rows_value r))) in
    rw there (subst (λ (e : Event). IsPut old (option_to_list held ++ event_value r.map ∷ e ∷ []) new) is put, refl, left ∙ many)

pub rows-refused : (ms : List Bool) (held : Option Event) (r : PlacedRows) (last : Bool) (old : List ℕ) (event : Event) (fault : LeaveOutFault) → stays ms (rows_value r).content ≡ true
    → event ≡ rows_event true (rows_kept ms (rows_value r)) → Refuses old (option_to_list held ++ event_value r.map ∷ event ∷ []) fault → Refuses old (written_for ms held (Changes r last)) fault
rows-refused ms held r last old event fault there is refused =
    rw there (subst (λ (e : Event). Refuses old (option_to_list held ++ event_value r.map ∷ e ∷ []) fault) is refused)

-- ---- one event after the other

-- what is left after the first
abbrev rest_of : List Bool → Option Event → GroupEvent → List GroupEvent → List Event
rest_of ms held e es = written_in_turn (marks_after ms e) (held_after ms held e) es

pub turn-more : (old a b : List ℕ) (whole : List Event) (all ms : List Bool) (at used : ℕ) (held next : Option Event) (e : GroupEvent) (before after : List GroupEvent)
    → before ≡ e ∷ after → ms ≡ drop at all → IsPut a (written_for ms held e) b → next ≡ held_after ms held e → drop used ms ≡ marks_after ms e
    → IsLeft old whole a (written_in_turn (drop at all) held before) → IsLeft old whole b (written_in_turn (drop (at + used) all) next after)
turn-more old a b whole all ms at used held next e before after first marks put held_is left_is h =
    let both : drop (at + used) all ≡ marks_after ms e = sym (drop-drop used at all) ∙ ap (drop used) (sym marks) ∙ left_is in
    let parts : written_in_turn (drop at all) held before ≡ written_for ms held e ++ rest_of ms held e after =
    ap₂ (λ (left : List Bool) (es : List GroupEvent). written_in_turn left held es) (sym marks) first in
    let rest : rest_of ms held e after ≡ written_in_turn (drop (at + used) all) next after =
    ap₂ (λ (left : List Bool) (h : Option Event). written_in_turn left h after) (sym both) (sym held_is) in
    left-more old a b whole (written_for ms held e) (written_in_turn (drop (at + used) all) next after) (written_in_turn (drop at all) held before)
    (parts ∙ ap (λ es. written_for ms held e ++ es) rest) put h

pub turn-refused : (old a : List ℕ) (whole : List Event) (all ms : List Bool) (at : ℕ) (held : Option Event) (e : GroupEvent) (before after : List GroupEvent) (fault : LeaveOutFault)
    → before ≡ e ∷ after → ms ≡ drop at all → Refuses a (written_for ms held e) fault → IsLeft old whole a (written_in_turn (drop at all) held before) → Refuses old whole fault
turn-refused old a whole all ms at held e before after fault first marks refused h =
    left-refused old a whole (written_for ms held e) (rest_of ms held e after) (written_in_turn (drop at all) held before) fault
    (ap₂ (λ (left : List Bool) (es : List GroupEvent). written_in_turn left held es) (sym marks) first) refused h
