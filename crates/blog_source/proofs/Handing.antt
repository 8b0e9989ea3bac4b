-- What is handed out while a log is gone through.
use Rattle.std.proofs.Common.{◌≡◌, ℕ, ◌+◌, ◌≤◌, Bool, true, false, List, [], ◌++◌, length, take, drop, None, Some, refl, sym, subst, ap, ◌∙◌, append_assoc}
use Rattle.std.specs.List.{flat_map}
use Rattle.std.proofs.lemmas.List.{append-nil}
use Rattle.blog_event.specs.declared.event.Header.{Header}
use Rattle.blog_event.specs.Event.{event_text}
use Rattle.blog_event.specs.File.{Placed, end_of}
use Rattle.blog_source.specs.declared.form.Form.{Form}
use Rattle.blog_source.specs.declared.form.Form.TheVariants.{Places, Plain}
use Rattle.blog_source.specs.declared.reading.Reading.{Reading}
use Rattle.blog_source.specs.Found.{Found, as_damaged, found_with}
use Rattle.blog_source.specs.code.Walk.{IsKept, IsPassed, damaged_header, found_left, moved, put_text}
use Rattle.blog_source.proofs.Moving.{bare-is, damaged-is, has-room, kept-text, wrong-has-room}

-- nothing is handed out for no events
pub none-text : (form : Form) (sums : Bool) (pos : ℕ) → put_text form sums pos [] ≡ []
none-text Places sums pos = refl
none-text Plain sums pos = refl

pub ended-text : (form : Form) (sums : Bool) (pos : ℕ) (out : List ℕ) (ps : List Placed) → ps ≡ [] → out ++ put_text form sums pos ps ≡ out
ended-text form sums pos out ps none =
    ap (λ (ps : List Placed). out ++ put_text form sums pos ps) none ∙ ap (λ (text : List ℕ). out ++ text) (none-text form sums pos) ∙ append-nil out

-- ---- an event that is kept

-- what is found of it and of those behind it, by the size in its header, of bytes that are the same behind it
pub kept-found : (how : Reading) (sums : Bool) (bytes new : List ℕ) (at : ℕ) (h : Header) (kept : IsKept how sums bytes at h) → length new ≡ length bytes
    → drop (at + h.size) new ≡ drop (at + h.size) bytes
    → found_left how sums (length bytes) at (drop at bytes)
    ≡ found_with None false (record { pos = at; event = kept.event }) (found_left how sums (length new) (at + h.size) (drop (at + h.size) new))
kept-found how sums bytes new at h kept long behind =
    let p : Placed = record { pos = at; event = kept.event } in
    kept.found
    ∙ ap (λ (size : ℕ). found_with None false p (found_left how sums (length bytes) (at + size) (drop (at + size) bytes))) (sym kept.header.size)
    ∙ (λ i. found_with None false p (found_left how sums (sym long i) (at + h.size) (sym behind i)))

-- what is handed out with it
pub kept-put : (how : Reading) (form : Form) (sums : Bool) (bytes new : List ℕ) (at to next : ℕ) (h : Header) (kept : IsKept how sums bytes at h) → length new ≡ length bytes
    → drop (at + h.size) new ≡ drop (at + h.size) bytes → next ≡ end_of to (moved form sums to at h bytes)
    → take next new ≡ take to bytes ++ flat_map event_text (moved form sums to at h bytes)
    → take next new ++ put_text form sums next (found_left how sums (length new) (at + h.size) (drop (at + h.size) new)).kept
    ≡ take to bytes ++ put_text form sums to (found_left how sums (length bytes) at (drop at bytes)).kept
kept-put how form sums bytes new at to next h kept long behind next_is put =
    let later : List Placed = (found_left how sums (length new) (at + h.size) (drop (at + h.size) new)).kept in
    let one : List ℕ = flat_map event_text (moved form sums to at h bytes) in
    let room : sums ≡ true → 23 ≤ h.size = λ is. subst (λ (size : ℕ). 23 ≤ size) (sym kept.header.size) (has-room sums (record { pos = at; event = kept.event }) kept.passes is) in
    ap (λ (out : List ℕ). out ++ put_text form sums next later) put
    ∙ ap (λ (next : ℕ). (take to bytes ++ one) ++ put_text form sums next later) next_is
    ∙ append_assoc (take to bytes) one (put_text form sums (end_of to (moved form sums to at h bytes)) later)
    ∙ ap (λ (text : List ℕ). take to bytes ++ text) (sym (kept-text form sums bytes at to h kept.event later (bare-is sums bytes at h kept.event kept.stands kept.header room)))
    ∙ ap (λ (f : Found). take to bytes ++ put_text form sums to f.kept) (sym (kept-found how sums bytes new at h kept long behind))

-- ---- an event that is passed over

pub passed-found : (how : Reading) (sums : Bool) (bytes new : List ℕ) (at : ℕ) (h : Header) (passed : IsPassed how sums bytes at h) → length new ≡ length bytes
    → drop (at + h.size) new ≡ drop (at + h.size) bytes
    → found_left how sums (length bytes) at (drop at bytes)
    ≡ found_with (Some passed.fault) true (record { pos = at; event = passed.event }) (found_left how sums (length new) (at + h.size) (drop (at + h.size) new))
passed-found how sums bytes new at h passed long behind =
    let p : Placed = record { pos = at; event = passed.event } in
    passed.found ∙ (λ i. found_with (Some passed.fault) true p (found_left how sums (sym long i) (at + h.size) (sym behind i)))

pub passed-put : (how : Reading) (form : Form) (sums : Bool) (bytes new : List ℕ) (at to next : ℕ) (h : Header) (passed : IsPassed how sums bytes at h) → length new ≡ length bytes
    → drop (at + h.size) new ≡ drop (at + h.size) bytes → next ≡ end_of to (moved form sums to at (damaged_header h) bytes)
    → take next new ≡ take to bytes ++ flat_map event_text (moved form sums to at (damaged_header h) bytes)
    → take next new ++ put_text form sums next (found_left how sums (length new) (at + h.size) (drop (at + h.size) new)).kept
    ≡ take to bytes ++ put_text form sums to (found_left how sums (length bytes) at (drop at bytes)).kept
passed-put how form sums bytes new at to next h passed long behind next_is put =
    let later : List Placed = (found_left how sums (length new) (at + h.size) (drop (at + h.size) new)).kept in
    let p : Placed = record { pos = at; event = passed.event } in
    let one : List ℕ = flat_map event_text (moved form sums to at (damaged_header h) bytes) in
    let room : sums ≡ true → 23 ≤ h.size = λ is. subst (λ (size : ℕ). 23 ≤ size) (sym passed.header.size) (wrong-has-room sums p passed.fault passed.fails passed.wrong is) in
    ap (λ (out : List ℕ). out ++ put_text form sums next later) put
    ∙ ap (λ (next : ℕ). (take to bytes ++ one) ++ put_text form sums next later) next_is
    ∙ append_assoc (take to bytes) one (put_text form sums (end_of to (moved form sums to at (damaged_header h) bytes)) later)
    ∙ ap (λ (text : List ℕ). take to bytes ++ text)
    (sym (kept-text form sums bytes at to (damaged_header h) (as_damaged p).event later (damaged-is sums bytes at h passed.event passed.stands passed.header room)))
    ∙ ap (λ (f : Found). take to bytes ++ put_text form sums to f.kept) (sym (passed-found how sums bytes new at h passed long behind))
