-- What is put for an event, by what it becomes.
use Rattle.std.proofs.Common.{◌≡◌, ℕ, ◌+◌, ◌-◌, Bool, List, [], ◌∷◌, ◌++◌, length, take, drop, refl, sym, ap, ◌∙◌}
use Rattle.std.specs.List.{flat_map}
use Rattle.std.proofs.lemmas.List.{append-nil}
use Rattle.blog_event.specs.declared.event.Header.{Header}
use Rattle.blog_event.specs.Event.{Event, event_size, event_text}
use Rattle.blog_event.specs.File.{end_of}
use Rattle.blog_event.specs.Writing.{header_text}
use Rattle.blog_gtid.specs.Tagged.{gtid_body_of}
use Rattle.blog_source.specs.declared.becoming.Becoming.{Becoming}
use Rattle.blog_source.specs.declared.becoming.Becoming.TheVariants.{Itself, Gtid, Begin, Nothing}
use Rattle.blog_source.specs.declared.form.Form.{Form}
use Rattle.blog_source.specs.Becoming.{become_as, becoming_of}
use Rattle.blog_source.specs.Maria.{begin_body, begin_of}
use Rattle.blog_source.specs.code.Walk.{cut_as, formed, moved, moved_bare, moved_size, pos_as, put_as}
use Rattle.blog_source.proofs.Moving.{header-body}

-- what is put, by its end
pub record IsPut (old new : List ℕ) (form : Form) (sums : Bool) (to at : ℕ) (h : Header) (end : ℕ) : Type 0 where
  pub front : take end new ≡ take to old ++ flat_map event_text (moved form sums to at h old)
  pub end_is : end ≡ end_of to (moved form sums to at h old)

-- one event that is put: a header and a body
one-put : (old new : List ℕ) (form : Form) (sums : Bool) (to at : ℕ) (h : Header) (end kind flags : ℕ) (body : List ℕ) (e : Event)
    → formed form (moved_bare sums at h old) ≡ e ∷ [] → kind ≡ e.kind → body ≡ e.body → h.timestamp ≡ e.timestamp → h.server_id ≡ e.server_id → flags ≡ e.flags
    → end ≡ to + (19 + length body)
    → take end new ≡ take to old ++ (header_text (record h { kind = kind; size = 19 + length body; log_pos = pos_as form at end; flags = flags }) ++ body)
    → IsPut old new form sums to at h end
one-put old new form sums to at h end kind flags body e is kind_is body_is time_is server_is flags_is end_is put =
    let size : 19 + length body ≡ event_size e = ap (λ (body : List ℕ). 19 + length body) body_is in
    let last : end ≡ to + event_size e = end_is ∙ ap (λ (n : ℕ). to + n) size in
    let f : Event = record e { log_pos = pos_as form at end } in
    let same : f ∷ [] ≡ moved form sums to at h old =
    ap (λ (end : ℕ). record e { log_pos = pos_as form at end } ∷ []) last ∙ ap (put_as form at to) (sym is) in
    let text : header_text (record h { kind = kind; size = 19 + length body; log_pos = pos_as form at end; flags = flags }) ++ body ≡ event_text f =
    ap (λ (b : List ℕ). header_text (record h { kind = kind; size = 19 + length body; log_pos = pos_as form at end; flags = flags }) ++ b) body_is
    ∙ header-body h (19 + length body) (pos_as form at end) kind flags f size refl kind_is time_is server_is flags_is in
    record {
      front = put ∙ ap (λ (text : List ℕ). take to old ++ text) (text ∙ sym (append-nil (event_text f)) ∙ ap (flat_map event_text) same);
      end_is = last ∙ ap (end_of to) same;
    }

-- the body of an event without its sum, by its length
abbrev body_of : ℕ → ℕ → List ℕ → List ℕ
body_of at len old = take len (drop (at + 19) old)

-- what it becomes, by how long it is
pub becoming-is : (sums : Bool) (at : ℕ) (h : Header) (old : List ℕ) (len : ℕ) (r : Becoming) → len ≡ moved_size sums h.size - 19 → r ≡ becoming_of h.kind (body_of at len old)
    → (form : Form) → formed form (moved_bare sums at h old) ≡ become_as (cut_as form) r (moved_bare sums at h old)
becoming-is sums at h old len r len_is is form =
    ap (λ (r : Becoming). become_as (cut_as form) r (moved_bare sums at h old)) (sym (is ∙ ap (λ (len : ℕ). becoming_of h.kind (body_of at len old)) len_is))

-- a Gtid event, for a tagged one
pub tagged-put : (old new : List ℕ) (form : Form) (sums : Bool) (to at : ℕ) (h : Header) (end len : ℕ) → len ≡ moved_size sums h.size - 19 → Gtid ≡ becoming_of h.kind (body_of at len old)
    → end ≡ to + (19 + length (cut_as form (gtid_body_of (body_of at len old))))
    → take end new ≡ take to old ++ (header_text (record h { kind = 33; size = 19 + length (cut_as form (gtid_body_of (body_of at len old))); log_pos = pos_as form at end })
    ++ cut_as form (gtid_body_of (body_of at len old)))
    → IsPut old new form sums to at h end
tagged-put old new form sums to at h end len len_is becomes end_is put =
    let bare : Event = moved_bare sums at h old in
    let e : Event = record bare { kind = 33; body = cut_as form (gtid_body_of bare.body) } in
    one-put old new form sums to at h end 33 h.flags (cut_as form (gtid_body_of (body_of at len old))) e (becoming-is sums at h old len Gtid len_is becomes form) refl
    (ap (λ (len : ℕ). cut_as form (gtid_body_of (body_of at len old))) len_is) refl refl refl end_is put

-- `BEGIN`
pub begin-put : (old new : List ℕ) (form : Form) (sums : Bool) (to at : ℕ) (h : Header) (end len : ℕ) → len ≡ moved_size sums h.size - 19 → Begin ≡ becoming_of h.kind (body_of at len old)
    → end ≡ to + 38
    → take end new ≡ take to old ++ (header_text (record h { kind = 2; size = 38; log_pos = pos_as form at end; flags = 8 }) ++ begin_body)
    → IsPut old new form sums to at h end
begin-put old new form sums to at h end len len_is becomes end_is put =
    one-put old new form sums to at h end 2 8 begin_body (begin_of (moved_bare sums at h old)) (becoming-is sums at h old len Begin len_is becomes form) refl refl refl refl refl end_is put

-- nothing
pub nothing-put : (old : List ℕ) (form : Form) (sums : Bool) (to at : ℕ) (h : Header) (len : ℕ) → len ≡ moved_size sums h.size - 19 → Nothing ≡ becoming_of h.kind (body_of at len old)
    → IsPut old old form sums to at h to
nothing-put old form sums to at h len len_is becomes =
    let none : [] ≡ moved form sums to at h old = ap (put_as form at to) (sym (becoming-is sums at h old len Nothing len_is becomes form)) in
    record { front = sym (append-nil (take to old)) ∙ ap (λ (es : List Event). take to old ++ flat_map event_text es) none; end_is = ap (end_of to) none }

-- the event itself
pub same-put : (old new : List ℕ) (form : Form) (sums : Bool) (to at : ℕ) (h : Header) (end len : ℕ) → len ≡ moved_size sums h.size - 19 → Itself ≡ becoming_of h.kind (body_of at len old)
    → len ≡ length (body_of at len old) → end ≡ to + (19 + len)
    → take end new ≡ take to old ++ (header_text (record h { size = 19 + len; log_pos = pos_as form at end }) ++ body_of at len old)
    → IsPut old new form sums to at h end
same-put old new form sums to at h end len len_is becomes long end_is put =
    one-put old new form sums to at h end h.kind h.flags (body_of at len old) (moved_bare sums at h old) (becoming-is sums at h old len Itself len_is becomes form) refl
    (ap (λ (len : ℕ). body_of at len old) len_is) refl refl refl
    (end_is ∙ ap (λ (n : ℕ). to + (19 + n)) long)
    (put ∙ ap (λ (n : ℕ). take to old ++ (header_text (record h { size = 19 + n; log_pos = pos_as form at end }) ++ body_of at len old)) long)
