-- The bytes of an event with another timestamp and another schema.
use Rattle.std.proofs.Common.{◌≡◌, ℕ, ◌+◌, ◌<◌, ◌≤◌, true, false, List, [], ◌∷◌, ◌++◌, length, take, drop, get_or, Option, Some, None, Ok, Err, bytes_eq, refl, sym, ap, ap₂, subst, ◌∙◌, append-nil, append_assoc, arith}
use Rattle.std.specs.Option.{option_map_or}
use Rattle.std.specs.List.{AllByRecursion}
use Rattle.std.proofs.lemmas.List.{at_drop_more, length-append, take_at, drop_at}
use Rattle.blog_event.specs.declared.event.Header.{Header}
use Rattle.blog_event.specs.Event.{Event, event_size, event_text}
use Rattle.blog_event.specs.Writing.{appended}
use Rattle.blog_row.specs.Checks.{or_bad}
use Rattle.blog_row.specs.TableMap.{HasNames, Names, names_of, name_text}
use Rattle.blog_row.specs.declared.fault.RowFault.{RowFault}
use Rattle.blog_flash.specs.code.LaidOut.{text_from}
use Rattle.blog_sql.specs.Changed.{names_text, renamed_body, renamed_names, renamed_schema}
use Rattle.blog_sql.specs.declared.options.Renamed.{Renamed}

-- ---- pairs of names

abbrev AreShort : List Renamed → Type 0
AreShort pairs = AllByRecursion (λ pair. length pair.to.now ≤ 255) pairs

-- the next pair
next-pair : (pairs : List Renamed) (i : ℕ) (d : Renamed) → i < length pairs → drop i pairs ≡ get_or pairs i d ∷ drop (i + 1) pairs
next-pair pairs i d h = at_drop_more (λ (xs : List Renamed). xs) pairs i d h

-- is for another name
pub pair-passed : (pairs : List Renamed) (i : ℕ) (d : Renamed) (name all : List ℕ) → i < length pairs → all ≡ renamed_schema (drop i pairs) name → bytes_eq (get_or pairs i d).from.now name ≡ false
    → all ≡ renamed_schema (drop (i + 1) pairs) name
pair-passed pairs i d name all h so_far other =
    let next = ap (λ (xs : List Renamed). renamed_schema xs name) (next-pair pairs i d h) in
    so_far ∙ next ∙ (rw other refl)

-- or for this one
pub pair-found : (pairs : List Renamed) (i : ℕ) (d : Renamed) (name all : List ℕ) → i < length pairs → all ≡ renamed_schema (drop i pairs) name → bytes_eq (get_or pairs i d).from.now name ≡ true
    → all ≡ (get_or pairs i d).to.now
pair-found pairs i d name all h so_far here =
    let next = ap (λ (xs : List Renamed). renamed_schema xs name) (next-pair pairs i d h) in
    so_far ∙ next ∙ (rw here refl)

-- its new name is short, and so are the others
pub pair-short : (pairs : List Renamed) (i : ℕ) (d : Renamed) → i < length pairs → AreShort (drop i pairs) → (length (get_or pairs i d).to.now ≤ 255) × AreShort (drop (i + 1) pairs)
pair-short pairs i d h short = subst AreShort (next-pair pairs i d h) short

-- ---- the body of a table map

-- names that were read, or not
pub names-read : (n : Option Names) (m : Names) → Ok m ≡ or_bad n → n ≡ Some m
names-read None m h = cc
names-read (Some x) m h = cc

pub names-not-read : (n : Option Names) (f : RowFault) → Err f ≡ or_bad n → n ≡ None
names-not-read None f h = refl
names-not-read (Some x) f h = cc

-- a body without names stays as it is
pub body-without : (pairs : List Renamed) (body : List ℕ) → names_of body ≡ None → body ≡ renamed_body pairs body
body-without pairs body none = rw none refl

-- and so does one of a schema without another name
pub body-kept : (pairs : List Renamed) (body : List ℕ) (n : Names) → names_of body ≡ Some n → HasNames body n → renamed_schema pairs n.table.schema ≡ n.table.schema → body ≡ renamed_body pairs body
body-kept pairs body n is has same =
    has.text ∙ ap (λ (schema : List ℕ). names_text (record n { table = record { schema = schema; name = n.table.name } })) (sym same)
    ∙ ap (λ (o : Option Names). option_map_or (λ m. names_text (renamed_names pairs m)) o body) (sym is)

-- the bytes around the schema's name
body-split : (id flags schema tail body : List ℕ) → length id ≡ 6 → length flags ≡ 2 → body ≡ id ++ (flags ++ (name_text schema ++ tail))
    → (take 8 body ≡ id ++ flags) × (drop (9 + length schema) body ≡ 0 ∷ tail)
body-split id flags schema tail body six two is =
    let front : List ℕ = id ++ flags in
    let begins : body ≡ front ++ (name_text schema ++ tail) = is ∙ sym (append_assoc id flags (name_text schema ++ tail)) in
    let eight : length front ≡ 8 = omega (arith, length-append id flags) in
    let name : List ℕ = length schema ∷ schema in
    let behind : body ≡ (front ++ name) ++ (0 ∷ tail) =
    begins ∙ ap (λ (bytes : List ℕ). front ++ (length schema ∷ bytes)) (append_assoc schema (0 ∷ []) tail) ∙ sym (append_assoc front name (0 ∷ tail)) in
    let long : length (front ++ name) ≡ 9 + length schema = omega (arith, length-append front name) in
    (ap (take 8) begins ∙ take_at front (name_text schema ++ tail) 8 eight, ap (drop (9 + length schema)) behind ∙ drop_at (front ++ name) (0 ∷ tail) (9 + length schema) long)

-- what is put for another name
pub body-renamed : (pairs : List Renamed) (body to after : List ℕ) (n : Names) → names_of body ≡ Some n → HasNames body n → renamed_schema pairs n.table.schema ≡ to
    → after ≡ drop (9 + length n.table.schema) body → take 8 body ++ ((length to ∷ []) ++ (to ++ (after ++ []))) ≡ renamed_body pairs body
body-renamed pairs body to after n is has new rest =
    let tail : List ℕ = name_text n.table.name ++ n.rest in
    let (front, behind) = body-split n.id n.flags n.table.schema tail body has.id_len has.flags_len has.text in
    let last : after ++ [] ≡ 0 ∷ tail = append-nil after ∙ rest ∙ behind in
    let named : to ++ (after ++ []) ≡ (to ++ 0 ∷ []) ++ tail = ap (λ (bytes : List ℕ). to ++ bytes) last ∙ sym (append_assoc to (0 ∷ []) tail) in
    ap₂ (λ (a b : List ℕ). a ++ (length to ∷ b)) front named
    ∙ append_assoc n.id n.flags (name_text to ++ tail)
    ∙ ap (λ (schema : List ℕ). names_text (record n { table = record { schema = schema; name = n.table.name } })) (sym new)
    ∙ ap (λ (o : Option Names). option_map_or (λ m. names_text (renamed_names pairs m)) o body) (sym is)

-- ---- an event

-- it is appended with this header and this body
pub event-appended : (old more body : List ℕ) (pos : ℕ) (h : Header) (e : Event) → more ≡ old ++ event_text (appended pos h body) → body ≡ e.body → h.timestamp ≡ e.timestamp → h.kind ≡ e.kind
    → h.server_id ≡ e.server_id → h.flags ≡ e.flags → more ≡ old ++ text_from pos (e ∷ [])
event-appended old more body pos h e is same t k s f =
    is ∙ ap (λ (own : Event). old ++ event_text own) (let whole : appended pos h body ≡ record e { log_pos = pos + event_size e } = rw (same, t, k, s, f) refl in whole)
    ∙ ap (λ (bytes : List ℕ). old ++ bytes) (sym (append-nil (event_text (record e { log_pos = pos + event_size e }))))
