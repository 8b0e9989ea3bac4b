-- What is printed for events, one after another.
use Rattle.std.proofs.Common.{◌≡◌, ℕ, ◌+◌, ◌-◌, ◌%◌, Bool, true, false, not, List, [], ◌∷◌, ◌++◌, length, take, drop, Option, Result, Ok, Err, OnOk, codes, refl, sym, ap, subst, ◌∙◌, append-nil, append_assoc, arith}
use Rattle.std.proofs.lemmas.List.{take-append-drop, length-take-le}
use Rattle.blog_device.specs.Devices.{AppendsBeginning}
use Rattle.blog_event.specs.Event.{Event, event_size}
use Rattle.blog_flash.specs.Printed.{line}
use Rattle.blog_flash.specs.Texts.{rows_event}
use Rattle.blog_flash.specs.Written.{Written, Same, Maps, Changes}
use Rattle.blog_flash.specs.code.LaidOut.{text_from}
use Rattle.blog_trans.specs.Groups.{RowsEvent}
use Rattle.blog_sql.specs.Sql.{base64_lines, count_errors}
use Rattle.blog_sql.specs.code.Adding.{Adds, full_part}
use Rattle.blog_sql.specs.code.Walk.{closing, edge, left, opening, Prints, PrintsBeginning, PrintsInside, BeginsInside}
use Rattle.blog_sql.specs.declared.output.Output.{Output}
use Rattle.blog_sql.proofs.Adding.{adds-more, adds-broken, begins-longer}
use Rattle.blog_sql.proofs.Lines.{lines-after}

-- ---- the end of a statement

-- it was open
pub closed : (had has now : Option (List ℕ)) (x y z held : List ℕ) (begun : Bool) → begun ≡ true → Adds had has x y (base64_lines held) → Adds has now y z (line (codes "';") ++ count_errors) → Adds had now x z (closing begun held)
closed had has now x y z held begun is lines ends = rw is (adds-more had has now x y z (base64_lines held) (line (codes "';") ++ count_errors) lines ends)

pub close-broken : (had has now : Option (List ℕ)) (x y held : List ℕ) (begun : Bool) → begun ≡ true → Adds had has x y (base64_lines held) → AppendsBeginning has now (y ++ (line (codes "';") ++ count_errors)) → AppendsBeginning had now (x ++ closing begun held)
close-broken had has now x y held begun is lines broken = rw is (adds-broken had has now x y (base64_lines held) (line (codes "';") ++ count_errors) lines broken)

-- a beginning of what is left
pub longer : (had has : Option (List ℕ)) (x s t : List ℕ) → AppendsBeginning had has (x ++ s) → AppendsBeginning had has (x ++ (s ++ t))
longer had has x s t broken = subst (AppendsBeginning had has) (append_assoc x s t) (begins-longer had has (x ++ s) t broken)

pub lines-broken : (had has : Option (List ℕ)) (x held : List ℕ) (begun : Bool) → begun ≡ true → AppendsBeginning had has (x ++ base64_lines held) → AppendsBeginning had has (x ++ closing begun held)
lines-broken had has x held begun is broken = rw is (longer had has x (base64_lines held) (line (codes "';") ++ count_errors) broken)

-- ---- full lines of the open statement

-- with what is after them
after-lines : (l held more : List ℕ) → length l % 57 ≡ 0 → closing true (l ++ held) ++ more ≡ base64_lines l ++ (closing true held ++ more)
after-lines l held more full =
    let ends : List ℕ = line (codes "';") ++ count_errors in
    ap (λ (text : List ℕ). (text ++ ends) ++ more) (lines-after l held full)
    ∙ ap (λ (text : List ℕ). text ++ more) (append_assoc (base64_lines l) (base64_lines held) ends)
    ∙ append_assoc (base64_lines l) (base64_lines held ++ ends) more

-- the same bytes with one more event
with-event : (l held text : List ℕ) (f : List ℕ → List ℕ) (more : List ℕ) → f (l ++ (held ++ text)) ≡ more → f ((l ++ held) ++ text) ≡ more
with-event l held text f more h = ap f (append_assoc l held text) ∙ h

pub left-lines : (each inside : Bool) (pos : ℕ) (l held : List ℕ) (ws : List Written) → length l % 57 ≡ 0
    → left each inside pos true (l ++ held) ws ≡ base64_lines l ++ left each inside pos true held ws
left-lines each inside pos l held [] full =
    sym (append-nil (closing true (l ++ held))) ∙ after-lines l held [] full ∙ ap (λ (text : List ℕ). base64_lines l ++ text) (append-nil (closing true held))
left-lines each inside pos l held (Same e ∷ ws) full = after-lines l held (edge each inside ++ left each (not inside) (pos + event_size e) false [] ws) full
left-lines each inside pos l held (Maps m ∷ ws) full =
    let text : List ℕ = text_from pos (m ∷ []) in
    ap (λ (bytes : List ℕ). left each inside (pos + event_size m) true bytes ws) (append_assoc l held text)
    ∙ left-lines each inside (pos + event_size m) l (held ++ text) ws full
left-lines each inside pos l held (Changes r false ∷ ws) full =
    let e : Event = rows_event false r in
    let text : List ℕ = text_from pos (e ∷ []) in
    ap (λ (bytes : List ℕ). left each inside (pos + event_size e) true bytes ws) (append_assoc l held text)
    ∙ left-lines each inside (pos + event_size e) l (held ++ text) ws full
left-lines each inside pos l held (Changes r true ∷ ws) full =
    let e : Event = rows_event true r in
    let text : List ℕ = text_from pos (e ∷ []) in
    let more : List ℕ = left each inside (pos + event_size e) false [] ws in
    ap (λ (bytes : List ℕ). closing true bytes ++ more) (append_assoc l held text) ∙ after-lines l (held ++ text) more full

-- ---- what was added, before what is left

-- a text, and what is left after it
pub added-before : (had has : Option (List ℕ)) (x y s : List ℕ) (a : Adds had has x y s) (more : List ℕ) → a.0 ++ (y ++ more) ≡ x ++ (s ++ more)
added-before had has x y s a more = sym (append_assoc a.0 y more) ∙ ap (λ (bytes : List ℕ). bytes ++ more) a.2 ∙ append_assoc x s more

-- what is left depends on the state alone
pub same-left : (each each' inside inside' begun begun' : Bool) (pos pos' : ℕ) (held held' : List ℕ) (ws : List Written) → each ≡ each' → inside ≡ inside' → pos ≡ pos' → begun ≡ begun' → held ≡ held'
    → left each inside pos begun held ws ≡ left each' inside' pos' begun' held' ws
same-left each each' inside inside' begun begun' pos pos' held held' ws e i p b h = rw (e, i, p, b, h) refl

module _ {A : Type 0} (had has now : Option (List ℕ)) (before after : Output A) (y : List ℕ) where
  -- the begin or the end of a transaction
  pub edge-prints : (e : Event) → Adds had has before.chunk.items y (closing before.is_open before.held.items) → Adds has now y after.chunk.items (edge before.each_transaction before.is_inside)
      → after.each_transaction ≡ before.each_transaction → after.is_inside ≡ not before.is_inside → after.pos ≡ before.pos + event_size e → after.is_open ≡ false → after.held.items ≡ []
      → Prints had now before (Same e) after
  edge-prints e closes turns each inside pos begun held =
      let text : List ℕ = closing before.is_open before.held.items in
      let own : List ℕ = edge before.each_transaction before.is_inside in
      let all = adds-more had has now before.chunk.items y after.chunk.items text own closes turns in
      record {
        done = all.0;
        written = all.1;
        text = λ ws. let more : List ℕ = left before.each_transaction (not before.is_inside) (before.pos + event_size e) false [] ws in
            ap (λ (bytes : List ℕ). all.0 ++ (after.chunk.items ++ bytes)) (same-left _ _ _ _ _ _ _ _ _ _ ws each inside pos begun held)
            ∙ added-before had now before.chunk.items after.chunk.items (text ++ own) all more
            ∙ ap (λ (bytes : List ℕ). before.chunk.items ++ bytes) (append_assoc text own more);
      }

  pub edge-broken : (e : Event) → Adds had has before.chunk.items y (closing before.is_open before.held.items) → AppendsBeginning has now (y ++ edge before.each_transaction before.is_inside) → PrintsBeginning had now before (Same e)
  edge-broken e closes broken = λ ws.
      let text : List ℕ = closing before.is_open before.held.items in
      let own : List ℕ = edge before.each_transaction before.is_inside in
      let more : List ℕ = left before.each_transaction (not before.is_inside) (before.pos + event_size e) false [] ws in
      subst (λ (bytes : List ℕ). AppendsBeginning had now (before.chunk.items ++ bytes)) (append_assoc text own more)
      (longer had now before.chunk.items (text ++ own) more (adds-broken had has now before.chunk.items y text own closes broken))

  -- an event of a statement
  pub event-prints : (e : Event) (n : ℕ) (all : List ℕ) → Adds had has before.chunk.items y (opening before.is_open) → Adds has now y after.chunk.items (base64_lines (take n all))
      → all ≡ before.held.items ++ text_from before.pos (e ∷ []) → n % 57 ≡ 0 → length (take n all) ≡ n
      → after.each_transaction ≡ before.each_transaction → after.is_inside ≡ before.is_inside → after.pos ≡ before.pos + event_size e → after.is_open ≡ true → after.held.items ≡ drop n all
      → PrintsInside had now before e after
  event-prints e n all opens lines is full size each inside pos begun held =
      let sum = adds-more had has now before.chunk.items y after.chunk.items (opening before.is_open) (base64_lines (take n all)) opens lines in
      record {
        done = sum.0;
        written = sum.1;
        begun = begun;
        same = inside;
        each = each;
        text = λ ws. let next : ℕ = before.pos + event_size e in
            let more : List ℕ = left before.each_transaction before.is_inside next true (drop n all) ws in
            let whole = sym (left-lines before.each_transaction before.is_inside next (take n all) (drop n all) ws (ap (λ (k : ℕ). k % 57) size ∙ full))
            ∙ ap (λ (bytes : List ℕ). left before.each_transaction before.is_inside next true bytes ws) (take-append-drop n all ∙ is) in
            ap (λ (bytes : List ℕ). sum.0 ++ (after.chunk.items ++ bytes)) (same-left _ _ _ _ _ _ _ _ _ _ ws each inside pos begun held)
            ∙ added-before had now before.chunk.items after.chunk.items (opening before.is_open ++ base64_lines (take n all)) sum more
            ∙ ap (λ (bytes : List ℕ). before.chunk.items ++ bytes) (append_assoc (opening before.is_open) (base64_lines (take n all)) more ∙ ap (λ (bytes : List ℕ). opening before.is_open ++ bytes) whole);
      }

  pub event-broken : (e : Event) (all : List ℕ) → Adds had has before.chunk.items y (opening before.is_open) → AppendsBeginning has now (y ++ base64_lines (full_part all))
      → all ≡ before.held.items ++ text_from before.pos (e ∷ []) → BeginsInside had now before e
  event-broken e all opens broken is = λ ws.
      let m : ℕ = length all - length all % 57 in
      let next : ℕ = before.pos + event_size e in
      let more : List ℕ = left before.each_transaction before.is_inside next true (drop m all) ws in
      let size : length (take m all) ≡ m = length-take-le m all (omega arith) in
      let full : length (take m all) % 57 ≡ 0 = omega arith in
      let whole = sym (left-lines before.each_transaction before.is_inside next (take m all) (drop m all) ws full)
      ∙ ap (λ (bytes : List ℕ). left before.each_transaction before.is_inside next true bytes ws) (take-append-drop m all ∙ is) in
      subst (λ (bytes : List ℕ). AppendsBeginning had now (before.chunk.items ++ bytes))
      (append_assoc (opening before.is_open) (base64_lines (take m all)) more ∙ ap (λ (bytes : List ℕ). opening before.is_open ++ bytes) whole)
      (longer had now before.chunk.items (opening before.is_open ++ base64_lines (take m all)) more (adds-broken had has now before.chunk.items y (opening before.is_open) (base64_lines (take m all)) opens broken))

-- ---- rows events

-- three facts of an answer
pub of-three : {X E P Q R S : Type 0} (r : Result X E) → OnOk r P → OnOk r Q → OnOk r R → (P → Q → R → S) → OnOk r S
of-three (Ok x) p q r f = f p q r
of-three (Err e) p q r f = tt

-- a beginning of what is left with an event of a statement
pub rows-broken : {A : Type 0} (had has : Option (List ℕ)) (before : Output A) (r : RowsEvent) (last : Bool) → BeginsInside had has before (rows_event last r) → PrintsBeginning had has before (Changes r last)
rows-broken had has before r false broken = broken
rows-broken had has before r true broken = λ ws.
    let e : Event = rows_event true r in
    let ends : List ℕ = closing true (before.held.items ++ text_from before.pos (e ∷ [])) in
    let more : List ℕ = left before.each_transaction before.is_inside (before.pos + event_size e) false [] ws in
    subst (λ (text : List ℕ). AppendsBeginning had has (before.chunk.items ++ text)) (append_assoc (opening before.is_open) ends more)
    (longer had has before.chunk.items (opening before.is_open ++ ends) more (broken []))

module _ {A : Type 0} (had has now : Option (List ℕ)) (before middle after : Output A) (r : RowsEvent) where
  last_text : List ℕ
  last_text = opening before.is_open ++ closing true (before.held.items ++ text_from before.pos (rows_event true r ∷ []))

  -- what an event of a statement adds, with the end of the statement
  last-adds : PrintsInside had has before (rows_event true r) middle → Adds had has before.chunk.items (middle.chunk.items ++ closing middle.is_open middle.held.items) last_text
  unfolding last_text
  last-adds prints = (prints.done, prints.written, prints.text [])

  -- the last rows event of a statement
  pub last-prints : PrintsInside had has before (rows_event true r) middle → middle.pos ≡ before.pos + event_size (rows_event true r)
      → Adds has now middle.chunk.items after.chunk.items (closing middle.is_open middle.held.items) → after.is_open ≡ false → after.held.items ≡ []
      → after.each_transaction ≡ middle.each_transaction → after.is_inside ≡ middle.is_inside → after.pos ≡ middle.pos → Prints had now before (Changes r true) after
  unfolding last_text
  last-prints prints at closes begun held each inside pos =
      let ends : List ℕ = middle.chunk.items ++ closing middle.is_open middle.held.items in
      let rest : Adds has now ends after.chunk.items [] = (closes.0, closes.1, closes.2 ∙ sym (append-nil ends)) in
      let sum = adds-more had has now before.chunk.items ends after.chunk.items last_text [] (last-adds prints) rest in
      let all = subst (Adds had now before.chunk.items after.chunk.items) (append-nil last_text) sum in
      let e : Event = rows_event true r in
      let statement : List ℕ = closing true (before.held.items ++ text_from before.pos (e ∷ [])) in
      record {
        done = all.0;
        written = all.1;
        text = λ ws. let more : List ℕ = left before.each_transaction before.is_inside (before.pos + event_size e) false [] ws in
            ap (λ (bytes : List ℕ). all.0 ++ (after.chunk.items ++ bytes)) (same-left _ _ _ _ _ _ _ _ _ _ ws (each ∙ prints.each) (inside ∙ prints.same) (pos ∙ at) begun held)
            ∙ added-before had now before.chunk.items after.chunk.items (opening before.is_open ++ statement) all more
            ∙ ap (λ (bytes : List ℕ). before.chunk.items ++ bytes) (append_assoc (opening before.is_open) statement more);
      }

  pub last-broken : PrintsInside had has before (rows_event true r) middle → AppendsBeginning has now (middle.chunk.items ++ closing middle.is_open middle.held.items) → PrintsBeginning had now before (Changes r true)
  unfolding last_text
  last-broken prints broken = λ ws.
      let ends : List ℕ = middle.chunk.items ++ closing middle.is_open middle.held.items in
      let e : Event = rows_event true r in
      let statement : List ℕ = closing true (before.held.items ++ text_from before.pos (e ∷ [])) in
      let more : List ℕ = left before.each_transaction before.is_inside (before.pos + event_size e) false [] ws in
      let nothing = subst (AppendsBeginning has now) (sym (append-nil ends)) broken in
      let whole = subst (λ (text : List ℕ). AppendsBeginning had now (before.chunk.items ++ text)) (append-nil last_text) (adds-broken had has now before.chunk.items ends last_text [] (last-adds prints) nothing) in
      subst (λ (text : List ℕ). AppendsBeginning had now (before.chunk.items ++ text)) (append_assoc (opening before.is_open) statement more)
      (longer had now before.chunk.items (opening before.is_open ++ statement) more whole)
