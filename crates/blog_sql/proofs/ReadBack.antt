-- The whole text is read back.
use Rattle.std.proofs.Common.{◌≡◌, ℕ, zero, suc, ◌+◌, ◌<◌, ◌==◌, Bool, true, false, not, ◌&&◌, if◌then◌else◌, List, [], ◌∷◌, ◌++◌, length, map, drop, codes, bytes_eq, Some, None, Ok, refl, sym, ap, subst, ◌∙◌, arith, append-nil, append_assoc}
use Rattle.std.specs.List.{AllByRecursion, list_all}
use Rattle.std.proofs.lemmas.Bool.{and_parts, and_from, ne_eqb, not-true}
use Rattle.std.proofs.lemmas.List.{map-append}
use Rattle.std.proofs.lemmas.List.Folds.{list_all-append}
use Rattle.base64.specs.Engines.{standard}
use Rattle.base64.specs.GeneralPurpose.{decode_of, encode_of}
use Rattle.base64.proofs.EngineFacts.{decode_of-encode_of}
use Rattle.blog_event.specs.Event.{event_size}
use Rattle.blog_event.specs.File.{AreBytes, end_of}
use Rattle.blog_event.proofs.Framing.{bytes-drop}
use Rattle.blog_trans.specs.Groups.{Statement, Transaction}
use Rattle.blog_flash.specs.Printed.{line}
use Rattle.blog_flash.specs.Texts.{statement_events, transaction_events}
use Rattle.blog_flash.specs.code.LaidOut.{text_from}
use Rattle.blog_sql.specs.Changed.{changed_groups}
use Rattle.blog_sql.specs.Laws.{is_plain}
use Rattle.blog_sql.specs.ReadBack.{IsReadBack, Part, Quoted, around, binlogs_of, binlogs_of_statements, is_fixed, lines_of, other_lines_of, parts_from, quotations, binlogs_of_groups}
use Rattle.blog_sql.specs.Sql.{base64_lines, begin_lines, binlog, count_errors, end_lines, head_sql, in_lines, sql_text, statement_sql, statements_sql, tail_sql, transaction_sql, transactions_sql}
use Rattle.blog_sql.specs.declared.options.SqlOptions.{SqlOptions}
use Rattle.blog_sql.proofs.Reading.{plain-encoded}

-- ---- lines

-- plain bytes up to an end of line are a line
plain-line : (p rest : List ℕ) → list_all is_plain p ≡ true → lines_of (p ++ 10 ∷ rest) ≡ p ∷ lines_of rest
unfolding lines_of
plain-line [] rest all = refl
plain-line (c ∷ p) rest all =
    let parts = and_parts (is_plain c) (list_all is_plain p) all in
    let inside : (c == 10) ≡ false = not-true (c == 10) ((and_parts (not (c == 10)) (not (c == 39) && (not (c == 92) && not (c == 59))) parts.0).0) in
    rw inside (rw (plain-line p rest parts.1) refl)

-- and no end of a BINLOG
no-end : (p : List ℕ) → list_all is_plain p ≡ true → bytes_eq p (codes "';") ≡ false
no-end [] all = refl
no-end (c ∷ p) all =
    let one = (and_parts (is_plain c) (list_all is_plain p) all).0 in
    let after = (and_parts (not (c == 10)) (not (c == 39) && (not (c == 92) && not (c == 59))) one).1 in
    let unquoted : (c == 39) ≡ false = not-true (c == 39) ((and_parts (not (c == 39)) (not (c == 92) && not (c == 59)) after).0) in
    rw unquoted refl

-- so it is joined to the lines before
line-joined : (p text rest : List ℕ) → list_all is_plain p ≡ true → parts_from (Some text) (lines_of (p ++ 10 ∷ rest)) ≡ parts_from (Some (text ++ p)) (lines_of rest)
unfolding parts_from
line-joined p text rest all = rw (plain-line p rest all) (rw (no-end p all) refl)

-- the lines of a text after the begun line `p`
lines-joined-from : (room : ℕ) (t p text rest : List ℕ) → room < 76 → list_all is_plain t ≡ true → list_all is_plain p ≡ true
    → parts_from (Some text) (lines_of (p ++ (in_lines room t ++ rest))) ≡ parts_from (Some (text ++ (p ++ t))) (lines_of rest)
unfolding in_lines
lines-joined-from room [] p text rest small all begun =
    rw (ne_eqb room 76 (λ same. omega arith))
    (line-joined p text rest begun ∙ ap (λ (q : List ℕ). parts_from (Some (text ++ q)) (lines_of rest)) (sym (append-nil p)))
lines-joined-from zero (c ∷ t) p text rest small all begun =
    let parts = and_parts (is_plain c) (list_all is_plain t) all in
    line-joined p text (c ∷ (in_lines 75 t ++ rest)) begun
    ∙ lines-joined-from 75 t (c ∷ []) (text ++ p) rest (omega arith) parts.1 (and_from (is_plain c) true parts.0 refl)
    ∙ ap (λ (q : List ℕ). parts_from (Some q) (lines_of rest)) (append_assoc text p (c ∷ t))
lines-joined-from (suc room) (c ∷ t) p text rest small all begun =
    let parts = and_parts (is_plain c) (list_all is_plain t) all in
    let more = list_all-append is_plain p (c ∷ []) ∙ and_from (list_all is_plain p) (is_plain c && true) begun (and_from (is_plain c) true parts.0 refl) in
    ap (λ (q : List ℕ). parts_from (Some text) (lines_of q)) (sym (append_assoc p (c ∷ []) (in_lines room t ++ rest)))
    ∙ lines-joined-from room t (p ++ c ∷ []) text rest (omega arith) parts.1 more
    ∙ ap (λ (q : List ℕ). parts_from (Some (text ++ q)) (lines_of rest)) (append_assoc p (c ∷ []) t)

all-joined : (t text rest : List ℕ) → list_all is_plain t ≡ true → parts_from (Some text) (lines_of (in_lines 76 t ++ rest)) ≡ parts_from (Some (text ++ t)) (lines_of rest)
unfolding in_lines
all-joined [] text rest all = ap (λ (q : List ℕ). parts_from (Some q) (lines_of rest)) (sym (append-nil text))
all-joined (c ∷ t) text rest all =
    let parts = and_parts (is_plain c) (list_all is_plain t) all in
    lines-joined-from 75 t (c ∷ []) text rest (omega arith) parts.1 (and_from (is_plain c) true parts.0 refl)

-- ---- parts

-- a BINLOG is one
binlog-parts : (bytes rest : List ℕ) → parts_from None (lines_of (binlog bytes ++ rest)) ≡ Quoted (encode_of standard bytes) ∷ parts_from None (lines_of rest)
unfolding base64_lines lines_of parts_from
binlog-parts bytes rest =
    ap (λ (q : List ℕ). parts_from (Some []) (lines_of q)) (append_assoc (base64_lines bytes) (line (codes "';")) rest)
    ∙ all-joined (encode_of standard bytes) [] (line (codes "';") ++ rest) (plain-encoded bytes)

-- a text has these BINLOGs, and fixed lines; and then what is after it
record Reads (text : List ℕ) (bs : List (List ℕ)) : Type 0 where
  binlogs : (rest : List ℕ) → binlogs_of (text ++ rest) ≡ map Ok bs ++ binlogs_of rest
  others : (rest : List ℕ) → list_all is_fixed (other_lines_of (text ++ rest)) ≡ list_all is_fixed (other_lines_of rest)

reads-both : (a b : List ℕ) (bs cs : List (List ℕ)) → Reads a bs → Reads b cs → Reads (a ++ b) (bs ++ cs)
reads-both a b bs cs x y = record {
  binlogs = λ rest. ap binlogs_of (append_assoc a b rest) ∙ x.binlogs (b ++ rest) ∙ ap (λ q. map Ok bs ++ q) (y.binlogs rest)
      ∙ sym (append_assoc (map Ok bs) (map Ok cs) (binlogs_of rest)) ∙ ap (λ q. q ++ binlogs_of rest) (sym (map-append Ok bs cs));
  others = λ rest. ap (λ (q : List ℕ). list_all is_fixed (other_lines_of q)) (append_assoc a b rest) ∙ x.others (b ++ rest) ∙ y.others rest;
}

-- lines after BINLOGs
reads-last : (a b : List ℕ) (bs : List (List ℕ)) → Reads a bs → Reads b [] → Reads (a ++ b) bs
reads-last a b bs x y = subst (Reads (a ++ b)) (append-nil bs) (reads-both a b bs [] x y)

binlog-reads : (bytes : List ℕ) → AreBytes bytes → Reads (binlog bytes) (bytes ∷ [])
unfolding binlogs_of other_lines_of
binlog-reads bytes are = record {
  binlogs = λ rest. ap (λ (ps : List Part). map (decode_of standard) (quotations ps)) (binlog-parts bytes rest)
      ∙ ap (λ d. d ∷ binlogs_of rest) (decode_of-encode_of standard bytes refl are);
  others = λ rest. ap (λ (ps : List Part). list_all is_fixed (around ps)) (binlog-parts bytes rest);
}

-- ---- fixed lines

no-lines-read : Reads [] []
no-lines-read = record { binlogs = λ rest. refl; others = λ rest. refl }

begin-reads : Reads begin_lines []
unfolding binlogs_of other_lines_of parts_from lines_of
begin-reads = record { binlogs = λ rest. refl; others = λ rest. refl }

end-reads : Reads end_lines []
unfolding binlogs_of other_lines_of parts_from lines_of
end-reads = record { binlogs = λ rest. refl; others = λ rest. refl }

errors-read : Reads count_errors []
unfolding binlogs_of other_lines_of parts_from lines_of
errors-read = record { binlogs = λ rest. refl; others = λ rest. refl }

name-reads : Reads (line (codes "-- flashback 0.1.0")) []
unfolding binlogs_of other_lines_of parts_from lines_of
name-reads = record { binlogs = λ rest. refl; others = λ rest. refl }

zero-reads : Reads (line (codes "SET @undo_errors = 0;")) []
unfolding binlogs_of other_lines_of parts_from lines_of
zero-reads = record { binlogs = λ rest. refl; others = λ rest. refl }

after-format-reads : (each : Bool) → Reads (line (codes "/*!50700 SET @@SESSION.GTID_NEXT='AUTOMATIC' */;") ++ (if each then line (codes "SET @undo_end = 'COMMIT';") else begin_lines)) []
unfolding binlogs_of other_lines_of parts_from lines_of
after-format-reads true = record { binlogs = λ rest. refl; others = λ rest. refl }
after-format-reads false = record { binlogs = λ rest. refl; others = λ rest. refl }

edge-reads : (each : Bool) (text : List ℕ) → Reads text [] → Reads (if each then text else []) []
edge-reads true text x = x
edge-reads false text x = no-lines-read

-- ---- bytes of statements

all-front : (xs ys : List (List ℕ)) → AllByRecursion AreBytes (xs ++ ys) → AllByRecursion AreBytes xs
all-front [] ys are = tt
all-front (x ∷ xs) ys are = (are.0, all-front xs ys are.1)

all-behind : (xs ys : List (List ℕ)) → AllByRecursion AreBytes (xs ++ ys) → AllByRecursion AreBytes ys
all-behind [] ys are = are
all-behind (x ∷ xs) ys are = all-behind xs ys are.1

-- ---- groups

statements-read : (pos : ℕ) (ss : List Statement) → AllByRecursion AreBytes (binlogs_of_statements pos ss) → Reads (statements_sql pos ss) (binlogs_of_statements pos ss)
statements-read pos [] are = no-lines-read
statements-read pos (s ∷ ss) are =
    let bytes : List ℕ = text_from pos (statement_events s) in
    let after : ℕ = end_of pos (statement_events s) in
    reads-both (statement_sql pos s) (statements_sql after ss) (bytes ∷ []) (binlogs_of_statements after ss)
    (reads-last (binlog bytes) count_errors (bytes ∷ []) (binlog-reads bytes are.0) errors-read) (statements-read after ss are.1)

transactions-read : (each : Bool) (pos : ℕ) (ts : List Transaction) → AllByRecursion AreBytes (binlogs_of_groups pos ts) → Reads (transactions_sql each pos ts) (binlogs_of_groups pos ts)
transactions-read each pos [] are = no-lines-read
transactions-read each pos (t ∷ ts) are =
    let inside : ℕ = pos + event_size t.begin in
    let after : ℕ = end_of pos (transaction_events t) in
    let bytes : List (List ℕ) = binlogs_of_statements inside t.statements in
    let more : List (List ℕ) = binlogs_of_groups after ts in
    let statements : List ℕ = statements_sql inside t.statements in
    let end : List ℕ = if each then end_lines else [] in
    let inner = reads-last statements end bytes (statements-read inside t.statements (all-front bytes more are)) (edge-reads each end_lines end-reads) in
    reads-both (transaction_sql each pos t) (transactions_sql each after ts) bytes more
    (reads-both (if each then begin_lines else []) (statements ++ end) [] bytes (edge-reads each begin_lines begin-reads) inner)
    (transactions-read each after ts (all-behind bytes more are))

-- ---- the whole

head-reads : (each : Bool) (front : List ℕ) → AreBytes front → Reads (head_sql each front) (drop 4 front ∷ [])
unfolding head_sql
head-reads each front are =
    let bytes : List ℕ = drop 4 front in
    let last : List ℕ = line (codes "/*!50700 SET @@SESSION.GTID_NEXT='AUTOMATIC' */;") ++ (if each then line (codes "SET @undo_end = 'COMMIT';") else begin_lines) in
    let format = reads-last (binlog bytes) last (bytes ∷ []) (binlog-reads bytes (bytes-drop 4 front are)) (after-format-reads each) in
    reads-both (line (codes "-- flashback 0.1.0")) (line (codes "SET @undo_errors = 0;") ++ (binlog bytes ++ last)) [] (bytes ∷ []) name-reads
    (reads-both (line (codes "SET @undo_errors = 0;")) (binlog bytes ++ last) [] (bytes ∷ []) zero-reads format)

tail-reads : (each : Bool) → Reads (tail_sql each) []
unfolding tail_sql binlogs_of other_lines_of parts_from lines_of
tail-reads true = record { binlogs = λ rest. refl; others = λ rest. refl }
tail-reads false = record { binlogs = λ rest. refl; others = λ rest. refl }

no-binlogs : binlogs_of [] ≡ []
unfolding binlogs_of parts_from lines_of
no-binlogs = refl

no-others : list_all is_fixed (other_lines_of []) ≡ true
unfolding other_lines_of parts_from lines_of
no-others = refl

all-read-back : (text : List ℕ) (bs : List (List ℕ)) → Reads text bs → (binlogs_of text ≡ map Ok bs) × (list_all is_fixed (other_lines_of text) ≡ true)
all-read-back text bs x = (
  ap binlogs_of (sym (append-nil text)) ∙ x.binlogs [] ∙ ap (λ q. map Ok bs ++ q) no-binlogs ∙ append-nil (map Ok bs),
  ap (λ (q : List ℕ). list_all is_fixed (other_lines_of q)) (sym (append-nil text)) ∙ x.others [] ∙ no-others,
)

pub text-read-back : (how : SqlOptions) (front : List ℕ) (ts : List Transaction) → AreBytes front → AllByRecursion AreBytes (binlogs_of_groups (length front) (changed_groups how ts)) → IsReadBack how front ts
unfolding sql_text
text-read-back how front ts front_are are =
    let each : Bool = how.each_transaction in
    let changed : List Transaction = changed_groups how ts in
    let bs : List (List ℕ) = binlogs_of_groups (length front) changed in
    let groups : List ℕ = transactions_sql each (length front) changed in
    let rest = reads-last groups (tail_sql each) bs (transactions-read each (length front) changed are) (tail-reads each) in
    let whole = all-read-back (sql_text how front ts) (drop 4 front ∷ bs) (reads-both (head_sql each front) (groups ++ tail_sql each) (drop 4 front ∷ []) bs (head-reads each front front_are) rest) in
    record { binlogs = whole.0; others = whole.1 }
