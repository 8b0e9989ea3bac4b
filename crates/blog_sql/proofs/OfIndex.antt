-- What is known of a log's front and of its cut statements.
use Rattle.std.proofs.Common.{◌≡◌, ℕ, ◌<◌, ◌≤◌, Bool, true, false, if◌then◌else◌, nat_le, List, [], ◌∷◌, ◌++◌, length, map, sym, ap, ap₂, subst, ◌∙◌, append-nil, length-append, arith}
use Rattle.std.specs.List.{AllByRecursion, flat_map}
use Rattle.blog_event.specs.Event.{Event, event_text}
use Rattle.blog_event.specs.File.{end_of, magic}
use Rattle.blog_trans.specs.Acceptance.{IsAccepted}
use Rattle.blog_trans.specs.Groups.{RowsEvent, Statement, Transaction}
use Rattle.blog_trans.specs.Selection.{Selection}
use Rattle.blog_flash.specs.Texts.{group_events, laid_out, laid_out_after}
use Rattle.blog_flash.specs.Written.{event_written, groups_written}
use Rattle.blog_flash.specs.code.Measured.{HasSizes}
use Rattle.blog_flash.specs.declared.log_sizes.LogSizes.{LogSizes}
use Rattle.blog_flash.proofs.InTurn.{events-of-written}
use Rattle.blog_flash.proofs.Source.{source-format}
use Rattle.blog_split.specs.Cuts.{piece_statement}
use Rattle.blog_split.specs.code.Greedy.{cut_groups, cut_statement, pieces_of}
use Rattle.blog_split.proofs.Greedy.{some-pieces}
use Rattle.blog_sql.specs.Changed.{changed, changed_groups}
use Rattle.blog_sql.specs.OfIndex.{front_of}
use Rattle.blog_sql.specs.Sql.{HasRows, HaveRows}
use Rattle.blog_sql.specs.declared.options.SqlOptions.{SqlOptions}
use Rattle.blog_sql.proofs.Grouping.{changed-written}

-- ---- the front

-- it has the magic number
pub front-long : (bytes : List ℕ) (sel : Selection) → IsAccepted bytes sel → 4 ≤ length (front_of bytes sel)
unfolding laid_out
front-long bytes sel accepted =
    let (format, rest, is, fine) = source-format bytes sel accepted in
    let text = ap (λ es. laid_out_after es []) is in
    let own : List ℕ = flat_map event_text (format ∷ []) in
    let long : 4 ≤ length (magic ++ own) = omega (arith, length-append magic own) in
    subst (λ (front : List ℕ). 4 ≤ length front) (sym text) long

-- ---- the events

pub changed-events : (how : SqlOptions) (ts : List Transaction) → map event_written (map (changed how) (groups_written ts)) ≡ group_events (changed_groups how ts)
changed-events how ts = ap (map event_written) (changed-written how ts) ∙ events-of-written (changed_groups how ts)

-- ---- cut statements have rows events

pieces-have : (s : Statement) (pieces : List (List RowsEvent)) (others : List Statement) → AllByRecursion (λ piece. 0 < length piece) pieces → AllByRecursion HasRows others → AllByRecursion HasRows (map (piece_statement s) pieces ++ others)
pieces-have s [] others some have = have
pieces-have s (piece ∷ pieces) others (h, some) have = (h, pieces-have s pieces others some have)

statements-have : (limit : ℕ) (ss : List Statement) → AllByRecursion HasRows (flat_map (cut_statement limit) ss)
statements-have limit [] = tt
statements-have limit (s ∷ ss) = pieces-have s (pieces_of limit s.maps s.rows) (flat_map (cut_statement limit) ss) (some-pieces limit s.maps s.rows) (statements-have limit ss)

pub cut-have : (limit : ℕ) (ts : List Transaction) → HaveRows (cut_groups limit ts)
cut-have limit [] = tt
cut-have limit (t ∷ ts) = (statements-have limit t.statements, cut-have limit ts)

-- ---- what comes of printing

pub front-is : (front whole : List ℕ) → front ++ [] ≡ whole → front ≡ whole
front-is front whole h = sym (append-nil front) ∙ h

-- the changed events of groups that were measured behind a front end there, which is no position that is too large
pub ends-there : (how : SqlOptions) (front whole : List ℕ) (ts : List Transaction) (sizes : LogSizes) → front ≡ whole
    → HasSizes (length front) (map event_written (map (changed how) (groups_written ts))) sizes → end_of (length whole) (group_events (changed_groups how ts)) ≤ 4294967295
ends-there how front whole ts sizes same has =
    let there = ap₂ (λ (n : ℕ) (es : List Event). end_of n es) (ap length same) (changed-events how ts) in
    omega (arith, there, has.len, has.short)
