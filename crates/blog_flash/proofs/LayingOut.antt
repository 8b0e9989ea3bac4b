-- The log that is laid out of an accepted log's groups: how long it is, and what stands in its front.
use Rattle.std.proofs.Common.{◌≡◌, ℕ, ◌+◌, ◌≤◌, true, List, ◌++◌, length, take, drop, Some, bytes_eq, sym, ap, ap₂, ◌∙◌, arith, take_at, option_map}
use Rattle.std.proofs.lemmas.List.{take-append-drop}
use Rattle.std.proofs.lemmas.Option.{same_Some}
use Rattle.std.proofs.lemmas.Slice.Eq.{bytes_eq-Decides}
use Rattle.std.proofs.Math.Seq.{take-append-add}
use Rattle.blog_event.specs.Event.{Event, event_size, event_text, event_at, event_of}
use Rattle.blog_event.specs.File.{magic, read, AreBytes}
use Rattle.blog_event.proofs.Framing.{bytes-drop, event-found, read-first, text-length}
use Rattle.blog_row.specs.declared.order.Order.{Order}
use Rattle.blog_trans.specs.Selection.{Selection}
use Rattle.blog_trans.specs.Acceptance.{IsAccepted}
use Rattle.blog_trans.specs.declared.groups.Index.{Index}
use Rattle.blog_trans.specs.code.IndexView.{index_bytes, index_selection}
use Rattle.blog_trans.specs.Groups.{Transaction, groups}
use Rattle.blog_flash.specs.code.LaidOut.{text_from, groups_in}
use Rattle.blog_flash.specs.Texts.{group_events, laid_out, laid_out_after}
use Rattle.blog_flash.proofs.Totals.{no-longer}

-- an accepted log, and the event at 4
pub record IsOpened (bytes : List ℕ) (sel : Selection) (e : Event) : Type 0 where
  pub accepted : IsAccepted bytes sel
  pub mark : bytes_eq (take 4 bytes) magic ≡ true
  pub stands : event_at (drop 4 bytes) ≡ Some e

-- as an index knows of its log
pub index-opened : {A : Type 0} (index : Index A) → IsOpened (index_bytes index) (index_selection index) (event_of index.log.format)
index-opened index = record { accepted = index.accepted; mark = index.log.mark; stands = index.log.stands }

module _ {bytes : List ℕ} {sel : Selection} {e : Event} (h : IsOpened bytes sel e) where
  -- the log begins with the magic number
  magic-first : take 4 bytes ≡ magic
  magic-first = (bytes_eq-Decides (take 4 bytes) magic).0 h.mark

  -- the event at 4 is the first that is read
  first-laid : (ts : List Transaction) → laid_out_after (read bytes sel.stop) ts ≡ laid_out e ts
  first-laid ts = ap (λ es. laid_out_after es ts) (read-first bytes sel.stop e magic-first h.stands)

  -- ---- how long it is

  -- no longer than the log
  pub laid-within : (order : Order) → length (laid_out_after (read bytes sel.stop) (groups_in order (groups bytes sel))) ≤ length bytes
  laid-within order =
      omega (arith, no-longer order bytes sel e _ h.accepted (read-first bytes sel.stop e magic-first h.stands), ap length (first-laid (groups_in order (groups bytes sel))))

  -- the position behind the event at 4
  pub first-end : (n : ℕ) → option_map (λ e. 4 + event_size e) (event_at (drop 4 bytes)) ≡ Some n → 4 + event_size e ≡ n
  first-end n first = same_Some (4 + event_size e) n (ap (option_map (λ e. 4 + event_size e)) (sym h.stands) ∙ first)

  -- ---- its text

  -- the magic number and the event at 4 are copied
  front-copied : AreBytes bytes → take (4 + event_size e) bytes ≡ magic ++ event_text e
  front-copied are =
      let found = event-found (drop 4 bytes) e (bytes-drop 4 bytes are) h.stands in
      let event : take (event_size e) (drop 4 bytes) ≡ event_text e = ap (take (event_size e)) found.1 ∙ take_at (event_text e) _ (event_size e) (text-length e) in
      let begins : magic ++ drop 4 bytes ≡ bytes = ap (λ (front : List ℕ). front ++ drop 4 bytes) (sym magic-first) ∙ take-append-drop 4 bytes in
      ap (take (4 + event_size e)) (sym begins) ∙ take-append-add magic (drop 4 bytes) (event_size e) ∙ ap (λ (front : List ℕ). magic ++ front) event

  -- with groups behind, that is their log
  pub front-any : (ts : List Transaction) (front : List ℕ) → AreBytes bytes → front ≡ take (4 + event_size e) bytes
      → front ++ text_from (length front) (group_events ts) ≡ laid_out_after (read bytes sel.stop) ts
  unfolding laid_out
  front-any ts front are is =
      let copied = is ∙ front-copied are in
      let long : length front ≡ 4 + event_size e = ap length copied ∙ omega (arith, text-length e) in
      ap₂ (λ (text : List ℕ) (n : ℕ). text ++ text_from n (group_events ts)) copied long ∙ sym (first-laid ts)
