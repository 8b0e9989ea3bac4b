-- Every front of the written log up to an end event is a log of its own, and leads to a state between.
use Rattle.std.proofs.Common.{◌≡◌, ℕ, zero, suc, ◌+◌, ◌-◌, ◌≤◌, List, [], ◌∷◌, ◌++◌, length, take, drop, map, refl, sym, ap, subst, ◌∙◌, arith, append_assoc, length-append}
use Rattle.std.specs.List.{AllByRecursion, flat_map}
use Rattle.std.proofs.lemmas.List.{length-reverse, length-map, length-take-le, length-drop, take-append-drop, take_at}
use Rattle.std.proofs.lemmas.List.Elements.{All-from_recursion, recursion_from_All, All-take, All-drop}
use Rattle.std.proofs.lemmas.List.Concat.{flat_map-append}
use Rattle.blog_event.specs.Event.{Event, event_size}
use Rattle.blog_event.specs.File.{BeginsWith, AreBytes, file_text, end_of}
use Rattle.blog_row.specs.Kinds.{is_end_kind}
use Rattle.blog_trans.specs.Selection.{Selection, all}
use Rattle.blog_trans.specs.Acceptance.{IsAccepted}
use Rattle.blog_trans.specs.Groups.{Transaction, groups}
use Rattle.blog_trans.specs.Changes.{changes, changes_of, changes_of_transaction}
use Rattle.blog_flash.specs.States.{apply_all, inverse_all}
use Rattle.blog_flash.specs.Reversal.{reversed_transaction, reversed}
use Rattle.blog_flash.specs.code.LaidOut.{text_from}
use Rattle.blog_flash.specs.Texts.{statement_events, transaction_events, group_events, with_log_pos, laid_out, flashback_text}
use Rattle.blog_flash.specs.Theorems.{through_ends, front_through, but_last, StopsAt, StopsAnywhere}
use Rattle.blog_flash.proofs.Formed.{IsTransaction, AreGroups}
use Rattle.blog_flash.proofs.Undoing.{undo_last}
use Rattle.blog_flash.proofs.Reversing.{reversed-changes, turned-append}
use Rattle.blog_flash.proofs.Forming.{kind-placed}
use Rattle.blog_flash.proofs.Spans.{IsInner, end-stands, statements-inner}
use Rattle.blog_flash.proofs.Agreeing.{Chosen}
use Rattle.blog_flash.proofs.Written.{IsWritable, written-read, written-accepted, written-groups}
use Rattle.blog_flash.proofs.Headline.{IsSource, is-source, flashback-is, flashback-groups}

-- ---- events up to an end event

-- laid out, the first ones and the others behind them
placed-append : (pos : ℕ) (xs ys : List Event) → with_log_pos pos (xs ++ ys) ≡ with_log_pos pos xs ++ with_log_pos (end_of pos xs) ys
placed-append pos [] ys = refl
placed-append pos (x ∷ xs) ys = ap (λ es. record x { log_pos = pos + event_size x } ∷ es) (placed-append (pos + event_size x) xs ys)

-- past the inside of a transaction
through-inside : (k pos : ℕ) (es rest : List Event) → AllByRecursion IsInner es → through_ends (suc k) (with_log_pos pos es ++ rest) ≡ with_log_pos pos es ++ through_ends (suc k) rest
through-inside k pos [] rest inner = refl
through-inside k pos (e ∷ es) rest inner =
    rw (ap is_end_kind (kind-placed e (pos + event_size e)) ∙ inner.0.1)
    (ap (λ l. record e { log_pos = pos + event_size e } ∷ l) (through-inside k (pos + event_size e) es rest inner.1))

-- up to the end of a transaction and further
through-transaction : (Known : Event → Type 0) (k pos : ℕ) (t : Transaction) (rest : List Event) → IsTransaction Known t
    → through_ends (suc k) (with_log_pos pos (transaction_events t) ++ rest) ≡ with_log_pos pos (transaction_events t) ++ through_ends k rest
through-transaction Known k pos t rest h =
    let from : ℕ = pos + event_size t.begin in
    let inside : List Event = flat_map statement_events t.statements in
    let events : List Event = with_log_pos from inside in
    let end : Event = record t.end { log_pos = end_of from inside + event_size t.end } in
    rw (ap is_end_kind (kind-placed t.begin from ∙ h.begin_kind), placed-append from inside (t.end ∷ []), append_assoc events (end ∷ []) rest, append_assoc events (end ∷ []) (through_ends k rest))
    (rw (through-inside k from inside (end ∷ rest) (statements-inner Known t.statements h.statements_formed), (end-stands (end_of from inside) t.end h.end_is).0) refl)

-- the events up to the k-th end event are those of the first k transactions
through-groups : (Known : Event → Type 0) (k pos : ℕ) (ts : List Transaction) → AreGroups Known ts
    → through_ends k (with_log_pos pos (group_events ts)) ≡ with_log_pos pos (group_events (take k ts))
through-groups Known zero pos ts h = refl
through-groups Known (suc k) pos [] h = refl
through-groups Known (suc k) pos (t ∷ ts) h =
    let behind : ℕ = end_of pos (transaction_events t) in
    ap (through_ends (suc k)) (placed-append pos (transaction_events t) (group_events ts))
    ∙ through-transaction Known k pos t (with_log_pos behind (group_events ts)) h.0
    ∙ ap (λ l. with_log_pos pos (transaction_events t) ++ l) (through-groups Known k behind ts h.1)
    ∙ sym (placed-append pos (transaction_events t) (group_events (take k ts)))

-- ---- a front of a log that was laid out

-- the front up to the k-th end event is the first k transactions, laid out
front-is : (Known : Event → Type 0) (k : ℕ) (format : Event) (ts : List Transaction) → IsWritable Known format ts → front_through k (laid_out format ts) ≡ laid_out format (take k ts)
unfolding laid_out
front-is Known k format ts h =
    ap (λ events. file_text (take 1 events ++ through_ends k (drop 1 events))) (written-read Known format ts h)
    ∙ ap (λ events. file_text (format ∷ events)) (through-groups Known k (4 + event_size format) ts h.are_groups)

-- more groups are laid out where the first ones end
pub laid-more : (format : Event) (xs ys : List Transaction)
    → laid_out format (xs ++ ys) ≡ laid_out format xs ++ text_from (end_of (4 + event_size format) (group_events xs)) (group_events ys)
unfolding laid_out
laid-more format xs ys =
    rw (flat_map-append transaction_events xs ys, placed-append (4 + event_size format) (group_events xs) (group_events ys)) (simp (flat_map-append, append_assoc))

-- the log begins with the first of its groups, laid out
laid-begins : (format : Event) (xs ys : List Transaction) → BeginsWith (laid_out format (xs ++ ys)) (laid_out format xs)
laid-begins format xs ys = (text_from (end_of (4 + event_size format) (group_events xs)) (group_events ys), laid-more format xs ys)

-- the log begins with its first k groups, laid out
front-begins : (k : ℕ) (format : Event) (ts : List Transaction) → BeginsWith (laid_out format ts) (laid_out format (take k ts))
front-begins k format ts =
    let begins = laid-begins format (take k ts) (drop k ts) in
    (begins.0, ap (laid_out format) (sym (take-append-drop k ts)) ∙ begins.1)

-- the first k groups can be laid out where all of them can
front-writable : (Known : Event → Type 0) (k : ℕ) (format : Event) (ts : List Transaction) → IsWritable Known format ts → IsWritable Known format (take k ts)
front-writable Known k format ts h =
    let begins = front-begins k format ts in
    let parts = simp length-append at (ap length begins.1) in
    let short = h.short in
    let are = All-take (IsTransaction Known) k ts (All-from_recursion (IsTransaction Known) ts h.are_groups) in
    record { are_groups = recursion_from_All (IsTransaction Known) (take k ts) are; agree = h.agree; served = h.served; event = h.event; short = omega arith }

-- ---- the last groups

-- as many as before
reversed-length : (ts : List Transaction) → length (reversed ts) ≡ length ts
reversed-length ts = length-reverse (map reversed_transaction ts) ∙ length-map ts reversed_transaction

-- the first k of the reversed groups are the last k, reversed
last-reversed : (k : ℕ) (ts : List Transaction) → k ≤ length ts → take k (reversed ts) ≡ reversed (drop (length ts - k) ts)
last-reversed k ts fits =
    let first : List Transaction = take (length ts - k) ts in
    let last : List Transaction = drop (length ts - k) ts in
    let long : length (reversed last) ≡ k = reversed-length last ∙ length-drop (length ts - k) ts ∙ omega arith in
    ap (λ us. take k (reversed us)) (sym (take-append-drop (length ts - k) ts)) ∙ ap (take k) (turned-append reversed_transaction first last) ∙ take_at (reversed last) (reversed first) k long

-- the changes of all groups are those of all but the last k and then those of the last k
changes-parted : (k : ℕ) (ts : List Transaction) → changes_of ts ≡ changes_of (but_last k ts) ++ changes_of (drop (length ts - k) ts)
changes-parted k ts =
    ap changes_of (sym (take-append-drop (length ts - k) ts)) ∙ flat_map-append changes_of_transaction (but_last k ts) (drop (length ts - k) ts)

-- ---- the theorem

-- a stop behind k transactions
stops-at : (Known : Event → Type 0) (bytes : List ℕ) (sel : Selection) (k : ℕ) → IsSource Known bytes sel → k ≤ length (groups bytes sel) → StopsAt bytes sel (flashback_text bytes sel) k
stops-at Known bytes sel k h fits =
    let gs : List Transaction = groups bytes sel in
    let last : List Transaction = drop (length gs - k) gs in
    let writable = front-writable Known k h.format (reversed gs) h.backward in
    let is = ap (front_through k) (flashback-is Known bytes sel h) ∙ front-is Known k h.format (reversed gs) h.backward in
    let begins = front-begins k h.format (reversed gs) in
    let are : groups (front_through k (flashback_text bytes sel)) all ≡ take k (reversed gs) = ap (λ written. groups written all) is ∙ written-groups Known h.format (take k (reversed gs)) writable in
    let many = reversed-length gs in
    let last_are = All-drop (IsTransaction Known) (length gs - k) gs (All-from_recursion (IsTransaction Known) gs h.forward.are_groups) in
    let made : changes (front_through k (flashback_text bytes sel)) all ≡ inverse_all (changes_of last) =
    ap changes_of (are ∙ last-reversed k gs fits) ∙ reversed-changes Known last (recursion_from_All (IsTransaction Known) last last_are) in
    record {
      front = (begins.0, flashback-is Known bytes sel h ∙ begins.1 ∙ ap (λ written. written ++ begins.0) (sym is));
      accepted = subst (λ written. IsAccepted written all) (sym is) (written-accepted Known h.format (take k (reversed gs)) writable);
      count = ap length are ∙ length-take-le k (reversed gs) (omega arith);
      state = λ before after changed.
          let between = undo_last (changes_of (but_last k gs)) (changes_of last) before after (ap (λ cs. apply_all cs before) (sym (changes-parted k gs)) ∙ changed) in
          (between.0, ap (λ cs. apply_all cs after) made ∙ between.2, between.1);
    }

-- of each accepted log every front of the written log up to an end event stands
pub flashback-stops : (bytes : List ℕ) (sel : Selection) → AreBytes bytes → IsAccepted bytes sel → StopsAnywhere bytes sel (flashback_text bytes sel)
flashback-stops bytes sel are accepted =
    let h = is-source bytes sel are accepted in
    record {
      source = accepted;
      text = refl;
      transactions = ap length (flashback-groups (Chosen bytes sel) bytes sel h) ∙ reversed-length (groups bytes sel);
      stops = λ k fits. stops-at (Chosen bytes sel) bytes sel k h fits;
    }
