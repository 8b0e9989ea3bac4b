-- What is promised of the logs that are written.
use Rattle.std.specs.Prelude.{◌≡◌, ℕ, zero, suc, ◌-◌, ◌≤◌, ◌++◌, if◌then◌else◌, List, [], ◌∷◌, length, take, drop, Some, None}
use Rattle.blog_event.specs.Event.{Event}
use Rattle.blog_event.specs.File.{BeginsWith, file_text, read}
use Rattle.blog_row.specs.Kinds.{kind_of, is_end_kind}
use Rattle.blog_trans.specs.Selection.{Selection, all}
use Rattle.blog_trans.specs.Acceptance.{IsAccepted}
use Rattle.blog_trans.specs.Groups.{Transaction, groups}
use Rattle.blog_trans.specs.Changes.{Change, changes, changes_of}
use Rattle.blog_flash.specs.States.{State, apply_all}
use Rattle.blog_flash.specs.Texts.{normal_text, flashback_text}

-- From every state on which the first changes apply, the second then give that state back: none of them faults, and
-- each table has as many copies of each row as before.
abbrev pub GivesBack : List Change → List Change → Type 0
GivesBack made undoing = (before after : State) → apply_all made before ≡ Some after → apply_all undoing after ≡ Some before

-- The headline, of what is written to undo a selection of a log.
pub record Undoes (bytes : List ℕ) (sel : Selection) (written : List ℕ) : Type 0 where
  pub source : IsAccepted bytes sel
  pub text : written ≡ flashback_text bytes sel
  pub state : GivesBack (changes bytes sel) (changes written all)
  pub accepted : IsAccepted written all
  pub again : changes (flashback_text written all) all ≡ changes bytes sel

-- Flashback as an inverse on bytes: of the log that undoes it is the normal form, of the normal form it is that log.
pub record IsInverse (bytes : List ℕ) (sel : Selection) (written : List ℕ) : Type 0 where
  pub twice : flashback_text written all ≡ normal_text bytes sel
  pub of_normal : flashback_text (normal_text bytes sel) all ≡ written

-- The selection in normal form, and flashback as an inverse on bytes.
pub record IsNormal (bytes : List ℕ) (sel : Selection) (normal : List ℕ) : Type 0 where
  pub source : IsAccepted bytes sel
  pub text : normal ≡ normal_text bytes sel
  pub accepted : IsAccepted normal all
  pub changes_kept : changes normal all ≡ changes bytes sel
  pub again : normal_text normal all ≡ normal
  pub undone : flashback_text normal all ≡ flashback_text bytes sel
  pub undone_twice : flashback_text (flashback_text bytes sel) all ≡ normal

-- ---- stops

-- the events up to the k-th end event, that one too
abbrev pub through_ends : ℕ → List Event → List Event
through_ends zero es = []
through_ends (suc k) [] = []
through_ends (suc k) (e ∷ es) = if is_end_kind (kind_of e) then e ∷ through_ends k es else e ∷ through_ends (suc k) es

-- the front of a log up to its k-th end event; for k = 0 up to the format description
abbrev pub front_through : ℕ → List ℕ → List ℕ
front_through k bytes = let events = read bytes None in file_text (take 1 events ++ through_ends k (drop 1 events))

-- all but the last k transactions
abbrev pub but_last : ℕ → List Transaction → List Transaction
but_last k ts = take (length ts - k) ts

-- A stop behind k transactions of the written log: its front is a log of k transactions, and leads to the state that
-- all but the last k kept transactions of the source give, from the same first state.
pub record StopsAt (bytes : List ℕ) (sel : Selection) (written : List ℕ) (k : ℕ) : Type 0 where
  pub front : BeginsWith written (front_through k written)
  pub accepted : IsAccepted (front_through k written) all
  pub count : length (groups (front_through k written) all) ≡ k
  pub state : (before after : State) → apply_all (changes bytes sel) before ≡ Some after →
      (between : State) × (apply_all (changes (front_through k written) all) after ≡ Some between) × (apply_all (changes_of (but_last k (groups bytes sel))) before ≡ Some between)

-- The written log, which undoes the selection, has as many transactions as the selection, and may be stopped behind each.
pub record StopsAnywhere (bytes : List ℕ) (sel : Selection) (written : List ℕ) : Type 0 where
  pub source : IsAccepted bytes sel
  pub text : written ≡ flashback_text bytes sel
  pub transactions : length (groups written all) ≡ length (groups bytes sel)
  pub stops : (k : ℕ) → k ≤ length (groups bytes sel) → StopsAt bytes sel written k

-- Neither log that is written is longer than the source, in bytes.
pub record IsNoLonger (bytes : List ℕ) (sel : Selection) : Type 0 where
  pub flashback : length (flashback_text bytes sel) ≤ length bytes
  pub normal : length (normal_text bytes sel) ≤ length bytes
