-- What is promised of a log whose statements are cut.
use Rattle.std.specs.Prelude.{◌≡◌, ℕ, ◌≤◌, List, length}
use Rattle.std.specs.List.{AllByRecursion}
use Rattle.blog_event.specs.File.{read}
use Rattle.blog_trans.specs.Selection.{Selection, all}
use Rattle.blog_trans.specs.Acceptance.{IsAccepted}
use Rattle.blog_trans.specs.Groups.{Transaction, groups}
use Rattle.blog_trans.specs.Changes.{changes}
use Rattle.blog_flash.specs.Texts.{laid_out_after, flashback_text}
use Rattle.blog_flash.specs.Theorems.{GivesBack}
use Rattle.blog_split.specs.Cuts.{IsPiece, IsCutInto, piece_bytes}

-- the selected groups of a log, cut into these, are laid out as a text that is no longer than a log may be
pub record IsSplit (limit : ℕ) (bytes : List ℕ) (sel : Selection) (cut : List Transaction) (text : List ℕ) : Type 0 where
  pub source : IsAccepted bytes sel
  pub is_cut : IsCutInto limit (groups bytes sel) cut
  pub laid : text ≡ laid_out_after (read bytes sel.stop) cut
  pub short : length text ≤ 4294967295

-- each statement has one rows event, or at most `limit` bytes
abbrev pub AreBounded : ℕ → List Transaction → Type 0
AreBounded limit ts = AllByRecursion (λ t. AllByRecursion (λ s. IsPiece limit s.maps s.rows) t.statements) ts

-- The text is a log of the cut groups, with the same changes in as many transactions; and what undoes it undoes the source.
pub record KeepsChanges (limit : ℕ) (bytes : List ℕ) (sel : Selection) (cut : List Transaction) (text : List ℕ) : Type 0 where
  pub accepted : IsAccepted text all
  pub groups_are : groups text all ≡ cut
  pub bounded : AreBounded limit (groups text all)
  pub changes_kept : changes text all ≡ changes bytes sel
  pub transactions : length (groups text all) ≡ length (groups bytes sel)
  pub undone : GivesBack (changes bytes sel) (changes (flashback_text text all) all)

-- no statement has more bytes than the limit
abbrev pub AreSmall : ℕ → List Transaction → Type 0
AreSmall limit ts = AllByRecursion (λ t. AllByRecursion (λ s. piece_bytes s.maps s.rows ≤ limit) t.statements) ts
