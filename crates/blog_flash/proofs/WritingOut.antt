-- A text that is written by chunks: what was written, what the chunk holds and what is left are the text.
use Rattle.std.proofs.Common.{◌≡◌, ℕ, ◌+◌, List, [], ◌∷◌, ◌++◌, Option, sym, ap, ap₂, subst, ◌∙◌, append-nil, append_assoc}
use Rattle.std.specs.Io.KnownBytes.{Appends}
use Rattle.std.proofs.KnownBytes.{Appends-nil, Appends-trans}
use Rattle.blog_event.specs.Event.{Event, event_size}
use Rattle.blog_device.specs.Devices.{AppendsBeginning}
use Rattle.blog_flash.specs.code.LaidOut.{text_from}
use Rattle.blog_flash.proofs.Placing.{event-put}

-- `more` is what the chunk holds and what is left
pub record IsOnTheWay (had has : Option (List ℕ)) (text more : List ℕ) : Type 0 where
  pub done : List ℕ
  pub written : Appends had has done
  pub all : done ++ more ≡ text

-- at first nothing is written
pub way-none : (had : Option (List ℕ)) (text more : List ℕ) → more ≡ text → IsOnTheWay had had text more
way-none had text more same = record { done = []; written = Appends-nil had; all = same }

-- a part of the chunk is written
pub way-written : (had has now : Option (List ℕ)) (text held rest left part : List ℕ) → IsOnTheWay had has text (held ++ left) → Appends has now part → part ++ rest ≡ held
    → IsOnTheWay had now text (rest ++ left)
way-written had has now text held rest left part way appended split = record {
  done = way.done ++ part;
  written = Appends-trans had has now way.done part way.written appended;
  all = append_assoc way.done part (rest ++ left)
      ∙ ap (λ (bytes : List ℕ). way.done ++ bytes) (sym (append_assoc part rest left) ∙ ap (λ (bytes : List ℕ). bytes ++ left) split) ∙ way.all;
}

-- and then the next event is put behind the rest
pub way-event : (had has now : Option (List ℕ)) (text held chunk more part : List ℕ) (was at next : ℕ) (left rest : List Event) (e : Event)
    → IsOnTheWay had has text (held ++ text_from was left) → Appends has now part → part ++ chunk ≡ held → at ≡ was → left ≡ e ∷ rest
    → more ≡ chunk ++ text_from at (e ∷ []) → next ≡ at + event_size e → IsOnTheWay had now text (more ++ text_from next rest)
way-event had has now text held chunk more part was at next left rest e way appended split here first put long =
    subst (IsOnTheWay had now text) (sym (event-put chunk more at next e rest put long ∙ ap₂ (λ (n : ℕ) es. chunk ++ text_from n es) here (sym first)))
    (way-written had has now text held chunk (text_from was left) part way appended split)

-- where a write fails, a beginning of the text is written
pub way-broken : (had has now : Option (List ℕ)) (text held left : List ℕ) → IsOnTheWay had has text (held ++ left) → AppendsBeginning has now held → AppendsBeginning had now text
way-broken had has now text held left way (front, rest, split, appended) =
    let broken = way-written had has now text held rest left front way appended (sym split) in
    (broken.done, rest ++ left, sym broken.all, broken.written)

-- the chunk is written, with nothing left
pub way-end : (had has now : Option (List ℕ)) (text held left : List ℕ) → IsOnTheWay had has text (held ++ left) → left ≡ [] → Appends has now held → Appends had now text
way-end had has now text held left way none appended =
    subst (Appends had now) (ap (λ (bytes : List ℕ). way.done ++ bytes) (sym (append-nil held) ∙ ap (λ (bytes : List ℕ). held ++ bytes) (sym none)) ∙ way.all)
    (Appends-trans had has now way.done held way.written appended)
