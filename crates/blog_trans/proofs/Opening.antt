-- Opening a log asks the first four lines of its fault.
use Rattle.std.proofs.Common.{◌≡◌, ℕ, zero, suc, true, List, [], ◌∷◌, take, drop, bytes_eq, Option, Some, None, is_some, refl, sym, ◌∙◌, arith}
use Rattle.std.specs.Option.{option_map_or}
use Rattle.std.proofs.lemmas.Option.{none-some}
use Rattle.std.proofs.lemmas.Slice.Eq.{bytes_eq-Decides}
use Rattle.blog_event.specs.declared.fault.Fault.{Fault}
use Rattle.blog_event.specs.Event.{Event, event_at}
use Rattle.blog_event.specs.Fault.{first_failing}
use Rattle.blog_event.specs.File.{magic, read}
use Rattle.blog_event.specs.Format.{format_fault}
use Rattle.blog_event.specs.Opening.{opening_fault}
use Rattle.blog_event.proofs.Framing.{read-first}
use Rattle.blog_event.proofs.Openings.{none-at}
use Rattle.blog_trans.specs.Selection.{Selection}
use Rattle.blog_trans.specs.Acceptance.{has_first, first_format_fault, lines, fault}

-- ---- the first event

-- nothing is read where no event stands behind the mark
none-read : (bytes : List ℕ) (stop : Option ℕ) → bytes_eq (take 4 bytes) magic ≡ true → event_at (drop 4 bytes) ≡ None → read bytes stop ≡ []
unfolding read
none-read bytes stop mark none = rw (mark, none) refl

-- what is read has a first event exactly where one stands behind the mark, and it is this one
read-by : (o : Option Event) (es : List Event) → (o ≡ None → es ≡ []) → ((e : Event) → o ≡ Some e → (rest : List Event) × (es ≡ e ∷ rest))
    → (is_some o ≡ has_first es) × (option_map_or format_fault o None ≡ first_format_fault es)
read-by o es none some = grind arith

first-read : (bytes : List ℕ) (stop : Option ℕ) → bytes_eq (take 4 bytes) magic ≡ true → (is_some (event_at (drop 4 bytes)) ≡ has_first (read bytes stop))
    × (option_map_or format_fault (event_at (drop 4 bytes)) None ≡ first_format_fault (read bytes stop))
first-read bytes stop mark =
    read-by _ _ (none-read bytes stop mark) (λ e stands. (_, read-first bytes stop e ((bytes_eq-Decides (take 4 bytes) magic).0 mark) stands))

-- ---- lists of checks

-- four checks, the last two of which are asked only where the second finds no fault, and may be said in another way there
same-front : (a b c d p q : Option Fault) → (b ≡ None → (c ≡ p) × (d ≡ q)) → first_failing (a ∷ b ∷ c ∷ d ∷ []) ≡ first_failing (a ∷ b ∷ p ∷ q ∷ [])
same-front a b c d p q same = grind arith

-- a fault among the first checks decides
front-decides : (n : ℕ) (checks : List (Option Fault)) (f : Fault) → first_failing (take n checks) ≡ Some f → first_failing checks ≡ Some f
front-decides zero checks f said = absurd (none-some f said)
front-decides (suc n) [] f said = said
front-decides (suc n) (check ∷ checks) f said = let later = front-decides n checks f in grind arith

-- ---- opening

-- the fault of opening is the first of the first four lines
pub opening-lines : (bytes : List ℕ) (sel : Selection) → opening_fault bytes ≡ first_failing (take 4 (lines bytes sel (read bytes sel.stop)))
unfolding opening_fault
opening-lines bytes sel = grind (arith, same-front, none-at, first-read)

-- what opening refuses is the fault of the log
pub opening-refused : (bytes : List ℕ) (sel : Selection) (f : Fault) → opening_fault bytes ≡ Some f → fault bytes sel ≡ Some f
unfolding fault
opening-refused bytes sel f refused = front-decides 4 (lines bytes sel (read bytes sel.stop)) f (sym (opening-lines bytes sel) ∙ refused)
