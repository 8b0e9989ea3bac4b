-- The kept maps of an accepted log agree on layouts: of two maps of a table the later one was checked against the earlier.
use Rattle.std.proofs.Common.{◌≡◌, ℕ, zero, suc, arith, rules, Bool, true, false, List, [], ◌∷◌, reverse, None, bytes_eq, ◌⊎◌, inl, inr, sym, ap, ◌∙◌}
use Rattle.std.specs.List.{Contains, list_any}
use Rattle.std.proofs.lemmas.Bool.{false≢true, false_from_ne_true}
use Rattle.std.proofs.lemmas.Bool.Decides.{same_from_decides, Decides-like}
use Rattle.std.proofs.lemmas.List.Folds.{list_any_at}
use Rattle.std.proofs.lemmas.List.Sorted.{Contains-permutation, IsPermutation-reverse}
use Rattle.std.proofs.lemmas.Slice.Eq.{bytes_eq-Decides}
use Rattle.blog_event.specs.Event.{Event}
use Rattle.blog_event.specs.File.{Placed, placed_from, read}
use Rattle.blog_row.specs.declared.event_kinds.EventKind.{EventKind}
use Rattle.blog_row.specs.declared.event_kinds.EventKind.TheVariants as kind
use Rattle.blog_row.specs.Kinds.{is_map_kind}
use Rattle.blog_trans.specs.Selection.{Selection}
use Rattle.blog_trans.specs.Places.{kind_at, is_map}
use Rattle.blog_trans.specs.Acceptance.{is_selected, clashes_by_layout, event_fault, range, IsAccepted, HavePassed}
use Rattle.blog_trans.specs.Groups.{event_value}
use Rattle.blog_trans.proofs.CheckingLayouts.{same-itself}
use Rattle.blog_trans.proofs.ProgressAccepted.{accepted-passes}
use Rattle.blog_trans.proofs.ProgressGroups.{all-passed}
use Rattle.blog_flash.proofs.Formed.{IsMapEvent, clash, Agree}

-- ---- what is asked of kept maps

-- the value of a map of these events whose table is selected
pub record IsChosen (events : List Placed) (sel : Selection) (e : Event) : Type 0 where
  pub at : Placed
  pub among : Contains events at
  pub a_map : is_map at ≡ true
  pub selected : is_selected sel at.event.body ≡ true
  pub value : e ≡ event_value at

-- the value of a map of a log's range whose table is selected
abbrev pub Chosen : List ℕ → Selection → Event → Type 0
Chosen bytes sel e = IsChosen (range sel (placed_from 4 (read bytes sel.stop))) sel e

-- ---- checks

-- a test that no element passes
any-none : (test : Placed → Bool) (ps : List Placed) (p : Placed) → list_any test ps ≡ false → Contains ps p → test p ≡ false
any-none test ps p e among = false_from_ne_true (test p) (λ passes. false≢true (sym e ∙ list_any_at test ps among.0 p among.1 (ap test among.2 ∙ passes)))

-- a map's kind
pub map-kind : (k : EventKind) → is_map_kind k ≡ true → k ≡ kind.TableMap
map-kind k e = search rules

-- a map of a selected table doesn't clash with an earlier one
abbrev IsChecked : Selection → Placed → Placed → Type 0
IsChecked sel p other = is_map p ≡ true → is_selected sel p.event.body ≡ true → clashes_by_layout p other ≡ false

-- an event that passed was checked against those before
checked : (sel : Selection) (earlier : List Placed) (p other : Placed) → event_fault sel earlier p ≡ None → Contains earlier other → IsChecked sel p other
checked sel earlier p other passed before is chosen =
    let a_map = map-kind (kind_at p) is in
    let none : list_any (clashes_by_layout p) earlier ≡ false = grind arith in
    any-none (clashes_by_layout p) earlier other none before

-- so of two events that passed the later one was checked against the earlier
agree-in : (sel : Selection) (es : List Placed) → HavePassed sel es → (p q : Placed) → Contains es p → Contains es q → (p ≡ q) ⊎ (IsChecked sel p q ⊎ IsChecked sel q p)
agree-in sel [] passed p q (j, below, first) second = absurd (omega (arith, below))
agree-in sel (x ∷ es) passed p q (zero, below, first) (zero, within, second) = inl (sym first ∙ second)
agree-in sel (x ∷ es) passed p q (zero, below, first) (suc k, within, second) = inr (inl (rw first at (checked sel es x q passed.0 (k, omega (arith, within), second))))
agree-in sel (x ∷ es) passed p q (suc j, below, first) (zero, within, second) = inr (inr (rw second at (checked sel es x p passed.0 (j, omega (arith, below), first))))
agree-in sel (x ∷ es) passed p q (suc j, below, first) (suc k, within, second) = agree-in sel es passed.1 p q (j, omega (arith, below), first) (k, omega (arith, within), second)

-- ---- agreement

-- the test of bytes in the other order
bytes-turned : (xs ys : List ℕ) → bytes_eq xs ys ≡ bytes_eq ys xs
bytes-turned xs ys = same_from_decides _ _ (bytes_eq-Decides xs ys) (Decides-like (bytes_eq ys xs) sym sym (bytes_eq-Decides ys xs))

-- maps don't clash with themselves, nor where they don't in the other order
no-clash : (Known : Event → Type 0) (a b : Event) → IsMapEvent Known a → IsMapEvent Known b → (a ≡ b) ⊎ (clash b a ≡ false) → clash a b ≡ false
no-clash Known a b h k (inl same) = rw (← same, h.names.1, h.layout.1, same-itself h.layout.0) (grind arith)
no-clash Known a b h k (inr other) =
    let e = rw (h.names.1, k.names.1, h.layout.1, k.layout.1) at other in
    rw (h.names.1, k.names.1, h.layout.1, k.layout.1) (grind (arith, bytes-turned))

-- the kept maps of an accepted log agree on layouts
pub source-agree : (bytes : List ℕ) (sel : Selection) → IsAccepted bytes sel → Agree (Chosen bytes sel)
source-agree bytes sel accepted a b h k =
    let es = range sel (placed_from 4 (read bytes sel.stop)) in
    let back = λ (p : Placed) (among : Contains es p). Contains-permutation es (reverse es) p (IsPermutation-reverse es) among in
    let pass = agree-in sel (reverse es) (all-passed sel es (accepted-passes bytes sel accepted)) h.known.at k.known.at (back h.known.at h.known.among) (back k.known.at k.known.among) in
    grind (arith, no-clash (Chosen bytes sel) a b h k, pass, h.known.value, k.known.value)
