-- Events that are laid out from a position on: each with its own log_pos, and with its place.
use Rattle.std.proofs.Common.{◌≡◌, ℕ, ◌+◌, List, [], ◌∷◌, ◌++◌, refl, ap}
use Rattle.blog_event.specs.Event.{Event, event_size}
use Rattle.blog_event.specs.File.{Placed, placed_from, end_of}
use Rattle.blog_flash.specs.Texts.{with_log_pos}

-- where events stand that are written from a position on
abbrev pub stood : ℕ → List Event → List Placed
stood pos es = placed_from pos (with_log_pos pos es)

-- the first ones, and the others behind them
pub stood-append : (pos : ℕ) (xs ys : List Event) → stood pos (xs ++ ys) ≡ stood pos xs ++ stood (end_of pos xs) ys
stood-append pos [] ys = refl
stood-append pos (x ∷ xs) ys = ap (λ ps. record { pos = pos; event = record x { log_pos = pos + event_size x } } ∷ ps) (stood-append (pos + event_size x) xs ys)
