-- Why a further log isn't read behind others.
use Rattle.std.specs.Prelude.{◌≡◌, ⊤, ℕ, ◌+◌, ◌<◌, ◌^◌, true, false, List, Option, Some}
use Rattle.std.specs.List.{AllByRecursion}
use Rattle.blog_event.specs.Event.{Event}
use Rattle.blog_sum.specs.declared.fault.SumFault.{SumFault}
use Rattle.blog_source.specs.Appended.{AreShort, are_of_one_server, is_older}
use Rattle.blog_source.specs.declared.append.AppendFault.{AppendFault}
use Rattle.blog_source.specs.declared.append.AppendFault.TheVariants.{Damaged, OtherServer, OutOfOrder, TooLong, OutOfMemory}

-- events of a log that begins at a place aren't put
abbrev pub RefusesMoved : ℕ → List Event → AppendFault → Type 0
RefusesMoved start es TooLong = AllByRecursion (λ e. start + e.log_pos < 2 ^ 32) es → ⊥
RefusesMoved start es OutOfMemory = ⊤
RefusesMoved start es fault = ⊥

-- a further log isn't read behind those before it, of which the last has this time
abbrev pub RefusesFurther : Option SumFault → List ℕ → ℕ → ℕ → List ℕ → ℕ → AppendFault → Type 0
RefusesFurther fault log end time further further_end (Damaged cause) = fault ≡ Some cause
RefusesFurther fault log end time further further_end OtherServer = are_of_one_server log further ≡ false
RefusesFurther fault log end time further further_end OutOfOrder = is_older further time ≡ true
RefusesFurther fault log end time further further_end TooLong = AreShort log end further further_end → ⊥
RefusesFurther fault log end time further further_end OutOfMemory = ⊤
