-- What a clause reads of a watched device.
use Rattle.std.specs.Prelude.{ℕ, Bool, true, ◌&&◌, ◌==◌, List, length, nat_lt, Result, Ok, Err}
use Rattle.blog_device.specs.declared.devices.Watched.{Watched}

-- `watched.device()`
abbrev pub device_of : {D : Type 0} → Watched D → D
device_of watched = watched.device

-- `watched.failed()`
abbrev pub has_failed : {D : Type 0} → Watched D → Bool
has_failed watched = watched.failed

-- a write failed, or took nothing of bytes that are there
abbrev pub is_failed_write : {E : Type 0} → Result ℕ E → List ℕ → Bool
is_failed_write (Ok taken) bytes = (taken == 0) && nat_lt 0 (length bytes)
is_failed_write (Err e) bytes = true
