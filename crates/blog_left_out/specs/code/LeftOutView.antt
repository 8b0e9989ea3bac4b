-- What a contract sees of a log of which rows are left out.
use Rattle.std.specs.Prelude.{ℕ, List}
use Rattle.blog_left_out.specs.declared.left_out.LeftOut.{LeftOut}

-- its bytes
abbrev pub bytes_left : {A : Type 0} → LeftOut A → List ℕ
bytes_left left = left.bytes.items
