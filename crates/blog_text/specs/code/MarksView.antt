-- What a contract sees of an iterator over marks.
use Rattle.std.specs.Prelude.{ℕ, List, length}
use Rattle.blog_text.specs.declared.marks.Mark.{Mark}
use Rattle.blog_text.specs.declared.marks.Marks.{Marks}
use Rattle.blog_text.specs.Escapes.{marks}

-- the marks that are left
abbrev pub marks_left : Marks → List Mark
marks_left left = marks left.rest.now

-- how many bytes are left
abbrev pub bytes_left : Marks → ℕ
bytes_left left = length left.rest.now
