-- Documents as text (MySQL's sources, sql-common/json_binary.h, "doc ::="). What the texts of floating-point and of decimal numbers are
-- isn't said here.
use Rattle.std.specs.Prelude.{◌≡◌, ℕ, zero, suc, ◌==◌, if◌then◌else◌, List, [], ◌∷◌, ◌++◌, Option, Some, None, option_map}
use Rattle.std.specs.Borrow.{Bor}
use Rattle.blog_json.specs.declared.kinds.Width.{Width}
use Rattle.blog_json.specs.declared.kinds.Kind.{Kind}
use Rattle.blog_json.specs.declared.kinds.Kind.TheVariants.{Object, Array, Double, Text, Opaque}
use Rattle.blog_json.specs.declared.containers.Form.{Form}
use Rattle.blog_json.specs.declared.containers.Form.TheVariants.{Object as Keyed, Array as Unkeyed}
use Rattle.blog_json.specs.Containers.{Held, container_front, key_at, entry_at}
use Rattle.blog_json.specs.Kinds.{kind_of}
use Rattle.blog_json.specs.Lengths.{sized_front}
use Rattle.blog_json.specs.Opaques.{opaque_text}
use Rattle.blog_json.specs.Scalars.{scalar_front, scalar_text}
use Rattle.blog_json.specs.Strings.{string_text}

-- the text of a value that is neither an object nor an array, where `text` stands for that of a floating-point or a decimal number
abbrev pub plain_text : Kind → List ℕ → List ℕ → Option (List ℕ)
plain_text (Object width) bytes text = None
plain_text (Array width) bytes text = None
plain_text Double bytes text = Some text
plain_text Text bytes text = option_map string_text (sized_front bytes)
plain_text Opaque bytes text = opaque_text bytes text
plain_text kind bytes text = option_map scalar_text (scalar_front kind bytes)

-- bytes of the program as a string
abbrev pub string_seen : Bor (List ℕ) → List ℕ
string_seen bytes = string_text bytes.now

-- what stands between a value and the one before
abbrev pub comma : ℕ → List ℕ
comma i = if i == 0 then [] else 44 ∷ 32 ∷ []

-- the key of a value, where it has one
abbrev pub key_text : Form → Option (List ℕ) → Option (List ℕ)
key_text Unkeyed key = Some []
key_text Keyed key = option_map (λ name. string_text name ++ (58 ∷ 32 ∷ [])) key

-- what stands in front of a value by its number from 0
unfoldable pub front_text : Held → ℕ → Option (List ℕ)
front_text c i = option_map (λ key. comma i ++ key) (key_text c.form (key_at c i))

-- the brackets around the values
abbrev pub opening : Form → List ℕ
opening Keyed = 123 ∷ []
opening Unkeyed = 91 ∷ []

abbrev pub closing : Form → List ℕ
closing Keyed = 125 ∷ []
closing Unkeyed = 93 ∷ []

-- what makes a text that of a value
abbrev pub Texts : Type 1
Texts = Kind → List ℕ → List ℕ → Type 0

-- the first n values of an object or an array, in order, each with its key
unfoldable pub AreValues : Texts → Held → ℕ → List ℕ → Type 0
AreValues IsOne c zero text = text ≡ []
AreValues IsOne c (suc n) text =
    (before front own place : List ℕ) × (kind : Kind) × AreValues IsOne c n before × (front_text c n ≡ Some front)
    × (entry_at c n ≡ Some (kind, place)) × IsOne kind place own × (text ≡ before ++ (front ++ own))

-- an object or an array, with its values in brackets
abbrev pub IsContainer : Texts → Form × Width → List ℕ → List ℕ → Type 0
IsContainer IsOne shape bytes text =
    (c : Held) × (inner : List ℕ) × (container_front shape.0 shape.1 bytes ≡ Some c) × AreValues IsOne c c.count inner
    × (text ≡ opening shape.0 ++ (inner ++ closing shape.0))

-- whether a type is that of objects or of arrays, and how wide the counts and offsets are
abbrev pub form_of : Kind → Option (Form × Width)
form_of (Object width) = Some (Keyed, width)
form_of (Array width) = Some (Unkeyed, width)
form_of kind = None

-- a value of any type
abbrev pub IsValue : Texts → Option (Form × Width) → Texts
IsValue IsOne None kind bytes text = plain_text kind bytes text ≡ Some text
IsValue IsOne (Some shape) kind bytes text = IsContainer IsOne shape bytes text

-- the text of a value with at most so many objects and arrays in one another
unfoldable pub IsText : ℕ → Texts
IsText zero kind bytes text = plain_text kind bytes text ≡ Some text
IsText (suc depth) kind bytes text = IsValue (IsText depth) (form_of kind) kind bytes text

-- the text of a document
abbrev pub IsDocument : List ℕ → List ℕ → Type 0
IsDocument [] text = ⊥
IsDocument (first ∷ rest) text = (kind : Kind) × (kind_of first ≡ Some kind) × IsText 100 kind rest text
