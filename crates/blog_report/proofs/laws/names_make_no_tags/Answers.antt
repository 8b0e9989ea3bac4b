use lib.Utf8.{encode}
use Rattle.std.specs.Prelude.{◌==◌, ◌||◌, if◌then◌else◌, encode_utf8, nat_lt}
use Rattle.std.specs.Char.{is_control}
use Rattle.std.specs.List.{flat_map, list_any}
use Rattle.std.proofs.Common.{◌≡◌, ℕ, ◌+◌, ◌/◌, ◌%◌, ◌≤◌, Bool, true, false, List, [], ◌∷◌, refl, ◌∙◌, arith}
use Rattle.std.proofs.lemmas.Bool.{ne_eqb}
use Rattle.std.proofs.lemmas.List.Folds.{list_any-append}
use Rattle.bstr.specs.Utf8.{lossy_chars}
use Rattle.blog_report.specs.Html.{html_char, is_syntax}
use Rattle.blog_report.proofs.laws.names_make_no_tags.Goals as goal

either : (b : Bool) (x y : List ℕ) → list_any is_syntax x ≡ false → (b ≡ false → list_any is_syntax y ≡ false) → list_any is_syntax (if b then x else y) ≡ false
either true x y first second = first
either false x y first second = second refl

high : (n : ℕ) → 128 ≤ n → is_syntax n ≡ false
high n above =
    let one : (n == 0x3C) ≡ false = ne_eqb n 0x3C (λ is. omega arith) in
    let two : (n == 0x3E) ≡ false = ne_eqb n 0x3E (λ is. omega arith) in
    let three : (n == 0x22) ≡ false = ne_eqb n 0x22 (λ is. omega arith) in
    let four : (n == 0x27) ≡ false = ne_eqb n 0x27 (λ is. omega arith) in
    simp (one, two, three, four)

abbrev AllHigh : List ℕ → Type 0
AllHigh [] = Unit {0}
AllHigh (n ∷ ns) = (128 ≤ n) × AllHigh ns

all-high : (ns : List ℕ) → AllHigh ns → list_any is_syntax ns ≡ false
all-high [] above = refl
all-high (n ∷ ns) (above, others) = λ j. high n above j || all-high ns others j

encoded : (c : ℕ) → (c == 0x3C) ≡ false → (c == 0x3E) ≡ false → (c == 0x22) ≡ false → (c == 0x27) ≡ false → list_any is_syntax (encode_utf8 c) ≡ false
unfolding encode
encoded c one two three four =
    either (nat_lt c 128) _ _ (simp (one, two, three, four))
    (λ _. either (nat_lt c 2048) _ _ (all-high ((192 + c / 64) ∷ (128 + c % 64) ∷ []) (omega arith, (omega arith, tt)))
    (λ _. either (nat_lt c 65536) _ _ (all-high ((224 + c / 4096) ∷ (128 + c / 64 % 64) ∷ (128 + c % 64) ∷ []) (omega arith, (omega arith, (omega arith, tt)))) (λ _. all-high ((240 + c / 262144) ∷ (128 + c / 4096 % 64) ∷ (128 + c / 64 % 64) ∷ (128 + c % 64) ∷ []) (omega arith, (omega arith, (omega arith, (omega arith, tt)))))))

character : (c : ℕ) → list_any is_syntax (html_char c) ≡ false
character c =
    either (c == 0x26) _ _ refl
    (λ _. either (c == 0x3C) _ _ refl
    (λ one. either (c == 0x3E) _ _ refl
    (λ two. either (c == 0x22) _ _ refl
    (λ three. either (c == 0x27) _ _ refl
    (λ four. either (is_control c) _ _ (encoded 0xFFFD refl refl refl refl) (λ _. encoded c one two three four))))))

text : (cs : List ℕ) → list_any is_syntax (flat_map html_char cs) ≡ false
text [] = refl
text (c ∷ cs) = list_any-append is_syntax (html_char c) (flat_map html_char cs) ∙ (λ j. character c j || text cs j)

pub returns : goal.returns
returns c name = text (lossy_chars name)
