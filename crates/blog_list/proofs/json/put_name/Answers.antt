use Rattle.std.specs.Str.{IsUtf8, is_utf8}
use Rattle.std.proofs.Common.{◌≡◌, ◌++◌, [], List, ℕ, if◌then◌else◌, ap, sym, ◌∙◌}
use Rattle.std.proofs.lemmas.Bool.{cond-false, cond-true, false_from_ne_true}
use Rattle.std.proofs.lemmas.List.{append-nil}
use Rattle.std.proofs.lemmas.Result.{on_ok_weaker}
use Rattle.std.proofs.lemmas.Str.{IsUtf8-from_is_utf8, is_utf8-from_IsUtf8}
use Rattle.blog_text.specs.JsonStrings.{json_string}
use Rattle.blog_list.specs.Json.{json_name}
use Rattle.blog_text.proofs.Growing.{both-parts}
use Rattle.blog_list.proofs.json.put_name.Goals as goal

-- a name that is UTF-8 has no digits
text-alone : (name text digits : List ℕ) → text ≡ name → IsUtf8 name → json_string text ≡ json_string name ++ (if is_utf8 name then [] else digits)
text-alone name text digits same is =
    ap json_string same ∙ sym (append-nil (json_string name))
    ∙ ap (λ (tail : List ℕ). json_string name ++ tail) (sym (cond-true _ _ _ (is_utf8-from_IsUtf8 name is)))

-- another has
with-digits : (name digits : List ℕ) → ¬ (IsUtf8 name) → digits ≡ (if is_utf8 name then [] else digits)
with-digits name digits is_none = sym (cond-false _ _ _ (false_from_ne_true _ (λ yes. is_none (IsUtf8-from_is_utf8 name yes))))

pub returns-in-Ok : goal.returns-in-Ok
unfolding json_name
returns-in-Ok g c =
    on_ok_weaker c.put_str.result
    (λ put. both-parts c.args.out.now.items c.put_text.new.out.items c.put_str.new.out.items _ _ c.in_ok-put_text.ensures
    (put ∙ ap (λ (bytes : List ℕ). c.put_text.new.out.items ++ bytes) (text-alone c.args.name.now c.in-Ok.text.now _ c.in-Ok.ensures.cases.0 c.in-Ok.ensures.cases.1)))
    c.put_str.ensures

pub returns-in_ok-put_text-in-Err-2 : goal.returns-in_ok-put_text-in-Err-2
unfolding json_name
returns-in_ok-put_text-in-Err-2 g c =
    let old : List ℕ = c.args.out.now.items in
    let one : List ℕ = c.put_text.new.out.items in
    let two : List ℕ = c.put_lossy.new.out.items in
    let three : List ℕ = c.put_text-in-Err.new.out.items in
    let four : List ℕ = c.put_text-in-Err-2.new.out.items in
    let new : List ℕ = c.put_text-in-Err-3.new.out.items in
    let digits = c.as_bytes.ensures.value ∙ c.in_ok-encode_upper-in-Err.ensures in
    on_ok_weaker c.put_text-in-Err-3.result
    (λ last. both-parts old one new _ _ c.in_ok-put_text.ensures (both-parts one two new _ _ c.in_ok-put_lossy-in-Err.ensures
    (both-parts two three new _ _ c.in_ok-put_text-in-Err.ensures
    (both-parts three four new _ _ (c.in_ok-put_text-in-Err-2.ensures ∙ ap (λ (bytes : List ℕ). three ++ bytes) digits) last)
    ∙ ap (λ (bytes : List ℕ). two ++ bytes) (with-digits c.args.name.now _ c.in-Err.ensures.cases.0))))
    c.put_text-in-Err-3.ensures
