-- Taking a reading apart: what each check that passed says.
use Rattle.std.proofs.Common.{◌≡◌, Bool, true, false, Option, Some, None, Result, Ok, Err, refl}
use Rattle.blog_row.specs.declared.fault.RowFault.{RowFault}
use Rattle.blog_row.specs.Checks.{◌>>=◌, check, or_bad}

-- a step that was there, and what follows it
pub step_found : {A B P : Type 0} (o : Option A) (f : A → Result B RowFault) (y : B) → (or_bad o >>= f) ≡ Ok y → ((x : A) → o ≡ Some x → f x ≡ Ok y → P) → P
step_found None f y e k = absurd (cc)
step_found (Some x) f y e k = k x refl e

-- a step that is there, and what follows it
pub step_again : {A B : Type 0} (o : Option A) (f : A → Result B RowFault) (x : A) (y : B) → o ≡ Some x → f x ≡ Ok y → (or_bad o >>= f) ≡ Ok y
step_again o f x y found e = rw found e

-- a reading that gave a value, and what follows it
pub reading_found : {A B P : Type 0} (r : Result A RowFault) (f : A → Result B RowFault) (y : B) → (r >>= f) ≡ Ok y → ((x : A) → r ≡ Ok x → f x ≡ Ok y → P) → P
reading_found (Err d) f y e k = absurd (cc)
reading_found (Ok x) f y e k = k x refl e

-- a reading that gives a value, and what follows it
pub reading_again : {A B : Type 0} (r : Result A RowFault) (f : A → Result B RowFault) (x : A) (y : B) → r ≡ Ok x → f x ≡ Ok y → (r >>= f) ≡ Ok y
reading_again r f x y found e = rw found e

-- a check that passed, and what follows it
pub check_found : {A P : Type 0} (b : Bool) (fault : RowFault) (r : Result A RowFault) (y : A) → check b fault r ≡ Ok y → (b ≡ true → r ≡ Ok y → P) → P
check_found false fault r y e k = absurd (cc)
check_found true fault r y e k = k refl e

-- a check that passes, and what follows it
pub check_again : {A : Type 0} (b : Bool) (fault : RowFault) (r : Result A RowFault) (y : A) → b ≡ true → r ≡ Ok y → check b fault r ≡ Ok y
check_again b fault r y passes e = rw passes e

-- one value is read
pub same_ok : {A : Type 0} (x y : A) → ◌≡◌ {A = Result A RowFault} (Ok x) (Ok y) → x ≡ y
same_ok x y e = cc
