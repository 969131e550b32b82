-- Bytes are refused with the least number whose refusal applies.
use Rattle.std.proofs.Common.{◌≡◌, ℕ, suc, ◌≤◌, Bool, true, false, not, if◌then◌else◌, nat_lt, List, [], ◌∷◌, length, Option, Some, None, refl, sym, ap, ◌∙◌, subst, arith, inl, inr}
use Rattle.std.proofs.lemmas.Bool.{cases_lt}
use Rattle.std.proofs.lemmas.Option.{none-some, same_Some}
use Rattle.serde_json.specs.Data.{Data}
use Rattle.ppserve.specs.Drafting.{draft}
use Rattle.ppserve.specs.Drafts.{Draft}
use Rattle.ppserve.specs.Laws.{HoldsDraft, Applies, too_long, no_json, no_shape, wrong_names, wrong_sizes, unknown_file, wrong_times, wrong_lines, wrong_directories, wrong_profile, wrong_budget, wrong_shown}
use Rattle.ppserve.specs.Laws.{IsLeast, IsAccepted, RefusesByTheLeast, AcceptsTheRest}
use Rattle.ppserve.specs.Listing.{Verdict, accepted, refused, json_value, verdict_of, validated, listed, names_of, names_hold, sizes_hold, are_known, times_hold, lines_hold}
use Rattle.ppserve.specs.Listing.{directories_hold, profile_holds, budget_holds, shown_hold, max_input}
use Rattle.ppserve.specs.Shape.{IsDraft}
use Rattle.ppserve.specs.CompilationList.{CompilationList}
use Rattle.ppserve.proofs.DraftShape.{decides}
use Rattle.ppserve.proofs.DraftValidation.{fits_test, verdict_of-draft}
use Rattle.ppserve.proofs.ReceivedBytes.{too_many}

-- ---- a sequence of tests

-- the refusal with the number of the first failing test, counted from `n`, or `o` if all pass
abbrev first : List Bool → ℕ → Verdict → Verdict
first [] n o = o
first (b ∷ bs) n o = if not b then refused n else first bs (suc n) o

-- test `m` fails, if the tests are numbered from `n`
data Fails : List Bool → ℕ → ℕ → Type 0 where
  here : {b : Bool} {bs : List Bool} {n : ℕ} → b ≡ false → Fails (b ∷ bs) n n
  there : {b : Bool} {bs : List Bool} {n m : ℕ} → Fails bs (suc n) m → Fails (b ∷ bs) n m

counted : (bs : List Bool) (n m : ℕ) → Fails bs n m → n ≤ m
counted [] n m f = elim f [ ]
counted (b ∷ bs) n m (here e) = omega arith
counted (b ∷ bs) n m (there f) = let e = counted bs (suc n) m f in omega arith

in_later : (bs : List Bool) (n m : ℕ) → Fails (true ∷ bs) n m → Fails bs (suc n) m
in_later bs n m (here e) = absurd (cc)
in_later bs n m (there f) = f

first_refused : (bs : List Bool) (n : ℕ) (list : CompilationList) (m : ℕ) → first bs n (accepted list) ≡ refused m → IsLeast (Fails bs n) m
first_refused [] n list m e = absurd (cc)
first_refused (false ∷ bs) n list m e =
    let same : n ≡ m = cc in
    subst (IsLeast (Fails (false ∷ bs) n)) same (record { is_so = here refl; least = counted (false ∷ bs) n })
first_refused (true ∷ bs) n list m e =
    let rest = first_refused bs (suc n) list m e in
    record { is_so = there rest.is_so; least = λ k f. rest.least k (in_later bs n k f) }

first_taken : (bs : List Bool) (n : ℕ) (list taken : CompilationList) → first bs n (accepted list) ≡ accepted taken → (taken ≡ list) × ((m : ℕ) → ¬ Fails bs n m)
first_taken [] n list taken e = (cc, λ m f. elim f [ ])
first_taken (false ∷ bs) n list taken e = absurd (cc)
first_taken (true ∷ bs) n list taken e =
    let rest = first_taken bs (suc n) list taken e in
    (rest.0, λ m f. rest.1 m (in_later bs n m f))

-- ---- the tests of a draft

abbrev tests : Draft → List Bool
tests d =
    names_hold d.files ∷ (sizes_hold d ∷ (are_known (names_of d.files) d.units ∷ (times_hold d.setting ∷ (lines_hold d.units
    ∷ (directories_hold d ∷ (profile_holds d.setting ∷ (budget_holds d.setting ∷ (shown_hold d ∷ []))))))))

applies_of : (inline : Bool) (bytes : List ℕ) (d : Draft) (m : ℕ) → HoldsDraft inline bytes d → Fails (tests d) 3 m → Applies inline bytes m
applies_of inline bytes d m h (here e) = wrong_names h e
applies_of inline bytes d m h (there (here e)) = wrong_sizes h e
applies_of inline bytes d m h (there (there (here e))) = unknown_file h e
applies_of inline bytes d m h (there (there (there (here e)))) = wrong_times h e
applies_of inline bytes d m h (there (there (there (there (here e))))) = wrong_lines h e
applies_of inline bytes d m h (there (there (there (there (there (here e)))))) = wrong_directories h e
applies_of inline bytes d m h (there (there (there (there (there (there (here e))))))) = wrong_profile h e
applies_of inline bytes d m h (there (there (there (there (there (there (there (here e)))))))) = wrong_budget h e
applies_of inline bytes d m h (there (there (there (there (there (there (there (there (here e))))))))) = wrong_shown h e
applies_of inline bytes d m h (there (there (there (there (there (there (there (there (there f))))))))) = elim f [ ]

-- Bytes hold at most one draft.
one_draft : (inline : Bool) (bytes : List ℕ) (x y : Draft) → HoldsDraft inline bytes x → HoldsDraft inline bytes y → x ≡ y
one_draft inline bytes x y h k =
    let value : h.value ≡ k.value = same_Some _ _ (sym h.is_json ∙ k.is_json) in
    let one : draft inline h.value ≡ Some x = (decides inline h.value x).1 h.is_shaped in
    let two : draft inline k.value ≡ Some y = (decides inline k.value y).1 k.is_shaped in
    same_Some _ _ (sym one ∙ (ap (draft inline) value ∙ two))

fails_of : (inline : Bool) (bytes : List ℕ) (d : Draft) (m : ℕ) → length bytes ≤ max_input → HoldsDraft inline bytes d → Applies inline bytes m → Fails (tests d) 3 m
fails_of inline bytes d m fits h (too_long many) = absurd (omega (arith, many, fits))
fails_of inline bytes d m fits h (no_json e) = absurd (none-some h.value (sym e ∙ h.is_json))
fails_of inline bytes d m fits h (no_shape {value = value} e none) =
    let P : Data → Type 0 = λ v. IsDraft inline v d in
    absurd (none d (subst P (same_Some _ _ (sym h.is_json ∙ e)) h.is_shaped))
fails_of inline bytes d m fits h (wrong_names {x = x} k e) = here (ap (λ (y : Draft). names_hold y.files) (one_draft inline bytes d x h k) ∙ e)
fails_of inline bytes d m fits h (wrong_sizes {x = x} k e) = there (here (ap (λ (y : Draft). sizes_hold y) (one_draft inline bytes d x h k) ∙ e))
fails_of inline bytes d m fits h (unknown_file {x = x} k e) = there (there (here (ap (λ (y : Draft). are_known (names_of y.files) y.units) (one_draft inline bytes d x h k) ∙ e)))
fails_of inline bytes d m fits h (wrong_times {x = x} k e) = there (there (there (here (ap (λ (y : Draft). times_hold y.setting) (one_draft inline bytes d x h k) ∙ e))))
fails_of inline bytes d m fits h (wrong_lines {x = x} k e) = there (there (there (there (here (ap (λ (y : Draft). lines_hold y.units) (one_draft inline bytes d x h k) ∙ e)))))
fails_of inline bytes d m fits h (wrong_directories {x = x} k e) = there (there (there (there (there (here (ap (λ (y : Draft). directories_hold y) (one_draft inline bytes d x h k) ∙ e))))))
fails_of inline bytes d m fits h (wrong_profile {x = x} k e) =
    there (there (there (there (there (there (here (ap (λ (y : Draft). profile_holds y.setting) (one_draft inline bytes d x h k) ∙ e)))))))
fails_of inline bytes d m fits h (wrong_budget {x = x} k e) =
    there (there (there (there (there (there (there (here (ap (λ (y : Draft). budget_holds y.setting) (one_draft inline bytes d x h k) ∙ e))))))))
fails_of inline bytes d m fits h (wrong_shown {x = x} k e) =
    there (there (there (there (there (there (there (there (here (ap shown_hold (one_draft inline bytes d x h k) ∙ e)))))))))

-- ---- the outcome of bytes

-- the meaning of an outcome: no refusal applies, or its number is the least that applies
abbrev Told : Bool → List ℕ → Verdict → Type 0
Told inline bytes (accepted list) = IsAccepted inline bytes list
Told inline bytes (refused number) = IsLeast (Applies inline bytes) number

told_judged : (inline : Bool) (bytes : List ℕ) (d : Draft) (o : Verdict) → length bytes ≤ max_input → HoldsDraft inline bytes d → validated inline d ≡ o → Told inline bytes o
told_judged inline bytes d (accepted list) fits h e =
    let all = first_taken (tests d) 3 (listed inline d) list e in
    record { draft = d; holds = h; none = λ m a. all.1 m (fails_of inline bytes d m fits h a); is_list = all.0 }
told_judged inline bytes d (refused n) fits h e =
    let one = first_refused (tests d) 3 (listed inline d) n e in
    record { is_so = applies_of inline bytes d n h one.is_so; least = λ m a. one.least m (fails_of inline bytes d m fits h a) }

-- Refusals are numbered from 1.
from_one : (inline : Bool) (bytes : List ℕ) (m : ℕ) → Applies inline bytes m → 1 ≤ m
from_one inline bytes m (too_long h) = omega arith
from_one inline bytes m (no_json h) = omega arith
from_one inline bytes m (no_shape h k) = omega arith
from_one inline bytes m (wrong_names h e) = omega arith
from_one inline bytes m (wrong_sizes h e) = omega arith
from_one inline bytes m (unknown_file h e) = omega arith
from_one inline bytes m (wrong_times h e) = omega arith
from_one inline bytes m (wrong_lines h e) = omega arith
from_one inline bytes m (wrong_directories h e) = omega arith
from_one inline bytes m (wrong_profile h e) = omega arith
from_one inline bytes m (wrong_budget h e) = omega arith
from_one inline bytes m (wrong_shown h e) = omega arith

-- If the bytes are not too long and hold a JSON value, only refusals from 2 on apply.
from_two : (inline : Bool) (bytes : List ℕ) (value : Data) (m : ℕ) → length bytes ≤ max_input → json_value bytes ≡ Some value → Applies inline bytes m → 2 ≤ m
from_two inline bytes value m fits is (too_long many) = absurd (omega (arith, many, fits))
from_two inline bytes value m fits is (no_json e) = absurd (none-some value (sym e ∙ is))
from_two inline bytes value m fits is (no_shape h k) = omega arith
from_two inline bytes value m fits is (wrong_names h e) = omega arith
from_two inline bytes value m fits is (wrong_sizes h e) = omega arith
from_two inline bytes value m fits is (unknown_file h e) = omega arith
from_two inline bytes value m fits is (wrong_times h e) = omega arith
from_two inline bytes value m fits is (wrong_lines h e) = omega arith
from_two inline bytes value m fits is (wrong_directories h e) = omega arith
from_two inline bytes value m fits is (wrong_profile h e) = omega arith
from_two inline bytes value m fits is (wrong_budget h e) = omega arith
from_two inline bytes value m fits is (wrong_shown h e) = omega arith

told_value : (inline : Bool) (bytes : List ℕ) (value : Data) (x : Option Draft) → length bytes ≤ max_input → json_value bytes ≡ Some value → draft inline value ≡ x
    → Told inline bytes (verdict_of inline bytes)
told_value inline bytes value None fits is e =
    let small : nat_lt max_input (length bytes) ≡ false = fits_test max_input (length bytes) fits in
    let two : verdict_of inline bytes ≡ refused 2 = rw (small, is, e) refl in
    let shapeless : (x : Draft) → ¬ IsDraft inline value x = λ x shaped. none-some x (sym e ∙ (decides inline value x).1 shaped) in
    subst (Told inline bytes) (sym two) (record { is_so = no_shape is shapeless; least = λ m a. from_two inline bytes value m fits is a })
told_value inline bytes value (Some d) fits is e =
    let holds : HoldsDraft inline bytes d = record { value = value; is_json = is; is_shaped = (decides inline value d).0 e } in
    subst (Told inline bytes) (sym (verdict_of-draft inline bytes value d fits is e)) (told_judged inline bytes d (validated inline d) fits holds refl)

told_json : (inline : Bool) (bytes : List ℕ) (value : Option Data) → length bytes ≤ max_input → json_value bytes ≡ value → Told inline bytes (verdict_of inline bytes)
told_json inline bytes None fits is =
    let small : nat_lt max_input (length bytes) ≡ false = fits_test max_input (length bytes) fits in
    let one : verdict_of inline bytes ≡ refused 1 = rw (small, is) refl in
    subst (Told inline bytes) (sym one) (record { is_so = no_json is; least = from_one inline bytes })
told_json inline bytes (Some value) fits is = told_value inline bytes value (draft inline value) fits is refl

told : (inline : Bool) (bytes : List ℕ) → Told inline bytes (verdict_of inline bytes)
told inline bytes =
    elim (cases_lt max_input (length bytes)) [
      | inl many ↦ subst (Told inline bytes) (sym (too_many inline bytes many)) (record { is_so = too_long many; least = from_one inline bytes })
      | inr fits ↦ told_json inline bytes (json_value bytes) fits refl
    ]

-- ---- the theorems

by_the_least : (inline : Bool) (bytes : List ℕ) (number : ℕ) (o : Verdict) → Told inline bytes o → IsLeast (Applies inline bytes) number → o ≡ refused number
by_the_least inline bytes number (accepted list) is least = absurd (is.none number least.is_so)
by_the_least inline bytes number (refused n) is least =
    let low : n ≤ number = is.least number least.is_so in
    let high : number ≤ n = least.least n is.is_so in
    let same : n ≡ number = omega arith in
    ap refused same

pub refuses_by_the_least : RefusesByTheLeast
refuses_by_the_least inline bytes number = (
  (λ e. subst (Told inline bytes) e (told inline bytes)),
  (λ least. by_the_least inline bytes number (verdict_of inline bytes) (told inline bytes) least),
)

as_taken : (inline : Bool) (bytes : List ℕ) (list : CompilationList) (o : Verdict) → Told inline bytes o → IsAccepted inline bytes list → o ≡ accepted list
as_taken inline bytes list (refused n) is taken = absurd (taken.none n is.is_so)
as_taken inline bytes list (accepted other) is taken =
    let same = one_draft inline bytes is.draft taken.draft is.holds taken.holds in
    ap accepted (is.is_list ∙ (ap (listed inline) same ∙ sym taken.is_list))

pub takes_the_rest : AcceptsTheRest
takes_the_rest inline bytes list = (
  (λ e. subst (Told inline bytes) e (told inline bytes)),
  (λ taken. as_taken inline bytes list (verdict_of inline bytes) (told inline bytes) taken),
)
