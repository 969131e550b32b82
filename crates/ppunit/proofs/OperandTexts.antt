-- A number that is read digit by digit: once it is too large, it no longer changes. The message of `#error` and the name of
-- an include line, token by token: `first` is true for the first token.
use Rattle.std.proofs.Common.{◌≡◌, ℕ, ◌+◌, ◌-◌, ◌*◌, ◌<◌, ◌≤◌, Bool, true, false, nat_le, List, [], ◌∷◌, length, drop}
use Rattle.std.proofs.Common.{get_or, sym, ap, ◌∙◌, subst, arith, ◌&&◌, refl, suc, ◌==◌, not, if◌then◌else◌, ◌++◌, flat_map, Option, None}
use Rattle.std.proofs.Common.{Some, codes, add-one, append_assoc, drop-cons}
use Rattle.std.specs.List.{list_all}
use Rattle.std.proofs.lemmas.List.{drop_more}
use Rattle.std.proofs.lemmas.Bool.{leb-true}
use Rattle.pptext.specs.Spellings.{is_digit}
use Rattle.ppunit.specs.LineControl.{decimal_after, decimal_value}
use Rattle.std.proofs.lemmas.Bool.Decides.{nat_tests}
use Rattle.pptext.specs.declared.tokens.Token.{Token}
use Rattle.pptext.specs.Tokens.{is_punct}
use Rattle.ppmacro.specs.Substitution.{spelled_space}
use Rattle.ppunit.specs.DirectiveLines.{spaced}
use Rattle.ppunit.specs.Directives.{message}
use Rattle.ppunit.specs.Including.{if_at_end, prefixed, angle_rest, angle_name}

-- ---- a number that is read digit by digit. Once it is too large, it no longer changes

at_least : (n : ℕ) (ds : List ℕ) → n ≤ decimal_after n ds
at_least n [] = omega arith
at_least n (d ∷ ds) = let more : n * 10 + (d - 48) ≤ decimal_after (n * 10 + (d - 48)) ds = at_least (n * 10 + (d - 48)) ds in omega arith

abbrev pub Reads : List ℕ → ℕ → ℕ → Type 0
Reads digits i n =
    (list_all is_digit (drop i digits) ≡ list_all is_digit digits)
    × (n ≤ 21474836479)
    × (n ≤ 2147483647 → decimal_after n (drop i digits) ≡ decimal_value digits)
    × (2147483647 < n → 2147483647 < decimal_value digits)

rest_digits : (digits : List ℕ) (i : ℕ) → i < length digits → is_digit (get_or digits i 0) ≡ true → list_all is_digit (drop (i + 1) digits) ≡ list_all is_digit (drop i digits)
rest_digits digits i within digit =
    sym (ap (list_all is_digit) (drop_more digits i 0 within) ∙ ap (λ (b : Bool). b && list_all is_digit (drop (i + 1) digits)) digit)

and_right : (a b : Bool) → (a && b) ≡ true → b ≡ true
and_right true b e = e
and_right false b e = absurd (cc)

small : (b : ℕ) → is_digit b ≡ true → b - 48 ≤ 9
small b e = let high : b ≤ 57 = leb-true b 57 (and_right (nat_le 48 b) (nat_le b 57) e) in omega arith

pub reads_digit : (digits : List ℕ) (i n : ℕ) → i < length digits → is_digit (get_or digits i 0) ≡ true → n ≤ 2147483647 → Reads digits i n → Reads digits (i + 1) (n * 10 + (get_or digits i 0 - 48))
reads_digit digits i n within digit fits reads =
    let digit_small = small (get_or digits i 0) digit in
    let m = n * 10 + (get_or digits i 0 - 48) in
    let value : decimal_after m (drop (i + 1) digits) ≡ decimal_value digits = sym (ap (decimal_after n) (drop_more digits i 0 within)) ∙ reads.2 fits in
    let least : m ≤ decimal_after m (drop (i + 1) digits) = at_least m (drop (i + 1) digits) in
    (rest_digits digits i within digit ∙ reads.0, omega arith, (λ f. value), (λ f. subst (λ z. 2147483647 < z) value (omega arith)))

pub reads_on : (digits : List ℕ) (i n : ℕ) → i < length digits → is_digit (get_or digits i 0) ≡ true → 2147483647 < n → Reads digits i n → Reads digits (i + 1) n
reads_on digits i n within digit great reads = (rest_digits digits i within digit ∙ reads.0, reads.1, (λ fits. absurd (omega arith)), reads.3)

-- ---- the message of `#error` and the name of an include line, token by token. `first` is true for the first token

abbrev mark : Bool → List ℕ
mark b = if b then 32 ∷ [] else []

unmarked : (b : Bool) → mark (b && not true) ≡ []
unmarked true = refl
unmarked false = refl

marked : (b : Bool) → mark (b && not false) ≡ mark b
marked true = refl
marked false = refl

-- ---- the message

abbrev pub probe_result : Bool → List Token → List ℕ
probe_result first [] = []
probe_result first (t ∷ ts) = spelled_space first t ++ (t.text ++ probe_result false ts)

behind_mark : (b : Bool) (xs ys : List ℕ) → mark (b && not false) ++ (xs ++ ys) ≡ (mark b ++ xs) ++ ys
behind_mark true xs ys = refl
behind_mark false xs ys = refl

told_behind : (ts : List Token) → probe_result false ts ≡ flat_map spaced ts
told_behind [] = refl
told_behind (t ∷ ts) = behind_mark t.space t.text (probe_result false ts) ∙ ap (λ (z : List ℕ). spaced t ++ z) (told_behind ts)

pub message_is : (ts : List Token) → probe_result true ts ≡ message ts
message_is [] = refl
message_is (t ∷ ts) = ap (λ (z : List ℕ). z ++ (t.text ++ probe_result false ts)) (unmarked t.space) ∙ ap (λ (z : List ℕ). t.text ++ z) (told_behind ts)

-- ---- the name

abbrev pub named : Bool → List Token → Option (List ℕ)
named first [] = None
named first (t ∷ ts) = if is_punct (codes ">") t then if_at_end (spelled_space first t) ts else prefixed (spelled_space first t ++ t.text) (named false ts)

-- the rest of a name from the token t on, with this space before t
abbrev from : Token → List Token → Option (List ℕ) → List ℕ → Option (List ℕ)
from t ts more space = if is_punct (codes ">") t then if_at_end space ts else prefixed (space ++ t.text) more

named_behind : (ts : List Token) → named false ts ≡ angle_rest ts
named_behind [] = refl
named_behind (t ∷ ts) =
    ap (from t ts (named false ts)) (marked t.space)
    ∙ ap (λ more. from t ts more (mark t.space)) (named_behind ts)

pub named_angle : (ts : List Token) → named true ts ≡ angle_name ts
named_angle [] = refl
named_angle (t ∷ ts) = ap (from t ts (named false ts)) (unmarked t.space) ∙ ap (λ more. from t ts more []) (named_behind ts)

prefixed_twice : (a b c : List ℕ) (more : Option (List ℕ)) → prefixed ((a ++ b) ++ c) more ≡ prefixed a (prefixed (b ++ c) more)
prefixed_twice a b c None = refl
prefixed_twice a b c (Some more) = ap Some (simp append_assoc)

-- one more token, if it is not `>`
pub named_more : (ts : List Token) (i : ℕ) (t : Token) (name longer : List ℕ)
    → i < length ts
    → t ≡ get_or ts i t
    → is_punct (codes ">") t ≡ false
    → longer ≡ (name ++ spelled_space (i == 0) t) ++ t.text
    → prefixed longer (named (i + 1 == 0) (drop (i + 1) ts)) ≡ prefixed name (named (i == 0) (drop i ts))
named_more ts i t name longer h is other more =
    let here : drop i ts ≡ t ∷ drop (suc i) ts = drop-cons ts i t h ∙ ap (λ (z : Token). z ∷ drop (suc i) ts) (sym is) in
    let later : (i + 1 == 0) ≡ false = grind (arith, nat_tests) in
    rw (later, add-one, more, here, other) (prefixed_twice name (spelled_space (i == 0) t) t.text (named false (drop (suc i) ts)))
