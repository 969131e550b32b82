-- A text is read as a character constant if and only if it has the syntax of one.
use Rattle.std.proofs.Common.{◌≡◌, ◌≢◌, ℕ, zero, suc, pos, ◌+◌, ◌*◌, ◌-◌, ◌<◌, ◌≤◌, ◌==◌, Bool, true, false, not, ◌||◌, ◌&&◌, nat_lt, nat_le, nat_eq}
use Rattle.std.proofs.Common.{List, [], ◌∷◌, ◌++◌, length, take, drop, get_or, Option, Some, None}
use Rattle.std.proofs.Common.{refl, sym, ap, ◌∙◌, subst, arith, inl, inr}
use Rattle.std.specs.Prelude.{if◌then◌else◌, codes, option_and_then, Contains, slice_range}
use Rattle.std.specs.List.{list_all, starts_with}
use Rattle.std.specs.Char.{is_digit, digit_value}
use Rattle.std.proofs.lemmas.Bool.{and_parts, false≢true}
use Rattle.std.proofs.lemmas.Bool.Decides.{nat_tests}
use Rattle.std.proofs.lemmas.Grind.{common_steps}
use Rattle.std.proofs.lemmas.Option.{none-some, same_Some}
use Rattle.pptext.specs.Spellings.{char_prefixes, IsElement, IsCharConst}
use Rattle.ppexpr.specs.declared.symbols.Value.{Value}
use Rattle.ppexpr.specs.declared.symbols.Value.TheVariants.{Signed, Unsigned}
use Rattle.ppexpr.specs.Integers.{number}
use Rattle.ppexpr.specs.Characters.{unquoted, simple_escape, are_digits, is_octal_escape, is_hexadecimal_escape, other_escape, escape, character}
use Rattle.ppexpr.specs.Characters.{up_to, of_type, character_of}
use Rattle.ppexpr.specs.Constants.{Continues, done, digit, Writes, IsSimpleEscape, single_quote, double_quote, question_mark, backslash, alert}
use Rattle.ppexpr.specs.Constants.{backspace, form_feed, new_line, carriage_return, horizontal_tab, vertical_tab, IsCharacter, byte, simple}
use Rattle.ppexpr.specs.Constants.{octal_escape, hexadecimal_escape, IsPrefix, no_prefix, wide, char16, char32, IsCharacterConstant}
use Rattle.ppexpr.proofs.ReadIntegers.{number_is, starts}

-- ---- digits

all_pass : {base m n : ℕ} {digits : List ℕ} → Continues base m digits n → list_all (λ c. is_digit c base) digits ≡ true
all_pass done = refl
all_pass (digit e w) = rw e (all_pass w)

writes_all : (base m : ℕ) (digits : List ℕ) → list_all (λ c. is_digit c base) digits ≡ true → (n : ℕ) × Continues base m digits n
writes_all base m [] e = (m, done)
writes_all base m (c ∷ digits) e =
    let p = and_parts (is_digit c base) (list_all (λ x. is_digit x base) digits) e in
    let later = writes_all base (m * base + digit_value c) digits p.1 in
    (later.0, digit p.0 later.1)

some_digits : (base : ℕ) (s : List ℕ) → are_digits base s ≡ true → (0 < length s) × Writes base s (number base s)
some_digits base s e =
    let p = and_parts (nat_lt 0 (length s)) (list_all (λ c. is_digit c base) s) e in
    let w = writes_all base 0 s p.1 in
    (grind (arith, nat_tests), subst (λ (n : ℕ). Writes base s n) (sym (number_is w.1)) w.1)

digits_are : (base c n : ℕ) (digits : List ℕ) → Writes base (c ∷ digits) n → are_digits base (c ∷ digits) ≡ true
digits_are base c n digits w = let some : nat_lt 0 (length (c ∷ digits)) ≡ true = grind (arith, nat_tests) in rw (some, all_pass w) refl

-- ---- escape sequences

abbrev look : List (ℕ × ℕ) → ℕ → Option ℕ
look [] c = None
look (p ∷ ps) c = if c == p.0 then Some p.1 else look ps c

abbrev escapes : List (ℕ × ℕ)
escapes = (39, 39) ∷ (34, 34) ∷ (63, 63) ∷ (92, 92) ∷ (97, 7) ∷ (98, 8) ∷ (116, 9) ∷ (110, 10) ∷ (118, 11) ∷ (102, 12) ∷ (114, 13) ∷ []

abbrev AllSimple : List (ℕ × ℕ) → Type 0
AllSimple [] = Unit {0}
AllSimple (p ∷ ps) = IsSimpleEscape p.0 p.1 × AllSimple ps

look_by : (p : ℕ × ℕ) (ps : List (ℕ × ℕ)) (c n : ℕ) (b : Bool)
    → IsSimpleEscape p.0 p.1
    → (c == p.0) ≡ b
    → (look ps c ≡ Some n → IsSimpleEscape c n)
    → (if b then Some p.1 else look ps c) ≡ Some n
    → IsSimpleEscape c n
look_by p ps c n true s e later f =
    let is : c ≡ p.0 = grind (arith, nat_tests) in
    subst (λ (x : ℕ). IsSimpleEscape x n) (sym is) (subst (λ (x : ℕ). IsSimpleEscape p.0 x) (same_Some p.1 n f) s)
look_by p ps c n false s e later f = later f

looked : (ps : List (ℕ × ℕ)) (c n : ℕ) → AllSimple ps → look ps c ≡ Some n → IsSimpleEscape c n
looked [] c n all e = absurd (none-some n e)
looked (p ∷ ps) c n all e = look_by p ps c n (c == p.0) all.0 refl (looked ps c n all.1) e

is_simple : (c n : ℕ) → simple_escape c ≡ Some n → IsSimpleEscape c n
is_simple c n e =
    looked escapes c n (single_quote, (double_quote, (question_mark, (backslash, (alert, (backspace, (horizontal_tab, (new_line, (vertical_tab, (form_feed, (carriage_return, tt))))))))))) e

simple_read : (c n : ℕ) → IsSimpleEscape c n → escape (c ∷ []) ≡ Some n
simple_read c n single_quote = refl
simple_read c n double_quote = refl
simple_read c n question_mark = refl
simple_read c n backslash = refl
simple_read c n alert = refl
simple_read c n backspace = refl
simple_read c n form_feed = refl
simple_read c n new_line = refl
simple_read c n carriage_return = refl
simple_read c n horizontal_tab = refl
simple_read c n vertical_tab = refl

other_is : (s : List ℕ) (n : ℕ) → other_escape s ≡ Some n → IsCharacter (92 ∷ s) n
other_is [] n e = absurd (none-some n e)
other_is (c ∷ []) n e = simple (is_simple c n e)
other_is (c ∷ d ∷ s) n e = absurd (none-some n e)

octal_is : (s : List ℕ) (n : ℕ) → is_octal_escape s ≡ true → number 8 s ≡ n → IsCharacter (92 ∷ s) n
octal_is [] n e f = absurd (false≢true e)
octal_is (c ∷ s) n e f =
    let p = and_parts (nat_le (length (c ∷ s)) 3) (are_digits 8 (c ∷ s)) e in
    let few : length (c ∷ s) ≤ 3 = let t = p.0 in grind (arith, nat_tests) in
    octal_escape few (subst (λ (x : ℕ). Writes 8 (c ∷ s) x) f (some_digits 8 (c ∷ s) p.1).1)

hexadecimal_some : (s : List ℕ) (n : ℕ) → (0 < length s) × Writes 16 s n → IsCharacter (92 ∷ 120 ∷ s) n
hexadecimal_some [] n h = absurd (let l = h.0 in omega arith)
hexadecimal_some (c ∷ s) n h = hexadecimal_escape h.1

hexadecimal_is : (s : List ℕ) (n : ℕ) → is_hexadecimal_escape s ≡ true → number 16 (drop 1 s) ≡ n → IsCharacter (92 ∷ s) n
hexadecimal_is [] n e f = absurd (false≢true e)
hexadecimal_is (c ∷ s) n e f =
    let p = and_parts (starts_with nat_eq (c ∷ s) (codes "x")) (are_digits 16 s) e in
    let is : c ≡ 120 = starts 120 c s p.0 in
    let d = some_digits 16 s p.1 in
    subst (λ (x : ℕ). IsCharacter (92 ∷ x ∷ s) n) (sym is) (hexadecimal_some s n (d.0, subst (λ (x : ℕ). Writes 16 s x) f d.1))

escape_by : (s : List ℕ) (n : ℕ) (o h : Bool)
    → is_octal_escape s ≡ o
    → is_hexadecimal_escape s ≡ h
    → (if o then Some (number 8 s) else (if h then Some (number 16 (drop 1 s)) else other_escape s)) ≡ Some n
    → IsCharacter (92 ∷ s) n
escape_by s n true h e f g = octal_is s n e (same_Some (number 8 s) n g)
escape_by s n false true e f g = hexadecimal_is s n f (same_Some (number 16 (drop 1 s)) n g)
escape_by s n false false e f g = other_is s n g

-- ---- the text between the quotes

-- if the text is one byte other than `\`, this byte is neither `'` nor a new-line
abbrev pub IsSound : List ℕ → Type 0
IsSound (c ∷ []) = c ≢ 92 → (c ≢ 39) × (c ≢ 10)
IsSound _ = Unit {0}

body_by : (c : ℕ) (s : List ℕ) (n : ℕ) (b : Bool) → IsSound (c ∷ s) → (c == 92) ≡ b → (if b then escape s else (if nat_eq (length s) 0 then Some c else None)) ≡ Some n → IsCharacter (c ∷ s) n
body_by c s n true sound e f =
    let is : c ≡ 92 = grind (arith, nat_tests) in
    subst (λ (x : ℕ). IsCharacter (x ∷ s) n) (sym is) (escape_by s n (is_octal_escape s) (is_hexadecimal_escape s) refl refl f)
body_by c [] n false sound e f =
    let other : c ≢ 92 = λ same. false≢true (sym e ∙ ap (λ (x : ℕ). x == 92) same) in
    let s = sound other in
    subst (λ (x : ℕ). IsCharacter (c ∷ []) x) (same_Some c n f) (byte s.0 other s.1)
body_by c (d ∷ s) n false sound e f =
    let long : nat_eq (length (d ∷ s)) 0 ≡ false = grind (arith, nat_tests) in
    absurd (none-some n (ap (λ (b : Bool). if b then Some c else None) (sym long) ∙ f))

body_is : (s : List ℕ) (n : ℕ) → IsSound s → character s ≡ Some n → IsCharacter s n
body_is [] n sound e = absurd (none-some n e)
body_is (c ∷ s) n sound e = body_by c s n (c == 92) sound refl e

and_false : (a b : Bool) → (a && (b && false)) ≡ false
and_false true true = refl
and_false true false = refl
and_false false b = refl

body_read : (s : List ℕ) (n : ℕ) → IsCharacter s n → character s ≡ Some n
body_read s n (byte {c = c} a other b) = let e : (c == 92) ≡ false = grind (arith, nat_tests) in rw e refl
body_read s n (simple {c = c} h) = simple_read c n h
body_read s n (octal_escape {c = c} {digits = digits} few w) =
    let e : nat_le (length (c ∷ digits)) 3 ≡ true = grind (arith, nat_tests) in
    rw (e, digits_are 8 c n digits w) (ap (λ (x : ℕ). Some x) (number_is w))
body_read s n (hexadecimal_escape {c = c} {digits = digits} w) =
    let none : is_octal_escape (120 ∷ c ∷ digits) ≡ false = and_false (nat_le (length (120 ∷ c ∷ digits)) 3) (nat_lt 0 (length (120 ∷ c ∷ digits))) in
    rw (none, digits_are 16 c n digits w) (ap (λ (x : ℕ). Some x) (number_is w))

-- ---- the quotes

last_of : (c : ℕ) (s : List ℕ) → c ∷ s ≡ take (length s) (c ∷ s) ++ get_or (c ∷ s) (length s) 0 ∷ []
last_of c s = grind (arith, common_steps)

quoted_by : (s body : List ℕ) (b : Bool)
    → (nat_le 2 (length s) && (get_or s 0 0 == 39 && get_or s (length s - 1) 0 == 39)) ≡ b
    → (if b then Some (slice_range s 1 (length s - 1)) else None) ≡ Some body
    → s ≡ 39 ∷ (body ++ 39 ∷ [])
quoted_by s body false e f = absurd (none-some body f)
quoted_by [] body true e f = absurd (false≢true e)
quoted_by (a ∷ []) body true e f = absurd (false≢true e)
quoted_by (a ∷ c ∷ s) body true e f =
    let p = and_parts (nat_le 2 (length (a ∷ c ∷ s))) (a == 39 && get_or (a ∷ c ∷ s) (length (a ∷ c ∷ s) - 1) 0 == 39) e in
    let q = and_parts (a == 39) (get_or (a ∷ c ∷ s) (length (a ∷ c ∷ s) - 1) 0 == 39) p.1 in
    let first : a ≡ 39 = let t = q.0 in grind (arith, nat_tests) in
    let at : length (a ∷ c ∷ s) - 1 ≡ suc (length s) = omega arith in
    let last : get_or (c ∷ s) (length s) 0 ≡ 39 = let t : (get_or (a ∷ c ∷ s) (suc (length s)) 0 == 39) ≡ true = ap (λ (k : ℕ). get_or (a ∷ c ∷ s) k 0 == 39) (sym at) ∙ q.1 in grind (arith, nat_tests) in
    let many : length (a ∷ c ∷ s) - 1 - 1 ≡ length s = omega arith in
    let inner : take (length s) (c ∷ s) ≡ body = ap (λ (k : ℕ). take k (c ∷ s)) (sym many) ∙ same_Some _ body f in
    ap (λ (x : ℕ). x ∷ c ∷ s) first ∙ ap (λ (x : List ℕ). 39 ∷ x) (last_of c s ∙ (ap (λ (x : List ℕ). x ++ get_or (c ∷ s) (length s) 0 ∷ []) inner ∙ ap (λ (x : ℕ). body ++ x ∷ []) last))

quoted_is : (s body : List ℕ) → unquoted s ≡ Some body → s ≡ 39 ∷ (body ++ 39 ∷ [])
quoted_is s body e = quoted_by s body (nat_le 2 (length s) && (get_or s 0 0 == 39 && get_or s (length s - 1) 0 == 39)) refl e

quoted_read : (body : List ℕ) → unquoted (39 ∷ (body ++ 39 ∷ [])) ≡ Some body
quoted_read body =
    let s : List ℕ = 39 ∷ (body ++ 39 ∷ []) in
    let many : length s ≡ length body + 2 = grind (arith, common_steps) in
    let two : nat_le 2 (length s) ≡ true = grind (arith, nat_tests) in
    let last : (get_or s (length s - 1) 0 == 39) ≡ true = let g : get_or s (length s - 1) 0 ≡ 39 = grind (arith, common_steps) in grind (arith, nat_tests) in
    let inner : slice_range s 1 (length s - 1) ≡ body = grind (arith, common_steps) in
    rw (two, last, inner) refl

-- ---- the value for a type

record Typed (greatest : ℕ) (unsigned : Bool) (s : List ℕ) (v : Value) : Type 0 where
  pub body : List ℕ
  pub number : ℕ
  pub laid_out : s ≡ 39 ∷ (body ++ 39 ∷ [])
  pub reads : character body ≡ Some number
  pub fits : number ≤ greatest
  pub value : v ≡ (if unsigned then Unsigned number else Signed (pos number))

typed_number : (greatest : ℕ) (unsigned : Bool) (s body : List ℕ) (n : ℕ) (v : Value) (b : Bool) → unquoted s ≡ Some body → character body ≡ Some n → nat_le n greatest ≡ b
    → (if b then Some (if unsigned then Unsigned n else Signed (pos n)) else None) ≡ Some v
    → Typed greatest unsigned s v
typed_number greatest unsigned s body n v true e f g h = record { body = body; number = n; laid_out = quoted_is s body e; reads = f; fits = grind (arith, nat_tests); value = sym (same_Some _ v h) }
typed_number greatest unsigned s body n v false e f g h = absurd (none-some v h)

typed_body : (greatest : ℕ) (unsigned : Bool) (s body : List ℕ) (v : Value) (o : Option ℕ)
    → unquoted s ≡ Some body
    → character body ≡ o
    → option_and_then (up_to greatest unsigned) o ≡ Some v
    → Typed greatest unsigned s v
typed_body greatest unsigned s body v None e f g = absurd (none-some v g)
typed_body greatest unsigned s body v (Some n) e f g = typed_number greatest unsigned s body n v (nat_le n greatest) e f refl g

typed_by : (greatest : ℕ) (unsigned : Bool) (s : List ℕ) (v : Value) (o : Option (List ℕ))
    → unquoted s ≡ o
    → option_and_then (up_to greatest unsigned) (option_and_then character o) ≡ Some v
    → Typed greatest unsigned s v
typed_by greatest unsigned s v None e f = absurd (none-some v f)
typed_by greatest unsigned s v (Some body) e f = typed_body greatest unsigned s body v (character body) e refl f

typed_is : (greatest : ℕ) (unsigned : Bool) (s : List ℕ) (v : Value) → of_type greatest unsigned s ≡ Some v → Typed greatest unsigned s v
typed_is greatest unsigned s v e = typed_by greatest unsigned s v (unquoted s) refl e

type_read : (greatest : ℕ) (unsigned : Bool) (body : List ℕ) (n : ℕ)
    → IsCharacter body n
    → n ≤ greatest
    → of_type greatest unsigned (39 ∷ (body ++ 39 ∷ [])) ≡ Some (if unsigned then Unsigned n else Signed (pos n))
type_read greatest unsigned body n h fits = let e : nat_le n greatest ≡ true = grind (arith, nat_tests) in rw (quoted_read body, body_read body n h, e) refl

-- ---- a prefix

constant_of : (prefix s : List ℕ) (greatest : ℕ) (unsigned : Bool) (v : Value)
    → s ≡ prefix ++ drop (length prefix) s
    → IsPrefix prefix greatest unsigned
    → ((body : List ℕ) → s ≡ prefix ++ 39 ∷ (body ++ 39 ∷ []) → IsSound body)
    → Typed greatest unsigned (drop (length prefix) s) v
    → IsCharacterConstant s v
constant_of prefix s greatest unsigned v e p sound t =
    let out : s ≡ prefix ++ 39 ∷ (t.body ++ 39 ∷ []) = e ∙ ap (λ (x : List ℕ). prefix ++ x) t.laid_out in
    record {
      prefix = prefix;
      body = t.body;
      greatest = greatest;
      type_unsigned = unsigned;
      number = t.number;
      laid_out = out;
      type_is = p;
      character = body_is t.body t.number (sound t.body out) t.reads;
      fits = t.fits;
      value = t.value;
    }

-- with any prefix, the text between the quotes is sound
abbrev IsSoundText : List ℕ → Type 0
IsSoundText s = (prefix body : List ℕ) (greatest : ℕ) (unsigned : Bool) → IsPrefix prefix greatest unsigned → s ≡ prefix ++ 39 ∷ (body ++ 39 ∷ []) → IsSound body

begins : (k : ℕ) (s : List ℕ) → starts_with nat_eq s (k ∷ []) ≡ true → s ≡ (k ∷ []) ++ drop 1 s
begins k [] e = absurd (false≢true e)
begins k (c ∷ s) e = ap (λ (x : ℕ). x ∷ s) (starts k c s e)

constant_by : (s : List ℕ) (v : Value) (a b c : Bool) → IsSoundText s → starts_with nat_eq s (codes "u") ≡ a → starts_with nat_eq s (codes "U") ≡ b → starts_with nat_eq s (codes "L") ≡ c
    → (if a then of_type 65535 true (drop 1 s) else (if b then of_type 4294967295 true (drop 1 s) else (if c then of_type 4294967295 false (drop 1 s) else of_type 255 false s))) ≡ Some v
    → IsCharacterConstant s v
constant_by s v true b c sound e f g h = constant_of (codes "u") s 65535 true v (begins 117 s e) char16 (λ body is. sound (codes "u") body 65535 true char16 is) (typed_is 65535 true (drop 1 s) v h)
constant_by s v false true c sound e f g h = constant_of (codes "U") s 4294967295 true v (begins 85 s f) char32 (λ body is. sound (codes "U") body 4294967295 true char32 is) (typed_is 4294967295 true (drop 1 s) v h)
constant_by s v false false true sound e f g h = constant_of (codes "L") s 4294967295 false v (begins 76 s g) wide (λ body is. sound (codes "L") body 4294967295 false wide is) (typed_is 4294967295 false (drop 1 s) v h)
constant_by s v false false false sound e f g h = constant_of [] s 255 false v refl no_prefix (λ body is. sound [] body 255 false no_prefix is) (typed_is 255 false s v h)

prefix_read : (prefix : List ℕ) (greatest : ℕ) (unsigned : Bool) (s : List ℕ) → IsPrefix prefix greatest unsigned → character_of (prefix ++ 39 ∷ s) ≡ of_type greatest unsigned (39 ∷ s)
prefix_read prefix greatest unsigned s no_prefix = refl
prefix_read prefix greatest unsigned s wide = refl
prefix_read prefix greatest unsigned s char16 = refl
prefix_read prefix greatest unsigned s char32 = refl

pub character_read : (s : List ℕ) (v : Value) → IsCharacterConstant s v → character_of s ≡ Some v
character_read s v i =
    ap character_of i.laid_out
    ∙ (prefix_read i.prefix i.greatest i.type_unsigned (i.body ++ 39 ∷ []) i.type_is
    ∙ (type_read i.greatest i.type_unsigned i.body i.number i.character i.fits ∙ ap (λ (x : Value). Some x) (sym i.value)))

-- ---- the spelling of a token

-- the text of a character constant without its prefix
abbrev bare : List ℕ → List ℕ
bare [] = []
bare (c ∷ s) = if c == 39 then c ∷ s else s

bare_prefix : (prefix : List ℕ) (greatest : ℕ) (unsigned : Bool) (s : List ℕ) → IsPrefix prefix greatest unsigned → bare (prefix ++ 39 ∷ s) ≡ 39 ∷ s
bare_prefix prefix greatest unsigned s no_prefix = refl
bare_prefix prefix greatest unsigned s wide = refl
bare_prefix prefix greatest unsigned s char16 = refl
bare_prefix prefix greatest unsigned s char32 = refl

bare_of : (prefix s : List ℕ) → Contains char_prefixes prefix → bare (prefix ++ 39 ∷ s) ≡ 39 ∷ s
bare_of prefix s (zero, within, is) = ap (λ (p : List ℕ). bare (p ++ 39 ∷ s)) (sym is)
bare_of prefix s (suc zero, within, is) = ap (λ (p : List ℕ). bare (p ++ 39 ∷ s)) (sym is)
bare_of prefix s (suc (suc zero), within, is) = ap (λ (p : List ℕ). bare (p ++ 39 ∷ s)) (sym is)
bare_of prefix s (suc (suc (suc zero)), within, is) = ap (λ (p : List ℕ). bare (p ++ 39 ∷ s)) (sym is)
bare_of prefix s (suc (suc (suc (suc k))), within, is) = absurd (omega arith)

abbrev head_of : List ℕ → ℕ
head_of [] = 0
head_of (c ∷ s) = c

sound_byte : (c x : ℕ) → c ≡ x → not (x == 39 || (x == 92 || x == 10)) ≡ true → (c ≢ 39) × (c ≢ 10)
sound_byte c x e t =
    let one : x ≢ 39 = λ is. false≢true (ap (λ (k : ℕ). not (k == 39 || (k == 92 || k == 10))) (sym is) ∙ t) in
    let two : x ≢ 10 = λ is. false≢true (ap (λ (k : ℕ). not (k == 39 || (k == 92 || k == 10))) (sym is) ∙ t) in
    (λ is. one (sym e ∙ is), λ is. two (sym e ∙ is))

sound_element : (c : ℕ) (rest element more : List ℕ) → c ∷ rest ≡ element ++ more → IsElement 39 element → c ≢ 92 → (c ≢ 39) × (c ≢ 10)
sound_element c rest element more e (inl (x, is, t)) other =
    let same : c ≡ x = ap head_of (e ∙ ap (λ (l : List ℕ). l ++ more) is) in sound_byte c x same t
sound_element c rest element more e (inr (a, b, is, at, h)) other =
    let same : c ≡ 92 = ap head_of (e ∙ (ap (λ (l : List ℕ). l ++ more) is ∙ ap (λ (l : List ℕ). (l ++ b) ++ more) at)) in absurd (other same)

sound_by : (s body : List ℕ) (element more : List ℕ) → bare s ≡ 39 ∷ (body ++ 39 ∷ []) → bare s ≡ 39 ∷ (element ++ more) → IsElement 39 element → IsSound body
sound_by s [] element more e f h = tt
sound_by s (c ∷ []) element more e f h = λ other. sound_element c (39 ∷ []) element more (ap (drop 1) (sym e ∙ f)) h other
sound_by s (c ∷ d ∷ body) element more e f h = tt

sound_text : (s : List ℕ) → IsCharConst s → IsSoundText s
sound_text s (p, rest, is, has, (q, following, rest_is, quote, (element, more, behind_is, h, tail))) prefix body greatest unsigned t e =
    let mine : bare s ≡ 39 ∷ (body ++ 39 ∷ []) = ap bare e ∙ bare_prefix prefix greatest unsigned (body ++ 39 ∷ []) t in
    let after : rest ≡ 39 ∷ (element ++ more) = rest_is ∙ (ap (λ (l : List ℕ). l ++ following) quote ∙ ap (λ (l : List ℕ). 39 ∷ l) behind_is) in
    let theirs : bare s ≡ 39 ∷ (element ++ more) = ap bare (is ∙ ap (λ (l : List ℕ). p ++ l) after) ∙ bare_of p (element ++ more) has in
    sound_by s body element more mine theirs h

pub character_laid_out : (s : List ℕ) (v : Value) → IsCharConst s → character_of s ≡ Some v → IsCharacterConstant s v
character_laid_out s v spelled e = constant_by s v (starts_with nat_eq s (codes "u")) (starts_with nat_eq s (codes "U")) (starts_with nat_eq s (codes "L")) (sound_text s spelled) refl refl refl e
