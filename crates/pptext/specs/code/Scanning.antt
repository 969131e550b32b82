-- What the scanners return: the length of a part of a token that begins a text, and what is known of unmatched quotes. Only the contracts of private
-- functions cite this.
use Rattle.std.specs.Prelude.{◌≡◌, ℕ, ◌+◌, ◌-◌, ◌<◌, ◌≤◌, List, [], ◌∷◌, Bool, ◌||◌, length, take, drop, slice_index, ◌⊎◌}
use Rattle.pptext.specs.Languages.{Then, Repeated, Exactly, Longest}
use Rattle.pptext.specs.Spellings.{is_digit, is_nondigit, is_punctuator, IsElement}

-- a character that is allowed in an identifier after the first
abbrev pub is_ident_byte : ℕ → Bool
is_ident_byte c = is_nondigit c || is_digit c

-- punctuators of one, two and three characters
abbrev pub is_punct1 : ℕ → Bool
is_punct1 a = is_punctuator (a ∷ [])

abbrev pub is_punct2 : ℕ → ℕ → Bool
is_punct2 a b = is_punctuator (a ∷ b ∷ [])

abbrev pub is_punct3 : ℕ → ℕ → ℕ → Bool
is_punct3 a b c = is_punctuator (a ∷ b ∷ c ∷ [])

-- no prefix of the text is in the language
abbrev pub NoPrefix : (List ℕ → Type 0) → List ℕ → Type 0
NoPrefix P text = (m : ℕ) → m ≤ length text → P (take m text) → ⊥

-- The next part of the text has n characters. Any other part that begins here is shorter, and no part comes after it.
pub record IsNext (P : List ℕ → Type 0) (text : List ℕ) (n : ℕ) : Type 0 where
  pub positive : 0 < n
  pub fits : n ≤ length text
  pub part : P (take n text)
  pub others : (m : ℕ) → m ≤ length text → P (take m text) → (m ≡ n) ⊎ ((m < n) × NoPrefix P (drop m text))

-- the length of the next part, or 0 if none begins the text
abbrev pub NextPart : (List ℕ → Type 0) → List ℕ → ℕ → Type 0
NextPart P text n = (n ≡ 0 → NoPrefix P text) × (0 < n → IsNext P text n)

-- The one part that begins the text has n characters.
pub record IsOnly (P : List ℕ → Type 0) (text : List ℕ) (n : ℕ) : Type 0 where
  pub positive : 0 < n
  pub fits : n ≤ length text
  pub part : P (take n text)
  pub only : (m : ℕ) → m ≤ length text → P (take m text) → m ≡ n

-- the length of the one part, or 0 if none begins the text
abbrev pub OnlyPart : (List ℕ → Type 0) → List ℕ → ℕ → Type 0
OnlyPart P text n = (n ≡ 0 → NoPrefix P text) × (0 < n → IsOnly P text n)

-- the length of the longest prefix in the language, or 0 if there is none
abbrev pub LongestOrNone : (List ℕ → Type 0) → List ℕ → ℕ → Type 0
LongestOrNone P text n = (n ≡ 0 → NoPrefix P text) × (0 < n → Longest P text n)

-- ---- quotes that nothing closes in their line

-- what follows an opening quote: elements and the closing quote
abbrev pub IsQuoted : ℕ → List ℕ → Type 0
IsQuoted quote = Then (Repeated (IsElement quote)) (Exactly (quote ∷ []))

-- none of these quotes among the first n characters is closed in its line
abbrev pub AreUnmatched : ℕ → List ℕ → ℕ → Type 0
AreUnmatched quote text n = (r : ℕ) → r < n → slice_index text r ≡ quote → NoPrefix (IsQuoted quote) (drop (r + 1) text)

-- nothing closes an opening quote before the text, nor a quote among its first n characters
abbrev pub StaysOpen : ℕ → List ℕ → ℕ → Type 0
StaysOpen quote text n = (n ≤ length text) × NoPrefix (IsQuoted quote) text × AreUnmatched quote text n

-- what is known of the quotes of a text: all but the last `single_left` characters have only unmatched single quotes, and all but the last
-- `double_left` only unmatched double quotes
pub record KnowsUnmatched (text : List ℕ) (single_left double_left : ℕ) : Type 0 where
  pub single : AreUnmatched 39 text (length text - single_left)
  pub double : AreUnmatched 34 text (length text - double_left)
