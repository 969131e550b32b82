-- The longest punctuator.
use Rattle.std.proofs.Common.{◌≡◌, ℕ, zero, suc, ◌<◌, ◌≤◌, Bool, true, false, ◌||◌, List, [], ◌∷◌, length, take, refl, subst, inl, inr, ◌⊎◌, arith, nat_le}
use Rattle.std.specs.List.{list_any, list_all}
use Rattle.std.specs.Str.{bytes_eq}
use Rattle.std.proofs.lemmas.Bool.{false≢true, and_parts, cases_lt}
use Rattle.std.proofs.lemmas.Bool.Decides.{nat_tests}
use Rattle.std.proofs.lemmas.List.{length-take-le}
use Rattle.std.proofs.lemmas.Slice.Eq.{bytes_eq-Decides}
use Rattle.pptext.specs.code.Scanning.{LongestOrNone}
use Rattle.pptext.specs.Spellings.{is_punctuator, punctuators}

le_of : (a b : ℕ) → nat_le a b ≡ true → a ≤ b
le_of a b e = grind (arith, nat_tests)

-- A text that equals an entry passes each test that all entries pass.
pub any_passes : (test : List ℕ → Bool) (ps : List (List ℕ)) (s : List ℕ) → list_all test ps ≡ true → list_any (λ p. bytes_eq p s) ps ≡ true → test s ≡ true
any_passes test [] s a b = absurd (false≢true b)
any_passes test (p ∷ ps) s a b = go (bytes_eq p s) refl b (any_passes test ps s (and_parts (test p) (list_all test ps) a).1)
  where
    go : (x : Bool) → bytes_eq p s ≡ x → x || list_any (λ q. bytes_eq q s) ps ≡ true → (list_any (λ q. bytes_eq q s) ps ≡ true → test s ≡ true) → test s ≡ true
    go true e h later = subst (λ z. test z ≡ true) ((bytes_eq-Decides p s).0 e) (and_parts (test p) (list_all test ps) a).0
    go false e h later = later h

punct_short : (s : List ℕ) → is_punctuator s ≡ true → length s ≤ 4
punct_short s e = le_of (length s) 4 (any_passes (λ p. nat_le (length p) 4) punctuators s refl e)

-- a punctuator of n bytes begins the text
abbrev pub Begun : List ℕ → ℕ → Type 0
Begun text n = (n ≤ length text) × (is_punctuator (take n text) ≡ true)

short_front : (text : List ℕ) (m : ℕ) → m ≤ length text → is_punctuator (take m text) ≡ true → m ≤ 4
short_front text m fits e = let l : length (take m text) ≡ m = length-take-le m text fits in let s = punct_short (take m text) e in omega arith

pub longest_at : (text : List ℕ) (n : ℕ) → 0 < n → Begun text n → ((m : ℕ) → n < m → m ≤ 4 → Begun text m → ⊥) → LongestOrNone (λ s. is_punctuator s ≡ true) text n
longest_at text n some here above =
    (λ z. absurd (omega arith), λ _. record { fits = here.0; prefix = here.1; longest = λ m more fits e. above m more (short_front text m fits e) (fits, e) })

pub none_at : (text : List ℕ) → (Begun text 4 → ⊥) → (Begun text 3 → ⊥) → (Begun text 2 → ⊥) → (Begun text 1 → ⊥) → LongestOrNone (λ s. is_punctuator s ≡ true) text 0
none_at text d c b a = (λ _ m fits e. none m fits e (short_front text m fits e), λ z. absurd (omega arith))
  where
    none : (m : ℕ) → m ≤ length text → is_punctuator (take m text) ≡ true → m ≤ 4 → ⊥
    none zero fits e le = false≢true e
    none (suc zero) fits e le = a (fits, e)
    none (suc (suc zero)) fits e le = b (fits, e)
    none (suc (suc (suc zero))) fits e le = c (fits, e)
    none (suc (suc (suc (suc zero)))) fits e le = d (fits, e)
    none (suc (suc (suc (suc (suc m))))) fits e le = absurd (omega arith)

-- No longer punctuator begins the text, if none of each length up to four does.
pub above_two : (text : List ℕ) → (Begun text 4 → ⊥) → (Begun text 3 → ⊥) → (m : ℕ) → 2 < m → m ≤ 4 → Begun text m → ⊥
above_two text d c m a b h = cases (cases_lt m 4)
  where
    cases : (m < 4) ⊎ (4 ≤ m) → ⊥
    cases (inl l) = let e : m ≡ 3 = omega arith in c (rw e at h)
    cases (inr l) = let e : m ≡ 4 = omega arith in d (rw e at h)

pub above_one : (text : List ℕ) → (Begun text 4 → ⊥) → (Begun text 3 → ⊥) → (Begun text 2 → ⊥) → (m : ℕ) → 1 < m → m ≤ 4 → Begun text m → ⊥
above_one text d c b m a le h = cases (cases_lt m 3)
  where
    cases : (m < 3) ⊎ (3 ≤ m) → ⊥
    cases (inl l) = let e : m ≡ 2 = omega arith in b (rw e at h)
    cases (inr l) = above_two text d c m (omega arith) le h
