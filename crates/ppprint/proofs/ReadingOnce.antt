-- A text with line markers is read in one way.
use Rattle.std.proofs.Common.{◌≡◌, ℕ, suc, ◌<◌, ◌^◌, Bool, true, false, List, [], ◌∷◌, ◌++◌, map, codes, decimal, refl, sym, ap, ◌∙◌, subst, arith}
use Rattle.std.specs.Prelude.{Contains}
use Rattle.std.proofs.lemmas.Bool.{false≢true}
use Rattle.std.proofs.lemmas.Fmt.{decimal_injective}
use Rattle.pptext.specs.declared.sources.Profile.{Profile}
use Rattle.pptext.specs.declared.tokens.Kind.{Kind}
use Rattle.pptext.specs.declared.tokens.Kind.TheVariants.{Ident, Number, Str, Punct}
use Rattle.pptext.specs.Clean.{with_locations}
use Rattle.pptext.proofs.TokenizationUniqueness.{one_tokenization}
use Rattle.ppprint.specs.Apart.{Written}
use Rattle.ppprint.specs.Shown.{Location}
use Rattle.ppprint.specs.Reads.{Reading, ReadsPragma, ReadsToken, HasTokens, tokens_of_lexemes, token, marked, turns, next_line, ReadsLine, Reads}

pub one_tokens : (profile : Profile) (text : List ℕ) (a b : List Written) → HasTokens profile text a → HasTokens profile text b → a ≡ b
one_tokens profile text a b h k = h.tokens_are ∙ (ap tokens_of_lexemes (one_tokenization profile (with_locations 0 1 1 (text ++ 10 ∷ [])) h.lexemes k.lexemes h.tokenizes k.tokenizes) ∙ sym k.tokens_are)

-- what a line says, and the location of the next one
abbrev Result : Type 0
Result = List Reading × Location

abbrev marker_result : ℕ → List ℕ → List Written → Result
marker_result number name flags = (turns flags (marked number name flags), marked number name flags)

-- the parts of a marker's tokens
abbrev second_text : List Written → List ℕ
second_text [] = []
second_text (a ∷ []) = []
second_text (a ∷ b ∷ ts) = b.text

abbrev third_text : List Written → List ℕ
third_text [] = []
third_text (a ∷ ts) = second_text ts

abbrev after_third : List Written → List Written
after_third [] = []
after_third (a ∷ []) = []
after_third (a ∷ b ∷ []) = []
after_third (a ∷ b ∷ c ∷ ts) = ts

abbrev after_second : List Written → List Written
after_second [] = []
after_second (a ∷ []) = []
after_second (a ∷ b ∷ ts) = ts

abbrev is_number_kind : Kind → Bool
is_number_kind Number = true
is_number_kind k = false

abbrev second_is_number : List Written → Bool
second_is_number [] = false
second_is_number (a ∷ []) = false
second_is_number (a ∷ b ∷ ts) = is_number_kind b.kind

abbrev marker_tokens : ℕ → List ℕ → List Written → List Written
marker_tokens m x f = token Punct (codes "#") ∷ token Number (decimal m) ∷ token Str x ∷ f

same_result : (m n : ℕ) (x y : List ℕ) (f g : List Written) → m ≡ n → x ≡ y → f ≡ g → marker_result m x f ≡ marker_result n y g
same_result m n x y f g a b c = ap (λ z. marker_result z x f) a ∙ (ap (λ z. marker_result n z f) b ∙ ap (λ z. marker_result n y z) c)

same_marker : (m n : ℕ) (x y : List ℕ) (f g : List Written) → m < 2 ^ 64 → n < 2 ^ 64 → marker_tokens m x f ≡ marker_tokens n y g → marker_result m x f ≡ marker_result n y g
same_marker m n x y f g p q e = same_result m n x y f g (decimal_injective m n p q (ap second_text e)) (ap third_text e) (ap after_third e)

no_pragma : (m : ℕ) (x : List ℕ) (f ts : List Written) → marker_tokens m x f ≡ token Punct (codes "#") ∷ token Ident (codes "pragma") ∷ ts → ⊥
no_pragma m x f ts e = false≢true (sym (ap second_is_number e))

pub one_line : (profile : Profile) (at : Location) (text : List ℕ) (a b : List Reading) (m n : Location) → ReadsLine profile at text a m → ReadsLine profile at text b n → ◌≡◌ {A = Result} (a, m) (b, n)
one_line profile at text a b m n (ReadsLine.marker {number = i} {name = x} {flags = f} p h t) (ReadsLine.marker {number = j} {name = y} {flags = g} q k u) =
    same_marker i j x y f g p q (one_tokens profile text _ _ t u)
one_line profile at text a b m n (ReadsLine.marker {number = i} {name = x} {flags = f} p h t) (ReadsLine.pragma {tokens = ts} k u) = absurd (no_pragma i x f ts (one_tokens profile text _ _ t u))
one_line profile at text a b m n (ReadsLine.marker p h t) (ReadsLine.tokens k u) = absurd (k h)
one_line profile at text a b m n (ReadsLine.pragma {tokens = ts} h t) (ReadsLine.marker {number = i} {name = x} {flags = f} p k u) = absurd (no_pragma i x f ts (one_tokens profile text _ _ u t))
one_line profile at text a b m n (ReadsLine.pragma {tokens = ts} h t) (ReadsLine.pragma {tokens = us} k u) =
    ap (λ z. (ReadsPragma at z ∷ [], next_line at)) (ap after_second (one_tokens profile text _ _ t u))
one_line profile at text a b m n (ReadsLine.pragma h t) (ReadsLine.tokens k u) = absurd (k h)
one_line profile at text a b m n (ReadsLine.tokens h t) (ReadsLine.marker p k u) = absurd (h k)
one_line profile at text a b m n (ReadsLine.tokens h t) (ReadsLine.pragma k u) = absurd (h k)
one_line profile at text a b m n (ReadsLine.tokens {tokens = ts} h t) (ReadsLine.tokens {tokens = us} k u) = ap (λ z. (map (ReadsToken at) z, next_line at)) (one_tokens profile text ts us t u)

-- ---- the lines of a text

holds_first : (c : ℕ) (cs : List ℕ) → Contains (c ∷ cs) c
holds_first c cs = (0, omega arith, refl)

-- A text is divided into its first line and the rest in one way.
pub one_division : (a b r s : List ℕ) → (¬ Contains a 10) → (¬ Contains b 10) → a ++ 10 ∷ r ≡ b ++ 10 ∷ s → (a ≡ b) × (r ≡ s)
one_division [] [] r s h k e = (refl, cc)
one_division [] (c ∷ b) r s h k e = absurd (k (subst (λ z. Contains (z ∷ b) 10) (let same : ◌≡◌ {A = ℕ} 10 c = cc in same) (holds_first 10 b)))
one_division (c ∷ a) [] r s h k e = absurd (h (subst (λ z. Contains (z ∷ a) 10) (let same : ◌≡◌ {A = ℕ} 10 c = cc in same) (holds_first 10 a)))
one_division (c ∷ a) (d ∷ b) r s h k e =
    let later = one_division a b r s (λ x. h (more c a x)) (λ x. k (more d b x)) cc in
    (let head : c ≡ d = cc in let tail = later.0 in cc, later.1)
  where
    more : (x : ℕ) (xs : List ℕ) → Contains xs 10 → Contains (x ∷ xs) 10
    more x xs (i, lt, e) = (suc i, omega arith, e)

no_text : (line rest : List ℕ) → [] ≡ line ++ 10 ∷ rest → ⊥
no_text [] rest e = cc
no_text (c ∷ line) rest e = cc

pub reads_once : (profile : Profile) (at : Location) (text : List ℕ) (r s : List Reading) → Reads profile at text r → Reads profile at text s → r ≡ s
reads_once profile at text r s a b = go at text r a text s refl b
  where
    go : (at : Location) (text : List ℕ) (r : List Reading) → Reads profile at text r → (other : List ℕ) (s : List Reading) → text ≡ other → Reads profile at other s → r ≡ s
    go at _ _ Reads.nothing _ _ e Reads.nothing = refl
    go at _ _ Reads.nothing _ _ e (Reads.line {line = l} {rest = x} n h k) = absurd (no_text l x e)
    go at _ _ (Reads.line {line = l} {rest = x} n h k) _ _ e Reads.nothing = absurd (no_text l x (sym e))
    go at _ _ (Reads.line {next = m} {line = l} {rest = x} {first = f} {others = o} n h k) _ _ e (Reads.line {next = m'} {line = l'} {rest = x'} {first = f'} {others = o'} n' h' k') =
        let same = one_division l l' x x' n n' e in
        let first = one_line profile at l f f' m m' h (subst (λ z. ReadsLine profile at z f' m') (sym same.0) h') in
        let place : m' ≡ m = ap (λ (z : Result). z.1) (sym first) in
        let others : o ≡ o' = go m x o k x' o' same.1 (subst (λ z. Reads profile z x' o') place k') in
        ap (λ (z : Result). z.0 ++ o) first ∙ ap (λ z. f' ++ z) others
