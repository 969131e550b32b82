-- Tokens that are recognized by their first byte.
use Rattle.std.proofs.Common.{◌≡◌, ℕ, zero, suc, ◌<◌, ◌≤◌, Bool, true, false, not, ◌||◌, ◌==◌, List, [], ◌∷◌, length, take, refl, subst, inl, inr, ◌⊎◌, arith, get_or}
use Rattle.std.proofs.lemmas.Bool.{false≢true, and_parts}
use Rattle.std.proofs.lemmas.Bool.Decides.{nat_tests}
use Rattle.pptext.specs.declared.sources.Profile.{Profile}
use Rattle.pptext.specs.declared.tokens.Kind.{Kind}
use Rattle.pptext.specs.declared.tokens.Kind.TheVariants.{Ident, Punct}
use Rattle.pptext.specs.Languages.{Longest}
use Rattle.pptext.specs.Spellings.{is_nondigit, IsIdent, IsPunct, IsSpelling, Spells, punctuators}
use Rattle.pptext.specs.Lexemes.{Spelled, IsLexemeAt, HeaderAt, OpensBlock, OpensLine}
use Rattle.pptext.specs.code.FoundLexemes.{begins_nothing_longer, starts_identifier}
use Rattle.pptext.proofs.KindUniqueness.{begins, begins_apart, is_ident_head, is_number_head}
use Rattle.pptext.proofs.TokenizationUniqueness.{header_begins, opening_begins}
use Rattle.pptext.proofs.LongestOf.{LiteralHead, ident_longest, punct_longest, ident_lacks, number_lacks, literal_lacks}
use Rattle.pptext.proofs.LongestPunctuator.{any_passes}

-- No comment and no header name begins with this character.
is_light : ℕ → Bool
is_light c = not (c == 47 || (c == 60 || c == 34))

head_begins : (test : ℕ → Bool) (text : List ℕ) → 0 < length text → test (get_or text 0 0) ≡ true → begins test text ≡ true
head_begins test [] some e = absurd (omega arith)
head_begins test (c ∷ cs) some e = e

light-no_slash : (c : ℕ) → is_light c ≡ true → (c == 47) ≡ true → ⊥
unfolding is_light
light-no_slash c e f = grind (arith, nat_tests)

light-no_header : (c : ℕ) → is_light c ≡ true → (c == 60 || c == 34) ≡ true → ⊥
unfolding is_light
light-no_header c e f = grind (arith, nat_tests)

no_comment : (text : List ℕ) → begins is_light text ≡ true → OpensBlock text ⊎ OpensLine text → ⊥
no_comment text e o = begins_apart is_light (λ c. c == 47) light-no_slash text e (opening_begins (λ c. c == 47) refl text o)

no_header : (profile : Profile) (line : List (List ℕ)) (text : List ℕ) → begins is_light text ≡ true → (m : ℕ) → HeaderAt profile line text m → ⊥
no_header profile line text e m h = begins_apart is_light (λ c. c == 60 || c == 34) light-no_header text e (header_begins (λ c. c == 60 || c == 34) refl refl text m h.spelled)

stands : (profile : Profile) (line : List (List ℕ)) (text : List ℕ) (n : ℕ) (k : Kind) → begins is_light text ≡ true → Longest IsSpelling text n → Spells k (take n text) → IsLexemeAt profile line text n (Spelled k)
stands profile line text n k e longest spelled = inr (record { no_comment = no_comment text e; no_header = no_header profile line text e; longest = longest; spelled = spelled })

-- the text is one character, or its first character can begin a longer punctuator
abbrev alone : List ℕ → Bool
alone [] = false
alone (c ∷ []) = true
alone (c ∷ d ∷ cs) = not (begins_nothing_longer c)

closed-open : (c : ℕ) → begins_nothing_longer c ≡ true → not (begins_nothing_longer c) ≡ true → ⊥
closed-open c e f = grind (arith, nat_tests)

closed-light : (c : ℕ) → begins_nothing_longer c ≡ true → is_light c ≡ true
unfolding is_light
closed-light c e = grind (arith, nat_tests)

closed-no_ident : (c : ℕ) → begins_nothing_longer c ≡ true → is_ident_head c ≡ false
closed-no_ident c e = grind (arith, nat_tests)

closed-no_number : (c : ℕ) → begins_nothing_longer c ≡ true → is_number_head c ≡ false
closed-no_number c e = grind (arith, nat_tests)

closed-no_literal : (c : ℕ) → begins_nothing_longer c ≡ true → LiteralHead c → ⊥
closed-no_literal c e h = grind (arith, nat_tests)

closed_longest : (text : List ℕ) (m : ℕ) → begins_nothing_longer (get_or text 0 0) ≡ true → 1 < m → m ≤ length text → IsPunct (take m text) → ⊥
closed_longest text m e more fits p = cases text m e more fits (any_passes alone punctuators (take m text) refl p)
  where
    cases : (cs : List ℕ) (j : ℕ) → begins_nothing_longer (get_or cs 0 0) ≡ true → 1 < j → j ≤ length cs → alone (take j cs) ≡ true → ⊥
    cases [] j e more fits f = omega arith
    cases (c ∷ []) j e more fits f = omega arith
    cases (c ∷ d ∷ cs) zero e more fits f = omega arith
    cases (c ∷ d ∷ cs) (suc zero) e more fits f = omega arith
    cases (c ∷ d ∷ cs) (suc (suc j)) e more fits f = closed-open c e f

one_front : (text : List ℕ) → 0 < length text → IsPunct (get_or text 0 0 ∷ []) → IsPunct (take 1 text)
one_front [] some p = absurd (omega arith)
one_front (c ∷ cs) some p = p

pub closed_stands : (profile : Profile) (line : List (List ℕ)) (text : List ℕ) → 0 < length text → begins_nothing_longer (get_or text 0 0) ≡ true → IsPunct (get_or text 0 0 ∷ []) → IsLexemeAt profile line text 1 (Spelled Punct)
closed_stands profile line text some e p =
    let c : ℕ = get_or text 0 0 in
    let spelled : IsPunct (take 1 text) = one_front text some p in
    let literal = literal_lacks text (closed-no_literal c e) in
    let longest : Longest IsPunct text 1 = record { fits = omega arith; prefix = spelled; longest = λ m more fits q. closed_longest text m e more fits q } in
    stands profile line text 1 Punct (head_begins is_light text some (closed-light c e))
    (punct_longest text 1 (omega arith) longest literal.0 literal.1 (ident_lacks text (closed-no_ident c e)) (number_lacks text (closed-no_number c e))) spelled

-- An identifier whose first character begins no literal.
nondigit-light : (c : ℕ) → is_nondigit c ≡ true → is_light c ≡ true
unfolding is_light
nondigit-light c e = grind (arith, nat_tests)

pub word_stands : (profile : Profile) (line : List (List ℕ)) (text : List ℕ) (n : ℕ)
    → 0 < length text
    → is_nondigit (get_or text 0 0) ≡ true
    → (LiteralHead (get_or text 0 0) → ⊥)
    → 0 < n
    → Longest IsIdent text n
    → IsLexemeAt profile line text n (Spelled Ident)
word_stands profile line text n some e literal positive longest =
    let lacks = literal_lacks text literal in
    stands profile line text n Ident (head_begins is_light text some (nondigit-light (get_or text 0 0) e)) (ident_longest text n positive longest lacks.0 lacks.1) longest.prefix

pub word_nondigit : (c : ℕ) → starts_identifier c ≡ true → is_nondigit c ≡ true
word_nondigit c e = (and_parts (is_nondigit c) (not (c == 117 || (c == 85 || c == 76))) e).0

-- A character that passes `starts_identifier` begins no literal.
pub word_opens_none : (c : ℕ) → starts_identifier c ≡ true → LiteralHead c → ⊥
word_opens_none c e (inl h) = false≢true (subst (λ z. starts_identifier z ≡ true) h e)
word_opens_none c e (inr (inl h)) = false≢true (subst (λ z. starts_identifier z ≡ true) h e)
word_opens_none c e (inr (inr (inl h))) = false≢true (subst (λ z. starts_identifier z ≡ true) h e)
word_opens_none c e (inr (inr (inr (inl h)))) = false≢true (subst (λ z. starts_identifier z ≡ true) h e)
word_opens_none c e (inr (inr (inr (inr h)))) = false≢true (subst (λ z. starts_identifier z ≡ true) h e)
