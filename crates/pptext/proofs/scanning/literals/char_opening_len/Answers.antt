use Rattle.std.proofs.Common.{◌≡◌, ℕ, ◌<◌, ◌≤◌, List, [], ◌∷◌, length, take, get_or, inl, inr, refl, ap, arith}
use Rattle.std.proofs.lemmas.Bool.Decides.{nat_tests}
use Rattle.pptext.specs.code.Scanning.{OnlyPart}
use Rattle.pptext.proofs.LanguagePrefixes.{lacks, only_some, only_zero}
use Rattle.pptext.proofs.Literals.{CharOpening, CharOpens, IsLetter, char_letter_opens, char_opens, letter-no_quote}
use Rattle.pptext.proofs.scanning.literals.char_opening_len.Goals as goal

-- nothing that opens a character constant begins here
opens_none : (text : List ℕ) → ((m : ℕ) → m ≤ length text → CharOpens text m → ⊥) → OnlyPart CharOpening text 0
opens_none text none = only_zero CharOpening text (λ m fits prefix. none m fits (char_opens text m fits prefix))

nothing_here : (text : List ℕ) → length text ≡ 0 → (m : ℕ) → m ≤ length text → CharOpens text m → ⊥
nothing_here text empty m fits (inl o) = let one = o.0 in omega arith
nothing_here text empty m fits (inr o) = let two = o.0 in omega arith

no_letter : (text : List ℕ) → (get_or text 0 0 ≡ 39 → ⊥) → (IsLetter (get_or text 0 0) → ⊥) → (m : ℕ) → CharOpens text m → ⊥
no_letter text other none m (inl o) = other o.1
no_letter text other none m (inr o) = none o.1

no_quote : (text : List ℕ) → (get_or text 0 0 ≡ 39 → ⊥) → (get_or text 1 0 ≡ 39 → ⊥) → (m : ℕ) → CharOpens text m → ⊥
no_quote text other none m (inl o) = other o.1
no_quote text other none m (inr o) = none o.2

too_short : (text : List ℕ) → (get_or text 0 0 ≡ 39 → ⊥) → length text < 2 → (m : ℕ) → m ≤ length text → CharOpens text m → ⊥
too_short text other short m fits (inl o) = other o.1
too_short text other short m fits (inr o) = let two = o.0 in omega arith

pub returns-then-is_empty : goal.returns-then-is_empty
returns-then-is_empty c = opens_none c.args.text.now (nothing_here c.args.text.now (grind (arith, nat_tests)))

-- The quote alone opens a character constant.
quote_opens : (text : List ℕ) → 0 < length text → get_or text 0 0 ≡ 39 → OnlyPart CharOpening text 1
quote_opens text lt e = only_some CharOpening text 1 (record {
  positive = omega arith;
  fits = omega arith;
  part = begins text lt e;
  only = λ m fits o. same m (char_opens text m fits o);
})
  where
    begins : (t : List ℕ) → 0 < length t → get_or t 0 0 ≡ 39 → CharOpening (take 1 t)
    begins [] l f = absurd (omega arith)
    begins (x ∷ t) l f = ([], x ∷ [], refl, (0, omega arith, refl), ap (λ z. z ∷ []) f)

    same : (m : ℕ) → CharOpens text m → m ≡ 1
    same m (inl a) = a.0
    same m (inr a) = absurd (letter-no_quote (get_or text 0 0) 39 a.1 e (omega arith))

pub returns-then-text-eq39 : goal.returns-then-text-eq39
returns-then-text-eq39 c = quote_opens c.args.text.now (grind (arith, nat_tests)) c.if-text-eq39.true

pub returns-then-not-is_prefix : goal.returns-then-not-is_prefix
returns-then-not-is_prefix c = opens_none c.args.text.now (λ m fits o. no_letter c.args.text.now c.if-text-eq39.false (lacks c.is_prefix.result c.if-not-is_prefix.true c.is_prefix.ensures.1) m o)

pub returns-then-text-lt2 : goal.returns-then-text-lt2
returns-then-text-lt2 c = opens_none c.args.text.now (too_short c.args.text.now c.if-text-eq39.false c.if-text-lt2.true)

pub returns-then-text-eq39-2 : goal.returns-then-text-eq39-2
returns-then-text-eq39-2 c = char_letter_opens c.args.text.now c.if-text-lt2.false (c.is_prefix.ensures.0 c.if-not-is_prefix.false) c.if-text-eq39-2.true

pub returns : goal.returns
returns c = opens_none c.args.text.now (λ m fits o. no_quote c.args.text.now c.if-text-eq39.false c.if-text-eq39-2.false m o)
