use Rattle.std.proofs.Common.{◌≡◌, ℕ, ◌<◌, ◌≤◌, List, [], ◌∷◌, length, take, get_or, inl, inr, refl, ap, arith}
use Rattle.std.proofs.lemmas.Bool.Decides.{nat_tests}
use Rattle.pptext.specs.code.Scanning.{OnlyPart}
use Rattle.pptext.proofs.LanguagePrefixes.{lacks, only_some, only_zero}
use Rattle.pptext.proofs.Literals.{IsLetter, StrOpening, StrOpens, letter-no_quote, str_letter_opens, str_opens, u8_opens}
use Rattle.pptext.proofs.scanning.literals.str_opening_len.Goals as goal

-- nothing that opens a string literal begins here
opens_none : (text : List ℕ) → ((m : ℕ) → m ≤ length text → StrOpens text m → ⊥) → OnlyPart StrOpening text 0
opens_none text none = only_zero StrOpening text (λ m fits prefix. none m fits (str_opens text m fits prefix))

nothing_here : (text : List ℕ) → length text ≡ 0 → (m : ℕ) → m ≤ length text → StrOpens text m → ⊥
nothing_here text empty m fits (inl o) = let one = o.0 in omega arith
nothing_here text empty m fits (inr (inl o)) = let two = o.0 in omega arith
nothing_here text empty m fits (inr (inr o)) = let three = o.0 in omega arith

no_letter : (text : List ℕ) → (get_or text 0 0 ≡ 34 → ⊥) → (IsLetter (get_or text 0 0) → ⊥) → (m : ℕ) → StrOpens text m → ⊥
no_letter text other none m (inl o) = other o.1
no_letter text other none m (inr (inl o)) = none o.1
no_letter text other none m (inr (inr o)) = none (inl o.1)

too_short : (text : List ℕ) → (get_or text 0 0 ≡ 34 → ⊥) → length text < 2 → (m : ℕ) → m ≤ length text → StrOpens text m → ⊥
too_short text other short m fits (inl o) = other o.1
too_short text other short m fits (inr (inl o)) = let two = o.0 in omega arith
too_short text other short m fits (inr (inr o)) = let three = o.0 in omega arith

-- the text begins with `u8` and a double quote
abbrev IsU8 : List ℕ → Type 0
IsU8 text = (3 ≤ length text) × (get_or text 0 0 ≡ 117) × (get_or text 1 0 ≡ 56) × (get_or text 2 0 ≡ 34)

no_quote : (text : List ℕ) → (get_or text 0 0 ≡ 34 → ⊥) → (get_or text 1 0 ≡ 34 → ⊥) → (IsU8 text → ⊥) → (m : ℕ) → m ≤ length text → StrOpens text m → ⊥
no_quote text other second none m fits (inl o) = other o.1
no_quote text other second none m fits (inr (inl o)) = second o.2
no_quote text other second none m fits (inr (inr o)) = let three = o.0 in none (omega arith, o.1, o.2, o.3)

-- The quote alone opens a string literal.
quote_opens : (text : List ℕ) → 0 < length text → get_or text 0 0 ≡ 34 → OnlyPart StrOpening text 1
quote_opens text lt e = only_some StrOpening text 1 (record {
  positive = omega arith;
  fits = omega arith;
  part = begins text lt e;
  only = λ m fits o. same m (str_opens text m fits o);
})
  where
    begins : (t : List ℕ) → 0 < length t → get_or t 0 0 ≡ 34 → StrOpening (take 1 t)
    begins [] l f = absurd (omega arith)
    begins (x ∷ t) l f = ([], x ∷ [], refl, (0, omega arith, refl), ap (λ z. z ∷ []) f)

    same : (m : ℕ) → StrOpens text m → m ≡ 1
    same m (inl a) = a.0
    same m (inr (inl a)) = absurd (letter-no_quote (get_or text 0 0) 34 a.1 e (omega arith))
    same m (inr (inr a)) = absurd (letter-no_quote (get_or text 0 0) 34 (inl a.1) e (omega arith))

pub returns-then-is_empty : goal.returns-then-is_empty
returns-then-is_empty c = opens_none c.args.text.now (nothing_here c.args.text.now (grind (arith, nat_tests)))

pub returns-then-text-eq34 : goal.returns-then-text-eq34
returns-then-text-eq34 c = quote_opens c.args.text.now (grind (arith, nat_tests)) c.if-text-eq34.true

pub returns-then-not-is_prefix : goal.returns-then-not-is_prefix
returns-then-not-is_prefix c =
    opens_none c.args.text.now (λ m fits o. no_letter c.args.text.now c.if-text-eq34.false (lacks c.is_prefix.result c.if-not-is_prefix.true c.is_prefix.ensures.1) m o)

pub returns-then-text-lt2 : goal.returns-then-text-lt2
returns-then-text-lt2 c = opens_none c.args.text.now (too_short c.args.text.now c.if-text-eq34.false c.if-text-lt2.true)

pub returns-then-text-eq34-2 : goal.returns-then-text-eq34-2
returns-then-text-eq34-2 c = str_letter_opens c.args.text.now c.if-text-lt2.false (c.is_prefix.ensures.0 c.if-not-is_prefix.false) c.if-text-eq34-2.true

pub returns-then-opens_u8 : goal.returns-then-opens_u8
returns-then-opens_u8 c =
    let h = c.opens_u8.ensures.0 c.if-opens_u8.true in
    u8_opens c.args.text.now h.0 h.1 h.2 h.3

pub returns : goal.returns
returns c =
    opens_none c.args.text.now (no_quote c.args.text.now c.if-text-eq34.false c.if-text-eq34-2.false (lacks c.opens_u8.result c.if-opens_u8.false c.opens_u8.ensures.1))
