use Rattle.std.proofs.Common.{◌≡◌, ℕ, inl, inr, ◌⊎◌, ◌<◌, arith}
use Rattle.std.proofs.lemmas.List.{take_rest}
use Rattle.pptext.proofs.LanguagePrefixes.{lacks, only_zero, no_universal, universal_unless, universal_of}
use Rattle.pptext.specs.Spellings.{IsUniversal}
use Rattle.pptext.proofs.scanning.universal_len.Goals as goal

pub returns-then-digits-eq0 : goal.returns-then-digits-eq0
returns-then-digits-eq0 c = only_zero IsUniversal c.args.text.now (no_universal c.args.text.now (c.universal_digits-digits.ensures.none c.if-digits-eq0.true))

some_values : (d : ℕ) → (d ≡ 0) ⊎ ((d ≡ 4) ⊎ (d ≡ 8)) → (d ≡ 0 → ⊥) → (d ≡ 4) ⊎ (d ≡ 8)
some_values d (inl z) h = absurd (h z)
some_values d (inr v) h = v

nonzero : (d : ℕ) → (d ≡ 0 → ⊥) → 0 < d
nonzero d h = grind arith

pub returns-then-not-begins_with_hexes : goal.returns-then-not-begins_with_hexes
returns-then-not-begins_with_hexes c =
    let text = c.args.text.now in
    let e = c.universal_digits-digits.ensures in
    universal_unless text c.universal_digits-digits.result (record { short = e.short; long = e.long; values = some_values _ e.values c.if-digits-eq0.false })
    (λ h. lacks _ c.if-not-begins_with_hexes.true (simp take_rest at (c.begins_with_hexes.ensures.1)) h)

pub returns : goal.returns
returns c =
    let text = c.args.text.now in
    let e = c.universal_digits-digits.ensures in
    universal_of text c.universal_digits-digits.result (record { short = e.short; long = e.long; values = some_values _ e.values c.if-digits-eq0.false })
    ((simp take_rest at c.begins_with_hexes.ensures.0) c.if-not-begins_with_hexes.false) (e.begins (nonzero _ c.if-digits-eq0.false))
