use Rattle.std.proofs.Common.{◌≡◌, ℕ, ◌<◌, true, false, List, [], ◌∷◌, length, drop, get_or, sym, ◌∙◌, arith, length-drop}
use Rattle.std.proofs.lemmas.Bool.Decides.{nat_tests}
use Rattle.pptext.specs.Languages.{Exactly, One}
use Rattle.pptext.specs.code.Scanning.{OnlyPart}
use Rattle.pptext.specs.Spellings.{IsElement}
use Rattle.pptext.proofs.LanguagePrefixes.{either_lacks, either_left, one_empty, one_here, one_lacks, only_some, only_zero, exactly_here, exactly_lacks, one_begins, then_lacks, then_lacks_rest}
use Rattle.pptext.proofs.Literals.{Escape, escape_here, escape_lacks, escaped, plain, quote_lacks}
use Rattle.pptext.proofs.scanning.literals.element_len.Goals as goal

plain-other : (quote c : ℕ) → (c ≡ quote → ⊥) → (c ≡ 92 → ⊥) → (c ≡ 10 → ⊥) → plain quote c ≡ true
plain-other quote c other no_backslash no_newline = grind (arith, nat_tests)

plain-no_newline : (quote c : ℕ) → c ≡ 10 → plain quote c ≡ false
plain-no_newline quote c e = grind (arith, nat_tests)

plain-no_backslash : (quote c : ℕ) → c ≡ 92 → plain quote c ≡ false
plain-no_backslash quote c e = grind (arith, nat_tests)

-- without a backslash no escape begins
no_escape : (quote : ℕ) (text : List ℕ) → plain quote (get_or text 0 0) ≡ false → (get_or text 0 0 ≡ 92 → ⊥) → OnlyPart (IsElement quote) text 0
no_escape quote text none no_backslash =
    only_zero (IsElement quote) text
    (either_lacks (One (plain quote)) Escape text (one_lacks (plain quote) text none) (then_lacks (Exactly (92 ∷ [])) (One escaped) text (exactly_lacks 92 [] text no_backslash)))

nothing_here : (quote : ℕ) (text : List ℕ) → length text ≡ 0 → OnlyPart (IsElement quote) text 0
nothing_here quote [] empty =
    only_zero (IsElement quote) []
    (either_lacks (One (plain quote)) Escape [] (one_empty (plain quote) [] empty) (then_lacks (Exactly (92 ∷ [])) (One escaped) [] (exactly_lacks 92 [] [] (λ e. absurd (omega arith)))))
nothing_here quote (c ∷ text) empty = absurd (omega arith)

plain_here : (quote : ℕ) (text : List ℕ) → 0 < length text → plain quote (get_or text 0 0) ≡ true → (get_or text 0 0 ≡ 92 → ⊥) → OnlyPart (IsElement quote) text 1
plain_here quote text lt own no_backslash =
    only_some (IsElement quote) text 1
    (either_left (One (plain quote)) Escape text 1 (one_here (plain quote) text lt own) (then_lacks (Exactly (92 ∷ [])) (One escaped) text (exactly_lacks 92 [] text no_backslash)))

-- A backslash with nothing after it begins no element.
escape_cut : (quote : ℕ) (text : List ℕ) → length text ≡ 1 → get_or text 0 0 ≡ 92 → OnlyPart (IsElement quote) text 0
escape_cut quote text one e =
    let l = length-drop 1 text in
    only_zero (IsElement quote) text
    (either_lacks (One (plain quote)) Escape text (one_lacks (plain quote) text (plain-no_backslash quote (get_or text 0 0) e))
    (then_lacks_rest (Exactly (92 ∷ [])) (One escaped) text 1 (exactly_here (92 ∷ []) text (omega arith) (one_begins text 92 (omega arith) e) (omega arith)) (one_empty escaped (drop 1 text) (omega arith))))

pub returns-then-is_empty : goal.returns-then-is_empty
returns-then-is_empty c = nothing_here c.args.quote c.args.text.now (grind (arith, nat_tests))

pub returns-then-text-quote : goal.returns-then-text-quote
returns-then-text-quote c = only_zero (IsElement c.args.quote) c.args.text.now (quote_lacks c.args.quote c.args.text.now c.requires c.if-text-quote.true)

pub returns-then-text-eq10 : goal.returns-then-text-eq10
returns-then-text-eq10 c =
    no_escape c.args.quote c.args.text.now (plain-no_newline c.args.quote (get_or c.args.text.now 0 0) c.if-text-eq10.true) (λ e. let both : ◌≡◌ {A = ℕ} 92 10 = sym e ∙ c.if-text-eq10.true in absurd (omega arith))

pub returns-then-text-ne92 : goal.returns-then-text-ne92
returns-then-text-ne92 c =
    plain_here c.args.quote c.args.text.now (grind (arith, nat_tests)) (plain-other c.args.quote (get_or c.args.text.now 0 0) c.if-text-quote.false c.if-text-ne92.true c.if-text-eq10.false) c.if-text-ne92.true

pub returns-then-text-lt2 : goal.returns-then-text-lt2
returns-then-text-lt2 c =
    let some : 0 < length c.args.text.now = grind (arith, nat_tests) in
    escape_cut c.args.quote c.args.text.now (omega arith) (omega arith)

pub returns-then-text-eq10-2 : goal.returns-then-text-eq10-2
returns-then-text-eq10-2 c =
    let e : get_or c.args.text.now 0 0 ≡ 92 = omega arith in
    escape_lacks c.args.quote c.args.text.now c.if-text-lt2.false e c.if-text-eq10-2.true

pub returns : goal.returns
returns c =
    let e : get_or c.args.text.now 0 0 ≡ 92 = omega arith in
    escape_here c.args.quote c.args.text.now c.if-text-lt2.false e c.if-text-eq10-2.false
