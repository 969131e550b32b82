use Rattle.std.proofs.Common.{◌≡◌, ◌-◌, ◌<◌, length, drop, get_or, true, arith, sym, ◌∙◌}
use Rattle.std.proofs.lemmas.Bool.{false≢true}
use Rattle.std.proofs.lemmas.List.{take_rest}
use Rattle.pptext.proofs.LanguagePrefixes.{only_zero, then_none_first, then_lacks_rest, then_found}
use Rattle.pptext.proofs.Literals.{CharOpening, char_const_part, CharRest, char_rest_lacks, char_rest_only, char_rest_empty}
use Rattle.pptext.proofs.scanning.literals.char_const_len.Goals as goal

pub returns-then-opening-eq0-clause-part : goal.returns-then-opening-eq0-clause-part
returns-then-opening-eq0-clause-part c =
    char_const_part c.args.text.now 0 (then_none_first CharOpening CharRest c.args.text.now c.char_opening_len-opening.result c.char_opening_len-opening.ensures c.if-opening-eq0.true)

pub returns-then-begins_with_byte-clause-part : goal.returns-then-begins_with_byte-clause-part
returns-then-begins_with_byte-clause-part c =
    let text = c.args.text.now in
    let opening = c.char_opening_len-opening.result in
    let some : 0 < opening = omega arith in
    let empty : (0 < length (drop opening text)) × (get_or (drop opening text) 0 0 ≡ 39) = simp take_rest at (c.begins_with_byte.ensures.0 c.if-begins_with_byte.true) in
    char_const_part text 0 (only_zero _ text (then_lacks_rest CharOpening CharRest text opening (c.char_opening_len-opening.ensures.1 some) (char_rest_empty (drop opening text) empty.1)))

pub returns-clause-part : goal.returns-clause-part
returns-clause-part c =
    let text = c.args.text.now in
    let opening = c.char_opening_len-opening.result in
    let full : (0 < length (drop opening text)) × (get_or (drop opening text) 0 0 ≡ 39) → c.begins_with_byte.result ≡ true = simp take_rest at c.begins_with_byte.ensures.1 in
    char_const_part text c.literal_len.result
    (then_found CharOpening CharRest text opening c.literal_len.result c.char_opening_len-opening.ensures c.if-opening-eq0.false
    (λ z. char_rest_lacks (drop opening text) (c.literal_len.ensures.none z))
    (λ s. let f = c.literal_len.ensures.some s in
    (f.0, char_rest_only (drop opening text) (c.literal_len.result - opening) (λ h. false≢true (sym c.if-begins_with_byte.false ∙ full h)) f.1)))
