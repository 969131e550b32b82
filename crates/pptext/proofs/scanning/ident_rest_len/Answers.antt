use Rattle.std.proofs.Common.{ℕ, drop, sym, ◌∙◌, ap, ◌||◌, Bool, refl}
use Rattle.std.proofs.lemmas.List.{take_rest}
use Rattle.pptext.specs.code.Scanning.{OnlyPart}
use Rattle.pptext.specs.Spellings.{IsUniversal, is_nondigit, is_digit}
use Rattle.pptext.proofs.LanguagePrefixes.{only_zero, universal_lacks, completed, completed_next, completed_all, head_at, room_at, end_at}
use Rattle.pptext.proofs.WordParts.{IdentPart, ident_byte, ident_universal, ident_end}
use Rattle.pptext.proofs.scanning.ident_rest_len.Goals as goal

abbrev ident_byte_test : ℕ → Bool
ident_byte_test c = is_nondigit c || is_digit c

pub loop-at-preserved-then-is_ident_byte : goal.loop-at-preserved-then-is_ident_byte
loop-at-preserved-then-is_ident_byte c =
    let text = c.args.text.now in
    let at = c.loop-at.at in
    let next = ident_byte (drop at text) (room_at text at c.loop-at-test.true) (ap ident_byte_test (head_at text at) ∙ (sym c.is_ident_byte.ensures ∙ c.if-is_ident_byte.true)) in
    let done = completed IdentPart text at 1 c.loop-at.invariant.within c.loop-at.invariant.completes next in
    record { within = done.0; completes = done.1 }

pub returns-then-text-at-ne92-clause-longest : goal.returns-then-text-at-ne92-clause-longest
returns-then-text-at-ne92-clause-longest c =
    let text = c.args.text.now in
    let at = c.loop-at.at in
    let p : OnlyPart IsUniversal (drop at text) 0 = only_zero IsUniversal (drop at text) (universal_lacks (drop at text) (λ e. c.if-text-at-ne92.true (sym (head_at text at) ∙ e))) in
    let next = ident_universal (drop at text) 0 (ap ident_byte_test (head_at text at) ∙ (sym c.is_ident_byte.ensures ∙ c.if-is_ident_byte.false)) p in
    completed_all IdentPart text at c.loop-at.invariant.completes (next.0 refl)

pub returns-then-n-eq0-clause-longest : goal.returns-then-n-eq0-clause-longest
returns-then-n-eq0-clause-longest c =
    let text = c.args.text.now in
    let at = c.loop-at.at in
    let p : OnlyPart IsUniversal (drop at text) c.universal_len-n.result = simp take_rest at c.universal_len-n.ensures in
    let next = ident_universal (drop at text) c.universal_len-n.result (ap ident_byte_test (head_at text at) ∙ (sym c.is_ident_byte.ensures ∙ c.if-is_ident_byte.false)) p in
    completed_all IdentPart text at c.loop-at.invariant.completes (next.0 c.if-n-eq0.true)

pub loop-at-preserved : goal.loop-at-preserved
loop-at-preserved c =
    let text = c.args.text.now in
    let at = c.loop-at.at in
    let p : OnlyPart IsUniversal (drop at text) c.universal_len-n.result = simp take_rest at c.universal_len-n.ensures in
    let next = ident_universal (drop at text) c.universal_len-n.result (ap ident_byte_test (head_at text at) ∙ (sym c.is_ident_byte.ensures ∙ c.if-is_ident_byte.false)) p in
    let done = completed_next IdentPart text at c.universal_len-n.result c.loop-at.invariant.within c.loop-at.invariant.completes next c.if-n-eq0.false in
    record { within = done.0; completes = done.1 }

pub returns-clause-longest : goal.returns-clause-longest
returns-clause-longest c =
    let text = c.args.text.now in
    let at = c.loop-at.at in
    completed_all IdentPart text at c.loop-at.invariant.completes (ident_end (drop at text) (end_at text at c.loop-at-test.false))
