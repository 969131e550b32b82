use Rattle.std.proofs.Common.{List, ap, subst, sym, ◌∙◌, Ok}
use Rattle.pptext.specs.declared.characters.Char.{Char}
use Rattle.pptext.specs.code.CleanedText.{HasLineNotes}
use Rattle.pptext.proofs.CleanedCopies.{clean_err, clean_ok, own_whole}
use Rattle.pptext.proofs.cleaning.clean_text.Goals as goal

pub new-requires-clause-is_cleaned : goal.new-requires-clause-is_cleaned
new-requires-clause-is_cleaned c =
    let counted = subst (HasLineNotes c.args.profile c.without_bom-raw.result.now) c.in-Ok-eq0.field-0-test c.in-Ok-eq0.ensures in
    own_whole c.args.profile c.without_bom-raw.result.now counted (sym c.lacks_newline-supplied.ensures ∙ c.if-not-supplied.true)

pub returns-in-Ok-eq0 : goal.returns-in-Ok-eq0
returns-in-Ok-eq0 c =
    clean_ok c.args.profile c.args.file c.args.bytes.now c.without_bom-raw.result.now c.without_bom-raw.ensures (c.in-Ok-eq0.ensures.ends c.args.file) ∙ sym (ap (λ (t : List Char). Ok t) c.new.ensures)

pub returns-in_ok-cleaned-in-Ok : goal.returns-in_ok-cleaned-in-Ok
returns-in_ok-cleaned-in-Ok c =
    clean_ok c.args.profile c.args.file c.args.bytes.now c.without_bom-raw.result.now c.without_bom-raw.ensures (c.in-Ok.ensures.ends c.args.file) ∙ sym (ap (λ (t : List Char). Ok t) c.new-in-Ok.ensures)

pub returns-in-Err : goal.returns-in-Err
returns-in-Err c = clean_err c.args.profile c.args.file c.args.bytes.now c.without_bom-raw.result.now c.place_after.result c.without_bom-raw.ensures (rw c.place_after.ensures (c.in-Err.ensures.ends c.args.file))
