use Rattle.std.proofs.Common.{drop, length, ◌-◌, arith, length-drop}
use Rattle.std.proofs.lemmas.List.{take_rest}
use Rattle.pptext.specs.code.Scanning.{OnlyPart}
use Rattle.pptext.specs.Spellings.{IsUniversal}
use Rattle.pptext.proofs.TokenContinuation.{name_is}
use Rattle.pptext.proofs.scanning.continuing.ends_in_name_of.Goals as goal

pub returns : goal.returns
returns c =
    let text = c.args.text.now in
    let last = drop (length text - c.args.len) text in
    let only : OnlyPart IsUniversal last c.universal_len.result = simp take_rest at c.universal_len.ensures in
    let count = length-drop (length text - c.args.len) text in
    let h = name_is last c.universal_len.result c.args.len only c.requires (omega arith) in
    (λ e. (omega arith, h.0 e), λ u. h.1 u.1)
