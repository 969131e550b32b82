use Rattle.std.proofs.Common.{◌≡◌, ◌<◌, ◌≤◌, ◌++◌, map, length, take, drop, ◌∙◌, arith}
use Rattle.std.proofs.lemmas.List.{length-map, length-take-le}
use Rattle.ppexpand.specs.Slices.{slice_tokens}
use Rattle.ppserve.specs.code.Records.{record_of_token, records_of_slices, records_of_last, records_from}
use Rattle.ppserve.proofs.RecordLines.{split_tokens}
use Rattle.ppserve.proofs.line_cursor.LineCursor.next_tokens.Goals as goal

pub returns-clause-yields : goal.returns-clause-yields
returns-clause-yields c =
    let tokens = slice_tokens c.args.self.now.tokens in
    let old = c.args.self.now in
    let later = records_of_slices old.output.mode old.systems old.items ++ (records_of_last old.output.mode old.last ++ records_from old.output.mode (length old.systems) old.next_unit (drop old.next_unit old.output.units.now) (drop old.next_unit old.output.outs.now)) in
    let n = c.min-count.result in
    let within : n ≤ length tokens = omega (arith, c.min-count.ensures, c.len.ensures) in
    let some : 0 < n = omega (arith, c.min-count.ensures, c.len.ensures, c.requires.most, c.requires.tokens) in
    let few : n ≤ c.args.most = omega (arith, c.min-count.ensures) in
    let count : length (map record_of_token (take n tokens)) ≡ n = length-map (take n tokens) record_of_token ∙ length-take-le n tokens within in
    rw (c.split_at.ensures.first, c.split_at.ensures.others)
    (omega (arith, count, some), omega (arith, count, few), split_tokens n tokens later)
