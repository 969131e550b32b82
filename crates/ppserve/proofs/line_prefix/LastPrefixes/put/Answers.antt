use Rattle.std.proofs.Common.{ℕ, List, ◌++◌, ◌∙◌, codes, decimal, take}
use Rattle.ppserve.proofs.BufferPrefix.{four_joined, places_joined}
use Rattle.ppserve.proofs.line_prefix.LastPrefixes.put.Goals as goal

pub returns-clause-text : goal.returns-clause-text
returns-clause-text c =
    let file_line : ℕ → ℕ → List ℕ = λ file line. decimal file ++ codes ":" ++ decimal line ++ codes ":" in
    rw (
      c.put_byte.ensures.text,
      c.put_byte-end-3.ensures.text,
      c.put_byte-end-2.ensures.text,
      c.put_byte-end.ensures.text,
      c.put_places-end.ensures.text,
      c.put_prefix-end.ensures.text,
      c.letter.ensures,
      c.space_sign.ensures,
    )
    (four_joined _ _ _ _ _ ∙ places_joined (take c.args.end c.args.bytes.now ++ codes "tok") (file_line c.args.fields.at.file c.args.fields.at.line) (decimal c.args.fields.at.col) (file_line c.args.fields.used.file c.args.fields.used.line) (decimal c.args.fields.used.col) _)
